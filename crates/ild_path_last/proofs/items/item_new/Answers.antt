use Rattle.std.proofs.Common.{ap}
use Rattle.std.proofs.lemmas.Option.{same_Some, none-some}
use Rattle.ild_path_last.proofs.items.item_new.Goals as goal
use Rattle.ild_path_last.specs.declared.change.LastChange.TheVariants as C

pub returns-in-Some : goal.returns-in-Some
returns-in-Some c = λ rows ds i stands new. ap C.InsertItem (same_Some c.in-Some.i i (c.in-Some.ensures rows ds i stands new))

pub returns-in-None : goal.returns-in-None
returns-in-None c = λ rows ds i stands new. absurd (none-some i (c.in-None.ensures rows ds i stands new))
