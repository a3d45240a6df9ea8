use Rattle.std.proofs.Common.{ap, sym, ◌∙◌, Some}
use Rattle.std.specs.Prelude.{is_some}
use Rattle.std.proofs.lemmas.Bool.{false≢true}
use Rattle.ild_path_steps.proofs.Pairing.{pairs_in}
use Rattle.ild_path_steps.specs.declared.steps.PartSteps.TheVariants as P
use Rattle.ild_typed.specs.Strings.{listpairs}
use Rattle.ild_path_steps.proofs.pair.pair_steps.Goals as goal

pub returns-then-seat : goal.returns-then-seat
returns-then-seat c = λ rows es x stands there.
    let seat = c.key_seat-seat.ensures es (pairs_in es c.in-Some.items (c.in-Some.ensures rows (listpairs es) stands)) in
    ap (λ n. Some (P.Pair n)) seat.place_is

pub returns-else-seat : goal.returns-else-seat
returns-else-seat c = λ rows es x stands there.
    let seat = c.key_seat-seat.ensures es (pairs_in es c.in-Some.items (c.in-Some.ensures rows (listpairs es) stands)) in
    absurd (false≢true (sym c.if-seat.false ∙ seat.there_is ∙ ap is_some there))
