use Rattle.std.proofs.lemmas.Option.{same_Some, none-some}
use Rattle.ild_data.specs.Data.{link}
use Rattle.ild_data.specs.CidView.{cid_bytes}
use Rattle.ild_data.specs.Spell.{cid_of}
use Rattle.ild_named.proofs.parts.linked.Goals as goal

pub returns-in-Some-clause-only : goal.returns-in-Some-clause-only
returns-in-Some-clause-only c = λ id wide stands. c.block.ensures.only id wide (same_Some (cid_bytes c.in-Some.cid) (cid_of id) (c.in-Some.ensures (link (cid_of id)) stands))

pub returns-in-None-clause-only : goal.returns-in-None-clause-only
returns-in-None-clause-only c = λ id wide stands. absurd (none-some (cid_of id) (c.in-None.ensures (link (cid_of id)) stands))
