use Rattle.std.proofs.Common.{refl}
use Rattle.std.proofs.lemmas.Bool.{both_ways}
use Rattle.ild_data.specs.Trie.{node_data}
use Rattle.ild_node_slots.proofs.Fits.{slots-same}
use Rattle.ild_typed.proofs.NodeRoots.{node-read}
use Rattle.ild_node_slots.proofs.node.node_of.Goals as goal

pub returns-in-Some-clause-found : goal.returns-in-Some-clause-found
returns-in-Some-clause-found c = λ t h. let s = c.in-Some.ensures.view t h in (s.slots, s.is, s.has)

pub returns-in-Some-clause-only : goal.returns-in-Some-clause-only
returns-in-Some-clause-only c = λ slots h form. let s = c.in-Some.ensures.view (node_data slots) h in (refl, slots-same c.args.shape c.in-Some.view s.slots slots s.has s.is form)

pub returns-in-None-clause-only : goal.returns-in-None-clause-only
returns-in-None-clause-only c = λ slots h form.
    absurd (both_ways _ (c.in-None.ensures.view (node_data slots) h) (node-read c.args.shape slots c.args.shape.wide form.many form.each))
