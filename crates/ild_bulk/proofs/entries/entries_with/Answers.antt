use Rattle.std.proofs.Common.{◌≡◌, List, arith, subst}
use Rattle.std.proofs.lemmas.List.{take_all}
use Rattle.ild_node.specs.Keyed.{keyed_seen, keyed_rows}
use Rattle.ild_node.specs.declared.keyed.Keyed.{Keyed}
use Rattle.ild_node.proofs.Writing.{all-at}
use Rattle.ild_bulk.specs.Keyed.{HasEntries}
use Rattle.ild_bulk.proofs.Marking.{keyed-next}
use Rattle.ild_bulk.proofs.entries.entries_with.Goals as goal

pub loop-keyed-preserved : goal.loop-keyed-preserved
loop-keyed-preserved c = λ h all.
    keyed-next h c.args.rows.now c.loop-keyed.keyed-index c.keyed-item.result _ (omega arith) c.keyed-item.is
    (c.in_ok-add.ensures h (keyed_rows _) (c.loop-keyed.invariant h all) (all-at (λ (k : Keyed). k.hash ≡ h (keyed_seen k).0) c.args.rows.now c.loop-keyed.keyed-index c.keyed-item.result all (omega arith) c.keyed-item.is))

pub returns : goal.returns
returns c = λ h all. subst (λ (ks : List Keyed). HasEntries h (keyed_rows ks) c.loop-keyed.entries) (take_all c.loop-keyed.keyed-index c.args.rows.now (omega arith)) (c.loop-keyed.invariant h all)
