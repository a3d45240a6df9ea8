use Rattle.std.proofs.Common.{◌+◌, ℕ, List, arith, refl, rules, subst, sym, take}
use Rattle.ild_data.specs.Data.{Data}
use Rattle.ild_node.specs.Hashed.{AreHashed}
use Rattle.ild_node.specs.declared.hashed.HashedEntry.{HashedEntry}
use Rattle.ild_bulk.proofs.Marking.{pieces-none, pieces-more, all-taken}
use Rattle.ild_bulk.proofs.entries.pieces.Goals as goal

pub loop-marked-init : goal.loop-marked-init
loop-marked-init g c = λ h es are. pieces-none h c.reserve.new.self.items (search rules)

pub returns : goal.returns
returns g c = λ h es are. subst (λ (fs : List (List ℕ × Data)). AreHashed h fs c.loop-marked.pieces.items) (all-taken g.M.Marked.mark_seen h c.args.bytes.now es c.args.marks.now c.loop-marked.marked-index are (omega arith)) (c.loop-marked.invariant h es are)

pub loop-marked-preserved : goal.loop-marked-preserved
loop-marked-preserved g c = λ h es are.
    subst (λ (ks : List HashedEntry). AreHashed h (take (c.loop-marked.marked-index + 1) es) ks) (sym c.in_ok-push.ensures.items)
    (pieces-more g.M.Marked.mark_seen h c.args.bytes.now es c.args.marks.now c.loop-marked.marked-index c.marked-item.result c.mark-mark.result.now c.loop-marked.pieces.items _ are (c.loop-marked.invariant h es are) (omega arith) c.marked-item.is c.mark-mark.ensures (refl, c.entry_at.ensures))
