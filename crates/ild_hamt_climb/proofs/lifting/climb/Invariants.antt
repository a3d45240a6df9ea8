use Rattle.std.proofs.Common.{◌≡◌, ℕ, List, length}
use Rattle.std.specs.Prelude.{All}
use Rattle.ild_data.specs.Data.{Data}
use Rattle.ild_node.specs.NewSlots.{IsFilledSlot, slot_seen}
use Rattle.ild_hamt_climb.specs.NodeBytes.{IsNodeBytes}
use Rattle.ild_hamt_climb.specs.Rewriting.{DiffersAt, ClimbState}
use Rattle.ild_hamt_climb.proofs.Planning.{ClimbedOver}
use Rattle.ild_hamt_climb.proofs.lifting.climb.Given as goal

abbrev pub invariant-loop-block : goal.invariant-loop-block
invariant-loop-block l =
    All (IsNodeBytes l.shape) l.blocks.items ×
    IsFilledSlot l.shape l.slot ×
    ((h : List ℕ → List ℕ) (k : List ℕ) (es fs : List (List ℕ × Data)) → DiffersAt k es fs → l.hash ≡ h k
    → ClimbState h l.shape k es fs l.initial.blocks.items l.initial.depth (slot_seen l.initial.slot) l.initial.plan.items
    → ClimbState h l.shape k es fs l.blocks.items l.depth (slot_seen l.slot) l.plan.items) ×
    ClimbedOver l.shape l.initial.blocks.items (slot_seen l.initial.slot) l.initial.plan.items l.blocks.items (slot_seen l.slot) l.plan.items

abbrev pub decreases-loop-block : goal.decreases-loop-block
decreases-loop-block l = length l.blocks.items
