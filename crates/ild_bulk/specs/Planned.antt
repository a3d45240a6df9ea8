-- The blocks of a HAMT in an order in which they can be put.
use Rattle.std.specs.Prelude.{◌≡◌, ℕ, zero, suc, ◌+◌, ◌^◌, nat_le, List, [], ◌∷◌, ◌++◌, length, Option, Some, None, option_map, Result, Ok, Err}
use Rattle.std.specs.List.{flat_map, range_with_len}
use Rattle.ild_data.specs.Data.{Data}
use Rattle.ild_data.specs.Spell.{spell}
use Rattle.ild_data.specs.declared.hamt_shape.HamtShape.{HamtShape}
use Rattle.ild_data.specs.Trie.{TrieSlot, part, at_depth, node_of, slot_of, slots_at}
use Rattle.ild_data.specs.TrieBlocks.{block_of, none_or}
use Rattle.ild_node.specs.Drafts.{HasWritten}
use Rattle.ild_node.specs.NewSlots.{slot_seen}
use Rattle.ild_node.specs.declared.draft.Draft.{Draft}
use Rattle.ild_node.specs.declared.hold.NewHold.{NewHold}
use Rattle.ild_bulk.specs.declared.fault.PlanFault.{PlanFault}
use Rattle.ild_bulk.specs.declared.fault.PlanFault.TheVariants.{Exhausted, Memory}

-- the blocks of a slot's node: first those beneath it, then its own
abbrev pub slot_plan : ℕ → (List (List ℕ × Data) → Option Data) → (List (List ℕ × Data) → List (List ℕ)) → List (List ℕ × Data) → List (List ℕ)
slot_plan most below beneath es = none_or (nat_le (length es) most) (λ fs. beneath fs ++ block_of (below fs)) es

-- the blocks beneath the node of entries, each behind those beneath it
unfoldable pub planned : (List ℕ → List ℕ) → HamtShape → ℕ → ℕ → List (List ℕ × Data) → List (List ℕ)
planned h p zero depth es = []
planned h p (suc left) depth es = flat_map
    (λ i. slot_plan p.bucket (node_of h p left (depth + 1)) (planned h p left (depth + 1)) (part (at_depth h p depth) es i))
    (range_with_len 0 (2 ^ p.width))

-- the slots of the node of entries at a depth, where so many levels are left
abbrev pub slots_left : (List ℕ → List ℕ) → HamtShape → ℕ → ℕ → List (List ℕ × Data) → Option (List TrieSlot)
slots_left h p zero depth es = None
slots_left h p (suc left) depth es = slots_at h p left depth es

-- what planning a node gives: its block, with the blocks beneath it behind those that were there; or that the levels are used up
abbrev pub PlansNode : (List ℕ → List ℕ) → HamtShape → ℕ → ℕ → List (List ℕ × Data) → Result (List ℕ) PlanFault → List (List ℕ) → List (List ℕ) → Type 0
PlansNode h p left depth es (Ok block) old new = (Some block ≡ option_map spell (node_of h p left depth es)) × (new ≡ old ++ planned h p left depth es)
PlansNode h p left depth es (Err Exhausted) old new = node_of h p left depth es ≡ None
PlansNode h p left depth es (Err Memory) old new = Unit {0}

-- what planning a slot gives: the slot, with the blocks of its node behind those that were there; or that the levels are used up
abbrev pub PlansSlot : (List ℕ → List ℕ) → HamtShape → ℕ → ℕ → List (List ℕ × Data) → Result (Option NewHold) PlanFault → List (List ℕ) → List (List ℕ) → Type 0
PlansSlot h p left depth es (Ok o) old new =
    (Some (slot_seen o) ≡ slot_of p.bucket (node_of h p left depth) es) × (new ≡ old ++ slot_plan p.bucket (node_of h p left depth) (planned h p left depth) es)
PlansSlot h p left depth es (Err Exhausted) old new = slot_of p.bucket (node_of h p left depth) es ≡ None
PlansSlot h p left depth es (Err Memory) old new = Unit {0}

-- what planning a slot into a draft gives: the slot behind those that were written, with the blocks of its node behind those that were there
abbrev pub PlansInto : (List ℕ → List ℕ) → HamtShape → ℕ → ℕ → List (List ℕ × Data) → Result (Unit {0}) PlanFault → List TrieSlot → Draft → List (List ℕ) → List (List ℕ) → Type 0
PlansInto h p left depth es (Ok u) slots d old new =
    (s : TrieSlot) × (Some s ≡ slot_of p.bucket (node_of h p left depth) es) × (new ≡ old ++ slot_plan p.bucket (node_of h p left depth) (planned h p left depth) es) × HasWritten p d (slots ++ s ∷ [])
PlansInto h p left depth es (Err Exhausted) slots d old new = slot_of p.bucket (node_of h p left depth) es ≡ None
PlansInto h p left depth es (Err Memory) slots d old new = Unit {0}
