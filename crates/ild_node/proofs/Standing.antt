-- The slots of a node that was read are sound.
use Rattle.std.proofs.Common.{ℕ, zero, suc, ◌≤◌, List, [], ◌∷◌, map, set, flat_map, arith}
use Rattle.std.specs.List.{AllByRecursion}
use Rattle.ild_data.proofs.AllOf.{all_first, all_second}
use Rattle.ild_data.specs.Data.{Data, items_of, items_depth}
use Rattle.ild_data.specs.declared.hamt_shape.HamtShape.{HamtShape}
use Rattle.ild_data.specs.Limits.{IsWithin}
use Rattle.ild_data.specs.Tree.{AreTrees}
use Rattle.ild_data.specs.Trie.{TrieSlot, empty, bucket, child, entry_data, elements_of, node_data}
use Rattle.ild_typed.specs.Nested.{TreeIn}
use Rattle.ild_typed.specs.Node.{IsSlot}
use Rattle.ild_node_slots.specs.Form.{AreSlots, bucket_data}
use Rattle.ild_node_slots.specs.Views.{HasSlots}
use Rattle.ild_node_slots.specs.declared.view.NodeView.{NodeView}
use Rattle.ild_node.specs.Rows.{AreShallow}
use Rattle.ild_node.specs.Written.{IsSound}

items_in : (n : ℕ) (ds : List Data) → AreTrees (items_of ds) → items_depth (items_of ds) ≤ n → AllByRecursion (TreeIn n) ds
items_in n [] trees le = tt
items_in n (d ∷ ds) trees le = (record { tree = trees.0; nested = omega arith }, items_in n ds trees.1 (omega arith))

-- the elements leave room for the node
pub elements_in : (slots : List TrieSlot) → IsWithin (node_data slots) → AllByRecursion (TreeIn 94) (flat_map elements_of slots)
elements_in slots w = let le = w.nested in items_in 94 (flat_map elements_of slots) w.tree.1.0 (omega arith)

entries_in : (es : List (List ℕ × Data)) → AllByRecursion (TreeIn 93) (map entry_data es) → AreShallow es
entries_in [] all = tt
entries_in (e ∷ es) all = (let le = all.0.nested in record { tree = all.0.tree.1.0; nested = omega arith }, entries_in es all.1)

pub bucket_in : (es : List (List ℕ × Data)) → TreeIn 94 (bucket_data es) → AreShallow es
bucket_in es t = let le = t.nested in entries_in es (items_in 93 (map entry_data es) t.tree (omega arith))

slot_sound : (p : HamtShape) (s : TrieSlot) → IsSlot p s → AllByRecursion (TreeIn 94) (elements_of s) → IsSound p s
slot_sound p empty form all = record { form = tt; values = tt }
slot_sound p (bucket es) form all = record { form = form; values = bucket_in es all.0 }
slot_sound p (child id) form all = record { form = form; values = tt }

each_sound : (p : HamtShape) (slots : List TrieSlot) → AreSlots p slots → AllByRecursion (TreeIn 94) (flat_map elements_of slots) → AllByRecursion (IsSound p) slots
each_sound p [] forms all = tt
each_sound p (s ∷ slots) forms all =
    (slot_sound p s forms.0 (all_first (TreeIn 94) (elements_of s) (flat_map elements_of slots) all), each_sound p slots forms.1 (all_second (TreeIn 94) (elements_of s) (flat_map elements_of slots) all))

pub slots-sound : (p : HamtShape) (v : NodeView) (slots : List TrieSlot) → HasSlots p v slots → AllByRecursion (IsSound p) slots
slots-sound p v slots has = each_sound p slots has.form.each (elements_in slots has.stands.within)

-- another one in its place
pub all-set : {X : Type 0} (P : X → Type 0) (xs : List X) (i : ℕ) (x : X) → AllByRecursion P xs → P x → AllByRecursion P (set xs i x)
all-set P [] i x all is = tt
all-set P (y ∷ xs) zero x all is = (is, all.1)
all-set P (y ∷ xs) (suc i) x all is = (all.0, all-set P xs i x all.1 is)
