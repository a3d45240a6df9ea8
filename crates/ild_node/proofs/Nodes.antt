-- The node of sound slots is a tree that nests within the limits.
use Rattle.std.proofs.Common.{◌≡◌, ℕ, ◌^◌, List, [], ◌∷◌, length}
use Rattle.std.specs.Prelude.{Result, Ok, Err, OnOk}
use Rattle.std.specs.List.{AllByRecursion}
use Rattle.ild_data.specs.Data.{Data}
use Rattle.ild_data.specs.declared.hamt_shape.HamtShape.{HamtShape}
use Rattle.ild_data.specs.Bytes.{AreBytes}
use Rattle.ild_data.specs.Spell.{spell}
use Rattle.ild_data.specs.Trie.{TrieSlot, empty, bucket, child, node_data}
use Rattle.ild_typed.specs.Nested.{TreeIn}
use Rattle.ild_typed.proofs.TreeNodes.{SlotIn, node_in}
use Rattle.ild_typed.proofs.Treed.{EntryIn}
use Rattle.ild_typed.proofs.Utf8Texts.{link_fits}
use Rattle.ild_node_slots.specs.Form.{AreSlots, AreTexts}
use Rattle.ild_node.specs.Rows.{AreRows, deepest_value}
use Rattle.ild_node.specs.NewSlots.{IsFilled}
use Rattle.ild_node.specs.Written.{IsNodeBlock, IsSound}
use Rattle.ild_node.specs.declared.hold.NewHold.TheVariants as N

pub entries_in : (es : List (List ℕ × Data)) → AreTexts es → AllByRecursion (λ e. TreeIn deepest_value e.1) es → AllByRecursion (EntryIn deepest_value) es
entries_in [] texts values = tt
entries_in (e ∷ es) texts values = ((texts.0, values.0), entries_in es texts.1 values.1)

pub slot_in : (p : HamtShape) (s : TrieSlot) → IsSound p s → SlotIn deepest_value s
slot_in p empty sound = tt
slot_in p (bucket es) sound = entries_in es sound.form.3 sound.values
slot_in p (child id) sound = link_fits id sound.form.0 sound.form.1

slots_in : (p : HamtShape) (slots : List TrieSlot) → AllByRecursion (IsSound p) slots → AllByRecursion (SlotIn deepest_value) slots
slots_in p [] all = tt
slots_in p (s ∷ slots) all = (slot_in p s all.0, slots_in p slots all.1)

forms_of : (p : HamtShape) (slots : List TrieSlot) → AllByRecursion (IsSound p) slots → AreSlots p slots
forms_of p [] all = tt
forms_of p (s ∷ slots) all = (all.0.form, forms_of p slots all.1)

pub node-block : (p : HamtShape) (slots : List TrieSlot) (b : List ℕ) → length slots ≡ 2 ^ p.width → AllByRecursion (IsSound p) slots → b ≡ spell (node_data slots) → IsNodeBlock p slots b
node-block p slots b many all is = record {
  spelled = is;
  form = record { many = many; each = forms_of p slots all };
  tree = node_in deepest_value slots (slots_in p slots all);
}

pub empty-sound : (p : HamtShape) → IsSound p empty
empty-sound p = record { form = tt; values = tt }

pub bucket-on : {E : Type 0} (p : HamtShape) (r : Result (Unit {0}) E) (es : List (List ℕ × Data)) → AreRows es → IsFilled p (N.Bucket es) → OnOk r (IsSound p (bucket es))
bucket-on p (Ok x) es rows filled = record { form = (rows.0, filled.0, filled.1, rows.1); values = rows.2 }
bucket-on p (Err e) es rows filled = tt

pub child-sound : (p : HamtShape) (id : List ℕ) → length id ≡ 32 → AreBytes id → IsSound p (child id)
child-sound p id long all = record { form = (long, all); values = tt }
