-- What a line costs at most, in gets and puts: the nodes of HAMTs on the way of its path, in the value before it and in the changed
-- value, and those of the part that is told or brought.
use Rattle.std.specs.Prelude.{ℕ, ◌+◌, Bool, List, [], ◌∷◌, length, is_some, Option, Some, None, Result, Ok, Err, option_map, option_and_then, if◌then◌else◌}
use Rattle.std.specs.List.{list_any}
use Rattle.std.specs.Option.{option_map_or}
use Rattle.ild_data.specs.ByteOrder.{in_byte_order}
use Rattle.ild_data.specs.Data.{Data}
use Rattle.ild_data.specs.Key.{same_text}
use Rattle.ild_data.specs.Trie.{trie}
use Rattle.ild_data.specs.TrieShape.{trie_levels}
use Rattle.ild_data.specs.declared.hamt_shape.HamtShape.{HamtShape}
use Rattle.ild_hamt_trie.specs.Way.{way as nodes_on_way}
use Rattle.ild_schema.specs.declared.def.TypeDef.{TypeDef}
use Rattle.ild_schema.specs.declared.def.TypeDef.TheVariants as T
use Rattle.ild_schema.specs.declared.def.MapForm.TheVariants as M
use Rattle.ild_schema.specs.declared.number.Slot.{Slot}
use Rattle.ild_schema.specs.declared.row.Row.{Row}
use Rattle.ild_schema.specs.Slots.{form_of}
use Rattle.ild_schema.specs.Value.{Value, Pairs, map}
use Rattle.ild_script.specs.declared.reply.No.{No}
use Rattle.ild_script.specs.declared.reply.No.TheVariants as N
use Rattle.ild_typed.specs.At.{InSlot, at, way}
use Rattle.ild_typed.specs.Blocks.{nodes}
use Rattle.ild_typed.specs.Hamt.{whole}
use Rattle.ild_typed.specs.Represented.{represented_pairs}
use Rattle.ild_value_meaning.specs.MeantRead.{meant}
use Rattle.ild_path_edits.specs.Edit.{Edit, set_at, ins_at, del_at, new_slot}
use Rattle.ild_script_meaning.specs.Ask.{Tell, shown_form, representation, presence, count, list_of_parts}

-- the nodes beneath the root of a HAMT that lie on the hash of a key, whether it is there or not; without a trie there are none
abbrev pub on_way : (List ℕ → List ℕ) → HamtShape → List ℕ → List (List ℕ × Data) → ℕ
on_way h p k es = if is_some (trie h p es 0) then length (nodes_on_way h p k (trie_levels p) 0 (in_byte_order es)) else 0

abbrev pub met_in_map : (List ℕ → List ℕ) → List Row → Option TypeDef → Pairs → List ℕ → ℕ
met_in_map h rows (Some (T.Map key key_at value place (M.Hamt p))) ps k = option_map_or (on_way h p k) (represented_pairs (whole h) rows value ps) 0
met_in_map h rows d ps k = 0

abbrev pub met_in : (List ℕ → List ℕ) → List Row → Option TypeDef → Value → List ℕ → ℕ
met_in h rows d (map ps) k = met_in_map h rows d ps k
met_in h rows d v k = 0

-- the blocks on the way of a path, the root's too
abbrev pub blocks_met : (List ℕ → List ℕ) → List Row → InSlot → List (List ℕ) → ℕ
blocks_met h rows p path = way rows (λ q k. met_in h rows (form_of rows q.0) q.1 k) p path

abbrev pub nodes_in : (List ℕ → List ℕ) → List Row → Option InSlot → ℕ
nodes_in h rows o = option_map_or (λ q. length (nodes h rows q.0 q.1)) o 0

-- ---- reads

abbrev pub told_nodes : (List ℕ → List ℕ) → List Row → Tell → Option InSlot → ℕ
told_nodes h rows presence o = 0
told_nodes h rows representation o = 0
told_nodes h rows shown_form o = nodes_in h rows o
told_nodes h rows count o = nodes_in h rows o
told_nodes h rows list_of_parts o = nodes_in h rows o

abbrev pub tell_gets : (List ℕ → List ℕ) → List Row → Tell → InSlot → List (List ℕ) → ℕ
tell_gets h rows t p path = blocks_met h rows p path + told_nodes h rows t (at rows p path)

-- ---- edits

-- the part that an edit brings, in its slot
abbrev pub meant_in : List Row → (ℕ → List ℕ → Bool) → (List ℕ → Option Data) → Option Slot → List ℕ → Option InSlot
meant_in rows is_key read o json = option_and_then (λ slot. option_map (λ w. (slot, w)) (option_and_then (meant rows is_key slot) (read json))) o

abbrev pub brought : List Row → (ℕ → List ℕ → Bool) → (List ℕ → Option Data) → InSlot → Edit (List ℕ) → Option InSlot
brought rows is_key read p (set_at path json) = meant_in rows is_key read (new_slot rows p (set_at path json)) json
brought rows is_key read p (ins_at path json) = meant_in rows is_key read (new_slot rows p (ins_at path json)) json
brought rows is_key read p (del_at path) = None

-- the blocks on the way in the changed value, and the nodes of the part that was brought
abbrev pub changed_met : (List ℕ → List ℕ) → List Row → Slot → List (List ℕ) → ℕ → Result Value No → ℕ
changed_met h rows slot path new (Ok c) = blocks_met h rows (slot, c) path + new
changed_met h rows slot path new (Err refusal) = 0

-- How many puts an edit makes outside a batch, where all are those along the way and new are those of the part that was brought: all
-- also where some block is too long, new where there is no trie, and none where it is refused before that.
abbrev pub judged_puts : ℕ → ℕ → Result Value No → ℕ
judged_puts all new (Ok c) = all
judged_puts all new (Err N.Size) = all
judged_puts all new (Err N.Exhausted) = new
judged_puts all new (Err refusal) = 0

-- the blocks that stand in a list, each once
abbrev pub different : List (List ℕ) → List (List ℕ)
different [] = []
different (b ∷ bs) = if list_any (same_text b) bs then different bs else b ∷ different bs
