-- The nodes of HAMTs on the way of a path (IPLD HashMap, "HashMapNode").
use Rattle.std.specs.Prelude.{ℕ, cond, is_some, List, [], ◌∷◌, ◌++◌, Option, Some}
use Rattle.std.specs.Option.{option_map_or}
use Rattle.ild_data.specs.ByteOrder.{in_byte_order}
use Rattle.ild_data.specs.Data.{Data}
use Rattle.ild_data.specs.Trie.{trie}
use Rattle.ild_data.specs.TrieShape.{trie_levels}
use Rattle.ild_data.specs.declared.hamt_shape.HamtShape.{HamtShape}
use Rattle.ild_hamt_trie.specs.Way.{way}
use Rattle.ild_schema.specs.declared.def.MapForm.TheVariants as MF
use Rattle.ild_schema.specs.declared.def.TypeDef.{TypeDef}
use Rattle.ild_schema.specs.declared.def.TypeDef.TheVariants as D
use Rattle.ild_schema.specs.declared.row.Row.{Row}
use Rattle.ild_schema.specs.Slots.{form_of}
use Rattle.ild_schema.specs.Value.{Value, Pairs, map}
use Rattle.ild_typed.specs.At.{InSlot, seen}
use Rattle.ild_typed.specs.Hamt.{whole}
use Rattle.ild_typed.specs.Represented.{represented_pairs}
use Rattle.ild_typed.specs.Segment.{part}

-- of a HAMT of this shape and these entries, the nodes beneath its root on a key's way, whether the key is there or not; without a trie there are none
abbrev pub nodes_on : (List ℕ → List ℕ) → HamtShape → List ℕ → List (List ℕ × Data) → List (List ℕ)
nodes_on h p k es = cond (is_some (trie h p es 0)) (way h p k (trie_levels p) 0 (in_byte_order es)) []

abbrev pub nodes_in_map : (List ℕ → List ℕ) → List Row → Option TypeDef → Pairs → List ℕ → List (List ℕ)
nodes_in_map h rows (Some (D.Map key key_at value place (MF.Hamt p))) ps k = option_map_or (nodes_on h p k) (represented_pairs (whole h) rows value ps) []
nodes_in_map h rows d ps k = []

-- those of a value for a segment that is sought in it: a HAMT alone has any
abbrev pub nodes_for : (List ℕ → List ℕ) → List Row → Option TypeDef → Value → List ℕ → List (List ℕ)
nodes_for h rows d (map ps) k = nodes_in_map h rows d ps k
nodes_for h rows d v k = []

-- those on the way of a path, from the outermost HAMT inward, as far as the path leads
abbrev pub nodes_met : (List ℕ → List ℕ) → List Row → InSlot → List (List ℕ) → List (List ℕ)
nodes_met h rows p [] = []
nodes_met h rows p (s ∷ ss) = nodes_for h rows (form_of rows p.0) p.1 s ++ option_map_or (λ q. nodes_met h rows q ss) (part (seen rows p) s) []
