-- The laws of what a store holds of parts, and of what edits make.
use Rattle.std.specs.Prelude.{◌≡◌, ℕ, ◌+◌, ◌≤◌, Bool, true, IsUtf8, List, Option, Some, Ok}
use Rattle.std.specs.FinMap.{put as insert}
use Rattle.std.specs.List.{AllByRecursion}
use Rattle.ild_data.specs.Among.{AreAmong}
use Rattle.ild_data.specs.ByteOrder.{bytewise, without as remove}
use Rattle.ild_data.specs.Data.{Data}
use Rattle.ild_data.specs.Key.{put, without}
use Rattle.ild_data.specs.Limits.{deepest}
use Rattle.ild_data.specs.Trie.{node_of}
use Rattle.ild_data.specs.TrieShape.{trie_levels}
use Rattle.ild_edges.specs.Store.{Keeps, block_at}
use Rattle.ild_schema.specs.declared.number.Slot.{Slot}
use Rattle.ild_schema.specs.declared.row.Row.{Row}
use Rattle.ild_schema.specs.Value.{Value, Pairs, map, pairs_of, pairs_list}
use Rattle.ild_typed.specs.At.{InSlot, at}
use Rattle.ild_typed.specs.Fits.{Fits}
use Rattle.ild_typed.specs.Hamt.{root_map, whole}
use Rattle.ild_typed.specs.OfType.{OfType, TestsKeys}
use Rattle.ild_typed.specs.Represented.{represented}
use Rattle.ild_typed.specs.Schema.{IsSchema}
pub use Rattle.ild_path_edits.specs.Along.{room_at}
use Rattle.ild_path_edits.specs.Edit.{Edit, HasTextPath, path_of, change}
use Rattle.ild_path_edits.specs.EditLaws.{Brings}
use Rattle.ild_open_held.specs.Held.{IsHeld, IsHeldBlock}
use Rattle.ild_bulk_walker.specs.Trees.{HoldsBelow}
use Rattle.ild_path_within.specs.Within.{with_part}
use Rattle.ild_typed_fronts.specs.Front.{in_one_block}
use Rattle.ild_data.specs.TrieBlocks.{nodes_beneath}
use Rattle.ild_data.specs.declared.hamt_shape.HamtShape.{HamtShape}
use Rattle.ild_path_nodes.specs.NodeLaws.{IsHamt}
use Rattle.ild_typed.specs.Blocks.{nodes}
use Rattle.ild_path_held.specs.Hamts.{IsTrieIn}

-- a store that holds a value holds its parts, through HAMTs too, in the room that is left there
abbrev pub HeldParts : Type 0
HeldParts =
    (block : List ℕ → Option (List ℕ)) (h : List ℕ → List ℕ) (rows : List Row) (is_key : ℕ → List ℕ → Bool)
    → IsSchema rows → TestsKeys rows is_key → (room : ℕ) (p q : InSlot) (t : Data) (path : List (List ℕ))
    → IsHeld block h rows room p.0 t p.1 → at rows p path ≡ Some q → (d : Data) × IsHeld block h rows (room_at rows room p path) q.0 d q.1

-- what was held stays held
abbrev pub HeldStays : Type 0
HeldStays = (h : List ℕ → List ℕ) (rows : List Row) (was now : List (List ℕ)) (room : ℕ) (s : Slot) (t : Data) (v : Value)
    → Keeps was now → IsHeld (block_at was) h rows room s t v → IsHeld (block_at now) h rows room s t v

-- a value with another part of which all is held, where the path to it is in one block: where it fits and has data, it is held
abbrev pub HeldWholes : Type 0
HeldWholes =
    (block : List ℕ → Option (List ℕ)) (h : List ℕ → List ℕ) (rows : List Row) (is_key : ℕ → List ℕ → Bool)
    → IsSchema rows → TestsKeys rows is_key → (room less : ℕ) (p q : InSlot) (t d u : Data) (path : List (List ℕ)) (m : Value)
    → IsHeld block h rows room p.0 t p.1 → in_one_block rows p path ≡ true → at rows p path ≡ Some q → IsHeld block h rows less q.0 d m
    → Fits rows room p.0 (with_part rows p path m) → represented (whole h) rows p.0 (with_part rows p path m) ≡ Some u → IsHeld block h rows room p.0 u (with_part rows p path m)

-- and so is what an edit in one block makes, where the nodes of the part that it brings are held
abbrev pub HasNodes : (List ℕ → Option (List ℕ)) → (List ℕ → List ℕ) → List Row → Slot → Value → Type 0
HasNodes block h rows s w = AllByRecursion (IsHeldBlock block) (nodes h rows s w)

abbrev pub HeldEdits : Type 0
HeldEdits =
    (block : List ℕ → Option (List ℕ)) (h : List ℕ → List ℕ) (rows : List Row) (is_key : ℕ → List ℕ → Bool)
    → IsSchema rows → TestsKeys rows is_key → (room : ℕ) (p : InSlot) (t u : Data) (e : Edit Value) (c : Value)
    → HasTextPath e → Brings rows (OfType rows) p e → Brings rows (HasNodes block h rows) p e
    → IsHeld block h rows room p.0 t p.1 → in_one_block rows p (path_of e) ≡ true → change rows is_key p e ≡ Ok c
    → Fits rows room p.0 c → represented (whole h) rows p.0 c ≡ Some u → IsHeld block h rows room p.0 u c

-- ---- HAMTs

-- of a HAMT that is held, the trie is held
abbrev pub HamtsAreTries : Type 0
HamtsAreTries =
    (h : List ℕ → List ℕ) (rows : List Row) → IsSchema rows
    → (held : List (List ℕ)) (room less : ℕ) → room ≤ deepest → (s elem : Slot) (t : Data) (ps : Pairs) → (is : IsHamt rows s elem) → room ≡ less + 5
    → IsHeld (block_at held) h rows room s t (map ps) → (es : List (List ℕ × Data)) × IsTrieIn h is.3 rows held elem ps t es

-- and one whose entry at a key was put, or has gone, is held where the nodes of the new trie are
abbrev pub HamtsArePut : Type 0
HamtsArePut =
    (h : List ℕ → List ℕ) (rows : List Row) (was now : List (List ℕ)) → Keeps was now
    → (before room less : ℕ) (s elem : Slot) (t t' d node : Data) (ps : Pairs) (es : List (List ℕ × Data)) (k : List ℕ) (w : Value) → (is : IsHamt rows s elem)
    → IsHeld (block_at was) h rows before s t (map ps) → IsTrieIn h is.3 rows was elem ps t' es → IsUtf8 k
    → IsHeld (block_at now) h rows less elem d w → Fits rows room s (map (pairs_of (put k w (pairs_list ps))))
    → node_of h is.3 (trie_levels is.3) 0 (insert bytewise k d es) ≡ Some node → HoldsBelow h is.3 now (trie_levels is.3) 0 (insert bytewise k d es)
    → IsHeld (block_at now) h rows room s (root_map is.3 node) (map (pairs_of (put k w (pairs_list ps))))

abbrev pub HamtsAreCut : Type 0
HamtsAreCut =
    (h : List ℕ → List ℕ) (rows : List Row) (was now : List (List ℕ)) → Keeps was now
    → (before room : ℕ) (s elem : Slot) (t t' node : Data) (ps : Pairs) (es : List (List ℕ × Data)) (k : List ℕ) → (is : IsHamt rows s elem)
    → IsHeld (block_at was) h rows before s t (map ps) → IsTrieIn h is.3 rows was elem ps t' es → Fits rows room s (map (pairs_of (without k (pairs_list ps))))
    → node_of h is.3 (trie_levels is.3) 0 (remove k es) ≡ Some node → HoldsBelow h is.3 now (trie_levels is.3) 0 (remove k es)
    → IsHeld (block_at now) h rows room s (root_map is.3 node) (map (pairs_of (without k (pairs_list ps))))

-- Where a HAMT with an entry put has data, the new entries have a trie: its root node is the data's, and its other nodes are among the
-- value's. So it is where an entry has gone.
pub record HasTrie (h : List ℕ → List ℕ) (p : HamtShape) (rows : List Row) (s : Slot) (v : Value) (x : Data) (es : List (List ℕ × Data)) : Type 0 where
  pub node : Data
  pub is_node : node_of h p (trie_levels p) 0 es ≡ Some node
  pub root : x ≡ root_map p node
  pub among : AreAmong (nodes_beneath h p (trie_levels p) 0 es) (nodes h rows s v)

abbrev pub HamtsHaveTries : Type 0
HamtsHaveTries =
    (h : List ℕ → List ℕ) (rows : List Row) (held : List (List ℕ)) (s elem : Slot) (t x : Data) (ps : Pairs) (es : List (List ℕ × Data)) (k : List ℕ)
    → (is : IsHamt rows s elem) → IsTrieIn h is.3 rows held elem ps t es
    → ((w : Value) (d : Data) → represented (whole h) rows elem w ≡ Some d → represented (whole h) rows s (map (pairs_of (put k w (pairs_list ps)))) ≡ Some x
    → HasTrie h is.3 rows s (map (pairs_of (put k w (pairs_list ps)))) x (insert bytewise k d es))
    × (represented (whole h) rows s (map (pairs_of (without k (pairs_list ps)))) ≡ Some x → HasTrie h is.3 rows s (map (pairs_of (without k (pairs_list ps)))) x (remove k es))
