-- The laws of edits beneath HAMTs.
use Rattle.std.specs.Prelude.{◌≡◌, ℕ, Bool, true, false, is_some, IsUtf8, List, [], ◌∷◌, ◌++◌, Some, Result, Ok, Err, if◌then◌else◌}
use Rattle.std.specs.FinMap.{put as insert}
use Rattle.ild_data.specs.ByteOrder.{bytewise, without as remove}
use Rattle.ild_data.specs.Data.{Data}
use Rattle.ild_data.specs.Key.{value_at}
use Rattle.ild_data.specs.Trie.{node_of}
use Rattle.ild_data.specs.TrieShape.{trie_levels}
use Rattle.ild_edges.specs.Store.{Keeps, block_at}
use Rattle.ild_schema.specs.declared.number.Slot.{Slot}
use Rattle.ild_schema.specs.declared.row.Row.{Row}
use Rattle.ild_schema.specs.Value.{Value, Pairs, map, pairs_list}
use Rattle.ild_script.specs.declared.reply.No.{No}
use Rattle.ild_script.specs.declared.reply.No.TheVariants as N
use Rattle.ild_typed.specs.At.{InSlot, seen, at, met}
use Rattle.ild_typed.specs.Fits.{Fits}
use Rattle.ild_typed.specs.Hamt.{root_map, whole}
use Rattle.ild_typed.specs.OfType.{OfType, TestsKeys}
use Rattle.ild_typed.specs.Represented.{represented}
use Rattle.ild_typed.specs.Schema.{IsSchema}
use Rattle.ild_path_edits.specs.Edit.{Edit, path_of, change, set_at, ins_at, del_at}
use Rattle.ild_path_edits.specs.Table.{key_fits}
use Rattle.ild_open_held.specs.Held.{IsHeld}
use Rattle.ild_bulk_walker.specs.Trees.{HoldsBelow}
use Rattle.ild_path_within.specs.Within.{with_part, with_result, moved}
use Rattle.ild_typed_fronts.specs.Front.{in_one_block, is_root}
use Rattle.ild_path_held.specs.Hamts.{IsTrieIn}
use Rattle.ild_path_held.specs.HeldEdits.{room_at}
use Rattle.ild_path_entered.specs.Entered.{IsEntered, PassesHamts, path_through, with_entry, without_entry}

-- ---- edits

-- what an edit makes of the value at a key of a HAMT becomes the entry there
abbrev pub with_value : List Row → InSlot → List (List ℕ) → List ℕ → Pairs → Result Value No → Result Value No
with_value rows p path k ps (Ok m) = Ok (with_part rows p path (with_entry k m ps))
with_value rows p path k ps (Err refusal) = Err refusal

abbrev pub BelowEntries : Type 0
BelowEntries =
    (rows : List Row) (is_key : ℕ → List ℕ → Bool) (p : InSlot) (front : List (List ℕ)) (slot elem : Slot) (ps : Pairs) (k : List ℕ) (w : Value) (e : Edit Value) (s : List ℕ) (ss : List (List ℕ))
    → IsEntered rows p front slot elem ps → value_at k (pairs_list ps) ≡ Some w → path_of e ≡ s ∷ ss
    → change rows is_key p (moved (front ++ (k ∷ path_of e)) e) ≡ with_value rows p front k ps (change rows is_key (elem, w) e)

-- an edit at a key itself, where that is a text of its type or there
abbrev pub fits_key : (ℕ → List ℕ → Bool) → List Row → Slot → Pairs → List ℕ → Bool
fits_key is_key rows slot ps k = key_fits is_key (seen rows (slot, map ps)) k

abbrev pub AtEntries : Type 0
AtEntries =
    (rows : List Row) (is_key : ℕ → List ℕ → Bool) (p : InSlot) (front : List (List ℕ)) (slot elem : Slot) (ps : Pairs) (k : List ℕ) → IsEntered rows p front slot elem ps
    → ((w : Value) → change rows is_key p (set_at (front ++ (k ∷ [])) w) ≡ (if fits_key is_key rows slot ps k then Ok (with_part rows p front (with_entry k w ps)) else Err N.Mismatch))
    × ((w : Value) → change rows is_key p (ins_at (front ++ (k ∷ [])) w)
    ≡ (if is_some (value_at k (pairs_list ps)) then Err N.Path else if fits_key is_key rows slot ps k then Ok (with_part rows p front (with_entry k w ps)) else Err N.Mismatch))
    × (change rows is_key p (del_at (front ++ (k ∷ []))) ≡ (if is_some (value_at k (pairs_list ps)) then Ok (with_part rows p front (without_entry k ps)) else Err N.Path))

-- beneath HAMTs one in the value of another's entry: the edit makes of the whole what it makes of the value at the last key, set there
abbrev pub ThroughEntries : Type 0
ThroughEntries =
    (rows : List Row) (is_key : ℕ → List ℕ → Bool) (p q : InSlot) (gs : List (List (List ℕ) × List ℕ)) (e : Edit Value) (s : List ℕ) (ss : List (List ℕ))
    → PassesHamts rows p gs q → path_of e ≡ s ∷ ss → change rows is_key p (moved (path_through gs ++ path_of e) e) ≡ with_result rows p (path_through gs) (change rows is_key q e)

-- ---- what is there afterwards

-- what was set at a path is there, and the room that is left there is as before
abbrev pub SetsStand : Type 0
SetsStand =
    (rows : List Row) (is_key : ℕ → List ℕ → Bool) → IsSchema rows → TestsKeys rows is_key
    → (p q : InSlot) (path : List (List ℕ)) (m : Value) → OfType rows p.0 p.1 → at rows p path ≡ Some q → OfType rows q.0 m
    → (at rows (p.0, with_part rows p path m) path ≡ Some (q.0, m)) × ((room : ℕ) → room_at rows room (p.0, with_part rows p path m) path ≡ room_at rows room p path)

-- so where the whole has data and fits in a room, what was set has data too and fits in what is left there
abbrev pub SetsHaveData : Type 0
SetsHaveData =
    (h : List ℕ → List ℕ) (rows : List Row) (is_key : ℕ → List ℕ → Bool) → IsSchema rows → TestsKeys rows is_key → (room : ℕ) (p q : InSlot) (path : List (List ℕ)) (m : Value) (u : Data)
    → OfType rows p.0 p.1 → at rows p path ≡ Some q → OfType rows q.0 m → represented (whole h) rows p.0 (with_part rows p path m) ≡ Some u → Fits rows room p.0 (with_part rows p path m)
    → (d : Data) × (represented (whole h) rows q.0 m ≡ Some d) × Fits rows (room_at rows room p path) q.0 m

-- no nodes are met on the way of a path in one block, where only HAMTs have some
abbrev pub NoneMet : Type 0
NoneMet =
    (rows : List Row) (count : InSlot → List ℕ → ℕ) → ((q : InSlot) (k : List ℕ) → is_root rows q ≡ false → count q k ≡ 0)
    → (p : InSlot) (path : List (List ℕ)) → in_one_block rows p path ≡ true → met rows count p path ≡ 0

-- ---- what is held

-- A value with an entry of a HAMT in it put, or gone, is held where the new value of the entry is, and the nodes of the new trie.
abbrev pub EntriesArePut : Type 0
EntriesArePut =
    (h : List ℕ → List ℕ) (rows : List Row) (is_key : ℕ → List ℕ → Bool) → IsSchema rows → TestsKeys rows is_key → (was now : List (List ℕ)) → Keeps was now
    → (room less : ℕ) (p : InSlot) (front : List (List ℕ)) (slot elem : Slot) (ps : Pairs) (t t' d u node : Data) (es : List (List ℕ × Data)) (k : List ℕ) (w : Value)
    → IsHeld (block_at was) h rows room p.0 t p.1 → (entered : IsEntered rows p front slot elem ps)
    → IsTrieIn h entered.hamt.3 rows was elem ps t' es → IsUtf8 k → fits_key is_key rows slot ps k ≡ true → IsHeld (block_at now) h rows less elem d w
    → Fits rows room p.0 (with_part rows p front (with_entry k w ps)) → represented (whole h) rows p.0 (with_part rows p front (with_entry k w ps)) ≡ Some u
    → node_of h entered.hamt.3 (trie_levels entered.hamt.3) 0 (insert bytewise k d es) ≡ Some node → HoldsBelow h entered.hamt.3 now (trie_levels entered.hamt.3) 0 (insert bytewise k d es)
    → IsHeld (block_at now) h rows room p.0 u (with_part rows p front (with_entry k w ps))
    × IsHeld (block_at now) h rows (room_at rows room p front) slot (root_map entered.hamt.3 node) (with_entry k w ps)

abbrev pub EntriesAreCut : Type 0
EntriesAreCut =
    (h : List ℕ → List ℕ) (rows : List Row) (is_key : ℕ → List ℕ → Bool) → IsSchema rows → TestsKeys rows is_key → (was now : List (List ℕ)) → Keeps was now
    → (room : ℕ) (p : InSlot) (front : List (List ℕ)) (slot elem : Slot) (ps : Pairs) (t t' u node : Data) (es : List (List ℕ × Data)) (k : List ℕ)
    → IsHeld (block_at was) h rows room p.0 t p.1 → (entered : IsEntered rows p front slot elem ps) → IsTrieIn h entered.hamt.3 rows was elem ps t' es
    → Fits rows room p.0 (with_part rows p front (without_entry k ps))
    → represented (whole h) rows p.0 (with_part rows p front (without_entry k ps)) ≡ Some u → is_some (value_at k (pairs_list ps)) ≡ true
    → node_of h entered.hamt.3 (trie_levels entered.hamt.3) 0 (remove k es) ≡ Some node → HoldsBelow h entered.hamt.3 now (trie_levels entered.hamt.3) 0 (remove k es)
    → IsHeld (block_at now) h rows room p.0 u (with_part rows p front (without_entry k ps))
    × IsHeld (block_at now) h rows (room_at rows room p front) slot (root_map entered.hamt.3 node) (without_entry k ps)
