-- An edit at a key of a HAMT in the innermost block: what it makes of the innermost value.
use Rattle.std.proofs.Common.{◌≡◌, ℕ, Bool, true, false, List, [], ◌∷◌, ◌++◌, length, ◌+◌, ◌≤◌, Some, None, refl, sym, ap, ◌∙◌, subst}
use Rattle.std.specs.Prelude.{Result, Ok, Err, is_some, if◌then◌else◌}
use Rattle.std.specs.FinMap.{put as insert}
use Rattle.ild_cbor.specs.declared.node.Node.{Node}
use Rattle.ild_data.specs.ByteOrder.{bytewise, without as remove}
use Rattle.ild_data.specs.Data.{Data}
use Rattle.ild_data.specs.Key.{value_at}
use Rattle.ild_data.specs.Limits.{deepest}
use Rattle.ild_data.specs.TrieShape.{trie_levels}
use Rattle.ild_edges.specs.Store.{Moment, block_at}
use Rattle.ild_hamt_trie.specs.Way.{way}
use Rattle.ild_script_meaning.specs.Costs.{blocks_met}
use Rattle.ild_schema.specs.declared.number.Slot.{Slot}
use Rattle.ild_schema.specs.declared.row.Row.{Row}
use Rattle.ild_schema.specs.Value.{Value, map, pairs_list}
use Rattle.ild_script.specs.declared.reply.No.{No}
use Rattle.ild_script.specs.declared.reply.No.TheVariants as N
use Rattle.ild_node_slots.specs.declared.fault.HamtFault.{HamtFault}
use Rattle.ild_typed.specs.At.{InSlot}
use Rattle.ild_typed.specs.Fits.{Fits}
use Rattle.ild_typed.specs.Hamt.{whole}
use Rattle.ild_typed.specs.OfType.{OfType}
use Rattle.ild_typed.specs.Represented.{represented}
use Rattle.ild_view.specs.View.{slot_of, table_of}
use Rattle.ild_view.specs.declared.view.View.{View}
use Rattle.ild_hamt.specs.declared.trail.Trail.{Trail}
use Rattle.ild_open_held.specs.Held.{IsHeld}
use Rattle.ild_path_edits.specs.Table.{slot_to_insert, slot_to_set}
use Rattle.ild_path_block.specs.declared.edit.PartEdit.{PartEdit}
use Rattle.ild_path_block.specs.declared.edit.PartEdit.TheVariants as E
use Rattle.ild_path_held.specs.HeldEdits.{room_at}
use Rattle.ild_path_held.proofs.Holding.{held_parts}
use Rattle.ild_path_entered.specs.Entered.{with_entry, without_entry}
use Rattle.ild_path_entered.specs.EnteredLaws.{fits_key}
use Rattle.ild_path_entered.proofs.Editing.{at_entries, hamt_seen, sets_have_data, with_typed}
use Rattle.ild_path_entered.proofs.Holding.{cut_typed, put_typed}
use Rattle.ild_path_outward.specs.Level.{IsLevel, with_cut, with_set}
use Rattle.ild_path_hops.specs.Hops.{AreHops}
use Rattle.ild_path_hops.specs.HopLaws.{path_of_hops}
use Rattle.ild_path_hops.specs.declared.hop.Hop.{Hop}
use Rattle.ild_path_outward.specs.Outward.{with_end}
use Rattle.ild_path_outward.proofs.Counting.{put_counted, put_met}
use Rattle.ild_path_way.specs.Way.{nodes_met}
use Rattle.ild_path_ends.specs.inside.AtKey.{CutsKey, IsKeyCut, IsKeyLevel, IsKeySet, MakesAtKey, SetsKey}
use Rattle.ild_path_ends.specs.Parts.{HasEnd, IsChange, IsPartHeld}
use Rattle.ild_path_ends.specs.Steps.{IsKeyIn}
use Rattle.ild_path_ends.proofs.Counting.{cut_counted, cut_met}
use Rattle.ild_path_ends.proofs.Ending.{brings, changed, held_q, own, typed_q}
use Rattle.ild_path_ends.proofs.Inner.{IsInner}
use Rattle.ild_path_ends.proofs.Keying.{level_end, met_at_key, nodes_at_key}
use Rattle.ild_path_ends.proofs.Moving.{ins_moves, set_moves}

has_end : (e : PartEdit) (front : List (List ℕ)) (k : List ℕ) → HasEnd e (front ++ (k ∷ []))
has_end (E.Set n) front k = tt
has_end (E.Insert n) [] k = tt
has_end (E.Insert n) (s ∷ ss) k = tt
has_end E.Delete [] k = tt
has_end E.Delete (s ∷ ss) k = tt

set_ok : (b : Bool) (e : No) (a c : Value) → ◌≡◌ {A = Result Value No} (if b then Ok a else Err e) (Ok c) → (b ≡ true) × (a ≡ c)
set_ok true e a c is = (refl, cc)
set_ok false e a c is = absurd cc

ins_ok : (there b : Bool) (e f : No) (a c : Value) → ◌≡◌ {A = Result Value No} (if there then Err e else if b then Ok a else Err f) (Ok c) → (there ≡ false) × (b ≡ true) × (a ≡ c)
ins_ok true b e f a c is = absurd cc
ins_ok false true e f a c is = (refl, refl, cc)
ins_ok false false e f a c is = absurd cc

-- by another name of the table and the slot
sets_at : (h : List ℕ → List ℕ) (rows : List Row) (s : Slot) (view : View) (front : List (List ℕ)) (found : Trail) (n : Node) (m k : Moment) (r : Result (List ℕ) HamtFault) → table_of view ≡ rows → slot_of view ≡ s
    → SetsKey h (table_of view) (slot_of view) view front found n m r k → SetsKey h rows s view front found n m r k
sets_at h rows s view front found n m k r table slot is = subst (λ y. SetsKey h y s view front found n m r k) table (subst (λ y. SetsKey h (table_of view) y view front found n m r k) slot is)

cuts_at : (h : List ℕ → List ℕ) (rows : List Row) (s : Slot) (view : View) (front : List (List ℕ)) (found : Trail) (m k : Moment) (r : Result (List ℕ) HamtFault) → table_of view ≡ rows → slot_of view ≡ s
    → CutsKey h (table_of view) (slot_of view) view front found m r k → CutsKey h rows s view front found m r k
cuts_at h rows s view front found m k r table slot is = subst (λ y. CutsKey h y s view front found m r k) table (subst (λ y. CutsKey h (table_of view) y view front found m r k) slot is)

module _ (h : List ℕ → List ℕ) (is_key : ℕ → List ℕ → Bool) (was : List (List ℕ)) (v : Value) (t : Data) (root : View) (hops : List Hop) (q : InSlot) (less : ℕ) (level : IsLevel h is_key was deepest v t root)
    (leads : AreHops h (table_of root) was deepest (slot_of root, v) hops q less) (front : List (List ℕ)) (k : List ℕ) (found : Trail) (key : IsKeyIn h (table_of root) was q front k found) (view : View)
    (inner : IsInner h (table_of root) q (held_q h is_key was v t root hops q less level leads).0 view) (m n : Moment) (told : m.blocks ≡ Some was) where
  abbrev Rows : List Row
  Rows = table_of root

  abbrev S : Slot
  S = slot_of root

  abbrev Old : (d : Data) × IsHeld (block_at was) h (table_of root) less q.0 d q.1
  Old = held_q h is_key was v t root hops q less level leads

  abbrev Typed : OfType (table_of root) q.0 q.1
  Typed = typed_q h is_key was v t root hops q less level leads

  typed_map : OfType Rows key.slot (map key.ps)
  typed_map =
      let z = held_parts (block_at was) h Rows is_key level.schema level.keys less q (key.slot, map key.ps) Old.0 front Old.1 key.entered.at in
      (room_at Rows less q front, z.1.fits)

  abbrev key_level : IsKeyLevel h is_key Rows q.0 was front k found
  key_level = record { schema = level.schema; keys = level.keys; less = less; v = q.1; t = Old.0; held = Old.1; key = key }

  -- ---- set

  module _ (item : Node) (w c : Value) (u : Data) where
    abbrev Map : Value
    Map = with_entry k w key.ps

    abbrev New : Value
    New = with_set (table_of root) q.0 q.1 front key.ps k w

    -- where the key fits, and so the whole becomes c
    module _ (y : IsPartHeld h (table_of root) was key.elem item w) (fitting : fits_key is_key (table_of root) key.slot key.ps k ≡ true) (made : with_end (table_of root) (slot_of root) v hops (with_set (table_of root) q.0 q.1 front key.ps k w) ≡ c)
        (tree : represented (whole h) (table_of root) (slot_of root) c ≡ Some u) (fits : Fits (table_of root) deepest (slot_of root) c) where
      typed_new_map : OfType Rows key.slot Map
      typed_new_map = put_typed Rows is_key level.schema level.keys key.slot key.elem key.ps key.entered.hamt typed_map k w key.utf8 fitting (y.room, y.held.fits)

      typed_new : OfType Rows q.0 New
      typed_new = with_typed Rows is_key level.schema level.keys front q (key.slot, map key.ps) Map Typed key.entered.at typed_new_map

      abbrev Own : (d : Data) × (represented (whole h) (table_of root) q.0 (with_set (table_of root) q.0 q.1 front key.ps k w) ≡ Some d) × Fits (table_of root) less q.0 (with_set (table_of root) q.0 q.1 front key.ps k w)
      Own = own h is_key was v t root hops q less level leads c (with_set (table_of root) q.0 q.1 front key.ps k w) u typed_new made tree fits

      abbrev set : IsKeySet h is_key Rows q.0 was front k found item
      set = record { level = key_level; fitting = fitting; around = y.room; w = w; d = y.tree; comes = y.held; stands = y.stands; u = Own.0; tree = Own.1; fits = Own.2 }

      map_data_is : (d : Data) × (represented (whole h) Rows key.slot Map ≡ Some d)
      map_data_is =
          let z = sets_have_data h Rows is_key level.schema level.keys less q (key.slot, map key.ps) front Map Own.0 Typed key.entered.at typed_new_map Own.1 Own.2 in
          (z.0, z.1)

      few : 1 + length (way h key.entered.hamt.3 k (trie_levels key.entered.hamt.3) 0 (insert bytewise k y.tree key.es)) ≤ blocks_met h Rows (q.0, New) (front ++ (k ∷ []))
      few =
          met_at_key h Rows is_key level.schema level.keys q front key.slot (map key.ps) Map k (length (way h key.entered.hamt.3 k (trie_levels key.entered.hamt.3) 0 (insert bytewise k y.tree key.es))) Typed key.entered.at typed_new_map
          (put_counted h Rows was key.slot key.elem key.ps key.root key.es key.entered.hamt key.trie k w y.tree map_data_is.0 y.held.tree map_data_is.1)

      met_new : nodes_met h Rows (q.0, New) (front ++ (k ∷ [])) ≡ way h key.entered.hamt.3 k (trie_levels key.entered.hamt.3) 0 (insert bytewise k y.tree key.es)
      met_new =
          nodes_at_key h Rows is_key level.schema level.keys q front key.slot (map key.ps) Map k (way h key.entered.hamt.3 k (trie_levels key.entered.hamt.3) 0 (insert bytewise k y.tree key.es)) Typed key.entered.inside key.entered.at typed_new_map
          (put_met h Rows was key.slot key.elem key.ps key.root key.es key.entered.hamt key.trie k w y.tree map_data_is.0 y.held.tree map_data_is.1)

      set_made : (r : Result (List ℕ) HamtFault) → SetsKey h (table_of view) (slot_of view) view front found item m r n → MakesAtKey h Rows S v hops q less (front ++ (k ∷ [])) c m r n
      set_made r is = record {
        new = New;
        tree = Own.0;
        made = made;
        tree_is = Own.1;
        fits = Own.2;
        ends = level_end h Rows less q.0 New Own.0 Own.1 m n key.entered.hamt.3 (front ++ (k ∷ [])) k (insert bytewise k y.tree key.es) r few met_new (sets_at h Rows q.0 view front found item m n r inner.table inner.slot is is_key was k told set inner.root);
      }

    pub at_key_set : (x : IsChange h Rows is_key was deepest (S, v) (path_of_hops hops ++ (front ++ (k ∷ []))) (E.Set item) w c u) (r : Result (List ℕ) HamtFault)
        → SetsKey h (table_of view) (slot_of view) view front found item m r n → MakesAtKey h Rows S v hops q less (front ++ (k ∷ [])) c m r n
    at_key_set x r is =
        let path = front ++ (k ∷ []) in
        let y = changed h is_key was v t root hops q less level leads path (E.Set item) w c u (has_end (E.Set item) front k) x in
        let law = (at_entries Rows is_key q front key.slot key.elem key.ps k key.entered).0 w in
        let z = set_ok (fits_key is_key Rows key.slot key.ps k) N.Mismatch New y.new (sym law ∙ y.is) in
        let slot = set_moves Rows is_key level.schema level.keys q (key.slot, map key.ps) front (k ∷ []) w Typed key.entered.at ∙ ap (λ hd. slot_to_set hd k) (hamt_seen Rows key.slot key.elem key.ps key.entered.hamt) in
        set_made (brings h is_key was v t root hops q less level leads path (E.Set item) w c u (has_end (E.Set item) front k) x key.elem slot) z.0 (ap (with_end Rows S v hops) z.1 ∙ y.made) x.tree x.fits r is

    pub at_key_ins : (x : IsChange h Rows is_key was deepest (S, v) (path_of_hops hops ++ (front ++ (k ∷ []))) (E.Insert item) w c u) (r : Result (List ℕ) HamtFault)
        → SetsKey h (table_of view) (slot_of view) view front found item m r n → MakesAtKey h Rows S v hops q less (front ++ (k ∷ [])) c m r n
    at_key_ins x r is =
        let path = front ++ (k ∷ []) in
        let y = changed h is_key was v t root hops q less level leads path (E.Insert item) w c u (has_end (E.Insert item) front k) x in
        let law = (at_entries Rows is_key q front key.slot key.elem key.ps k key.entered).1 w in
        let z = ins_ok (is_some (value_at k (pairs_list key.ps))) (fits_key is_key Rows key.slot key.ps k) N.Path N.Mismatch New y.new (sym law ∙ y.is) in
        let slot = ins_moves Rows is_key level.schema level.keys q (key.slot, map key.ps) front k [] w key.entered.at ∙ ap (λ hd. slot_to_insert hd k) (hamt_seen Rows key.slot key.elem key.ps key.entered.hamt)
        ∙ ap (λ (b : Bool). if b then None else Some key.elem) z.0 in
        set_made (brings h is_key was v t root hops q less level leads path (E.Insert item) w c u (has_end (E.Insert item) front k) x key.elem slot) z.1 (ap (with_end Rows S v hops) z.2 ∙ y.made) x.tree x.fits r is

  -- ---- cut

  module _ (w c : Value) (u : Data) where
    abbrev Rest : Value
    Rest = without_entry k key.ps

    abbrev Less : Value
    Less = with_cut (table_of root) q.0 q.1 front key.ps k

    module _ (there : is_some (value_at k (pairs_list key.ps)) ≡ true) (made : with_end (table_of root) (slot_of root) v hops (with_cut (table_of root) q.0 q.1 front key.ps k) ≡ c)
        (tree : represented (whole h) (table_of root) (slot_of root) c ≡ Some u) (fits : Fits (table_of root) deepest (slot_of root) c) where
      typed_rest : OfType Rows key.slot Rest
      typed_rest = cut_typed Rows is_key level.schema level.keys key.slot key.elem key.ps key.entered.hamt typed_map k there

      typed_less : OfType Rows q.0 Less
      typed_less = with_typed Rows is_key level.schema level.keys front q (key.slot, map key.ps) Rest Typed key.entered.at typed_rest

      abbrev OwnLess : (d : Data) × (represented (whole h) (table_of root) q.0 (with_cut (table_of root) q.0 q.1 front key.ps k) ≡ Some d) × Fits (table_of root) less q.0 (with_cut (table_of root) q.0 q.1 front key.ps k)
      OwnLess = own h is_key was v t root hops q less level leads c (with_cut (table_of root) q.0 q.1 front key.ps k) u typed_less made tree fits

      abbrev cut : IsKeyCut h is_key Rows q.0 was front k found
      cut = record { level = key_level; there = there; u = OwnLess.0; tree = OwnLess.1; fits = OwnLess.2 }

      rest_data_is : (d : Data) × (represented (whole h) Rows key.slot Rest ≡ Some d)
      rest_data_is =
          let z = sets_have_data h Rows is_key level.schema level.keys less q (key.slot, map key.ps) front Rest OwnLess.0 Typed key.entered.at typed_rest OwnLess.1 OwnLess.2 in
          (z.0, z.1)

      few_less : 1 + length (way h key.entered.hamt.3 k (trie_levels key.entered.hamt.3) 0 (remove k key.es)) ≤ blocks_met h Rows (q.0, Less) (front ++ (k ∷ []))
      few_less =
          met_at_key h Rows is_key level.schema level.keys q front key.slot (map key.ps) Rest k (length (way h key.entered.hamt.3 k (trie_levels key.entered.hamt.3) 0 (remove k key.es))) Typed key.entered.at typed_rest
          (cut_counted h Rows was key.slot key.elem key.ps key.root key.es key.entered.hamt key.trie k rest_data_is.0 rest_data_is.1)

      met_less : nodes_met h Rows (q.0, Less) (front ++ (k ∷ [])) ≡ way h key.entered.hamt.3 k (trie_levels key.entered.hamt.3) 0 (remove k key.es)
      met_less =
          nodes_at_key h Rows is_key level.schema level.keys q front key.slot (map key.ps) Rest k (way h key.entered.hamt.3 k (trie_levels key.entered.hamt.3) 0 (remove k key.es)) Typed key.entered.inside key.entered.at typed_rest
          (cut_met h Rows was key.slot key.elem key.ps key.root key.es key.entered.hamt key.trie k rest_data_is.0 rest_data_is.1)

      cut_made : (r : Result (List ℕ) HamtFault) → CutsKey h (table_of view) (slot_of view) view front found m r n → MakesAtKey h Rows S v hops q less (front ++ (k ∷ [])) c m r n
      cut_made r is = record {
        new = Less;
        tree = OwnLess.0;
        made = made;
        tree_is = OwnLess.1;
        fits = OwnLess.2;
        ends = level_end h Rows less q.0 Less OwnLess.0 OwnLess.1 m n key.entered.hamt.3 (front ++ (k ∷ [])) k (remove k key.es) r few_less met_less (cuts_at h Rows q.0 view front found m n r inner.table inner.slot is is_key was k told cut inner.root);
      }

    pub at_key_cut : (x : IsChange h Rows is_key was deepest (S, v) (path_of_hops hops ++ (front ++ (k ∷ []))) E.Delete w c u) (r : Result (List ℕ) HamtFault)
        → CutsKey h (table_of view) (slot_of view) view front found m r n → MakesAtKey h Rows S v hops q less (front ++ (k ∷ [])) c m r n
    at_key_cut x r is =
        let y = changed h is_key was v t root hops q less level leads (front ++ (k ∷ [])) E.Delete w c u (has_end E.Delete front k) x in
        let law = (at_entries Rows is_key q front key.slot key.elem key.ps k key.entered).2 in
        let z = set_ok (is_some (value_at k (pairs_list key.ps))) N.Path Less y.new (sym law ∙ y.is) in
        cut_made z.0 (ap (with_end Rows S v hops) z.1 ∙ y.made) x.tree x.fits r is
