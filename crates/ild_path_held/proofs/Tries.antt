-- The HAMT of a value that is held, and with an entry put or gone.
use Rattle.std.proofs.Common.{◌≡◌, ◌-◌, ℕ, cond, List, [], ◌∷◌, Bool, true, false, Option, Some, None, option_map, refl, ap, sym, subst, ◌∙◌}
use Rattle.std.specs.Prelude.{Contains, is_some, option_and_then}
use Rattle.std.specs.FinMap.{put as insert}
use Rattle.std.specs.List.{AllByRecursion}
use Rattle.std.specs.Ordering.{match_ordering}
use Rattle.std.specs.declared.cmp.Ordering.{Ordering}
use Rattle.std.specs.declared.cmp.Ordering.TheVariants.{Less, Equal, Greater}
use Rattle.std.proofs.lemmas.Option.{same_Some}
use Rattle.ild_data.specs.Among.{AreAmong}
use Rattle.ild_data.specs.ByteOrder.{bytewise, in_byte_order, without as remove}
use Rattle.ild_data.specs.Data.{Data}
use Rattle.ild_data.specs.Key.{Rises, key_cmp, same_text, value_at, put, without}
use Rattle.ild_data.specs.Trie.{node_of, trie}
use Rattle.ild_data.specs.TrieBlocks.{nodes_beneath}
use Rattle.ild_data.specs.TrieShape.{trie_levels}
use Rattle.ild_data.proofs.Rising.{rises_put, rises_without}
use Rattle.ild_data.specs.declared.hamt_shape.HamtShape.{HamtShape}
use Rattle.ild_edges.specs.Store.{Keeps, block_at}
use Rattle.ild_schema.specs.declared.def.MapForm.TheVariants as MF
use Rattle.ild_schema.specs.declared.def.TypeDef.{TypeDef}
use Rattle.ild_schema.specs.declared.def.TypeDef.TheVariants as D
use Rattle.ild_schema.specs.declared.number.Slot.{Slot}
use Rattle.ild_schema.specs.declared.number.TypeNo.{TypeNo}
use Rattle.ild_schema.specs.declared.row.Row.{Row}
use Rattle.ild_schema.specs.Slots.{form_of}
use Rattle.ild_schema.specs.Value as V
use Rattle.ild_schema.specs.Value.{Value, Pairs, pairs_of, pairs_list}
use Rattle.ild_node_slots.specs.Form.{AreTexts}
use Rattle.std.proofs.Math.Nat.{sub-zero}
use Rattle.ild_hamt_trie.proofs.Node.{trie-sorted}
use Rattle.ild_hamt_trie.proofs.Parts.{in_order-sorted, find-sorted}
use Rattle.ild_typed.specs.Blocks.{nodes, hamt_nodes}
use Rattle.ild_typed.specs.Composed.{composed}
use Rattle.ild_typed.specs.Fits.{Fits}
use Rattle.ild_typed.specs.Hamt.{root_map, whole}
use Rattle.ild_typed.specs.Known.{AreKnown, HeldNode}
use Rattle.ild_typed.specs.Layer as L
use Rattle.ild_typed.specs.Pieces.{is_null_there}
use Rattle.ild_typed.specs.Represented.{layered, represented, represented_pairs}
use Rattle.ild_typed.specs.Slots.{element_of}
use Rattle.ild_typed.specs.Strings.{cons_both}
use Rattle.ild_typed.proofs.Basics.{map_from, then_from}
use Rattle.ild_typed.proofs.Entries.{both_from}
use Rattle.ild_typed.proofs.Rooms.{all_more}
use Rattle.ild_typed.proofs.TreeNodes.{trie_node}
use Rattle.ild_path_edits.proofs.Typing.{Each, each_put, each_without}
use Rattle.ild_open_held.specs.Held.{IsHeld, IsHeldBlock}
use Rattle.ild_open_held.proofs.Beneath.{known_blocks}
use Rattle.ild_open_held.proofs.Hamts.{hamt_parts, hamt_kept}
use Rattle.ild_open_held.proofs.Parting.{KeyFits}
use Rattle.ild_bulk_walker.specs.Trees.{HoldsBelow}
use Rattle.ild_typed_fronts.proofs.Pathing.{pairs_back}
use Rattle.ild_path_nodes.specs.NodeLaws.{IsHamt}
use Rattle.ild_path_nodes.proofs.Changing.{all_itself, to_entries, from_entries}
use Rattle.ild_path_nodes.proofs.Having.{EntryHas}
use Rattle.ild_path_held.specs.Hamts.{IsValueOf}
use Rattle.ild_path_held.specs.HeldEdits.{HamtsAreTries, HamtsArePut, HamtsAreCut, HamtsHaveTries, HasTrie}
use Rattle.ild_path_held.proofs.Holding.{block_stays}
use Rattle.ild_open_rows.proofs.Given.{known_holds, sorted_texts}
use Rattle.ild_open_rows.proofs.Rooting.{holds_known}
use Rattle.ild_path_held.proofs.Orders.{once, same_find, sorted_put, sorted_without}

-- ---- the data of pairs

module _ (h : List ℕ → List ℕ) (rows : List Row) (elem : Slot) where
  abbrev pub data_of_pairs : List (List ℕ × Value) → Option (List (List ℕ × Data))
  data_of_pairs xs = represented_pairs (whole h) rows elem (pairs_of xs)

  abbrev entry_data : List ℕ → Value → Option (List ℕ × Data)
  entry_data k v = option_map (λ d. (k, d)) (represented (whole h) rows elem v)

  -- one entry and the rest
  record Split (x : List ℕ × Value) (xs : List (List ℕ × Value)) (es : List (List ℕ × Data)) : Type 0 where
    own : Data
    own_is : represented (whole h) rows elem x.1 ≡ Some own
    rest : List (List ℕ × Data)
    rest_is : data_of_pairs xs ≡ Some rest
    all : es ≡ (x.0, own) ∷ rest

  split : (x : List ℕ × Value) (xs : List (List ℕ × Value)) (es : List (List ℕ × Data)) → data_of_pairs (x ∷ xs) ≡ Some es → Split x xs es
  split x xs es e =
      let b = both_from (entry_data x.0 x.1) (data_of_pairs xs) es e in
      let o = map_from {B = List ℕ × Data} (λ d. (x.0, d)) (represented (whole h) rows elem x.1) b.item b.first in
      record { own = o.item; own_is = o.there; rest = b.items; rest_is = b.rest; all = sym (ap (λ p. p ∷ b.items) (same_Some (x.0, o.item) b.item o.made) ∙ b.all) }

  joined : (k : List ℕ) (w : Value) (d : Data) (xs : List (List ℕ × Value)) (es : List (List ℕ × Data)) → represented (whole h) rows elem w ≡ Some d → data_of_pairs xs ≡ Some es → data_of_pairs ((k, w) ∷ xs) ≡ Some ((k, d) ∷ es)
  joined k w d xs es e g = λ i. cons_both (option_map {U = List ℕ × Data} (λ d. (k, d)) (e i)) (g i)

  pub put_data : (k : List ℕ) (w : Value) (d : Data) (xs : List (List ℕ × Value)) (es : List (List ℕ × Data)) → represented (whole h) rows elem w ≡ Some d → data_of_pairs xs ≡ Some es → data_of_pairs (put k w xs) ≡ Some (put k d es)
  put_data k w d [] es new e = subst (λ es. data_of_pairs ((k, w) ∷ []) ≡ Some (put k d es)) (same_Some [] es e) (joined k w d [] [] new refl)
  put_data k w d (x ∷ xs) es new e =
      let y = split x xs es e in
      subst (λ es. data_of_pairs (put k w (x ∷ xs)) ≡ Some (put k d es)) (sym y.all) (by (key_cmp k x.0) y (put_data k w d xs y.rest new y.rest_is))
    where
      by : (o : Ordering) (y : Split x xs es) → data_of_pairs (put k w xs) ≡ Some (put k d y.rest)
          → data_of_pairs (match_ordering o ((k, w) ∷ x ∷ xs) ((k, w) ∷ xs) (x ∷ put k w xs)) ≡ Some (match_ordering o ((k, d) ∷ (x.0, y.own) ∷ y.rest) ((k, d) ∷ y.rest) ((x.0, y.own) ∷ put k d y.rest))
      by Less y later = joined k w d (x ∷ xs) ((x.0, y.own) ∷ y.rest) new (joined x.0 x.1 y.own xs y.rest y.own_is y.rest_is)
      by Equal y later = joined k w d xs y.rest new y.rest_is
      by Greater y later = joined x.0 x.1 y.own (put k w xs) (put k d y.rest) y.own_is later

  pub cut_data : (k : List ℕ) (xs : List (List ℕ × Value)) (es : List (List ℕ × Data)) → data_of_pairs xs ≡ Some es → data_of_pairs (without k xs) ≡ Some (without k es)
  cut_data k [] es e = subst (λ es. data_of_pairs [] ≡ Some (without k es)) (same_Some [] es e) refl
  cut_data k (x ∷ xs) es e =
      let y = split x xs es e in
      subst (λ es. data_of_pairs (without k (x ∷ xs)) ≡ Some (without k es)) (sym y.all) (by (same_text k x.0) y (cut_data k xs y.rest y.rest_is))
    where
      by : (b : Bool) (y : Split x xs es) → data_of_pairs (without k xs) ≡ Some (without k y.rest) → data_of_pairs (cond b xs (x ∷ without k xs)) ≡ Some (cond b y.rest ((x.0, y.own) ∷ without k y.rest))
      by true y later = y.rest_is
      by false y later = joined x.0 x.1 y.own (without k xs) (without k y.rest) y.own_is later

  found_data : (k : List ℕ) (xs : List (List ℕ × Value)) (es : List (List ℕ × Data)) → data_of_pairs xs ≡ Some es → IsValueOf h rows elem (value_at k xs) (value_at k es)
  found_data k [] es e = subst (λ es. IsValueOf h rows elem None (value_at k es)) (same_Some [] es e) tt
  found_data k (x ∷ xs) es e =
      let y = split x xs es e in
      subst (λ es. IsValueOf h rows elem (value_at k (x ∷ xs)) (value_at k es)) (sym y.all) (by (same_text k x.0) y (found_data k xs y.rest y.rest_is))
    where
      by : (b : Bool) (y : Split x xs es) → IsValueOf h rows elem (value_at k xs) (value_at k y.rest) → IsValueOf h rows elem (cond b (Some x.1) (value_at k xs)) (cond b (Some y.own) (value_at k y.rest))
      by true y later = y.own_is
      by false y later = later

-- ---- the data of a HAMT, and its own nodes

module _ (h : List ℕ → List ℕ) (rows : List Row) (s elem : Slot) (is : IsHamt rows s elem) where
  abbrev Own : TypeDef
  Own = D.Map is.0 is.1 elem is.2 (MF.Hamt is.3)

  -- where its pairs have these data
  pub map_data : (ps : Pairs) (es : List (List ℕ × Data)) → represented_pairs (whole h) rows elem ps ≡ Some es → represented (whole h) rows s (V.map ps) ≡ option_map (root_map is.3) (trie h is.3 es 0)
  map_data ps es e =
      ap (λ o. layered (whole h) o (option_map L.map (option_and_then (λ u. represented_pairs (whole h) rows u ps) (element_of o)))) is.4
      ∙ ap (λ o. option_and_then (composed (whole h) Own) (option_map L.map o)) e

  own_data : (ps : Pairs) (es : List (List ℕ × Data)) (node : Data) → represented_pairs (whole h) rows elem ps ≡ Some es → trie h is.3 es 0 ≡ Some node
      → hamt_nodes h (form_of rows s) (represented_pairs (whole h) rows elem ps) ≡ nodes_beneath h is.3 (trie_levels is.3) 0 (in_byte_order es)
  own_data ps es node e tree =
      (λ i. hamt_nodes h (is.4 i) (e i)) ∙ ap (λ (o : Option Data). cond (is_some o) (nodes_beneath h is.3 (trie_levels is.3) 0 (in_byte_order es)) []) tree

  -- the trie of entries in the key order
  trie_is : (es : List (List ℕ × Data)) (node : Data) → Rises es → node_of h is.3 (trie_levels is.3) 0 (in_byte_order es) ≡ Some node → trie h is.3 es 0 ≡ Some node
  trie_is es node up e = trie-sorted h is.3 es 0 (once es up) ∙ ap (λ l. node_of h is.3 l 0 (in_byte_order es)) (sub-zero (trie_levels is.3)) ∙ e

  -- held where the nodes of its trie and those of its values are
  made : (now : List (List ℕ)) (room : ℕ) (xs : List (List ℕ × Value)) (pairs : List (List ℕ × Data)) (node : Data) → data_of_pairs h rows elem xs ≡ Some pairs → Rises pairs → Fits rows room s (V.map (pairs_of xs))
      → node_of h is.3 (trie_levels is.3) 0 (in_byte_order pairs) ≡ Some node → HoldsBelow h is.3 now (trie_levels is.3) 0 (in_byte_order pairs) → Each (EntryHas (IsHeldBlock (block_at now)) h rows elem) xs
      → IsHeld (block_at now) h rows room s (root_map is.3 node) (V.map (pairs_of xs))
  made now room xs pairs node e up fits tree holds values =
      let whole_trie = trie_is pairs node up tree in
      let P : List ℕ → Type 0 = IsHeldBlock (block_at now) in
      let own = known_blocks P (HeldNode (block_at now)) (λ d k. record { short = k.within.sized; there = k.there }) h is.3 (trie_levels is.3) 0 (in_byte_order pairs) node tree (holds_known h is.3 now (trie_levels is.3) 0 (in_byte_order pairs) holds) in
      record {
        fits = fits;
        tree = map_data (pairs_of xs) pairs e ∙ ap (option_map (root_map is.3)) whole_trie;
        held = from_entries P h rows s elem is xs (subst (AllByRecursion P) (sym (own_data (pairs_of xs) pairs node e whole_trie)) own) values;
      }

-- ---- the laws

key_texts : (rows : List Row) (less : ℕ) (key : TypeNo) (es : List (List ℕ × Data)) → AllByRecursion (KeyFits (λ b. Some b) (λ k. k) rows less key) es → AreTexts es
key_texts rows less key [] all = tt
key_texts rows less key (e ∷ es) all = (all.0.0, key_texts rows less key es all.1)

abbrev pairs_in : Value → Pairs
pairs_in (V.map ps) = ps
pairs_in v = V.no_pairs

root_there : (p : HamtShape) (s : Slot) (t node : Data) → t ≡ root_map p node → is_null_there s t ≡ false
root_there p s t node e = ap (is_null_there s) e

pub hamts_are_tries : HamtsAreTries
hamts_are_tries = λ h rows schema held room less le s elem t ps is left has.
    let e : layered (whole h) (Some (Own h rows s elem is)) (option_map L.map (represented_pairs (whole h) rows elem ps)) ≡ Some t =
    sym (ap (λ o. layered (whole h) o (option_map L.map (option_and_then (λ u. represented_pairs (whole h) rows u ps) (element_of o)))) is.4) ∙ has.tree in
    let l = then_from (composed (whole h) (Own h rows s elem is)) (option_map L.map (represented_pairs (whole h) rows elem ps)) t e in
    let m = map_from L.map (represented_pairs (whole h) rows elem ps) l.item l.there in
    let n = map_from (root_map is.3) (trie h is.3 m.item 0) t (ap (composed (whole h) (Own h rows s elem is)) (same_Some (L.map m.item) l.item m.made) ∙ l.made) in
    let root : t ≡ root_map is.3 n.item = sym (same_Some (root_map is.3 n.item) t n.made) in
    let x = hamt_parts (block_at held) h is.3 rows room less s t is.0 is.1 elem is.2 is.4 left (V.map ps) (root_there is.3 s t n.item root) has in
    let kept = hamt_kept (block_at held) h is.3 rows room less s t is.0 is.1 elem is.2 is.4 left schema.table.texts.spelled le (V.map ps) has x in
    let pairs : represented_pairs (whole h) rows elem ps ≡ Some x.entries = ap (λ v. represented_pairs (whole h) rows elem (pairs_in v)) x.same ∙ x.there in
    let y = map_from (root_map is.3) (trie h is.3 x.entries 0) t x.made in
    let es : List (List ℕ × Data) = in_byte_order x.entries in
    let all : trie_levels is.3 - 0 ≡ trie_levels is.3 = sub-zero (trie_levels is.3) in
    let texts : AreTexts es = sorted_texts x.entries (key_texts rows less is.0 x.entries x.keys) in (
      es,
      record {
        pairs = x.entries;
        represents = pairs;
        rises = x.rises;
        order = refl;
        texts = texts;
        node = y.item;
        is_node = ap (λ l. node_of h is.3 l 0 es) (sym all) ∙ trie_node h is.3 x.entries y.item y.there;
        root = sym (same_Some (root_map is.3 y.item) t y.made);
        holds = known_holds h is.3 held (trie_levels is.3) 0 es (in_order-sorted x.entries) texts (subst (λ l. AreKnown h is.3 (HeldNode (block_at held)) l 0 es) all kept.1);
        found = λ k. subst (IsValueOf h rows elem (value_at k (pairs_list ps))) (sym (find-sorted k x.entries ∙ same_find k x.entries)) (found_data h rows elem k (pairs_list ps) x.entries (ap (represented_pairs (whole h) rows elem) (pairs_back ps) ∙ pairs));
      },
    )

-- the values of the other entries are held as before
others_held : (h : List ℕ → List ℕ) (rows : List Row) (was now : List (List ℕ)) → Keeps was now → (room : ℕ) (s elem : Slot) (t : Data) (ps : Pairs) → IsHamt rows s elem → IsHeld (block_at was) h rows room s t (V.map ps)
    → Each (EntryHas (IsHeldBlock (block_at now)) h rows elem) (pairs_list ps)
others_held h rows was now keeps room s elem t ps is has =
    (to_entries (IsHeldBlock (block_at now)) h rows s elem is ps (all_more (IsHeldBlock (block_at was)) (IsHeldBlock (block_at now)) (λ b x. block_stays was now b keeps x) (nodes h rows s (V.map ps)) has.held)).1

pub hamts_are_put : HamtsArePut
hamts_are_put = λ h rows was now keeps before room less s elem t t' d node ps es k w is has x text new fits tree holds.
    let xs = pairs_list ps in
    let order : insert bytewise k d es ≡ in_byte_order (put k d x.pairs) = ap (insert bytewise k d) x.order ∙ sorted_put k d x.pairs in
    made h rows s elem is now room (put k w xs) (put k d x.pairs) node
    (put_data h rows elem k w d xs x.pairs new.tree (ap (represented_pairs (whole h) rows elem) (pairs_back ps) ∙ x.represents))
    (rises_put k d x.pairs x.rises) fits (ap (node_of h is.3 (trie_levels is.3) 0) (sym order) ∙ tree) (subst (HoldsBelow h is.3 now (trie_levels is.3) 0) order holds)
    (each_put (EntryHas (IsHeldBlock (block_at now)) h rows elem) k w xs (others_held h rows was now keeps before s elem t ps is has) new.held)

pub hamts_are_cut : HamtsAreCut
hamts_are_cut = λ h rows was now keeps before room s elem t t' node ps es k is has x fits tree holds.
    let xs = pairs_list ps in
    let order : remove k es ≡ in_byte_order (without k x.pairs) = ap (remove k) x.order ∙ sorted_without k x.pairs x.rises in
    made h rows s elem is now room (without k xs) (without k x.pairs) node
    (cut_data h rows elem k xs x.pairs (ap (represented_pairs (whole h) rows elem) (pairs_back ps) ∙ x.represents))
    (rises_without k x.pairs x.rises) fits (ap (node_of h is.3 (trie_levels is.3) 0) (sym order) ∙ tree) (subst (HoldsBelow h is.3 now (trie_levels is.3) 0) order holds)
    (each_without (EntryHas (IsHeldBlock (block_at now)) h rows elem) k xs (others_held h rows was now keeps before s elem t ps is has))

-- the pairs of a HAMT with data have a trie
has_trie : (h : List ℕ → List ℕ) (rows : List Row) (s elem : Slot) (is : IsHamt rows s elem) (ps : Pairs) (pairs es : List (List ℕ × Data)) (x : Data) → represented_pairs (whole h) rows elem ps ≡ Some pairs → es ≡ in_byte_order pairs
    → represented (whole h) rows s (V.map ps) ≡ Some x → HasTrie h is.3 rows s (V.map ps) x es
has_trie h rows s elem is ps pairs es x e order made =
    let y = map_from (root_map is.3) (trie h is.3 pairs 0) x (sym (map_data h rows s elem is ps pairs e) ∙ made) in
    let mine = all_itself (nodes h rows s (V.map ps)) in
    record {
      node = y.item;
      is_node = ap (node_of h is.3 (trie_levels is.3) 0) order ∙ ap (λ l. node_of h is.3 l 0 (in_byte_order pairs)) (sym (sub-zero (trie_levels is.3))) ∙ trie_node h is.3 pairs y.item y.there;
      root = sym (same_Some (root_map is.3 y.item) x y.made);
      among = subst (λ fs. AreAmong (nodes_beneath h is.3 (trie_levels is.3) 0 fs) (nodes h rows s (V.map ps))) (sym order)
          (subst (λ bs. AreAmong bs (nodes h rows s (V.map ps))) (own_data h rows s elem is ps pairs y.item e y.there) (to_entries (Contains (nodes h rows s (V.map ps))) h rows s elem is ps mine).0);
    }

pub hamts_have_tries : HamtsHaveTries
hamts_have_tries = λ h rows held s elem t x ps es k is tried.
    let xs = pairs_list ps in
    let same = ap (represented_pairs (whole h) rows elem) (pairs_back ps) ∙ tried.represents in (
      λ w d new made. has_trie h rows s elem is (pairs_of (put k w xs)) (put k d tried.pairs) (insert bytewise k d es) x (put_data h rows elem k w d xs tried.pairs new same)
          (ap (insert bytewise k d) tried.order ∙ sorted_put k d tried.pairs) made,
      λ made. has_trie h rows s elem is (pairs_of (without k xs)) (without k tried.pairs) (remove k es) x (cut_data h rows elem k xs tried.pairs same)
          (ap (remove k) tried.order ∙ sorted_without k tried.pairs tried.rises) made,
    )
