-- The root of a HAMT that is held is that of the trie of its entries.
use Rattle.std.proofs.Common.{◌≡◌, ℕ, zero, suc, ◌+◌, ◌-◌, ◌≤◌, List, [], ◌∷◌, length, Bool, true, false, cond, Option, Some, is_some, IsUtf8, refl, ap, sym, ◌∙◌, subst, arith}
use Rattle.std.specs.Prelude.{IsSomeAnd}
use Rattle.std.specs.FinMap.{find}
use Rattle.std.specs.List.{AllByRecursion}
use Rattle.std.specs.Option.{option_map_or}
use Rattle.std.specs.Ordering.{eq_by_cmp}
use Rattle.std.specs.Cmp.Lexicographic.{same_text as text_same, other_text}
use Rattle.std.proofs.lemmas.Option.{none-some, same_Some}
use Rattle.ild_schema.proofs.Parts.{pairs_list-pairs_of}
use Rattle.ild_data.specs.ByteOrder.{IsInOrder, bytewise, in_byte_order}
use Rattle.ild_data.specs.Data as D
use Rattle.ild_data.specs.Data.{Data}
use Rattle.ild_data.specs.Key.{same_text, value_at}
use Rattle.ild_data.specs.Trie.{node_data, node_of, trie}
use Rattle.ild_data.specs.TrieShape.{trie_levels}
use Rattle.ild_data.specs.declared.hamt_shape.HamtShape.{HamtShape}
use Rattle.ild_edges.specs.Store.{block_at}
use Rattle.ild_typed_fronts.proofs.Representing.{fronts_represent}
use Rattle.ild_typed_fronts.specs.Front.{front, fronts_of_pairs, is_hamt, is_root, root_or_map}
use Rattle.ild_open_held.specs.Splits.{PartsHaveValues, entry_parts, entry_values}
use Rattle.ild_open_held.proofs.Hamts.{hamt_kept, hamt_parts}
use Rattle.ild_schema.specs.declared.def.MapForm.TheVariants as MF
use Rattle.ild_schema.specs.declared.def.TypeDef.{TypeDef}
use Rattle.ild_schema.specs.declared.def.TypeDef.TheVariants as T
use Rattle.ild_schema.specs.declared.number.Slot.{Slot}
use Rattle.ild_schema.specs.declared.number.TypeNo.{TypeNo}
use Rattle.ild_schema.specs.declared.row.Row.{Row}
use Rattle.ild_schema.specs.Slots.{form_of}
use Rattle.ild_schema.specs.Value as V
use Rattle.ild_schema.specs.Value.{Value, Pairs, pairs_list, pairs_of}
use Rattle.ild_node_slots.proofs.Shapes.{whole_map}
use Rattle.ild_node_slots.proofs.Rooting.{root-same}
use Rattle.ild_hamt_trie.proofs.Bits.{same_node}
use Rattle.ild_hamt_trie.proofs.Node.{slots-node, trie-sorted}
use Rattle.ild_hamt_trie.proofs.Parts.{find-sorted, in_order-sorted, key_itself, same_key}
use Rattle.ild_typed.proofs.Basics.{if_from, map_from}
use Rattle.ild_typed.proofs.Rooms.{fits_more}
use Rattle.ild_typed.specs.At.{InSlot}
use Rattle.ild_typed.specs.Fits.{Fits, FitsPast, FormFits}
use Rattle.ild_typed.specs.Hamt.{alone, a_map, root_map, whole}
use Rattle.ild_typed.specs.Layer as L
use Rattle.std.proofs.Math.Nat.{sub-zero}
use Rattle.ild_hamt_trie.proofs.Levels.{levels-first}
use Rattle.ild_typed.specs.Known.{AreKnown, HeldNode}
use Rattle.ild_typed.specs.Levels.{levels_of}
use Rattle.ild_typed.specs.Pieces.{is_null_there}
use Rattle.ild_typed.specs.Represented.{layered, represented}
use Rattle.ild_typed.specs.Slots.{element_of}
use Rattle.ild_open_held_roots.specs.Enters.{DataOf}
use Rattle.ild_open_held_roots.specs.Laws.{RootsAreEntered}
use Rattle.ild_open_rows.proofs.Given.{known_holds, node_form, sorted_texts}

-- ---- maps that stand as HAMTs

abbrev IsHamtType : Option TypeDef → Type 0
IsHamtType o = (key : TypeNo) × (key_at : ℕ) × (value : Slot) × (place : ℕ) × (shape : HamtShape) × (o ≡ Some (T.Map key key_at value place (MF.Hamt shape)))

hamt_type : (o : Option TypeDef) → is_hamt o ≡ true → IsHamtType o
hamt_type (Some (T.Map key key_at value place (MF.Hamt shape))) e = (key, key_at, value, place, shape, refl)
hamt_type (Some (T.Map key key_at value place MF.Map)) e = absurd cc
hamt_type (Some (T.Map key key_at value place MF.ListPairs)) e = absurd cc
hamt_type (Some (T.Map key key_at value place (MF.StringPairs i d))) e = absurd cc
hamt_type o e = absurd cc

-- a root alone has no entries to be represented by
pub no_root : (h : List ℕ → List ℕ) (o : Option TypeDef) (d t : Data) → layered (whole h) o (Some (L.hamt d)) ≡ Some t → ⊥
no_root h (Some (T.Map key key_at value place MF.Map)) d t e = none-some t e
no_root h (Some (T.Map key key_at value place MF.ListPairs)) d t e = none-some t e
no_root h (Some (T.Map key key_at value place (MF.StringPairs i x))) d t e = none-some t e
no_root h (Some (T.Map key key_at value place (MF.Hamt shape))) d t e = none-some t e
no_root h o d t e = none-some t e

module _ (h : List ℕ → List ℕ) (rows : List Row) where
  pub record IsHamtMap (p : InSlot) : Type 0 where
    pub pairs : Pairs
    pub is : p.1 ≡ V.map pairs
    pub type : IsHamtType (form_of rows p.0)

  hamt_map : (s : Slot) (v : Value) (t : Data) → represented (whole h) rows s v ≡ Some t → is_root rows (s, v) ≡ true → IsHamtMap (s, v)
  hamt_map s (V.map ps) t e root = record { pairs = ps; is = refl; type = hamt_type (form_of rows s) root }
  hamt_map s (V.hamt d) t e root = absurd (no_root h (form_of rows s) d t e)
  hamt_map s v t e root = absurd cc

-- its data are no null
map_there : (s : Slot) (t : Data) → a_map t ≡ Some t → is_null_there s t ≡ false
map_there s D.null e = absurd (none-some D.null e)
map_there s (D.boolean b) e = refl
map_there s (D.integer n) e = refl
map_there s (D.text x) e = refl
map_there s (D.bytes x) e = refl
map_there s (D.list ds) e = refl
map_there s (D.map ms) e = refl
map_there s (D.link x) e = refl

-- the front of one is its root
pub root_front : (h : List ℕ → List ℕ) (rows : List Row) (s : Slot) (v : Value) (t : Data) → represented (whole h) rows s v ≡ Some t → is_root rows (s, v) ≡ true → front h rows s v ≡ V.hamt t
root_front h rows s (V.map ps) t e root =
    ap (λ b. root_or_map b (represented (whole h) rows s (V.map ps)) (option_map_or (λ u. fronts_of_pairs h rows u ps) (element_of (form_of rows s)) ps)) root
    ∙ ap (λ o. root_or_map true o (option_map_or (λ u. fronts_of_pairs h rows u ps) (element_of (form_of rows s)) ps)) e
root_front h rows s (V.hamt d) t e root = absurd (no_root h (form_of rows s) d t e)
root_front h rows s v t e root = absurd cc

not_null : (h : List ℕ → List ℕ) (rows : List Row) (s : Slot) (v : Value) (t : Data) (key : TypeNo) (key_at : ℕ) (value : Slot) (place : ℕ) (shape : HamtShape) → form_of rows s ≡ Some (T.Map key key_at value place (MF.Hamt shape))
    → represented (whole h) rows s v ≡ Some t → is_root rows (s, v) ≡ true → is_null_there s t ≡ false
not_null h rows s v t key key_at value place shape is e root =
    let d : represented alone rows s (V.hamt t) ≡ Some t = ap (represented alone rows s) (sym (root_front h rows s v t e root)) ∙ fronts_represent h rows s v ∙ e in
    map_there s t (ap (λ o. layered alone o (Some (L.hamt t))) (sym is) ∙ d)

-- and it takes the levels of its form
levels_fit : (rows : List Row) (room : ℕ) (s : Slot) (ps : Pairs) (d : TypeDef) → form_of rows s ≡ Some d → Fits rows room s (V.map ps) → levels_of d (V.map ps) ≤ room
unfolding FitsPast
levels_fit rows zero s ps d is f = (subst (λ o. IsSomeAnd o (FormFits rows zero (λ over t w. ⊥) (V.map ps))) is f).0
levels_fit rows (suc room) s ps d is f = (subst (λ o. IsSomeAnd o (FormFits rows (suc room) (FitsPast rows room) (V.map ps))) is f).0

-- ---- keys in either order

found_alike : (k : List ℕ) (es : List (List ℕ × Data)) → find bytewise k es ≡ value_at k es
found_alike k [] = refl
found_alike k (e ∷ es) = by (same_text k e.0) (eq_by_cmp bytewise k e.0) refl refl (found_alike k es) where
  by : (a b : Bool) → a ≡ same_text k e.0 → b ≡ eq_by_cmp bytewise k e.0 → find bytewise k es ≡ value_at k es → cond b (Some e.1) (find bytewise k es) ≡ cond a (Some e.1) (value_at k es)
  by true true is other rest = refl
  by false false is other rest = rest
  by true false is other rest = let same : k ≡ e.0 = text_same k e.0 is in let x : false ≡ true = other ∙ ap (λ (y : List ℕ). eq_by_cmp bytewise k y) (sym same) ∙ key_itself k in absurd cc
  by false true is other rest = absurd (other_text k e.0 is (same_key k e.0 (sym other)))

module _ (held : List (List ℕ)) (h : List ℕ → List ℕ) (rows : List Row) (less room : ℕ) (le : less ≤ room) (slot : Slot) where
  values_found : (es : List (List ℕ × Data)) (vs : List Value) (k : List ℕ) → PartsHaveValues (block_at held) h rows less (entry_parts slot es) vs → DataOf held h rows room slot (value_at k es) (value_at k (entry_values es vs))
  values_found [] [] k all = tt
  values_found [] (v ∷ vs) k all = absurd all
  values_found (e ∷ es) [] k all = absurd all
  values_found (e ∷ es) (v ∷ vs) k all = by (same_text k e.0) (values_found es vs k all.1) where
    by : (b : Bool) → DataOf held h rows room slot (value_at k es) (value_at k (entry_values es vs)) → DataOf held h rows room slot (cond b (Some e.1) (value_at k es)) (cond b (Some v) (value_at k (entry_values es vs)))
    by true rest = record { fits = fits_more rows less room le slot v all.0.fits; tree = all.0.tree; held = all.0.held }
    by false rest = rest

texts_of : (P : List ℕ × Data → Type 0) (es : List (List ℕ × Data)) → AllByRecursion (λ e. IsUtf8 e.0 × P e) es → AllByRecursion (λ e. IsUtf8 e.0) es
texts_of P [] all = tt
texts_of P (e ∷ es) all = (all.0.0, texts_of P es all.1)

same_pairs : (ps qs : Pairs) → V.map ps ≡ V.map qs → ps ≡ qs
same_pairs ps qs e = cc

pub roots_are_entered : RootsAreEntered
unfolding trie
roots_are_entered = λ held h rows schema room le p t slots key key_at value place shape form has root is.
    let m = hamt_map h rows p.0 p.1 t has.tree root in
    let spelled = schema.table.texts.spelled in
    let some : is_null_there p.0 t ≡ false = not_null h rows p.0 p.1 t key key_at value place shape form has.tree root in
    let five : 5 ≤ room = levels_fit rows room p.0 m.pairs (T.Map key key_at value place (MF.Hamt shape)) form (subst (Fits rows room p.0) m.is has.fits) in
    let left : room ≡ (room - 5) + 5 = omega (arith, five) in
    let x = hamt_parts (block_at held) h shape rows room (room - 5) p.0 t key key_at value place form left p.1 some has in
    let kept = hamt_kept (block_at held) h shape rows room (room - 5) p.0 t key key_at value place form left spelled le p.1 has x in
    let n = map_from (root_map shape) (trie h shape x.entries 0) t x.made in
    let node : n.item ≡ node_data slots = root-same shape n.item (node_data slots) (same_Some (root_map shape n.item) t n.made ∙ is.tree) in
    let sorted : List (List ℕ × Data) = in_byte_order x.entries in
    let order : IsInOrder sorted = in_order-sorted x.entries in
    let texts = sorted_texts x.entries (texts_of _ x.entries x.keys) in
    let once = (if_from _ (node_of h shape (trie_levels shape - 0) 0 sorted) n.item n.there).0 in
    let first : trie_levels shape ≡ suc (trie_levels shape - 1) = sym (sub-zero (trie_levels shape)) ∙ levels-first shape in
    let top : node_of h shape (suc (trie_levels shape - 1)) 0 sorted ≡ Some n.item = ap (λ l. node_of h shape l 0 sorted) (sym (levels-first shape)) ∙ sym (trie-sorted h shape x.entries 0 once) ∙ n.there in
    let s = slots-node h shape (trie_levels shape - 1) 0 sorted n.item top in
    let own = node_form h shape (trie_levels shape - 1) 0 sorted s.0 order texts s.1 in
    let same : s.0 ≡ slots = same_node s.0 slots (whole_map shape.width (length s.0) shape.wide own.many) (is.indices ∙ sym own.many) (sym s.2 ∙ node) in
    let made = sym m.is ∙ x.is_map in
    record {
      key = key;
      key_at = key_at;
      value = value;
      place = place;
      pairs = x.pairs;
      entries = x.entries;
      form = form;
      is = x.same;
      there = x.there;
      trie = ap is_some n.there;
      root = record { order = order; left = trie_levels shape - 1; all = first; node = s.1 ∙ ap Some same };
      holds = known_holds h shape held (trie_levels shape) 0 sorted order texts (subst (λ l. AreKnown h shape (HeldNode (block_at held)) l 0 sorted) (sub-zero (trie_levels shape)) kept.1);
      each = λ k.
          let pairs : pairs_list x.pairs ≡ entry_values x.entries x.values =
          ap pairs_list (same_pairs x.pairs (pairs_of (entry_values x.entries x.values)) (sym x.same ∙ x.is_map)) ∙ pairs_list-pairs_of (entry_values x.entries x.values) in
          let found = find-sorted k x.entries ∙ found_alike k x.entries in
          subst (λ o. DataOf held h rows room value o (value_at k (pairs_list x.pairs))) (sym found)
          (subst (λ xs. DataOf held h rows room value (value_at k x.entries) (value_at k xs)) (sym pairs) (values_found held h rows (room - 5) room (omega arith) value x.entries x.values k x.held));
    }
