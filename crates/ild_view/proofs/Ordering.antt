-- The parts of a front in order beside those of its data: elements and entries.
use Rattle.std.proofs.Common.{◌≡◌, ℕ, suc, List, [], ◌∷◌, length, true, false, Option, Some, None, option_map, refl, sym, ◌∙◌, ap, subst}
use Rattle.std.specs.List.{AllByRecursion}
use Rattle.std.specs.Prelude.{IsUtf8}
use Rattle.std.proofs.lemmas.Option.{same_Some, none-some}
use Rattle.ild_data.specs.Data as T
use Rattle.ild_data.specs.Data.{Data, Items, Members, items_list, members_list}
use Rattle.ild_data.specs.Tree.{AreEntries, AreTrees, IsTree}
use Rattle.ild_data.proofs.Lists.{items_list-items_of}
use Rattle.ild_view_entries.specs.Forms.{ShowsMap}
use Rattle.ild_layer_piece.proofs.Searching.{all_then}
use Rattle.ild_schema.specs.Clear.{IsClear}
use Rattle.ild_schema.specs.Copies.{base}
use Rattle.ild_schema.specs.Legible.{IsLegible}
use Rattle.ild_schema.specs.Prelude.{anything}
use Rattle.ild_schema.specs.Slots.{form_of, plainly}
use Rattle.ild_schema.specs.Value as V
use Rattle.ild_schema.specs.Value.{Value, Values, Pairs, values_list, pairs_list}
use Rattle.ild_schema.specs.declared.def.MapForm.{MapForm}
use Rattle.ild_schema.specs.declared.def.MapForm.TheVariants as MF
use Rattle.ild_schema.specs.declared.def.TypeDef.{TypeDef}
use Rattle.ild_schema.specs.declared.def.TypeDef.TheVariants as D
use Rattle.ild_schema.specs.declared.number.Slot.{Slot}
use Rattle.ild_schema.specs.declared.number.TypeNo.{TypeNo}
use Rattle.ild_schema.specs.declared.row.Row.{Row}
use Rattle.ild_typed.specs.At.{InSlot, seen}
use Rattle.ild_typed.specs.Fits.{Front}
use Rattle.ild_typed.specs.Hamt.{alone}
use Rattle.ild_typed.specs.Holder.{Holder, any_holder, nothing}
use Rattle.ild_typed.specs.Layers.{RepresentsSome}
use Rattle.ild_typed.specs.Named.{items_in}
use Rattle.ild_typed.specs.OfType.{OfType}
use Rattle.ild_typed.specs.Pieces.{is_null_there}
use Rattle.ild_typed.specs.Represented.{represented, represented_pairs, represented_values}
use Rattle.ild_typed.specs.Strings.{members_in}
use Rattle.ild_typed.proofs.Basics.{map_from}
use Rattle.ild_typed.proofs.Entries.{both_from}
use Rattle.ild_view.proofs.Finding.{any_tree}
use Rattle.ild_view.proofs.Mapped.{shows_map}
use Rattle.ild_view.proofs.Opening.{front_list, front_map, is_hamt}
use Rattle.ild_view.proofs.Parting.{Fronts, Seen, any_fronts, seen_by, seen_in_map, seen_list, seen_map}
use Rattle.ild_view.specs.Beside.{AreBeside, AreKeyed, IsBeside}
use Rattle.ild_view.specs.Counted.{count_in}
use Rattle.ild_view.specs.Forms.{element_slot, entry_slot}
use Rattle.ild_view.specs.Ordered.{elements_in, entries_in, in_any, in_slot, keyed_any, keyed_in}
use Rattle.ild_view.specs.Safe.{is_safe}

beside_of : (rows : List Row) (u : Slot) (v : Value) (d : Data) → Fronts rows u v d → IsBeside rows u (u, v) d
beside_of rows u v d p = record { slot = refl; room = p.typed.0; front = record { fits = p.typed.1; tree = p.tree } }

-- ---- lists of parts

module _ (rows : List Row) (u : Slot) where
  pub elements_beside : (vs : Values) (ds : List Data) → represented_values alone rows u vs ≡ Some ds → AllByRecursion (OfType rows u) (values_list vs) → AreBeside rows u (in_slot u (values_list vs)) ds
  elements_beside V.no_values ds e fit = subst (AreBeside rows u []) (same_Some [] ds e) tt
  elements_beside (V.value v vs) ds e fit =
      let b = both_from (represented alone rows u v) (represented_values alone rows u vs) ds e in
      subst (AreBeside rows u (in_slot u (v ∷ values_list vs))) b.all (beside_of rows u v b.item (record { typed = fit.0; tree = b.first }), elements_beside vs b.items b.rest fit.1)

  keyed_beside : (ps : Pairs) (es : List (List ℕ × Data)) → represented_pairs alone rows u ps ≡ Some es → AllByRecursion (λ (p : List ℕ × Value). OfType rows u p.1) (pairs_list ps)
      → AreKeyed rows u (keyed_in u (pairs_list ps)) es
  keyed_beside V.no_pairs es e fit = subst (AreKeyed rows u []) (same_Some [] es e) tt
  keyed_beside (V.pair p v ps) es e fit =
      let b = both_from (option_map (λ d. (p, d)) (represented alone rows u v)) (represented_pairs alone rows u ps) es e in
      let x = map_from (λ d. (p, d)) (represented alone rows u v) b.item b.first in
      let first : (p, x.item) ≡ b.item = same_Some (p, x.item) b.item x.made in
      let all : (p, x.item) ∷ b.items ≡ es = ap (λ (z : List ℕ × Data). z ∷ b.items) first ∙ b.all in
      subst (AreKeyed rows u (keyed_in u ((p, v) ∷ pairs_list ps))) all (refl, beside_of rows u v x.item (record { typed = fit.0; tree = x.there }), keyed_beside ps b.items b.rest fit.1)

  pub beside_count : (vs : List Value) (ds : List Data) → AreBeside rows u (in_slot u vs) ds → length ds ≡ length vs
  beside_count [] [] h = refl
  beside_count [] (d ∷ ds) h = absurd h
  beside_count (v ∷ vs) [] h = absurd h
  beside_count (v ∷ vs) (d ∷ ds) h = ap suc (beside_count vs ds h.1)

  keyed_count : (ps : List (List ℕ × Value)) (es : List (List ℕ × Data)) → AreKeyed rows u (keyed_in u ps) es → length es ≡ length ps
  keyed_count [] [] h = refl
  keyed_count [] (e ∷ es) h = absurd h
  keyed_count (p ∷ ps) [] h = absurd h
  keyed_count (p ∷ ps) (e ∷ es) h = ap suc (keyed_count ps es h.2)

-- ---- data inside an Any

module _ (rows : List Row) (there : form_of rows anything ≡ Some D.Any) where
  any_items_beside : (ds : Items) → AreTrees ds → AreBeside rows anything (in_any (items_list ds)) (items_list ds)
  any_items_beside T.no_items all = tt
  any_items_beside (T.item d ds) all = (beside_of rows anything _ d (any_fronts rows there d all.0), any_items_beside ds all.1)

  any_members_beside : (ms : Members) → AreEntries ms → AreKeyed rows anything (keyed_any (members_list ms)) (members_list ms)
  any_members_beside T.no_members all = tt
  any_members_beside (T.member k d ms) all = (refl, beside_of rows anything _ d (any_fronts rows there d all.1), any_members_beside ms all.3)

-- ---- the elements of a front

-- elements of data beside those of a front, where there are any
abbrev pub ListsBeside : List Row → Slot → Option (List Data) → Option (List InSlot) → Type 0
ListsBeside rows u None None = Unit {0}
ListsBeside rows u (Some ds) (Some qs) = AreBeside rows u qs ds
ListsBeside rows u None (Some qs) = ⊥
ListsBeside rows u (Some ds) None = ⊥

abbrev pub MapsBeside : List Row → Slot → Option (List (List ℕ × Data)) → Option (List (List ℕ × InSlot)) → Type 0
MapsBeside rows u None None = Unit {0}
MapsBeside rows u (Some es) (Some qs) = AreKeyed rows u qs es
MapsBeside rows u None (Some qs) = ⊥
MapsBeside rows u (Some es) None = ⊥

module _ (rows : List Row) (there : form_of rows anything ≡ Some D.Any) where
  any_lists : (t : Data) → IsTree t → ListsBeside rows anything (items_in t) (elements_in (any_holder t))
  any_lists T.null tree = tt
  any_lists (T.boolean b) tree = tt
  any_lists (T.integer n) tree = tt
  any_lists (T.text s) tree = tt
  any_lists (T.bytes s) tree = tt
  any_lists (T.list ds) tree = any_items_beside rows there ds tree
  any_lists (T.map ms) tree = tt
  any_lists (T.link s) tree = tt

  any_maps : (t : Data) → IsTree t → MapsBeside rows anything (members_in t) (entries_in (any_holder t))
  any_maps T.null tree = tt
  any_maps (T.boolean b) tree = tt
  any_maps (T.integer n) tree = tt
  any_maps (T.text s) tree = tt
  any_maps (T.bytes s) tree = tt
  any_maps (T.list ds) tree = tt
  any_maps (T.map ms) tree = any_members_beside rows there ms tree
  any_maps (T.link s) tree = tt

module _ (rows : List Row) (clear : IsClear rows) (s : Slot) (safe : is_safe rows s ≡ true) (room : ℕ) (f : Value) (t : Data) (front : Front rows room s f t) (some : is_null_there s t ≡ false) where
  list_beside : (elem : Slot) (at : ℕ) → form_of rows s ≡ Some (D.List elem at) → ListsBeside rows elem (items_in t) (elements_in (seen rows (s, f)))
  list_beside elem at known =
      let x = front_list rows clear s safe room f t front some elem at known in
      let is : Some x.parts ≡ items_in t = ap Some (sym (items_list-items_of x.parts)) ∙ ap items_in (sym x.tree) in
      subst (λ h. ListsBeside rows elem (items_in t) (elements_in h)) (sym (seen_list rows clear s safe room f t front some elem at known))
      (subst (λ o. ListsBeside rows elem o (Some (in_slot elem (values_list x.items)))) is (elements_beside rows elem x.items x.parts x.there x.fit))

  any_list_beside : form_of rows anything ≡ Some D.Any → form_of rows s ≡ Some D.Any → ListsBeside rows anything (items_in t) (elements_in (seen rows (s, f)))
  any_list_beside any known =
      subst (λ h. ListsBeside rows anything (items_in t) (elements_in h)) (sym (seen_by rows clear s safe room f t front some D.Any known))
      (any_lists rows any t (any_tree rows clear s safe room f t front some known))

  pub elements_there : form_of rows anything ≡ Some D.Any → (d : TypeDef) → form_of rows s ≡ Some d → (u : Slot) → element_slot d ≡ Some u → ListsBeside rows u (items_in t) (elements_in (seen rows (s, f)))
  elements_there any (D.List elem at) known u e = subst (λ k. ListsBeside rows k (items_in t) (elements_in (seen rows (s, f)))) (same_Some elem u e) (list_beside elem at known)
  elements_there any D.Any known u e = subst (λ k. ListsBeside rows k (items_in t) (elements_in (seen rows (s, f)))) (same_Some anything u e) (any_list_beside any known)
  elements_there any d known u e = absurd (none-some u e)

  pub no_elements : (d : TypeDef) → Seen rows clear s safe room f t front d → element_slot d ≡ None → elements_in (seen rows (s, f)) ≡ None
  no_elements (D.List elem at) x e = absurd (none-some elem (sym e))
  no_elements D.Any x e = absurd (none-some anything (sym e))
  no_elements (D.Map key key_at value at MF.Map) x e = ap elements_in x.1
  no_elements (D.Map key key_at value at MF.ListPairs) x e = ap elements_in x.1
  no_elements (D.Map key key_at value at (MF.StringPairs inner entry)) x e = ap elements_in x.1
  no_elements (D.Map key key_at value at (MF.Hamt p)) x e = ap elements_in x
  no_elements (D.Struct def) x e = ap elements_in x.1
  no_elements (D.Union def) x e = ap elements_in x.2
  no_elements D.Bool x e = ap elements_in x.1
  no_elements D.Text x e = ap elements_in x.1
  no_elements D.Bytes x e = ap elements_in x.1
  no_elements D.Int x e = ap elements_in x.1
  no_elements (D.Link target) x e = ap elements_in x.1
  no_elements (D.Unit form) x e = ap elements_in x.1
  no_elements (D.Enum def) x e = ap elements_in x.1
  no_elements (D.Copy target) x e = ap elements_in x.1

-- ---- the entries of a front

-- what a map's form shows of entries, beside what holds them: of a HAMT nothing
abbrev pub FormKeyed : List Row → Slot → MapForm → List (List ℕ × Data) → Holder → Type 0
FormKeyed rows u (MF.Hamt p) es h = (entries_in h ≡ None) × (count_in h ≡ None)
FormKeyed rows u form es h = MapsBeside rows u (Some es) (entries_in h) × (count_in h ≡ Some (length es))

pub record MapAt (rows : List Row) (u : Slot) (form : MapForm) (t : Data) (h : Holder) : Type 0 where
  pub parts : List (List ℕ × Data)
  pub shows : ShowsMap form parts t
  pub keyed : FormKeyed rows u form parts h

module _ (rows : List Row) (legible : IsLegible rows) (s : Slot) (safe : is_safe rows s ≡ true) (room : ℕ) (f : Value) (t : Data) (front : Front rows room s f t) (some : is_null_there s t ≡ false) where
  record Shown (u : Slot) (form : MapForm) : Type 0 where
    parts : List (List ℕ × Data)
    shows : ShowsMap form parts t
    beside : MapsBeside rows u (Some parts) (entries_in (seen rows (s, f)))
    count : count_in (seen rows (s, f)) ≡ Some (length parts)

  map_beside : (key : TypeNo) (key_at : ℕ) (value : Slot) (at : ℕ) (form : MapForm) → is_hamt form ≡ false → form_of rows s ≡ Some (D.Map key key_at value at form) → Shown value form
  map_beside key key_at value at form plain known =
      let d = D.Map key key_at value at form in
      let x = front_map rows legible.clear s safe room f t front some key key_at value at form plain known in
      let there = seen_map rows legible.clear s safe room f t front some key key_at value at form plain known in
      let beside = keyed_beside rows value x.items x.parts x.there
      (all_then (λ (p : List ℕ × Value). IsUtf8 p.0 × RepresentsSome (OfType rows) rows (plainly key) (T.text p.0) × OfType rows value p.1) (λ (p : List ℕ × Value). OfType rows value p.1) (pairs_list x.items) (λ p h. h.2) x.fit.1) in
      record {
        parts = x.parts;
        shows = shows_map form x.parts t (legible.clear.types (base rows s.ty.0) d known) (legible.delims (base rows s.ty.0) d known) plain x.made;
        beside = subst (λ h. MapsBeside rows value (Some x.parts) (entries_in h)) (sym there) beside;
        count = ap count_in there ∙ ap Some (sym (keyed_count rows value (pairs_list x.items) x.parts beside));
      }

  pub map_at : (key : TypeNo) (key_at : ℕ) (value : Slot) (at : ℕ) (form : MapForm) → form_of rows s ≡ Some (D.Map key key_at value at form) → MapAt rows value form t (seen rows (s, f))
  map_at key key_at value at MF.Map known = let x = map_beside key key_at value at MF.Map refl known in record { parts = x.parts; shows = x.shows; keyed = (x.beside, x.count) }
  map_at key key_at value at MF.ListPairs known = let x = map_beside key key_at value at MF.ListPairs refl known in record { parts = x.parts; shows = x.shows; keyed = (x.beside, x.count) }
  map_at key key_at value at (MF.StringPairs inner entry) known =
      let x = map_beside key key_at value at (MF.StringPairs inner entry) refl known in record { parts = x.parts; shows = x.shows; keyed = (x.beside, x.count) }
  map_at key key_at value at (MF.Hamt p) known =
      let is : seen rows (s, f) ≡ nothing (V.hamt t) = seen_in_map rows legible.clear s safe room f t front some key key_at value at (MF.Hamt p) known in
      record { parts = []; shows = refl; keyed = (ap entries_in is, ap count_in is) }

  pub any_map_beside : form_of rows anything ≡ Some D.Any → form_of rows s ≡ Some D.Any → MapsBeside rows anything (members_in t) (entries_in (seen rows (s, f)))
  any_map_beside any known =
      subst (λ h. MapsBeside rows anything (members_in t) (entries_in h)) (sym (seen_by rows legible.clear s safe room f t front some D.Any known))
      (any_maps rows any t (any_tree rows legible.clear s safe room f t front some known))

  pub no_entries : (d : TypeDef) → Seen rows legible.clear s safe room f t front d → entry_slot d ≡ None → entries_in (seen rows (s, f)) ≡ None
  no_entries (D.List elem at) x e = ap entries_in x.1
  no_entries D.Any x e = absurd (none-some anything (sym e))
  no_entries (D.Map key key_at value at MF.Map) x e = absurd (none-some value (sym e))
  no_entries (D.Map key key_at value at MF.ListPairs) x e = absurd (none-some value (sym e))
  no_entries (D.Map key key_at value at (MF.StringPairs inner entry)) x e = absurd (none-some value (sym e))
  no_entries (D.Map key key_at value at (MF.Hamt p)) x e = ap entries_in x
  no_entries (D.Struct def) x e = ap entries_in x.1
  no_entries (D.Union def) x e = ap entries_in x.2
  no_entries D.Bool x e = ap entries_in x.1
  no_entries D.Text x e = ap entries_in x.1
  no_entries D.Bytes x e = ap entries_in x.1
  no_entries D.Int x e = ap entries_in x.1
  no_entries (D.Link target) x e = ap entries_in x.1
  no_entries (D.Unit form) x e = ap entries_in x.1
  no_entries (D.Enum def) x e = ap entries_in x.1
  no_entries (D.Copy target) x e = ap entries_in x.1
