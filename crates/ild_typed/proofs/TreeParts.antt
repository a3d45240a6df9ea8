-- What fits, read off layer by layer; and the data of parts that are trees.
use Rattle.std.proofs.Common.{◌≡◌, ℕ, List, [], ◌∷◌, Option, Some, None, option_map, IsUtf8, refl, subst, inl, inr}
use Rattle.std.specs.Prelude.{ℤ, IsSomeAnd, slice_get}
use Rattle.std.specs.List.{AllByRecursion}
use Rattle.std.proofs.lemmas.Option.{same_Some, none-some}
use Rattle.ild_data.specs.Data as T
use Rattle.ild_data.specs.Data.{Data}
use Rattle.ild_data.specs.Key.{IsBelow, Rises}
use Rattle.ild_data.specs.Tree.{IsTree}
use Rattle.ild_data.specs.Integer.{IsInt}
use Rattle.ild_data.specs.Bytes.{AreBytes}
use Rattle.ild_data.specs.Cid.{IsCid}
use Rattle.ild_schema.specs.declared.number.Slot.{Slot}
use Rattle.ild_schema.specs.declared.number.TypeNo.{TypeNo}
use Rattle.ild_schema.specs.declared.def.TypeDef.{TypeDef}
use Rattle.ild_schema.specs.declared.def.TypeDef.TheVariants as D
use Rattle.ild_schema.specs.declared.def.MapForm.{MapForm}
use Rattle.ild_schema.specs.declared.def.MapForm.TheVariants as MF
use Rattle.ild_schema.specs.declared.def.Field.{Field}
use Rattle.ild_schema.specs.declared.def.Member.{Member}
use Rattle.ild_schema.specs.declared.row.Row.{Row}
use Rattle.ild_schema.specs.Value as V
use Rattle.ild_schema.specs.Value.{Value, Values, Pairs, Optionals, values_list, pairs_list, optionals_list}
use Rattle.ild_typed.specs.Layer as L
use Rattle.ild_typed.specs.Layer.{Layer, as_map, as_hamt}
use Rattle.ild_schema.specs.Slots.{plainly}
use Rattle.ild_typed.specs.Slots.{slot_of, element_of, fields_of, member_at}
use Rattle.ild_typed.specs.Composed.{Hamts}
use Rattle.ild_typed.specs.Represented.{represented, represented_values, represented_pairs, represented_fields}
use Rattle.ild_typed.specs.Layers.{AreKeys, RepresentsSome, FieldsFit, EntriesFit, RootFits, MapFits, LayerFits}
use Rattle.ild_typed.specs.Nested.{TreeIn}
use Rattle.ild_typed.proofs.Basics.{map_from}
use Rattle.ild_typed.proofs.Entries.{both_from}
use Rattle.ild_typed.proofs.Treed.{EntryIn, MaybeIn}

-- ---- what fits

-- the keys of a map's entries
abbrev pub KeysFit : TypeDef → List (List ℕ × Value) → Type 0
KeysFit (D.Map key key_at value place form) ps = AreKeys form ps
KeysFit d ps = Unit {0}

abbrev pub RootOf : (Slot → Value → Type 0) → List Row → TypeDef → Data → Type 0
RootOf fits rows (D.Map key key_at value place (MF.Hamt p)) x = RootFits fits rows p key value x
RootOf fits rows d x = ⊥

module _ (fits : Slot → Value → Type 0) (rows : List Row) where
  no_map : (key : TypeNo) (value : Slot) (form : MapForm) (l : Layer Value) → as_map l ≡ None → as_hamt l ≡ None → MapFits fits rows key value form l → ⊥
  no_map key value MF.Map l a b h = subst (λ o. IsSomeAnd o (EntriesFit fits rows key value MF.Map)) a h
  no_map key value MF.ListPairs l a b h = subst (λ o. IsSomeAnd o (EntriesFit fits rows key value MF.ListPairs)) a h
  no_map key value (MF.StringPairs i e) l a b h = subst (λ o. IsSomeAnd o (EntriesFit fits rows key value (MF.StringPairs i e))) a h
  no_map key value (MF.Hamt p) l a b (inl h) = subst (λ o. IsSomeAnd o (EntriesFit fits rows key value (MF.Hamt p))) a h
  no_map key value (MF.Hamt p) l a b (inr h) = subst (λ o. IsSomeAnd o (RootFits fits rows p key value)) b h

  -- the parts of a layer fit in the slots that the type has for them
  pub record ListFit (d : TypeDef) (xs : List Value) : Type 0 where
    pub slot : Slot
    pub is : element_of (Some d) ≡ Some slot
    pub each : AllByRecursion (fits slot) xs

  pub record MapFit (d : TypeDef) (ps : List (List ℕ × Value)) : Type 0 where
    pub slot : Slot
    pub is : element_of (Some d) ≡ Some slot
    pub each : AllByRecursion (λ p. IsUtf8 p.0 × fits slot p.1) ps
    pub keys : KeysFit d ps

  pub record UnionFit (d : TypeDef) (n : ℕ) (v : Value) : Type 0 where
    pub member : Member
    pub is : member_at (Some d) n ≡ Some member
    pub holds : fits (slot_of member) v

  pub list_fits : (d : TypeDef) (xs : List Value) → LayerFits fits rows d (L.list xs) → ListFit d xs
  list_fits (D.List elem place) xs h = record { slot = elem; is = refl; each = h }
  list_fits (D.Map key key_at value place form) xs h = absurd (no_map key value form (L.list xs) refl refl h)
  list_fits d xs h = absurd h

  pub struct_fits : (d : TypeDef) (xs : List (Option Value)) → LayerFits fits rows d (L.struct xs) → FieldsFit fits (fields_of (Some d)) xs
  struct_fits (D.Struct s) xs h = h
  struct_fits (D.Map key key_at value place form) xs h = absurd (no_map key value form (L.struct xs) refl refl h)
  struct_fits d xs h = absurd h

  pub union_fits : (d : TypeDef) (n : ℕ) (v : Value) → LayerFits fits rows d (L.union n v) → UnionFit d n v
  union_fits (D.Union u) n v h = by (slice_get u.members n) refl h where
    by : (o : Option Member) → slice_get u.members n ≡ o → IsSomeAnd o (λ m. fits (plainly m.ty) v) → UnionFit (D.Union u) n v
    by None is h = absurd h
    by (Some m) is h = record { member = m; is = is; holds = h }
  union_fits (D.Map key key_at value place form) n v h = absurd (no_map key value form (L.union n v) refl refl h)
  union_fits d n v h = absurd h

  -- an entry: its key is a text, and its value fits
  entries_fit : (key : TypeNo) (value : Slot) (ps : List (List ℕ × Value))
      → AllByRecursion (λ p. IsUtf8 p.0 × RepresentsSome fits rows (plainly key) (T.text p.0) × fits value p.1) ps → AllByRecursion (λ p. IsUtf8 p.0 × fits value p.1) ps
  entries_fit key value [] h = tt
  entries_fit key value (p ∷ ps) h = ((h.0.0, h.0.2), entries_fit key value ps h.1)

  form_fits : (key : TypeNo) (value : Slot) (form : MapForm) (ps : List (List ℕ × Value)) → MapFits fits rows key value form (L.map ps)
      → AllByRecursion (λ p. IsUtf8 p.0 × fits value p.1) ps × AreKeys form ps
  form_fits key value MF.Map ps h = (entries_fit key value ps h.1, h.0)
  form_fits key value MF.ListPairs ps h = (entries_fit key value ps h.1, h.0)
  form_fits key value (MF.StringPairs i e) ps h = (entries_fit key value ps h.1, h.0)
  form_fits key value (MF.Hamt p) ps (inl h) = (entries_fit key value ps h.1, h.0)
  form_fits key value (MF.Hamt p) ps (inr h) = absurd h

  pub map_fits : (d : TypeDef) (ps : List (List ℕ × Value)) → LayerFits fits rows d (L.map ps) → MapFit d ps
  map_fits (D.Map key key_at value place form) ps h =
      let x = form_fits key value form ps h in record { slot = value; is = refl; each = x.0; keys = x.1 }
  map_fits d ps h = absurd h

  root_fits : (key : TypeNo) (key_at : ℕ) (value : Slot) (place : ℕ) (form : MapForm) (x : Data) → MapFits fits rows key value form (L.hamt x) → RootOf fits rows (D.Map key key_at value place form) x
  root_fits key key_at value place (MF.Hamt p) x (inl h) = absurd h
  root_fits key key_at value place (MF.Hamt p) x (inr h) = h
  root_fits key key_at value place form x h = absurd h

  pub hamt_fits : (d : TypeDef) (x : Data) → LayerFits fits rows d (L.hamt x) → RootOf fits rows d x
  hamt_fits (D.Map key key_at value place form) x h = root_fits key key_at value place form x h
  hamt_fits d x h = absurd h

  pub no_type_map : (d : TypeDef) (l : Layer Value) → as_map l ≡ None → as_hamt l ≡ None → LayerFits fits rows d l → (key : TypeNo) (key_at : ℕ) (value : Slot) (place : ℕ) (form : MapForm)
      → d ≡ D.Map key key_at value place form → ⊥
  no_type_map d l a b h key key_at value place form is = no_map key value form l a b (subst (λ c. LayerFits fits rows c l) is h)

  pub text_fits : (d : TypeDef) (s : List ℕ) → LayerFits fits rows d (L.text s) → IsUtf8 s
  text_fits D.Text s h = h
  text_fits (D.Map key key_at value place form) s h = absurd (no_map key value form (L.text s) refl refl h)
  text_fits d s h = absurd h

  pub bytes_fit : (d : TypeDef) (s : List ℕ) → LayerFits fits rows d (L.bytes s) → AreBytes s
  bytes_fit D.Bytes s h = h
  bytes_fit (D.Map key key_at value place form) s h = absurd (no_map key value form (L.bytes s) refl refl h)
  bytes_fit d s h = absurd h

  pub link_fits : (d : TypeDef) (s : List ℕ) → LayerFits fits rows d (L.link s) → IsCid s × AreBytes s
  link_fits (D.Link target) s h = h
  link_fits (D.Map key key_at value place form) s h = absurd (no_map key value form (L.link s) refl refl h)
  link_fits d s h = absurd h

  pub int_fits : (d : TypeDef) (n : ℤ) → LayerFits fits rows d (L.integer n) → IsInt n
  int_fits D.Int n h = h
  int_fits (D.Map key key_at value place form) n h = absurd (no_map key value form (L.integer n) refl refl h)
  int_fits d n h = absurd h

  pub any_fits : (d : TypeDef) (x : Data) → LayerFits fits rows d (L.any x) → IsTree x
  any_fits D.Any x h = h.0
  any_fits (D.Map key key_at value place form) x h = absurd (no_map key value form (L.any x) refl refl h)
  any_fits d x h = absurd h

-- ---- the data of parts

module _ (at : Hamts) (rows : List Row) where
  below_pairs : (k : List ℕ) (s : Slot) (ps : Pairs) (ds : List (List ℕ × Data)) → IsBelow k (pairs_list ps) → represented_pairs at rows s ps ≡ Some ds → IsBelow k ds
  below_pairs k s V.no_pairs ds up e = subst (IsBelow k) (same_Some [] ds e) tt
  below_pairs k s (V.pair q v ps) ds up e =
      let b = both_from (option_map {U = List ℕ × Data} (λ d. (q, d)) (represented at rows s v)) (represented_pairs at rows s ps) ds e in
      let x = map_from {B = List ℕ × Data} (λ d. (q, d)) (represented at rows s v) b.item b.first in
      subst (IsBelow k) b.all (subst (λ (c : List ℕ × Data). IsBelow k (c ∷ b.items)) (same_Some (q, x.item) b.item x.made) up)

  -- the keys are the same
  pub rises_pairs : (s : Slot) (ps : Pairs) (ds : List (List ℕ × Data)) → Rises (pairs_list ps) → represented_pairs at rows s ps ≡ Some ds → Rises ds
  rises_pairs s V.no_pairs ds up e = subst Rises (same_Some [] ds e) tt
  rises_pairs s (V.pair q v ps) ds up e =
      let b = both_from (option_map {U = List ℕ × Data} (λ d. (q, d)) (represented at rows s v)) (represented_pairs at rows s ps) ds e in
      let x = map_from {B = List ℕ × Data} (λ d. (q, d)) (represented at rows s v) b.item b.first in
      let first : IsBelow b.item.0 b.items = subst (λ (c : List ℕ × Data). IsBelow c.0 b.items) (same_Some (q, x.item) b.item x.made) (below_pairs q s ps b.items up.0 b.rest) in
      subst Rises b.all (first, rises_pairs s ps b.items up.1 b.rest)

  module _ (fits : Slot → Value → Type 0) (n : ℕ) (good : (s : Slot) (v : Value) (t : Data) → fits s v → represented at rows s v ≡ Some t → TreeIn n t) where
    pub values_in : (s : Slot) (vs : Values) (ds : List Data) → AllByRecursion (fits s) (values_list vs) → represented_values at rows s vs ≡ Some ds → AllByRecursion (TreeIn n) ds
    values_in s V.no_values ds all e = subst (AllByRecursion (TreeIn n)) (same_Some [] ds e) tt
    values_in s (V.value v vs) ds all e =
        let b = both_from (represented at rows s v) (represented_values at rows s vs) ds e in
        subst (AllByRecursion (TreeIn n)) b.all (good s v b.item all.0 b.first, values_in s vs b.items all.1 b.rest)

    pub pairs_in : (s : Slot) (ps : Pairs) (ds : List (List ℕ × Data)) → AllByRecursion (λ p. IsUtf8 p.0 × fits s p.1) (pairs_list ps) → represented_pairs at rows s ps ≡ Some ds → AllByRecursion (EntryIn n) ds
    pairs_in s V.no_pairs ds all e = subst (AllByRecursion (EntryIn n)) (same_Some [] ds e) tt
    pairs_in s (V.pair q v ps) ds all e =
        let b = both_from (option_map {U = List ℕ × Data} (λ d. (q, d)) (represented at rows s v)) (represented_pairs at rows s ps) ds e in
        let x = map_from {B = List ℕ × Data} (λ d. (q, d)) (represented at rows s v) b.item b.first in
        let first : EntryIn n b.item = subst (EntryIn n) (same_Some (q, x.item) b.item x.made) (all.0.0, good s v x.item all.0.1 x.there) in
        subst (AllByRecursion (EntryIn n)) b.all (first, pairs_in s ps b.items all.1 b.rest)

    pub fields_in : (fs : List Field) (os : Optionals) (ds : List (Option Data)) → FieldsFit fits fs (optionals_list os) → represented_fields at rows fs os ≡ Some ds → AllByRecursion (MaybeIn n) ds
    fields_in fs V.no_optionals ds all e = subst (AllByRecursion (MaybeIn n)) (same_Some [] ds e) tt
    fields_in [] (V.absent os) ds all e = absurd (none-some ds e)
    fields_in [] (V.present v os) ds all e = absurd (none-some ds e)
    fields_in (f ∷ fs) (V.absent os) ds all e =
        let b = map_from (λ xs. None ∷ xs) (represented_fields at rows fs os) ds e in
        subst (AllByRecursion (MaybeIn n)) (same_Some (None ∷ b.item) ds b.made) (tt, fields_in fs os b.item all.1 b.there)
    fields_in (f ∷ fs) (V.present v os) ds all e =
        let b = both_from (option_map Some (represented at rows f.slot v)) (represented_fields at rows fs os) ds e in
        let x = map_from Some (represented at rows f.slot v) b.item b.first in
        let first : MaybeIn n b.item = subst (MaybeIn n) (same_Some (Some x.item) b.item x.made) (good f.slot v x.item all.0 x.there) in
        subst (AllByRecursion (MaybeIn n)) b.all (first, fields_in fs os b.items all.1 b.rest)
