-- A value that has a representation is whole, has no hole, breaks no delimiter and exhausts no HAMT.
use Rattle.std.proofs.Common.{◌≡◌, ℕ, List, [], ◌∷◌, Bool, true, false, ◌&&◌, Option, Some, None, option_map, refl, sym, ◌∙◌, ap, subst}
use Rattle.std.specs.Prelude.{option_and_then, is_none}
use Rattle.std.proofs.lemmas.Option.{same_Some, none-some}
use Rattle.std.proofs.lemmas.Bool.{or_from, and_from, and_parts}
use Rattle.ild_data.specs.Data as T
use Rattle.ild_data.specs.Data.{Data}
use Rattle.ild_schema.specs.declared.number.Slot.{Slot}
use Rattle.ild_schema.specs.declared.def.TypeDef.{TypeDef}
use Rattle.ild_schema.specs.declared.def.TypeDef.TheVariants as D
use Rattle.ild_schema.specs.declared.def.MapForm.{MapForm}
use Rattle.ild_schema.specs.declared.def.MapForm.TheVariants as MF
use Rattle.ild_schema.specs.declared.def.StructForm.{StructForm}
use Rattle.ild_schema.specs.declared.def.StructForm.TheVariants as S
use Rattle.ild_schema.specs.declared.def.Field.{Field}
use Rattle.ild_schema.specs.declared.row.Row.{Row}
use Rattle.ild_schema.specs.Value as V
use Rattle.ild_schema.specs.Value.{Value, Values, Pairs, Optionals}
use Rattle.ild_typed.specs.Layer as L
use Rattle.ild_typed.specs.Texts.{join, join_pairs}
use Rattle.ild_typed.specs.Fields.{field_entries, are_absent, tuple_items, all_items}
use Rattle.ild_typed.specs.Strings.{texts_in, text_pairs, stringpairs, stringjoin}
use Rattle.ild_typed.specs.Slots.{element_of, fields_of, member_of}
use Rattle.ild_data.specs.Trie.{trie}
use Rattle.ild_typed.specs.Composed.{composed, map_form, struct_form}
use Rattle.ild_typed.specs.Hamt.{root_map, whole, alone}
use Rattle.ild_typed.specs.Represented.{represented, represented_values, represented_pairs, represented_fields}
use Rattle.ild_schema.specs.Whole.{is_whole, are_whole, pairs_whole, fields_whole}
use Rattle.ild_typed.specs.Judged.{some_present, hole_in, tuple_hole, is_hole, is_refused, struct_breaks, map_breaks, breaks, map_exhausts, is_exhausted}
use Rattle.ild_typed.specs.EachLayer.{some_layer, some_value, some_pair, some_field}
use Rattle.ild_typed.proofs.PartData.{pairs_data, member_data, values_data, values_test, pairs_test, member_test, given_false}
use Rattle.ild_typed.proofs.Basics.{then_from, map_from, true_from}
use Rattle.ild_typed.proofs.Entries.{both_from}
use Rattle.ild_typed.proofs.Flat.{stringpairs_flat, struct_pairs_flat, struct_join_flat, pairs_alone, fields_alone}
use Rattle.ild_typed.proofs.OneValue.{Way, as_null, as_layer, way_of}
use Rattle.ild_typed.proofs.MakingValues.{layer_test, Sound, SoundValues, SoundPairs, SoundFields}

made_not_refused : {A : Type 0} (f : A → Option (List ℕ)) (o : Option A) (a : A) (s : List ℕ) → o ≡ Some a → f a ≡ Some s → is_refused f o ≡ false
made_not_refused f o a s is made = ap (is_refused f) is ∙ ap is_none made

-- ---- one layer

stringpairs_sound : (inner entry : List ℕ) (o : Option (List (List ℕ × Data))) (t : Data) → option_and_then (stringpairs inner entry) o ≡ Some t → is_refused (join_pairs inner entry) (option_and_then text_pairs o) ≡ false
stringpairs_sound inner entry o t e =
    let x = then_from (stringpairs inner entry) o t e in
    let y = map_from T.text (option_and_then (join_pairs inner entry) (text_pairs x.item)) t x.made in
    let z = then_from (join_pairs inner entry) (text_pairs x.item) y.item y.there in
    made_not_refused (join_pairs inner entry) (option_and_then text_pairs o) z.item y.item (ap (option_and_then text_pairs) x.there ∙ z.there) z.made

stringjoin_sound : (delim : List ℕ) (o : Option (List Data)) (t : Data) → option_and_then (stringjoin delim) o ≡ Some t → is_refused (join delim) (option_and_then texts_in o) ≡ false
stringjoin_sound delim o t e =
    let x = then_from (stringjoin delim) o t e in
    let y = map_from T.text (option_and_then (join delim) (texts_in x.item)) t x.made in
    let z = then_from (join delim) (texts_in x.item) y.item y.there in
    made_not_refused (join delim) (option_and_then texts_in o) z.item y.item (ap (option_and_then texts_in) x.there ∙ z.there) z.made

struct_sound : (form : StructForm) (fs : List Field) (o : Option (List (Option Data))) (ds : List (Option Data)) (t : Data) → o ≡ Some ds → struct_form form fs ds ≡ Some t → struct_breaks form fs o ≡ false
struct_sound S.Map fs o ds t is e = refl
struct_sound S.Tuple fs o ds t is e = refl
struct_sound S.ListPairs fs o ds t is e = refl
struct_sound (S.StringPairs inner entry) fs o ds t is e = stringpairs_sound inner entry (option_and_then (field_entries fs) o) t (ap (λ p. option_and_then (stringpairs inner entry) (option_and_then (field_entries fs) p)) is ∙ e)
struct_sound (S.StringJoin delim) fs o ds t is e = stringjoin_sound delim (option_and_then (all_items fs) o) t (ap (λ p. option_and_then (stringjoin delim) (option_and_then (all_items fs) p)) is ∙ e)

map_full : (h : List ℕ → List ℕ) (form : MapForm) (o : Option (List (List ℕ × Data))) (ds : List (List ℕ × Data)) (t : Data) → o ≡ Some ds → map_form (whole h) form (L.map ds) ≡ Some t → map_exhausts h form o ≡ false
map_full h MF.Map o ds t is e = refl
map_full h MF.ListPairs o ds t is e = refl
map_full h (MF.StringPairs inner entry) o ds t is e = refl
map_full h (MF.Hamt p) o ds t is e = let x = map_from (root_map p) (trie h p ds 0) t e in ap (map_exhausts h (MF.Hamt p)) is ∙ ap is_none x.there

module _ (h : List ℕ → List ℕ) (rows : List Row) where
  map_joined : (form : MapForm) (s : Slot) (ps : Pairs) (ds : List (List ℕ × Data)) (t : Data) → represented_pairs (whole h) rows s ps ≡ Some ds → map_form (whole h) form (L.map ds) ≡ Some t
      → map_breaks form (represented_pairs alone rows s ps) ≡ false
  map_joined MF.Map s ps ds t e k = refl
  map_joined MF.ListPairs s ps ds t e k = refl
  map_joined (MF.StringPairs inner entry) s ps ds t e k =
      stringpairs_sound inner entry (represented_pairs alone rows s ps) t (ap (option_and_then (stringpairs inner entry)) (pairs_alone h rows s ps ds e (stringpairs_flat inner entry ds t k)) ∙ k)
  map_joined (MF.Hamt p) s ps ds t e k = refl

  struct_joined : (form : StructForm) (fs : List Field) (os : Optionals) (ds : List (Option Data)) (t : Data) → represented_fields (whole h) rows fs os ≡ Some ds → struct_form form fs ds ≡ Some t
      → struct_breaks form fs (represented_fields alone rows fs os) ≡ false
  struct_joined S.Map fs os ds t e k = refl
  struct_joined S.Tuple fs os ds t e k = refl
  struct_joined S.ListPairs fs os ds t e k = refl
  struct_joined (S.StringPairs inner entry) fs os ds t e k =
      struct_sound (S.StringPairs inner entry) fs (represented_fields alone rows fs os) ds t (fields_alone h rows fs os ds e (struct_pairs_flat inner entry fs ds t k)) k
  struct_joined (S.StringJoin delim) fs os ds t e k = struct_sound (S.StringJoin delim) fs (represented_fields alone rows fs os) ds t (fields_alone h rows fs os ds e (struct_join_flat delim fs ds t k)) k

  absent_some : (fs : List Field) (os : Optionals) (ds : List (Option Data)) → represented_fields (whole h) rows fs os ≡ Some ds → are_absent fs ds ≡ true → some_present os ≡ false
  absent_some fs V.no_optionals ds e k = refl
  absent_some [] (V.absent os) ds e k = absurd (none-some ds e)
  absent_some [] (V.present v os) ds e k = absurd (none-some ds e)
  absent_some (f ∷ fs) (V.absent os) ds e k =
      let b = map_from (λ xs. None ∷ xs) (represented_fields (whole h) rows fs os) ds e in
      let both : (f.optional && are_absent fs b.item) ≡ true = ap (are_absent (f ∷ fs)) (same_Some (None ∷ b.item) ds b.made) ∙ k in
      absent_some fs os b.item b.there (and_parts f.optional (are_absent fs b.item) both).1
  absent_some (f ∷ fs) (V.present v os) ds e k =
      let b = both_from (option_map Some (represented (whole h) rows f.slot v)) (represented_fields (whole h) rows fs os) ds e in
      let x = map_from Some (represented (whole h) rows f.slot v) b.item b.first in
      let never : false ≡ true = ap (are_absent (f ∷ fs)) (ap (λ o. o ∷ b.items) (same_Some (Some x.item) b.item x.made) ∙ b.all) ∙ k in
      absurd cc

  tuple_sound : (fs : List Field) (os : Optionals) (ds : List (Option Data)) (items : List Data) → represented_fields (whole h) rows fs os ≡ Some ds → tuple_items fs ds ≡ Some items → hole_in os ≡ false
  tuple_sound fs V.no_optionals ds items e k = refl
  tuple_sound [] (V.absent os) ds items e k = absurd (none-some ds e)
  tuple_sound [] (V.present v os) ds items e k = absurd (none-some ds e)
  tuple_sound (f ∷ fs) (V.absent os) ds items e k =
      let b = map_from (λ xs. None ∷ xs) (represented_fields (whole h) rows fs os) ds e in
      let here : tuple_items (f ∷ fs) (None ∷ b.item) ≡ Some items = ap (tuple_items (f ∷ fs)) (same_Some (None ∷ b.item) ds b.made) ∙ k in
      let all : (f.optional && are_absent fs b.item) ≡ true = (true_from (are_absent (f ∷ fs) (None ∷ b.item)) [] items here).0 in
      absent_some fs os b.item b.there (and_parts f.optional (are_absent fs b.item) all).1
  tuple_sound (f ∷ fs) (V.present v os) ds items e k =
      let b = both_from (option_map Some (represented (whole h) rows f.slot v)) (represented_fields (whole h) rows fs os) ds e in
      let x = map_from Some (represented (whole h) rows f.slot v) b.item b.first in
      let here : tuple_items (f ∷ fs) (Some x.item ∷ b.items) ≡ Some items = ap (tuple_items (f ∷ fs)) (ap (λ o. o ∷ b.items) (same_Some (Some x.item) b.item x.made) ∙ b.all) ∙ k in
      let y = map_from (λ xs. x.item ∷ xs) (tuple_items fs b.items) items here in
      tuple_sound fs os b.items y.item b.rest y.there

  hole_sound : (form : StructForm) (fs : List Field) (os : Optionals) (ds : List (Option Data)) (t : Data) → represented_fields (whole h) rows fs os ≡ Some ds → struct_form form fs ds ≡ Some t → tuple_hole form os ≡ false
  hole_sound S.Tuple fs os ds t e k = let x = map_from (λ xs. T.list (T.items_of xs)) (tuple_items fs ds) t k in tuple_sound fs os ds x.item e x.there
  hole_sound S.Map fs os ds t e k = refl
  hole_sound S.ListPairs fs os ds t e k = refl
  hole_sound (S.StringPairs inner entry) fs os ds t e k = refl
  hole_sound (S.StringJoin delim) fs os ds t e k = refl

  -- the three tests at one layer
  record LayerSound (d : TypeDef) (v : Value) : Type 0 where
    hole : is_hole (Some d) v ≡ false
    delimiter : breaks rows (Some d) v ≡ false
    full : is_exhausted h rows (Some d) v ≡ false

  list_layer : (d : TypeDef) (vs : Values) → LayerSound d (V.list vs)
  list_layer (D.Struct s) vs = record { hole = refl; delimiter = refl; full = refl }
  list_layer (D.Map key key_at value place form) vs = record { hole = refl; delimiter = refl; full = refl }
  list_layer d vs = record { hole = refl; delimiter = refl; full = refl }

  union_layer : (d : TypeDef) (n : ℕ) (v : Value) → LayerSound d (V.union n v)
  union_layer (D.Struct s) n v = record { hole = refl; delimiter = refl; full = refl }
  union_layer (D.Map key key_at value place form) n v = record { hole = refl; delimiter = refl; full = refl }
  union_layer d n v = record { hole = refl; delimiter = refl; full = refl }

  map_layer : (d : TypeDef) (ps : Pairs) (ds : List (List ℕ × Data)) (t : Data) → pairs_data (whole h) rows (element_of (Some d)) ps ≡ Some ds → composed (whole h) d (L.map ds) ≡ Some t → LayerSound d (V.map ps)
  map_layer (D.Map key key_at value place form) ps ds t e k =
      record { hole = refl; delimiter = map_joined form value ps ds t e k; full = map_full h form (represented_pairs (whole h) rows value ps) ds t e k }
  map_layer (D.Struct s) ps ds t e k = record { hole = refl; delimiter = refl; full = refl }
  map_layer d ps ds t e k = record { hole = refl; delimiter = refl; full = refl }

  struct_layer : (d : TypeDef) (os : Optionals) (ds : List (Option Data)) (t : Data) → represented_fields (whole h) rows (fields_of (Some d)) os ≡ Some ds → composed (whole h) d (L.struct ds) ≡ Some t → LayerSound d (V.struct os)
  struct_layer (D.Struct s) os ds t e k = record {
    hole = hole_sound s.form s.fields os ds t e k;
    delimiter = struct_joined s.form s.fields os ds t e k;
    full = refl;
  }
  struct_layer (D.Map key key_at value place form) os ds t e k = record { hole = refl; delimiter = refl; full = refl }
  struct_layer d os ds t e k = record { hole = refl; delimiter = refl; full = refl }

  -- a root map stands for no whole value
  no_front : (d : TypeDef) (x t : Data) → composed (whole h) d (L.hamt x) ≡ Some t → ⊥
  no_front (D.Map key key_at value place MF.Map) x t e = none-some t e
  no_front (D.Map key key_at value place MF.ListPairs) x t e = none-some t e
  no_front (D.Map key key_at value place (MF.StringPairs i k)) x t e = none-some t e
  no_front (D.Map key key_at value place (MF.Hamt p)) x t e = none-some t e
  no_front d x t e = none-some t e

  -- ---- a value, its parts aside

  list_case : (s : Slot) (vs : Values) (t : Data) → represented (whole h) rows s (V.list vs) ≡ Some t
      → ((u : Slot) (ds : List Data) → represented_values (whole h) rows u vs ≡ Some ds → SoundValues h rows u vs) → Sound h rows s (V.list vs)
  list_case s vs t e later = by (way_of (whole h) rows s (V.list vs) t e) where
    by : Way (whole h) rows s (V.list vs) t → Sound h rows s (V.list vs)
    by (as_null v_null nullable is_null) = absurd cc
    by (as_layer d l is there made) =
        let x = map_from L.list (values_data (whole h) rows (element_of (Some d)) vs) l there in
        let z = then_from (λ u. represented_values (whole h) rows u vs) (element_of (Some d)) x.item x.there in
        let parts = later z.item x.item z.made in
        let here = list_layer d vs in
        let up : (test : Option TypeDef → Value → Bool) → test (Some d) (V.list vs) ≡ false → some_value test rows z.item vs ≡ false → some_layer test rows s (V.list vs) ≡ false
        = λ test a b. subst (λ c. layer_test test rows c (V.list vs) ≡ false) (sym is) (or_from (test (Some d) (V.list vs)) (values_test test rows (element_of (Some d)) vs) a (given_false (λ u. some_value test rows u vs) (element_of (Some d)) z.item z.there b)) in
        record { hole = up is_hole here.hole parts.hole; delimiter = up (breaks rows) here.delimiter parts.delimiter; full = up (is_exhausted h rows) here.full parts.full; entire = parts.entire }

  map_case : (s : Slot) (ps : Pairs) (t : Data) → represented (whole h) rows s (V.map ps) ≡ Some t
      → ((u : Slot) (ds : List (List ℕ × Data)) → represented_pairs (whole h) rows u ps ≡ Some ds → SoundPairs h rows u ps) → Sound h rows s (V.map ps)
  map_case s ps t e later = by (way_of (whole h) rows s (V.map ps) t e) where
    by : Way (whole h) rows s (V.map ps) t → Sound h rows s (V.map ps)
    by (as_null v_null nullable is_null) = absurd cc
    by (as_layer d l is there made) =
        let x = map_from L.map (pairs_data (whole h) rows (element_of (Some d)) ps) l there in
        let z = then_from (λ u. represented_pairs (whole h) rows u ps) (element_of (Some d)) x.item x.there in
        let parts = later z.item x.item z.made in
        let here = map_layer d ps x.item t x.there (ap (composed (whole h) d) (same_Some (L.map x.item) l x.made) ∙ made) in
        let up : (test : Option TypeDef → Value → Bool) → test (Some d) (V.map ps) ≡ false → some_pair test rows z.item ps ≡ false → some_layer test rows s (V.map ps) ≡ false
        = λ test a b. subst (λ c. layer_test test rows c (V.map ps) ≡ false) (sym is) (or_from (test (Some d) (V.map ps)) (pairs_test test rows (element_of (Some d)) ps) a (given_false (λ u. some_pair test rows u ps) (element_of (Some d)) z.item z.there b)) in
        record { hole = up is_hole here.hole parts.hole; delimiter = up (breaks rows) here.delimiter parts.delimiter; full = up (is_exhausted h rows) here.full parts.full; entire = parts.entire }

  struct_case : (s : Slot) (os : Optionals) (t : Data) → represented (whole h) rows s (V.struct os) ≡ Some t
      → ((fs : List Field) (ds : List (Option Data)) → represented_fields (whole h) rows fs os ≡ Some ds → SoundFields h rows fs os) → Sound h rows s (V.struct os)
  struct_case s os t e later = by (way_of (whole h) rows s (V.struct os) t e) where
    by : Way (whole h) rows s (V.struct os) t → Sound h rows s (V.struct os)
    by (as_null v_null nullable is_null) = absurd cc
    by (as_layer d l is there made) =
        let x = map_from L.struct (represented_fields (whole h) rows (fields_of (Some d)) os) l there in
        let parts = later (fields_of (Some d)) x.item x.there in
        let here = struct_layer d os x.item t x.there (ap (composed (whole h) d) (same_Some (L.struct x.item) l x.made) ∙ made) in
        let up : (test : Option TypeDef → Value → Bool) → test (Some d) (V.struct os) ≡ false → some_field test rows (fields_of (Some d)) os ≡ false → some_layer test rows s (V.struct os) ≡ false
        = λ test a b. subst (λ c. layer_test test rows c (V.struct os) ≡ false) (sym is) (or_from (test (Some d) (V.struct os)) (some_field test rows (fields_of (Some d)) os) a b) in
        record { hole = up is_hole here.hole parts.hole; delimiter = up (breaks rows) here.delimiter parts.delimiter; full = up (is_exhausted h rows) here.full parts.full; entire = parts.entire }

  union_case : (s : Slot) (n : ℕ) (v : Value) (t : Data) → represented (whole h) rows s (V.union n v) ≡ Some t
      → ((u : Slot) (d : Data) → represented (whole h) rows u v ≡ Some d → Sound h rows u v) → Sound h rows s (V.union n v)
  union_case s n v t e later = by (way_of (whole h) rows s (V.union n v) t e) where
    by : Way (whole h) rows s (V.union n v) t → Sound h rows s (V.union n v)
    by (as_null v_null nullable is_null) = absurd cc
    by (as_layer d l is there made) =
        let x = map_from (L.union n) (member_data (whole h) rows (member_of (Some d) n) v) l there in
        let z = then_from (λ u. represented (whole h) rows u v) (member_of (Some d) n) x.item x.there in
        let parts = later z.item x.item z.made in
        let here = union_layer d n v in
        let up : (test : Option TypeDef → Value → Bool) → test (Some d) (V.union n v) ≡ false → some_layer test rows z.item v ≡ false → some_layer test rows s (V.union n v) ≡ false
        = λ test a b. subst (λ c. layer_test test rows c (V.union n v) ≡ false) (sym is) (or_from (test (Some d) (V.union n v)) (member_test test rows (member_of (Some d) n) v) a (given_false (λ u. some_layer test rows u v) (member_of (Some d) n) z.item z.there b)) in
        record { hole = up is_hole here.hole parts.hole; delimiter = up (breaks rows) here.delimiter parts.delimiter; full = up (is_exhausted h rows) here.full parts.full; entire = parts.entire }

  hamt_case : (s : Slot) (x t : Data) → represented (whole h) rows s (V.hamt x) ≡ Some t → ⊥
  hamt_case s x t e = by (way_of (whole h) rows s (V.hamt x) t e) where
    by : Way (whole h) rows s (V.hamt x) t → ⊥
    by (as_null v_null nullable is_null) = absurd cc
    by (as_layer d l is there made) = no_front d x t (ap (composed (whole h) d) (same_Some (L.hamt x) l there) ∙ made)

  mutual
    pub sound_of : (s : Slot) (v : Value) (t : Data) → represented (whole h) rows s v ≡ Some t → Sound h rows s v
    sound_of s (V.list vs) t e = list_case s vs t e (λ u ds k. sound_values u vs ds k)
    sound_of s (V.map ps) t e = map_case s ps t e (λ u ds k. sound_pairs u ps ds k)
    sound_of s (V.struct os) t e = struct_case s os t e (λ fs ds k. sound_fields fs os ds k)
    sound_of s (V.union n v) t e = union_case s n v t e (λ u d k. sound_of u v d k)
    sound_of s (V.hamt x) t e = absurd (hamt_case s x t e)
    sound_of s v t e = record { hole = refl; delimiter = refl; full = refl; entire = refl }

    sound_values : (s : Slot) (vs : Values) (ds : List Data) → represented_values (whole h) rows s vs ≡ Some ds → SoundValues h rows s vs
    sound_values s V.no_values ds e = record { hole = refl; delimiter = refl; full = refl; entire = refl }
    sound_values s (V.value v vs) ds e =
        let b = both_from (represented (whole h) rows s v) (represented_values (whole h) rows s vs) ds e in
        let x = sound_of s v b.item b.first in
        let y = sound_values s vs b.items b.rest in
        record {
          hole = or_from (some_layer is_hole rows s v) (some_value is_hole rows s vs) x.hole y.hole;
          delimiter = or_from (some_layer (breaks rows) rows s v) (some_value (breaks rows) rows s vs) x.delimiter y.delimiter;
          full = or_from (some_layer (is_exhausted h rows) rows s v) (some_value (is_exhausted h rows) rows s vs) x.full y.full;
          entire = and_from (is_whole v) (are_whole vs) x.entire y.entire;
        }

    sound_pairs : (s : Slot) (ps : Pairs) (ds : List (List ℕ × Data)) → represented_pairs (whole h) rows s ps ≡ Some ds → SoundPairs h rows s ps
    sound_pairs s V.no_pairs ds e = record { hole = refl; delimiter = refl; full = refl; entire = refl }
    sound_pairs s (V.pair k v ps) ds e =
        let b = both_from (option_map {U = List ℕ × Data} (λ d. (k, d)) (represented (whole h) rows s v)) (represented_pairs (whole h) rows s ps) ds e in
        let z = map_from {B = List ℕ × Data} (λ d. (k, d)) (represented (whole h) rows s v) b.item b.first in
        let x = sound_of s v z.item z.there in
        let y = sound_pairs s ps b.items b.rest in
        record {
          hole = or_from (some_layer is_hole rows s v) (some_pair is_hole rows s ps) x.hole y.hole;
          delimiter = or_from (some_layer (breaks rows) rows s v) (some_pair (breaks rows) rows s ps) x.delimiter y.delimiter;
          full = or_from (some_layer (is_exhausted h rows) rows s v) (some_pair (is_exhausted h rows) rows s ps) x.full y.full;
          entire = and_from (is_whole v) (pairs_whole ps) x.entire y.entire;
        }

    sound_fields : (fs : List Field) (os : Optionals) (ds : List (Option Data)) → represented_fields (whole h) rows fs os ≡ Some ds → SoundFields h rows fs os
    sound_fields fs V.no_optionals ds e = record { hole = refl; delimiter = refl; full = refl; entire = refl }
    sound_fields [] (V.absent os) ds e = absurd (none-some ds e)
    sound_fields [] (V.present v os) ds e = absurd (none-some ds e)
    sound_fields (f ∷ fs) (V.absent os) ds e =
        let b = map_from (λ xs. None ∷ xs) (represented_fields (whole h) rows fs os) ds e in
        let y = sound_fields fs os b.item b.there in
        record { hole = y.hole; delimiter = y.delimiter; full = y.full; entire = y.entire }
    sound_fields (f ∷ fs) (V.present v os) ds e =
        let b = both_from (option_map Some (represented (whole h) rows f.slot v)) (represented_fields (whole h) rows fs os) ds e in
        let z = map_from Some (represented (whole h) rows f.slot v) b.item b.first in
        let x = sound_of f.slot v z.item z.there in
        let y = sound_fields fs os b.items b.rest in
        record {
          hole = or_from (some_layer is_hole rows f.slot v) (some_field is_hole rows fs os) x.hole y.hole;
          delimiter = or_from (some_layer (breaks rows) rows f.slot v) (some_field (breaks rows) rows fs os) x.delimiter y.delimiter;
          full = or_from (some_layer (is_exhausted h rows) rows f.slot v) (some_field (is_exhausted h rows) rows fs os) x.full y.full;
          entire = and_from (is_whole v) (fields_whole os) x.entire y.entire;
        }

-- nothing of what Judged names stands in a value that has a representation
pub tree_sound : (h : List ℕ → List ℕ) (rows : List Row) (s : Slot) (v : Value) (d : Data) → represented (whole h) rows s v ≡ Some d
    → (is_whole v ≡ true) × (some_layer is_hole rows s v ≡ false) × (some_layer (breaks rows) rows s v ≡ false) × (some_layer (is_exhausted h rows) rows s v ≡ false)
tree_sound h rows s v d e = let x = sound_of h rows s v d e in (x.entire, x.hole, x.delimiter, x.full)
