-- One value for data where HAMTs stand with all entries too: what has to be known of a HAMT is asked of its entries.
use Rattle.std.proofs.Common.{◌≡◌, ℕ, List, [], ◌∷◌, Option, Some, None, option_map, refl, sym, ◌∙◌, ap, subst}
use Rattle.std.specs.Prelude.{IfSome, option_and_then}
use Rattle.std.specs.List.{AllByRecursion}
use Rattle.std.proofs.lemmas.Option.{same_Some, none-some}
use Rattle.ild_data.specs.Data as T
use Rattle.ild_data.specs.Data.{Data}
use Rattle.ild_schema.specs.declared.number.Slot.{Slot}
use Rattle.ild_schema.specs.declared.def.TypeDef.{TypeDef}
use Rattle.ild_schema.specs.declared.def.TypeDef.TheVariants as D
use Rattle.ild_schema.specs.declared.def.Field.{Field}
use Rattle.ild_schema.specs.declared.def.KindWord.TheVariants as K
use Rattle.ild_schema.specs.declared.row.Row.{Row}
use Rattle.ild_schema.specs.Copies.{base}
use Rattle.ild_schema.specs.Value as V
use Rattle.ild_schema.specs.Value.{Value, Values, Pairs, Optionals}
use Rattle.ild_data.specs.declared.hamt_shape.HamtShape.{HamtShape}
use Rattle.ild_typed.specs.Layer as L
use Rattle.ild_typed.specs.Layer.{Layer, as_list, as_map, as_struct, as_union}
use Rattle.ild_typed.specs.Strings.{cons_both}
use Rattle.ild_schema.specs.Slots.{form_of}
use Rattle.ild_typed.specs.Slots.{element_of, fields_of, member_of}
use Rattle.ild_typed.specs.Composed.{Hamts, composed, map_form}
use Rattle.ild_typed.specs.Hamt.{alone}
use Rattle.ild_typed.specs.Kinds.{kind_word_of}
use Rattle.ild_typed.specs.Represented.{represented, represented_values, represented_pairs, represented_fields}
use Rattle.ild_typed.specs.Known as G
use Rattle.ild_typed.specs.Known.{FormOk, LayerOk}
use Rattle.ild_schema.specs.Clear.{IsSafe, IsClear, ClearMap, ClearType}
use Rattle.ild_typed.proofs.Basics.{then_from, map_from}
use Rattle.ild_typed.proofs.PartData.{values_data, pairs_data, member_data}
use Rattle.ild_typed.proofs.Entries.{Both, both_from}
use Rattle.ild_typed.proofs.Composing.{alone_tells, composed_tells, map_form_tells}
use Rattle.ild_typed.proofs.OfKinds.{composed_kind}
use Rattle.ild_schema.specs.declared.def.MapForm.{MapForm}
use Rattle.ild_schema.specs.declared.def.MapForm.TheVariants as MF
use Rattle.ild_typed.proofs.OneValue.{layer_data, Way, as_null, as_layer, way_of, list_in, map_in, struct_in, union_in, list_value, map_value, struct_value, union_value, Alike, both_null, one_layer, unsafe, scalar_of, scalar_value, plain_safe, element_safe, fields_safe, member_plain, safe_parts}

form_other : (ok : HamtShape → List (List ℕ × Data) → Type 0) (form : MapForm) (l : Layer Data) → as_map l ≡ None → FormOk ok form l
form_other ok (MF.Hamt p) (L.map es) e = absurd (none-some es (sym e))
form_other ok form l e = tt

layer_other : (ok : HamtShape → List (List ℕ × Data) → Type 0) (d : TypeDef) (l : Layer Data) → as_map l ≡ None → LayerOk ok d l
layer_other ok (D.Map key key_at value place form) l e = form_other ok form l e
layer_other ok d l e = tt

-- what stands for a HAMT tells its layer, where what is asked of the entries holds
pub record IsExactFor (at : Hamts) (ok : HamtShape → List (List ℕ × Data) → Type 0) : Type 0 where
  pub tells : (p : HamtShape) (l m : Layer Data) (t : Data) → FormOk ok (MF.Hamt p) l → FormOk ok (MF.Hamt p) m → at p l ≡ Some t → at p m ≡ Some t → l ≡ m
  pub kind : (p : HamtShape) (l : Layer Data) (t : Data) → at p l ≡ Some t → kind_word_of t ≡ K.Map

form_tells : (at : Hamts) (ok : HamtShape → List (List ℕ × Data) → Type 0) → IsExactFor at ok → (form : MapForm) → ClearMap form → (l m : Layer Data) (t : Data) → FormOk ok form l → FormOk ok form m
    → map_form at form l ≡ Some t → map_form at form m ≡ Some t → l ≡ m
form_tells at ok exact MF.Map clear l m t a b e k = map_form_tells alone alone_tells MF.Map clear l m t e k
form_tells at ok exact MF.ListPairs clear l m t a b e k = map_form_tells alone alone_tells MF.ListPairs clear l m t e k
form_tells at ok exact (MF.StringPairs inner entry) clear l m t a b e k = map_form_tells alone alone_tells (MF.StringPairs inner entry) clear l m t e k
form_tells at ok exact (MF.Hamt p) clear l m t a b e k = exact.tells p l m t a b e k

layer_tells : (at : Hamts) (ok : HamtShape → List (List ℕ × Data) → Type 0) → IsExactFor at ok → (d : TypeDef) → ClearType d → (l m : Layer Data) (t : Data) → LayerOk ok d l → LayerOk ok d m
    → composed at d l ≡ Some t → composed at d m ≡ Some t → l ≡ m
layer_tells at ok exact (D.Map key key_at value place form) clear l m t a b e k = form_tells at ok exact form clear l m t a b e k
layer_tells at ok exact D.Bool clear l m t a b e k = composed_tells alone alone_tells D.Bool clear l m t e k
layer_tells at ok exact D.Text clear l m t a b e k = composed_tells alone alone_tells D.Text clear l m t e k
layer_tells at ok exact D.Bytes clear l m t a b e k = composed_tells alone alone_tells D.Bytes clear l m t e k
layer_tells at ok exact D.Int clear l m t a b e k = composed_tells alone alone_tells D.Int clear l m t e k
layer_tells at ok exact D.Any clear l m t a b e k = composed_tells alone alone_tells D.Any clear l m t e k
layer_tells at ok exact (D.Link target) clear l m t a b e k = composed_tells alone alone_tells (D.Link target) clear l m t e k
layer_tells at ok exact (D.Unit form) clear l m t a b e k = composed_tells alone alone_tells (D.Unit form) clear l m t e k
layer_tells at ok exact (D.List elem place) clear l m t a b e k = composed_tells alone alone_tells (D.List elem place) clear l m t e k
layer_tells at ok exact (D.Struct s) clear l m t a b e k = composed_tells alone alone_tells (D.Struct s) clear l m t e k
layer_tells at ok exact (D.Union u) clear l m t a b e k = composed_tells alone alone_tells (D.Union u) clear l m t e k
layer_tells at ok exact (D.Enum en) clear l m t a b e k = composed_tells alone alone_tells (D.Enum en) clear l m t e k
layer_tells at ok exact (D.Copy target) clear l m t a b e k = composed_tells alone alone_tells (D.Copy target) clear l m t e k

module _ (at : Hamts) (ok : HamtShape → List (List ℕ × Data) → Type 0) (exact : IsExactFor at ok) (rows : List Row) (clear : IsClear rows) where
  abbrev Good : Slot → Value → Type 0
  Good s v = G.Good at ok rows s v

  abbrev Goods : Slot → Values → Type 0
  Goods s vs = G.Goods at ok rows s vs

  abbrev GoodPairs : Slot → Pairs → Type 0
  GoodPairs s ps = G.GoodPairs at ok rows s ps

  abbrev GoodFields : List Field → Optionals → Type 0
  GoodFields fs os = G.GoodFields at ok rows fs os

  good_other : (s : Slot) (d : TypeDef) (l m : Layer Data) → as_map m ≡ None → m ≡ l → LayerOk ok d l
  good_other s d l m none same = layer_other ok d l (ap as_map (sym same) ∙ none)

  good_layer : (s : Slot) (v : Value) (d : TypeDef) (l : Layer Data) → Good s v → form_of rows s ≡ Some d → layer_data at rows (Some d) v ≡ Some l → LayerOk ok d l
  good_layer s V.null d l good is e = absurd (none-some l e)
  good_layer s (V.list vs) d l good is e =
      let x = map_from L.list (values_data at rows (element_of (Some d)) vs) l e in good_other s d l (L.list x.item) refl (same_Some (L.list x.item) l x.made)
  good_layer s (V.struct os) d l good is e =
      let x = map_from L.struct (represented_fields at rows (fields_of (Some d)) os) l e in good_other s d l (L.struct x.item) refl (same_Some (L.struct x.item) l x.made)
  good_layer s (V.union n v) d l good is e =
      let x = map_from (L.union n) (member_data at rows (member_of (Some d) n) v) l e in good_other s d l (L.union n x.item) refl (same_Some (L.union n x.item) l x.made)
  good_layer s (V.map ps) d l good is e =
      let x = map_from L.map (pairs_data at rows (element_of (Some d)) ps) l e in
      let z = then_from (λ u. represented_pairs at rows u ps) (element_of (Some d)) x.item x.there in
      subst (LayerOk ok d) (same_Some (L.map x.item) l x.made) (good.0 d z.item x.item is z.there z.made)
  good_layer s (V.boolean b) d l good is e = good_other s d l (L.boolean b) refl (same_Some (L.boolean b) l e)
  good_layer s (V.integer n) d l good is e = good_other s d l (L.integer n) refl (same_Some (L.integer n) l e)
  good_layer s (V.text x) d l good is e = good_other s d l (L.text x) refl (same_Some (L.text x) l e)
  good_layer s (V.bytes x) d l good is e = good_other s d l (L.bytes x) refl (same_Some (L.bytes x) l e)
  good_layer s (V.link x) d l good is e = good_other s d l (L.link x) refl (same_Some (L.link x) l e)
  good_layer s (V.any x) d l good is e = good_other s d l (L.any x) refl (same_Some (L.any x) l e)
  good_layer s V.unit d l good is e = good_other s d l L.unit refl (same_Some L.unit l e)
  good_layer s (V.enum n) d l good is e = good_other s d l (L.enum n) refl (same_Some (L.enum n) l e)
  good_layer s (V.hamt x) d l good is e = good_other s d l (L.hamt x) refl (same_Some (L.hamt x) l e)

  alike_for : (s : Slot) → IsSafe rows s → (v w : Value) (t : Data) → Good s v → Good s w → Way at rows s v t → Way at rows s w t → Alike at rows s v w
  alike_for s safe v w t gv gw (as_null v_null a b) (as_null w_null c e) = both_null v_null w_null
  alike_for s safe v w t gv gw (as_null v_null nullable is_null) (as_layer d l is there made) =
      absurd (unsafe rows s safe nullable d is (composed_kind at exact.kind d l T.null (made ∙ ap Some is_null)))
  alike_for s safe v w t gv gw (as_layer d l is there made) (as_null w_null nullable is_null) =
      absurd (unsafe rows s safe nullable d is (composed_kind at exact.kind d l T.null (made ∙ ap Some is_null)))
  alike_for s safe v w t gv gw (as_layer d l is there made) (as_layer e m f g h) =
      let same : e ≡ d = same_Some e d (sym f ∙ is) in
      let made2 : composed at d m ≡ Some t = ap (λ c. composed at c m) (sym same) ∙ h in
      let there2 : layer_data at rows (Some d) w ≡ Some m = ap (λ c. layer_data at rows (Some c) w) (sym same) ∙ g in
      let layers : m ≡ l = layer_tells at ok exact d (clear.types (base rows s.ty.0) d is) m l t (good_layer s w d m gw is there2) (good_layer s v d l gv is there) made2 made in
      one_layer (record { form = d; layer = l; known = is; of_first = there; of_second = there2 ∙ ap Some layers })

  null_case : (s : Slot) (w : Value) → Alike at rows s V.null w → V.null ≡ w
  null_case s w (both_null a b) = sym b
  null_case s w (one_layer h) = absurd (none-some h.layer h.of_first)

  scalar_case : (s : Slot) (v w : Value) → ((d : TypeDef) → option_and_then scalar_of (layer_data at rows (Some d) v) ≡ Some v) → Alike at rows s v w → v ≡ w
  scalar_case s v w own (both_null a b) = a ∙ sym b
  scalar_case s v w own (one_layer h) =
      sym (scalar_value at rows (Some h.form) w v (ap (option_and_then scalar_of) (h.of_second ∙ sym h.of_first) ∙ own h.form))

  list_case : (s : Slot) (vs : Values) (w : Value) → Good s (V.list vs) → Good s w
      → ((u : Slot) → IsSafe rows u → Goods u vs → (ws : Values) (ds : List Data) → Goods u ws → represented_values at rows u vs ≡ Some ds → represented_values at rows u ws ≡ Some ds → vs ≡ ws)
      → Alike at rows s (V.list vs) w → V.list vs ≡ w
  list_case s vs w gv gw later (both_null a b) = a ∙ sym b
  list_case s vs w gv gw later (one_layer h) =
      let x = map_from L.list (values_data at rows (element_of (Some h.form)) vs) h.layer h.of_first in
      let y = list_value at rows (Some h.form) w x.item (ap list_in (h.of_second ∙ sym x.made)) in
      let z = then_from (λ u. represented_values at rows u vs) (element_of (Some h.form)) x.item x.there in
      let H : Option Slot → Values → Type 0 = λ o zs. IfSome o (λ u. Goods u zs) in
      let is : element_of (form_of rows s) ≡ Some z.item = ap element_of h.known ∙ z.there in
      let a : H (Some z.item) vs = subst (λ o. H o vs) is gv in
      let g : H (element_of (form_of rows s)) y.items = subst (Good s) y.is gw in
      let b : H (Some z.item) y.items = subst (λ o. H o y.items) is g in
      ap V.list (later z.item (element_safe rows h.form (safe_parts rows clear s h.form h.known) z.item z.there) a y.items x.item b z.made (ap (λ o. values_data at rows o y.items) (sym z.there) ∙ y.there)) ∙ sym y.is

  map_case : (s : Slot) (vs : Pairs) (w : Value) → Good s (V.map vs) → Good s w
      → ((u : Slot) → IsSafe rows u → GoodPairs u vs → (ws : Pairs) (ds : List (List ℕ × Data)) → GoodPairs u ws → represented_pairs at rows u vs ≡ Some ds → represented_pairs at rows u ws ≡ Some ds → vs ≡ ws)
      → Alike at rows s (V.map vs) w → V.map vs ≡ w
  map_case s vs w gv gw later (both_null a b) = a ∙ sym b
  map_case s vs w gv gw later (one_layer h) =
      let x = map_from L.map (pairs_data at rows (element_of (Some h.form)) vs) h.layer h.of_first in
      let y = map_value at rows (Some h.form) w x.item (ap map_in (h.of_second ∙ sym x.made)) in
      let z = then_from (λ u. represented_pairs at rows u vs) (element_of (Some h.form)) x.item x.there in
      let H : Option Slot → Pairs → Type 0 = λ o zs. IfSome o (λ u. GoodPairs u zs) in
      let is : element_of (form_of rows s) ≡ Some z.item = ap element_of h.known ∙ z.there in
      let a : H (Some z.item) vs = subst (λ o. H o vs) is gv.1 in
      let g : Good s (V.map y.items) = subst (Good s) y.is gw in
      let b : H (Some z.item) y.items = subst (λ o. H o y.items) is g.1 in
      ap V.map (later z.item (element_safe rows h.form (safe_parts rows clear s h.form h.known) z.item z.there) a y.items x.item b z.made (ap (λ o. pairs_data at rows o y.items) (sym z.there) ∙ y.there)) ∙ sym y.is

  struct_case : (s : Slot) (vs : Optionals) (w : Value) → Good s (V.struct vs) → Good s w
      → ((fs : List Field) → AllByRecursion (λ f. IsSafe rows f.slot) fs → GoodFields fs vs → (ws : Optionals) (ds : List (Option Data)) → GoodFields fs ws → represented_fields at rows fs vs ≡ Some ds → represented_fields at rows fs ws ≡ Some ds → vs ≡ ws)
      → Alike at rows s (V.struct vs) w → V.struct vs ≡ w
  struct_case s vs w gv gw later (both_null a b) = a ∙ sym b
  struct_case s vs w gv gw later (one_layer h) =
      let x = map_from L.struct (represented_fields at rows (fields_of (Some h.form)) vs) h.layer h.of_first in
      let y = struct_value at rows (Some h.form) w x.item (ap struct_in (h.of_second ∙ sym x.made)) in
      let H : Option TypeDef → Optionals → Type 0 = λ o zs. GoodFields (fields_of o) zs in
      let a : H (Some h.form) vs = subst (λ o. H o vs) h.known gv in
      let g : Good s (V.struct y.items) = subst (Good s) y.is gw in
      let b : H (Some h.form) y.items = subst (λ o. H o y.items) h.known g in
      ap V.struct (later (fields_of (Some h.form)) (fields_safe rows h.form (safe_parts rows clear s h.form h.known)) a y.items x.item b x.there y.there) ∙ sym y.is

  union_case : (s : Slot) (n : ℕ) (v w : Value) → Good s (V.union n v) → Good s w
      → ((u : Slot) → IsSafe rows u → Good u v → (x : Value) (d : Data) → Good u x → represented at rows u v ≡ Some d → represented at rows u x ≡ Some d → v ≡ x)
      → Alike at rows s (V.union n v) w → V.union n v ≡ w
  union_case s n v w gv gw later (both_null a b) = a ∙ sym b
  union_case s n v w gv gw later (one_layer h) =
      let x = map_from (L.union n) (member_data at rows (member_of (Some h.form) n) v) h.layer h.of_first in
      let y = union_value at rows (Some h.form) w (n, x.item) (ap union_in (h.of_second ∙ sym x.made)) in
      let z = then_from (λ u. represented at rows u v) (member_of (Some h.form) n) x.item x.there in
      let H : Option Slot → Value → Type 0 = λ o a. IfSome o (λ u. Good u a) in
      let is : member_of (form_of rows s) n ≡ Some z.item = ap (λ o. member_of o n) h.known ∙ z.there in
      let a : H (Some z.item) v = subst (λ o. H o v) is gv in
      let g : H (member_of (form_of rows s) n) y.part = subst (Good s) y.is gw in
      let b : H (Some z.item) y.part = subst (λ o. H o y.part) is g in
      ap (V.union n) (later z.item (plain_safe rows z.item (member_plain h.form n z.item z.there)) a y.part x.item b z.made (ap (λ o. member_data at rows o y.part) (sym z.there) ∙ y.there)) ∙ sym y.is

  abbrev both : (s : Slot) → IsSafe rows s → (v w : Value) (t : Data) → Good s v → Good s w → represented at rows s v ≡ Some t → represented at rows s w ≡ Some t → Alike at rows s v w
  both s safe v w t gv gw e k = alike_for s safe v w t gv gw (way_of at rows s v t e) (way_of at rows s w t k)

  abbrev head_like : {A : Type 0} → A → List A → A
  head_like z [] = z
  head_like z (x ∷ xs) = x

  abbrev tail_like : {A : Type 0} → List A → List A
  tail_like [] = []
  tail_like (x ∷ xs) = xs

  empty_full : {A : Type 0} (o : Option A) (os : Option (List A)) (ds : List A) → Some [] ≡ Some ds → cons_both o os ≡ Some ds → ⊥
  empty_full o os ds e k =
      let b = both_from o os ds k in
      let h : b.item ∷ b.items ≡ [] = b.all ∙ sym (same_Some [] ds e) in
      absurd cc

  -- a field is not absent and present
  some_none : (f : Field) (w : Value) (ds : List (Option Data)) {os us : Option (List (Option Data))}
      → Both (Some None) os ds → Both (option_map Some (represented at rows f.slot w)) us ds → ⊥
  some_none f w ds b c =
      let x = map_from Some (represented at rows f.slot w) c.item c.first in
      none-some x.item (same_Some None b.item b.first ∙ ap (head_like b.item) (b.all ∙ sym c.all) ∙ sym (same_Some (Some x.item) c.item x.made))

  mutual
    pub one_whole : (s : Slot) → IsSafe rows s → (v w : Value) (t : Data) → Good s v → Good s w → represented at rows s v ≡ Some t → represented at rows s w ≡ Some t → v ≡ w
    one_whole s safe V.null w t gv gw e k = null_case s w (both s safe V.null w t gv gw e k)
    one_whole s safe (V.boolean b) w t gv gw e k = scalar_case s (V.boolean b) w (λ d. refl) (both s safe (V.boolean b) w t gv gw e k)
    one_whole s safe (V.integer n) w t gv gw e k = scalar_case s (V.integer n) w (λ d. refl) (both s safe (V.integer n) w t gv gw e k)
    one_whole s safe (V.text x) w t gv gw e k = scalar_case s (V.text x) w (λ d. refl) (both s safe (V.text x) w t gv gw e k)
    one_whole s safe (V.bytes x) w t gv gw e k = scalar_case s (V.bytes x) w (λ d. refl) (both s safe (V.bytes x) w t gv gw e k)
    one_whole s safe (V.link x) w t gv gw e k = scalar_case s (V.link x) w (λ d. refl) (both s safe (V.link x) w t gv gw e k)
    one_whole s safe (V.any x) w t gv gw e k = scalar_case s (V.any x) w (λ d. refl) (both s safe (V.any x) w t gv gw e k)
    one_whole s safe V.unit w t gv gw e k = scalar_case s V.unit w (λ d. refl) (both s safe V.unit w t gv gw e k)
    one_whole s safe (V.enum n) w t gv gw e k = scalar_case s (V.enum n) w (λ d. refl) (both s safe (V.enum n) w t gv gw e k)
    one_whole s safe (V.hamt x) w t gv gw e k = scalar_case s (V.hamt x) w (λ d. refl) (both s safe (V.hamt x) w t gv gw e k)
    one_whole s safe (V.list vs) w t gv gw e k =
        list_case s vs w gv gw (λ u sf a ws ds b h1 h2. one_values u sf vs ws ds a b h1 h2) (both s safe (V.list vs) w t gv gw e k)
    one_whole s safe (V.map ps) w t gv gw e k =
        map_case s ps w gv gw (λ u sf a ws ds b h1 h2. one_pairs u sf ps ws ds a b h1 h2) (both s safe (V.map ps) w t gv gw e k)
    one_whole s safe (V.struct os) w t gv gw e k =
        struct_case s os w gv gw (λ fs sf a ws ds b h1 h2. one_fields fs sf os ws ds a b h1 h2) (both s safe (V.struct os) w t gv gw e k)
    one_whole s safe (V.union n v) w t gv gw e k =
        union_case s n v w gv gw (λ u sf a x d b h1 h2. one_whole u sf v x d a b h1 h2) (both s safe (V.union n v) w t gv gw e k)

    one_values : (s : Slot) → IsSafe rows s → (vs ws : Values) (ds : List Data) → Goods s vs → Goods s ws → represented_values at rows s vs ≡ Some ds → represented_values at rows s ws ≡ Some ds → vs ≡ ws
    one_values s safe V.no_values V.no_values ds gv gw e k = refl
    one_values s safe V.no_values (V.value w ws) ds gv gw e k = absurd (empty_full (represented at rows s w) (represented_values at rows s ws) ds e k)
    one_values s safe (V.value v vs) V.no_values ds gv gw e k = absurd (empty_full (represented at rows s v) (represented_values at rows s vs) ds k e)
    one_values s safe (V.value v vs) (V.value w ws) ds gv gw e k =
        let b = both_from (represented at rows s v) (represented_values at rows s vs) ds e in
        let c = both_from (represented at rows s w) (represented_values at rows s ws) ds k in
        let first = one_whole s safe v w b.item gv.0 gw.0 b.first (c.first ∙ ap Some (ap (head_like b.item) (c.all ∙ sym b.all))) in
        let rest = one_values s safe vs ws b.items gv.1 gw.1 b.rest (c.rest ∙ ap Some (ap tail_like (c.all ∙ sym b.all))) in
        λ i. V.value (first i) (rest i)

    one_pairs : (s : Slot) → IsSafe rows s → (vs ws : Pairs) (ds : List (List ℕ × Data)) → GoodPairs s vs → GoodPairs s ws → represented_pairs at rows s vs ≡ Some ds → represented_pairs at rows s ws ≡ Some ds → vs ≡ ws
    one_pairs s safe V.no_pairs V.no_pairs ds gv gw e k = refl
    one_pairs s safe V.no_pairs (V.pair q w ws) ds gv gw e k = absurd (empty_full (option_map (λ d. (q, d)) (represented at rows s w)) (represented_pairs at rows s ws) ds e k)
    one_pairs s safe (V.pair p v vs) V.no_pairs ds gv gw e k = absurd (empty_full (option_map (λ d. (p, d)) (represented at rows s v)) (represented_pairs at rows s vs) ds k e)
    one_pairs s safe (V.pair p v vs) (V.pair q w ws) ds gv gw e k =
        let b = both_from (option_map (λ d. (p, d)) (represented at rows s v)) (represented_pairs at rows s vs) ds e in
        let c = both_from (option_map (λ d. (q, d)) (represented at rows s w)) (represented_pairs at rows s ws) ds k in
        let x = map_from (λ d. (p, d)) (represented at rows s v) b.item b.first in
        let y = map_from (λ d. (q, d)) (represented at rows s w) c.item c.first in
        let same : (q, y.item) ≡ (p, x.item) = same_Some (q, y.item) c.item y.made ∙ ap (head_like b.item) (c.all ∙ sym b.all) ∙ sym (same_Some (p, x.item) b.item x.made) in
        let key : p ≡ q = sym (ap (λ (r : List ℕ × Data). r.0) same) in
        let first = one_whole s safe v w x.item gv.0 gw.0 x.there (y.there ∙ ap (λ (r : List ℕ × Data). Some r.1) same) in
        let rest = one_pairs s safe vs ws b.items gv.1 gw.1 b.rest (c.rest ∙ ap Some (ap tail_like (c.all ∙ sym b.all))) in
        λ i. V.pair (key i) (first i) (rest i)

    one_fields : (fs : List Field) → AllByRecursion (λ f. IsSafe rows f.slot) fs → (vs ws : Optionals) (ds : List (Option Data)) → GoodFields fs vs → GoodFields fs ws → represented_fields at rows fs vs ≡ Some ds → represented_fields at rows fs ws ≡ Some ds → vs ≡ ws
    one_fields fs safe V.no_optionals V.no_optionals ds gv gw e k = refl
    one_fields [] safe V.no_optionals (V.absent ws) ds gv gw e k = absurd (none-some ds k)
    one_fields [] safe V.no_optionals (V.present w ws) ds gv gw e k = absurd (none-some ds k)
    one_fields [] safe (V.absent vs) ws ds gv gw e k = absurd (none-some ds e)
    one_fields [] safe (V.present v vs) ws ds gv gw e k = absurd (none-some ds e)
    one_fields (f ∷ fs) safe V.no_optionals (V.absent ws) ds gv gw e k = absurd (empty_full (Some None) (represented_fields at rows fs ws) ds e k)
    one_fields (f ∷ fs) safe V.no_optionals (V.present w ws) ds gv gw e k =
        absurd (empty_full (option_map Some (represented at rows f.slot w)) (represented_fields at rows fs ws) ds e k)
    one_fields (f ∷ fs) safe (V.absent vs) V.no_optionals ds gv gw e k = absurd (empty_full (Some None) (represented_fields at rows fs vs) ds k e)
    one_fields (f ∷ fs) safe (V.present v vs) V.no_optionals ds gv gw e k =
        absurd (empty_full (option_map Some (represented at rows f.slot v)) (represented_fields at rows fs vs) ds k e)
    one_fields (f ∷ fs) safe (V.absent vs) (V.absent ws) ds gv gw e k =
        let b = both_from (Some None) (represented_fields at rows fs vs) ds e in
        let c = both_from (Some None) (represented_fields at rows fs ws) ds k in
        ap V.absent (one_fields fs safe.1 vs ws b.items gv gw b.rest (c.rest ∙ ap Some (ap tail_like (c.all ∙ sym b.all))))
    one_fields (f ∷ fs) safe (V.absent vs) (V.present w ws) ds gv gw e k =
        absurd (some_none f w ds (both_from (Some None) (represented_fields at rows fs vs) ds e) (both_from (option_map Some (represented at rows f.slot w)) (represented_fields at rows fs ws) ds k))
    one_fields (f ∷ fs) safe (V.present v vs) (V.absent ws) ds gv gw e k =
        absurd (some_none f v ds (both_from (Some None) (represented_fields at rows fs ws) ds k) (both_from (option_map Some (represented at rows f.slot v)) (represented_fields at rows fs vs) ds e))
    one_fields (f ∷ fs) safe (V.present v vs) (V.present w ws) ds gv gw e k =
        let b = both_from (option_map Some (represented at rows f.slot v)) (represented_fields at rows fs vs) ds e in
        let c = both_from (option_map Some (represented at rows f.slot w)) (represented_fields at rows fs ws) ds k in
        let x = map_from Some (represented at rows f.slot v) b.item b.first in
        let y = map_from Some (represented at rows f.slot w) c.item c.first in
        let same : Some y.item ≡ Some x.item = same_Some (Some y.item) c.item y.made ∙ ap (head_like b.item) (c.all ∙ sym b.all) ∙ sym (same_Some (Some x.item) b.item x.made) in
        let first = one_whole f.slot safe.0 v w x.item gv.0 gw.0 x.there (y.there ∙ same) in
        let rest = one_fields fs safe.1 vs ws b.items gv.1 gw.1 b.rest (c.rest ∙ ap Some (ap tail_like (c.all ∙ sym b.all))) in
        λ i. V.present (first i) (rest i)
