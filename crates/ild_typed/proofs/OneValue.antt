-- One value for data: where acceptance holds, data are the representation of one value at most.
use Rattle.std.proofs.Common.{◌≡◌, ℕ, List, [], ◌∷◌, Bool, true, false, cond, Option, Some, None, option_map, refl, sym, ◌∙◌, ap, subst}
use Rattle.std.specs.Prelude.{option_and_then}
use Rattle.std.specs.List.{AllByRecursion}
use Rattle.std.proofs.lemmas.Option.{same_Some, none-some}
use Rattle.ild_data.specs.Data as T
use Rattle.ild_data.specs.Data.{Data}
use Rattle.ild_schema.specs.declared.number.Slot.{Slot}
use Rattle.ild_schema.specs.declared.def.TypeDef.{TypeDef}
use Rattle.ild_schema.specs.declared.def.TypeDef.TheVariants as D
use Rattle.ild_schema.specs.declared.def.Field.{Field}
use Rattle.ild_schema.specs.declared.def.KindWord.TheVariants as K
use Rattle.ild_schema.specs.declared.row.Row.{Row}
use Rattle.ild_schema.specs.Copies.{base}
use Rattle.ild_schema.specs.Value as V
use Rattle.ild_schema.specs.Value.{Value, Values, Pairs, Optionals}
use Rattle.ild_data.specs.declared.hamt_shape.HamtShape.{HamtShape}
use Rattle.ild_typed.specs.Layer as L
use Rattle.ild_typed.specs.Layer.{Layer, as_list, as_map, as_struct, as_union}
use Rattle.ild_typed.specs.Strings.{cons_both}
use Rattle.ild_schema.specs.Slots.{form_of}
use Rattle.ild_typed.specs.Slots.{element_of, fields_of, member_at, slot_of, member_of}
use Rattle.ild_typed.specs.Composed.{Hamts, composed}
use Rattle.ild_typed.specs.Hamt.{alone}
use Rattle.ild_schema.specs.DataKinds.{kind_in, has_kind}
use Rattle.ild_typed.specs.Kinds.{kind_word_of}
use Rattle.ild_typed.specs.Represented.{layered, represented, represented_values, represented_pairs, represented_fields}
use Rattle.ild_typed.specs.Tells.{Tells}
use Rattle.ild_schema.specs.Clear.{AreSafe, IsSafe, IsClear}
use Rattle.ild_typed.proofs.Basics.{then_from, map_from}
use Rattle.ild_typed.proofs.PartData.{values_data, pairs_data, member_data}
use Rattle.ild_typed.proofs.Entries.{Both, both_from}
use Rattle.ild_typed.proofs.Composing.{alone_tells, composed_tells}
use Rattle.ild_typed.proofs.OfKinds.{alone_kind, composed_kind}

-- the layer of a value of a type, with the data of its parts
abbrev pub layer_data : Hamts → List Row → Option TypeDef → Value → Option (Layer Data)
layer_data at rows d V.null = None
layer_data at rows d (V.boolean b) = Some (L.boolean b)
layer_data at rows d (V.integer n) = Some (L.integer n)
layer_data at rows d (V.text t) = Some (L.text t)
layer_data at rows d (V.bytes t) = Some (L.bytes t)
layer_data at rows d (V.link t) = Some (L.link t)
layer_data at rows d (V.any t) = Some (L.any t)
layer_data at rows d V.unit = Some L.unit
layer_data at rows d (V.enum n) = Some (L.enum n)
layer_data at rows d (V.hamt t) = Some (L.hamt t)
layer_data at rows d (V.list vs) = option_map L.list (values_data at rows (element_of d) vs)
layer_data at rows d (V.map ps) = option_map L.map (pairs_data at rows (element_of d) ps)
layer_data at rows d (V.struct os) = option_map L.struct (represented_fields at rows (fields_of d) os)
layer_data at rows d (V.union n v) = option_map (L.union n) (member_data at rows (member_of d n) v)

-- how a value is represented: as null, or by a layer
pub data Way (at : Hamts) (rows : List Row) (s : Slot) (v : Value) (t : Data) : Type 0 where
  as_null : v ≡ V.null → s.nullable ≡ true → t ≡ T.null → Way at rows s v t
  as_layer : (d : TypeDef) (l : Layer Data) → form_of rows s ≡ Some d → layer_data at rows (Some d) v ≡ Some l → composed at d l ≡ Some t → Way at rows s v t

null_way : (at : Hamts) (rows : List Row) (s : Slot) (t : Data) (b : Bool) → b ≡ s.nullable → cond b (Some T.null) None ≡ Some t → Way at rows s V.null t
null_way at rows s t true is e = as_null refl (sym is) (sym (same_Some T.null t e))
null_way at rows s t false is e = absurd (none-some t e)

layer_way : (at : Hamts) (rows : List Row) (s : Slot) (v : Value) (t : Data) (o : Option TypeDef) → form_of rows s ≡ o → layered at o (layer_data at rows o v) ≡ Some t → Way at rows s v t
layer_way at rows s v t None is e = absurd (none-some t e)
layer_way at rows s v t (Some d) is e = let x = then_from (composed at d) (layer_data at rows (Some d) v) t e in as_layer d x.item is x.there x.made

pub way_of : (at : Hamts) (rows : List Row) (s : Slot) (v : Value) (t : Data) → represented at rows s v ≡ Some t → Way at rows s v t
way_of at rows s V.null t e = null_way at rows s t s.nullable refl e
way_of at rows s v t e = layer_way at rows s v t (form_of rows s) refl e

-- ---- values of a layer

abbrev pub list_in : Option (Layer Data) → Option (List Data)
list_in o = option_and_then as_list o

abbrev pub map_in : Option (Layer Data) → Option (List (List ℕ × Data))
map_in o = option_and_then as_map o

abbrev pub struct_in : Option (Layer Data) → Option (List (Option Data))
struct_in o = option_and_then as_struct o

abbrev pub union_in : Option (Layer Data) → Option (ℕ × Data)
union_in o = option_and_then as_union o

through : {A B : Type 0} (f : A → B) (g : B → Option A) (o : Option A) → ((a : A) → g (f a) ≡ Some a) → option_and_then g (option_map f o) ≡ o
through f g None back = refl
through f g (Some a) back = back a

gone : {A B C : Type 0} (f : A → B) (g : B → Option C) (o : Option A) (c : C) → ((a : A) → g (f a) ≡ None) → option_and_then g (option_map f o) ≡ Some c → ⊥
gone f g None c never e = none-some c e
gone f g (Some a) c never e = none-some c (sym (never a) ∙ e)

pub record IsList (at : Hamts) (rows : List Row) (d : Option TypeDef) (w : Value) (ds : List Data) : Type 0 where
  pub items : Values
  pub is : w ≡ V.list items
  pub there : values_data at rows (element_of d) items ≡ Some ds

pub list_value : (at : Hamts) (rows : List Row) (d : Option TypeDef) (w : Value) (ds : List Data) → list_in (layer_data at rows d w) ≡ Some ds → IsList at rows d w ds
list_value at rows d (V.list ws) ds e =
    record { items = ws; is = refl; there = sym (through L.list as_list (values_data at rows (element_of d) ws) (λ a. refl)) ∙ e }
list_value at rows d (V.map ps) ds e = absurd (gone L.map as_list (pairs_data at rows (element_of d) ps) ds (λ a. refl) e)
list_value at rows d (V.struct os) ds e = absurd (gone L.struct as_list (represented_fields at rows (fields_of d) os) ds (λ a. refl) e)
list_value at rows d (V.union n v) ds e = absurd (gone (L.union n) as_list (member_data at rows (member_of d n) v) ds (λ a. refl) e)
list_value at rows d w ds e = absurd (none-some ds e)

pub record IsMap (at : Hamts) (rows : List Row) (d : Option TypeDef) (w : Value) (ds : List (List ℕ × Data)) : Type 0 where
  pub items : Pairs
  pub is : w ≡ V.map items
  pub there : pairs_data at rows (element_of d) items ≡ Some ds

pub map_value : (at : Hamts) (rows : List Row) (d : Option TypeDef) (w : Value) (ds : List (List ℕ × Data)) → map_in (layer_data at rows d w) ≡ Some ds → IsMap at rows d w ds
map_value at rows d (V.list ws) ds e = absurd (gone L.list as_map (values_data at rows (element_of d) ws) ds (λ a. refl) e)
map_value at rows d (V.map ps) ds e =
    record { items = ps; is = refl; there = sym (through L.map as_map (pairs_data at rows (element_of d) ps) (λ a. refl)) ∙ e }
map_value at rows d (V.struct os) ds e = absurd (gone L.struct as_map (represented_fields at rows (fields_of d) os) ds (λ a. refl) e)
map_value at rows d (V.union n v) ds e = absurd (gone (L.union n) as_map (member_data at rows (member_of d n) v) ds (λ a. refl) e)
map_value at rows d w ds e = absurd (none-some ds e)

pub record IsStruct (at : Hamts) (rows : List Row) (d : Option TypeDef) (w : Value) (ds : List (Option Data)) : Type 0 where
  pub items : Optionals
  pub is : w ≡ V.struct items
  pub there : represented_fields at rows (fields_of d) items ≡ Some ds

pub struct_value : (at : Hamts) (rows : List Row) (d : Option TypeDef) (w : Value) (ds : List (Option Data)) → struct_in (layer_data at rows d w) ≡ Some ds → IsStruct at rows d w ds
struct_value at rows d (V.list ws) ds e = absurd (gone L.list as_struct (values_data at rows (element_of d) ws) ds (λ a. refl) e)
struct_value at rows d (V.map ps) ds e = absurd (gone L.map as_struct (pairs_data at rows (element_of d) ps) ds (λ a. refl) e)
struct_value at rows d (V.struct os) ds e =
    record { items = os; is = refl; there = sym (through L.struct as_struct (represented_fields at rows (fields_of d) os) (λ a. refl)) ∙ e }
struct_value at rows d (V.union n v) ds e = absurd (gone (L.union n) as_struct (member_data at rows (member_of d n) v) ds (λ a. refl) e)
struct_value at rows d w ds e = absurd (none-some ds e)

pub record IsUnion (at : Hamts) (rows : List Row) (d : Option TypeDef) (w : Value) (p : ℕ × Data) : Type 0 where
  pub part : Value
  pub is : w ≡ V.union p.0 part
  pub there : member_data at rows (member_of d p.0) part ≡ Some p.1

pub union_value : (at : Hamts) (rows : List Row) (d : Option TypeDef) (w : Value) (p : ℕ × Data) → union_in (layer_data at rows d w) ≡ Some p → IsUnion at rows d w p
union_value at rows d (V.list ws) p e = absurd (gone L.list as_union (values_data at rows (element_of d) ws) p (λ a. refl) e)
union_value at rows d (V.map ps) p e = absurd (gone L.map as_union (pairs_data at rows (element_of d) ps) p (λ a. refl) e)
union_value at rows d (V.struct os) p e = absurd (gone L.struct as_union (represented_fields at rows (fields_of d) os) p (λ a. refl) e)
union_value at rows d (V.union n v) p e =
    let x = map_from (λ c. (n, c)) (member_data at rows (member_of d n) v) p (sym (joined n (member_data at rows (member_of d n) v)) ∙ e) in
    let same : (n, x.item) ≡ p = same_Some (n, x.item) p x.made in
    let number : n ≡ p.0 = ap (λ (q : ℕ × Data). q.0) same in
    record {
      part = v;
      is = ap (λ k. V.union k v) number;
      there = ap (λ k. member_data at rows (member_of d k) v) (sym number) ∙ x.there ∙ ap (λ (q : ℕ × Data). Some q.1) same;
    }
  where
    joined : (n : ℕ) (o : Option Data) → union_in (option_map (L.union n) o) ≡ option_map (λ c. (n, c)) o
    joined n None = refl
    joined n (Some c) = refl
union_value at rows d w p e = absurd (none-some p e)

-- ---- the law

pub record SameLayer (at : Hamts) (rows : List Row) (s : Slot) (v w : Value) : Type 0 where
  pub form : TypeDef
  pub layer : Layer Data
  pub known : form_of rows s ≡ Some form
  pub of_first : layer_data at rows (Some form) v ≡ Some layer
  pub of_second : layer_data at rows (Some form) w ≡ Some layer

-- two values of one datum are null both, or their layers are the same
pub data Alike (at : Hamts) (rows : List Row) (s : Slot) (v w : Value) : Type 0 where
  both_null : v ≡ V.null → w ≡ V.null → Alike at rows s v w
  one_layer : SameLayer at rows s v w → Alike at rows s v w

pub unsafe : (rows : List Row) (s : Slot) → IsSafe rows s → s.nullable ≡ true → (d : TypeDef) → form_of rows s ≡ Some d → has_kind d K.Null ≡ true → ⊥
unsafe rows s safe nullable d is null =
    let h : false ≡ true = sym (safe nullable) ∙ ap (λ o. kind_in o K.Null) is ∙ null in absurd cc

pub record IsExact (at : Hamts) : Type 0 where
  pub tells : (p : HamtShape) → Tells (at p)
  pub kind : (p : HamtShape) (l : Layer Data) (t : Data) → at p l ≡ Some t → kind_word_of t ≡ K.Map

pub alone_exact : IsExact alone
alone_exact = record { tells = alone_tells; kind = alone_kind }

alike : (at : Hamts) → IsExact at → (rows : List Row) → IsClear rows → (s : Slot) → IsSafe rows s → (v w : Value) (t : Data) → Way at rows s v t → Way at rows s w t → Alike at rows s v w
alike at exact rows clear s safe v w t (as_null v_null a b) (as_null w_null c e) = both_null v_null w_null
alike at exact rows clear s safe v w t (as_null v_null nullable is_null) (as_layer d l is there made) =
    absurd (unsafe rows s safe nullable d is (composed_kind at exact.kind d l T.null (made ∙ ap Some is_null)))
alike at exact rows clear s safe v w t (as_layer d l is there made) (as_null w_null nullable is_null) =
    absurd (unsafe rows s safe nullable d is (composed_kind at exact.kind d l T.null (made ∙ ap Some is_null)))
alike at exact rows clear s safe v w t (as_layer d l is there made) (as_layer e m f g h) =
    let same : e ≡ d = same_Some e d (sym f ∙ is) in
    let made2 : composed at d m ≡ Some t = ap (λ c. composed at c m) (sym same) ∙ h in
    let layers : m ≡ l = composed_tells at exact.tells d (clear.types (base rows s.ty.0) d is) m l t made2 made in
    one_layer (record { form = d; layer = l; known = is; of_first = there; of_second = ap (λ c. layer_data at rows (Some c) w) (sym same) ∙ g ∙ ap Some layers })

-- the slots of the parts are safe
pub safe_parts : (rows : List Row) → IsClear rows → (s : Slot) (d : TypeDef) → form_of rows s ≡ Some d → AreSafe rows d
safe_parts rows clear s d is = clear.parts (base rows s.ty.0) d is

-- ---- values without parts

abbrev pub scalar_of : Layer Data → Option Value
scalar_of (L.boolean b) = Some (V.boolean b)
scalar_of (L.integer n) = Some (V.integer n)
scalar_of (L.text t) = Some (V.text t)
scalar_of (L.bytes t) = Some (V.bytes t)
scalar_of (L.link t) = Some (V.link t)
scalar_of (L.any t) = Some (V.any t)
scalar_of L.unit = Some V.unit
scalar_of (L.enum n) = Some (V.enum n)
scalar_of (L.hamt t) = Some (V.hamt t)
scalar_of l = None

pub scalar_value : (at : Hamts) (rows : List Row) (d : Option TypeDef) (w x : Value) → option_and_then scalar_of (layer_data at rows d w) ≡ Some x → w ≡ x
scalar_value at rows d V.null x e = absurd (none-some x e)
scalar_value at rows d (V.list ws) x e = absurd (gone L.list scalar_of (values_data at rows (element_of d) ws) x (λ a. refl) e)
scalar_value at rows d (V.map ps) x e = absurd (gone L.map scalar_of (pairs_data at rows (element_of d) ps) x (λ a. refl) e)
scalar_value at rows d (V.struct os) x e = absurd (gone L.struct scalar_of (represented_fields at rows (fields_of d) os) x (λ a. refl) e)
scalar_value at rows d (V.union n v) x e = absurd (gone (L.union n) scalar_of (member_data at rows (member_of d n) v) x (λ a. refl) e)
scalar_value at rows d w x e = same_Some w x e

-- ---- slots

pub plain_safe : (rows : List Row) (s : Slot) → s.nullable ≡ false → IsSafe rows s
plain_safe rows s plain nullable = let h : true ≡ false = sym nullable ∙ plain in absurd cc

pub element_safe : (rows : List Row) (d : TypeDef) → AreSafe rows d → (u : Slot) → element_of (Some d) ≡ Some u → IsSafe rows u
element_safe rows (D.List elem place) safe u e = subst (IsSafe rows) (same_Some elem u e) safe
element_safe rows (D.Map key key_place value place form) safe u e = subst (IsSafe rows) (same_Some value u e) safe
element_safe rows d safe u e = absurd (none-some u e)

pub fields_safe : (rows : List Row) (d : TypeDef) → AreSafe rows d → AllByRecursion (λ f. IsSafe rows f.slot) (fields_of (Some d))
fields_safe rows (D.Struct s) safe = safe
fields_safe rows d safe = tt

pub member_plain : (d : TypeDef) (n : ℕ) (u : Slot) → member_of (Some d) n ≡ Some u → u.nullable ≡ false
member_plain d n u e = let x = map_from slot_of (member_at (Some d) n) u e in ap (λ (k : Slot). k.nullable) (sym (same_Some (slot_of x.item) u x.made))

-- ---- the induction

module _ (at : Hamts) (exact : IsExact at) (rows : List Row) (clear : IsClear rows) where
  no_layer : (d : TypeDef) (l : Layer Data) → layer_data at rows (Some d) V.null ≡ Some l → ⊥
  no_layer d l e = none-some l e

  null_case : (s : Slot) (w : Value) → Alike at rows s V.null w → V.null ≡ w
  null_case s w (both_null a b) = sym b
  null_case s w (one_layer h) = absurd (no_layer h.form h.layer h.of_first)

  -- a value that is its own layer
  scalar_case : (s : Slot) (v w : Value) → ((d : TypeDef) → option_and_then scalar_of (layer_data at rows (Some d) v) ≡ Some v) → Alike at rows s v w → v ≡ w
  scalar_case s v w own (both_null a b) = a ∙ sym b
  scalar_case s v w own (one_layer h) =
      sym (scalar_value at rows (Some h.form) w v (ap (option_and_then scalar_of) (h.of_second ∙ sym h.of_first) ∙ own h.form))

  list_case : (s : Slot) (vs : Values) (w : Value)
      → ((u : Slot) → IsSafe rows u → (ws : Values) (ds : List Data) → represented_values at rows u vs ≡ Some ds → represented_values at rows u ws ≡ Some ds → vs ≡ ws)
      → Alike at rows s (V.list vs) w → V.list vs ≡ w
  list_case s vs w later (both_null a b) = a ∙ sym b
  list_case s vs w later (one_layer h) =
      let x = map_from L.list (values_data at rows (element_of (Some h.form)) vs) h.layer h.of_first in
      let y = list_value at rows (Some h.form) w x.item (ap list_in (h.of_second ∙ sym x.made)) in
      let z = then_from (λ u. represented_values at rows u vs) (element_of (Some h.form)) x.item x.there in
      ap V.list (later z.item (element_safe rows h.form (safe_parts rows clear s h.form h.known) z.item z.there) y.items x.item z.made (ap (λ o. values_data at rows o y.items) (sym z.there) ∙ y.there)) ∙ sym y.is

  map_case : (s : Slot) (vs : Pairs) (w : Value)
      → ((u : Slot) → IsSafe rows u → (ws : Pairs) (ds : List (List ℕ × Data)) → represented_pairs at rows u vs ≡ Some ds → represented_pairs at rows u ws ≡ Some ds → vs ≡ ws)
      → Alike at rows s (V.map vs) w → V.map vs ≡ w
  map_case s vs w later (both_null a b) = a ∙ sym b
  map_case s vs w later (one_layer h) =
      let x = map_from L.map (pairs_data at rows (element_of (Some h.form)) vs) h.layer h.of_first in
      let y = map_value at rows (Some h.form) w x.item (ap map_in (h.of_second ∙ sym x.made)) in
      let z = then_from (λ u. represented_pairs at rows u vs) (element_of (Some h.form)) x.item x.there in
      ap V.map (later z.item (element_safe rows h.form (safe_parts rows clear s h.form h.known) z.item z.there) y.items x.item z.made (ap (λ o. pairs_data at rows o y.items) (sym z.there) ∙ y.there)) ∙ sym y.is

  struct_case : (s : Slot) (vs : Optionals) (w : Value)
      → ((fs : List Field) → AllByRecursion (λ f. IsSafe rows f.slot) fs → (ws : Optionals) (ds : List (Option Data)) → represented_fields at rows fs vs ≡ Some ds → represented_fields at rows fs ws ≡ Some ds → vs ≡ ws)
      → Alike at rows s (V.struct vs) w → V.struct vs ≡ w
  struct_case s vs w later (both_null a b) = a ∙ sym b
  struct_case s vs w later (one_layer h) =
      let x = map_from L.struct (represented_fields at rows (fields_of (Some h.form)) vs) h.layer h.of_first in
      let y = struct_value at rows (Some h.form) w x.item (ap struct_in (h.of_second ∙ sym x.made)) in
      ap V.struct (later (fields_of (Some h.form)) (fields_safe rows h.form (safe_parts rows clear s h.form h.known)) y.items x.item x.there y.there) ∙ sym y.is

  union_case : (s : Slot) (n : ℕ) (v w : Value)
      → ((u : Slot) → IsSafe rows u → (x : Value) (d : Data) → represented at rows u v ≡ Some d → represented at rows u x ≡ Some d → v ≡ x)
      → Alike at rows s (V.union n v) w → V.union n v ≡ w
  union_case s n v w later (both_null a b) = a ∙ sym b
  union_case s n v w later (one_layer h) =
      let x = map_from (L.union n) (member_data at rows (member_of (Some h.form) n) v) h.layer h.of_first in
      let y = union_value at rows (Some h.form) w (n, x.item) (ap union_in (h.of_second ∙ sym x.made)) in
      let z = then_from (λ u. represented at rows u v) (member_of (Some h.form) n) x.item x.there in
      ap (V.union n) (later z.item (plain_safe rows z.item (member_plain h.form n z.item z.there)) y.part x.item z.made (ap (λ o. member_data at rows o y.part) (sym z.there) ∙ y.there)) ∙ sym y.is

  abbrev both : (s : Slot) → IsSafe rows s → (v w : Value) (t : Data) → represented at rows s v ≡ Some t → represented at rows s w ≡ Some t → Alike at rows s v w
  both s safe v w t e k = alike at exact rows clear s safe v w t (way_of at rows s v t e) (way_of at rows s w t k)

  abbrev head_like : {A : Type 0} → A → List A → A
  head_like z [] = z
  head_like z (x ∷ xs) = x

  abbrev tail_like : {A : Type 0} → List A → List A
  tail_like [] = []
  tail_like (x ∷ xs) = xs

  empty_full : {A : Type 0} (o : Option A) (os : Option (List A)) (ds : List A) → Some [] ≡ Some ds → cons_both o os ≡ Some ds → ⊥
  empty_full o os ds e k =
      let b = both_from o os ds k in
      let h : b.item ∷ b.items ≡ [] = b.all ∙ sym (same_Some [] ds e) in
      absurd cc

  -- a field is not absent and present
  some_none : (f : Field) (w : Value) (ds : List (Option Data)) {os us : Option (List (Option Data))}
      → Both (Some None) os ds → Both (option_map Some (represented at rows f.slot w)) us ds → ⊥
  some_none f w ds b c =
      let x = map_from Some (represented at rows f.slot w) c.item c.first in
      none-some x.item (same_Some None b.item b.first ∙ ap (head_like b.item) (b.all ∙ sym c.all) ∙ sym (same_Some (Some x.item) c.item x.made))

  mutual
    pub one_value : (s : Slot) → IsSafe rows s → (v w : Value) (t : Data) → represented at rows s v ≡ Some t → represented at rows s w ≡ Some t → v ≡ w
    one_value s safe V.null w t e k = null_case s w (both s safe V.null w t e k)
    one_value s safe (V.boolean b) w t e k = scalar_case s (V.boolean b) w (λ d. refl) (both s safe (V.boolean b) w t e k)
    one_value s safe (V.integer n) w t e k = scalar_case s (V.integer n) w (λ d. refl) (both s safe (V.integer n) w t e k)
    one_value s safe (V.text x) w t e k = scalar_case s (V.text x) w (λ d. refl) (both s safe (V.text x) w t e k)
    one_value s safe (V.bytes x) w t e k = scalar_case s (V.bytes x) w (λ d. refl) (both s safe (V.bytes x) w t e k)
    one_value s safe (V.link x) w t e k = scalar_case s (V.link x) w (λ d. refl) (both s safe (V.link x) w t e k)
    one_value s safe (V.any x) w t e k = scalar_case s (V.any x) w (λ d. refl) (both s safe (V.any x) w t e k)
    one_value s safe V.unit w t e k = scalar_case s V.unit w (λ d. refl) (both s safe V.unit w t e k)
    one_value s safe (V.enum n) w t e k = scalar_case s (V.enum n) w (λ d. refl) (both s safe (V.enum n) w t e k)
    one_value s safe (V.hamt x) w t e k = scalar_case s (V.hamt x) w (λ d. refl) (both s safe (V.hamt x) w t e k)
    one_value s safe (V.list vs) w t e k =
        list_case s vs w (λ u ok ws ds h1 h2. one_values u ok vs ws ds h1 h2) (both s safe (V.list vs) w t e k)
    one_value s safe (V.map ps) w t e k =
        map_case s ps w (λ u ok ws ds h1 h2. one_pairs u ok ps ws ds h1 h2) (both s safe (V.map ps) w t e k)
    one_value s safe (V.struct os) w t e k =
        struct_case s os w (λ fs ok ws ds h1 h2. one_fields fs ok os ws ds h1 h2) (both s safe (V.struct os) w t e k)
    one_value s safe (V.union n v) w t e k =
        union_case s n v w (λ u ok x d h1 h2. one_value u ok v x d h1 h2) (both s safe (V.union n v) w t e k)

    one_values : (s : Slot) → IsSafe rows s → (vs ws : Values) (ds : List Data) → represented_values at rows s vs ≡ Some ds → represented_values at rows s ws ≡ Some ds → vs ≡ ws
    one_values s safe V.no_values V.no_values ds e k = refl
    one_values s safe V.no_values (V.value w ws) ds e k = absurd (empty_full (represented at rows s w) (represented_values at rows s ws) ds e k)
    one_values s safe (V.value v vs) V.no_values ds e k = absurd (empty_full (represented at rows s v) (represented_values at rows s vs) ds k e)
    one_values s safe (V.value v vs) (V.value w ws) ds e k =
        let b = both_from (represented at rows s v) (represented_values at rows s vs) ds e in
        let c = both_from (represented at rows s w) (represented_values at rows s ws) ds k in
        let first = one_value s safe v w b.item b.first (c.first ∙ ap Some (ap (head_like b.item) (c.all ∙ sym b.all))) in
        let rest = one_values s safe vs ws b.items b.rest (c.rest ∙ ap Some (ap tail_like (c.all ∙ sym b.all))) in
        λ i. V.value (first i) (rest i)

    one_pairs : (s : Slot) → IsSafe rows s → (vs ws : Pairs) (ds : List (List ℕ × Data)) → represented_pairs at rows s vs ≡ Some ds → represented_pairs at rows s ws ≡ Some ds → vs ≡ ws
    one_pairs s safe V.no_pairs V.no_pairs ds e k = refl
    one_pairs s safe V.no_pairs (V.pair q w ws) ds e k = absurd (empty_full (option_map (λ d. (q, d)) (represented at rows s w)) (represented_pairs at rows s ws) ds e k)
    one_pairs s safe (V.pair p v vs) V.no_pairs ds e k = absurd (empty_full (option_map (λ d. (p, d)) (represented at rows s v)) (represented_pairs at rows s vs) ds k e)
    one_pairs s safe (V.pair p v vs) (V.pair q w ws) ds e k =
        let b = both_from (option_map (λ d. (p, d)) (represented at rows s v)) (represented_pairs at rows s vs) ds e in
        let c = both_from (option_map (λ d. (q, d)) (represented at rows s w)) (represented_pairs at rows s ws) ds k in
        let x = map_from (λ d. (p, d)) (represented at rows s v) b.item b.first in
        let y = map_from (λ d. (q, d)) (represented at rows s w) c.item c.first in
        let same : (q, y.item) ≡ (p, x.item) = same_Some (q, y.item) c.item y.made ∙ ap (head_like b.item) (c.all ∙ sym b.all) ∙ sym (same_Some (p, x.item) b.item x.made) in
        let key : p ≡ q = sym (ap (λ (r : List ℕ × Data). r.0) same) in
        let first = one_value s safe v w x.item x.there (y.there ∙ ap (λ (r : List ℕ × Data). Some r.1) same) in
        let rest = one_pairs s safe vs ws b.items b.rest (c.rest ∙ ap Some (ap tail_like (c.all ∙ sym b.all))) in
        λ i. V.pair (key i) (first i) (rest i)

    one_fields : (fs : List Field) → AllByRecursion (λ f. IsSafe rows f.slot) fs → (vs ws : Optionals) (ds : List (Option Data)) → represented_fields at rows fs vs ≡ Some ds → represented_fields at rows fs ws ≡ Some ds → vs ≡ ws
    one_fields fs safe V.no_optionals V.no_optionals ds e k = refl
    one_fields [] safe V.no_optionals (V.absent ws) ds e k = absurd (none-some ds k)
    one_fields [] safe V.no_optionals (V.present w ws) ds e k = absurd (none-some ds k)
    one_fields [] safe (V.absent vs) ws ds e k = absurd (none-some ds e)
    one_fields [] safe (V.present v vs) ws ds e k = absurd (none-some ds e)
    one_fields (f ∷ fs) safe V.no_optionals (V.absent ws) ds e k = absurd (empty_full (Some None) (represented_fields at rows fs ws) ds e k)
    one_fields (f ∷ fs) safe V.no_optionals (V.present w ws) ds e k =
        absurd (empty_full (option_map Some (represented at rows f.slot w)) (represented_fields at rows fs ws) ds e k)
    one_fields (f ∷ fs) safe (V.absent vs) V.no_optionals ds e k = absurd (empty_full (Some None) (represented_fields at rows fs vs) ds k e)
    one_fields (f ∷ fs) safe (V.present v vs) V.no_optionals ds e k =
        absurd (empty_full (option_map Some (represented at rows f.slot v)) (represented_fields at rows fs vs) ds k e)
    one_fields (f ∷ fs) safe (V.absent vs) (V.absent ws) ds e k =
        let b = both_from (Some None) (represented_fields at rows fs vs) ds e in
        let c = both_from (Some None) (represented_fields at rows fs ws) ds k in
        ap V.absent (one_fields fs safe.1 vs ws b.items b.rest (c.rest ∙ ap Some (ap tail_like (c.all ∙ sym b.all))))
    one_fields (f ∷ fs) safe (V.absent vs) (V.present w ws) ds e k =
        absurd (some_none f w ds (both_from (Some None) (represented_fields at rows fs vs) ds e) (both_from (option_map Some (represented at rows f.slot w)) (represented_fields at rows fs ws) ds k))
    one_fields (f ∷ fs) safe (V.present v vs) (V.absent ws) ds e k =
        absurd (some_none f v ds (both_from (Some None) (represented_fields at rows fs ws) ds k) (both_from (option_map Some (represented at rows f.slot v)) (represented_fields at rows fs vs) ds e))
    one_fields (f ∷ fs) safe (V.present v vs) (V.present w ws) ds e k =
        let b = both_from (option_map Some (represented at rows f.slot v)) (represented_fields at rows fs vs) ds e in
        let c = both_from (option_map Some (represented at rows f.slot w)) (represented_fields at rows fs ws) ds k in
        let x = map_from Some (represented at rows f.slot v) b.item b.first in
        let y = map_from Some (represented at rows f.slot w) c.item c.first in
        let same : Some y.item ≡ Some x.item = same_Some (Some y.item) c.item y.made ∙ ap (head_like b.item) (c.all ∙ sym b.all) ∙ sym (same_Some (Some x.item) b.item x.made) in
        let first = one_value f.slot safe.0 v w x.item x.there (y.there ∙ same) in
        let rest = one_fields fs safe.1 vs ws b.items b.rest (c.rest ∙ ap Some (ap tail_like (c.all ∙ sym b.all))) in
        λ i. V.present (first i) (rest i)
