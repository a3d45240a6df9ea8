-- What a front is, by the form of its type: its own data, or its parts beside theirs.
use Rattle.std.proofs.Common.{◌≡◌, ℕ, List, Bool, true, false, not, Option, Some, None, refl, sym, ◌∙◌, ap, subst}
use Rattle.std.specs.Prelude.{IsSomeAnd, ℤ, ◌&&◌, option_and_then, slice_get}
use Rattle.std.specs.List.{AllByRecursion}
use Rattle.std.proofs.lemmas.Option.{same_Some, none-some}
use Rattle.ild_typed.proofs.WalkSound.{any_is}
use Rattle.ild_data.specs.Data as T
use Rattle.ild_data.specs.Data.{Data}
use Rattle.ild_data.specs.declared.hamt_shape.HamtShape.{HamtShape}
use Rattle.ild_schema.specs.Clear.{IsClear, IsSafe}
use Rattle.ild_schema.specs.Copies.{base}
use Rattle.ild_schema.specs.DataKinds.{slot_has}
use Rattle.ild_schema.specs.Slots.{form_of, plainly}
use Rattle.ild_schema.specs.Value as V
use Rattle.ild_schema.specs.Value.{Value, Values, Pairs, Optionals, values_list, pairs_list, optionals_list}
use Rattle.ild_schema.specs.declared.def.EnumDef.{EnumDef}
use Rattle.ild_schema.specs.declared.def.KindWord.TheVariants as K
use Rattle.ild_schema.specs.declared.def.MapForm.{MapForm}
use Rattle.ild_schema.specs.declared.def.MapForm.TheVariants as MF
use Rattle.ild_schema.specs.declared.def.StructDef.{StructDef}
use Rattle.ild_schema.specs.declared.def.TypeDef.{TypeDef}
use Rattle.ild_schema.specs.declared.def.TypeDef.TheVariants as D
use Rattle.ild_schema.specs.declared.def.UnionDef.{UnionDef}
use Rattle.ild_schema.specs.declared.def.UnitForm.{UnitForm}
use Rattle.ild_schema.specs.declared.number.Slot.{Slot}
use Rattle.ild_schema.specs.declared.number.TypeNo.{TypeNo}
use Rattle.ild_schema.specs.declared.row.Row.{Row}
use Rattle.ild_typed.specs.Composed.{any_data, composed, enum_form, map_form, struct_form, union_form, unit_data}
use Rattle.ild_typed.specs.Fits.{Front}
use Rattle.ild_typed.specs.Hamt.{a_map, alone}
use Rattle.ild_typed.specs.Layer as L
use Rattle.ild_typed.specs.Layer.{Layer, as_any, as_boolean, as_bytes, as_enum, as_hamt, as_integer, as_link, as_list, as_map, as_struct, as_text, as_union, as_unit}
use Rattle.ild_typed.specs.Layers.{EntriesFit, FieldsFit, LayerFits, RootFits, layer_of}
use Rattle.ild_typed.specs.OfType.{OfType}
use Rattle.ild_typed.specs.Pieces.{is_null_there}
use Rattle.ild_typed.specs.Represented.{represented, represented_fields, represented_pairs, represented_values}
use Rattle.ild_typed.specs.Slots.{member_of}
use Rattle.ild_typed.specs.Strings.{listpairs, map_data, stringpairs}
use Rattle.ild_typed.proofs.Basics.{map_from, then_from}
use Rattle.ild_typed.proofs.Composing.{alone_tells, composed_tells, a_map_says}
use Rattle.ild_typed.proofs.FormOf.{entries_there, root_there}
use Rattle.ild_typed.proofs.OfKinds.{alone_kind, composed_kind}
use Rattle.ild_typed.proofs.OneLayer.{in_layer}
use Rattle.ild_typed.proofs.OneValue.{Way, as_layer, as_null, layer_data, list_in, list_value, map_in, map_value, scalar_of, scalar_value, struct_in, struct_value, union_in, union_value, unsafe, way_of}
use Rattle.ild_typed.proofs.Onlies.{only_any, only_boolean, only_bytes, only_enum, only_hamt, only_integer, only_link, only_map, only_text, only_unit}
use Rattle.ild_typed.proofs.PartData.{member_data}
use Rattle.ild_view.specs.Itself.{is_plain, itself}
use Rattle.ild_view.specs.Safe.{is_safe}

pub safe_is : (rows : List Row) (s : Slot) → is_safe rows s ≡ true → IsSafe rows s
safe_is rows s e = by s.nullable (slot_has rows s K.Null) e where
  by : (a b : Bool) → not (a && b) ≡ true → a ≡ true → b ≡ false
  by true false e h = refl
  by true true e h = absurd cc
  by false b e h = absurd cc

pub is_safe_where : (rows : List Row) (s : Slot) → IsSafe rows s → is_safe rows s ≡ true
is_safe_where rows s e = by s.nullable (slot_has rows s K.Null) e where
  by : (a b : Bool) → (a ≡ true → b ≡ false) → not (a && b) ≡ true
  by true true e = let h : true ≡ false = e refl in absurd cc
  by true false e = refl
  by false b e = refl

pub null_there : (s : Slot) (t : Data) → is_null_there s t ≡ true → (s.nullable ≡ true) × (t ≡ T.null)
null_there s T.null e = (e, refl)
null_there s t e = absurd cc

abbrev pub is_hamt : MapForm → Bool
is_hamt (MF.Hamt p) = true
is_hamt form = false

-- the entries that are composed, where the form shows them
pub record HasEntries (form : MapForm) (l : Layer Data) (t : Data) : Type 0 where
  pub entries : List (List ℕ × Data)
  pub is : l ≡ L.map entries
  pub made : map_form alone form (L.map entries) ≡ Some t

has_entries : (form : MapForm) (l : Layer Data) (t : Data) → is_hamt form ≡ false → map_form alone form l ≡ Some t → HasEntries form l t
has_entries MF.Map l t e h = let x = map_from map_data (as_map l) t h in record { entries = x.item; is = only_map l x.item x.there; made = x.made }
has_entries MF.ListPairs l t e h = let x = map_from listpairs (as_map l) t h in record { entries = x.item; is = only_map l x.item x.there; made = x.made }
has_entries (MF.StringPairs inner entry) l t e h = let x = then_from (stringpairs inner entry) (as_map l) t h in record { entries = x.item; is = only_map l x.item x.there; made = x.made }
has_entries (MF.Hamt p) l t e h = absurd cc

module _ (rows : List Row) (clear : IsClear rows) (s : Slot) (safe : is_safe rows s ≡ true) (room : ℕ) (f : Value) (t : Data) (front : Front rows room s f t) where
  -- null, where it may stand, is null
  pub front_null : is_null_there s t ≡ true → f ≡ V.null
  front_null e = by (way_of alone rows s f t front.tree) where
    by : Way alone rows s f t → f ≡ V.null
    by (as_null a n z) = a
    by (as_layer d l is there made) =
        let h = null_there s t e in
        absurd (unsafe rows s (safe_is rows s safe) h.0 d is (composed_kind alone alone_kind d l T.null (made ∙ ap Some h.1)))

  pub null_front : f ≡ V.null → is_null_there s t ≡ true
  null_front e = by (way_of alone rows s V.null t (subst (λ (v : Value). represented alone rows s v ≡ Some t) e front.tree)) where
    by : Way alone rows s V.null t → is_null_there s t ≡ true
    by (as_null a n z) = ap (is_null_there s) z ∙ n
    by (as_layer d l is there made) = absurd (none-some l there)

  pub record FrontLayer (d : TypeDef) : Type 0 where
    pub layer : Layer Data
    pub there : layer_data alone rows (Some d) f ≡ Some layer
    pub made : composed alone d layer ≡ Some t

  module _ (some : is_null_there s t ≡ false) (d : TypeDef) (known : form_of rows s ≡ Some d) where
    pub front_layer : FrontLayer d
    front_layer = by (way_of alone rows s f t front.tree) where
      by : Way alone rows s f t → FrontLayer d
      by (as_null a n z) = let h : false ≡ true = sym some ∙ ap (is_null_there s) z ∙ n in absurd cc
      by (as_layer c l is there made) =
          let same : c ≡ d = same_Some c d (sym is ∙ known) in
          record { layer = l; there = ap (λ k. layer_data alone rows (Some k) f) (sym same) ∙ there; made = ap (λ k. composed alone k l) (sym same) ∙ made }

    -- the layer that a reader found is that of the front
    pub front_known : (l : Layer Data) → composed alone d l ≡ Some t → layer_data alone rows (Some d) f ≡ Some l
    front_known l made =
        let x = front_layer in
        let same : x.layer ≡ l = composed_tells alone alone_tells d (clear.types (base rows s.ty.0) d known) x.layer l t x.made made in
        x.there ∙ ap Some same

    pub front_fits : (v : Value) (l : Layer Value) → f ≡ v → layer_of v ≡ Some l → LayerFits (OfType rows) rows d l
    front_fits v l is e =
        let h = in_layer rows s v l e (subst (OfType rows s) is (room, front.fits)) in
        subst (λ (k : TypeDef). LayerFits (OfType rows) rows k l) (same_Some h.ty d (sym h.form ∙ known)) h.holds

    pub front_scalar : (l : Layer Data) (v : Value) → scalar_of l ≡ Some v → front_layer.layer ≡ l → f ≡ v
    front_scalar l v own is = scalar_value alone rows (Some d) f v (ap (option_and_then scalar_of) (front_layer.there ∙ ap Some is) ∙ own)

  module _ (some : is_null_there s t ≡ false) where
    -- values without parts

    pub front_boolean : form_of rows s ≡ Some D.Bool → (b : Bool) × (f ≡ V.boolean b) × (t ≡ T.boolean b)
    front_boolean known =
        let x = front_layer some D.Bool known in
        let y = map_from T.boolean (as_boolean x.layer) t x.made in
        (y.item, front_scalar some D.Bool known (L.boolean y.item) (V.boolean y.item) refl (only_boolean x.layer y.item y.there), sym (same_Some (T.boolean y.item) t y.made))

    pub front_text : form_of rows s ≡ Some D.Text → (b : List ℕ) × (f ≡ V.text b) × (t ≡ T.text b)
    front_text known =
        let x = front_layer some D.Text known in
        let y = map_from T.text (as_text x.layer) t x.made in
        (y.item, front_scalar some D.Text known (L.text y.item) (V.text y.item) refl (only_text x.layer y.item y.there), sym (same_Some (T.text y.item) t y.made))

    pub front_bytes : form_of rows s ≡ Some D.Bytes → (b : List ℕ) × (f ≡ V.bytes b) × (t ≡ T.bytes b)
    front_bytes known =
        let x = front_layer some D.Bytes known in
        let y = map_from T.bytes (as_bytes x.layer) t x.made in
        (y.item, front_scalar some D.Bytes known (L.bytes y.item) (V.bytes y.item) refl (only_bytes x.layer y.item y.there), sym (same_Some (T.bytes y.item) t y.made))

    pub front_integer : form_of rows s ≡ Some D.Int → (b : ℤ) × (f ≡ V.integer b) × (t ≡ T.integer b)
    front_integer known =
        let x = front_layer some D.Int known in
        let y = map_from T.integer (as_integer x.layer) t x.made in
        (y.item, front_scalar some D.Int known (L.integer y.item) (V.integer y.item) refl (only_integer x.layer y.item y.there), sym (same_Some (T.integer y.item) t y.made))

    pub front_link : (target : TypeNo) → form_of rows s ≡ Some (D.Link target) → (b : List ℕ) × (f ≡ V.link b) × (t ≡ T.link b)
    front_link target known =
        let x = front_layer some (D.Link target) known in
        let y = map_from T.link (as_link x.layer) t x.made in
        (y.item, front_scalar some (D.Link target) known (L.link y.item) (V.link y.item) refl (only_link x.layer y.item y.there), sym (same_Some (T.link y.item) t y.made))

    pub front_any : form_of rows s ≡ Some D.Any → f ≡ V.any t
    front_any known =
        let x = front_layer some D.Any known in
        let y = then_from any_data (as_any x.layer) t x.made in
        front_scalar some D.Any known (L.any y.item) (V.any y.item) refl (only_any x.layer y.item y.there) ∙ ap V.any (any_is y.item t y.made)

    pub front_unit : (form : UnitForm) → form_of rows s ≡ Some (D.Unit form) → f ≡ V.unit
    front_unit form known =
        let x = front_layer some (D.Unit form) known in
        let y = map_from (λ u. unit_data form) (as_unit x.layer) t x.made in
        front_scalar some (D.Unit form) known L.unit V.unit refl (only_unit x.layer y.item y.there)

    pub record EnumFront (e : EnumDef) : Type 0 where
      pub number : ℕ
      pub is : f ≡ V.enum number
      pub made : composed alone (D.Enum e) (L.enum number) ≡ Some t

    pub front_enum : (e : EnumDef) → form_of rows s ≡ Some (D.Enum e) → EnumFront e
    front_enum e known =
        let x = front_layer some (D.Enum e) known in
        let y = then_from (λ n. option_and_then (enum_form e.form) (slice_get e.members n)) (as_enum x.layer) t x.made in
        record { number = y.item; is = front_scalar some (D.Enum e) known (L.enum y.item) (V.enum y.item) refl (only_enum x.layer y.item y.there); made = y.made }

    pub record HamtFront (p : HamtShape) (key : TypeNo) (value : Slot) : Type 0 where
      pub is : f ≡ V.hamt t
      pub fits : RootFits (OfType rows) rows p key value t

    pub front_hamt : (p : HamtShape) (key : TypeNo) (key_at : ℕ) (value : Slot) (at : ℕ) → form_of rows s ≡ Some (D.Map key key_at value at (MF.Hamt p)) → HamtFront p key value
    front_hamt p key key_at value at known =
        let d : TypeDef = D.Map key key_at value at (MF.Hamt p) in
        let x = front_layer some d known in
        let y = then_from a_map (as_hamt x.layer) t x.made in
        let is : f ≡ V.hamt t = front_scalar some d known (L.hamt y.item) (V.hamt y.item) refl (only_hamt x.layer y.item y.there) ∙ ap V.hamt (a_map_says y.item t y.made) in
        record { is = is; fits = root_there rows (OfType rows) p key value t (front_fits some d known (V.hamt t) (L.hamt t) is refl) }

    -- values with parts

    pub record ListFront (elem : Slot) : Type 0 where
      pub items : Values
      pub is : f ≡ V.list items
      pub parts : List Data
      pub there : represented_values alone rows elem items ≡ Some parts
      pub tree : t ≡ T.list (T.items_of parts)
      pub fit : AllByRecursion (OfType rows elem) (values_list items)

    pub front_list : (elem : Slot) (at : ℕ) → form_of rows s ≡ Some (D.List elem at) → ListFront elem
    front_list elem at known =
        let d : TypeDef = D.List elem at in
        let x = front_layer some d known in
        let y = map_from (λ ds. T.list (T.items_of ds)) (as_list x.layer) t x.made in
        let z = list_value alone rows (Some d) f y.item (ap list_in x.there ∙ y.there) in
        record {
          items = z.items;
          is = z.is;
          parts = y.item;
          there = z.there;
          tree = sym (same_Some (T.list (T.items_of y.item)) t y.made);
          fit = front_fits some d known (V.list z.items) (L.list (values_list z.items)) z.is refl;
        }

    pub record MapFront (key : TypeNo) (value : Slot) (form : MapForm) : Type 0 where
      pub items : Pairs
      pub is : f ≡ V.map items
      pub parts : List (List ℕ × Data)
      pub there : represented_pairs alone rows value items ≡ Some parts
      pub made : map_form alone form (L.map parts) ≡ Some t
      pub fit : EntriesFit (OfType rows) rows key value form (pairs_list items)

    pub front_map : (key : TypeNo) (key_at : ℕ) (value : Slot) (at : ℕ) (form : MapForm) → is_hamt form ≡ false → form_of rows s ≡ Some (D.Map key key_at value at form) → MapFront key value form
    front_map key key_at value at form plain known =
        let d : TypeDef = D.Map key key_at value at form in
        let x = front_layer some d known in
        let y = has_entries form x.layer t plain x.made in
        let z = map_value alone rows (Some d) f y.entries (ap map_in (x.there ∙ ap Some y.is)) in
        record {
          items = z.items;
          is = z.is;
          parts = y.entries;
          there = z.there;
          made = y.made;
          fit = entries_there rows (OfType rows) key value form (pairs_list z.items) (front_fits some d known (V.map z.items) (L.map (pairs_list z.items)) z.is refl);
        }

    pub record StructFront (def : StructDef) : Type 0 where
      pub items : Optionals
      pub is : f ≡ V.struct items
      pub parts : List (Option Data)
      pub there : represented_fields alone rows def.fields items ≡ Some parts
      pub made : composed alone (D.Struct def) (L.struct parts) ≡ Some t
      pub fit : FieldsFit (OfType rows) def.fields (optionals_list items)

    pub front_struct : (def : StructDef) → form_of rows s ≡ Some (D.Struct def) → StructFront def
    front_struct def known =
        let d : TypeDef = D.Struct def in
        let x = front_layer some d known in
        let y = then_from (struct_form def.form def.fields) (as_struct x.layer) t x.made in
        let z = struct_value alone rows (Some d) f y.item (ap struct_in x.there ∙ y.there) in
        record {
          items = z.items;
          is = z.is;
          parts = y.item;
          there = z.there;
          made = y.made;
          fit = front_fits some d known (V.struct z.items) (L.struct (optionals_list z.items)) z.is refl;
        }

    pub record UnionFront (def : UnionDef) : Type 0 where
      pub number : ℕ
      pub item : Value
      pub is : f ≡ V.union number item
      pub part : Data
      pub there : member_data alone rows (member_of (Some (D.Union def)) number) item ≡ Some part
      pub made : composed alone (D.Union def) (L.union number part) ≡ Some t
      pub fit : IsSomeAnd (slice_get def.members number) (λ m. OfType rows (plainly m.ty) item)

    pub front_union : (def : UnionDef) → form_of rows s ≡ Some (D.Union def) → UnionFront def
    front_union def known =
        let d : TypeDef = D.Union def in
        let x = front_layer some d known in
        let y = then_from (union_form def.form def.members) (as_union x.layer) t x.made in
        let z = union_value alone rows (Some d) f y.item (ap union_in x.there ∙ y.there) in
        record {
          number = y.item.0;
          item = z.part;
          is = z.is;
          part = y.item.1;
          there = z.there;
          made = y.made;
          fit = front_fits some d known (V.union y.item.0 z.part) (L.union y.item.0 z.part) z.is refl;
        }

    -- whether it is data by itself

    pub itself_plain : (d : TypeDef) → form_of rows s ≡ Some d → is_plain d ≡ true → itself f ≡ Some t
    itself_plain D.Bool known e = let x = front_boolean known in ap itself x.1 ∙ ap Some (sym x.2)
    itself_plain D.Text known e = let x = front_text known in ap itself x.1 ∙ ap Some (sym x.2)
    itself_plain D.Bytes known e = let x = front_bytes known in ap itself x.1 ∙ ap Some (sym x.2)
    itself_plain D.Int known e = let x = front_integer known in ap itself x.1 ∙ ap Some (sym x.2)
    itself_plain D.Any known e = ap itself (front_any known)
    itself_plain (D.Link target) known e = let x = front_link target known in ap itself x.1 ∙ ap Some (sym x.2)
    itself_plain d known e = absurd cc

    hamt_other : (key : TypeNo) (key_at : ℕ) (value : Slot) (at : ℕ) (form : MapForm) → form_of rows s ≡ Some (D.Map key key_at value at form) → itself f ≡ None
    hamt_other key key_at value at MF.Map known = ap itself (front_map key key_at value at MF.Map refl known).is
    hamt_other key key_at value at MF.ListPairs known = ap itself (front_map key key_at value at MF.ListPairs refl known).is
    hamt_other key key_at value at (MF.StringPairs inner entry) known = ap itself (front_map key key_at value at (MF.StringPairs inner entry) refl known).is
    hamt_other key key_at value at (MF.Hamt p) known = ap itself (front_hamt p key key_at value at known).is

    pub itself_other : (d : TypeDef) → form_of rows s ≡ Some d → is_plain d ≡ false → itself f ≡ None
    itself_other (D.Unit form) known e = ap itself (front_unit form known)
    itself_other (D.List elem at) known e = ap itself (front_list elem at known).is
    itself_other (D.Map key key_at value at form) known e = hamt_other key key_at value at form known
    itself_other (D.Struct def) known e = ap itself (front_struct def known).is
    itself_other (D.Union def) known e = ap itself (front_union def known).is
    itself_other (D.Enum def) known e = ap itself (front_enum def known).is
    itself_other (D.Copy target) known e = absurd (none-some t (front_layer some (D.Copy target) known).made)
    itself_other d known e = absurd cc

  pub itself_null : is_null_there s t ≡ true → itself f ≡ Some t
  itself_null e = ap itself (front_null e) ∙ ap Some (sym (null_there s t e).1)
