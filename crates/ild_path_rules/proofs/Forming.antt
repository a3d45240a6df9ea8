-- What a view holds parts as, by the form of its type.
use Rattle.std.proofs.Common.{◌≡◌, ◌<◌, ℕ, List, Bool, true, false, Some, None, refl, sym, ◌∙◌, ap, subst, arith}
use Rattle.std.specs.Prelude.{◌↔◌}
use Rattle.std.proofs.lemmas.Option.{same_Some, none-some}
use Rattle.ild_path_rules.specs.Form.{HoldsFields, HoldsMember, IsForm, KeyWithin, entries_inside, entries_of, elements_inside, elements_of, map_form}
use Rattle.ild_path_rules.proofs.Holders.{Holds, holds}
use Rattle.ild_path_rules.specs.declared.form.Form.{Form}
use Rattle.ild_path_rules.specs.declared.form.Form.TheVariants as F
use Rattle.ild_cbor.specs.Scalar.{kind_of}
use Rattle.ild_cbor.specs.declared.kind.Kind.TheVariants as K
use Rattle.ild_cbor.specs.declared.piece.Piece.{Piece}
use Rattle.ild_data.specs.Data as T
use Rattle.ild_data.specs.Data.{Data, items_list, members_list}
use Rattle.ild_layer_piece.specs.Pieces.{StandsFor}
use Rattle.ild_schema.specs.Prelude.{anything}
use Rattle.ild_schema.specs.Slots.{form_of}
use Rattle.ild_schema.specs.Table.{IsWithin}
use Rattle.ild_schema.specs.Value as V
use Rattle.ild_schema.specs.Value.{Value, optionals_list}
use Rattle.ild_schema.specs.declared.def.MapForm.{MapForm}
use Rattle.ild_schema.specs.declared.def.MapForm.TheVariants as MF
use Rattle.ild_schema.specs.declared.def.Scalar.{Scalar}
use Rattle.ild_schema.specs.declared.def.Scalar.TheVariants as C
use Rattle.ild_schema.specs.declared.def.StructDef.{StructDef}
use Rattle.ild_schema.specs.declared.def.TypeDef.{TypeDef}
use Rattle.ild_schema.specs.declared.def.TypeDef.TheVariants as D
use Rattle.ild_schema.specs.declared.def.UnionDef.{UnionDef}
use Rattle.ild_schema.specs.declared.number.Slot.{Slot}
use Rattle.ild_schema.specs.declared.number.TypeNo.{TypeNo}
use Rattle.ild_schema.specs.declared.row.Row.{Row}
use Rattle.ild_typed.specs.At.{seen}
use Rattle.ild_typed.specs.Fields.{is_scalar}
use Rattle.ild_typed.specs.Holder.{any_holder, holder_of, is_paired}
use Rattle.ild_view.specs.Body.{BodyStands}
use Rattle.ild_view.specs.View.{IsView, body_of, piece_in, piece_of, slot_of, table_of}
use Rattle.ild_view.specs.declared.body.Body.{Body}
use Rattle.ild_view.specs.declared.body.Body.TheVariants as B
use Rattle.ild_view.specs.declared.view.View.{View}

never : {A : Type 0} → true ≡ false → A
never p = absurd cc

-- ---- data inside an Any

module _ (rows : List Row) (s : Slot) where
  pub map_inside : (t : Data) → K.Map ≡ kind_of t → IsForm rows s (F.Entries None anything) (any_holder t)
  map_inside (T.map ms) e = entries_inside (members_list ms) refl refl refl
  map_inside T.null e = absurd cc
  map_inside (T.boolean b) e = absurd cc
  map_inside (T.integer n) e = absurd cc
  map_inside (T.text b) e = absurd cc
  map_inside (T.bytes b) e = absurd cc
  map_inside (T.list ds) e = absurd cc
  map_inside (T.link b) e = absurd cc

  pub list_inside : (t : Data) → K.List ≡ kind_of t → IsForm rows s (F.Elements anything) (any_holder t)
  list_inside (T.list ds) e = elements_inside (items_list ds) refl refl
  list_inside T.null e = absurd cc
  list_inside (T.boolean b) e = absurd cc
  list_inside (T.integer n) e = absurd cc
  list_inside (T.text b) e = absurd cc
  list_inside (T.bytes b) e = absurd cc
  list_inside (T.map ms) e = absurd cc
  list_inside (T.link b) e = absurd cc

  pub nothing_inside : (t : Data) → (kind_of t ≡ K.Map → ⊥) → (kind_of t ≡ K.List → ⊥) → IsForm rows s F.Nothing (any_holder t)
  nothing_inside (T.map ms) no_map no_list = absurd (no_map refl)
  nothing_inside (T.list ds) no_map no_list = absurd (no_list refl)
  nothing_inside T.null no_map no_list = (V.any T.null, refl)
  nothing_inside (T.boolean b) no_map no_list = (V.any (T.boolean b), refl)
  nothing_inside (T.integer n) no_map no_list = (V.any (T.integer n), refl)
  nothing_inside (T.text b) no_map no_list = (V.any (T.text b), refl)
  nothing_inside (T.bytes b) no_map no_list = (V.any (T.bytes b), refl)
  nothing_inside (T.link b) no_map no_list = (V.any (T.link b), refl)

  no_map_scalar : (c : Scalar) (ms : T.Members) → is_scalar c (T.map ms) ≡ true → ⊥
  no_map_scalar (C.Bool b) ms e = absurd cc
  no_map_scalar (C.Int n) ms e = absurd cc
  no_map_scalar (C.Text b) ms e = absurd cc

  no_list_scalar : (c : Scalar) (ds : T.Items) → is_scalar c (T.list ds) ≡ true → ⊥
  no_list_scalar (C.Bool b) ds e = absurd cc
  no_list_scalar (C.Int n) ds e = absurd cc
  no_list_scalar (C.Text b) ds e = absurd cc

  pub scalar_inside : (c : Scalar) (t : Data) → is_scalar c t ≡ true → IsForm rows s F.Nothing (any_holder t)
  scalar_inside c (T.map ms) e = absurd (no_map_scalar c ms e)
  scalar_inside c (T.list ds) e = absurd (no_list_scalar c ds e)
  scalar_inside c T.null e = (V.any T.null, refl)
  scalar_inside c (T.boolean b) e = (V.any (T.boolean b), refl)
  scalar_inside c (T.integer n) e = (V.any (T.integer n), refl)
  scalar_inside c (T.text b) e = (V.any (T.text b), refl)
  scalar_inside c (T.bytes b) e = (V.any (T.bytes b), refl)
  scalar_inside c (T.link b) e = (V.any (T.link b), refl)

-- what a view's piece stands for
pub piece_stands : (v : View) (p : Piece) (t : Data) → Some p ≡ piece_of v → BodyStands (table_of v) (body_of v) t → StandsFor (table_of v) p t
piece_stands v p t e stands = by (body_of v) e stands where
  by : (b : Body) → Some p ≡ piece_in b → BodyStands (table_of v) b t → StandsFor (table_of v) p t
  by (B.Held r) k h = subst (λ x. StandsFor (table_of v) x t) (sym (same_Some p r k)) h
  by (B.Implicit c) k h = absurd (none-some p (sym k))

pub no_piece : (v : View) (t : Data) → None ≡ piece_of v → BodyStands (table_of v) (body_of v) t → IsForm (table_of v) (slot_of v) F.Nothing (any_holder t)
no_piece v t e stands = by (body_of v) e stands where
  by : (b : Body) → None ≡ piece_in b → BodyStands (table_of v) b t → IsForm (table_of v) (slot_of v) F.Nothing (any_holder t)
  by (B.Held r) k h = absurd (none-some r k)
  by (B.Implicit c) k h = scalar_inside (table_of v) (slot_of v) c.now t h

-- ---- the types of keys

pub map_within : (n : ℕ) (d : TypeDef) (key : TypeNo) (key_at : ℕ) (value : Slot) (at : ℕ) (form : MapForm) → d ≡ D.Map key key_at value at form → IsWithin n d → KeyWithin n (map_form key value form)
map_within n d key key_at value at form is within = by form low where
  whole : IsWithin n (D.Map key key_at value at form)
  whole = subst (IsWithin n) is within

  low : key.0 < n
  low = whole.1 0 0 (omega arith)

  by : (g : MapForm) → key.0 < n → KeyWithin n (map_form key value g)
  by (MF.Hamt shape) h = tt
  by MF.Map h = h
  by MF.ListPairs h = h
  by (MF.StringPairs inner entry) h = h

-- ---- the types

module _ (v : View) (f : Value) (x : IsView v f) where
  abbrev pub Is : Form → Type 0
  Is form = IsForm (table_of v) (slot_of v) form (seen (table_of v) (slot_of v, f))

  pub null_form : (b : Bool) → b ≡ true → ((b ≡ true) ↔ (f ≡ V.null)) → Is F.Nothing
  null_form b so null = (V.null, ap (holder_of (table_of v) (slot_of v)) (null.0 so))

  module _ (b : Bool) (no_null : b ≡ false) (null : (b ≡ true) ↔ (f ≡ V.null)) (d : TypeDef) (known : form_of (table_of v) (slot_of v) ≡ Some d) where
    held : (e : TypeDef) → d ≡ e → Holds e x.tree (seen (table_of v) (slot_of v, f))
    held e is = subst (λ k. Holds k x.tree (seen (table_of v) (slot_of v, f))) is (holds (table_of v) (slot_of v) x.tree d known f (λ n. never (sym (null.1 n) ∙ no_null)) x.front.tree (x.room, x.front.fits))

    pub list_form : (elem : Slot) (at : ℕ) → d ≡ D.List elem at → Is (F.Elements elem)
    list_form elem at is = let y = held (D.List elem at) is in elements_of y.0 y.1

    pub entries_form : (key : TypeNo) (key_at : ℕ) (value : Slot) (at : ℕ) (form : MapForm) → d ≡ D.Map key key_at value at form → Is (map_form key value form)
    entries_form key key_at value at (MF.Hamt shape) is = held (D.Map key key_at value at (MF.Hamt shape)) is
    entries_form key key_at value at MF.Map is = let y = held (D.Map key key_at value at MF.Map) is in entries_of key (is_paired MF.Map) y.0 refl y.1
    entries_form key key_at value at MF.ListPairs is = let y = held (D.Map key key_at value at MF.ListPairs) is in entries_of key (is_paired MF.ListPairs) y.0 refl y.1
    entries_form key key_at value at (MF.StringPairs inner entry) is =
        let y = held (D.Map key key_at value at (MF.StringPairs inner entry)) is in
        entries_of key (is_paired (MF.StringPairs inner entry)) y.0 refl y.1

    pub struct_form : (def : StructDef) → d ≡ D.Struct def → HoldsFields (table_of v) (slot_of v) def (seen (table_of v) (slot_of v, f))
    struct_form def is =
        let y = held (D.Struct def) is in
        record { values = y.0; is = y.1; each = y.2; known = known ∙ ap Some is }

    pub union_form : (def : UnionDef) → d ≡ D.Union def → HoldsMember (table_of v) (slot_of v) def (seen (table_of v) (slot_of v, f))
    union_form def is =
        let y = held (D.Union def) is in
        record { number = y.0; value = y.1; is = y.2; known = known ∙ ap Some is }

    pub any_form : d ≡ D.Any → (r : Form) → ((t : Data) → BodyStands (table_of v) (body_of v) t → IsForm (table_of v) (slot_of v) r (any_holder t)) → Is r
    any_form is r given = subst (IsForm (table_of v) (slot_of v) r) (sym (held D.Any is)) (given x.tree x.stands)

    pub other_form : (d ≡ D.Any → ⊥) → ((elem : Slot) (at : ℕ) → d ≡ D.List elem at → ⊥) → ((key : TypeNo) (key_at : ℕ) (value : Slot) (at : ℕ) (form : MapForm) → d ≡ D.Map key key_at value at form → ⊥) → ((def : StructDef) → d ≡ D.Struct def → ⊥)
        → ((def : UnionDef) → d ≡ D.Union def → ⊥) → Is F.Nothing
    other_form no_any no_list no_map no_struct no_union = by d refl where
      by : (e : TypeDef) → d ≡ e → Is F.Nothing
      by D.Any is = absurd (no_any is)
      by (D.List elem at) is = absurd (no_list elem at is)
      by (D.Map key key_at value at form) is = absurd (no_map key key_at value at form is)
      by (D.Struct def) is = absurd (no_struct def is)
      by (D.Union def) is = absurd (no_union def is)
      by D.Bool is = held D.Bool is
      by D.Text is = held D.Text is
      by D.Bytes is = held D.Bytes is
      by D.Int is = held D.Int is
      by (D.Link target) is = held (D.Link target) is
      by (D.Unit form) is = held (D.Unit form) is
      by (D.Enum e) is = held (D.Enum e) is
      by (D.Copy target) is = held (D.Copy target) is
