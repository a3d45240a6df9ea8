-- What pieces are opened as, by their types.
use Rattle.std.proofs.Common.{◌≡◌, ℕ, suc, List, [], length, true, false, cond, codes, flat_map, Option, Some, None, refl, sym, ap, ◌∙◌, subst}
use Rattle.std.specs.Option.{option_and_then, option_map_or}
use Rattle.ild_beneath.specs.Children.{by_form, found, kind_in, node_children}
use Rattle.ild_beneath.specs.Parts.{is_flat, map_parts, named_parts, ordered_parts, parts_of, struct_parts}
use Rattle.ild_cbor.specs.Scalar.{kind_of}
use Rattle.ild_cbor.specs.Steps.{HasItems}
use Rattle.ild_cbor.specs.declared.items.Items.{Items}
use Rattle.ild_cbor.specs.declared.node.Node.{Node}
use Rattle.ild_typed.proofs.WalkForms.{each_number}
use Rattle.ild_data.proofs.Lists.{items_of-items_list}
use Rattle.ild_data.specs.Data as T
use Rattle.ild_data.specs.Data.{Data}
use Rattle.ild_data.specs.Key.{value_at}
use Rattle.ild_data.specs.declared.hamt_shape.HamtShape.{HamtShape}
use Rattle.ild_layer_piece.specs.Entries.{Found, HasLeft, Lists, Maps}
use Rattle.ild_layer_piece.specs.declared.walk.MapEntries.{MapEntries}
use Rattle.ild_open_held.specs.Splits.{element_parts, entry_parts}
use Rattle.ild_schema.specs.Clear.{AreNamesApart, ClearStruct, ClearType}
use Rattle.ild_schema.specs.Copies.{base}
use Rattle.ild_schema.specs.Rows.{def_at}
use Rattle.ild_schema.specs.Slots.{form_of}
use Rattle.ild_schema.specs.Table.{IsWithin}
use Rattle.ild_schema.specs.declared.def.Field.{Field}
use Rattle.ild_schema.specs.declared.def.MapForm.{MapForm}
use Rattle.ild_schema.specs.declared.def.MapForm.TheVariants as MF
use Rattle.ild_schema.specs.declared.def.Member.{Member}
use Rattle.ild_schema.specs.declared.def.StructDef.{StructDef}
use Rattle.ild_schema.specs.declared.def.StructForm.{StructForm}
use Rattle.ild_schema.specs.declared.def.StructForm.TheVariants as S
use Rattle.ild_schema.specs.declared.def.TypeDef.{TypeDef}
use Rattle.ild_schema.specs.declared.def.TypeDef.TheVariants as D
use Rattle.ild_schema.specs.declared.def.UnionDef.{UnionDef}
use Rattle.ild_schema.specs.declared.number.Slot.{Slot}
use Rattle.ild_schema.specs.declared.number.TypeNo.{TypeNo}
use Rattle.ild_schema.specs.declared.row.Row.{Row}
use Rattle.ild_typed.specs.Named.{items_in, pair_entries}
use Rattle.ild_typed.specs.Strings.{members_in}
use Rattle.ild_beneath_read.specs.inside.Left.{FieldsIn, OfEntries, OfItems}
use Rattle.ild_beneath_read.specs.inside.Opened.{MembersIn, TellsParts, OpensRoot, Parted, is_leaf}
use Rattle.ild_beneath_read.specs.inside.Pushes.{told}
use Rattle.ild_beneath_read.specs.declared.opened.Opened.{Opened}
use Rattle.ild_beneath_read.specs.declared.opened.Opened.TheVariants as O

pub leaf_flat : (t : Data) → is_leaf (kind_of t) ≡ is_flat t
leaf_flat (T.list ds) = refl
leaf_flat (T.map ms) = refl
leaf_flat t = refl

-- ---- what lists and maps are

record IsListOf (t : Data) (s : Items) : Type 0 where
  pub items : T.Items
  pub is : t ≡ T.list items
  pub left : HasItems s items

list_of : (t : Data) (s : Items) → Lists (items_in t) (Some s) → IsListOf t s
list_of (T.list ds) s h = record { items = ds; is = refl; left = subst (HasItems s) (items_of-items_list ds) h }
list_of t s h = absurd h

record IsMapOf (t : Data) (s : MapEntries) : Type 0 where
  pub members : T.Members
  pub is : t ≡ T.map members
  pub left : HasLeft s (T.members_list members)

map_of : (t : Data) (s : MapEntries) → Maps (members_in t) (Some s) → IsMapOf t s
map_of (T.map ms) s h = record { members = ms; is = refl; left = h }
map_of t s h = absurd h

-- ---- lists

pub list_parted : (elem : Slot) (at : ℕ) (t : Data) (s : Items) → Lists (items_in t) (Some s) → OfItems (element_parts elem) s (parts_of (D.List elem at) t)
list_parted elem at t s h = let x = list_of t s h in record { items = x.items; left = x.left; is = ap (parts_of (D.List elem at)) x.is }

pub no_list : (elem : Slot) (at : ℕ) (t : Data) → Lists (items_in t) None → parts_of (D.List elem at) t ≡ []
no_list elem at (T.list ds) h = absurd h
no_list elem at t h = refl

-- ---- maps

module _ (form : MapForm) (u : Slot) (t : Data) where
  pub map_parted : (s : MapEntries) → form ≡ MF.Map → Maps (members_in t) (Some s) → OfEntries u s (map_parts form u t)
  map_parted s is h =
      let x = map_of t s h in
      record { entries = T.members_list x.members; left = x.left; is = ap (λ f. map_parts f u t) is ∙ ap (map_parts MF.Map u) x.is }

  pub no_map : form ≡ MF.Map → Maps (members_in t) None → map_parts form u t ≡ []
  no_map is h = ap (λ f. map_parts f u t) is ∙ by t h where
    by : (t : Data) → Maps (members_in t) None → map_parts MF.Map u t ≡ []
    by (T.map ms) h = absurd h
    by t h = refl

  pub pairs_parted : (s : Items) → form ≡ MF.ListPairs → Lists (items_in t) (Some s) → OfItems (λ ds. entry_parts u (pair_entries ds)) s (map_parts form u t)
  pairs_parted s is h =
      let x = list_of t s h in
      record { items = x.items; left = x.left; is = ap (λ f. map_parts f u t) is ∙ ap (map_parts MF.ListPairs u) x.is }

-- ---- the root node of a HAMT

pub no_root : (u : Slot) (t : Data) → Found (option_and_then (value_at (codes "hamt")) (members_in t)) None → OpensRoot u t O.Nothing
no_root u (T.map ms) found = λ f kind. ap (λ o. option_map_or (node_children f kind) o []) (by (value_at (codes "hamt") (T.members_list ms)) found) where
  by : (o : Option Data) → Found o None → o ≡ None
  by None h = refl
  by (Some d) h = absurd h
no_root u t found = λ f kind. refl

pub root_opens : (u : Slot) (t : Data) (n : Node) → Found (option_and_then (value_at (codes "hamt")) (members_in t)) (Some n) → OpensRoot u t (O.Root u n)
root_opens u (T.map ms) n found = by (value_at (codes "hamt") (T.members_list ms)) refl found where
  by : (o : Option Data) → value_at (codes "hamt") (T.members_list ms) ≡ o → Found o (Some n) → OpensRoot u (T.map ms) (O.Root u n)
  by None is h = absurd h
  by (Some d) is h = (refl, d, h, λ f kind. ap (λ o. option_map_or (node_children f kind) o []) is)
root_opens u t n found = absurd found

-- ---- structs

module _ (form : StructForm) (fs : List Field) (t : Data) where
  pub named_parted : (s : MapEntries) → form ≡ S.Map → Maps (members_in t) (Some s) → (es : List (List ℕ × Data)) × HasLeft s es × (struct_parts form fs t ≡ named_parts fs es)
  named_parted s is h = let x = map_of t s h in (T.members_list x.members, x.left, ap (λ f. struct_parts f fs t) is ∙ ap (struct_parts S.Map fs) x.is)

  pub listed_parted : (s : Items) → form ≡ S.ListPairs → Lists (items_in t) (Some s) → (ds : T.Items) × HasItems s ds × (struct_parts form fs t ≡ named_parts fs (pair_entries (T.items_list ds)))
  listed_parted s is h = let x = list_of t s h in (x.items, x.left, ap (λ f. struct_parts f fs t) is ∙ ap (struct_parts S.ListPairs fs) x.is)

  pub tuple_parted : (s : Items) → form ≡ S.Tuple → Lists (items_in t) (Some s) → (gs : List Field) → gs ≡ fs → OfItems (ordered_parts gs) s (struct_parts form fs t)
  tuple_parted s is h gs same =
      let x = list_of t s h in
      record { items = x.items; left = x.left; is = ap (λ f. struct_parts f fs t) is ∙ ap (struct_parts S.Tuple fs) x.is ∙ ap (λ hs. ordered_parts hs (T.items_list x.items)) (sym same) }

pub clear_named : (s : StructDef) → s.form ≡ S.Map → ClearType (D.Struct s) → AreNamesApart s.fields
clear_named s is clear = (subst (λ f. ClearStruct f s.fields) is clear).apart

pub clear_listed : (s : StructDef) → s.form ≡ S.ListPairs → ClearType (D.Struct s) → AreNamesApart s.fields
clear_listed s is clear = (subst (λ f. ClearStruct f s.fields) is clear).apart

-- ---- the types of parts

pub fields_in : (rows : List Row) (s : StructDef) → IsWithin (length rows) (D.Struct s) → FieldsIn rows s.fields
fields_in rows s within = each_number (λ (f : Field). f.slot.ty.0) (length rows) s.fields within.1

pub members_are_in : (rows : List Row) (u : UnionDef) → IsWithin (length rows) (D.Union u) → MembersIn rows u.members
members_are_in rows u within = each_number (λ (m : Member). m.ty.0) (length rows) u.members within.1

pub form_is : (rows : List Row) (s : Slot) (n : ℕ) (there d : TypeDef) → n ≡ base rows s.ty.0 → def_at rows n ≡ Some there → there ≡ d → form_of rows s ≡ Some d
form_is rows s n there d at is same = ap (def_at rows) (sym at) ∙ is ∙ ap Some same

-- ---- what data in a slot tell

module _ (rows : List Row) (s : Slot) (t : Data) where
  pub leaf_opens : is_flat t ≡ true → TellsParts rows s t O.Nothing
  unfolding found
  leaf_opens flat = ([], refl, λ k. ap (λ b. cond b [] (by_form (found rows k) s (form_of rows s) t)) flat)

  module _ (flat : is_flat t ≡ false) (d : TypeDef) (form : form_of rows s ≡ Some d) where
    found_by : (k : ℕ) → found rows (suc k) s t ≡ by_form (found rows k) s (Some d) t
    unfolding found
    found_by k = ap (λ b. cond b [] (by_form (found rows k) s (form_of rows s) t)) flat ∙ ap (λ o. by_form (found rows k) s o t) form

    pub parts_open : ((k : ℕ) → by_form (found rows k) s (Some d) t ≡ flat_map (told rows k) (parts_of d t)) → (o : Opened) → Parted rows (parts_of d t) o → TellsParts rows s t o
    parts_open plain O.Nothing h = (parts_of d t, h, λ k. found_by k ∙ plain k)
    parts_open plain (O.Parts x) h = (parts_of d t, h, λ k. found_by k ∙ plain k)
    parts_open plain (O.Named fs x) h = (parts_of d t, h, λ k. found_by k ∙ plain k)
    parts_open plain (O.Listed fs x) h = (parts_of d t, h, λ k. found_by k ∙ plain k)
    parts_open plain (O.Member u p) h = (parts_of d t, h, λ k. found_by k ∙ plain k)
    parts_open plain (O.Root u n) h = absurd h

  -- a map that is no HAMT
  pub map_plain : (key : TypeNo) (key_at : ℕ) (value : Slot) (at : ℕ) (form : MapForm) → ((p : HamtShape) → form ≡ MF.Hamt p → ⊥) → (k : ℕ)
      → by_form (found rows k) s (Some (D.Map key key_at value at form)) t ≡ flat_map (told rows k) (parts_of (D.Map key key_at value at form) t)
  map_plain key key_at value at MF.Map not_hamt k = refl
  map_plain key key_at value at MF.ListPairs not_hamt k = refl
  map_plain key key_at value at (MF.StringPairs inner entry) not_hamt k = refl
  map_plain key key_at value at (MF.Hamt p) not_hamt k = absurd (not_hamt p refl)

  pub hamt_opens : is_flat t ≡ false → (p : HamtShape) (key : TypeNo) (key_at : ℕ) (value : Slot) (at : ℕ) → form_of rows s ≡ Some (D.Map key key_at value at (MF.Hamt p)) → (o : Opened) → OpensRoot value t o → TellsParts rows s t o
  hamt_opens flat p key key_at value at form O.Nothing h = ([], refl, λ k. found_by flat (D.Map key key_at value at (MF.Hamt p)) form k ∙ h (found rows k value) (kind_in s))
  hamt_opens flat p key key_at value at form (O.Root v n) h =
      (h.1, h.2, λ k. found_by flat (D.Map key key_at value at (MF.Hamt p)) form k ∙ h.3 (found rows k value) (kind_in s) ∙ ap (λ u. node_children (found rows k u) (kind_in s) h.1) (sym h.0))
  hamt_opens flat p key key_at value at form (O.Parts x) h = absurd h
  hamt_opens flat p key key_at value at form (O.Named fs x) h = absurd h
  hamt_opens flat p key key_at value at form (O.Listed fs x) h = absurd h
  hamt_opens flat p key key_at value at form (O.Member u q) h = absurd h

  -- a type whose data have no parts
  other_plain : (d : TypeDef) → ((elem : Slot) (at : ℕ) → d ≡ D.List elem at → ⊥) → ((key : TypeNo) (key_at : ℕ) (value : Slot) (at : ℕ) (form : MapForm) → d ≡ D.Map key key_at value at form → ⊥)
      → ((x : StructDef) → d ≡ D.Struct x → ⊥) → ((x : UnionDef) → d ≡ D.Union x → ⊥) → (k : ℕ) → by_form (found rows k) s (Some d) t ≡ []
  other_plain (D.List elem at) no_list no_map no_struct no_union k = absurd (no_list elem at refl)
  other_plain (D.Map key key_at value at form) no_list no_map no_struct no_union k = absurd (no_map key key_at value at form refl)
  other_plain (D.Struct x) no_list no_map no_struct no_union k = absurd (no_struct x refl)
  other_plain (D.Union x) no_list no_map no_struct no_union k = absurd (no_union x refl)
  other_plain d no_list no_map no_struct no_union k = refl

  pub other_opens : is_flat t ≡ false → (d : TypeDef) → form_of rows s ≡ Some d → ((elem : Slot) (at : ℕ) → d ≡ D.List elem at → ⊥)
      → ((key : TypeNo) (key_at : ℕ) (value : Slot) (at : ℕ) (form : MapForm) → d ≡ D.Map key key_at value at form → ⊥)
      → ((x : StructDef) → d ≡ D.Struct x → ⊥) → ((x : UnionDef) → d ≡ D.Union x → ⊥) → TellsParts rows s t O.Nothing
  other_opens flat d form no_list no_map no_struct no_union = ([], refl, λ k. found_by flat d form k ∙ other_plain d no_list no_map no_struct no_union k)
