-- The parts of a front beside those of its data.
use Rattle.std.proofs.Common.{◌≡◌, ◌<◌, ℕ, zero, suc, List, [], ◌∷◌, Bool, true, false, cond, length, Option, Some, None, option_map, refl, sym, ◌∙◌, ap, subst, arith}
use Rattle.std.specs.Prelude.{option_and_then, slice_get, take}
use Rattle.std.specs.List.{AllByRecursion}
use Rattle.std.proofs.lemmas.Option.{same_Some, none-some}
use Rattle.ild_cbor.specs.Span.{item_of}
use Rattle.ild_data.specs.Data as T
use Rattle.ild_data.specs.Data.{Data, Items, Members, items_list, members_list}
use Rattle.ild_data.specs.Key.{same_text, value_at}
use Rattle.ild_data.specs.Tree.{AreEntries, AreTrees, IsTree}
use Rattle.ild_schema.specs.Clear.{IsClear, IsSafe}
use Rattle.ild_schema.specs.Copies.{followed}
use Rattle.ild_schema.specs.DataKinds.{kind_in}
use Rattle.ild_schema.specs.Prelude.{anything, prelude}
use Rattle.ild_schema.specs.Rows.{def_at}
use Rattle.ild_schema.specs.Slots.{form_of}
use Rattle.ild_schema.specs.Value as V
use Rattle.ild_schema.specs.Value.{Value, Values, Pairs, Optionals, values_list, pairs_list, optionals_list}
use Rattle.ild_schema.specs.declared.def.KindWord.TheVariants as K
use Rattle.ild_schema.specs.declared.def.MapForm.{MapForm}
use Rattle.ild_schema.specs.declared.def.MapForm.TheVariants as MF
use Rattle.ild_schema.specs.declared.def.StructDef.{StructDef}
use Rattle.ild_schema.specs.declared.def.TypeDef.{TypeDef}
use Rattle.ild_schema.specs.declared.def.TypeDef.TheVariants as D
use Rattle.ild_schema.specs.declared.def.UnionDef.{UnionDef}
use Rattle.ild_schema.specs.declared.number.Slot.{Slot}
use Rattle.ild_schema.specs.declared.number.TypeNo.{TypeNo}
use Rattle.ild_schema.specs.declared.row.Row.{Row}
use Rattle.ild_typed.specs.At.{InSlot, seen}
use Rattle.ild_typed.specs.Fits.{Front}
use Rattle.ild_typed.specs.Hamt.{alone}
use Rattle.ild_typed.specs.Holder.{any_holder, elements, entries, fields, holder_of, is_paired, list_holder, map_holder, member, nothing, of_any, struct_holder, union_holder}
use Rattle.ild_typed.specs.Layer as L
use Rattle.ild_typed.specs.Layers.{IsNotNull}
use Rattle.ild_typed.specs.OfType.{OfType}
use Rattle.ild_typed.specs.Pieces.{is_null_there}
use Rattle.ild_typed.specs.Represented.{layered, represented, represented_pairs, represented_values}
use Rattle.ild_typed.specs.Strings.{members_in}
use Rattle.ild_typed.proofs.Basics.{map_from}
use Rattle.ild_typed.proofs.Entries.{both_from}
use Rattle.ild_typed.proofs.OneLayer.{of_layer, of_null}
use Rattle.ild_view.proofs.Opening.{front_any, front_bytes, front_boolean, front_enum, front_hamt, front_integer, front_layer, front_link, front_list, front_map, front_null, front_struct, front_text, front_union, front_unit, is_hamt}
use Rattle.ild_view.specs.Forms.{element_slot, entry_slot}
use Rattle.ild_view.specs.Parts.{element_at, entry_at}
use Rattle.ild_view.specs.Safe.{is_safe}

-- ---- the type of data inside an Any

any_first : (rows : List Row) → take 8 rows ≡ prelude → def_at rows 0 ≡ Some D.Any
any_first [] h = absurd cc
any_first (r ∷ rows) h = ap (λ xs. def_at xs 0) h

stays : (rows : List Row) (k : ℕ) → def_at rows 0 ≡ Some D.Any → followed rows k 0 ≡ 0
stays rows zero h = refl
stays rows (suc k) h = rw h refl

pub any_there : (rows : List Row) → take 8 rows ≡ prelude → form_of rows anything ≡ Some D.Any
any_there rows h = let any = any_first rows h in ap (def_at rows) (stays rows (length rows) any) ∙ any

pub any_low : (rows : List Row) → take 8 rows ≡ prelude → 0 < length rows
any_low [] h = absurd cc
any_low (r ∷ rows) h = some (length rows) where
  some : (n : ℕ) → 0 < suc n
  some n = omega arith

pub any_safe : (rows : List Row) → form_of rows anything ≡ Some D.Any → IsSafe rows anything
any_safe rows h e = ap (λ o. kind_in o K.Null) h

-- ---- a part beside its data

pub record Fronts (rows : List Row) (u : Slot) (w : Value) (x : Data) : Type 0 where
  pub typed : OfType rows u w
  pub tree : represented alone rows u w ≡ Some x

-- the part of this slot, where there are data
abbrev pub Beside : List Row → Slot → Option Data → Option InSlot → Type 0
Beside rows u None None = Unit {0}
Beside rows u (Some x) (Some q) = (q.0 ≡ u) × Fronts rows u q.1 x
Beside rows u None (Some q) = ⊥
Beside rows u (Some x) None = ⊥

module _ (rows : List Row) (u : Slot) where
  pub element_beside : (vs : V.Values) (ds : List Data) → represented_values alone rows u vs ≡ Some ds → AllByRecursion (OfType rows u) (values_list vs) → (i : ℕ)
      → Beside rows u (slice_get ds i) (option_map (λ v. (u, v)) (slice_get (values_list vs) i))
  element_beside V.no_values ds e fit i = subst (λ (xs : List Data). Beside rows u (slice_get xs i) None) (same_Some [] ds e) tt
  element_beside (V.value v vs) ds e fit zero =
      let b = both_from (represented alone rows u v) (represented_values alone rows u vs) ds e in
      subst (λ (xs : List Data). Beside rows u (slice_get xs zero) (Some (u, v))) b.all (refl, record { typed = fit.0; tree = b.first })
  element_beside (V.value v vs) ds e fit (suc i) =
      let b = both_from (represented alone rows u v) (represented_values alone rows u vs) ds e in
      subst (λ (xs : List Data). Beside rows u (slice_get xs (suc i)) (option_map (λ w. (u, w)) (slice_get (values_list vs) i))) b.all (element_beside vs b.items b.rest fit.1 i)

  pub entry_beside : (ps : Pairs) (es : List (List ℕ × Data)) → represented_pairs alone rows u ps ≡ Some es → AllByRecursion (λ (p : List ℕ × Value). OfType rows u p.1) (pairs_list ps) → (k : List ℕ)
      → Beside rows u (value_at k es) (option_map (λ v. (u, v)) (value_at k (pairs_list ps)))
  entry_beside V.no_pairs es e fit k = subst (λ (xs : List (List ℕ × Data)). Beside rows u (value_at k xs) None) (same_Some [] es e) tt
  entry_beside (V.pair p v ps) es e fit k =
      let b = both_from (option_map (λ d. (p, d)) (represented alone rows u v)) (represented_pairs alone rows u ps) es e in
      let x = map_from (λ d. (p, d)) (represented alone rows u v) b.item b.first in
      let first : (p, x.item) ≡ b.item = same_Some (p, x.item) b.item x.made in
      let all : (p, x.item) ∷ b.items ≡ es = ap (λ (z : List ℕ × Data). z ∷ b.items) first ∙ b.all in
      subst (λ (xs : List (List ℕ × Data)). Beside rows u (value_at k xs) (option_map (λ w. (u, w)) (value_at k ((p, v) ∷ pairs_list ps)))) all
      (by x.item (value_at k b.items) (value_at k (pairs_list ps)) (same_text k p) (record { typed = fit.0; tree = x.there }) (entry_beside ps b.items b.rest fit.1 k))
    where
      by : (d : Data) (o : Option Data) (q : Option Value) (c : Bool) → Fronts rows u v d → Beside rows u o (option_map (λ w. (u, w)) q)
          → Beside rows u (cond c (Some d) o) (option_map (λ w. (u, w)) (cond c (Some v) q))
      by d o q true own later = (refl, own)
      by d o q false own later = later

-- ---- data inside an Any

module _ (rows : List Row) (there : form_of rows anything ≡ Some D.Any) where
  any_layer : (d : Data) → IsTree d → IsNotNull d → OfType rows anything (V.any d)
  any_layer d tree some = of_layer rows anything (V.any d) D.Any (L.any d) there refl (tree, some)

  pub any_fronts : (d : Data) → IsTree d → Fronts rows anything (of_any d) d
  any_fronts T.null tree = record { typed = of_null rows anything refl; tree = refl }
  any_fronts (T.boolean b) tree = record { typed = any_layer (T.boolean b) tree tt; tree = ap (λ o. layered alone o (Some (L.any (T.boolean b)))) there }
  any_fronts (T.integer n) tree = record { typed = any_layer (T.integer n) tree tt; tree = ap (λ o. layered alone o (Some (L.any (T.integer n)))) there }
  any_fronts (T.text s) tree = record { typed = any_layer (T.text s) tree tt; tree = ap (λ o. layered alone o (Some (L.any (T.text s)))) there }
  any_fronts (T.bytes s) tree = record { typed = any_layer (T.bytes s) tree tt; tree = ap (λ o. layered alone o (Some (L.any (T.bytes s)))) there }
  any_fronts (T.list ds) tree = record { typed = any_layer (T.list ds) tree tt; tree = ap (λ o. layered alone o (Some (L.any (T.list ds)))) there }
  any_fronts (T.map ms) tree = record { typed = any_layer (T.map ms) tree tt; tree = ap (λ o. layered alone o (Some (L.any (T.map ms)))) there }
  any_fronts (T.link s) tree = record { typed = any_layer (T.link s) tree tt; tree = ap (λ o. layered alone o (Some (L.any (T.link s)))) there }

  any_item : (ds : Items) → AreTrees ds → (i : ℕ) → Beside rows anything (slice_get (items_list ds) i) (option_map (λ d. (anything, of_any d)) (slice_get (items_list ds) i))
  any_item T.no_items all i = tt
  any_item (T.item d ds) all zero = (refl, any_fronts d all.0)
  any_item (T.item d ds) all (suc i) = any_item ds all.1 i

  pub any_element : (t : Data) → IsTree t → (i : ℕ) → Beside rows anything (item_of t i) (element_at (any_holder t) i)
  any_element T.null tree i = tt
  any_element (T.boolean b) tree i = tt
  any_element (T.integer n) tree i = tt
  any_element (T.text s) tree i = tt
  any_element (T.bytes s) tree i = tt
  any_element (T.list ds) tree i = any_item ds tree i
  any_element (T.map ms) tree i = tt
  any_element (T.link s) tree i = tt

  any_entry_in : (ms : Members) → AreEntries ms → (k : List ℕ) → Beside rows anything (value_at k (members_list ms)) (option_map (λ d. (anything, of_any d)) (value_at k (members_list ms)))
  any_entry_in T.no_members all k = tt
  any_entry_in (T.member p d ms) all k = by (value_at k (members_list ms)) (same_text k p) (any_entry_in ms all.3 k) where
    by : (o : Option Data) (c : Bool) → Beside rows anything o (option_map (λ x. (anything, of_any x)) o)
        → Beside rows anything (cond c (Some d) o) (option_map (λ x. (anything, of_any x)) (cond c (Some d) o))
    by o true later = (refl, any_fronts d all.1)
    by o false later = later

  pub any_entry : (t : Data) → IsTree t → (k : List ℕ) → Beside rows anything (option_and_then (value_at k) (members_in t)) (entry_at (any_holder t) k)
  any_entry T.null tree k = tt
  any_entry (T.boolean b) tree k = tt
  any_entry (T.integer n) tree k = tt
  any_entry (T.text s) tree k = tt
  any_entry (T.bytes s) tree k = tt
  any_entry (T.list ds) tree k = tt
  any_entry (T.map ms) tree k = any_entry_in ms tree k
  any_entry (T.link s) tree k = tt

-- ---- what a front is, seen as what holds its parts

module _ (rows : List Row) (clear : IsClear rows) (s : Slot) (safe : is_safe rows s ≡ true) (room : ℕ) (f : Value) (t : Data) (front : Front rows room s f t) where
  abbrev pub SeenMap : TypeNo → Slot → MapForm → Type 0
  SeenMap key value (MF.Hamt p) = seen rows (s, f) ≡ nothing (V.hamt t)
  SeenMap key value form = (ps : List (List ℕ × Value)) × (seen rows (s, f) ≡ entries key.0 value (is_paired form) ps)

  abbrev pub Seen : TypeDef → Type 0
  Seen (D.List elem at) = (vs : List Value) × (seen rows (s, f) ≡ elements elem vs)
  Seen (D.Map key key_at value at form) = SeenMap key value form
  Seen (D.Struct def) = (os : List (Option Value)) × (seen rows (s, f) ≡ fields def.fields os)
  Seen (D.Union u) = (n : ℕ) × (v : Value) × (seen rows (s, f) ≡ member u.members n v)
  Seen D.Any = seen rows (s, f) ≡ any_holder t
  Seen d = (v : Value) × (seen rows (s, f) ≡ nothing v)

  pub seen_null : is_null_there s t ≡ true → seen rows (s, f) ≡ nothing V.null
  seen_null e = ap (holder_of rows s) (front_null rows clear s safe room f t front e)

  module _ (some : is_null_there s t ≡ false) where
    pub seen_list : (elem : Slot) (at : ℕ) (known : form_of rows s ≡ Some (D.List elem at))
        → seen rows (s, f) ≡ elements elem (values_list (front_list rows clear s safe room f t front some elem at known).items)
    seen_list elem at known =
        let x = front_list rows clear s safe room f t front some elem at known in
        ap (holder_of rows s) x.is ∙ ap (λ o. list_holder o x.items) known

    pub seen_map : (key : TypeNo) (key_at : ℕ) (value : Slot) (at : ℕ) (form : MapForm) (plain : is_hamt form ≡ false) (known : form_of rows s ≡ Some (D.Map key key_at value at form))
        → seen rows (s, f) ≡ entries key.0 value (is_paired form) (pairs_list (front_map rows clear s safe room f t front some key key_at value at form plain known).items)
    seen_map key key_at value at form plain known =
        let x = front_map rows clear s safe room f t front some key key_at value at form plain known in
        ap (holder_of rows s) x.is ∙ ap (λ o. map_holder o x.items) known

    pub seen_struct : (def : StructDef) (known : form_of rows s ≡ Some (D.Struct def))
        → seen rows (s, f) ≡ fields def.fields (optionals_list (front_struct rows clear s safe room f t front some def known).items)
    seen_struct def known =
        let x = front_struct rows clear s safe room f t front some def known in
        ap (holder_of rows s) x.is ∙ ap (λ o. struct_holder o x.items) known

    pub seen_union : (def : UnionDef) (known : form_of rows s ≡ Some (D.Union def))
        → let x = front_union rows clear s safe room f t front some def known in seen rows (s, f) ≡ member def.members x.number x.item
    seen_union def known =
        let x = front_union rows clear s safe room f t front some def known in
        ap (holder_of rows s) x.is ∙ ap (λ o. union_holder o x.number x.item) known

    pub seen_in_map : (key : TypeNo) (key_at : ℕ) (value : Slot) (at : ℕ) (form : MapForm) → form_of rows s ≡ Some (D.Map key key_at value at form) → SeenMap key value form
    seen_in_map key key_at value at MF.Map known = (_, seen_map key key_at value at MF.Map refl known)
    seen_in_map key key_at value at MF.ListPairs known = (_, seen_map key key_at value at MF.ListPairs refl known)
    seen_in_map key key_at value at (MF.StringPairs inner entry) known = (_, seen_map key key_at value at (MF.StringPairs inner entry) refl known)
    seen_in_map key key_at value at (MF.Hamt p) known = ap (holder_of rows s) (front_hamt rows clear s safe room f t front some p key key_at value at known).is

    pub seen_by : (d : TypeDef) → form_of rows s ≡ Some d → Seen d
    seen_by D.Bool known = let x = front_boolean rows clear s safe room f t front some known in (V.boolean x.0, ap (holder_of rows s) x.1)
    seen_by D.Text known = let x = front_text rows clear s safe room f t front some known in (V.text x.0, ap (holder_of rows s) x.1)
    seen_by D.Bytes known = let x = front_bytes rows clear s safe room f t front some known in (V.bytes x.0, ap (holder_of rows s) x.1)
    seen_by D.Int known = let x = front_integer rows clear s safe room f t front some known in (V.integer x.0, ap (holder_of rows s) x.1)
    seen_by D.Any known = ap (holder_of rows s) (front_any rows clear s safe room f t front some known)
    seen_by (D.Link target) known = let x = front_link rows clear s safe room f t front some target known in (V.link x.0, ap (holder_of rows s) x.1)
    seen_by (D.Unit form) known = (V.unit, ap (holder_of rows s) (front_unit rows clear s safe room f t front some form known))
    seen_by (D.List elem at) known = (_, seen_list elem at known)
    seen_by (D.Map key key_at value at form) known = seen_in_map key key_at value at form known
    seen_by (D.Struct def) known = (_, seen_struct def known)
    seen_by (D.Union def) known = (_, _, seen_union def known)
    seen_by (D.Enum e) known = let x = front_enum rows clear s safe room f t front some e known in (V.enum x.number, ap (holder_of rows s) x.is)
    seen_by (D.Copy target) known = absurd (none-some t (front_layer rows clear s safe room f t front some (D.Copy target) known).made)

  -- ---- types without parts of a form

  pub no_element : (d : TypeDef) → Seen d → element_slot d ≡ None → (i : ℕ) → element_at (seen rows (s, f)) i ≡ None
  no_element (D.List elem at) x e i = absurd (none-some elem (sym e))
  no_element D.Any x e i = absurd (none-some anything (sym e))
  no_element (D.Map key key_at value at MF.Map) x e i = ap (λ h. element_at h i) x.1
  no_element (D.Map key key_at value at MF.ListPairs) x e i = ap (λ h. element_at h i) x.1
  no_element (D.Map key key_at value at (MF.StringPairs inner entry)) x e i = ap (λ h. element_at h i) x.1
  no_element (D.Map key key_at value at (MF.Hamt p)) x e i = ap (λ h. element_at h i) x
  no_element (D.Struct def) x e i = ap (λ h. element_at h i) x.1
  no_element (D.Union def) x e i = ap (λ h. element_at h i) x.2
  no_element D.Bool x e i = ap (λ h. element_at h i) x.1
  no_element D.Text x e i = ap (λ h. element_at h i) x.1
  no_element D.Bytes x e i = ap (λ h. element_at h i) x.1
  no_element D.Int x e i = ap (λ h. element_at h i) x.1
  no_element (D.Link target) x e i = ap (λ h. element_at h i) x.1
  no_element (D.Unit form) x e i = ap (λ h. element_at h i) x.1
  no_element (D.Enum def) x e i = ap (λ h. element_at h i) x.1
  no_element (D.Copy target) x e i = ap (λ h. element_at h i) x.1

  pub no_entry : (d : TypeDef) → Seen d → entry_slot d ≡ None → (k : List ℕ) → entry_at (seen rows (s, f)) k ≡ None
  no_entry (D.List elem at) x e k = ap (λ h. entry_at h k) x.1
  no_entry D.Any x e k = absurd (none-some anything (sym e))
  no_entry (D.Map key key_at value at MF.Map) x e k = absurd (none-some value (sym e))
  no_entry (D.Map key key_at value at MF.ListPairs) x e k = absurd (none-some value (sym e))
  no_entry (D.Map key key_at value at (MF.StringPairs inner entry)) x e k = absurd (none-some value (sym e))
  no_entry (D.Map key key_at value at (MF.Hamt p)) x e k = ap (λ h. entry_at h k) x
  no_entry (D.Struct def) x e k = ap (λ h. entry_at h k) x.1
  no_entry (D.Union def) x e k = ap (λ h. entry_at h k) x.2
  no_entry D.Bool x e k = ap (λ h. entry_at h k) x.1
  no_entry D.Text x e k = ap (λ h. entry_at h k) x.1
  no_entry D.Bytes x e k = ap (λ h. entry_at h k) x.1
  no_entry D.Int x e k = ap (λ h. entry_at h k) x.1
  no_entry (D.Link target) x e k = ap (λ h. entry_at h k) x.1
  no_entry (D.Unit form) x e k = ap (λ h. entry_at h k) x.1
  no_entry (D.Enum def) x e k = ap (λ h. entry_at h k) x.1
  no_entry (D.Copy target) x e k = ap (λ h. entry_at h k) x.1
