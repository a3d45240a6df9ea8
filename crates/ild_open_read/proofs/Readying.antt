-- What acceptance says of parts: their types are in the table, delimiters are given, and entries of a form are those that data show.
use Rattle.std.proofs.Common.{◌≡◌, ℕ, zero, suc, ◌<◌, ◌≤◌, List, [], ◌∷◌, length, map, false, Some, None, ◌∙◌, ap, subst, arith}
use Rattle.std.specs.Prelude.{slice_get}
use Rattle.std.specs.List.{All}
use Rattle.std.proofs.lemmas.Option.{none-some, same_Some}
use Rattle.ild_data.specs.Data.{Data}
use Rattle.ild_data.proofs.Lists.{members_list-members_of}
use Rattle.ild_view_entries.specs.Forms.{MapDelims, ShowsMap}
use Rattle.ild_view_entries.specs.Left.{AreLeft, FormLeft}
use Rattle.ild_view_entries.specs.declared.left.EntriesLeft.{EntriesLeft}
use Rattle.ild_open_held.specs.Laws.{is_hamt}
use Rattle.ild_schema.specs.Legible.{IsLegible}
use Rattle.ild_schema.specs.Rows.{def_at}
use Rattle.ild_schema.specs.Table.{IsWithin}
use Rattle.ild_schema.specs.declared.def.Field.{Field}
use Rattle.ild_schema.specs.declared.def.MapForm.{MapForm}
use Rattle.ild_schema.specs.declared.def.MapForm.TheVariants as MF
use Rattle.ild_schema.specs.declared.def.StructForm.{StructForm}
use Rattle.ild_schema.specs.declared.def.StructForm.TheVariants as S
use Rattle.ild_schema.specs.declared.def.TypeDef.{TypeDef}
use Rattle.ild_schema.specs.declared.def.TypeDef.TheVariants as D
use Rattle.ild_schema.specs.declared.number.Slot.{Slot}
use Rattle.ild_schema.specs.declared.number.TypeNo.{TypeNo}
use Rattle.ild_schema.specs.declared.row.Row.{Row}
use Rattle.ild_struct.proofs.Splitting.{given_some}
use Rattle.ild_typed.specs.Composed.{map_form}
use Rattle.ild_typed.specs.Hamt.{alone}
use Rattle.ild_typed.specs.Layer as L
use Rattle.ild_typed.specs.Levels.{map_levels, struct_levels}
use Rattle.ild_typed.specs.Strings.{members_in}
use Rattle.ild_open_parts.proofs.Forming.{listpairs_is, map_is}

-- ---- structs

pub field_low : (count : ℕ) (fs : List Field) (i : ℕ) (f : Field) → All (λ k. k < count) (map (λ (g : Field). g.slot.ty.0) fs) → slice_get fs i ≡ Some f → f.slot.ty.0 < count
field_low count [] i f all e = absurd (none-some f e)
field_low count (g ∷ fs) zero f all e = subst (λ (x : Field). x.slot.ty.0 < count) (same_Some g f e) (all 0 0 (omega arith))
field_low count (g ∷ fs) (suc i) f all e = field_low count fs i f (λ k v less. all (suc k) v (omega (arith, less))) e

-- ---- maps

pub map_delims : (rows : List Row) → IsLegible rows → (n : ℕ) (key : TypeNo) (key_at : ℕ) (value : Slot) (at : ℕ) (form : MapForm) → def_at rows n ≡ Some (D.Map key key_at value at form) → MapDelims form
map_delims rows legible n key key_at value at MF.Map known = tt
map_delims rows legible n key key_at value at MF.ListPairs known = tt
map_delims rows legible n key key_at value at (MF.Hamt p) known = tt
map_delims rows legible n key key_at value at (MF.StringPairs inner entry) known =
    (given_some inner (legible.clear.types n (D.Map key key_at value at (MF.StringPairs inner entry)) known), given_some entry (legible.delims n (D.Map key key_at value at (MF.StringPairs inner entry)) known))

pub key_low : (rows : List Row) (found : TypeDef) (key : TypeNo) (key_at : ℕ) (value : Slot) (at : ℕ) (form : MapForm) → found ≡ D.Map key key_at value at form → IsWithin (length rows) found → key.0 < length rows
key_low rows found key key_at value at form is within = let w : IsWithin (length rows) (D.Map key key_at value at form) = subst (IsWithin (length rows)) is within in w.1 0 0 (omega arith)

pub value_low : (rows : List Row) (found : TypeDef) (key : TypeNo) (key_at : ℕ) (value : Slot) (at : ℕ) (form : MapForm) → found ≡ D.Map key key_at value at form → IsWithin (length rows) found → value.ty.0 < length rows
value_low rows found key key_at value at form is within = let w : IsWithin (length rows) (D.Map key key_at value at form) = subst (IsWithin (length rows)) is within in w.1 1 0 (omega arith)

pub elem_low : (rows : List Row) (found : TypeDef) (elem : Slot) (at : ℕ) → found ≡ D.List elem at → IsWithin (length rows) found → elem.ty.0 < length rows
elem_low rows found elem at is within = let w : IsWithin (length rows) (D.List elem at) = subst (IsWithin (length rows)) is within in w.1 0 0 (omega arith)

pub some_struct_levels : (form : StructForm) → 1 ≤ struct_levels form
some_struct_levels S.Map = omega arith
some_struct_levels S.Tuple = omega arith
some_struct_levels S.ListPairs = omega arith
some_struct_levels (S.StringPairs i e) = omega arith
some_struct_levels (S.StringJoin d) = omega arith

pub some_map_levels : (form : MapForm) → 1 ≤ map_levels form
some_map_levels MF.Map = omega arith
some_map_levels MF.ListPairs = omega arith
some_map_levels (MF.StringPairs i e) = omega arith
some_map_levels (MF.Hamt p) = omega arith

-- ---- the entries of maps

-- what is left are the entries that the data show
pub left_there : (form : MapForm) → is_hamt form ≡ false → (es : List (List ℕ × Data)) (t : Data) (left : EntriesLeft) → map_form alone form (L.map es) ≡ Some t → (ShowsMap form es t → FormLeft form es (Some left)) → AreLeft left es
left_there MF.Map plain es t left made shows = shows (ap members_in (map_is es t made) ∙ ap Some (members_list-members_of es))
left_there MF.ListPairs plain es t left made shows = shows (listpairs_is es t made)
left_there (MF.StringPairs inner entry) plain es t left made shows = shows made
left_there (MF.Hamt p) plain es t left made shows = absurd cc

-- there are some
pub none_there : (form : MapForm) → is_hamt form ≡ false → (es : List (List ℕ × Data)) (t : Data) → map_form alone form (L.map es) ≡ Some t → (ShowsMap form es t → FormLeft form es None) → ⊥
none_there MF.Map plain es t made shows = shows (ap members_in (map_is es t made) ∙ ap Some (members_list-members_of es))
none_there MF.ListPairs plain es t made shows = shows (listpairs_is es t made)
none_there (MF.StringPairs inner entry) plain es t made shows = shows made
none_there (MF.Hamt p) plain es t made shows = absurd cc
