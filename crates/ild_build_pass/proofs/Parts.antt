-- What a call on a part of a value asks: the part nests less deep, its type is in the table, and it fits.
use Rattle.std.proofs.Common.{◌≡◌, ℕ, ◌<◌, ◌≤◌, List, length, Some, get_or, slice_get, sym, ap, ◌∙◌, subst, arith}
use Rattle.ild_data.specs.declared.hamt_shape.HamtShape.{HamtShape}
use Rattle.ild_schema.specs.Clear.{KeysApart}
use Rattle.ild_schema.specs.Legible.{IsLegible}
use Rattle.ild_schema.specs.Made.{MadeMember}
use Rattle.ild_schema.specs.Slots.{form_of, plainly}
use Rattle.ild_schema.specs.Value as V
use Rattle.ild_schema.specs.declared.def.MapForm.{MapForm}
use Rattle.ild_schema.specs.declared.def.MapForm.TheVariants as MF
use Rattle.ild_schema.specs.declared.def.Member.{Member}
use Rattle.ild_schema.specs.declared.def.TypeDef.{TypeDef}
use Rattle.ild_schema.specs.declared.def.UnionDef.{UnionDef}
use Rattle.ild_schema.specs.declared.number.TypeNo.{TypeNo}
use Rattle.ild_schema.specs.Table.{IsWithin}
use Rattle.ild_schema.specs.Value.{Value, Values, Pairs, Optionals, height, values_height, pairs_height, optionals_height, optionals_list, pairs_list, values_list}
use Rattle.ild_schema.specs.declared.number.Slot.{Slot}
use Rattle.ild_schema.specs.declared.def.Field.{Field}
use Rattle.ild_schema.specs.declared.def.StructDef.{StructDef}
use Rattle.ild_schema.specs.declared.def.TypeDef.TheVariants as D
use Rattle.ild_schema.specs.declared.row.Row.{Row}
use Rattle.ild_build.specs.PartAt.{field_at}
use Rattle.ild_build.proofs.Low.{field_low, member_low}
use Rattle.ild_build.proofs.PartTests.{pair_height, field_height}
use Rattle.ild_build.proofs.Turns.{got, value_got}
use Rattle.ild_build_leaf.specs.Kept.{kept_at}
use Rattle.ild_build_leaf.proofs.Turns.{kept_is}
use Rattle.ild_build_pass.specs.Fitting.{EntriesFit, FitsIn, HamtFits, ItemsFit, PlacesFit}
use Rattle.ild_build_pass.proofs.AcceptedTables.{keys_ready, member_ready}
use Rattle.ild_build_pass.proofs.Fitted.{entries_fit, hamt_fit, items_fit, member_fit, places_fit}
use Rattle.ild_build_pass.proofs.Heights.{value_height}

pub record IsPart (rows : List Row) (u : Slot) (v : Value) (whole : ℕ) : Type 0 where
  pub low : height v ≤ whole
  pub fits : FitsIn rows u v

module _ (rows : List Row) where
  pub item_part : (u : Slot) (vs : Values) (i : ℕ) (v : Value) → ItemsFit rows u (values_list vs) → Some v ≡ slice_get (values_list vs) i → IsPart rows u v (values_height vs)
  item_part u vs i v fits at = record { low = value_height vs i v (sym at); fits = fits i v (sym at) }

  pub entry_part : (u : Slot) (ps : Pairs) (i : ℕ) (k : List ℕ) (v : Value) → EntriesFit rows u (pairs_list ps) → slice_get (pairs_list ps) i ≡ Some (k, v) → IsPart rows u v (pairs_height ps)
  entry_part u ps i k v fits at = record { low = pair_height ps i (k, v) at; fits = fits i (k, v) at }

  pub hamt_part : (u : Slot) (ps : Pairs) (i : ℕ) (k : List ℕ) (v : Value) → HamtFits rows u (pairs_list ps) → slice_get (pairs_list ps) i ≡ Some (k, v) → IsPart rows u v (pairs_height ps)
  hamt_part u ps i k v fits at = record { low = pair_height ps i (k, v) at; fits = (fits.each i (k, v) at).part }

  -- ---- fields

  pub record IsFieldPart (f : Field) (v : Value) (whole : ℕ) : Type 0 where
    pub part : IsPart rows f.slot v whole
    pub within : f.slot.ty.0 < length rows

  module _ (sd : StructDef) (os : Optionals) (within : IsWithin (length rows) (D.Struct sd)) (fits : PlacesFit rows sd.fields (optionals_list os)) where
    pub place_part : (i : ℕ) (f : Field) (v : Value) → Some f ≡ slice_get sd.fields i → Some v ≡ kept_at f (optionals_list os) i → IsFieldPart f v (optionals_height os)
    place_part i f v at kept =
        let there = (kept_is f (optionals_list os) i v (sym kept)).there in
        record {
          part = record { low = field_height os i v (value_got (optionals_list os) i v there); fits = fits i f v (sym at) there };
          within = field_low (length rows) sd i f (sym at) within;
        }

    module _ (fs : List Field) (i : ℕ) (f : Field) (v : Value) (same : fs ≡ sd.fields) (low : i < length fs) (item : f ≡ get_or fs i f) where
      pub tuple_part : Some v ≡ field_at (optionals_list os) i → IsFieldPart f v (optionals_height os)
      tuple_part there =
          let at = got fs sd.fields i f same low item in
          record {
            part = record { low = field_height os i v (value_got (optionals_list os) i v (sym there)); fits = fits i f v at (sym there) };
            within = field_low (length rows) sd i f at within;
          }

      pub listed_part : Some v ≡ kept_at f (optionals_list os) i → IsFieldPart f v (optionals_height os)
      listed_part kept = place_part i f v (sym (got fs sd.fields i f same low item)) kept

-- ---- the parts of a layer, by the form of its type

module _ (rows : List Row) (s : Slot) (d : TypeDef) (known : form_of rows s ≡ Some d) (within : IsWithin (length rows) d) where
  pub record AreItems (u : Slot) (vs : Values) : Type 0 where
    pub low : u.ty.0 < length rows
    pub each : ItemsFit rows u (values_list vs)

  pub items_in : (elem : Slot) (at : ℕ) (vs : Values) → d ≡ D.List elem at → FitsIn rows s (V.list vs) → AreItems elem vs
  items_in elem at vs is fits = record { low = (subst (IsWithin (length rows)) is within).1 0 0 (omega arith); each = items_fit rows s elem at vs (known ∙ ap Some is) fits }

  module _ (key : TypeNo) (key_at : ℕ) (value : Slot) (at : ℕ) (form : MapForm) (ps : Pairs) (is : d ≡ D.Map key key_at value at form) (fits : FitsIn rows s (V.map ps)) where
    value_low : value.ty.0 < length rows
    value_low = (subst (IsWithin (length rows)) is within).1 1 0 (omega arith)

    pub record AreEntries : Type 0 where
      pub low : value.ty.0 < length rows
      pub each : EntriesFit rows value (pairs_list ps)

    pub entries_in : AreEntries
    entries_in = record { low = value_low; each = entries_fit rows s key key_at value at form ps (known ∙ ap Some is) fits }

    pub record IsRoot : Type 0 where
      pub low : value.ty.0 < length rows
      pub each : HamtFits rows value (pairs_list ps)

    pub root_in : (p : HamtShape) → form ≡ MF.Hamt p → IsRoot
    root_in p hamt = record { low = value_low; each = hamt_fit rows s key key_at value at form p ps (known ∙ ap Some is) hamt fits }

  pub record AreFields (sd : StructDef) (os : Optionals) : Type 0 where
    pub low : IsWithin (length rows) (D.Struct sd)
    pub each : PlacesFit rows sd.fields (optionals_list os)

  pub fields_in : (sd : StructDef) (os : Optionals) → d ≡ D.Struct sd → FitsIn rows s (V.struct os) → AreFields sd os
  fields_in sd os is fits = record { low = subst (IsWithin (length rows)) is within; each = places_fit rows s sd os (known ∙ ap Some is) fits }

  -- of a value that is a struct
  pub record AreFieldsOf (v : Value) (sd : StructDef) (os : Optionals) : Type 0 where
    pub low : optionals_height os < height v
    pub fields : AreFields sd os

  pub fields_of_value : (v : Value) (sd : StructDef) (os : Optionals) → d ≡ D.Struct sd → v ≡ V.struct os → FitsIn rows s v → AreFieldsOf v sd os
  fields_of_value v sd os is same fits = record { low = omega (arith, ap height same); fields = fields_in sd os is (subst (FitsIn rows s) same fits) }

  pub record IsMember (ud : UnionDef) (m : Member) (v : Value) : Type 0 where
    pub low : m.ty.0 < length rows
    pub made : MadeMember rows ud.form m
    pub apart : KeysApart ud.form
    pub fits : FitsIn rows (plainly m.ty) v

  pub member_in : IsLegible rows → (ud : UnionDef) (n : ℕ) (m : Member) (v : Value) → d ≡ D.Union ud → Some m ≡ slice_get ud.members n → FitsIn rows s (V.union n v) → IsMember ud m v
  member_in legible ud n m v is at fits = record {
    low = member_low (length rows) ud n m (sym at) (subst (IsWithin (length rows)) is within);
    made = member_ready rows legible s ud n m (known ∙ ap Some is) (sym at);
    apart = keys_ready rows legible s ud (known ∙ ap Some is);
    fits = member_fit rows s ud n m v (known ∙ ap Some is) (sym at) fits;
  }

-- a value that is seen from two sides
pub record IsSame (rows : List Row) (u : Slot) (v w : Value) : Type 0 where
  pub low : height v ≡ height w
  pub fits : FitsIn rows u v

pub same_part : (rows : List Row) (u : Slot) (v w : Value) → v ≡ w → FitsIn rows u w → IsSame rows u v w
same_part rows u v w same fits = record { low = ap height same; fits = subst (FitsIn rows u) (sym same) fits }
