-- Holes, as they are met from field to field, and in layers.
use Rattle.std.proofs.Common.{◌≡◌, ℕ, zero, suc, ◌+◌, ◌≤◌, length, Bool, true, false, Option, Some, None, slice_get, refl, sym, ◌∙◌, ap, arith, add-one, List}
use Rattle.std.specs.Prelude.{option_and_then}
use Rattle.std.proofs.lemmas.Option.{same_Some, none-some}
use Rattle.ild_schema.specs.declared.number.Slot.{Slot}
use Rattle.ild_schema.specs.declared.def.TypeDef.{TypeDef}
use Rattle.ild_schema.specs.declared.def.TypeDef.TheVariants as D
use Rattle.ild_schema.specs.declared.row.Row.{Row}
use Rattle.ild_schema.specs.Slots.{form_of}
use Rattle.ild_schema.specs.Value as V
use Rattle.ild_schema.specs.Value.{Value, Optionals, optionals_list}
use Rattle.ild_typed.specs.Judged.{some_present, hole_in, is_hole, has_hole}
use Rattle.ild_build.specs.PartAt.{field_at}
use Rattle.ild_build.proofs.PartTests.{struct_found}

false_true : false ≡ true → ⊥
false_true e = absurd cc

-- a hole in what is left, where a field before it is absent or not
abbrev pub hole_from : Bool → Optionals → Bool
hole_from true os = some_present os
hole_from false os = hole_in os

abbrev pub left : ℕ → Optionals → Optionals
left zero os = os
left (suc i) V.no_optionals = V.no_optionals
left (suc i) (V.absent os) = left i os
left (suc i) (V.present v os) = left i os

absent_step : (b : Bool) (i : ℕ) (os : Optionals) → slice_get (optionals_list os) i ≡ Some None → hole_from b (left i os) ≡ hole_from true (left (suc i) os)
absent_step true zero (V.absent os) e = refl
absent_step false zero (V.absent os) e = refl
absent_step b (suc i) (V.absent os) e = absent_step b i os e
absent_step b (suc i) (V.present v os) e = absent_step b i os e
absent_step b i V.no_optionals e = absurd (none-some {A = Option Value} None e)
absent_step b zero (V.present v os) e = absurd (none-some v (sym (same_Some {A = Option Value} (Some v) None e)))

present_hole : (v : Value) (i : ℕ) (os : Optionals) → slice_get (optionals_list os) i ≡ Some (Some v) → hole_from true (left i os) ≡ true
present_hole v zero (V.present w os) e = refl
present_hole v (suc i) (V.absent os) e = present_hole v i os e
present_hole v (suc i) (V.present w os) e = present_hole v i os e
present_hole v i V.no_optionals e = absurd (none-some {A = Option Value} (Some v) e)
present_hole v zero (V.absent os) e = absurd (none-some v (same_Some {A = Option Value} None (Some v) e))

present_step : (v : Value) (i : ℕ) (os : Optionals) → slice_get (optionals_list os) i ≡ Some (Some v) → hole_from false (left i os) ≡ hole_from false (left (suc i) os)
present_step v zero (V.present w os) e = refl
present_step v (suc i) (V.absent os) e = present_step v i os e
present_step v (suc i) (V.present w os) e = present_step v i os e
present_step v i V.no_optionals e = absurd (none-some {A = Option Value} (Some v) e)
present_step v zero (V.absent os) e = absurd (none-some v (same_Some {A = Option Value} None (Some v) e))

pub none_left : (b : Bool) (i : ℕ) (os : Optionals) → length (optionals_list os) ≤ i → hole_from b (left i os) ≡ false
none_left true zero V.no_optionals h = refl
none_left false zero V.no_optionals h = refl
none_left true (suc i) V.no_optionals h = refl
none_left false (suc i) V.no_optionals h = refl
none_left b zero (V.absent os) h = absurd (omega (arith, h))
none_left b zero (V.present v os) h = absurd (omega (arith, h))
none_left b (suc i) (V.absent os) h = none_left b i os (omega (arith, h))
none_left b (suc i) (V.present v os) h = none_left b i os (omega (arith, h))

-- what is known of the fields met so far
pub record IsMet (os : Optionals) (absent : Bool) (i : ℕ) : Type 0 where
  pub same : hole_from absent (left i os) ≡ hole_in os

-- what stands at a place, or that the fields end
got : (os : Optionals) (i : ℕ) (o : Option (Option Value)) → slice_get (optionals_list os) i ≡ o → (v : Value) → option_and_then (λ (x : Option Value). x) o ≡ Some v → slice_get (optionals_list os) i ≡ Some (Some v)
got os i None is v e = absurd (none-some v e)
got os i (Some x) is v e = is ∙ ap Some e

ended : (b : Bool) (i : ℕ) (os : Optionals) → slice_get (optionals_list os) i ≡ None → hole_from b (left i os) ≡ hole_from true (left (suc i) os)
ended true zero V.no_optionals e = refl
ended false zero V.no_optionals e = refl
ended true (suc i) V.no_optionals e = refl
ended false (suc i) V.no_optionals e = refl
ended b zero (V.absent os) e = absurd (none-some {A = Option Value} None (sym e))
ended b zero (V.present v os) e = absurd (none-some {A = Option Value} (Some v) (sym e))
ended b (suc i) (V.absent os) e = ended b i os e
ended b (suc i) (V.present v os) e = ended b i os e

not_there : (b : Bool) (i : ℕ) (os : Optionals) (o : Option (Option Value)) → slice_get (optionals_list os) i ≡ o → option_and_then (λ (x : Option Value). x) o ≡ None → hole_from b (left i os) ≡ hole_from true (left (suc i) os)
not_there b i os None is e = ended b i os is
not_there b i os (Some None) is e = absent_step b i os is
not_there b i os (Some (Some v)) is e = absurd (none-some v (sym e))

pub met_absent : (os : Optionals) (b : Bool) (i : ℕ) → field_at (optionals_list os) i ≡ None → IsMet os b i → IsMet os true (i + 1)
met_absent os b i e m = record { same = ap (λ k. hole_from true (left k os)) (add-one i) ∙ sym (not_there b i os (slice_get (optionals_list os) i) refl e) ∙ m.same }

pub met_present : (os : Optionals) (v : Value) (i : ℕ) (b : Bool) → b ≡ false → field_at (optionals_list os) i ≡ Some v → IsMet os b i → IsMet os b (i + 1)
met_present os v i true w e m = absurd (false_true (sym w))
met_present os v i false w e m = record { same = ap (λ k. hole_from false (left k os)) (add-one i) ∙ sym (present_step v i os (got os i (slice_get (optionals_list os) i) refl v e)) ∙ m.same }

pub met_hole : (os : Optionals) (v : Value) (i : ℕ) (b : Bool) → b ≡ true → field_at (optionals_list os) i ≡ Some v → IsMet os b i → hole_in os ≡ true
met_hole os v i false w e m = absurd (false_true w)
met_hole os v i true w e m = sym m.same ∙ present_hole v i os (got os i (slice_get (optionals_list os) i) refl v e)

pub met_all : (os : Optionals) (b : Bool) (i : ℕ) → length (optionals_list os) ≤ i → IsMet os b i → hole_in os ≡ false
met_all os b i h m = sym m.same ∙ none_left b i os h

pub hole_found : (rows : List Row) (s : Slot) (v : Value) (d : TypeDef) → form_of rows s ≡ Some d → is_hole (Some d) v ≡ true → has_hole rows s v ≡ true
hole_found rows s (V.struct os) d is e = struct_found is_hole rows s os d is e
hole_found rows s v (D.Struct sd) is e = absurd (false_true e)
hole_found rows s v d is e = absurd (false_true e)
