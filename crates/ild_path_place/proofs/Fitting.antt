-- Whether a segment may be a key of a HAMT.
use Rattle.std.proofs.Common.{◌≡◌, ◌↔◌, ◌<◌, ℕ, Bool, true, false, List, length, Some, refl, sym, subst, arith}
use Rattle.std.specs.Prelude.{IsUtf8}
use Rattle.std.proofs.lemmas.Option.{same_Some}
use Rattle.ild_schema.specs.Table.{IsWithin}
use Rattle.ild_schema.specs.declared.def.MapForm.{MapForm}
use Rattle.ild_schema.specs.declared.def.TypeDef.{TypeDef}
use Rattle.ild_schema.specs.declared.def.TypeDef.TheVariants as D
use Rattle.ild_schema.specs.declared.number.Slot.{Slot}
use Rattle.ild_schema.specs.declared.number.TypeNo.{TypeNo}
use Rattle.ild_schema.specs.declared.row.Row.{Row}
use Rattle.ild_typed.specs.Fits.{IsTextOf}
use Rattle.ild_typed.specs.OfType.{TestsKeys}

pub key_low : (rows : List Row) (found : TypeDef) (key : TypeNo) (key_at : ℕ) (value : Slot) (at : ℕ) (form : MapForm) → found ≡ D.Map key key_at value at form → IsWithin (length rows) found → key.0 < length rows
key_low rows found key key_at value at form is within = let w : IsWithin (length rows) (D.Map key key_at value at form) = subst (IsWithin (length rows)) is within in w.1 0 0 (omega arith)

same_bool : (a b : Bool) → (a ≡ true → b ≡ true) → (b ≡ true → a ≡ true) → a ≡ b
same_bool true b f g = sym (f refl)
same_bool false true f g = g refl
same_bool false false f g = refl

pub text_fits : (rows : List Row) (key own : TypeNo) (s : List ℕ) (b : Bool) → Some own ≡ Some key → ((b ≡ true) ↔ IsTextOf rows own s) → (is_key : ℕ → List ℕ → Bool) → TestsKeys rows is_key → IsUtf8 s → b ≡ is_key key.0 s
text_fits rows key own s b e says is_key tests utf8 =
    let same : own ≡ key = same_Some own key e in
    same_bool b (is_key key.0 s) (λ t. (tests key s).1 (utf8, subst (λ k. IsTextOf rows k s) same (says.0 t))) (λ t. says.1 (subst (λ k. IsTextOf rows k s) (sym same) ((tests key s).0 t).1))
