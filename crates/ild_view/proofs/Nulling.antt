-- Whether null stands there, and may.
use Rattle.std.proofs.Common.{◌≡◌, Bool, true, false, refl, sym, ◌∙◌, ap}
use Rattle.std.specs.Prelude.{◌↔◌}
use Rattle.std.proofs.lemmas.Bool.{false≢true}
use Rattle.ild_data.specs.Data as T
use Rattle.ild_data.specs.Data.{Data}
use Rattle.ild_schema.specs.declared.number.Slot.{Slot}
use Rattle.ild_typed.specs.Pieces.{is_null_there}

abbrev is_null : Data → Bool
is_null T.null = true
is_null t = false

never : (b : Bool) → (b ≡ true → ⊥) → b ≡ false
never true h = absurd (h refl)
never false h = refl

pub null_allowed : (s : Slot) (t : Data) (b : Bool) → s.nullable ≡ true → (b ≡ true) ↔ (t ≡ T.null) → b ≡ is_null_there s t
null_allowed s T.null b may h = h.1 refl ∙ sym may
null_allowed s t b may h = never b (λ e. false≢true (ap is_null (h.0 e)))

pub null_refused : (s : Slot) (t : Data) → s.nullable ≡ false → s.nullable ≡ is_null_there s t
null_refused s T.null isnt = refl
null_refused s t isnt = isnt
