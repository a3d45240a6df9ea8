-- Values of a slot's type, however deep they nest: those that fit in some room. Fronts are among them.
use Rattle.std.specs.Prelude.{◌≡◌, ◌↔◌, ℕ, IsUtf8, Bool, true, List}
use Rattle.ild_schema.specs.declared.number.Slot.{Slot}
use Rattle.ild_schema.specs.declared.number.TypeNo.{TypeNo}
use Rattle.ild_schema.specs.declared.row.Row.{Row}
use Rattle.ild_schema.specs.Value.{Value}
use Rattle.ild_typed.specs.Fits.{Fits, IsTextOf}

abbrev pub OfType : List Row → Slot → Value → Type 0
OfType rows slot v = (room : ℕ) × Fits rows room slot v

-- a test of keys by the number of their type: whether a text is one of that type in text form
abbrev pub TestsKeys : List Row → (ℕ → List ℕ → Bool) → Type 0
TestsKeys rows is_key = (key : TypeNo) (k : List ℕ) → (is_key key.0 k ≡ true) ↔ (IsUtf8 k × IsTextOf rows key k)
