-- The block that takes the place of a document's.
use Rattle.std.specs.Prelude.{◌≡◌, ℕ, List, Result, IfOk}
use Rattle.ild_path_place.specs.Tells.{slot_at, table_at}
use Rattle.ild_path_place.specs.declared.place.Place.{Place}
use Rattle.ild_schema.specs.Slots.{plainly}
use Rattle.ild_schema.specs.declared.number.TypeNo.{TypeNo}
use Rattle.ild_view_doc.specs.Block.{HasRoot}

-- it is one of the type of the value in which the place is
abbrev pub SwapsTo : {E : Type 0} → Place → Result (List ℕ) E → Type 0
SwapsTo place result = (n : TypeNo) → slot_at place ≡ plainly n → IfOk result (λ b. ∥ HasRoot (table_at place) n b ∥₁)
