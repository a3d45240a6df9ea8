use Rattle.std.proofs.Common.{◌≡◌, ℕ, List, false, take}
use Rattle.ild_data.specs.Data.{Data}
use Rattle.ild_schema.specs.Clear.{AreNamesApart}
use Rattle.ild_layer_fields.specs.Causes.{Noted}
use Rattle.ild_typed.specs.StructWhy.{lacks_field}
use Rattle.ild_layer_fields.proofs.notes.Notes.lacks.Given as goal

abbrev pub invariant-loop-i : goal.invariant-loop-i
invariant-loop-i l =
    AreNamesApart l.fields → (ks : List (List ℕ)) (es : List (List ℕ × Data)) → Noted l.fields ks es l.self → lacks_field (take l.i l.fields) ks ≡ false
