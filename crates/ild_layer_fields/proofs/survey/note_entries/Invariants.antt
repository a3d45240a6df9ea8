use Rattle.std.proofs.Common.{ℕ, List}
use Rattle.ild_data.specs.Data.{Data}
use Rattle.ild_schema.specs.Clear.{AreNamesApart}
use Rattle.ild_layer_piece.specs.Entries.{HasLeft}
use Rattle.ild_layer_fields.proofs.Surveying.{Surveying}
use Rattle.ild_layer_fields.proofs.Telling.{Telling}
use Rattle.ild_layer_fields.proofs.survey.note_entries.Given as goal

abbrev pub invariant-loop-name : goal.invariant-loop-name
invariant-loop-name l =
    (AreNamesApart l.fields.def.now.fields → (es : List (List ℕ × Data)) → HasLeft l.entries es → Surveying l.fields.def.now.fields es l.left l.notes)
    × (AreNamesApart l.fields.def.now.fields → (es : List (List ℕ × Data)) → HasLeft l.entries es → Telling l.fields.acc.now l.fields.def.now.fields es l.left l.told)
