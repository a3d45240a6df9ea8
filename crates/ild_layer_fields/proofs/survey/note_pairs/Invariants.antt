use Rattle.ild_data.specs.Data as T
use Rattle.ild_schema.specs.Clear.{AreNamesApart}
use Rattle.ild_cbor.specs.Steps.{HasItems}
use Rattle.ild_layer_fields.proofs.Pairing.{Pairing}
use Rattle.ild_layer_fields.proofs.survey.note_pairs.Given as goal

abbrev pub invariant-loop-item : goal.invariant-loop-item
invariant-loop-item l =
    AreNamesApart l.fields.def.now.fields → (ds : T.Items) → HasItems l.items ds → Pairing l.fields.def.now.fields ds l.left l.notes l.miscounted
