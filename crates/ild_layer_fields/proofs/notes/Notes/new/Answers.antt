use Rattle.std.proofs.Common.{refl, sym, arith}
use Rattle.std.proofs.lemmas.Bool.{le-ltb}
use Rattle.ild_layer_fields.proofs.Marking.{none_marked}
use Rattle.ild_layer_fields.proofs.notes.Notes.new.Goals as goal

pub returns-clause-noted : goal.returns-clause-noted
returns-clause-noted c = λ count most. record {
  stranger = refl;
  falls = refl;
  twice = λ known. refl;
  highest = λ m. sym (le-ltb m 0 (omega arith));
  met = λ i less. none_marked 16 i (omega arith);
}
