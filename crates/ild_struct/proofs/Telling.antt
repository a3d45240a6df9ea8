-- Parts of which the entries of a map tell that they are values of their fields.
use Rattle.std.proofs.Common.{ℕ, List, Option, sym, subst}
use Rattle.std.specs.List.{AllByRecursion}
use Rattle.ild_data.specs.Data.{Data}
use Rattle.ild_schema.specs.Legible.{IsLegible}
use Rattle.ild_layer_fields.specs.Told.{IsToldAt}
use Rattle.ild_struct.specs.Parts.{ArePartsOf, fields_of}
use Rattle.ild_struct.specs.Told.{AreTold, IsSurveyed}
use Rattle.ild_struct.specs.declared.parts.StructParts.{StructParts}
use Rattle.ild_struct.proofs.Writing.{map_starts}

-- what was told of the entries of a map is told of the fields
pub told_parts : (ty : ℕ) (t : Data) (os : List (Option Data)) (parts : StructParts) → IsLegible parts.fields.acc.now → ArePartsOf parts.fields.acc.now ty t os parts
    → IsSurveyed parts.fields.acc.now (fields_of parts) parts.source → AreTold parts.fields.acc.now (fields_of parts) os
told_parts ty t os parts legible h x =
    let rows = parts.fields.acc.now in
    let s = map_starts rows ty t os parts legible h x.piece x.entries x.is x.iterates in
    record {
      parts = s.parts;
      present = s.written.present;
      told = subst (AllByRecursion (IsToldAt rows (fields_of parts))) (sym s.leaves.3) (x.told s.leaves.0 s.leaves.1 s.leaves.2);
    }
