-- The value of a type that bytes are given as: they are the DAG-JSON of data, and these mean the value (IPLD Schemas, "type-level
-- representation").
use Rattle.std.specs.Prelude.{◌≡◌, ℕ, Bool, List, Ok}
use Rattle.ild_data.specs.Data.{Data}
use Rattle.ild_json.specs.Reading.{json_read}
use Rattle.ild_value_meaning.specs.Meant.{Meant}
use Rattle.ild_schema.specs.declared.number.TypeNo.{TypeNo}
use Rattle.ild_schema.specs.declared.row.Row.{Row}
use Rattle.ild_schema.specs.Slots.{plainly}
use Rattle.ild_schema.specs.Value.{Value}
use Rattle.ild_typed.specs.OfType.{TestsKeys}

-- whatever test of keys is asked
pub record IsGivenAs (rows : List Row) (n : TypeNo) (b : List ℕ) (v : Value) : Type 0 where
  pub tree : Data
  pub json : json_read b ≡ Ok tree
  pub meant : (is_key : ℕ → List ℕ → Bool) → TestsKeys rows is_key → Meant rows is_key (plainly n) tree v
