-- Whether a text is one of a key type can be tested.
use Rattle.std.specs.Prelude.{ℕ, Bool, List}
use Rattle.ild_schema.specs.declared.row.Row.{Row}
use Rattle.ild_typed.specs.OfType.{TestsKeys}
use Rattle.ild_typed.specs.Schema.{IsSchema}

-- a table of a schema has a test of keys
abbrev pub KeysAreTested : Type 0
KeysAreTested = (rows : List Row) → IsSchema rows → (is_key : ℕ → List ℕ → Bool) × TestsKeys rows is_key
