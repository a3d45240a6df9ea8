-- What bytes make under a type: a value that a store can hold (IPLD HashMap, where HAMTs are in it).
use Rattle.std.specs.Prelude.{ℕ, List}
use Rattle.ild_data.specs.Data.{Data}
use Rattle.ild_schema.specs.declared.number.TypeNo.{TypeNo}
use Rattle.ild_schema.specs.declared.row.Row.{Row}
use Rattle.ild_schema.specs.Value.{Value}
use Rattle.ild_typed.specs.Stands.{bare, Storable}
use Rattle.ild_run_create.specs.Given.{IsGivenAs}

-- these data represent it, where h is the hash of keys
pub record Makes (h : List ℕ → List ℕ) (rows : List Row) (n : TypeNo) (b : List ℕ) (v : Value) (d : Data) : Type 0 where
  pub given : IsGivenAs rows n b v
  pub storable : Storable bare h rows n v d
