-- What a root says by a name and a schema's text: a type of an accepted table (IPLD Schemas).
use Rattle.std.specs.Prelude.{◌≡◌, ℕ, List, Some}
use Rattle.ild_compile.specs.Compile.{HasAccepted}
use Rattle.ild_open_named.specs.Opened.{StandsNamed}
use Rattle.ild_schema.specs.Names.{number_named}
use Rattle.ild_schema.specs.Table.{IsTable}
use Rattle.ild_schema.specs.Value.{Value}
use Rattle.ild_schema.specs.declared.number.TypeNo.{TypeNo}
use Rattle.ild_schema.specs.declared.row.Row.{Row}

-- the text derives the accepted table, of which this type has the name
pub record DescribesType (name source : List ℕ) (rows : List Row) (ty : TypeNo) : Type 0 where
  pub schema : HasAccepted source rows
  pub table : IsTable rows
  pub type : number_named name rows ≡ Some ty.0

-- the value of the type stands under the id of a root that describes the type
pub record StandsDescribed (h : List ℕ → List ℕ) (id : List ℕ) (held : List (List ℕ)) (rows : List Row) (ty : TypeNo) (v : Value) : Type 0 where
  pub name : List ℕ
  pub source : List ℕ
  pub describes : DescribesType name source rows ty
  pub is : StandsNamed h rows ty id held name source v
