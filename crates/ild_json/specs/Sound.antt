-- A JSON document in which nothing is at fault, the data that it means, and members in the key order.
use Rattle.std.specs.Prelude.{◌≡◌, ℕ, List, map, Some, Ok}
use Rattle.std.specs.Borrow.{Bor}
use Rattle.std.specs.List.Sorted.{IsPermutation}
use Rattle.std.specs.declared.alloc.Global.{Global}
use Rattle.json.specs.Json as doc
use Rattle.json.specs.Value.{value_view}
use Rattle.json.specs.declared.value.Value.{Value}
use Rattle.serde_json.specs.Data as json
use Rattle.serde_json.specs.Read.{of_json}
use Rattle.ild_data.specs.Data.{Data}
use Rattle.ild_data.specs.Key.{Rises}
use Rattle.ild_json.specs.Reading.{data_read, reserved_read}

-- the document is a JSON value, which is read as these data
pub record Means (j : doc.Json) (d : Data) : Type 0 where
  pub value : json.Data
  pub is : of_json j ≡ Some value
  pub read : data_read value ≡ Ok d

-- under `/`
pub record MeansReserved (j : doc.Json) (d : Data) : Type 0 where
  pub value : json.Data
  pub is : of_json j ≡ Some value
  pub read : reserved_read value ≡ Ok d

-- a member, with its value seen as a document
abbrev pub Member : Type 0
Member = Bor (List ℕ) × Value Global

abbrev pub member_seen : Member → List ℕ × doc.Json
member_seen m = (m.0.now, value_view m.1)

abbrev pub members_seen : List Member → List (List ℕ × doc.Json)
members_seen ms = map member_seen ms

-- the members in the key order, no key twice
pub record InKeyOrder (ms es : List Member) : Type 0 where
  pub same : IsPermutation ms es
  pub rises : Rises (members_seen es)
