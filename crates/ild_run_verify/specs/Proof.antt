-- A proof as an input brings it: the list of its blocks, each as bytes, in DAG-JSON.
use Rattle.std.specs.Prelude.{◌≡◌, ℕ, List, map, Ok}
use Rattle.ild_data.specs.Data.{Data, list, items_of, bytes}
use Rattle.ild_json.specs.Reading.{json_read}

abbrev pub blocks_data : List (List ℕ) → Data
blocks_data blocks = list (items_of (map bytes blocks))

-- the input is the proof with these blocks
abbrev pub IsProof : List ℕ → List (List ℕ) → Type 0
IsProof input blocks = json_read input ≡ Ok (blocks_data blocks)
