-- The value that bytes spell.
use Rattle.std.specs.Prelude.{◌≡◌, ℕ, true, is_none, List, Result, Ok, Err}
use Rattle.std.specs.Coded.{Coded, coded_list, coded×}
use Rattle.ild_data.specs.Data.{Data, null}
use Rattle.ild_data.specs.DataCode.{data_code, data_inj, bytes_code}
use Rattle.ild_cbor.specs.Reading.{all_at, fault_of}

abbrev pub data_coded : Coded Data
data_coded = record { code = data_code; inj = data_inj }

abbrev pub entries_coded : Coded (List (List ℕ × Data))
entries_coded = coded_list (coded× bytes_code data_coded)

abbrev pub read_or_null : {E : Type 0} → Result Data E → Data
read_or_null (Ok d) = d
read_or_null (Err e) = null

-- the value whose spelling the bytes are, where they are one
unfoldable pub tree_in : List ℕ → Data
tree_in b = read_or_null (all_at b)

-- the bytes are the spelling of a tree within the limits
abbrev pub IsFaultless : List ℕ → Type 0
IsFaultless b = is_none (fault_of b) ≡ true
