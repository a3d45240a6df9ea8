-- What is printed is read back as the same data, and nests little deeper than the data.
use Rattle.std.specs.Prelude.{◌≡◌, ◌≤◌, ◌+◌, ℕ, List, false, Ok}
use Rattle.serde_json.specs.Data as json
use Rattle.ild_data.specs.Data.{Data, depth}
use Rattle.ild_data.specs.Tree.{IsTree}
use Rattle.ild_json.specs.Reading.{data_read, json_read}
use Rattle.ild_json.specs.Printing.{json_of, has_reserved}

abbrev pub PrintsAndReads : Type 0
PrintsAndReads = (d : Data) → IsTree d → has_reserved d ≡ false → data_read (json_of d) ≡ Ok d

-- the two objects in which bytes stand are all that is added
abbrev pub NestsLittleDeeper : Type 0
NestsLittleDeeper = (d : Data) → json.depth (json_of d) ≤ depth d + 2

-- what bytes mean is a tree
abbrev pub MeansTree : List ℕ → Type 0
MeansTree bytes = (d : Data) → json_read bytes ≡ Ok d → IsTree d
