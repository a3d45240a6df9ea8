-- What a take says.
use Rattle.std.specs.Prelude.{◌≡◌, ℕ, ◌≤◌, List, [], ◌∷◌, length, Option, Some, None, Result, Ok, Err, nat_le, if◌then◌else◌}
use Rattle.ild_data.specs.Key.{same_text}
use Rattle.ild_edges.specs.Count.{Rose}
use Rattle.ild_edges.specs.declared.inputs.TheConstants.{LONGEST_INPUT}
use Rattle.ild_edges.specs.declared.error.EdgeErr.{EdgeErr}
use Rattle.ild_edges.specs.declared.error.EdgeErr.TheVariants.{Failed, Memory}
use Rattle.ild_edges.specs.declared.inputs.Taken.{Taken}
use Rattle.ild_edges.specs.declared.inputs.Taken.TheVariants.{Bytes, Absent, Long}

-- Inputs at a moment: the files by name, where they are told; how often an input was lacking, and how often a call failed.
pub record Supply : Type 0 where
  pub files : Option (List (List ℕ × List ℕ))
  pub lacks : ℕ
  pub faults : ℕ

-- the bytes under a name; of two files with one name the first counts
abbrev pub file_at : List (List ℕ × List ℕ) → List ℕ → Option (List ℕ)
file_at [] name = None
file_at (f ∷ fs) name = if same_text f.0 name then Some f.1 else file_at fs name

-- what is taken of a file
abbrev pub taken_of : Option (List ℕ) → Taken
taken_of None = Absent
taken_of (Some b) = if nat_le (length b) LONGEST_INPUT then Bytes b else Long

-- where no files are told, what is taken is within the limit
abbrev pub IsShort : Taken → Type 0
IsShort (Bytes b) = length b ≤ LONGEST_INPUT
IsShort Absent = Unit {0}
IsShort Long = Unit {0}

-- what may be taken under a name
abbrev pub MayBe : Option (List (List ℕ × List ℕ)) → List ℕ → Taken → Type 0
MayBe None name t = IsShort t
MayBe (Some files) name t = t ≡ taken_of (file_at files name)

-- `Absent` and `Long` come only where the count of lacks rose
abbrev pub Lacks : Taken → ℕ → ℕ → Type 0
Lacks (Bytes b) before now = Unit {0}
Lacks Absent before now = Rose before now
Lacks Long before now = Rose before now

abbrev pub TakesAnswer : Supply → List ℕ → Result Taken EdgeErr → Supply → Type 0
TakesAnswer m name (Ok t) n = MayBe m.files name t × Lacks t m.lacks n.lacks
TakesAnswer m name (Err Failed) n = Rose m.faults n.faults
TakesAnswer m name (Err Memory) n = Unit {0}

-- the files are as before, and no count falls
pub record After (m n : Supply) : Type 0 where
  pub files : n.files ≡ m.files
  pub lacks : m.lacks ≤ n.lacks
  pub faults : m.faults ≤ n.faults

-- a take: its answer, and that it changed nothing but counts
pub record Takes (m : Supply) (name : List ℕ) (result : Result Taken EdgeErr) (n : Supply) : Type 0 where
  pub answer : TakesAnswer m name result n
  pub after : After m n
