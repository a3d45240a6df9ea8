-- Inputs in memory, as contracts see them.
use Rattle.std.specs.Prelude.{ℕ, List, [], Some, Result, Ok, Err, map}
use Rattle.ild_edges.specs.Count.{bumped}
use Rattle.ild_edges.specs.Inputs.{Supply}
use Rattle.ild_edges.specs.declared.error.EdgeErr.{EdgeErr}
use Rattle.ild_edges.specs.declared.error.EdgeErr.TheVariants.{Failed, Memory}
use Rattle.ild_edges.specs.declared.inputs.Taken.{Taken}
use Rattle.ild_edges.specs.declared.inputs.Taken.TheVariants.{Bytes, Absent, Long}
use Rattle.ild_edges.specs.declared.mem_inputs.MemInputs.{MemInputs}
use Rattle.ild_edges.specs.declared.mem_inputs.File.{File}

-- The files, the last one that was added first; the numbers of the takes that fail, from 1 on; and the counts.
pub record InputsState : Type 0 where
  pub files : List (List ℕ × List ℕ)
  pub fails : List ℕ
  pub takes : ℕ
  pub lacks : ℕ
  pub faults : ℕ

abbrev pub file_pair : File → List ℕ × List ℕ
file_pair f = (f.name, f.bytes)

-- what contracts see of inputs in memory
abbrev pub inputs_state : MemInputs → InputsState
inputs_state m = record { files = map file_pair m.files.items; fails = m.fails.items; takes = m.takes; lacks = m.lacks; faults = m.faults }

-- inputs with no file, and every count at 0
abbrev pub new_inputs : List ℕ → InputsState
new_inputs fails = record { files = []; fails = fails; takes = 0; lacks = 0; faults = 0 }

abbrev pub supply_of : InputsState → Supply
supply_of m = record { files = Some m.files; lacks = m.lacks; faults = m.faults }

-- what a take leaves
abbrev pub after_take : InputsState → Result Taken EdgeErr → InputsState
after_take m (Ok (Bytes b)) = record m { takes = bumped m.takes }
after_take m (Ok Absent) = record m { takes = bumped m.takes; lacks = bumped m.lacks }
after_take m (Ok Long) = record m { takes = bumped m.takes; lacks = bumped m.lacks }
after_take m (Err Failed) = record m { takes = bumped m.takes; faults = bumped m.faults }
after_take m (Err Memory) = record m { takes = bumped m.takes }
