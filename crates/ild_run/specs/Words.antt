-- The words of a call.
use Rattle.std.specs.Prelude.{ℕ, List, [], ◌∷◌, map, Option, Some, None, option_map, option_and_then, if◌then◌else◌, codes, String, string_bytes}
use Rattle.std.specs.declared.alloc.Global.{Global}
use Rattle.ild_data.specs.Key.{same_text}
use Rattle.ild_run_open.specs.declared.start.Start.{Start}
use Rattle.ild_run_open.specs.declared.start.Start.TheVariants as S
use Rattle.ild_data_root.specs.Root.{root_of_text}
use Rattle.ild_script.specs.Path.{path_of}
use Rattle.ild_run.specs.declared.fault.Role.{Role}

-- What words ask for, with the names of its inputs: a schema is checked; on a value of a schema's type with this name, its second, which
-- starts so, a script is run; a value of such a type is created; or the one that stands under a block id, its third, is shown. Or the types
-- with one name, the third, of two schemas are compared. Or a proof is to say what stands at a path, the fourth, in the value under a block id.
-- Or a script, its third, is run over named heads, under which values of such a type stand. Or what stands at a path, the fourth, in the value
-- under a block id is proved; or that value is given a root that names its schema and its type.
pub data Job : Type 0 where
  checks : List ℕ → Job
  compares : List ℕ → List ℕ → List ℕ → Job
  runs : List ℕ → List ℕ → Start → List ℕ → Job
  creates : List ℕ → List ℕ → List ℕ → Job
  shows : List ℕ → List ℕ → List ℕ → Job
  verifies : List ℕ → List ℕ → List ℕ → List (List ℕ) → List ℕ → Job
  keeps : List ℕ → List ℕ → List ℕ → Job
  proves : List ℕ → List ℕ → List ℕ → List (List ℕ) → Job
  migrates : List ℕ → List ℕ → List ℕ → Job

-- `show SCHEMA TYPE ROOT` and `migrate SCHEMA TYPE ROOT`, where ROOT is the text of a block id
abbrev pub root_job : List ℕ → List ℕ → List ℕ → List ℕ → Option Job
root_job verb schema ty root =
    if same_text verb (codes "show") then option_map (shows schema ty) (root_of_text root)
    else if same_text verb (codes "migrate") then option_map (migrates schema ty) (root_of_text root)
    else None

-- `new SCHEMA TYPE VALUE`, and these
abbrev pub typed_job : List ℕ → List ℕ → List ℕ → List ℕ → Option Job
typed_job verb schema ty last = if same_text verb (codes "new") then Some (creates schema ty last) else root_job verb schema ty last

-- `compat OLD NEW TYPE`, and these
abbrev pub pair_job : List ℕ → List ℕ → List ℕ → List ℕ → Option Job
pair_job verb first second last = if same_text verb (codes "compat") then Some (compares first second last) else typed_job verb first second last

-- `heads SCHEMA TYPE SCRIPT`, and these
abbrev pub heads_job : List ℕ → List ℕ → List ℕ → List ℕ → Option Job
heads_job verb first second last = if same_text verb (codes "heads") then Some (keeps first second last) else pair_job verb first second last

-- where a script starts: `-`, from the empty value, or ROOT
abbrev pub start_of_text : List ℕ → Option Start
start_of_text text = if same_text text (codes "-") then Some S.Empty else option_map (λ id. S.Root (record { 0 = id })) (root_of_text text)

-- `prove SCHEMA TYPE ROOT PATH`, where PATH is written as in a line of a script
abbrev pub prove_job : List ℕ → List ℕ → List ℕ → List ℕ → List ℕ → Option Job
prove_job verb schema ty root path =
    if same_text verb (codes "prove")
    then option_and_then (λ id. option_map (proves schema ty id) (path_of path)) (root_of_text root)
    else None

-- `run SCHEMA TYPE ROOT SCRIPT`, and `run SCHEMA TYPE - SCRIPT`, and this
abbrev pub run_job : List ℕ → List ℕ → List ℕ → List ℕ → List ℕ → Option Job
run_job verb schema ty start last = if same_text verb (codes "run") then option_map (λ s. runs schema ty s last) (start_of_text start) else prove_job verb schema ty start last

-- `verify SCHEMA TYPE ROOT PATH PROOF`, with such a PATH
abbrev pub verify_job : List ℕ → List ℕ → List ℕ → List ℕ → List ℕ → List ℕ → Option Job
verify_job verb schema ty root path proof =
    if same_text verb (codes "verify")
    then option_and_then (λ id. option_map (λ p. verifies schema ty id p proof) (path_of path)) (root_of_text root)
    else None

-- `check SCHEMA`, and these
abbrev pub job_in : List (List ℕ) → Option Job
job_in (verb ∷ schema ∷ []) = if same_text verb (codes "check") then Some (checks schema) else None
job_in (verb ∷ first ∷ second ∷ last ∷ []) = heads_job verb first second last
job_in (verb ∷ schema ∷ ty ∷ start ∷ last ∷ []) = run_job verb schema ty start last
job_in (verb ∷ schema ∷ ty ∷ root ∷ path ∷ proof ∷ []) = verify_job verb schema ty root path proof
job_in words = None

abbrev pub job_of : List (String Global) → Option Job
job_of words = job_in (map string_bytes words)

-- the name of the input that a job takes in a role, where it takes one
abbrev pub name_of : Role → Job → Option (List ℕ)
name_of Role.Schema (checks schema) = Some schema
name_of Role.Schema (compares schema next ty) = Some schema
name_of Role.Schema (runs schema ty start script) = Some schema
name_of Role.Schema (creates schema ty value) = Some schema
name_of Role.Schema (shows schema ty id) = Some schema
name_of Role.Schema (verifies schema ty id path proof) = Some schema
name_of Role.Schema (keeps schema ty script) = Some schema
name_of Role.Schema (proves schema ty id path) = Some schema
name_of Role.Schema (migrates schema ty id) = Some schema
name_of Role.Next (compares schema next ty) = Some next
name_of Role.Next job = None
name_of Role.Script (runs schema ty start script) = Some script
name_of Role.Script (keeps schema ty script) = Some script
name_of Role.Script job = None
name_of Role.Value (creates schema ty value) = Some value
name_of Role.Value job = None
name_of Role.Proof (verifies schema ty id path proof) = Some proof
name_of Role.Proof job = None
