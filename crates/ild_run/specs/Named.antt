-- How a call ends that shows the value under a root that names its schema: the words tell no more than the root.
use Rattle.std.specs.Prelude.{◌≡◌, ◌⊎◌, ◌≤◌, ℕ, List, [], ◌∷◌, map, Option, Some, None, if◌then◌else◌, codes, Result, String, string_bytes}
use Rattle.std.specs.declared.alloc.Global.{Global}
use Rattle.ild_data.specs.Key.{same_text}
use Rattle.ild_data_root.specs.Root.{root_of_text}
use Rattle.ild_edges.specs.Count.{Rose}
use Rattle.ild_edges.specs.Sink.{Output}
use Rattle.ild_edges.specs.Store.{Moment}
use Rattle.ild_json.specs.Printing.{json_text}
use Rattle.ild_run_named.specs.Describes.{StandsDescribed}
use Rattle.ild_run_named.specs.Shows.{Shows}
use Rattle.ild_run_show.specs.declared.fault.ShowFault.{ShowFault}
use Rattle.ild_schema.specs.Slots.{plainly}
use Rattle.ild_schema.specs.Value.{Value as Typed}
use Rattle.ild_schema.specs.declared.number.TypeNo.{TypeNo}
use Rattle.ild_schema.specs.declared.row.Row.{Row}
use Rattle.ild_typed.specs.Shown.{shown}
use Rattle.ild_run.specs.Complete.{ShownBy}
use Rattle.ild_run.specs.Ended.{Call}
use Rattle.ild_run.specs.Shown.{hash, ShownTold}
use Rattle.ild_run.specs.declared.status.Status.{Status}
use Rattle.ild_run.specs.declared.status.Status.TheVariants as S

-- `show ROOT`, where ROOT is the text of a block id
abbrev pub root_in : List (List ℕ) → Option (List ℕ)
root_in (verb ∷ root ∷ []) = if same_text verb (codes "show") then root_of_text root else None
root_in words = None

abbrev pub root_shown : List (String Global) → Option (List ℕ)
root_shown words = root_in (map string_bytes words)

-- A value of a type that the root describes was opened, and its reply was written, `ok JSON` or `no 10 reserved`; or the line of a fault
-- was: of a block that isn't what has to stand there, the root's, the schema's or one of the value, of the store, or of memory.
pub record RevealsRoot (id : List ℕ) (m : Moment) (was : Output) (status : Status) (k : Moment) (now : Output) : Type 0 where
  pub result : Result (List ℕ) ShowFault
  pub shows : Shows hash id m result k
  pub told : ShownTold result was status now
  pub faults : was.faults ≤ now.faults

-- and no input was taken
pub record EndsRoot (id : List ℕ) (c : Call) (status : Status) : Type 0 where
  pub reveals : RevealsRoot id c.before.moment c.before.output status c.after.moment c.after.output
  pub same : c.after.supply ≡ c.before.supply

-- the words are at fault, a schema, an input or a value that it makes
abbrev pub IsOfWords : Status → Type 0
IsOfWords status = (status ≡ S.Words) ⊎ ((status ≡ S.Schema) ⊎ ((status ≡ S.Input) ⊎ (status ≡ S.Value)))

-- none of them is, whatever stands under the root
abbrev pub RootsNeedNoSchema : Type 0
RootsNeedNoSchema = (id : List ℕ) (c : Call) (status : Status) → EndsRoot id c status → IsOfWords status → ⊥

-- ---- where nothing stands in the way

-- a value stands under the root, of a type that the root describes, in a store that tells what it holds
pub record IsRevealable (id : List ℕ) (c : Call) (rows : List Row) (n : TypeNo) (v : Typed) : Type 0 where
  pub held : List (List ℕ)
  pub store : c.before.moment.blocks ≡ Some held
  pub stands : StandsDescribed hash id held rows n v

-- no count of faults of the store and the sink rose
pub record LetsReveal (c : Call) : Type 0 where
  pub store : Rose c.before.moment.faults c.after.moment.faults → ⊥
  pub sink : Rose c.before.output.faults c.after.output.faults → ⊥

-- it was shown, unless memory is wanting
abbrev pub IsRevealedBy : Option (List ℕ) → Call → Status → Type 0
IsRevealedBy None c status = Unit {0}
IsRevealedBy (Some id) c status =
    (rows : List Row) (n : TypeNo) (v : Typed) → IsRevealable id c rows n v → LetsReveal c → (status ≡ S.Memory) ⊎ ShownBy c status (json_text (shown rows (plainly n) v))
