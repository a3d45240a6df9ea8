-- Roots with which heads are made, and why one is refused.
use Rattle.std.specs.Prelude.{◌≡◌, ℕ, List, Option, Some, None}
use Rattle.ild_data.specs.Spell.{id_of}
use Rattle.ild_data.specs.declared.id.BlockId.{BlockId}
use Rattle.ild_edges.specs.Store.{Moment}
use Rattle.ild_script.specs.declared.reply.No.{No}
use Rattle.ild_script.specs.declared.reply.No.TheVariants as N
use Rattle.ild_schema.specs.Value.{Value}
use Rattle.ild_run_open.specs.Empty.{IsEmpty}
use Rattle.ild_run_open.specs.Starts.{Stops}
use Rattle.ild_run_open.specs.declared.start.Start.{Start}
use Rattle.ild_run_open.specs.declared.start.Start.TheVariants as S
use Rattle.ild_run_open.specs.declared.start.StartFault.{StartFault}
use Rattle.ild_run_open.specs.declared.start.StartFault.TheVariants as F
use Rattle.ild_run_work.specs.Rules.{Rules, StandsAmong}

-- the empty value of the type stands under the root, where the store tells what it holds
pub record IsEmptyRoot (rules : Rules) (m : Moment) (root : List ℕ) : Type 0 where
  pub there : (held : List (List ℕ)) → m.blocks ≡ Some held → (v : Value) × StandsAmong rules held root v × IsEmpty rules.rows rules.ty v

-- the root with which a head is made: this one, or that of the empty value
abbrev pub start_of : Option BlockId → Start
start_of None = S.Empty
start_of (Some root) = S.Root root

-- why a script can't start there, as a line is refused
abbrev pub refusal_of : StartFault → No
refusal_of (F.Block id why) = N.Block
refusal_of F.Mismatch = N.Mismatch
refusal_of F.Store = N.Store
refusal_of (F.Clash id) = N.Clash
refusal_of F.Memory = N.Memory

-- between these moments it was refused, for a cause that is there: no value stands under the root, or the type has no empty value; or the
-- store failed, other bytes are kept under the id of the empty value's block, or memory is wanting
pub record RefusesRoot (rules : Rules) (root : Option BlockId) (m : Moment) (refusal : No) (n : Moment) : Type 0 where
  pub fault : StartFault
  pub named : refusal ≡ refusal_of fault
  pub stops : Stops id_of rules.rows rules.ty (start_of root) m fault n
