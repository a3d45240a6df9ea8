-- The value under a root, shown: the reply that is due, and how it is told.
use Rattle.std.specs.Prelude.{◌≡◌, ◌⊎◌, ◌≤◌, ℕ, List, Result, Ok, Err}
use Rattle.ild_data.specs.Spell.{id_of}
use Rattle.ild_edges.specs.Sink.{Output, Appends, AppendsFront}
use Rattle.ild_edges.specs.Store.{Moment}
use Rattle.ild_schema.specs.Table.{IsTable}
use Rattle.ild_schema.specs.declared.number.TypeNo.{TypeNo}
use Rattle.ild_schema.specs.declared.row.Row.{Row}
use Rattle.ild_script.specs.Reply.{reply_text}
use Rattle.ild_script.specs.declared.reply.No.TheVariants as N
use Rattle.ild_script.specs.declared.reply.Reply.{Reply}
use Rattle.ild_script.specs.declared.reply.Reply.TheVariants as R
use Rattle.ild_run_show.specs.Shows.{Shows}
use Rattle.ild_run_show.specs.declared.fault.ShowFault.{ShowFault}
use Rattle.ild_run_show.specs.declared.fault.ShowFault.TheVariants as W
use Rattle.ild_run.specs.Cut.{CutAs, ToldAs}
use Rattle.ild_run.specs.declared.fault.Fault.TheVariants as F
use Rattle.ild_run.specs.declared.status.Status.{Status}
use Rattle.ild_run.specs.declared.status.Status.TheVariants as S

-- the hash of keys is the sha2-256
abbrev pub hash : List ℕ → List ℕ
hash = id_of

-- `no 10 reserved`
abbrev pub reserved : Reply
reserved = R.No N.Reserved

-- a reply was written, with this status, or cut off
abbrev pub Replied : Reply → Status → Output → Status → Output → Type 0
Replied r due m status n = ((status ≡ due) × Appends m.written n.written (reply_text r)) ⊎ (CutAs m status n × AppendsFront m.written n.written (reply_text r))

abbrev pub ShownTold : Result (List ℕ) ShowFault → Output → Status → Output → Type 0
ShownTold (Ok json) m status n = Replied (R.Ok json) S.Done m status n
ShownTold (Err W.Reserved) m status n = Replied reserved S.Refused m status n
ShownTold (Err (W.Block id why)) m status n = ToldAs (F.Root id why) m status n
ShownTold (Err W.Store) m status n = ToldAs F.Store m status n
ShownTold (Err W.Memory) m status n = ToldAs F.Memory m status n

pub record ShownAs (rows : List Row) (n : TypeNo) (id : List ℕ) (m : Moment) (was : Output) (status : Status) (k : Moment) (now : Output) : Type 0 where
  pub table : IsTable rows
  pub result : Result (List ℕ) ShowFault
  pub shows : Shows hash rows n id m result k
  pub told : ShownTold result was status now
  pub faults : was.faults ≤ now.faults
