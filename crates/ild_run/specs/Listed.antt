-- The names that a schema declares, listed: one reply, `ok` and the JSON list of them.
use Rattle.std.specs.Prelude.{◌≡◌, ◌⊎◌, ◌≤◌, ℕ, List, map, Some}
use Rattle.ild_data.specs.Data.{Data, list, items_of, text}
use Rattle.ild_edges.specs.Sink.{Output, Appends, AppendsFront}
use Rattle.ild_json.specs.Printing.{json_text}
use Rattle.ild_script.specs.declared.reply.Reply.TheVariants as R
use Rattle.ild_script.specs.Reply.{reply_text}
use Rattle.ild_run.specs.Cut.{CutAs, ToldAs}
use Rattle.ild_run.specs.declared.fault.Fault.TheVariants as F
use Rattle.ild_run.specs.declared.status.Status.{Status}
use Rattle.ild_run.specs.declared.status.Status.TheVariants as S

-- names as data: the list of their texts
abbrev pub names_data : List (List ℕ) → Data
names_data names = list (items_of (map text names))

-- the line that lists names was written
pub record Lists (names : List (List ℕ)) (m n : Output) : Type 0 where
  pub json : List ℕ
  pub printed : json_text (names_data names) ≡ Some json
  pub written : Appends m.written n.written (reply_text (R.Ok json))

-- a front of it was written
pub record ListsFront (names : List (List ℕ)) (m n : Output) : Type 0 where
  pub json : List ℕ
  pub printed : json_text (names_data names) ≡ Some json
  pub written : AppendsFront m.written n.written (reply_text (R.Ok json))

-- the status of listing names, and what was written; want of memory for the line is told
pub record ListedAs (names : List (List ℕ)) (m : Output) (status : Status) (n : Output) : Type 0 where
  pub answer : ((status ≡ S.Done) × Lists names m n) ⊎ ((CutAs m status n × ListsFront names m n) ⊎ ToldAs F.Memory m status n)
  pub faults : m.faults ≤ n.faults
