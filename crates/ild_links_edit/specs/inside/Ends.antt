-- What an edit of the value of one tree answers, where the tree is opened first.
use Rattle.std.specs.Prelude.{◌≡◌, ℕ, ◌+◌, List, length, Some, Result, Ok, Err}
use Rattle.ild_data.specs.Spell.{id_of}
use Rattle.ild_data.specs.declared.id.BlockId.{BlockId}
use Rattle.ild_edges.specs.Count.{Rose}
use Rattle.ild_edges.specs.Store.{Moment, Later, block_at}
use Rattle.ild_links.specs.declared.hop.Hop.{Hop}
use Rattle.ild_links_walk.specs.Last.{setting_at}
use Rattle.ild_path_edits.specs.Edit.{Edit}
use Rattle.ild_path_edits.specs.Judged.{AreTests, Tests}
use Rattle.ild_schema.specs.Value.{Value}
use Rattle.ild_schema.specs.declared.row.Row.{Row}
use Rattle.ild_script.specs.declared.reply.No.{No}
use Rattle.ild_script.specs.declared.reply.No.TheVariants as N
use Rattle.ild_script.specs.declared.reply.Reply.{Reply}
use Rattle.ild_script.specs.declared.reply.Reply.TheVariants as R
use Rattle.ild_script_meaning.specs.Ask.{to_edit}
use Rattle.ild_script_meaning.specs.Lines.{Setting, due, typed_lines, value_blocks}
use Rattle.ild_script_session.specs.Session.{Due, idle, resting}
use Rattle.ild_script_session.specs.Step.{Replies}
use Rattle.ild_typed.specs.Stands.{Stands, bare}

-- the answer as a reply
abbrev pub reply_of : Result BlockId No → Reply
reply_of (Ok root) = R.Root root
reply_of (Err refusal) = R.No refusal

-- what a line with the edit is due, where all blocks of the value are got before
abbrev pub opened_due : Setting → Value → Edit (List ℕ) → Due Value
opened_due w v e = record (due w (to_edit e) (idle v)) { gets = length (value_blocks w v) + (due w (to_edit e) (idle v)).gets }

-- the reply that the edit is due, and the value that it leaves
pub record LeavesIn (w : Setting) (v : Value) (e : Edit (List ℕ)) (m : Moment) (result : Result BlockId No) (n : Moment) : Type 0 where
  pub next : Value
  pub replies : Replies (typed_lines w) m (resting v) (opened_due w v e) (Some (reply_of result)) n (resting next)

pub record EditsIn (rows : List Row) (hop : Hop) (e : Edit (List ℕ)) (m : Moment) (result : Result BlockId No) (n : Moment) : Type 0 where
  pub later : Later m n
  pub failed : result ≡ Err N.Store → Rose m.faults n.faults
  pub leads : (tests : Tests) (held : List (List ℕ)) (v : Value) → AreTests rows tests → m.blocks ≡ Some held → Stands bare (block_at held) id_of rows hop.ty hop.id.0 v
      → LeavesIn (setting_at id_of rows tests hop) v e m result n
