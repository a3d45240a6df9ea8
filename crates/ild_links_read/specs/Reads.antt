-- What is told of the part at a path, in a document and in the tree of a hop.
use Rattle.std.specs.Prelude.{◌≡◌, ◌⊎◌, ℕ, ◌+◌, ◌≤◌, List, [], length, drop, Some}
use Rattle.ild_edges.specs.Count.{Rose}
use Rattle.ild_edges.specs.Gained.{OnlyReads}
use Rattle.ild_edges.specs.Store.{Moment, block_at}
use Rattle.ild_links.specs.declared.hop.Hop.{Hop}
use Rattle.ild_links_walk.specs.Last.{setting_at}
use Rattle.ild_path_edits.specs.Judged.{Tests}
use Rattle.ild_run_reads.specs.Replies.{IsOfRead}
use Rattle.ild_run_standing.specs.Standing.{IsHeldAt, setting_of}
use Rattle.ild_schema.specs.Value.{Value}
use Rattle.ild_schema.specs.declared.row.Row.{Row}
use Rattle.ild_script.specs.declared.reply.No.TheVariants as N
use Rattle.ild_script.specs.declared.reply.Reply.{Reply}
use Rattle.ild_script.specs.declared.reply.Reply.TheVariants as R
use Rattle.ild_script_meaning.specs.Ask.{Tell}
use Rattle.ild_script_meaning.specs.Costs.{tell_gets}
use Rattle.ild_script_meaning.specs.Lines.{Setting, in_slot, read_reply, value_blocks}
use Rattle.ild_script_session.specs.Step.{IsExcused}
use Rattle.ild_typed.specs.Stands.{Stands, bare}
use Rattle.ild_view_doc.specs.declared.doc.Doc.{Doc}

-- in a value at which a document stands: the reply due there, or a refusal for a cause that is there
pub record TellsAt (w : Setting) (t : Tell) (path : List (List ℕ)) (v : Value) (m : Moment) (reply : Reply) (n : Moment) : Type 0 where
  pub answer : (reply ≡ read_reply w t path v) ⊎ IsExcused m [] (Some reply) n n
  pub gets : n.gets ≤ m.gets + tell_gets w.hash w.rows t (in_slot w v) path

-- Of every store by gets alone, it is no root, and that the store failed is told only where it did.
pub record Tells (h : List ℕ → List ℕ) (d : Doc) (path : List (List ℕ)) (t : Tell) (m : Moment) (reply : Reply) (n : Moment) : Type 0 where
  pub only : OnlyReads m n
  pub own : IsOfRead reply
  pub failed : reply ≡ R.No N.Store → Rose m.faults n.faults
  pub told : (tests : Tests) (v : Value) → IsHeldAt h d tests m v → TellsAt (setting_of h d tests) t path v m reply n

-- the same in a value that is opened before
pub record TellsOf (w : Setting) (t : Tell) (rest : List (List ℕ)) (v : Value) (m : Moment) (reply : Reply) (n : Moment) : Type 0 where
  pub answer : (reply ≡ read_reply w t rest v) ⊎ IsExcused m [] (Some reply) n n
  pub gets : n.gets ≤ m.gets + length (value_blocks w v) + tell_gets w.hash w.rows t (in_slot w v) rest

-- in the tree of a hop
pub record TellsIn (h : List ℕ → List ℕ) (rows : List Row) (hop : Hop) (path : List (List ℕ)) (t : Tell) (m : Moment) (reply : Reply) (n : Moment) : Type 0 where
  pub only : OnlyReads m n
  pub own : IsOfRead reply
  pub failed : reply ≡ R.No N.Store → Rose m.faults n.faults
  pub told : (tests : Tests) (held : List (List ℕ)) (v : Value) → m.blocks ≡ Some held → Stands bare (block_at held) h rows hop.ty hop.id.0 v → TellsOf (setting_at h rows tests hop) t (drop hop.from path) v m reply n
