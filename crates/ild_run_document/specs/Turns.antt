-- What a line makes of a session over a document: inside a batch, where there is the document at its begin, and outside.
use Rattle.std.specs.Prelude.{◌≡◌, ◌⊎◌, ℕ, List, Option, Some, None}
use Rattle.ild_data.specs.Spell.{id_of}
use Rattle.ild_data.specs.declared.id.BlockId.{BlockId}
use Rattle.ild_edges.specs.Count.{Rose}
use Rattle.ild_edges.specs.Gained.{Collides}
use Rattle.ild_edges.specs.Store.{Moment, Later}
use Rattle.ild_schema.specs.Value.{Value}
use Rattle.ild_script.specs.declared.reply.No.{No}
use Rattle.ild_script.specs.declared.reply.No.TheVariants as N
use Rattle.ild_script.specs.declared.reply.Reply.{Reply}
use Rattle.ild_script.specs.declared.reply.Reply.TheVariants as R
use Rattle.ild_path_edits.specs.Judged.{Tests, AreTests}
use Rattle.ild_script_session.specs.Batch.{beside}
use Rattle.ild_script_session.specs.Session.{Stage}
use Rattle.ild_script_session.specs.Step.{Replies}
use Rattle.ild_script_meaning.specs.Ask.{Ask, Tell, to_tell}
use Rattle.ild_script_meaning.specs.Lines.{Setting, due, typed_lines}
use Rattle.ild_view_doc.specs.Docs.{table_in, type_in, block_in}
use Rattle.ild_view_doc.specs.declared.doc.Doc.{Doc}
use Rattle.ild_run_answers.specs.Asks.{IsOfSession}
use Rattle.ild_run_standing.specs.Blame.{HasClash, IsBroken}
use Rattle.ild_run_standing.specs.Standing.{StandsSo, setting_of}

-- the document at the begin of a batch has the same type
abbrev pub AreAlike : Doc → Option Doc → Type 0
AreAlike d None = Unit {0}
AreAlike d (Some b) = (table_in b ≡ table_in d) × (type_in b ≡ type_in d)

-- the reply that is due at the stage, and where the session stands then
pub record TurnsTo (h : List ℕ → List ℕ) (w : Setting) (new : Doc) (begun : Option Doc) (own : List (List ℕ))
    (tests : Tests) (a : Ask) (m : Moment) (s : Stage Value) (reply : Option Reply) (n : Moment) : Type 0 where
  pub stage : Stage Value
  pub replies : Replies (typed_lines w) m s (due w a s.state) reply n stage
  pub stands : StandsSo h new begun own tests n stage

-- Of every store: what was held is held, the table and the type stay, a refusal and a read leave the block and the batch, and a root that is
-- told is the block's. That the store failed is told only where it did, a block is blamed only where one is broken, of what the store and
-- the batch hold together. A clash is told only where a block of the batch's own collides with one that the store holds, or another one with
-- one that both hold together. From where the session stands, whichever the tests of its table are: the reply due.
pub record Turns (h : List ℕ → List ℕ) (old new : Doc) (begun after : Option Doc) (was now : List (List ℕ)) (a : Ask) (m : Moment) (reply : Option Reply) (n : Moment) : Type 0 where
  pub later : Later m n
  pub table : table_in new ≡ table_in old
  pub type : type_in new ≡ type_in old
  pub alike : AreAlike new after
  pub kept : (refusal : No) → reply ≡ Some (R.No refusal) → (block_in new ≡ block_in old) × (after ≡ begun)
  pub told : (t : Tell) (path : List (List ℕ)) → a ≡ to_tell t path → (block_in new ≡ block_in old) × (after ≡ begun)
  pub rooted : (id : BlockId) → reply ≡ Some (R.Root id) → id.0 ≡ id_of (block_in new)
  pub failed : reply ≡ Some (R.No N.Store) → Rose m.faults n.faults
  pub blamed : reply ≡ Some (R.No N.Block) → IsBroken h old (beside begun was m).blocks m.lacks n.lacks
  pub clashed : reply ≡ Some (R.No N.Clash) → Collides n was ⊎ HasClash (beside after now n)
  pub leads : (tests : Tests) (s : Stage Value) → AreTests (table_in old) tests → StandsSo h old begun was tests m s → TurnsTo h (setting_of h old tests) new after now tests a m s reply n

-- inside a batch: a read or an edit; or the line is the session's own, and nothing changes
abbrev pub TurnsInside : Doc → Doc → Doc → List (List ℕ) → List (List ℕ) → Ask → Moment → Option Reply → Moment → Type 0
TurnsInside b old new was now a m (Some reply) n = AreAlike old (Some b) → Turns id_of old new (Some b) (Some b) was now a m (Some reply) n
TurnsInside b old new was now a m None n = IsOfSession a × (new ≡ old) × (now ≡ was) × (n ≡ m)
