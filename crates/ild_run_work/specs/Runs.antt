-- What running a line on a root answers: the reply, the root to which it leads, and what comes of the store.
use Rattle.std.specs.Prelude.{◌≡◌, ℕ, ◌+◌, List, Some}
use Rattle.ild_cbor.specs.declared.why.BlockWhy.{BlockWhy}
use Rattle.ild_data.specs.Spell.{id_of}
use Rattle.ild_data.specs.declared.id.BlockId.{BlockId}
use Rattle.ild_edges.specs.Count.{Rose}
use Rattle.ild_edges.specs.Store.{Moment, Later}
use Rattle.ild_open.specs.Broken.{IsRefused}
use Rattle.ild_path_edits.specs.Judged.{Tests, AreTests}
use Rattle.ild_schema.specs.Value.{Value}
use Rattle.ild_script.specs.Line.{reads}
use Rattle.ild_script.specs.Reply.{reply_text}
use Rattle.ild_script.specs.declared.reply.No.{No}
use Rattle.ild_script.specs.declared.reply.No.TheVariants as N
use Rattle.ild_script.specs.declared.reply.Reply.{Reply}
use Rattle.ild_script.specs.declared.reply.Reply.TheVariants as R
use Rattle.ild_script_meaning.specs.Ask.{Ask, Tell, asked, to_tell}
use Rattle.ild_script_meaning.specs.Lines.{Setting, typed_lines}
use Rattle.ild_script_session.specs.Session.{Due, resting}
use Rattle.ild_script_session.specs.Step.{Replies}
use Rattle.ild_run_standing.specs.Blame.{HasClash}
use Rattle.ild_run_work.specs.Plain.{due_on}
use Rattle.ild_run_work.specs.Rules.{Rules, RootRules, StandsAmong, StandsIn, setting_by}

-- with one get more, that of the root's block
abbrev pub opened : Due Value → Due Value
opened d = record d { gets = 1 + d.gets }

-- The next value stands under the root that is answered, and the reply is what is due on the value before, or a refusal that has its
-- cause; and so is what came to the store.
pub record LeadsTo (rules : Rules) (w : Setting) (a : Ask) (m : Moment) (v : Value) (to : List ℕ) (reply : Reply) (n : Moment) : Type 0 where
  pub next : Value
  pub stands : StandsIn rules n to next
  pub replies : Replies (typed_lines w) m (resting v) (opened (due_on w v a)) (Some reply) n (resting next)

-- a block of the tree of blocks from the root on is refused for a cause that is there
pub record BlamesBlock (rules : Rules) (root : List ℕ) (m n : Moment) : Type 0 where
  pub id : List ℕ
  pub why : BlockWhy
  pub refused : IsRefused id_of rules.rows m.blocks m.lacks n.lacks rules.ty root id why

-- Of every store: what was held is held, a refusal and a read leave the root, and a root that is told is the one to which the line leads.
-- That the store failed is told only where it did, a block is blamed only where one is broken, and a clash is told only where there is one.
-- From the value that stands under the root, whichever the tests of its table are: the reply due.
pub record Runs (rules : Rules) (a : Ask) (m : Moment) (root to : List ℕ) (reply : Reply) (n : Moment) : Type 0 where
  pub later : Later m n
  pub kept : (refusal : No) → reply ≡ R.No refusal → to ≡ root
  pub told : (t : Tell) (path : List (List ℕ)) → a ≡ to_tell t path → to ≡ root
  pub rooted : (id : BlockId) → reply ≡ R.Root id → id.0 ≡ to
  pub failed : reply ≡ R.No N.Store → Rose m.faults n.faults
  pub blamed : reply ≡ R.No N.Block → ∥ BlamesBlock rules root m n ∥₁
  pub clashed : reply ≡ R.No N.Clash → HasClash n
  pub leads : (held : List (List ℕ)) (tests : Tests) (v : Value) → m.blocks ≡ Some held → AreTests rules.rows tests → StandsAmong rules held root v
      → LeadsTo rules (setting_by rules tests) a m v to reply n

-- a line is run, and replied with this text
pub record RunsLine (rules : Rules) (line : List ℕ) (m : Moment) (root to text : List ℕ) (n : Moment) : Type 0 where
  pub reply : Reply
  pub text_is : text ≡ reply_text reply
  pub runs : Runs rules (asked (reads line)) m root to reply n

-- ---- by the same rules, over the store that is held by the same reference

pub record RunsThere (was now : RootRules) (line : List ℕ) (m : Moment) (root to text : List ℕ) (n : Moment) : Type 0 where
  pub same : now ≡ was
  pub runs : RunsLine was.rules line m root to text n

pub record GoesOn (was now : RootRules) (m n : Moment) : Type 0 where
  pub same : now ≡ was
  pub later : Later m n
