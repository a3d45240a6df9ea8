-- What an answer to a line leaves of a document and of the store.
use Rattle.std.specs.Prelude.{◌≡◌, ◌⊎◌, ℕ, List, Option, Some, Contains}
use Rattle.std.specs.List.{AllByRecursion}
use Rattle.ild_data.specs.Spell.{id_of}
use Rattle.ild_data.specs.declared.id.BlockId.{BlockId}
use Rattle.ild_edges.specs.Count.{Rose}
use Rattle.ild_edges.specs.Store.{Moment, Later}
use Rattle.ild_edges.specs.Told.{BothTold}
use Rattle.ild_schema.specs.Value.{Value}
use Rattle.ild_script.specs.declared.reply.No.{No}
use Rattle.ild_script.specs.declared.reply.No.TheVariants as N
use Rattle.ild_script.specs.declared.reply.Reply.{Reply}
use Rattle.ild_script.specs.declared.reply.Reply.TheVariants as R
use Rattle.ild_path_edits.specs.Judged.{Tests, AreTests}
use Rattle.ild_script_session.specs.Session.{idle, resting}
use Rattle.ild_script_session.specs.Step.{Replies}
use Rattle.ild_script_meaning.specs.Ask.{Ask, Tell, to_tell}
use Rattle.ild_script_meaning.specs.Lines.{Setting, due, places_in, typed_lines}
use Rattle.ild_view_doc.specs.Docs.{table_in, type_in, block_in}
use Rattle.ild_view_doc.specs.declared.doc.Doc.{Doc}
use Rattle.ild_run_standing.specs.Blame.{HasClash, IsBroken}
use Rattle.ild_run_standing.specs.Standing.{DocIsAt, IsHeldAt, setting_of}

-- each place of the next value was there before, with the same blocks from there on down, or the id of its block is given
abbrev pub PassesOn : Setting → List (List ℕ) → Value → Value → Type 0
PassesOn w given v next = AllByRecursion (λ p. Contains given (id_of p.0) ⊎ Contains (places_in w v) p) (places_in w next)

-- The document stands at the next value then, and the reply is what the ask is due on the value before.
pub record LeadsOn (h : List ℕ → List ℕ) (w : Setting) (new : Doc) (a : Ask) (m : Moment) (v : Value) (reply : Option Reply) (n : Moment) : Type 0 where
  pub next : Value
  pub at : DocIsAt h new n next
  pub replies : Replies (typed_lines w) m (resting v) (due w a (idle v)) reply n (resting next)
  pub passed : BothTold m.given n.given (λ was now. PassesOn w now v next)

-- Of every store: what was held is held, the table and the type stay, a refusal and a read leave the block, and a root that is told is the
-- block's. That the store failed is told only where it did, a block is blamed only where one is broken, and a clash is told only where there
-- is one. From where the document stands, whichever the tests of its table are: the reply due, and it stands at what is due next.
pub record AnswersAs (h : List ℕ → List ℕ) (old new : Doc) (a : Ask) (m : Moment) (reply : Option Reply) (n : Moment) : Type 0 where
  pub later : Later m n
  pub table : table_in new ≡ table_in old
  pub type : type_in new ≡ type_in old
  pub kept : (refusal : No) → reply ≡ Some (R.No refusal) → block_in new ≡ block_in old
  pub told : (t : Tell) (path : List (List ℕ)) → a ≡ to_tell t path → block_in new ≡ block_in old
  pub rooted : (id : BlockId) → reply ≡ Some (R.Root id) → id.0 ≡ id_of (block_in new)
  pub failed : reply ≡ Some (R.No N.Store) → Rose m.faults n.faults
  pub blamed : reply ≡ Some (R.No N.Block) → IsBroken h old m.blocks m.lacks n.lacks
  pub clashed : reply ≡ Some (R.No N.Clash) → HasClash n
  pub leads : (tests : Tests) (v : Value) → AreTests (table_in old) tests → IsHeldAt h old tests m v → LeadsOn h (setting_of h old tests) new a m v reply n
