-- What is answered along a path across typed links, from a document over a store: its walk, and what a line leaves then.
use Rattle.std.specs.Prelude.{◌≡◌, ◌≤◌, ℕ, ◌+◌, Bool, true, List, [], ◌∷◌, length, Option, Some, None, IfOk, Result, Ok, Err}
use Rattle.ild_data.specs.Spell.{id_of}
use Rattle.ild_data.specs.declared.id.BlockId.{BlockId}
use Rattle.ild_edges.specs.Count.{Rose}
use Rattle.ild_edges.specs.Store.{Moment, Later}
use Rattle.ild_links.specs.Carries.{HasWalk}
use Rattle.ild_links.specs.Follows.{AreTyped, BeginAt, hops_of}
use Rattle.ild_links.specs.Trees.{first_tree}
use Rattle.ild_links.specs.Walk.{Entered, Walked, ended, not_held, too_deep}
use Rattle.ild_links.specs.declared.hop.Hop.{Hop}
use Rattle.ild_links_lines.specs.Lines.{WalksFrom, walk_due, walk_gets}
use Rattle.ild_path_edits.specs.Judged.{AreTests, Tests}
use Rattle.ild_run_links.specs.Moments.{HasStanding}
use Rattle.ild_run_links.specs.Trees.{Setting as Reading, Storable, trees}
use Rattle.ild_run_standing.specs.Standing.{IsHeldAt, setting_of}
use Rattle.ild_schema.specs.Value.{Value}
use Rattle.ild_script.specs.declared.reply.No.{No}
use Rattle.ild_script.specs.declared.reply.No.TheVariants as N
use Rattle.ild_script.specs.declared.reply.Reply.{Reply}
use Rattle.ild_script.specs.declared.reply.Reply.TheVariants as R
use Rattle.ild_script_meaning.specs.Ask.{Ask, Tell, to_tell}
use Rattle.ild_script_meaning.specs.Lines.{Setting, typed_lines}
use Rattle.ild_script_session.specs.Session.{idle, resting}
use Rattle.ild_script_session.specs.Step.{Replies}
use Rattle.ild_view_doc.specs.Docs.{block_in, table_in, type_in}
use Rattle.ild_view_doc.specs.declared.doc.Doc.{Doc}

-- the trees that links join, of which the first is a document's
abbrev pub trees_of : (List ℕ → List ℕ) → Doc → Reading
trees_of h d = record { hash = h; rows = table_in d; ty = type_in d; id = id_of (block_in d) }

-- ---- a walk

-- A refusal of a walk, as that of a line: over each store, the store failed where it is told that it did, and of other refusals there are these alone.
abbrev pub WalkCause : Moment → Result (List Hop) No → Moment → Type 0
WalkCause m (Ok hops) n = Unit {0}
WalkCause m (Err N.Depth) n = Unit {0}
WalkCause m (Err N.Block) n = Unit {0}
WalkCause m (Err N.Store) n = Rose m.faults n.faults
WalkCause m (Err N.Memory) n = Unit {0}
WalkCause m (Err refusal) n = ⊥

-- it is what this walk gives; or the store failed, or memory is wanting
abbrev pub AgreesWith : Walked Value → Result (List Hop) No → Type 0
AgreesWith walked (Ok hops) = (walked.ending ≡ ended) × (hops ≡ hops_of walked.trees)
AgreesWith walked (Err N.Depth) = walked.ending ≡ too_deep
AgreesWith walked (Err N.Block) = (j : List ℕ) × (walked.ending ≡ not_held j)
AgreesWith walked (Err refusal) = Unit {0}

-- with no more gets than the trees take that it enters, unless it meets one that isn't held
pub record IsWalkedSo (w : Setting) (v : Value) (path : List (List ℕ)) (walked : Walked Value) (before after : ℕ) (result : Result (List Hop) No) : Type 0 where
  pub agrees : AgreesWith walked result
  pub gets : ((j : List ℕ) → walked.ending ≡ not_held j → ⊥) → after ≤ before + walk_gets w v path walked.trees

pub record WalksAlong (h : List ℕ → List ℕ) (d : Doc) (path : List (List ℕ)) (m : Moment) (result : Result (List Hop) No) (n : Moment) : Type 0 where
  pub hops : IfOk result (λ hops. BeginAt (first_tree (trees (trees_of h d))) hops × AreTyped (length (table_in d)) hops)
  pub cause : WalkCause m result n
  pub later : Later m n
  pub blocks : n.blocks ≡ m.blocks
  pub puts : n.puts ≡ m.puts
  pub walk : (held : List (List ℕ)) → m.blocks ≡ Some held → HasStanding h d held → IfOk result (HasWalk (Storable (trees_of h d)) (trees (trees_of h d)) held path)
  pub told : (tests : Tests) (held : List (List ℕ)) (v : Value) (walked : Walked Value) → m.blocks ≡ Some held → IsHeldAt h d tests m v → WalksFrom (setting_of h d tests) held v path walked
      → IsWalkedSo (setting_of h d tests) v path walked m.gets n.gets result

-- ---- a line

module _ (w : Setting) (inside : Bool) (a : Ask) (path : List (List ℕ)) (m : Moment) (v : Value) (walked : Walked Value) (n : Moment) (next : Value) where
  -- no link is crossed
  pub record StaysInFirst : Type 0 where
    pub first : Entered Value
    pub alone : walked ≡ record { trees = first ∷ []; ending = ended }
    pub gets : n.gets ≤ m.gets + walk_gets w v path (first ∷ [])

  -- the reply is what the line is due by this walk, which leads to the next value; or no link is crossed
  abbrev pub CrossingAnswer : Option Reply → Type 0
  CrossingAnswer None = StaysInFirst
  CrossingAnswer (Some reply) = (any : ℕ) × Replies (typed_lines w) m (resting v) (walk_due w inside (idle v) a path any walked) (Some reply) n (resting next)

-- the document stands at the next value then, which the store holds, whatever the walk of the path is
pub record LeadsAcross (h : List ℕ → List ℕ) (inside : Bool) (old new : Doc) (tests : Tests) (a : Ask) (path : List (List ℕ)) (m : Moment) (held : List (List ℕ)) (v : Value)
    (reply : Option Reply) (n : Moment) : Type 0 where
  pub next : Value
  pub at : IsHeldAt h new tests n next
  pub along : (walked : Walked Value) → WalksFrom (setting_of h old tests) held v path walked → CrossingAnswer (setting_of h old tests) inside a path m v walked n next reply

-- Of every store: what was held is held, the table and the type stay, a refusal and a read leave the block, a root that is told is the block's, and
-- that the store failed is told only where it did. Where there is no answer, and inside a batch, nothing came and the block stays.
-- From where the document stands, by each walk: the reply due, or no link is crossed.
pub record Crosses (h : List ℕ → List ℕ) (inside : Bool) (old new : Doc) (a : Ask) (path : List (List ℕ)) (m : Moment) (reply : Option Reply) (n : Moment) : Type 0 where
  pub later : Later m n
  pub table : table_in new ≡ table_in old
  pub type : type_in new ≡ type_in old
  pub none : reply ≡ None → (block_in new ≡ block_in old) × (n.blocks ≡ m.blocks) × (n.puts ≡ m.puts)
  pub still : inside ≡ true → (block_in new ≡ block_in old) × (n.blocks ≡ m.blocks) × (n.puts ≡ m.puts)
  pub kept : (refusal : No) → reply ≡ Some (R.No refusal) → block_in new ≡ block_in old
  pub told : (t : Tell) (old_path : List (List ℕ)) → a ≡ to_tell t old_path → block_in new ≡ block_in old
  pub rooted : (id : BlockId) → reply ≡ Some (R.Root id) → id.0 ≡ id_of (block_in new)
  pub failed : reply ≡ Some (R.No N.Store) → Rose m.faults n.faults
  pub leads : (tests : Tests) (held : List (List ℕ)) (v : Value) → AreTests (table_in old) tests → m.blocks ≡ Some held → IsHeldAt h old tests m v
      → LeadsAcross h inside old new tests a path m held v reply n
