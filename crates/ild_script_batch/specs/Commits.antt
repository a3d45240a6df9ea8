-- The commit of a batch: what a flush of its own blocks is as the line.
use Rattle.std.specs.Prelude.{◌≡◌, ◌≢◌, ℕ, ◌≤◌, List, length, Some, None, Result, Ok, Err}
use Rattle.ild_data.specs.Data.{Data}
use Rattle.ild_dirty.specs.Beneath as B
use Rattle.ild_dirty.specs.Beneath.{AgreesWith, IsTree}
use Rattle.ild_dirty.specs.Flush.{Asks, Flushes}
use Rattle.ild_dirty.specs.declared.fault.FlushFault.{FlushFault}
use Rattle.ild_dirty.specs.declared.fault.FlushFault.TheVariants as F
use Rattle.ild_edges.specs.Store.{Moment}
use Rattle.ild_schema.specs.Value.{Value}
use Rattle.ild_script.specs.declared.reply.No.TheVariants as N
use Rattle.ild_script.specs.declared.reply.Reply.{Reply}
use Rattle.ild_script.specs.declared.reply.Reply.TheVariants as R
use Rattle.ild_script_meaning.specs.Lines.{Setting, commit_due, in_slot, root_reply, tree_in, typed_lines}
use Rattle.ild_script_session.specs.Session.{Stage, resting}
use Rattle.ild_script_session.specs.Step.{Carries, Replies}
use Rattle.ild_typed_places.specs.Places.{Places, nowhere, place, value_places}
use Rattle.ild_script_batch.specs.Inside.{batching, begun_at}

-- the places of a walk without their kinds, before others
abbrev mutual
  pub put_before : B.Place → Places → Places
  put_before (B.place b k ts) rest = place b (unkinded ts) rest

  pub unkinded : B.Places → Places
  unkinded B.no_places = nowhere
  unkinded (B.beside t ts) = put_before t (unkinded ts)

-- the places of the tree are those of the value
pub record IsTreeOf (w : Setting) (v : Value) (t : B.Place) : Type 0 where
  pub tree : Data
  pub represented : tree_in w (in_slot w v) ≡ Some tree
  pub places : put_before t nowhere ≡ value_places w.frame w.hash w.rows w.ty v tree

-- the reply, and the stage then: a batch that is refused stays open
abbrev pub commit_reply : Setting → Value → Result (Unit {0}) FlushFault → Reply
commit_reply w v (Ok u) = root_reply w v
commit_reply w v (Err F.Store) = R.No N.Store
commit_reply w v (Err (F.Clash id kept new)) = R.No N.Clash
commit_reply w v (Err F.Memory) = R.No N.Memory

abbrev pub commit_stage : Value → Value → ℕ → List (List ℕ) → Result (Unit {0}) FlushFault → Stage Value
commit_stage v kept owed own (Ok u) = resting v
commit_stage v kept owed own (Err fault) = batching v kept owed own

-- ---- the laws

-- under the ids of the blocks of a value that is carried the batch has no others
abbrev pub CarriedAgree : Type 0
CarriedAgree =
    (w : Setting) (v kept : Value) (owed : ℕ) (own : List (List ℕ)) (t : B.Place) (m : Moment)
    → m.blocks ≢ None → Carries (typed_lines w) m (batching v kept owed own) → IsTreeOf w v t → AgreesWith own (B.blocks_in t)

abbrev pub FlushesCommit : Type 0
FlushesCommit =
    (w : Setting) (children : ℕ → List ℕ → List (List ℕ × ℕ)) (v kept : Value) (owed : ℕ) (own : List (List ℕ)) (t : B.Place) (m : Moment) (result : Result (Unit {0}) FlushFault) (n : Moment)
    → length own ≤ owed → Carries (typed_lines w) m (batching v kept owed own) → IsTreeOf w v t → IsTree children t → Flushes own children t m result n → Asks own m result n
    → Replies (typed_lines w) m (batching v kept owed own) (commit_due w (begun_at v kept) (Some kept)) (Some (commit_reply w v result)) n (commit_stage v kept owed own result)
