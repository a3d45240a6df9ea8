-- A line inside a batch: what is answered over the batch, as over a store outside any, and what that is over the store beneath.
use Rattle.std.specs.Prelude.{◌≡◌, ◌≢◌, ◌⊎◌, ℕ, ◌-◌, ◌^◌, ◌≤◌, List, length, map, Some, None, Contains}
use Rattle.std.specs.List.{AllByRecursion}
use Rattle.ild_data.specs.Data as D
use Rattle.ild_data.specs.Spell.{id_of}
use Rattle.ild_dirty.specs.Batch.{batch_moment}
use Rattle.ild_edges.specs.Store.{Moment, Later}
use Rattle.ild_schema.specs.Value.{Value}
use Rattle.ild_script.specs.declared.reply.Reply.{Reply}
use Rattle.ild_script.specs.declared.reply.Reply.TheVariants as R
use Rattle.ild_script_meaning.specs.Ask.{Ask, to_tell, to_edit}
use Rattle.ild_script_meaning.specs.Lines.{Setting, due, places_in, printed, typed_lines}
use Rattle.ild_script_session.specs.Session.{State, Stage, Due, idle, resting}
use Rattle.ild_script_session.specs.Step.{Carries, Replies}

-- the state inside a batch, of the value and the one at its begin
abbrev pub begun_at : Value → Value → State Value
begun_at v kept = record { value = v; begun = Some kept }

-- the stage there, with so many puts owed and these blocks of the batch's own
abbrev pub batching : Value → Value → ℕ → List (List ℕ) → Stage Value
batching v kept owed own = record { state = begun_at v kept; owed = owed; own = own }

-- the reply inside a batch, where an edit tells no root
abbrev pub told_inside : Reply → Reply
told_inside (R.Root id) = printed D.null
told_inside (R.Ok text) = R.Ok text
told_inside (R.No refusal) = R.No refusal

-- what is asked of a store: a read or an edit
abbrev pub IsOfStore : Ask → Type 0
IsOfStore (to_tell t path) = Unit {0}
IsOfStore (to_edit e) = Unit {0}
IsOfStore a = ⊥

-- Between these moments of the store beneath it a batch answered as a store does outside any batch. Its own blocks went from those to
-- these, and each place of the next value has its id among theirs, or was a place before with the same blocks from there on down.
pub record IsAnsweredOver (w : Setting) (a : Ask) (v next : Value) (reply : Reply) (m n : Moment) (was now : List (List ℕ)) : Type 0 where
  pub names : (ℕ × ℕ) × (ℕ × ℕ)
  pub calls : ℕ × ℕ
  pub fits : length now ≤ 2 ^ 64 - 1
  pub replies : Replies (typed_lines w) (batch_moment m was 0 0 names.0) (resting v) (due w a (idle v)) (Some reply) (batch_moment n now calls.0 calls.1 names.1) (resting next)
  pub passed : AllByRecursion (λ p. Contains (map id_of now) (id_of p.0) ⊎ Contains (places_in w v) p) (places_in w next)

-- the same of the stage inside the batch, where no more blocks are its own than puts are owed
pub record IsAnsweredInside (w : Setting) (due : Due Value) (next kept : Value) (reply : Reply) (m : Moment) (s : Stage Value) (n : Moment) (now : List (List ℕ)) : Type 0 where
  pub owed : ℕ
  pub most : length now ≤ owed
  pub replies : Replies (typed_lines w) m s due (Some (told_inside reply)) n (batching next kept owed now)

-- ---- the laws

-- what was the store beneath is so, holds the same, and is later
pub record IsLaterBeneath (m n : Moment) (x y : ℕ × ℕ) : Type 0 where
  pub names : y ≡ x
  pub later : Later m n
  pub blocks : n.blocks ≡ m.blocks
  pub puts : n.puts ≡ m.puts

abbrev pub LaterBeneath : Type 0
LaterBeneath = (m n : Moment) (was now : List (List ℕ)) (g h p q : ℕ) (x y : ℕ × ℕ) → Later (batch_moment m was g p x) (batch_moment n now h q y) → IsLaterBeneath m n x y

abbrev pub CarriedOverBatch : Type 0
CarriedOverBatch =
    (w : Setting) (m : Moment) (v kept : Value) (owed : ℕ) (own : List (List ℕ)) (g p : ℕ) (x : ℕ × ℕ)
    → Carries (typed_lines w) m (batching v kept owed own) → Carries (typed_lines w) (batch_moment m own g p x) (resting v)

abbrev pub AnswersInside : Type 0
AnswersInside =
    (w : Setting) (a : Ask) (v next kept : Value) (owed : ℕ) (reply : Reply) (m n : Moment) (was now : List (List ℕ))
    → IsOfStore a → m.blocks ≢ None → length was ≤ owed → Carries (typed_lines w) m (batching v kept owed was) → IsAnsweredOver w a v next reply m n was now
    → IsAnsweredInside w (due w a (begun_at v kept)) next kept reply m (batching v kept owed was) n now
