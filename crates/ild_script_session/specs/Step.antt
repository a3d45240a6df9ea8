-- One line of a script over a store: answered as on the plain value, or refused for a cause that is there.
use Rattle.std.specs.Prelude.{◌≡◌, ◌⊎◌, ℕ, ◌+◌, ◌≤◌, List, Option, Some, None, IfSome, Contains}
use Rattle.std.specs.List.{AllByRecursion}
use Rattle.ild_edges.specs.Count.{Rose}
pub use Rattle.ild_edges.specs.Gained.{AddsOnly, AddsWhole, Collides, Holds, IsWhole}
use Rattle.ild_edges.specs.Store.{Moment, Later, Keeps}
use Rattle.ild_edges.specs.Told.{BothTold}
use Rattle.ild_script.specs.declared.reply.No.{No}
use Rattle.ild_script.specs.declared.reply.No.TheVariants as N
use Rattle.ild_script.specs.declared.reply.Reply.{Reply}
use Rattle.ild_script.specs.declared.reply.Reply.TheVariants as R
use Rattle.ild_script_session.specs.Batch.{together, own_at, due_at, owed_at, puts_at}
use Rattle.ild_script_session.specs.Session.{Stage, Due, Meaning, left}

-- A block is lacking, or one came that isn't of its form: never where the store tells what it holds. Which bytes came, an
-- untold store doesn't say, but that some came.
pub record IsAmiss (m n : Moment) : Type 0 where
  pub untold : m.blocks ≡ None
  pub lacks : Rose m.lacks n.lacks ⊎ Rose m.gets n.gets

-- a refusal that the plain value does not give has its cause between two moments of the store
abbrev pub HasCause : Moment → List (List ℕ) → No → Moment → Type 0
HasCause m new N.Block n = IsAmiss m n
HasCause m new N.Store n = Rose m.faults n.faults
HasCause m new N.Clash n = Collides n new
HasCause m new N.Memory n = Unit {0}
HasCause m new refusal n = ⊥

-- the cause is there in the store, or in what it holds together with the batch
abbrev pub IsExcused : Moment → List (List ℕ) → Option Reply → Moment → Moment → Type 0
IsExcused m new (Some (R.No refusal)) n both = HasCause m new refusal n ⊎ HasCause m new refusal both
IsExcused m new reply n both = ⊥

-- each of these places has its block in the batch, or the blocks from there on down in the store
abbrev pub AreCarried : Moment → List (List ℕ) → List (List ℕ × List (List ℕ)) → Type 0
AreCarried m own places = AllByRecursion (λ p. Contains own p.0 ⊎ Holds m p.1) places

-- The store holds the value that a script would leave here, and together with the batch the value itself, of which it lacks nothing
-- beneath a block that the batch does not hold.
pub record Carries {V : Type 0} (M : Meaning V) (m : Moment) (s : Stage V) : Type 0 where
  pub kept : Holds m (M.blocks (left s.state))
  pub value : Holds (together m s) (M.blocks s.state.value)
  pub places : AreCarried m (own_at s) (M.places s.state.value)

-- only blocks that a line may add came, each with its children
pub record Gains {V : Type 0} (m : Moment) (due : Due V) (n : Moment) : Type 0 where
  pub adds : AddsOnly m n due.adds
  pub whole : AddsWhole m n due.children

-- what the store and the batch held together stays so, and they gained no more than the line may add
pub record StaysTogether {V : Type 0} (m : Moment) (s : Stage V) (due : Due V) (n : Moment) (t : Stage V) : Type 0 where
  pub keeps : BothTold (together m s).blocks (together n t).blocks Keeps
  pub gained : Gains (together m s) due (together n t)

-- From the moment m and the stage s, a line with this due gets this reply and leaves the moment n and the stage t.
pub record Replies {V : Type 0} (M : Meaning V) (m : Moment) (s : Stage V) (due : Due V) (reply : Option Reply) (n : Moment) (t : Stage V) : Type 0 where
  pub answered : ((reply ≡ due.reply) × (t.state ≡ due.next)) ⊎ (IsExcused m due.adds reply n (together n t) × (t.state ≡ s.state))
  pub later : Later m n
  pub carries : Carries M m s → Carries M n t
  -- what came to the store, and nothing where no put is due; and inside a batch what came to both together
  pub stored : Gains m due n
  pub still : due.puts ≡ 0 → n.blocks ≡ m.blocks
  pub stays : IfSome t.state.begun (λ v. StaysTogether m s due n t)
  pub gets : n.gets ≤ m.gets + due.gets
  pub puts : n.puts ≤ m.puts + puts_at s due
  pub owed : owed_at t ≤ owed_at s + due.owes

-- One line: what was held is held, a line that is due no reply has none, and where the value is carried, the line is answered so.
pub record Step {V : Type 0} (M : Meaning V) (m : Moment) (s : Stage V) (line : List ℕ) (reply : Option Reply) (n : Moment) (t : Stage V) : Type 0 where
  pub later : Later m n
  pub speaks : (due_at M m s line).reply ≡ None → reply ≡ None
  pub replies : Carries M m s → Replies M m s (due_at M m s line) reply n t
