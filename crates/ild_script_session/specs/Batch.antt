-- Batches: what a store and a batch hold together, and what is owed for the edits of a batch.
use Rattle.std.specs.Prelude.{ℕ, List, [], ◌++◌, min, Option, Some, None, option_map}
use Rattle.std.specs.Option.{option_map_or}
use Rattle.ild_edges.specs.Store.{Moment}
use Rattle.ild_script_session.specs.Session.{Stage, Due, Meaning}

-- inside a batch its own blocks are held beside those of the store
abbrev pub beside : {V : Type 0} → Option V → List (List ℕ) → Moment → Moment
beside None own m = m
beside (Some v) own m = record m { blocks = option_map (λ held. own ++ held) m.blocks }

-- the moment of a store, with what the batch of a stage holds beside it
abbrev pub together : {V : Type 0} → Moment → Stage V → Moment
together m s = beside s.state.begun s.own m

-- the blocks that a batch holds of its own: outside one there are none
abbrev pub own_at : {V : Type 0} → Stage V → List (List ℕ)
own_at s = option_map_or (λ v. s.own) s.state.begun []

-- what a line is due, which looks at what is held together
abbrev pub due_at : {V : Type 0} → Meaning V → Moment → Stage V → List ℕ → Due V
due_at M m s line = M.due (together m s).blocks s.state line

-- how many puts are owed: outside a batch none
abbrev pub owed_at : {V : Type 0} → Stage V → ℕ
owed_at s = option_map_or (λ v. s.owed) s.state.begun 0

-- the most puts of a line with this due: inside a batch no more than are owed
abbrev pub puts_at : {V : Type 0} → Stage V → Due V → ℕ
puts_at s due = option_map_or (λ v. min due.puts s.owed) s.state.begun due.puts
