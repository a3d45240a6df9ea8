-- What a batch holds: its own blocks, and beneath all other ids what the store beneath it holds.
use Rattle.std.specs.Prelude.{◌≡◌, ℕ, ◌+◌, ◌≤◌, List, ◌∷◌, ◌++◌, length, map, Some, option_map}
use Rattle.ild_data.specs.Spell.{id_of}
use Rattle.ild_edges.specs.Store.{Moment, Later}
use Rattle.ild_dirty.specs.declared.batch.Batch.{Batch}

-- a batch at a moment: of a store with these own blocks, and so many calls of its own
abbrev pub batch_moment : Moment → List (List ℕ) → ℕ → ℕ → ℕ × ℕ → Moment
batch_moment m own gets puts names = record {
  blocks = option_map (λ held. own ++ held) m.blocks;
  given = Some (map id_of own);
  gets = gets;
  puts = puts;
  lacks = m.lacks;
  faults = m.faults;
  beneath = record { names = names; own = length own; blocks = m.blocks; given = m.given; gets = m.gets; puts = m.puts } ∷ m.beneath;
}

-- this batch, over a store at the moment that `moment` says
abbrev pub batch_at : {K : Type 0} → (K → Moment) → Batch K → Moment
batch_at moment b = batch_moment (moment b.store.now) b.own.now b.gets b.puts (b.store.ghost_name, b.own.ghost_name)

-- the store beneath was asked for one block at most, and nothing was put there
pub record AsksOnce (m n : Moment) : Type 0 where
  pub later : Later m n
  pub blocks : n.blocks ≡ m.blocks
  pub given : n.given ≡ m.given
  pub gets : n.gets ≤ m.gets + 1
  pub puts : n.puts ≡ m.puts
