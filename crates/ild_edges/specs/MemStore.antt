-- A store in memory, as contracts see it.
use Rattle.std.specs.Prelude.{ℕ, List, [], Option, Some, None, Result, Ok, Err}
use Rattle.ild_edges.specs.Blocks.{blocks_of}
use Rattle.ild_edges.specs.Count.{bumped}
use Rattle.ild_edges.specs.Store.{Moment}
use Rattle.ild_edges.specs.declared.error.EdgeErr.{EdgeErr}
use Rattle.ild_edges.specs.declared.error.EdgeErr.TheVariants.{Failed, Memory}
use Rattle.ild_edges.specs.declared.mem_store.MemStore.{MemStore}

-- The blocks; the numbers of the gets and of the puts that fail, each from 1 on; and the counts.
pub record StoreState : Type 0 where
  pub blocks : List (List ℕ)
  pub fail_gets : List ℕ
  pub fail_puts : List ℕ
  pub gets : ℕ
  pub puts : ℕ
  pub lacks : ℕ
  pub faults : ℕ

-- what contracts see of a store in memory
abbrev pub store_state : MemStore → StoreState
store_state m = record { blocks = blocks_of m.held; fail_gets = m.fail_gets.items; fail_puts = m.fail_puts.items; gets = m.gets; puts = m.puts; lacks = m.lacks; faults = m.faults }

-- a store with no block, and every count at 0
abbrev pub new_store : List ℕ → List ℕ → StoreState
new_store fail_gets fail_puts = record { blocks = []; fail_gets = fail_gets; fail_puts = fail_puts; gets = 0; puts = 0; lacks = 0; faults = 0 }

-- it tells its blocks, and no given ids
abbrev pub moment_of : StoreState → Moment
moment_of m = record { blocks = Some m.blocks; given = None; gets = m.gets; puts = m.puts; lacks = m.lacks; faults = m.faults; beneath = [] }

-- what a get leaves
abbrev pub after_get : StoreState → Result (Option (List ℕ)) EdgeErr → StoreState
after_get m (Ok (Some b)) = record m { gets = bumped m.gets }
after_get m (Ok None) = record m { gets = bumped m.gets; lacks = bumped m.lacks }
after_get m (Err Failed) = record m { gets = bumped m.gets; faults = bumped m.faults }
after_get m (Err Memory) = record m { gets = bumped m.gets }

-- what a put leaves, beside the blocks where it is done
abbrev pub after_put : StoreState → Result (Option (List ℕ)) EdgeErr → List (List ℕ) → StoreState
after_put m (Ok None) blocks = record m { blocks = blocks; puts = bumped m.puts }
after_put m (Ok (Some kept)) blocks = record m { puts = bumped m.puts }
after_put m (Err Failed) blocks = record m { puts = bumped m.puts; faults = bumped m.faults }
after_put m (Err Memory) blocks = record m { puts = bumped m.puts }
