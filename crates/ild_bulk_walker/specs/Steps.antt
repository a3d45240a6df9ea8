-- The steps of a walk, seen as what is still to be done.
use Rattle.std.specs.Prelude.{◌≡◌, ℕ, List, map, reverse}
use Rattle.ild_data.specs.Data.{Data}
use Rattle.ild_data.specs.Spell.{spell}
use Rattle.ild_node_slots.specs.Spelled.{tree_in}
use Rattle.ild_bulk_walker.specs.Pieces.{piece}
use Rattle.ild_bulk_walker.specs.Todo.{Todo, give, enter, leave}
use Rattle.ild_bulk_walker.specs.declared.row.Row.{Row}
use Rattle.ild_bulk_walker.specs.declared.step.Child.{Child}
use Rattle.ild_bulk_walker.specs.declared.step.Entry.{Entry}
use Rattle.ild_bulk_walker.specs.declared.step.Step.{Step}
use Rattle.ild_bulk_walker.specs.declared.step.Step.TheVariants as S

-- the key and the value of an entry, read out of the block
abbrev pub entry_key : Entry → List ℕ
entry_key e = piece e.held.value e.from e.middle

abbrev pub entry_value : Entry → Data
entry_value e = tree_in (piece e.held.value e.middle e.to)

-- the row is that of the entry, in the block of this id
pub record IsRowOf (e : Entry) (here : List ℕ) (row : Row) : Type 0 where
  pub key : row.key ≡ entry_key e
  pub value : row.value ≡ spell (entry_value e)
  pub block : row.block.0 ≡ here

abbrev pub step_todo : Step → Todo
step_todo (S.Give e) = give (entry_key e) (entry_value e) e.index
step_todo (S.Enter c) = enter c.id.0 c.index
step_todo (S.Leave before) = leave before

-- the last step is the next one
abbrev pub steps_todo : List Step → List Todo
steps_todo steps = reverse (map step_todo steps)

abbrev pub path_of : List Child → List ℕ
path_of path = map (λ c. c.index) path
