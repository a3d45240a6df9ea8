use Rattle.std.proofs.Common.{◌-◌, ℕ, Bool, List, ◌<◌, ◌≤◌, length}
use Rattle.std.specs.Prelude.{Ok}
use Rattle.ild_data.specs.Data.{Data}
use Rattle.ild_data.specs.Spell.{spell}
use Rattle.ild_path_block.specs.Edits.{EditsPart}
use Rattle.ild_path_edit.specs.Holders.{IsMade}
use Rattle.ild_path_edit.specs.Made.{MakesBlock}
use Rattle.ild_schema.specs.Value.{Value}
use Rattle.ild_view.specs.View.{slot_of, table_of}
use Rattle.ild_path_edit.proofs.item.item_at.Given as goal

abbrev pub invariant-loop-k : goal.invariant-loop-k
invariant-loop-k l = (l.k < length l.path) × (l.from < length l.path → l.from ≤ l.k)
    × ((is_key : ℕ → List ℕ → Bool) (f w c : Value) (t u d : Data) → EditsPart is_key l.root l.path l.edit f w c t u → IsMade (table_of l.root) is_key l.edit w (slot_of l.root, f) l.path l.k d → MakesBlock (spell d) (Ok l.item))

abbrev pub decreases-loop-k : goal.decreases-loop-k
decreases-loop-k l = l.k - l.from
