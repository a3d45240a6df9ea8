-- The last holder of a path, in which its last segment is sought, and the steps to it.
use Rattle.std.specs.Prelude.{ℕ, List}
use Rattle.ild_schema.specs.declared.row.Row.{Row}
use Rattle.ild_typed.specs.At.{InSlot}
use Rattle.ild_view.specs.Parts.{IsPartView}
use Rattle.ild_path_holder.specs.Along.{LeadAlong}
use Rattle.ild_path_holder.specs.declared.along.LastHolder.{LastHolder}

-- of the path s, ss in p it is q
pub record IsLast (rows : List Row) (p q : InSlot) (s : List ℕ) (ss : List (List ℕ)) (h : LastHolder) : Type 0 where
  pub lead : LeadAlong rows p s ss h.steps.items
  pub view : IsPartView rows q h.view
