-- The view of the HAMT to which a path leads.
use Rattle.std.proofs.Common.{◌≡◌, ℕ, ◌+◌, List, [], length, Ok, Err, ap, ◌∙◌, subst}
use Rattle.ild_path_edits.proofs.Stops.{stops_tell}
use Rattle.ild_path_edits.specs.Stop.{Stop, reach_at, stopped}
use Rattle.ild_path_hop.specs.Levels.{LeadsToHamt}
use Rattle.ild_path_reroot.specs.Reroots.{IsHamtView}
use Rattle.ild_schema.specs.Value.{hamt}
use Rattle.ild_schema.specs.declared.row.Row.{Row}
use Rattle.ild_typed.specs.At.{InSlot, here, reached}
use Rattle.ild_view.specs.Reaches.{Reaches}
use Rattle.ild_view.specs.View.{slot_of, table_of}
use Rattle.ild_view.specs.declared.step.NoPath.{NoPath}
use Rattle.ild_view.specs.declared.step.Step.TheVariants as S
use Rattle.ild_view.specs.declared.view.View.{View}

reached_there : (rows : List Row) (p q : InSlot) (path : List (List ℕ)) → stopped rows p path ≡ record { part = q; left = [] } → reached rows 0 p path ≡ here q
reached_there rows p q path is = (stops_tell rows 0 p path).1 ∙ ap (λ (z : Stop). reach_at (0 + length path) z.part z.left) is

module _ (view : View) (path : List (List ℕ)) (x : LeadsToHamt view path) where
  there : reached (table_of view) 0 (slot_of view, x.front) path ≡ here (x.slot, hamt x.tree)
  there = reached_there (table_of view) (slot_of view, x.front) (x.slot, hamt x.tree) path x.leads

  pub is_hamt : (w : View) → Reaches (table_of view) (reached (table_of view) 0 (slot_of view, x.front) path) (Ok (S.Here w)) → IsHamtView w
  is_hamt w is = record { tree = x.tree; is = (subst (λ r. Reaches (table_of view) r (Ok (S.Here w))) there is).view }

  pub never_enters : (w : View) (n : ℕ) → Reaches (table_of view) (reached (table_of view) 0 (slot_of view, x.front) path) (Ok (S.Enter w n)) → ⊥
  never_enters w n is = subst (λ r. Reaches (table_of view) r (Ok (S.Enter w n))) there is

  pub never_lost : (e : NoPath) → Reaches (table_of view) (reached (table_of view) 0 (slot_of view, x.front) path) (Err e) → ⊥
  never_lost e is = subst (λ r. Reaches (table_of view) r (Err e)) there is
