-- The blocks of a value before any is put.
use Rattle.std.specs.Prelude.{◌≡◌, ℕ, true, List, [], Result, Ok, Err}
use Rattle.std.specs.List.{sum_by}
use Rattle.ild_bulk.specs.Children.{Follows}
use Rattle.ild_data.specs.Bytes.{AreBytes}
use Rattle.ild_data.specs.Spell.{spell}
use Rattle.ild_node_slots.specs.declared.fault.HamtFault.{HamtFault}
use Rattle.ild_node_slots.specs.declared.fault.HamtFault.TheVariants as F
use Rattle.ild_schema.specs.declared.number.Slot.{Slot}
use Rattle.ild_schema.specs.declared.row.Row.{Row}
use Rattle.ild_schema.specs.Value.{Value}
use Rattle.ild_typed.specs.Blocks.{nodes}
use Rattle.ild_typed_places.specs.Places.{places_in}
use Rattle.ild_bulk_places.specs.Following.{FollowsIn}
use Rattle.ild_typed.specs.Judged.{exhausts, IsTooLong}
use Rattle.ild_build_blocks.specs.Builds.{HasBlocks}
use Rattle.ild_build_blocks.specs.declared.fault.BuildFault.{BuildFault}
use Rattle.ild_build_blocks.specs.declared.fault.BuildFault.TheVariants as B
use Rattle.ild_build_blocks.specs.declared.planned.Planned.{Planned}

-- each block stands in both lists as often
abbrev pub AreAlike : List (List ℕ) → List (List ℕ) → Type 0
AreAlike xs ys = (f : List ℕ → ℕ) → sum_by f xs ≡ sum_by f ys

-- the block of the representation, and those of the nodes, each behind its children
pub record IsPlanned (h : List ℕ → List ℕ) (rows : List Row) (slot : Slot) (v : Value) (p : Planned) : Type 0 where
  pub has : HasBlocks h rows slot v
  pub spelled : p.block ≡ spell has.tree
  pub alike : AreAlike p.nodes.items (nodes h rows slot v)
  pub follows : Follows [] p.nodes.items
  pub placed : FollowsIn (places_in h rows slot v) [] p.nodes.items

abbrev pub Plans : (List ℕ → List ℕ) → List Row → Slot → Value → Result Planned BuildFault → Type 0
Plans h rows slot v (Ok p) = IsPlanned h rows slot v p
Plans h rows slot v (Err B.Exhausted) = exhausts h rows slot v ≡ true
Plans h rows slot v (Err B.Size) = IsTooLong h rows slot v
Plans h rows slot v (Err B.Memory) = Unit {0}
Plans h rows slot v (Err e) = ⊥

-- what puts of planned blocks may end with
abbrev pub IsPutFault : HamtFault → Type 0
IsPutFault F.Store = Unit {0}
IsPutFault (F.Clash id kept new) = Unit {0}
IsPutFault F.Memory = Unit {0}
IsPutFault fault = ⊥

-- why a put stopped, for a caller
abbrev pub StoppedBy : HamtFault → BuildFault → Type 0
StoppedBy F.Store r = r ≡ B.Store
StoppedBy (F.Clash id kept new) r = (r ≡ B.Clash id kept new) × AreBytes kept × AreBytes new
StoppedBy F.Memory r = r ≡ B.Memory
StoppedBy fault r = ⊥
