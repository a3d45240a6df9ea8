-- What is added to a proof along some segments of a path.
use Rattle.std.specs.Prelude.{◌≡◌, ℕ, ◌+◌, ◌≤◌, List, ◌++◌, length, Option, Ok}
use Rattle.ild_edges.specs.Gained.{AreHeld}
use Rattle.ild_edges.specs.Store.{Moment}
use Rattle.ild_edges.specs.Told.{IfTold}
use Rattle.ild_inclusion.specs.Says.{Follows, Outcome}
use Rattle.ild_inclusion.specs.declared.answer.Answer.{Answer}
use Rattle.ild_node_slots.specs.declared.view.NodeView.{NodeView}
use Rattle.ild_schema.specs.Slots.{form_of}
use Rattle.ild_schema.specs.Value.{Value}
use Rattle.ild_schema.specs.declared.row.Row.{Row}
use Rattle.ild_typed.specs.At.{InSlot}
use Rattle.ild_view.specs.Forms.{shape_in}
use Rattle.ild_view.specs.Roots.{RootIs, root_in}
use Rattle.ild_view.specs.View.{IsView, slot_of, table_of}
use Rattle.ild_view.specs.declared.view.View.{View}

abbrev pub IsAnswer : Answer → Outcome → Type 0
IsAnswer a o = o ≡ Ok a

-- the blocks are all of the way of these segments from a value, whatever number its block and the first of them have
abbrev pub FollowsSome : (List ℕ → List ℕ) → List Row → ℕ → InSlot → List (List ℕ) → List (List ℕ) → Type 0
FollowsSome h rows room p path bs = (k i : ℕ) → (a : Answer) × Follows h rows (IsAnswer a) room k i p path bs

-- blocks that were read, each once, are added, and they are the way
pub record AddsWay (h : List ℕ → List ℕ) (rows : List Row) (room : ℕ) (p : InSlot) (path : List (List ℕ)) (before : Moment) (old new : List (List ℕ)) (after : Moment) : Type 0 where
  pub nodes : List (List ℕ)
  pub grown : new ≡ old ++ nodes
  pub held : IfTold before.blocks (AreHeld nodes)
  pub gets : after.gets ≤ before.gets + length nodes
  pub says : FollowsSome h rows room p path nodes

-- what every front of the view says of its root
abbrev pub RootsAre : View → Option NodeView → Type 0
RootsAre view root = (f : Value) → IsView view f → RootIs (shape_in (form_of (table_of view) (slot_of view))) (root_in f) root
