-- Which block is refused on the way to a place, over every store.
use Rattle.std.specs.Prelude.{◌≡◌, ℕ, List, Result, Err}
use Rattle.ild_data.specs.Data.{Data}
use Rattle.ild_data.specs.Spell.{id_of}
use Rattle.ild_edges.specs.Store.{Moment}
use Rattle.ild_open_parts.specs.Broken.{HasBrokenBlock}
use Rattle.ild_open_parts.specs.Sites.{IsSite, Site}
use Rattle.ild_path_found.specs.Sites.{IsRefusedAt}
use Rattle.ild_path_place.specs.declared.fault.PathFault.{PathFault}
use Rattle.ild_path_place.specs.declared.fault.PathFault.TheVariants as F
use Rattle.ild_schema.specs.Value.{hamt}
use Rattle.ild_schema.specs.declared.number.Slot.{Slot}
use Rattle.ild_schema.specs.declared.row.Row.{Row}
use Rattle.ild_view.specs.View.{IsView, slot_of}
use Rattle.ild_view.specs.declared.view.View.{View}

-- the holder is this HAMT, whose root stands in the block, and may nest so many levels
pub record IsHolderSite (rows : List Row) (room : ℕ) (holder : View) (block : List ℕ) (z : Site) : Type 0 where
  pub tree : Data
  pub view : IsView holder (hamt tree)
  pub site : IsSite rows room (slot_of holder) tree z
  pub at : z.block ≡ id_of block

abbrev pub RefusesAt : {A : Type 0} → (List ℕ → List ℕ) → List Row → Site → Moment → Result A PathFault → Moment → Type 0
RefusesAt h rows z m (Err (F.Block id why)) n = IsRefusedAt h rows m.blocks m.lacks n.lacks z id.0 why
RefusesAt h rows z m r n = Unit {0}

-- Of data of a slot, which stand in the block `at`: a block is refused only where that block is broken, or one of those that hang on it.
abbrev pub RefusesBroken : {A : Type 0} → (List ℕ → List ℕ) → List Row → List ℕ → ℕ → Slot → Data → Moment → Result A PathFault → Moment → Type 0
RefusesBroken h rows at room s t m (Err (F.Block id why)) n = HasBrokenBlock h rows m.blocks m.lacks n.lacks at room s t id.0 why
RefusesBroken h rows at room s t m r n = Unit {0}
