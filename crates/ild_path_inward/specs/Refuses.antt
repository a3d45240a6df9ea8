-- Which block is refused on the way of a path, over every store.
use Rattle.std.specs.Prelude.{◌≡◌, ℕ, ◌≤◌, ◌-◌, List, [], ◌∷◌, length, slice_get, Option, Some, None, Result, Ok, Err}
use Rattle.ild_cbor.specs.declared.why.BlockWhy.{BlockWhy}
use Rattle.ild_data.specs.Data.{Data}
use Rattle.ild_data.specs.Limits.{deepest}
use Rattle.ild_data.specs.Spell.{id_of}
use Rattle.ild_edges.specs.Store.{Moment}
use Rattle.ild_hamt.specs.Descending.{trail_blocks}
use Rattle.ild_node_slots.specs.declared.fault.HamtFault.{HamtFault}
use Rattle.ild_node_slots.specs.declared.fault.HamtFault.TheVariants as F
use Rattle.ild_open_parts.specs.Broken.{HasBrokenBlock}
use Rattle.ild_open_parts.specs.Sites.{HasSite, IsSite, Site}
use Rattle.ild_path_enter.specs.Enters.{MeetsEntry}
use Rattle.ild_path_entry.specs.Entry.{IsEntry}
use Rattle.ild_path_found.specs.Sites.{IsRefusedAt, end_block}
use Rattle.ild_path_hops.specs.declared.hop.Hop.{Hop}
use Rattle.ild_path_inward.specs.Halts.{room_stopped}
use Rattle.ild_path_inward.specs.declared.halt.Halt.{Halt}
use Rattle.ild_path_inward.specs.declared.inward.Inward.{Inward}
use Rattle.ild_path_inward.specs.declared.level.Level.{Level}
use Rattle.ild_path_inward.specs.declared.level.Level.TheVariants as L
use Rattle.ild_schema.specs.Value.{Value, hamt}
use Rattle.ild_schema.specs.declared.number.Slot.{Slot}
use Rattle.ild_schema.specs.declared.row.Row.{Row}
use Rattle.ild_typed.specs.At.{InSlot}
use Rattle.ild_typed.specs.Fits.{Front}
use Rattle.ild_view.specs.View.{IsView, slot_of}
use Rattle.ild_view.specs.declared.view.View.{View}

-- ---- a HAMT at which a path halts

-- it is this one, whose root stands in the block
pub record HaltsAtSite (rows : List Row) (halt : Halt) (block : List ℕ) (z : Site) : Type 0 where
  pub tree : Data
  pub view : IsView halt.view (hamt tree)
  pub site : IsSite rows halt.room (slot_of halt.view) tree z
  pub low : halt.room ≤ deepest
  pub at : z.block ≡ id_of block

abbrev pub MeetsHamt : (List ℕ → List ℕ) → List Row → List ℕ → List ℕ → Site → Moment → Result Level HamtFault → Moment → Type 0
MeetsHamt h rows block k z m (Ok (L.Passes hop behind less)) n = (less ≡ z.room) × MeetsEntry rows m.blocks z (id_of (end_block block (trail_blocks hop.trail))) k hop.entry
MeetsHamt h rows block k z m (Ok (L.Stops s)) n = Unit {0}
MeetsHamt h rows block k z m (Err (F.Block id why)) n = IsRefusedAt h rows m.blocks m.lacks n.lacks z id.0 why
MeetsHamt h rows block k z m (Err e) n = Unit {0}

-- ---- a block

-- in data of a slot there is a HAMT, in an entry of which the hop's value stands, with the room that the HAMT leaves
pub record PassesInto (rows : List Row) (told : Option (List (List ℕ))) (block : List ℕ) (room : ℕ) (s : Slot) (t : Data) (hop : Hop) (less : ℕ) : Type 0 where
  pub steps : ℕ
  pub site : Site
  pub has : HasSite rows steps room s t site
  pub here : site.block ≡ id_of block
  pub left : less ≡ site.room
  pub key : List ℕ
  pub entry : MeetsEntry rows told site (id_of (end_block block (trail_blocks hop.trail))) key hop.entry

abbrev pub MeetsLevel : (List ℕ → List ℕ) → List Row → List ℕ → ℕ → Slot → Data → Moment → Result Level HamtFault → Moment → Type 0
MeetsLevel h rows block room s t m (Ok (L.Passes hop behind less)) n = PassesInto rows m.blocks block room s t hop less
MeetsLevel h rows block room s t m (Ok (L.Stops stand)) n = Unit {0}
MeetsLevel h rows block room s t m (Err (F.Block id why)) n = HasBrokenBlock h rows m.blocks m.lacks n.lacks (id_of block) room s t id.0 why
MeetsLevel h rows block room s t m (Err e) n = Unit {0}

-- where the path stops there is the room that is left of the block's
abbrev pub LeavesRoom : List Row → ℕ → InSlot → Result Level HamtFault → Type 0
LeavesRoom rows room p (Ok (L.Stops s)) = s.room ≡ room_stopped rows room p s.front
LeavesRoom rows room p (Ok (L.Passes hop behind less)) = Unit {0}
LeavesRoom rows room p (Err e) = Unit {0}

abbrev pub RoomIs : ℕ → Result Level HamtFault → Type 0
RoomIs room (Ok (L.Stops s)) = s.room ≡ room
RoomIs room (Ok (L.Passes hop behind less)) = Unit {0}
RoomIs room (Err e) = Unit {0}

-- ---- behind hops

-- the block in which the value of the last entry stands, of hops that begin in this one
abbrev pub block_behind : List ℕ → List Hop → List ℕ
block_behind block [] = block
block_behind block (hop ∷ hops) = block_behind (end_block block (trail_blocks hop.trail)) hops

-- the data of the last hop's entry, or with no hop of the root, and their front
pub record IsDataBehind (rows : List Row) (root : View) (hops : List Hop) (room : ℕ) (s : Slot) (t : Data) (f : Value) : Type 0 where
  pub front : Front rows room s f t
  pub low : room ≤ deepest
  pub top : None ≡ slice_get hops (length hops - 1) → (slot_of root ≡ s) × IsView root f
  pub inner : (hop : Hop) → Some hop ≡ slice_get hops (length hops - 1) → IsEntry rows s room t hop.entry

-- the data in which a path stops behind its hops: what is broken in them is broken in those from which it begins, which stand in the block `at`
pub record GoesDeeper (h : List ℕ → List ℕ) (rows : List Row) (told : Option (List (List ℕ))) (root : View) (block at : List ℕ) (room : ℕ) (s : Slot) (t : Data) (r : Inward) : Type 0 where
  pub less : ℕ
  pub slot : Slot
  pub tree : Data
  pub value : Value
  pub behind : IsDataBehind rows root r.hops.items less slot tree value
  pub room_is : r.room ≡ room_stopped rows less (slot, value) r.front
  pub carries : (before now : ℕ) (id : List ℕ) (why : BlockWhy) → HasBrokenBlock h rows told before now (id_of (block_behind block r.hops.items)) less slot tree id why
      → HasBrokenBlock h rows told before now at room s t id why
