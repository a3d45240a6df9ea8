-- What becomes of a path in one block of a value that is held: it stops, or it passes through an entry of a HAMT.
use Rattle.std.specs.Borrow.{Bor}
use Rattle.std.specs.Prelude.{◌≡◌, ◌<◌, ℕ, ◌+◌, ◌≤◌, true, List, [], ◌∷◌, ◌++◌, length, Option, Some, None, Result, Ok, Err}
use Rattle.ild_data.specs.Data.{Data}
use Rattle.ild_data.specs.Limits.{deepest}
use Rattle.ild_edges.specs.Count.{Rose}
use Rattle.ild_edges.specs.Store.{Moment, block_at}
use Rattle.ild_node_slots.specs.declared.fault.HamtFault.{HamtFault}
use Rattle.ild_node_slots.specs.declared.fault.HamtFault.TheVariants as F
use Rattle.ild_open_held.specs.Held.{IsHeld}
use Rattle.ild_path_edits.specs.Stop.{stopped}
use Rattle.ild_path_entered.specs.Entered.{IsEntered}
use Rattle.ild_path_entry.specs.Entry.{table_in}
use Rattle.ild_path_held.specs.HeldEdits.{room_at}
use Rattle.ild_path_hops.specs.Hops.{IsHop, front_of, key_of}
use Rattle.ild_path_hops.specs.Links.{IsPartAt, IsRootAt, PartBehind, RootBehind}
use Rattle.ild_path_hops.specs.declared.hop.Hop.{Hop}
use Rattle.ild_path_inward.specs.declared.halt.Halt.{Halt}
use Rattle.ild_path_inward.specs.declared.level.Level.{Level}
use Rattle.ild_path_inward.specs.declared.level.Level.TheVariants as L
use Rattle.ild_path_inward.specs.declared.level.Stand.{Stand}
use Rattle.ild_schema.specs.declared.number.Slot.{Slot}
use Rattle.ild_schema.specs.declared.row.Row.{Row}
use Rattle.ild_schema.specs.Slots.{form_of}
use Rattle.ild_schema.specs.Value.{Pairs, hamt, map}
use Rattle.ild_script_meaning.specs.Costs.{met_in}
use Rattle.ild_typed.specs.At.{InSlot, at, met}
use Rattle.ild_typed.specs.Schema.{IsSchema}
use Rattle.ild_typed_fronts.specs.Front.{front_in, in_one_block}
use Rattle.ild_view.specs.Parts.{IsPartView}
use Rattle.ild_view.specs.View.{IsView, slot_of}
use Rattle.ild_view.specs.declared.view.View.{View}

-- ---- where a path stops at a HAMT

-- the key and what is behind it, where a root is there and a segment is left
abbrev pub KeyIs : Option Data → List (List ℕ) → Option (Bor (List ℕ) × Bor (List (List ℕ))) → Type 0
KeyIs None left None = Unit {0}
KeyIs None left (Some r) = ⊥
KeyIs (Some t) left None = left ≡ []
KeyIs (Some t) left (Some r) = left ≡ r.0.now ∷ r.1.now

abbrev pub IsBehind : ℕ → Option (Bor (List ℕ) × Bor (List (List ℕ))) → Type 0
IsBehind n None = Unit {0}
IsBehind n (Some r) = length r.1.now < n

-- what a HAMT counts for a key that is sought in it
abbrev pub counts : (List ℕ → List ℕ) → List Row → InSlot → List ℕ → ℕ
counts h rows p k = met_in h rows (form_of rows p.0) p.1 k

abbrev pub met_on : (List ℕ → List ℕ) → List Row → InSlot → List (List ℕ) → ℕ
met_on h rows p path = met rows (counts h rows) p path

-- fewer segments are left behind an entry
abbrev pub Shortens : ℕ → Result Level HamtFault → Type 0
Shortens n (Ok (L.Passes hop behind room)) = length behind.now < n
Shortens n r = Unit {0}

-- its entry is one under this schema
abbrev pub IsUnder : List Row → Hop → Type 0
IsUnder rows hop = table_in hop.entry ≡ rows

abbrev pub PassesUnder : List Row → Result Level HamtFault → Type 0
PassesUnder rows (Ok (L.Passes hop behind room)) = IsUnder rows hop
PassesUnder rows r = Unit {0}

-- ---- where it leads, which no store says

abbrev pub FrontIs : List (List ℕ) → Result Level HamtFault → Type 0
FrontIs front (Ok (L.Stops s)) = s.front ≡ front
FrontIs front (Ok (L.Passes hop behind room)) = front_of hop ≡ front
FrontIs front (Err e) = Unit {0}

-- to a part of the front, and where the path passes on to the root of a HAMT
abbrev pub LevelLeads : List Row → InSlot → Result Level HamtFault → Type 0
LevelLeads rows p (Ok (L.Stops s)) = IsPartAt rows p s.front
LevelLeads rows p (Ok (L.Passes hop behind room)) = IsRootAt rows p (front_of hop)
LevelLeads rows p (Err e) = Unit {0}

abbrev pub LevelBehind : View → List Hop → Result Level HamtFault → Type 0
LevelBehind root hops (Ok (L.Stops s)) = PartBehind root hops s.front
LevelBehind root hops (Ok (L.Passes hop behind room)) = RootBehind root hops (front_of hop)
LevelBehind root hops (Err e) = Unit {0}

-- ---- what is known of a block, and what is answered

-- the value p, of these data, is held, and this is the view of its front
pub record CanGo (h : List ℕ → List ℕ) (rows : List Row) (was : List (List ℕ)) (room : ℕ) (p : InSlot) (t : Data) (view : View) : Type 0 where
  pub schema : IsSchema rows
  pub low : room ≤ deepest
  pub held : IsHeld (block_at was) h rows room p.0 t p.1
  pub stands : IsPartView rows (front_in h rows p) view

-- the path stops at this part, which stands in the block of p
pub record StopsAt (rows : List Row) (room : ℕ) (p : InSlot) (path : List (List ℕ)) (holder : InSlot) (s : Stand) : Type 0 where
  pub inside : in_one_block rows p s.front ≡ true
  pub there : at rows p s.front ≡ Some holder
  pub split : path ≡ s.front ++ s.left.now
  pub stops : stopped rows p path ≡ record { part = holder; left = s.left.now }
  pub room_is : s.room ≡ room_at rows room p s.front

-- the path passes through the entry to q
pub record PassesTo (h : List ℕ → List ℕ) (rows : List Row) (was : List (List ℕ)) (room : ℕ) (p : InSlot)
    (path : List (List ℕ)) (hop : Hop) (behind : List (List ℕ)) (q : InSlot) (less : ℕ) : Type 0 where
  pub is : IsHop h rows was room p hop q less
  pub split : path ≡ front_of hop ++ (key_of hop ∷ behind)

abbrev pub GoesIn : (List ℕ → List ℕ) → List Row → List (List ℕ) → ℕ → InSlot → List (List ℕ) → Moment → Result Level HamtFault → Moment → Type 0
GoesIn h rows was room p path m (Ok (L.Stops s)) n = ((holder : InSlot) × StopsAt rows room p path holder s) × (n.gets ≤ m.gets + met_on h rows p path)
GoesIn h rows was room p path m (Ok (L.Passes hop behind less)) n =
    (q : InSlot) × PassesTo h rows was room p path hop behind.now q less × (n.gets + met_on h rows q behind.now ≤ m.gets + met_on h rows p path)
GoesIn h rows was room p path m (Err F.Store) n = Rose m.faults n.faults × (n.gets ≤ m.gets + met_on h rows p path)
GoesIn h rows was room p path m (Err F.Memory) n = n.gets ≤ m.gets + met_on h rows p path
GoesIn h rows was room p path m (Err e) n = ⊥

-- ---- a HAMT in the block

-- the path stops at a HAMT, whose key is the next segment
pub record CanEnterAt (h : List ℕ → List ℕ) (rows : List Row) (was : List (List ℕ)) (room : ℕ) (p : InSlot)
    (path front : List (List ℕ)) (key : List ℕ) (behind : List (List ℕ)) (halt : Halt) : Type 0 where
  pub elem : Slot
  pub ps : Pairs
  pub tree : Data
  pub schema : IsSchema rows
  pub low : halt.room ≤ deepest
  pub view : IsView halt.view (hamt tree)
  pub entered : IsEntered rows p front (slot_of halt.view) elem ps
  pub held : IsHeld (block_at was) h rows halt.room (slot_of halt.view) tree (map ps)
  pub left : halt.left.now ≡ key ∷ behind
  pub split : path ≡ front ++ (key ∷ behind)
  pub stops : (holder : InSlot) → at rows p front ≡ Some holder → stopped rows p path ≡ stopped rows holder (key ∷ behind)
  pub counts : met_on h rows p path ≡ met_on h rows (slot_of halt.view, map ps) (key ∷ behind)
  pub room_is : halt.room ≡ room_at rows room p front
