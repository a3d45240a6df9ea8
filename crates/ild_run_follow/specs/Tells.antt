-- What is answered of the part to which a path leads, where a store tells what it holds and holds the value; and what is asked of the store.
use Rattle.std.specs.Prelude.{◌≡◌, ℕ, ◌+◌, ◌≤◌, true, false, cond, List, [], length, Option, Some, None, Result, Ok, Err, option_map}
use Rattle.std.specs.Option.{option_map_or}
use Rattle.ild_data.specs.Data as D
use Rattle.ild_data.specs.Data.{Data}
use Rattle.ild_data.specs.Limits.{deepest}
use Rattle.ild_data.specs.Seen.{data_of}
use Rattle.ild_data.specs.declared.tree.Tree.{Tree}
use Rattle.ild_edges.specs.Count.{Rose}
use Rattle.ild_edges.specs.Store.{Moment}
use Rattle.ild_typed_fronts.specs.Front.{is_root}
use Rattle.ild_open_parts.specs.Reads.{OnlyReads}
use Rattle.ild_script_meaning.specs.Costs.{met_in}
use Rattle.ild_open.specs.Loaded.{IsValueAt}
use Rattle.ild_schema.specs.Slots.{form_of}
use Rattle.ild_schema.specs.Value.{Value}
use Rattle.ild_schema.specs.ValueSeen.{value_of}
use Rattle.ild_schema.specs.declared.number.Slot.{Slot}
use Rattle.ild_schema.specs.declared.row.Row.{Row}
use Rattle.ild_schema.specs.declared.val.Val.{Val}
use Rattle.ild_typed.specs.At.{InSlot, at, met}
use Rattle.ild_typed.specs.Blocks.{nodes}
use Rattle.ild_view.specs.Body.{BodyStands}
use Rattle.ild_view.specs.View.{body_of, slot_of, table_of}
use Rattle.ild_view.specs.declared.view.View.{View}
use Rattle.ild_run_follow.specs.Told.{is_loaded, told}
use Rattle.ild_run_follow.specs.declared.fault.ReadFault.{ReadFault}
use Rattle.ild_run_follow.specs.declared.fault.ReadFault.TheVariants as F
use Rattle.ild_run_follow.specs.declared.kind.Tell.{Tell}
use Rattle.ild_run_follow.specs.declared.kind.Tell.TheVariants as T

-- that the store failed is told only where it did, of every store
abbrev pub FailsOnly : {A : Type 0} → Moment → Result A ReadFault → Moment → Type 0
FailsOnly m (Ok x) n = Unit {0}
FailsOnly m (Err F.Store) n = Rose m.faults n.faults
FailsOnly m (Err e) n = Unit {0}

-- what is due is told; a block is never refused
abbrev pub TellAnswer : Option Data → Moment → Result Tree ReadFault → Moment → Type 0
TellAnswer due m (Ok tree) n = due ≡ Some (data_of tree)
TellAnswer due m (Err F.Path) n = due ≡ None
TellAnswer due m (Err (F.Block id why)) n = ⊥
TellAnswer due m (Err F.Store) n = Rose m.faults n.faults
TellAnswer due m (Err F.Memory) n = Unit {0}

-- where a path leads nowhere
abbrev pub TellsNothing : Tell → Result Tree ReadFault → Type 0
TellsNothing T.Presence (Ok tree) = data_of tree ≡ D.boolean false
TellsNothing T.Presence (Err e) = ⊥
TellsNothing tell (Ok tree) = ⊥
TellsNothing tell (Err e) = e ≡ F.Path

-- what a HAMT counts for a key that is sought in it
abbrev pub counts : (List ℕ → List ℕ) → List Row → InSlot → List ℕ → ℕ
counts h rows p k = met_in h rows (form_of rows p.0) p.1 k

-- the nodes that are read of a part
abbrev pub part_nodes : (List ℕ → List ℕ) → List Row → Tell → Option InSlot → ℕ
part_nodes h rows tell o = cond (is_loaded tell) (option_map_or (λ q. length (nodes h rows q.0 q.1)) o 0) 0

-- a value that is held at a view and nests so many levels at most, where the store tells
pub record ViewHolds (h : List ℕ → List ℕ) (room : ℕ) (view : View) (m : Moment) (t : Data) (v : Value) : Type 0 where
  pub held : List (List ℕ)
  pub told : m.blocks ≡ Some held
  pub stands : BodyStands (table_of view) (body_of view) t
  pub value : IsValueAt h held room view t v

-- one that nests no deeper than any may
abbrev pub ViewIsHeld : (List ℕ → List ℕ) → View → Moment → Data → Value → Type 0
ViewIsHeld h view m t v = ViewHolds h deepest view m t v

pub record TellsFrom (h : List ℕ → List ℕ) (room : ℕ) (view : View) (path : List (List ℕ)) (tell : Tell) (m : Moment) (result : Result Tree ReadFault) (n : Moment) : Type 0 where
  pub answer : (t : Data) (v : Value) → ViewHolds h room view m t v → TellAnswer (told h (table_of view) tell (at (table_of view) (slot_of view, v) path)) m result n
  pub gets : (t : Data) (v : Value) → ViewHolds h room view m t v
      → n.gets ≤ m.gets + (met (table_of view) (counts h (table_of view)) (slot_of view, v) path + part_nodes h (table_of view) tell (at (table_of view) (slot_of view, v) path))
  pub only : OnlyReads m n
  pub failed : FailsOnly m result n

abbrev pub TellsHere : (List ℕ → List ℕ) → ℕ → View → Tell → Moment → Result Tree ReadFault → Moment → Type 0
TellsHere h room view tell m result n = TellsFrom h room view [] tell m result n

-- of the root of a HAMT
pub record TellsIn (h : List ℕ → List ℕ) (room : ℕ) (view : View) (path : List (List ℕ)) (tell : Tell) (m : Moment) (result : Result Tree ReadFault) (n : Moment) : Type 0 where
  pub answer : (t : Data) (v : Value) → ViewHolds h room view m t v → is_root (table_of view) (slot_of view, v) ≡ true
      → TellAnswer (told h (table_of view) tell (at (table_of view) (slot_of view, v) path)) m result n
  pub gets : (t : Data) (v : Value) → ViewHolds h room view m t v → is_root (table_of view) (slot_of view, v) ≡ true
      → n.gets ≤ m.gets + (met (table_of view) (counts h (table_of view)) (slot_of view, v) path + part_nodes h (table_of view) tell (at (table_of view) (slot_of view, v) path))
  pub only : OnlyReads m n
  pub failed : FailsOnly m result n

-- ---- loading

abbrev pub LoadAnswer : Value → Moment → Result Val ReadFault → Moment → Type 0
LoadAnswer v m (Ok val) n = value_of val ≡ v
LoadAnswer v m (Err F.Path) n = ⊥
LoadAnswer v m (Err (F.Block id why)) n = ⊥
LoadAnswer v m (Err F.Store) n = Rose m.faults n.faults
LoadAnswer v m (Err F.Memory) n = Unit {0}

pub record LoadsPart (h : List ℕ → List ℕ) (room : ℕ) (view : View) (m : Moment) (result : Result Val ReadFault) (n : Moment) : Type 0 where
  pub answer : (t : Data) (v : Value) → ViewHolds h room view m t v → LoadAnswer v m result n
  pub gets : (t : Data) (v : Value) → ViewHolds h room view m t v → n.gets ≤ m.gets + length (nodes h (table_of view) (slot_of view) v)
  pub only : OnlyReads m n
  pub failed : FailsOnly m result n

-- what is told of a value, with whichever hash
abbrev pub ToldBy : List Row → Slot → Val → Tell → Option Tree → Type 0
ToldBy rows slot val tell o = (h : List ℕ → List ℕ) → is_loaded tell ≡ true → option_map data_of o ≡ told h rows tell (Some (slot, value_of val))
