-- Where a path stops in a value that a store holds.
use Rattle.std.specs.Prelude.{◌≡◌, ℕ, ◌+◌, ◌-◌, ◌≤◌, true, List, [], length, drop, Option, Some, None, Result, Ok, Err, IfOk}
use Rattle.ild_data.specs.Data.{Data}
use Rattle.ild_data.specs.Spell.{id_of}
use Rattle.ild_data.specs.declared.id.BlockId.{BlockId}
use Rattle.ild_edges.specs.Count.{Rose}
use Rattle.ild_edges.specs.Gained.{OnlyReads}
use Rattle.ild_edges.specs.Store.{Moment, block_at}
use Rattle.ild_links.specs.Stops.{IsPlaced, link_of}
use Rattle.ild_links.specs.declared.hop.Stop.{Stop}
use Rattle.ild_links.specs.declared.hop.Stop.TheVariants as S
use Rattle.ild_path_edits.specs.Stop.{stopped}
use Rattle.ild_path_inward.specs.Inwards.{CanGoOn}
use Rattle.ild_path_inward.specs.Levels.{met_on}
use Rattle.ild_path_inward.specs.declared.inward.Inward.{Inward}
use Rattle.ild_run_links.specs.Links.{link_to}
use Rattle.ild_run_links.specs.declared.fault.TreeFault.{TreeFault}
use Rattle.ild_run_links.specs.declared.fault.TreeFault.TheVariants as F
use Rattle.ild_schema.specs.Slots.{plainly}
use Rattle.ild_schema.specs.Value.{Value}
use Rattle.ild_schema.specs.declared.number.TypeNo.{TypeNo}
use Rattle.ild_schema.specs.declared.row.Row.{Row}
use Rattle.ild_typed.specs.At.{InSlot, at}
use Rattle.ild_typed.specs.Stands.{Stands, bare}
use Rattle.ild_typed_fronts.specs.Front.{in_one_block}
use Rattle.ild_view.specs.View.{table_of}
use Rattle.ild_view.specs.declared.view.View.{View}
use Rattle.ild_view_doc.specs.Docs.{block_in, table_in, type_in}
use Rattle.ild_view_doc.specs.declared.doc.Doc.{Doc}

-- a link, by the bytes of the id
abbrev pub named : TypeNo × BlockId → TypeNo × List ℕ
named l = (l.0, l.1.0)

-- the link at which it stops with segments left
abbrev pub link_unless : List (List ℕ) → List Row → InSlot → Option (TypeNo × List ℕ)
link_unless [] rows q = None
link_unless left rows q = link_to rows q

-- the number of the segment at which it stops, and the link there
pub record StopsIn (rows : List Row) (p : InSlot) (path : List (List ℕ)) (from : ℕ) (s : Stop) (upto : ℕ) : Type 0 where
  pub link : link_of s ≡ link_unless (stopped rows p path).left rows (stopped rows p path).part
  pub place : upto ≡ from + (length path - length (stopped rows p path).left)

abbrev pub StopInAnswer : List Row → InSlot → List (List ℕ) → ℕ → Moment → Result (Stop × ℕ) TreeFault → Moment → Type 0
StopInAnswer rows p path from m (Ok r) n = StopsIn rows p path from r.0 r.1
StopInAnswer rows p path from m (Err F.Store) n = Rose m.faults n.faults
StopInAnswer rows p path from m (Err F.Memory) n = Unit {0}
StopInAnswer rows p path from m (Err e) n = ⊥

-- on a store that tells and holds the value
pub record StopsThere (h : List ℕ → List ℕ) (rows : List Row) (p : InSlot) (path : List (List ℕ)) (from : ℕ) (m : Moment) (result : Result (Stop × ℕ) TreeFault) (n : Moment) : Type 0 where
  pub answer : StopInAnswer rows p path from m result n
  pub gets : n.gets ≤ m.gets + met_on h rows p path

-- a path led so far from a root view, and stops there: on every content
pub record StopsInward (root : View) (r : Inward) (from count : ℕ) (s : Stop) (upto : ℕ) : Type 0 where
  pub placed : (path : List (List ℕ)) → length path ≡ from + count → IsPlaced (length (table_of root)) path from s upto
  pub place : upto ≡ from + (count - length r.left.now)
  pub ended : r.left.now ≡ [] → s ≡ S.End
  pub link : (h : List ℕ → List ℕ) (was : List (List ℕ)) (room : ℕ) (q holder : InSlot) (t : Data) → CanGoOn h (table_of root) was room q t root r.hops.items
      → in_one_block (table_of root) q r.front ≡ true → at (table_of root) q r.front ≡ Some holder → (r.left.now ≡ [] → ⊥) → link_of s ≡ link_to (table_of root) holder

-- over every store: it failed only where faults rose; and nothing is put
abbrev pub FailsOnly : {A : Type 0} → Moment → Result A TreeFault → Moment → Type 0
FailsOnly m (Ok x) n = Unit {0}
FailsOnly m (Err F.Store) n = Rose m.faults n.faults
FailsOnly m (Err (F.Clash at kept new)) n = ⊥
FailsOnly m (Err e) n = Unit {0}

-- where a path stops in the value of a document, from a segment on: by gets alone
pub record StopsInDoc (h : List ℕ → List ℕ) (d : Doc) (path : List (List ℕ)) (from : ℕ) (m : Moment) (result : Result (Stop × ℕ) TreeFault) (n : Moment) : Type 0 where
  pub reads : OnlyReads m n
  pub failed : FailsOnly m result n
  pub placed : IfOk result (λ r. IsPlaced (length (table_in d)) path from r.0 r.1)
  pub told : (was : List (List ℕ)) (v : Value) → m.blocks ≡ Some was → block_at was (id_of (block_in d)) ≡ Some (block_in d)
      → Stands bare (block_at was) h (table_in d) (type_in d) (id_of (block_in d)) v → StopsThere h (table_in d) (plainly (type_in d), v) (drop from path) from m result n
