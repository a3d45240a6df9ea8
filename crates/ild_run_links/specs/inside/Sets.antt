-- A link in the value of a root block set to another block.
use Rattle.std.specs.Prelude.{◌≡◌, ℕ, ◌+◌, ◌≤◌, true, List, Some, IsSome, option_and_then, Contains, length, Result, Ok, Err}
use Rattle.std.specs.List.{AllByRecursion}
use Rattle.ild_data.specs.Limits.{longest_block}
use Rattle.ild_data.specs.Spell.{id_of}
use Rattle.ild_data.specs.declared.id.BlockId.{BlockId}
use Rattle.ild_edges.specs.Collide.{Collide}
use Rattle.ild_edges.specs.Count.{Rose}
use Rattle.ild_edges.specs.Gained.{AddsOnly, AddsWhole, OnlyReads}
use Rattle.ild_edges.specs.Store.{Moment, Later, block_at}
use Rattle.ild_edges.specs.Told.{IfTold}
use Rattle.ild_links.specs.Trees.{followed}
use Rattle.ild_links.specs.declared.hop.Hop.{Hop}
use Rattle.ild_path.specs.Replaces.{IsPlaceOf}
use Rattle.ild_path_inward.specs.Levels.{counts, met_on}
use Rattle.ild_path_place.specs.Tells.{table_at}
use Rattle.ild_path_place.specs.declared.place.Place.{Place}
use Rattle.ild_path_place.specs.declared.verb.Verb.TheVariants as V
use Rattle.ild_run_links.specs.Links.{link_to, relinked}
use Rattle.ild_run_links.specs.Trees.{blocks_in}
use Rattle.ild_run_links.specs.declared.fault.TreeFault.{TreeFault}
use Rattle.ild_run_links.specs.declared.fault.TreeFault.TheVariants as F
use Rattle.ild_schema.specs.Slots.{plainly}
use Rattle.ild_schema.specs.Value.{Value}
use Rattle.ild_schema.specs.declared.number.TypeNo.{TypeNo}
use Rattle.ild_schema.specs.declared.row.Row.{Row}
use Rattle.ild_typed.specs.At.{at, way}
use Rattle.ild_typed.specs.Stands.{Stands, bare}
use Rattle.ild_typed_places.specs.Places.{children_in}
use Rattle.ild_view_doc.specs.Docs.{block_in, table_in, type_in}
use Rattle.ild_view_doc.specs.declared.doc.Doc.{Doc}

-- ---- the root block

abbrev pub RootAnswer : List Row → TypeNo → List ℕ → Moment → Result Doc TreeFault → Moment → Type 0
RootAnswer rows ty id m (Ok d) n = (table_in d ≡ rows) × (type_in d ≡ ty) × (id_of (block_in d) ≡ id) × IfTold m.blocks (λ held. block_at held id ≡ Some (block_in d))
RootAnswer rows ty id m (Err F.Block) n = (h : List ℕ → List ℕ) (held : List (List ℕ)) (v : Value) → m.blocks ≡ Some held → Stands bare (block_at held) h rows ty id v → ⊥
RootAnswer rows ty id m (Err F.Store) n = Rose m.faults n.faults
RootAnswer rows ty id m (Err (F.Clash at kept new)) n = ⊥
RootAnswer rows ty id m (Err F.Memory) n = Unit {0}

-- the root block of a type under an id, by one get
pub record ReadsRoot (rows : List Row) (ty : TypeNo) (id : List ℕ) (m : Moment) (result : Result Doc TreeFault) (n : Moment) : Type 0 where
  pub answer : RootAnswer rows ty id m result n
  pub reads : OnlyReads m n
  pub gets : n.gets ≤ m.gets + 1

-- ---- the link

-- over every store
abbrev pub SetCause : Moment → TreeFault → Moment → Type 0
SetCause m F.Block n = Unit {0}
SetCause m F.Store n = Rose m.faults n.faults
SetCause m (F.Clash at kept new) n = Collide kept new × (at.0 ≡ id_of new)
SetCause m F.Memory n = Unit {0}

abbrev pub Causes : Moment → Result BlockId TreeFault → Moment → Type 0
Causes m (Ok root) n = Unit {0}
Causes m (Err e) n = SetCause m e n

-- where the store tells and holds the value v, of which the changed value is c
abbrev pub SetAnswer : (List ℕ → List ℕ) → List Row → TypeNo → Value → Result BlockId TreeFault → Moment → Type 0
SetAnswer h rows n c (Ok root) k = IfTold k.blocks (λ now. Stands bare (block_at now) h rows n root.0 c)
SetAnswer h rows n c (Err F.Block) k = ⊥
SetAnswer h rows n c (Err F.Store) k = Unit {0}
SetAnswer h rows n c (Err (F.Clash at kept new)) k = Contains (blocks_in h rows n c) new × IfTold k.blocks (λ now. block_at now (id_of kept) ≡ Some kept)
SetAnswer h rows n c (Err F.Memory) k = Unit {0}

pub record SetsThere (h : List ℕ → List ℕ) (rows : List Row) (n : TypeNo) (v : Value) (path : List (List ℕ)) (new : List ℕ) (m : Moment) (result : Result BlockId TreeFault) (k : Moment) : Type 0 where
  pub answer : SetAnswer h rows n (relinked rows (plainly n, v) path new) result k
  pub adds : AddsOnly m k (blocks_in h rows n (relinked rows (plainly n, v) path new))
  pub whole : AddsWhole m k (children_in bare h rows n (relinked rows (plainly n, v) path new))
  pub gets : k.gets ≤ m.gets + met_on h rows (plainly n, v) path
  pub puts : k.puts ≤ m.puts + way rows (counts h rows) (plainly n, v) path

pub record SetsLink (h : List ℕ → List ℕ) (d : Doc) (path : List (List ℕ)) (new : List ℕ) (m : Moment) (result : Result BlockId TreeFault) (k : Moment) : Type 0 where
  pub later : Later m k
  pub cause : Causes m result k
  pub told : (was : List (List ℕ)) (v : Value) → m.blocks ≡ Some was → block_at was (id_of (block_in d)) ≡ Some (block_in d)
      → Stands bare (block_at was) h (table_in d) (type_in d) (id_of (block_in d)) v → IsSome (option_and_then (link_to (table_in d)) (at (table_in d) (plainly (type_in d), v) path))
      → SetsThere h (table_in d) (type_in d) v path new m result k

-- ---- the place

-- a link to another block comes to a place at which a link of a type of links to a block stands, of a value that the store holds
abbrev pub PutsThere : (List ℕ → List ℕ) → Place → List ℕ → Moment → Result BlockId TreeFault → Moment → Type 0
PutsThere h place new m result k =
    (was : List (List ℕ)) (n : TypeNo) (v : Value) (path : List (List ℕ)) → m.blocks ≡ Some was → IsPlaceOf h (table_at place) was n v path V.Set place
    → IsSome (option_and_then (link_to (table_at place)) (at (table_at place) (plainly n, v) path))
    → AllByRecursion (λ b. length b ≤ longest_block) (blocks_in h (table_at place) n v) → SetsThere h (table_at place) n v path new m result k

pub record PutsLink (h : List ℕ → List ℕ) (place : Place) (new : List ℕ) (m : Moment) (result : Result BlockId TreeFault) (k : Moment) : Type 0 where
  pub later : Later m k
  pub cause : Causes m result k
  pub gets : k.gets ≡ m.gets
  pub told : PutsThere h place new m result k

-- ---- a tree

-- a hop that is the first one names the document's tree
abbrev pub IsFirstOf : Doc → Hop → Type 0
IsFirstOf d hop = hop.first ≡ true → (type_in d ≡ hop.ty) × (id_of (block_in d) ≡ hop.id.0)

-- what setting the link in a tree's value leaves, where the store tells and holds the value
pub record SetsValue (h : List ℕ → List ℕ) (rows : List Row) (n : TypeNo) (v : Value) (path : List (List ℕ)) (new : List ℕ) (m : Moment) (result : Result BlockId TreeFault) (k : Moment) : Type 0 where
  pub answer : SetAnswer h rows n (relinked rows (plainly n, v) path new) result k
  pub adds : AddsOnly m k (blocks_in h rows n (relinked rows (plainly n, v) path new))
  pub whole : AddsWhole m k (children_in bare h rows n (relinked rows (plainly n, v) path new))
  pub gets : k.gets ≤ m.gets + way rows (counts h rows) (plainly n, v) path
  pub puts : k.puts ≤ m.puts + way rows (counts h rows) (plainly n, v) path

pub record SetsTree (h : List ℕ → List ℕ) (rows : List Row) (path : List (List ℕ)) (hop : Hop) (new : List ℕ) (m : Moment) (result : Result BlockId TreeFault) (k : Moment) : Type 0 where
  pub later : Later m k
  pub cause : Causes m result k
  pub told : (was : List (List ℕ)) (v : Value) → m.blocks ≡ Some was → Stands bare (block_at was) h rows hop.ty hop.id.0 v → IsSome (option_and_then (link_to rows) (at rows (plainly hop.ty, v) (followed path hop)))
      → SetsValue h rows hop.ty v (followed path hop) new m result k
