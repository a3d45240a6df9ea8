-- What opening the document from which a script starts answers, and what it leaves of the store.
use Rattle.std.specs.Prelude.{◌≡◌, ℕ, ◌+◌, ◌≤◌, List, [], ◌∷◌, length, Some, None, Result, Ok, Err}
use Rattle.ild_cbor.specs.declared.why.BlockWhy.{BlockWhy}
use Rattle.ild_data.specs.Spell.{id_of}
use Rattle.ild_edges.specs.Count.{Rose}
use Rattle.ild_edges.specs.Store.{Moment, Later, block_at}
use Rattle.ild_schema.specs.Value.{Value}
use Rattle.ild_schema.specs.declared.number.TypeNo.{TypeNo}
use Rattle.ild_schema.specs.declared.row.Row.{Row}
use Rattle.ild_script_session.specs.Step.{AddsOnly, Collides}
use Rattle.ild_typed.specs.Stands.{bare, blocks_of, Stands}
use Rattle.ild_open_parts.specs.Reads.{OnlyReads}
use Rattle.ild_open.specs.Broken.{IsRefused}
use Rattle.ild_open.specs.Opened.{NoneStands, StandsInBlock}
use Rattle.ild_view_doc.specs.Docs.{block_in, table_in, type_in}
use Rattle.ild_view_doc.specs.declared.doc.Doc.{Doc}
use Rattle.ild_run_open.specs.Empty.{IsEmpty, empty_of, empty_blocks}
use Rattle.ild_run_open.specs.declared.start.Start.{Start}
use Rattle.ild_run_open.specs.declared.start.Start.TheVariants as S
use Rattle.ild_run_open.specs.declared.start.StartFault.{StartFault}
use Rattle.ild_run_open.specs.declared.start.StartFault.TheVariants as F

-- ---- the document

-- the value under the id is that of the root, or the empty one
abbrev pub StartsFrom : List Row → TypeNo → Start → List ℕ → Value → Type 0
StartsFrom rows ty (S.Root root) id v = id ≡ root.0
StartsFrom rows ty S.Empty id v = IsEmpty rows ty v

-- where these blocks are held, the value of which this is the block stands under its id
pub record HasFirst (h : List ℕ → List ℕ) (rows : List Row) (ty : TypeNo) (start : Start) (block : List ℕ) (held : List (List ℕ)) : Type 0 where
  pub value : Value
  pub is : StandsInBlock h rows ty (id_of block) held block value
  pub from : StartsFrom rows ty start (id_of block) value

-- over every store: the block has the root's id, or is the one of the empty value
abbrev pub IsFirstBlock : (List ℕ → List ℕ) → List Row → TypeNo → Start → List ℕ → Type 0
IsFirstBlock h rows ty (S.Root root) block = id_of block ≡ root.0
IsFirstBlock h rows ty S.Empty block = empty_blocks h rows ty ≡ block ∷ []

-- a document of the type, whose value stands in the store, where this tells what it holds
pub record HasStarted (h : List ℕ → List ℕ) (rows : List Row) (ty : TypeNo) (start : Start) (d : Doc) (n : Moment) : Type 0 where
  pub table : table_in d ≡ rows
  pub type : type_in d ≡ ty
  pub block : IsFirstBlock h rows ty start (block_in d)
  pub first : (held : List (List ℕ)) → n.blocks ≡ Some held → HasFirst h rows ty start (block_in d) held

-- ---- the causes

-- no value stands under the root, where the store tells what it holds; and the block under this id is refused for a cause that holds
pub record LacksValue (h : List ℕ → List ℕ) (rows : List Row) (ty : TypeNo) (root : List ℕ) (m : Moment) (at : List ℕ) (why : BlockWhy) (n : Moment) : Type 0 where
  pub none : NoneStands h rows ty root m
  pub refused : IsRefused h rows m.blocks m.lacks n.lacks ty root at why

-- the block of the empty value, with this id, collides with one that is held
pub record ClashesEmpty (h : List ℕ → List ℕ) (rows : List Row) (ty : TypeNo) (id : List ℕ) (n : Moment) : Type 0 where
  pub hit : Collides n (empty_blocks h rows ty)
  pub named : id ≡ id_of hit.new

abbrev pub RootStops : (List ℕ → List ℕ) → List Row → TypeNo → List ℕ → Moment → StartFault → Moment → Type 0
RootStops h rows ty root m (F.Block at why) n = LacksValue h rows ty root m at.0 why n
RootStops h rows ty root m F.Store n = Rose m.faults n.faults
RootStops h rows ty root m F.Memory n = Unit {0}
RootStops h rows ty root m f n = ⊥

abbrev pub EmptyStops : (List ℕ → List ℕ) → List Row → TypeNo → Moment → StartFault → Moment → Type 0
EmptyStops h rows ty m F.Mismatch n = (empty_of rows ty ≡ None) × (n ≡ m)
EmptyStops h rows ty m F.Store n = Rose m.faults n.faults
EmptyStops h rows ty m (F.Clash id) n = ClashesEmpty h rows ty id.0 n
EmptyStops h rows ty m F.Memory n = Unit {0}
EmptyStops h rows ty m f n = ⊥

abbrev pub Stops : (List ℕ → List ℕ) → List Row → TypeNo → Start → Moment → StartFault → Moment → Type 0
Stops h rows ty (S.Root root) m f n = RootStops h rows ty root.0 m f n
Stops h rows ty S.Empty m f n = EmptyStops h rows ty m f n

-- ---- the store

-- nothing was asked of it but to get blocks, no more than the value under the root has
pub record ReadsRoot (h : List ℕ → List ℕ) (rows : List Row) (ty : TypeNo) (root : List ℕ) (m n : Moment) : Type 0 where
  pub only : OnlyReads m n
  pub gets : (held : List (List ℕ)) (v : Value) → m.blocks ≡ Some held → (st : Stands bare (block_at held) h rows ty root v) → n.gets ≤ m.gets + length (blocks_of bare h rows ty v st.tree)

-- nothing was asked of it but to keep the block of the empty value, by one put at most
pub record KeepsEmpty (h : List ℕ → List ℕ) (rows : List Row) (ty : TypeNo) (m n : Moment) : Type 0 where
  pub later : Later m n
  pub adds : AddsOnly m n (empty_blocks h rows ty)
  pub gets : n.gets ≤ m.gets
  pub puts : n.puts ≤ m.puts + 1

abbrev pub Asks : (List ℕ → List ℕ) → List Row → TypeNo → Start → Moment → Moment → Type 0
Asks h rows ty (S.Root root) m n = ReadsRoot h rows ty root.0 m n
Asks h rows ty S.Empty m n = KeepsEmpty h rows ty m n

-- ---- the call

abbrev pub StartAnswer : (List ℕ → List ℕ) → List Row → TypeNo → Start → Moment → Result Doc StartFault → Moment → Type 0
StartAnswer h rows ty start m (Ok d) n = HasStarted h rows ty start d n
StartAnswer h rows ty start m (Err f) n = Stops h rows ty start m f n

pub record Starts (h : List ℕ → List ℕ) (rows : List Row) (ty : TypeNo) (start : Start) (m : Moment) (result : Result Doc StartFault) (n : Moment) : Type 0 where
  pub answer : StartAnswer h rows ty start m result n
  pub asks : Asks h rows ty start m n
