-- What opening a root answers: the one value that stands under its id, which follows from the blocks that gets gave; or the block for
-- which none does.
use Rattle.std.specs.Prelude.{◌≡◌, ℕ, ◌+◌, ◌≤◌, List, length, Some, Result, Ok, Err}
use Rattle.ild_data.specs.Spell.{id_of, spell}
use Rattle.ild_view_doc.specs.Docs.{block_in, table_in, type_in}
use Rattle.ild_view_doc.specs.declared.doc.Doc.{Doc}
use Rattle.ild_edges.specs.Gained.{FromBlocks}
use Rattle.ild_edges.specs.Count.{Rose}
use Rattle.ild_edges.specs.Store.{Moment, block_at}
use Rattle.ild_schema.specs.Value.{Value}
use Rattle.ild_schema.specs.ValueSeen.{value_of}
use Rattle.ild_schema.specs.declared.number.TypeNo.{TypeNo}
use Rattle.ild_schema.specs.declared.row.Row.{Row}
use Rattle.ild_schema.specs.declared.val.Val.{Val}
use Rattle.ild_typed.specs.Stands.{Stands, bare, blocks_of}
use Rattle.ild_open_parts.specs.Reads.{OnlyReads}
use Rattle.ild_open_parts.specs.declared.fault.OpenFault.{OpenFault}
use Rattle.ild_open_parts.specs.declared.fault.OpenFault.TheVariants as F
use Rattle.ild_open.specs.Broken.{IsRefused}

-- the value stands under the id, and the block is that of its representation
pub record StandsInBlock (h : List ℕ → List ℕ) (rows : List Row) (ty : TypeNo) (id : List ℕ) (held : List (List ℕ)) (block : List ℕ) (v : Value) : Type 0 where
  pub stands : Stands bare (block_at held) h rows ty id v
  pub spelled : block ≡ spell stands.tree

-- the root block of a value that stands under the id, as follows from the blocks that gets gave until now
pub record HasOpened (h : List ℕ → List ℕ) (rows : List Row) (ty : TypeNo) (id : List ℕ) (n : Moment) (d : Doc) : Type 0 where
  pub table : table_in d ≡ rows
  pub type : type_in d ≡ ty
  pub root : id_of (block_in d) ≡ id
  pub value : FromBlocks n (λ held. (v : Value) × StandsInBlock h rows ty id held (block_in d) v)

-- with that value
pub record HasValue (h : List ℕ → List ℕ) (rows : List Row) (ty : TypeNo) (id : List ℕ) (n : Moment) (result : Doc × Val) : Type 0 where
  pub table : table_in result.0 ≡ rows
  pub type : type_in result.0 ≡ ty
  pub root : id_of (block_in result.0) ≡ id
  pub value : FromBlocks n (λ held. StandsInBlock h rows ty id held (block_in result.0) (value_of result.1))

-- no value stands there, where the store tells what it holds
abbrev pub NoneStands : (List ℕ → List ℕ) → List Row → TypeNo → List ℕ → Moment → Type 0
NoneStands h rows ty id m = (held : List (List ℕ)) (v : Value) → m.blocks ≡ Some held → Stands bare (block_at held) h rows ty id v → ⊥

abbrev pub OpenStops : (List ℕ → List ℕ) → List Row → TypeNo → List ℕ → Moment → OpenFault → Moment → Type 0
OpenStops h rows ty id m (F.Block at why) n = NoneStands h rows ty id m × IsRefused h rows m.blocks m.lacks n.lacks ty id at.0 why
OpenStops h rows ty id m F.Store n = Rose m.faults n.faults
OpenStops h rows ty id m F.Memory n = Unit {0}

abbrev pub OpenAnswer : {A : Type 0} → (A → Type 0) → (List ℕ → List ℕ) → List Row → TypeNo → List ℕ → Moment → Result A OpenFault → Moment → Type 0
OpenAnswer Done h rows ty id m (Ok a) n = Done a
OpenAnswer Done h rows ty id m (Err e) n = OpenStops h rows ty id m e n

-- a root is opened: by gets alone, no more of them than the value that stands there has blocks
pub record Opens {A : Type 0} (Done : A → Type 0) (h : List ℕ → List ℕ) (rows : List Row) (ty : TypeNo) (id : List ℕ) (m : Moment) (result : Result A OpenFault) (n : Moment) : Type 0 where
  pub answer : OpenAnswer Done h rows ty id m result n
  pub only : OnlyReads m n
  pub gets : (held : List (List ℕ)) (v : Value) → m.blocks ≡ Some held → (st : Stands bare (block_at held) h rows ty id v) → n.gets ≤ m.gets + length (blocks_of bare h rows ty v st.tree)
