-- What opening a root that names its schema answers: the one value that stands under its id, which follows from the blocks that gets
-- gave; or the block for which none does.
use Rattle.std.specs.Prelude.{◌≡◌, ℕ, ◌+◌, ◌≤◌, List, length, Some, Result, Ok, Err}
use Rattle.ild_data.specs.Spell.{id_of, spell}
use Rattle.ild_edges.specs.Count.{Rose}
use Rattle.ild_edges.specs.Gained.{FromBlocks, OnlyReads}
use Rattle.ild_edges.specs.Store.{Moment, block_at}
use Rattle.ild_named.specs.Named.{AreNaming, named, named_data, schema_block}
use Rattle.ild_open_parts.specs.declared.fault.OpenFault.{OpenFault}
use Rattle.ild_open_parts.specs.declared.fault.OpenFault.TheVariants as F
use Rattle.ild_schema.specs.Value.{Value}
use Rattle.ild_schema.specs.ValueSeen.{value_of}
use Rattle.ild_schema.specs.declared.number.TypeNo.{TypeNo}
use Rattle.ild_schema.specs.declared.row.Row.{Row}
use Rattle.ild_schema.specs.declared.val.Val.{Val}
use Rattle.ild_typed.specs.Stands.{Stands, blocks_of}
use Rattle.ild_view_named.specs.NamedDocs.{block_in, table_in, type_in}
use Rattle.ild_view_named.specs.declared.doc.NamedDoc.{NamedDoc}
use Rattle.ild_open_named.specs.Broken.{IsRefused}

-- the value stands under the id, beneath a root that names its type so in a schema of this text
pub record StandsNamed (h : List ℕ → List ℕ) (rows : List Row) (ty : TypeNo) (id : List ℕ) (held : List (List ℕ)) (name source : List ℕ) (v : Value) : Type 0 where
  pub naming : AreNaming name source
  pub stands : Stands (named name source) (block_at held) h rows ty id v

-- and the block is the root's
pub record StandsInNamed (h : List ℕ → List ℕ) (rows : List Row) (ty : TypeNo) (id : List ℕ) (held : List (List ℕ)) (block : List ℕ) (v : Value) : Type 0 where
  pub name : List ℕ
  pub source : List ℕ
  pub is : StandsNamed h rows ty id held name source v
  pub spelled : block ≡ spell (named_data name (id_of (schema_block source)) is.stands.tree)

-- the root block of a value that stands under the id, with the value, as follows from the blocks that gets gave until now
pub record HasNamedValue (h : List ℕ → List ℕ) (rows : List Row) (ty : TypeNo) (id : List ℕ) (n : Moment) (result : NamedDoc × Val) : Type 0 where
  pub table : table_in result.0 ≡ rows
  pub type : type_in result.0 ≡ ty
  pub root : id_of (block_in result.0) ≡ id
  pub value : FromBlocks n (λ held. StandsInNamed h rows ty id held (block_in result.0) (value_of result.1))

-- no value stands there beneath a root that names its schema, where the store tells what it holds
abbrev pub NoneStands : (List ℕ → List ℕ) → List Row → TypeNo → List ℕ → Moment → Type 0
NoneStands h rows ty id m = (held : List (List ℕ)) (name source : List ℕ) (v : Value) → m.blocks ≡ Some held → StandsNamed h rows ty id held name source v → ⊥

abbrev pub OpenStops : (List ℕ → List ℕ) → List Row → TypeNo → List ℕ → Moment → OpenFault → Moment → Type 0
OpenStops h rows ty id m (F.Block at why) n = NoneStands h rows ty id m × IsRefused h rows m.blocks m.lacks n.lacks ty id at.0 why
OpenStops h rows ty id m F.Store n = Rose m.faults n.faults
OpenStops h rows ty id m F.Memory n = Unit {0}

abbrev pub OpenAnswer : {A : Type 0} → (A → Type 0) → (List ℕ → List ℕ) → List Row → TypeNo → List ℕ → Moment → Result A OpenFault → Moment → Type 0
OpenAnswer Done h rows ty id m (Ok a) n = Done a
OpenAnswer Done h rows ty id m (Err e) n = OpenStops h rows ty id m e n

-- a root is opened: by gets alone, no more of them than the value that stands there has blocks, its root and its schema's among them
pub record Opens {A : Type 0} (Done : A → Type 0) (h : List ℕ → List ℕ) (rows : List Row) (ty : TypeNo) (id : List ℕ) (m : Moment) (result : Result A OpenFault) (n : Moment) : Type 0 where
  pub answer : OpenAnswer Done h rows ty id m result n
  pub only : OnlyReads m n
  pub gets : (held : List (List ℕ)) (name source : List ℕ) (v : Value) → m.blocks ≡ Some held → (st : StandsNamed h rows ty id held name source v)
      → n.gets ≤ m.gets + length (blocks_of (named name source) h rows ty v st.stands.tree)
