-- What a get of the root block of a tree answers.
use Rattle.std.specs.Prelude.{◌≡◌, ℕ, ◌+◌, ◌≤◌, List, Some, Result, Ok, Err}
use Rattle.ild_data.specs.Spell.{id_of}
use Rattle.ild_edges.specs.Count.{Rose}
use Rattle.ild_edges.specs.Gained.{OnlyReads}
use Rattle.ild_edges.specs.Store.{Moment, block_at}
use Rattle.ild_edges.specs.Told.{IfTold}
use Rattle.ild_schema.specs.Value.{Value}
use Rattle.ild_schema.specs.declared.number.TypeNo.{TypeNo}
use Rattle.ild_schema.specs.declared.row.Row.{Row}
use Rattle.ild_script.specs.declared.reply.No.{No}
use Rattle.ild_script.specs.declared.reply.No.TheVariants as N
use Rattle.ild_typed.specs.Stands.{Stands, bare}
use Rattle.ild_view_doc.specs.Docs.{block_in, table_in, type_in}
use Rattle.ild_view_doc.specs.declared.doc.Doc.{Doc}

-- the document is of the block under the id, and the block is held where the store tells what it holds
pub record IsFound (rows : List Row) (ty : TypeNo) (id : List ℕ) (m : Moment) (d : Doc) : Type 0 where
  pub table : table_in d ≡ rows
  pub type : type_in d ≡ ty
  pub named : id_of (block_in d) ≡ id
  pub held : IfTold m.blocks (λ held. block_at held id ≡ Some (block_in d))

-- a block is blamed only where no value of the type stands under the id
abbrev pub FoundAnswer : List Row → TypeNo → List ℕ → Moment → Result Doc No → Moment → Type 0
FoundAnswer rows ty id m (Ok d) n = IsFound rows ty id m d
FoundAnswer rows ty id m (Err N.Block) n = (h : List ℕ → List ℕ) (held : List (List ℕ)) (v : Value) → m.blocks ≡ Some held → Stands bare (block_at held) h rows ty id v → ⊥
FoundAnswer rows ty id m (Err N.Store) n = Rose m.faults n.faults
FoundAnswer rows ty id m (Err N.Memory) n = Unit {0}
FoundAnswer rows ty id m (Err refusal) n = ⊥

pub record FindsRoot (rows : List Row) (ty : TypeNo) (id : List ℕ) (m : Moment) (result : Result Doc No) (n : Moment) : Type 0 where
  pub answer : FoundAnswer rows ty id m result n
  pub reads : OnlyReads m n
  pub gets : n.gets ≤ m.gets + 1
