-- What is found under the id of a root: a block of the type, or what is wrong with it; and what is read of such a block.
use Rattle.std.specs.Prelude.{◌≡◌, ◌+◌, ◌≤◌, ℕ, Bool, true, List, Some, Result, Ok, Err}
use Rattle.ild_cbor.specs.Block.{IsBlockOf}
use Rattle.ild_cbor.specs.Reading.{fault_of}
use Rattle.ild_cbor.specs.declared.why.BlockWhy.{BlockWhy}
use Rattle.ild_cbor.specs.declared.why.BlockWhy.TheVariants as B
use Rattle.ild_data.specs.Data.{Data}
use Rattle.ild_data.specs.Spell.{id_of}
use Rattle.ild_view_doc.specs.Block.{HasRoot}
use Rattle.ild_view_doc.specs.Docs.{IsDoc, IsShape, block_in, table_in, type_in}
use Rattle.ild_view_doc.specs.declared.doc.Doc.{Doc}
use Rattle.ild_edges.specs.Gained.{FromBlocks}
use Rattle.ild_edges.specs.Count.{Rose}
use Rattle.ild_edges.specs.Store.{Moment, Gets}
use Rattle.ild_schema.specs.Slots.{plainly}
use Rattle.ild_schema.specs.Value.{Value}
use Rattle.ild_schema.specs.ValueSeen.{value_of}
use Rattle.ild_schema.specs.declared.number.TypeNo.{TypeNo}
use Rattle.ild_schema.specs.declared.row.Row.{Row}
use Rattle.ild_schema.specs.declared.val.Val.{Val}
use Rattle.ild_open_held.specs.Splits.{HasFront}
use Rattle.ild_open_parts.specs.Reads.{OnlyReads, Reads}
use Rattle.ild_open_parts.specs.declared.fault.OpenFault.{OpenFault}
use Rattle.ild_open_parts.specs.declared.fault.OpenFault.TheVariants as F
use Rattle.ild_open.specs.Broken.{IsWrongRoot}
use Rattle.ild_open.specs.Opened.{StandsInBlock}

-- ---- the block of a root

abbrev pub IsWrongBlock : List Row → TypeNo → List ℕ → BlockWhy → Type 0
IsWrongBlock rows ty b B.Missing = ⊥
IsWrongBlock rows ty b (B.Cbor fault) = fault_of b ≡ Some fault
IsWrongBlock rows ty b (B.Shape why) = IsShape rows ty b why

-- bytes under an id are a root block of a type, or why they are none
abbrev pub Judges : List Row → TypeNo → List ℕ → List ℕ → Result Doc OpenFault → Type 0
Judges rows ty id b (Ok d) = IsDoc rows ty b d
Judges rows ty id b (Err (F.Block at why)) = (at.0 ≡ id) × IsWrongBlock rows ty b why
Judges rows ty id b (Err F.Store) = ⊥
Judges rows ty id b (Err F.Memory) = Unit {0}

-- a get gave the block under an id, which is one of the type
pub record HasBlock (rows : List Row) (ty : TypeNo) (id : List ℕ) (m : Moment) (d : Doc) (n : Moment) : Type 0 where
  pub table : table_in d ≡ rows
  pub type : type_in d ≡ ty
  pub get : Gets m id (Ok (Some (block_in d))) n
  pub root : HasRoot rows ty (block_in d)

abbrev pub FindAnswer : List Row → TypeNo → List ℕ → Moment → Result Doc OpenFault → Moment → Type 0
FindAnswer rows ty id m (Ok d) n = HasBlock rows ty id m d n
FindAnswer rows ty id m (Err (F.Block at why)) n = (at.0 ≡ id) × IsWrongRoot rows m.blocks m.lacks n.lacks ty id why
FindAnswer rows ty id m (Err F.Store) n = Rose m.faults n.faults
FindAnswer rows ty id m (Err F.Memory) n = Unit {0}

-- by one get
pub record GetFinds (rows : List Row) (ty : TypeNo) (id : List ℕ) (m : Moment) (result : Result Doc OpenFault) (n : Moment) : Type 0 where
  pub answer : FindAnswer rows ty id m result n
  pub only : OnlyReads m n
  pub gets : n.gets ≤ m.gets + 1

-- ---- its value

-- what is read of a block that stands under an id
abbrev pub ReadsRoot : (List ℕ → List ℕ) → List Row → TypeNo → List ℕ → List ℕ → Bool → Moment → Result Val OpenFault → Moment → Type 0
ReadsRoot h rows ty id b keep m r n = (t : Data) → IsBlockOf b t → HasFront rows 96 (plainly ty, t) → Reads h id rows 96 (plainly ty, t) keep m r n

-- the value that stands there, which is kept where it is to be
pub record IsKept (h : List ℕ → List ℕ) (rows : List Row) (ty : TypeNo) (id : List ℕ) (held : List (List ℕ)) (block : List ℕ) (keep : Bool) (val : Val) : Type 0 where
  pub value : Value
  pub is : StandsInBlock h rows ty id held block value
  pub kept : keep ≡ true → value_of val ≡ value

pub record HasKept (h : List ℕ → List ℕ) (rows : List Row) (ty : TypeNo) (id : List ℕ) (n : Moment) (keep : Bool) (result : Doc × Val) : Type 0 where
  pub table : table_in result.0 ≡ rows
  pub type : type_in result.0 ≡ ty
  pub root : id_of (block_in result.0) ≡ id
  pub value : FromBlocks n (λ held. IsKept h rows ty id held (block_in result.0) keep result.1)
