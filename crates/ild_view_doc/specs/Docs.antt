-- What a check of a root block answers: the block with its type, or why it is none.
use Rattle.std.specs.Prelude.{◌≡◌, ℕ, List, Some, Result, Ok, Err}
use Rattle.ild_cbor.specs.Block.{IsBlockOf}
use Rattle.ild_cbor.specs.Reading.{fault_of}
use Rattle.ild_cbor.specs.declared.why.Why.{Why}
use Rattle.ild_data.specs.Data.{Data}
use Rattle.ild_view_doc.specs.Block.{HasRoot}
use Rattle.ild_view_doc.specs.declared.doc.Doc.{Doc}
use Rattle.ild_view_doc.specs.declared.fault.DocErr.{DocErr}
use Rattle.ild_view_doc.specs.declared.fault.DocErr.TheVariants as E
use Rattle.ild_schema.specs.Slots.{plainly}
use Rattle.ild_schema.specs.declared.number.TypeNo.{TypeNo}
use Rattle.ild_schema.specs.declared.row.Row.{Row}
use Rattle.ild_view_walk.specs.Checks.{IsRefusal}

abbrev pub table_in : Doc → List Row
table_in d = d.acc.now

abbrev pub type_in : Doc → TypeNo
type_in d = d.ty

abbrev pub block_in : Doc → List ℕ
block_in d = d.block

-- a block whose tree the walk refuses
pub record IsShape (rows : List Row) (ty : TypeNo) (b : List ℕ) (why : Why) : Type 0 where
  pub tree : Data
  pub block : IsBlockOf b tree
  pub type : TypeNo
  pub refusal : IsRefusal rows 96 (plainly ty) tree type why

abbrev pub Faults : List Row → TypeNo → List ℕ → DocErr → Type 0
Faults rows ty b (E.Cbor fault) = fault_of b ≡ Some fault
Faults rows ty b (E.Shape why) = IsShape rows ty b why
Faults rows ty b E.Memory = Unit {0}

abbrev pub Checks : List Row → TypeNo → List ℕ → Result (Unit {0}) DocErr → Type 0
Checks rows ty b (Ok u) = HasRoot rows ty b
Checks rows ty b (Err e) = Faults rows ty b e

-- the root block that these bytes are
pub record IsDoc (rows : List Row) (ty : TypeNo) (b : List ℕ) (d : Doc) : Type 0 where
  pub table : table_in d ≡ rows
  pub type : type_in d ≡ ty
  pub block : block_in d ≡ b
  pub root : HasRoot rows ty b

-- the same block of the same type
pub record IsSame (d e : Doc) : Type 0 where
  pub table : table_in e ≡ table_in d
  pub type : type_in e ≡ type_in d
  pub block : block_in e ≡ block_in d

abbrev pub Docs : List Row → TypeNo → List ℕ → Result Doc DocErr → Type 0
Docs rows ty b (Ok d) = IsDoc rows ty b d
Docs rows ty b (Err e) = Faults rows ty b e
