-- What a check of a root block that names its schema answers: the block with its type, or why it is none.
use Rattle.std.specs.Prelude.{◌≡◌, ◌⊎◌, ℕ, List, Some, Result, Ok, Err}
use Rattle.ild_cbor.specs.Block.{IsBlockOf}
use Rattle.ild_cbor.specs.Reading.{fault_of}
use Rattle.ild_cbor.specs.declared.why.Why.{Why}
use Rattle.ild_data.specs.Data.{Data}
use Rattle.ild_named.specs.Parts.{IsMisnamed}
use Rattle.ild_schema.specs.Slots.{plainly}
use Rattle.ild_schema.specs.declared.number.TypeNo.{TypeNo}
use Rattle.ild_schema.specs.declared.row.Row.{Row}
use Rattle.ild_view_doc.specs.declared.fault.DocErr.{DocErr}
use Rattle.ild_view_doc.specs.declared.fault.DocErr.TheVariants as E
use Rattle.ild_view_named.specs.NamedBlock.{HasNamed, IsNamedBlock}
use Rattle.ild_view_named.specs.declared.doc.NamedDoc.{NamedDoc}
use Rattle.ild_view_walk.specs.Checks.{IsRefusal}

abbrev pub table_in : NamedDoc → List Row
table_in d = d.acc.now

abbrev pub type_in : NamedDoc → TypeNo
type_in d = d.ty

abbrev pub block_in : NamedDoc → List ℕ
block_in d = d.block

-- a block that is no such root's
pub record IsMisnamedBlock (b : List ℕ) (why : Why) : Type 0 where
  pub tree : Data
  pub block : IsBlockOf b tree
  pub wrong : IsMisnamed tree why

-- one over data that the walk refuses as a value of the type
pub record IsMisvaluedBlock (rows : List Row) (ty : TypeNo) (b : List ℕ) (why : Why) : Type 0 where
  pub name : List ℕ
  pub schema : List ℕ
  pub tree : Data
  pub root : IsNamedBlock b name schema tree
  pub type : TypeNo
  pub refusal : IsRefusal rows 95 (plainly ty) tree type why

abbrev pub IsNamedShape : List Row → TypeNo → List ℕ → Why → Type 0
IsNamedShape rows ty b why = IsMisnamedBlock b why ⊎ IsMisvaluedBlock rows ty b why

abbrev pub NamedFaults : List Row → TypeNo → List ℕ → DocErr → Type 0
NamedFaults rows ty b (E.Cbor fault) = fault_of b ≡ Some fault
NamedFaults rows ty b (E.Shape why) = IsNamedShape rows ty b why
NamedFaults rows ty b E.Memory = Unit {0}

abbrev pub NamedChecks : List Row → TypeNo → List ℕ → Result (Unit {0}) DocErr → Type 0
NamedChecks rows ty b (Ok u) = HasNamed rows ty b
NamedChecks rows ty b (Err e) = NamedFaults rows ty b e

-- the root block that these bytes are
pub record IsNamedDoc (rows : List Row) (ty : TypeNo) (b : List ℕ) (d : NamedDoc) : Type 0 where
  pub table : table_in d ≡ rows
  pub type : type_in d ≡ ty
  pub block : block_in d ≡ b
  pub root : HasNamed rows ty b

abbrev pub NamedDocs : List Row → TypeNo → List ℕ → Result NamedDoc DocErr → Type 0
NamedDocs rows ty b (Ok d) = IsNamedDoc rows ty b d
NamedDocs rows ty b (Err e) = NamedFaults rows ty b e
