-- What is found under the ids of a root that names its schema: a block of the form that is asked for, or what is wrong with it; and what
-- is read of such a block.
use Rattle.std.specs.Prelude.{◌≡◌, ◌+◌, ◌≤◌, ℕ, true, List, Some, None, Result, Ok, Err}
use Rattle.ild_cbor.specs.Block.{IsBlockOf}
use Rattle.ild_cbor.specs.Reading.{fault_of}
use Rattle.ild_cbor.specs.declared.why.BlockWhy.{BlockWhy}
use Rattle.ild_cbor.specs.declared.why.BlockWhy.TheVariants as B
use Rattle.ild_cbor.specs.declared.why.Why.{Why}
use Rattle.ild_data.specs.Data.{Data, text}
use Rattle.ild_data.specs.declared.id.BlockId.{BlockId}
use Rattle.ild_edges.specs.Count.{Rose}
use Rattle.ild_edges.specs.Gained.{OnlyReads}
use Rattle.ild_edges.specs.Store.{Moment, Gets, block_at}
use Rattle.ild_edges.specs.Told.{IfTold}
use Rattle.ild_named.specs.declared.parts.NamedParts.{NamedParts}
use Rattle.ild_open_held.specs.Splits.{HasFront}
use Rattle.ild_open_parts.specs.Reads.{Reads}
use Rattle.ild_open_parts.specs.declared.fault.OpenFault.{OpenFault}
use Rattle.ild_open_parts.specs.declared.fault.OpenFault.TheVariants as F
use Rattle.ild_schema.specs.Slots.{plainly}
use Rattle.ild_schema.specs.declared.number.TypeNo.{TypeNo}
use Rattle.ild_schema.specs.declared.row.Row.{Row}
use Rattle.ild_schema.specs.declared.val.Val.{Val}
use Rattle.ild_view_named.specs.NamedBlock.{HasNamed, IsNamedBlock}
use Rattle.ild_view_named.specs.NamedDocs.{IsMisnamedBlock, IsNamedDoc, IsNamedShape, block_in, table_in, type_in}
use Rattle.ild_view_named.specs.declared.doc.NamedDoc.{NamedDoc}
use Rattle.ild_open_named.specs.Broken.{IsNoText, IsWrongUnder}

-- ---- a block

abbrev pub GetAnswer : List ℕ → Moment → Result (List ℕ) OpenFault → Moment → Type 0
GetAnswer id m (Ok b) n = Gets m id (Ok (Some b)) n
GetAnswer id m (Err (F.Block at why)) n = (at.0 ≡ id) × (why ≡ B.Missing) × IfTold m.blocks (λ blocks. block_at blocks id ≡ None) × Rose m.lacks n.lacks
GetAnswer id m (Err F.Store) n = Rose m.faults n.faults
GetAnswer id m (Err F.Memory) n = Unit {0}

-- by one get
pub record GetsBlock (id : List ℕ) (m : Moment) (result : Result (List ℕ) OpenFault) (n : Moment) : Type 0 where
  pub answer : GetAnswer id m result n
  pub only : OnlyReads m n
  pub gets : n.gets ≤ m.gets + 1

-- what is wrong with bytes, where the form is asked of a block
abbrev pub IsWrongBlock : (List ℕ → Why → Type 0) → List ℕ → BlockWhy → Type 0
IsWrongBlock Wrong b B.Missing = ⊥
IsWrongBlock Wrong b (B.Cbor fault) = fault_of b ≡ Some fault
IsWrongBlock Wrong b (B.Shape why) = Wrong b why

-- bytes under an id aren't of the form
abbrev pub StopsAt : (List ℕ → Why → Type 0) → List ℕ → List ℕ → OpenFault → Type 0
StopsAt Wrong id b (F.Block at why) = (at.0 ≡ id) × IsWrongBlock Wrong b why
StopsAt Wrong id b F.Store = ⊥
StopsAt Wrong id b F.Memory = Unit {0}

-- ---- the root

-- the parts of a root that bytes are
abbrev pub PartsIn : List ℕ → List ℕ → Result NamedParts OpenFault → Type 0
PartsIn id b (Ok p) = (t : Data) × IsNamedBlock b p.name.now p.schema.0 t
PartsIn id b (Err e) = StopsAt IsMisnamedBlock id b e

-- the name that they tell, and the id of the schema's block
abbrev pub NamesIn : List ℕ → List ℕ → Result (List ℕ × BlockId) OpenFault → Type 0
NamesIn id b (Ok x) = (t : Data) × IsNamedBlock b x.0 x.1.0 t
NamesIn id b (Err e) = StopsAt IsMisnamedBlock id b e

-- a root block of a type
abbrev pub Judges : List Row → TypeNo → List ℕ → List ℕ → Result NamedDoc OpenFault → Type 0
Judges rows ty id b (Ok d) = IsNamedDoc rows ty b d
Judges rows ty id b (Err e) = StopsAt (IsNamedShape rows ty) id b e

-- a get gave the block under an id, which is one of the type
pub record HasBlock (rows : List Row) (ty : TypeNo) (id : List ℕ) (m : Moment) (d : NamedDoc) (n : Moment) : Type 0 where
  pub table : table_in d ≡ rows
  pub type : type_in d ≡ ty
  pub get : Gets m id (Ok (Some (block_in d))) n
  pub root : HasNamed rows ty (block_in d)

-- what is found under an id of the form, by one get
abbrev pub FindAnswer : {A : Type 0} → (A → Type 0) → (List ℕ → Why → Type 0) → List ℕ → Moment → Result A OpenFault → Moment → Type 0
FindAnswer Done Wrong id m (Ok a) n = Done a
FindAnswer Done Wrong id m (Err (F.Block at why)) n = (at.0 ≡ id) × IsWrongUnder Wrong m.blocks m.lacks n.lacks id why
FindAnswer Done Wrong id m (Err F.Store) n = Rose m.faults n.faults
FindAnswer Done Wrong id m (Err F.Memory) n = Unit {0}

pub record Finds {A : Type 0} (Done : A → Type 0) (Wrong : List ℕ → Why → Type 0) (id : List ℕ) (m : Moment) (result : Result A OpenFault) (n : Moment) : Type 0 where
  pub answer : FindAnswer Done Wrong id m result n
  pub only : OnlyReads m n
  pub gets : n.gets ≤ m.gets + 1

abbrev pub FindsRoot : List Row → TypeNo → List ℕ → Moment → Result NamedDoc OpenFault → Moment → Type 0
FindsRoot rows ty id m r n = Finds (λ d. HasBlock rows ty id m d n) (IsNamedShape rows ty) id m r n

-- ---- the schema's block

-- bytes are the block of a text
pub record IsTextBlock (b : List ℕ) : Type 0 where
  pub source : List ℕ
  pub block : IsBlockOf b (text source)

-- a get gave it
pub record HasText (id : List ℕ) (m : Moment) (b : List ℕ) (n : Moment) : Type 0 where
  pub get : Gets m id (Ok (Some b)) n
  pub text : IsTextBlock b

abbrev pub JudgesText : List ℕ → List ℕ → Result (Unit {0}) OpenFault → Type 0
JudgesText id b (Ok u) = IsTextBlock b
JudgesText id b (Err e) = StopsAt IsNoText id b e

abbrev pub FindsText : List ℕ → Moment → Result (List ℕ) OpenFault → Moment → Type 0
FindsText id m r n = Finds (λ b. HasText id m b n) IsNoText id m r n

-- ---- the value

-- what is read of the value beneath a root that stands under an id
abbrev pub ReadsNamed : (List ℕ → List ℕ) → List Row → TypeNo → List ℕ → List ℕ → Moment → Result Val OpenFault → Moment → Type 0
ReadsNamed h rows ty id b m r n =
    (name schema : List ℕ) (t : Data) → IsNamedBlock b name schema t → HasFront rows 95 (plainly ty, t) → Reads h id rows 95 (plainly ty, t) true m r n
