-- What showing the value under a root that names its schema answers, and what it leaves of the store (IPLD Schemas, "type-level
-- representation"; DAG-JSON).
use Rattle.std.specs.Prelude.{◌≡◌, ◌⊎◌, ℕ, ◌+◌, ◌≤◌, List, length, Option, Some, None, Result, Ok, Err}
use Rattle.ild_cbor.specs.declared.why.BlockWhy.{BlockWhy}
use Rattle.ild_cbor.specs.declared.why.BlockWhy.TheVariants as B
use Rattle.ild_cbor.specs.declared.why.Why.TheVariants as Y
use Rattle.ild_compile.specs.Compile.{HasAccepted, IsFlaw}
use Rattle.ild_compile.specs.declared.error.SchemaFault.{SchemaFault}
use Rattle.ild_data.specs.Spell.{id_of}
use Rattle.ild_edges.specs.Count.{Rose}
use Rattle.ild_edges.specs.Gained.{FromBlocks, OnlyReads}
use Rattle.ild_edges.specs.Store.{Moment}
use Rattle.ild_json.specs.Printing.{json_text}
use Rattle.ild_named.specs.Named.{named, schema_block}
use Rattle.ild_open_named.specs.Broken.{IsRefused, IsUndescribed}
use Rattle.ild_open_named.specs.Described.{IsDescribed}
use Rattle.ild_run_show.specs.declared.fault.ShowFault.{ShowFault}
use Rattle.ild_run_show.specs.declared.fault.ShowFault.TheVariants as F
use Rattle.ild_schema.specs.Names.{number_named}
use Rattle.ild_schema.specs.Slots.{plainly}
use Rattle.ild_schema.specs.Value.{Value}
use Rattle.ild_schema.specs.declared.number.TypeNo.{TypeNo}
use Rattle.ild_schema.specs.declared.row.Row.{Row}
use Rattle.ild_typed.specs.Shown.{shown}
use Rattle.ild_typed.specs.Stands.{blocks_of}
use Rattle.ild_run_named.specs.Describes.{DescribesType, StandsDescribed}

-- a value of a described type stands under the id, as follows from the blocks that gets gave, and its shown form has this JSON, or none
pub record HasShown (h : List ℕ → List ℕ) (id : List ℕ) (k : Moment) (json : Option (List ℕ)) : Type 0 where
  pub rows : List Row
  pub type : TypeNo
  pub value : Value
  pub opened : FromBlocks k (λ held. StandsDescribed h id held rows type value)
  pub printed : json_text (shown rows (plainly type) value) ≡ json

-- no value of a type that its root describes stands there, where the store tells what it holds
abbrev pub NoneStands : (List ℕ → List ℕ) → List ℕ → Moment → Type 0
NoneStands h id m = (held : List (List ℕ)) (rows : List Row) (ty : TypeNo) (v : Value) → m.blocks ≡ Some held → StandsDescribed h id held rows ty v → ⊥

-- ---- the causes

-- the root tells this name and this text, as follows from the blocks that gets gave
abbrev pub Tells : List ℕ → Moment → List ℕ → List ℕ → Type 0
Tells id k name source = FromBlocks k (λ held. IsDescribed held id name source)

-- the text derives no accepted schema
pub record IsUnaccepted (id : List ℕ) (k : Moment) (at : List ℕ) (why : BlockWhy) : Type 0 where
  pub name : List ℕ
  pub source : List ℕ
  pub tells : Tells id k name source
  pub schema : at ≡ id_of (schema_block source)
  pub fault : SchemaFault
  pub flaw : IsFlaw source fault.flaw fault.at
  pub told : why ≡ B.Shape Y.Kind

-- no type of its table has the name
pub record IsUntyped (id : List ℕ) (k : Moment) (at : List ℕ) (why : BlockWhy) : Type 0 where
  pub name : List ℕ
  pub source : List ℕ
  pub tells : Tells id k name source
  pub root : at ≡ id
  pub rows : List Row
  pub accepted : HasAccepted source rows
  pub none : number_named name rows ≡ None
  pub told : why ≡ B.Shape Y.Name

-- no value of the type is beneath
pub record IsMisvalued (h : List ℕ → List ℕ) (id : List ℕ) (m : Moment) (at : List ℕ) (why : BlockWhy) (k : Moment) : Type 0 where
  pub name : List ℕ
  pub source : List ℕ
  pub tells : Tells id k name source
  pub rows : List Row
  pub type : TypeNo
  pub describes : DescribesType name source rows type
  pub moment : Moment
  pub reads : OnlyReads m moment
  pub refused : IsRefused h rows moment.blocks moment.lacks k.lacks type id at why

abbrev pub IsRefusedRoot : (List ℕ → List ℕ) → List ℕ → Moment → List ℕ → BlockWhy → Moment → Type 0
IsRefusedRoot h id m at why k = IsUndescribed m.blocks m.lacks k.lacks id at why ⊎ IsUnaccepted id k at why ⊎ IsUntyped id k at why ⊎ IsMisvalued h id m at why k

-- no such value stands there, and the block under this id is refused for a cause that holds
pub record NotOpened (h : List ℕ → List ℕ) (id : List ℕ) (m : Moment) (at : List ℕ) (why : BlockWhy) (k : Moment) : Type 0 where
  pub none : NoneStands h id m
  pub refused : IsRefusedRoot h id m at why k

-- ---- the call

abbrev pub ShowAnswer : (List ℕ → List ℕ) → List ℕ → Moment → Result (List ℕ) ShowFault → Moment → Type 0
ShowAnswer h id m (Ok json) k = HasShown h id k (Some json)
ShowAnswer h id m (Err F.Reserved) k = HasShown h id k None
ShowAnswer h id m (Err (F.Block at why)) k = NotOpened h id m at.0 why k
ShowAnswer h id m (Err F.Store) k = Rose m.faults k.faults
ShowAnswer h id m (Err F.Memory) k = Unit {0}

-- two gets more than the value has blocks that stands under the id, at most
abbrev pub GetsItsBlocks : (List ℕ → List ℕ) → List ℕ → Moment → Moment → Type 0
GetsItsBlocks h id m k =
    (held : List (List ℕ)) (rows : List Row) (ty : TypeNo) (v : Value) → m.blocks ≡ Some held → (st : StandsDescribed h id held rows ty v)
    → k.gets ≤ m.gets + length (blocks_of (named st.name st.source) h rows ty v st.is.stands.tree) + 2

-- a value is shown: by gets alone
pub record Shows (h : List ℕ → List ℕ) (id : List ℕ) (m : Moment) (result : Result (List ℕ) ShowFault) (k : Moment) : Type 0 where
  pub answer : ShowAnswer h id m result k
  pub reads : OnlyReads m k
  pub gets : GetsItsBlocks h id m k
