-- The table by which a root that names its schema is read: the schema's own, and the struct of such roots as one row more (IPLD Schemas).
use Rattle.std.specs.Prelude.{◌≡◌, ◌⊎◌, ℕ, ◌+◌, ◌≤◌, List, Some, Result, Ok, Err}
use Rattle.ild_cbor.specs.declared.why.BlockWhy.{BlockWhy}
use Rattle.ild_edges.specs.Count.{Rose}
use Rattle.ild_edges.specs.Gained.{OnlyReads}
use Rattle.ild_edges.specs.Store.{Moment}
use Rattle.ild_named_type.specs.Root.{named_rows, root_type}
use Rattle.ild_open_named.specs.Broken.{IsUndescribed}
use Rattle.ild_open_named.specs.Described.{IsDescribed}
use Rattle.ild_open_parts.specs.declared.fault.OpenFault.{OpenFault}
use Rattle.ild_open_parts.specs.declared.fault.OpenFault.TheVariants as F
use Rattle.ild_run_named.specs.Describes.{DescribesType}
use Rattle.ild_run_named.specs.Shows.{IsUnaccepted, IsUntyped, Tells}
use Rattle.ild_schema.specs.declared.number.TypeNo.{TypeNo}
use Rattle.ild_schema.specs.declared.row.Row.{Row}

-- The root tells a name and a text, as follows from the blocks that gets gave. The text derives a table, and the name is that of one of
-- its types. These are the rows of that table and of the struct of roots over the type, and this is the struct's number.
pub record HasNamedTable (id : List ℕ) (k : Moment) (rows : List Row) (ty : TypeNo) : Type 0 where
  pub name : List ℕ
  pub source : List ℕ
  pub tells : Tells id k name source
  pub schema : List Row
  pub type : TypeNo
  pub describes : DescribesType name source schema type
  pub table : rows ≡ named_rows schema type
  pub root : ty ≡ root_type schema

-- no root that describes a type stands there, where the store tells what it holds
abbrev pub NoneDescribes : List ℕ → Moment → Type 0
NoneDescribes id m = (held : List (List ℕ)) (name source : List ℕ) (rows : List Row) (ty : TypeNo) → m.blocks ≡ Some held → IsDescribed held id name source → DescribesType name source rows ty → ⊥

-- none does; and the root or its schema's block is refused for a cause that holds, or the schema's text is, or the name is no type's
pub record NotTyped (id : List ℕ) (m : Moment) (at : List ℕ) (why : BlockWhy) (k : Moment) : Type 0 where
  pub none : NoneDescribes id m
  pub refused : IsUndescribed m.blocks m.lacks k.lacks id at why ⊎ IsUnaccepted id k at why ⊎ IsUntyped id k at why

abbrev pub TableAnswer : List ℕ → Moment → Result (List Row × TypeNo) OpenFault → Moment → Type 0
TableAnswer id m (Ok x) k = HasNamedTable id k x.0 x.1
TableAnswer id m (Err (F.Block at why)) k = NotTyped id m at.0 why k
TableAnswer id m (Err F.Store) k = Rose m.faults k.faults
TableAnswer id m (Err F.Memory) k = Unit {0}

-- the table of a root is made: by two gets at most
pub record NamesTable (id : List ℕ) (m : Moment) (result : Result (List Row × TypeNo) OpenFault) (k : Moment) : Type 0 where
  pub answer : TableAnswer id m result k
  pub reads : OnlyReads m k
  pub gets : k.gets ≤ m.gets + 2
