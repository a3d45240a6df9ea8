-- What is told of a root that names its schema, whatever its value: the name of its type, and the schema's text.
use Rattle.std.specs.Prelude.{◌≡◌, ℕ, ◌+◌, ◌≤◌, List, Some, Result, Ok, Err, IsUtf8}
use Rattle.ild_data.specs.Data.{Data, text}
use Rattle.ild_data.specs.Limits.{IsWithin}
use Rattle.ild_data.specs.Spell.{id_of, spell}
use Rattle.ild_edges.specs.Count.{Rose}
use Rattle.ild_edges.specs.Gained.{FromBlocks, OnlyReads}
use Rattle.ild_edges.specs.Store.{Moment, block_at}
use Rattle.ild_named.specs.Named.{named_data, schema_block}
use Rattle.ild_open_parts.specs.declared.fault.OpenFault.{OpenFault}
use Rattle.ild_open_parts.specs.declared.fault.OpenFault.TheVariants as F
use Rattle.ild_open_named.specs.Broken.{IsUndescribed}
use Rattle.ild_open_named.specs.declared.described.Described.{Described}

-- the block under an id is that of these data
pub record HoldsData (held : List (List ℕ)) (id : List ℕ) (t : Data) : Type 0 where
  pub within : IsWithin t
  pub there : block_at held id ≡ Some (spell t)

-- under the id stands a root of this name over some data, whose schema has this text
pub record IsDescribed (held : List (List ℕ)) (id name source : List ℕ) : Type 0 where
  pub tree : Data
  pub root : HoldsData held id (named_data name (id_of (schema_block source)) tree)
  pub schema : HoldsData held (id_of (schema_block source)) (text source)

-- as follows from the blocks that gets gave until now
pub record HasDescription (id : List ℕ) (n : Moment) (d : Described) : Type 0 where
  pub link : d.schema.0 ≡ id_of (schema_block d.source)
  pub name_text : IsUtf8 d.type_name
  pub source_text : IsUtf8 d.source
  pub described : FromBlocks n (λ held. IsDescribed held id d.type_name d.source)

-- no such root is held with its schema's block, where the store tells what it holds
abbrev pub NoneDescribed : List ℕ → Moment → Type 0
NoneDescribed id m = (held : List (List ℕ)) (name source : List ℕ) → m.blocks ≡ Some held → IsDescribed held id name source → ⊥

abbrev pub DescribeAnswer : List ℕ → Moment → Result Described OpenFault → Moment → Type 0
DescribeAnswer id m (Ok d) n = HasDescription id n d
DescribeAnswer id m (Err (F.Block at why)) n = NoneDescribed id m × IsUndescribed m.blocks m.lacks n.lacks id at.0 why
DescribeAnswer id m (Err F.Store) n = Rose m.faults n.faults
DescribeAnswer id m (Err F.Memory) n = Unit {0}

-- a root is described: by gets alone, of two blocks at most
pub record Describes (id : List ℕ) (m : Moment) (result : Result Described OpenFault) (n : Moment) : Type 0 where
  pub answer : DescribeAnswer id m result n
  pub only : OnlyReads m n
  pub gets : n.gets ≤ m.gets + 2
