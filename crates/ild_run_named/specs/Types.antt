-- What the type is that a root names, where the root is described.
use Rattle.std.specs.Prelude.{◌≡◌, ◌⊎◌, ℕ, List, None, Result, Ok, Err}
use Rattle.ild_cbor.specs.declared.why.BlockWhy.{BlockWhy}
use Rattle.ild_cbor.specs.declared.why.BlockWhy.TheVariants as B
use Rattle.ild_cbor.specs.declared.why.Why.TheVariants as Y
use Rattle.ild_compile.specs.Compile.{HasAccepted, IsFlaw}
use Rattle.ild_compile.specs.declared.error.SchemaFault.{SchemaFault}
use Rattle.ild_open_named.specs.declared.described.Described.{Described}
use Rattle.ild_open_parts.specs.declared.fault.OpenFault.{OpenFault}
use Rattle.ild_open_parts.specs.declared.fault.OpenFault.TheVariants as O
use Rattle.ild_schema.specs.Names.{number_named}
use Rattle.ild_schema.specs.declared.number.TypeNo.{TypeNo}
use Rattle.ild_schema.specs.declared.row.Row.{Row}
use Rattle.ild_run_named.specs.Describes.{DescribesType}

-- the schema's text isn't accepted
pub record HasFlaw (d : Described) (at : List ℕ) (why : BlockWhy) : Type 0 where
  pub schema : at ≡ d.schema.0
  pub fault : SchemaFault
  pub flaw : IsFlaw d.source fault.flaw fault.at
  pub told : why ≡ B.Shape Y.Kind

-- the name isn't one of its table
pub record HasNoType (id : List ℕ) (d : Described) (at : List ℕ) (why : BlockWhy) : Type 0 where
  pub root : at ≡ id
  pub rows : List Row
  pub accepted : HasAccepted d.source rows
  pub none : number_named d.type_name rows ≡ None
  pub told : why ≡ B.Shape Y.Name

abbrev pub TypesAs : List ℕ → Described → Result (List Row × TypeNo) OpenFault → Type 0
TypesAs id d (Ok x) = DescribesType d.type_name d.source x.0 x.1
TypesAs id d (Err (O.Block at why)) = HasFlaw d at.0 why ⊎ HasNoType id d at.0 why
TypesAs id d (Err O.Memory) = Unit {0}
TypesAs id d (Err O.Store) = ⊥
