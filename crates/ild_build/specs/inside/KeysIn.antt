-- The keys of a map, as texts of its key type (IPLD Schemas, "Map").
use Rattle.std.specs.Prelude.{◌≡◌, List, Some}
use Rattle.std.specs.List.{AllByRecursion}
use Rattle.ild_data.specs.Data as T
use Rattle.ild_data.specs.Data.{Data}
use Rattle.ild_schema.specs.declared.number.Slot.{Slot}
use Rattle.ild_schema.specs.declared.def.TypeDef.{TypeDef}
use Rattle.ild_schema.specs.declared.def.TypeDef.TheVariants as D
use Rattle.ild_schema.specs.declared.row.Row.{Row}
use Rattle.ild_schema.specs.Slots.{plainly}
use Rattle.ild_schema.specs.Value as V
use Rattle.ild_schema.specs.Value.{Value, pairs_list}
use Rattle.ild_typed.specs.Layer.{Layer}
use Rattle.ild_typed.specs.Layers.{layer_of, RepresentsSome}

-- each key of the layer is a text for which some value stands that fits
abbrev pub KeysIn : (Slot → Value → Type 0) → List Row → TypeDef → Value → Type 0
KeysIn fits rows (D.Map key key_at value at form) (V.map ps) = AllByRecursion (λ p. RepresentsSome fits rows (plainly key) (T.text p.0)) (pairs_list ps)
KeysIn fits rows d v = Unit {0}

-- what is known of a value that is no root of a HAMT, not null and not of Any
pub record IsPlainLayer (v : Value) : Type 0 where
  pub layer : Layer Value
  pub is : layer_of v ≡ Some layer
  pub no_root : (x : Data) → v ≡ V.hamt x → ⊥
  pub no_any : (x : Data) → v ≡ V.any x → ⊥
