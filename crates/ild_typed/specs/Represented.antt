-- The representation of a value: that of its layer, made of those of its parts (IPLD Schemas, "Representation
-- Strategies"). Of fronts: the same, where the root map of a HAMT stands for itself.
use Rattle.std.specs.Prelude.{ℕ, cond, List, [], ◌∷◌, Option, Some, None, option_map, option_and_then}
use Rattle.ild_data.specs.Data as T
use Rattle.ild_data.specs.Data.{Data}
use Rattle.ild_schema.specs.declared.number.Slot.{Slot}
use Rattle.ild_schema.specs.declared.def.Field.{Field}
use Rattle.ild_schema.specs.declared.def.TypeDef.{TypeDef}
use Rattle.ild_schema.specs.declared.row.Row.{Row}
use Rattle.ild_schema.specs.Value as V
use Rattle.ild_schema.specs.Value.{Value, Values, Pairs, Optionals}
use Rattle.ild_typed.specs.Layer as L
use Rattle.ild_typed.specs.Layer.{Layer}
use Rattle.ild_typed.specs.Strings.{cons_both}
use Rattle.ild_schema.specs.Slots.{form_of}
use Rattle.ild_typed.specs.Slots.{element_of, fields_of, member_of}
use Rattle.ild_typed.specs.Composed.{Hamts, composed}

abbrev pub layered : Hamts → Option TypeDef → Option (Layer Data) → Option Data
layered at None l = None
layered at (Some d) l = option_and_then (composed at d) l

abbrev mutual
  pub represented : Hamts → List Row → Slot → Value → Option Data
  represented at rows s V.null = cond s.nullable (Some T.null) None
  represented at rows s (V.boolean b) = layered at (form_of rows s) (Some (L.boolean b))
  represented at rows s (V.integer n) = layered at (form_of rows s) (Some (L.integer n))
  represented at rows s (V.text t) = layered at (form_of rows s) (Some (L.text t))
  represented at rows s (V.bytes t) = layered at (form_of rows s) (Some (L.bytes t))
  represented at rows s (V.link t) = layered at (form_of rows s) (Some (L.link t))
  represented at rows s (V.any d) = layered at (form_of rows s) (Some (L.any d))
  represented at rows s V.unit = layered at (form_of rows s) (Some L.unit)
  represented at rows s (V.enum n) = layered at (form_of rows s) (Some (L.enum n))
  represented at rows s (V.hamt d) = layered at (form_of rows s) (Some (L.hamt d))
  represented at rows s (V.list vs) =
      layered at (form_of rows s) (option_map L.list (option_and_then (λ u. represented_values at rows u vs) (element_of (form_of rows s))))
  represented at rows s (V.map ps) =
      layered at (form_of rows s) (option_map L.map (option_and_then (λ u. represented_pairs at rows u ps) (element_of (form_of rows s))))
  represented at rows s (V.struct os) =
      layered at (form_of rows s) (option_map L.struct (represented_fields at rows (fields_of (form_of rows s)) os))
  represented at rows s (V.union n v) =
      layered at (form_of rows s) (option_map (L.union n) (option_and_then (λ u. represented at rows u v) (member_of (form_of rows s) n)))

  pub represented_values : Hamts → List Row → Slot → Values → Option (List Data)
  represented_values at rows s V.no_values = Some []
  represented_values at rows s (V.value v vs) = cons_both (represented at rows s v) (represented_values at rows s vs)

  pub represented_pairs : Hamts → List Row → Slot → Pairs → Option (List (List ℕ × Data))
  represented_pairs at rows s V.no_pairs = Some []
  represented_pairs at rows s (V.pair k v ps) = cons_both (option_map (λ d. (k, d)) (represented at rows s v)) (represented_pairs at rows s ps)

  pub represented_fields : Hamts → List Row → List Field → Optionals → Option (List (Option Data))
  represented_fields at rows fs V.no_optionals = Some []
  represented_fields at rows [] (V.absent os) = None
  represented_fields at rows [] (V.present v os) = None
  represented_fields at rows (f ∷ fs) (V.absent os) = option_map (λ ds. None ∷ ds) (represented_fields at rows fs os)
  represented_fields at rows (f ∷ fs) (V.present v os) =
      cons_both (option_map Some (represented at rows f.slot v)) (represented_fields at rows fs os)
