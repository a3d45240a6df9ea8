-- Values whose links tell nothing but how long they are.
use Rattle.ild_data_alike.specs.Blank.{blank, blank_link}
use Rattle.ild_schema.specs.Value as V
use Rattle.ild_schema.specs.Value.{Value, Values, Pairs, Optionals}
use Rattle.ild_typed.specs.At.{InSlot}

abbrev mutual
  pub blank_value : Value → Value
  blank_value V.null = V.null
  blank_value (V.boolean b) = V.boolean b
  blank_value (V.integer n) = V.integer n
  blank_value (V.text s) = V.text s
  blank_value (V.bytes s) = V.bytes s
  blank_value (V.link s) = V.link (blank_link s)
  blank_value (V.list vs) = V.list (blank_values vs)
  blank_value (V.map ps) = V.map (blank_pairs ps)
  blank_value (V.struct os) = V.struct (blank_optionals os)
  blank_value (V.union n v) = V.union n (blank_value v)
  blank_value (V.enum n) = V.enum n
  blank_value V.unit = V.unit
  blank_value (V.any d) = V.any (blank d)
  blank_value (V.hamt d) = V.hamt (blank d)

  pub blank_values : Values → Values
  blank_values V.no_values = V.no_values
  blank_values (V.value v vs) = V.value (blank_value v) (blank_values vs)

  pub blank_pairs : Pairs → Pairs
  blank_pairs V.no_pairs = V.no_pairs
  blank_pairs (V.pair k v ps) = V.pair k (blank_value v) (blank_pairs ps)

  pub blank_optionals : Optionals → Optionals
  blank_optionals V.no_optionals = V.no_optionals
  blank_optionals (V.absent os) = V.absent (blank_optionals os)
  blank_optionals (V.present v os) = V.present (blank_value v) (blank_optionals os)

-- in its slot
abbrev pub blank_in : InSlot → InSlot
blank_in p = (p.0, blank_value p.1)
