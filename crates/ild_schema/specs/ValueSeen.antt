-- The value that a `Val` of the program stands for, one level at a time: what is inside is seen as a value already.
use Rattle.std.specs.Prelude.{ℕ, List, Option, map, option_map}
use Rattle.ild_data.specs.Seen.{data_of}
use Rattle.ild_schema.specs.Value.{Value, null, boolean, integer, text, bytes, link, list, map as map_of, struct, union, enum, unit, any, Values, values_of, Pairs, pairs_of, Optionals, optionals_of}
use Rattle.ild_schema.specs.declared.val.Val.{Val}
use Rattle.ild_schema.specs.declared.val.Val.TheVariants as V
use Rattle.ild_schema.specs.declared.val.Vals.TheInside as VS
use Rattle.ild_schema.specs.declared.val.ValPairs.TheInside as PS
use Rattle.ild_schema.specs.declared.val.ValFields.TheInside as FS
use Rattle.ild_schema.specs.declared.val.ValPart.TheInside as P

abbrev pub value_of : Val → Value
value_of V.Null = null
value_of (V.Bool b) = boolean b
value_of (V.Int n) = integer n
value_of (V.Text s) = text s
value_of (V.Bytes s) = bytes s
value_of (V.Link s) = link s
value_of (V.List vs) = list vs
value_of (V.Map ps) = map_of ps
value_of (V.Struct os) = struct os
value_of (V.Union n v) = union n v
value_of (V.Enum n) = enum n
value_of V.Unit = unit
value_of (V.Any t) = any (data_of t)

abbrev pub values_seen : VS.Inside → Values
values_seen a = values_of (map value_of a.items.items)

abbrev pub pair_of : List ℕ × Val → List ℕ × Value
pair_of p = (p.0, value_of p.1)

abbrev pub pairs_seen : PS.Inside → Pairs
pairs_seen a = pairs_of (map pair_of a.pairs.items)

abbrev pub optional_of : Option Val → Option Value
optional_of o = option_map value_of o

abbrev pub optionals_seen : FS.Inside → Optionals
optionals_seen a = optionals_of (map optional_of a.fields.items)

abbrev pub part_seen : P.Inside → Value
part_seen a = value_of a.val.value
