-- Whole values: no HAMT stands in them as its root map alone.
use Rattle.std.specs.Prelude.{Bool, true, false, ◌&&◌}
use Rattle.ild_schema.specs.Value as V
use Rattle.ild_schema.specs.Value.{Value, Values, Pairs, Optionals}

abbrev mutual
  pub is_whole : Value → Bool
  is_whole (V.hamt d) = false
  is_whole (V.list vs) = are_whole vs
  is_whole (V.map ps) = pairs_whole ps
  is_whole (V.struct os) = fields_whole os
  is_whole (V.union n v) = is_whole v
  is_whole v = true

  pub are_whole : Values → Bool
  are_whole V.no_values = true
  are_whole (V.value v vs) = is_whole v && are_whole vs

  pub pairs_whole : Pairs → Bool
  pairs_whole V.no_pairs = true
  pairs_whole (V.pair k v ps) = is_whole v && pairs_whole ps

  pub fields_whole : Optionals → Bool
  fields_whole V.no_optionals = true
  fields_whole (V.absent os) = fields_whole os
  fields_whole (V.present v os) = is_whole v && fields_whole os
