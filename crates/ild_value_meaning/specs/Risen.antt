-- Values whose maps rise: what a tree can mean, since the entries of a tree's maps rise.
use Rattle.ild_data.specs.Key.{Rises}
use Rattle.ild_schema.specs.Value.{Value, null, boolean, integer, text, bytes, link, list, map, struct, union, enum, unit, any, hamt, Values, no_values, value, Pairs, no_pairs, pair, pairs_list, Optionals, no_optionals, absent, present}

-- every map in a value rises, a pair map too, and of no HAMT the root alone is known
abbrev mutual
  pub MapsRise : Value → Type 0
  MapsRise null = Unit {0}
  MapsRise (boolean b) = Unit {0}
  MapsRise (integer n) = Unit {0}
  MapsRise (text s) = Unit {0}
  MapsRise (bytes s) = Unit {0}
  MapsRise (link s) = Unit {0}
  MapsRise (list vs) = AllRise vs
  MapsRise (map ps) = Rises (pairs_list ps) × EntriesRise ps
  MapsRise (struct os) = FieldsRise os
  MapsRise (union n v) = MapsRise v
  MapsRise (enum n) = Unit {0}
  MapsRise unit = Unit {0}
  MapsRise (any d) = Unit {0}
  MapsRise (hamt d) = ⊥

  pub AllRise : Values → Type 0
  AllRise no_values = Unit {0}
  AllRise (value v vs) = MapsRise v × AllRise vs

  pub EntriesRise : Pairs → Type 0
  EntriesRise no_pairs = Unit {0}
  EntriesRise (pair k v ps) = MapsRise v × EntriesRise ps

  pub FieldsRise : Optionals → Type 0
  FieldsRise no_optionals = Unit {0}
  FieldsRise (absent os) = FieldsRise os
  FieldsRise (present v os) = MapsRise v × FieldsRise os
