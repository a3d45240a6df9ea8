-- What is read of one pair of a list (IPLD Schemas, "listpairs").
use Rattle.std.specs.Prelude.{◌≡◌, true, false, [], ◌∷◌}
use Rattle.ild_data.specs.Data as T
use Rattle.ild_data.specs.Data.{Data}
use Rattle.ild_cbor.specs.Nodes.{HasData}
use Rattle.ild_typed.specs.Named.{entry_of, is_pair, is_two, items_or, name_of}
use Rattle.ild_typed.specs.Strings.{pair_data}
use Rattle.ild_layer_fields.specs.declared.pair.Pair.{Pair}
use Rattle.ild_layer_fields.specs.declared.pair.Pair.TheVariants as P

abbrev pub IsPairOf : Data → Pair → Type 0
IsPairOf d P.Odd = is_pair d ≡ false
IsPairOf d P.Empty = d ≡ T.list T.no_items
IsPairOf d (P.Name k) = (is_pair d ≡ true) × (is_two d ≡ false) × (name_of (items_or d) ≡ k.now ∷ []) × (entry_of (items_or d) ≡ [])
IsPairOf d (P.Entry k n) = (v : Data) × (d ≡ pair_data (k.now, v)) × HasData n v
