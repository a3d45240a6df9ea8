-- What an item of a list of pairs is (IPLD Schemas, "listpairs").
use Rattle.std.specs.Prelude.{◌≡◌, true, false}
use Rattle.ild_data.specs.Data.{Data}
use Rattle.ild_cbor.specs.Nodes.{HasData}
use Rattle.ild_typed.specs.Named.{is_pair, is_two}
use Rattle.ild_typed.specs.Strings.{pair_data}
use Rattle.ild_layer_pairs.specs.declared.shape.Shape.{Shape}
use Rattle.ild_layer_pairs.specs.declared.shape.Shape.TheVariants as P

abbrev pub IsShape : Data → Shape → Type 0
IsShape d P.Odd = is_pair d ≡ false
IsShape d P.Other = (is_pair d ≡ true) × (is_two d ≡ false)
IsShape d (P.Pair k n) = (v : Data) × (d ≡ pair_data (k.now, v)) × HasData n v
