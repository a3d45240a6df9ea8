-- The way that is told of a part: that of the spot for which it is handed out.
use Rattle.std.specs.Prelude.{◌≡◌, List, [], ◌∷◌, Option, Some, None}
use Rattle.ild_layer_places.specs.Places.{steps_of}
use Rattle.ild_layer_places.specs.declared.way.Way.{Way}
use Rattle.ild_typed.specs.Spots.{Spot}
use Rattle.ild_layer_parts.specs.declared.part.Part.{Part}

abbrev pub LeadsWay : Way → List Spot → Type 0
LeadsWay way [] = Unit {0}
LeadsWay way (p ∷ ps) = steps_of way ≡ p.at

abbrev pub LeadsFirst : Part → List Spot → Type 0
LeadsFirst x ps = LeadsWay x.way ps

abbrev pub LeadsTo : Option Part → List Spot → Type 0
LeadsTo None ps = Unit {0}
LeadsTo (Some x) ps = LeadsFirst x ps
