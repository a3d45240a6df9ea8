-- What a place is made of.
use Rattle.std.specs.Prelude.{◌≡◌, List}
use Rattle.ild_path_hops.specs.declared.hop.Hop.{Hop}
use Rattle.ild_path_place.specs.declared.parts.Parts.{Parts}
use Rattle.ild_path_place.specs.declared.place.End.{End}
use Rattle.ild_path_place.specs.declared.place.Place.{Place}
use Rattle.ild_path_place.specs.declared.verb.Verb.{Verb}

abbrev pub verb_in : Place → Verb
verb_in place = place.verb

abbrev pub hops_in : Place → List Hop
hops_in place = place.hops.items

abbrev pub end_in : Place → End
end_in place = place.end

pub record ArePartsOf (place : Place) (parts : Parts) : Type 0 where
  pub root : parts.root ≡ place.root
  pub verb : parts.verb ≡ place.verb
  pub hops : parts.hops ≡ place.hops
  pub end : parts.end ≡ place.end
