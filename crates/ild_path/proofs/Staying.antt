-- Places stay over a store that grows.
use Rattle.ild_path_place.proofs.Staying.{place_stays}
use Rattle.ild_path.specs.PlaceLaws.{PlacesStay}

pub places_stay : PlacesStay
places_stay = λ h rows was now p path verb place keeps x. place_stays h rows was now keeps p path verb place x
