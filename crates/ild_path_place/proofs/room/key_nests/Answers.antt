use Rattle.ild_path_place.proofs.room.key_nests.Goals as goal

pub returns-in-Map : goal.returns-in-Map
returns-in-Map c = rw c.in-Map.is c.fits_text.ensures
