use Rattle.ild_schema.proofs.Legibly.{legible}
use Rattle.ild_schema.specs.Slots.{plainly}
use Rattle.ild_data.specs.Limits.{deepest}
use Rattle.ild_beneath.proofs.Heights.{fits_high}
use Rattle.ild_beneath.proofs.Reading.{reads}
use Rattle.ild_beneath.proofs.children_are_places.Goals as goal

pub returns : goal.returns
returns c = λ h rows schema ty v t storable.
    let high = fits_high rows deepest (plainly ty) v storable.fits in
    reads h rows (legible rows schema.accepted).clear schema.table.texts.spelled ty (plainly ty) v t deepest storable.tree high storable.fits
