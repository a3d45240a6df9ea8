-- Whether the tuple around a part has a hole with it, or without it where it is deleted.
use Rattle.std.specs.Prelude.{◌≡◌, ℕ, Bool, false, List, [], ◌∷◌, Some}
use Rattle.ild_path_judged.specs.Place.{last_of}
use Rattle.ild_path_place.specs.declared.verb.Verb.{Verb}
use Rattle.ild_path_place.specs.declared.verb.Verb.TheVariants as V
use Rattle.ild_path_room.specs.Hole.{TellsHole}
use Rattle.ild_path_room.specs.declared.hole.PartMotion.TheVariants as E
use Rattle.ild_schema.specs.declared.row.Row.{Row}
use Rattle.ild_typed.specs.At.{InSlot}

-- at a segment of a holder
abbrev pub VerbHole : List Row → InSlot → List ℕ → Verb → Bool → Type 0
VerbHole rows q s V.Set b = TellsHole rows q s E.Comes b
VerbHole rows q s V.Ins b = TellsHole rows q s E.Comes b
VerbHole rows q s V.Del b = TellsHole rows q s E.Goes b

-- at the end of a path
abbrev pub HoleIs : List Row → InSlot → List (List ℕ) → Verb → Bool → Type 0
HoleIs rows p [] verb b = b ≡ false
HoleIs rows p (s ∷ ss) verb b = (l : InSlot × List ℕ) → last_of rows p (s ∷ ss) ≡ Some l → VerbHole rows l.0 l.1 verb b
