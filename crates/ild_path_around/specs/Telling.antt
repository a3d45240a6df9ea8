-- What a place tells of an edit, in whose terms the texts around it are said: handed on to those who ask both.
pub use Rattle.ild_path_tells.specs.Facts.{key_at, refusal_at, unless_some, verb_of}
pub use Rattle.ild_path_tells.specs.Tells.{FaultsAreRefusals, FaultsRefuse, IsPlaceIn, PlacesTell, PlacesTellOn}
