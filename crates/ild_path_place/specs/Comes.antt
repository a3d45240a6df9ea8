-- Whether a part comes to a place.
use Rattle.std.specs.Prelude.{Bool, true, false}
use Rattle.ild_path_place.specs.declared.verb.Verb.{Verb}
use Rattle.ild_path_place.specs.declared.verb.Verb.TheVariants as V

abbrev pub comes : Verb → Bool
comes V.Set = true
comes V.Ins = true
comes V.Del = false
