-- How a call ends, as its words ask: they run the generator, show the value under a root that names its schema or answer a script on
-- it, or are of some other form or of none.
use Rattle.std.specs.Prelude.{ℕ, List, Option, Some, None}
use Rattle.ild_run.specs.Ended.{Call, Ended}
use Rattle.ild_run.specs.Generator.{EndsGeneration}
use Rattle.ild_run.specs.Named.{EndsRoot}
use Rattle.ild_run.specs.NamedScript.{EndsScript}
use Rattle.ild_run.specs.declared.status.Status.{Status}

abbrev pub EndedBy : Option (ℕ × ℕ) → Option (List ℕ) → Option (List ℕ × List ℕ) → Call → Status → Type 0
EndedBy (Some g) root script c status = EndsGeneration g.1 g.0 c status
EndedBy None (Some id) script c status = EndsRoot id c status
EndedBy None None (Some s) c status = EndsScript s c status
EndedBy None None None c status = Ended c status
