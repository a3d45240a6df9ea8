use Rattle.std.proofs.Common.{◌∙◌, Some, ap}
use Rattle.ild_schema.specs.ValueSeen.{value_of}
use Rattle.ild_build_pass.proofs.maps.entry_at.Goals as goal

pub returns-in-Some : goal.returns-in-Some
returns-in-Some c = ap (λ k. Some (k, value_of c.in-Some.pair.now.1)) c.as_str.ensures.same ∙ c.in-Some.ensures
