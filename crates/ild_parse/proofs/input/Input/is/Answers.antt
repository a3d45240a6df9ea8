use Rattle.std.proofs.Common.{◌∙◌}
use Rattle.ild_parse.proofs.Texts.{begins_by_place}
use Rattle.ild_parse.proofs.input.Input.is.Goals as goal

pub returns-in-len1-up : goal.returns-in-len1-up
returns-in-len1-up c = c.eq.ensures ∙ begins_by_place c.args.word.now c.as_bytes.result.now c.args.self.src.now c.args.self.rest.now _ c.as_bytes.ensures.value c.args.self.spans c.in-len1-up.len_at_least
