use Rattle.std.proofs.Common.{◌∙◌}
use Rattle.ild_text.proofs.Behind.{strips_bytes}
use Rattle.ild_text.proofs.mark.behind_bytes.Goals as goal

pub returns-in-Text : goal.returns-in-Text
returns-in-Text c =
    strips_bytes c.args.mark.now c.in-Text.digits c.as_bytes.result.now c.args.bytes.now _ c.in-Text.is (c.as_bytes.ensures.value ∙ c.as_str.ensures.same) c.behind_digits.ensures
