use Rattle.std.proofs.Common.{◌++◌, ◌∷◌, [], ℕ, List, ap, ◌∙◌, string_bytes}
use Rattle.ild_data.proofs.Regroup.{letter_written}
use Rattle.ild_data.proofs.base32.push_letter.Goals as goal

pub returns-clause-text : goal.returns-clause-text
returns-clause-text c =
    letter_written (string_bytes c.args.out.now) (string_bytes c.push.new.self) c.args.held.now c.pull-number.new.self c.pull-number.result
    (c.in_ok-push.ensures.bytes ∙ ap (λ (b : List ℕ). string_bytes c.args.out.now ++ b) (c.push.ensures.ascii c.letter_of.ensures.ascii ∙ ap (λ (k : ℕ). k ∷ []) c.letter_of.ensures.same))
    c.pull-number.ensures.bits c.pull-number.ensures.small
