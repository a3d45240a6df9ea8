use Rattle.std.proofs.Math.Logic.{∥∥₁_map}
use Rattle.std.proofs.lemmas.List.{take_rest}
use Rattle.ild_parse.proofs.Inputs.{AllByRecursion-tail}
use Rattle.ild_parse.proofs.input.Input.rest.Goals as goal

pub invariant_of-result : goal.invariant_of-result
invariant_of-result c = record { spans = ∥∥₁_map c.args.self.spans (λ h. rw (take_rest c.args.self.rest.now 1) (AllByRecursion-tail _ c.args.self.rest.now h)) }
