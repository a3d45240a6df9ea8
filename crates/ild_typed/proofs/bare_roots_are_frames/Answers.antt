use Rattle.std.proofs.Common.{arith}
use Rattle.ild_typed.proofs.bare_roots_are_frames.Goals as goal

pub returns : goal.returns
returns c = record { less = omega arith; apart = λ c d same. same; fits = λ d tree. tree; blocks = tt }
