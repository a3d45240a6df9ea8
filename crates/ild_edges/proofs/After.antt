-- Later moments of inputs: one after another.
use Rattle.std.proofs.Common.{refl, ◌∙◌, arith}
use Rattle.ild_edges.specs.Inputs.{Supply, After}

pub After-refl : (m : Supply) → After m m
After-refl m = record { files = refl; lacks = omega arith; faults = omega arith }

pub After-trans : (m n o : Supply) → After m n → After n o → After m o
After-trans m n o p q = record { files = q.files ∙ p.files; lacks = omega arith; faults = omega arith }

pub ruleset afters = (After-refl, After-trans)
