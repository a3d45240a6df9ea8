use Rattle.ild_value_meaning.proofs.Mismatched.{nothing_where_broken}
use Rattle.ild_value_meaning.proofs.laws.nothing_is_meant_where_a_rule_is_broken.Goals as goal

pub returns : goal.returns
returns c = nothing_where_broken
