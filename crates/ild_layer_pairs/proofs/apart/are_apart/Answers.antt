use Rattle.std.proofs.Common.{sym, ◌∙◌, ap}
use Rattle.std.proofs.Common.{None}
use Rattle.ild_layer_pairs.specs.Apart.{climbs}
use Rattle.ild_layer_pairs.proofs.Digesting.{sorted_apart}
use Rattle.ild_layer_pairs.proofs.apart.are_apart.Goals as goal

pub returns : goal.returns
returns c = λ yes.
    sorted_apart c.args.numbers.now.items c.sort_unstable.new.self.items c.sort_unstable.ensures.permutation (ap (climbs None) (sym c.as_slice.ensures.value) ∙ sym c.climb.ensures ∙ yes)
