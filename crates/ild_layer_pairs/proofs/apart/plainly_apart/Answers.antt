use Rattle.std.proofs.Common.{IfSome, subst}
use Rattle.ild_data.specs.Data.{Items, items_list}
use Rattle.ild_cbor.specs.Steps.{HasItems}
use Rattle.ild_layer_pairs.specs.Apart.{AreDigested}
use Rattle.ild_layer_pairs.proofs.Digesting.{judged_apart}
use Rattle.ild_layer_pairs.proofs.apart.plainly_apart.Goals as goal

pub returns-in-Some : goal.returns-in-Some
returns-in-Some c = λ yes ds has.
    let digested = subst (λ o. IfSome o (λ v. (es : Items) → HasItems c.args.items es → AreDigested (items_list es) v.items)) c.in-Some.is c.in_ok-numbers.ensures in
    judged_apart (items_list ds) c.in-Some.numbers.items (digested ds has) (c.are_apart.ensures yes)
