use Rattle.std.proofs.Common.{◌∙◌, sym, ap}
use Rattle.std.specs.Prelude.{◌++◌, ◌∷◌, []}
use Rattle.ild_data.specs.Data.{items_list, items_of, list}
use Rattle.ild_data.proofs.Lists.{items_of-items_list}
use Rattle.ild_data.specs.Seen.{data_of}
use Rattle.ild_value_parts.proofs.named.push_named.Goals as goal

pub returns : goal.returns
returns c =
    let pair = sym (items_of-items_list c.push-2.new.self) ∙ ap items_of (c.in_ok-push-2.ensures.ok ∙ ap (λ xs. xs ++ data_of c.args.part ∷ []) (c.in_ok-push.ensures.ok ∙ ap (λ ts. items_list ts ++ data_of c.args.name ∷ []) c.new-pair.ensures)) in
    c.in_ok-push-3.ensures.ok ∙ ap (λ d. items_list c.args.pairs.now ++ list d ∷ []) pair
