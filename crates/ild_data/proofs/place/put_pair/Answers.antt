use Rattle.std.proofs.Common.{sym, ap, ◌∙◌, map}
use Rattle.ild_data.specs.Seen.{pair_of}
use Rattle.ild_data.proofs.Places.{seen_put}
use Rattle.ild_data.proofs.place.put_pair.Goals as goal

pub returns-in-Ok-clause-ok : goal.returns-in-Ok-clause-ok
returns-in-Ok-clause-ok c =
    let put = rw (c.deref.ensures.value, c.as_str.ensures.same) at c.in-Ok.ensures.set in
    ap (map pair_of) (sym (put c.args.tree)) ∙ seen_put c.args.key c.args.tree c.args.pairs.now.items

pub returns-in_ok-insert-in-Err-clause-ok : goal.returns-in_ok-insert-in-Err-clause-ok
returns-in_ok-insert-in-Err-clause-ok c =
    let put = rw (c.deref.ensures.value, c.as_str.ensures.same) at c.in-Err.ensures.inserted in
    ap (map pair_of) (c.in_ok-insert-in-Err.ensures.items ∙ sym (put c.args.tree)) ∙ seen_put c.args.key c.args.tree c.args.pairs.now.items
