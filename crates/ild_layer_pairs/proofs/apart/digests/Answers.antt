use Rattle.std.proofs.Common.{sym, subst}
use Rattle.ild_layer_pairs.proofs.Digesting.{Digesting, digesting_begins, digesting_ends, digesting_more}
use Rattle.ild_layer_pairs.proofs.apart.digests.Goals as goal

pub loop-name-init : goal.loop-name-init
loop-name-init c = λ ds has. subst (λ ns. Digesting ds c.args.items ns) (sym c.new-found.ensures.items) (digesting_begins ds c.args.items has)

pub loop-name-preserved : goal.loop-name-preserved
loop-name-preserved c = λ ds has. rw (c.in_ok-push.ensures.items, c.digest.ensures)
    (digesting_more ds c.loop-name.left c.in-Some.behind c.loop-name.found.items c.in-Some.name.now c.in-Some.field-0-1 (c.loop-name.invariant ds has) (λ es h. c.in-Some.ensures.pair es h))

pub returns-in-None : goal.returns-in-None
returns-in-None c = λ ds has. digesting_ends ds c.loop-name.left c.next.new.self c.loop-name.found.items (c.loop-name.invariant ds has) c.in-None.ensures.steps
