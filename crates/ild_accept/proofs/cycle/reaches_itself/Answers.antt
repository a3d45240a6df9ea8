use Rattle.std.proofs.Common.{◌≡◌, ◌<◌, length, false, arith, ◌∙◌, ap, refl}
use Rattle.std.proofs.lemmas.List.{length-replicate, get_or_default}
use Rattle.ild_schema.specs.Cycles.{steps_at}
use Rattle.ild_accept.proofs.Searches.{search_begins, search_goes, search_ends, unmarked, empty_of_length}
use Rattle.ild_accept.proofs.cycle.reaches_itself.Goals as goal

pub loop-n-init : goal.loop-n-init
loop-n-init c =
    let size : length c.in_ok-seen.seen.items ≡ length c.args.schema.now = ap length c.in_ok-seen.ensures ∙ length-replicate (length c.args.schema.now) false in
    search_begins c.args.schema.now c.args.from.0 (steps_at c.args.schema.now c.args.from.0) c.in_ok-seen.seen.items c.push_steps.new.seen.items c.new-stack.result.items c.push_steps.new.stack.items c.new-stack.ensures.items size
    (unmarked (length c.args.schema.now) c.in_ok-seen.seen.items c.in_ok-seen.ensures) refl c.in_ok-push_steps.ensures

pub loop-n-preserved : goal.loop-n-preserved
loop-n-preserved c =
    search_goes c.args.schema.now c.args.from.0 c.in-Some.n (steps_at c.args.schema.now c.in-Some.n) c.loop-n.stack.items c.loop-n.seen.items c.push_steps-in-Some.new.seen.items c.pop.new.self.items c.push_steps-in-Some.new.stack.items c.in-Some.ensures.items
    refl c.loop-n.invariant c.in_ok-push_steps-2.ensures

pub returns : goal.returns
returns c =
    let nothing : length c.loop-n.stack.items ≡ 0 = omega (arith, c.in_default.ensures.cases.0) in
    let within : c.args.from.0 < length c.loop-n.seen.items = omega (arith, c.loop-n.invariant.size, c.requires) in
    search_ends c.args.schema.now c.args.from.0 c.loop-n.seen.items c.loop-n.stack.items c.index.result.now (empty_of_length c.loop-n.stack.items nothing) c.loop-n.invariant
    (c.index.ensures ∙ get_or_default c.loop-n.seen.items c.args.from.0 c.index.result.now false within)
