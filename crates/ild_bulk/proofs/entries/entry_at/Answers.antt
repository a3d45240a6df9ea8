use Rattle.std.proofs.Common.{◌≡◌, ◌-◌, ◌∙◌, ap, arith, drop, length, take}
use Rattle.std.proofs.lemmas.List.{length-drop}
use Rattle.ild_bulk.proofs.entries.entry_at.Goals as goal

pub returns : goal.returns
returns c = λ within.
    let rest : c.split_at.result.1.now ≡ drop c.args.mark.now.from c.args.bytes.now = c.split_at.ensures.back ∙ ap (λ n. drop n c.args.bytes.now) (omega (arith, within, c.min.ensures)) in
    let long : length c.split_at.result.1.now ≡ length c.args.bytes.now - c.args.mark.now.from = ap length rest ∙ length-drop c.args.mark.now.from c.args.bytes.now in
    c.split_at-2.ensures.front ∙ ap (λ n. take n c.split_at.result.1.now) (omega (arith, within, long, c.min-2.ensures)) ∙ ap (take c.args.mark.now.len) rest
