use Rattle.std.proofs.Common.{ℤ, to_z-of_z, of_z, to_z, w64, SFits, sym, ◌∙◌, subst}
use Rattle.ild_json.proofs.Numbers.{negative_parsed}
use Rattle.ild_json.proofs.decimal.below_zero.Goals as goal

pub returns-in-Ok : goal.returns-in-Ok
returns-in-Ok c =
    let parsed = c.in-Ok.ensures.value.0 in
    let same = to_z-of_z (subst (λ (z : ℤ). SFits w64 z) (sym parsed.1) parsed.0.1) in
    negative_parsed c.args.text.now (to_z w64 (of_z w64 c.in-Ok.n)) parsed.0.0 parsed.0.1 (same ∙ parsed.1) c.if-n-lt0.true
