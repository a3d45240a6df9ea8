use Rattle.std.proofs.Common.{ℕ, List, length, take, drop, ◌-◌, ◌≡◌, ◌∙◌, ap, sym, arith}
use Rattle.std.proofs.lemmas.List.{take_all, length-drop}
use Rattle.ild_cbor.proofs.Leaves.{leaf_passed, some_as}
use Rattle.ild_cbor.proofs.skip.behind_leaf.Goals as goal

pub returns-clause-gives : goal.returns-clause-gives
returns-clause-gives c =
    let b : List ℕ = c.args.bytes.now in
    let k : ℕ = c.in_ok-size.size in
    some_as _ _ c.get.result c.get.ensures.lookup.0 (λ x p major n rest lt e.
    let whole : take (length b - k) (drop k b) ≡ drop k b = take_all (length b - k) (drop k b) (omega (arith, length-drop k b)) in
    let tail : x.now ≡ drop k b = p.2 ∙ whole in
    leaf_passed b c.in_ok-first.field-0.now k major n rest c.in_ok-first.ensures.value c.in_ok-size.ensures p.0 lt e ∙ ap (λ (t : List ℕ). (0, t)) (sym tail))
