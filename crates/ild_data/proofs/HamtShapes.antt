-- Shapes of HAMTs are told apart by their two numbers.
use Rattle.std.proofs.Common.{◌≡◌, ℕ, ◌≤◌, ap, subst, ◌∙◌}
use Rattle.std.proofs.Math.Bridge.{le_prop}
use Rattle.ild_data.specs.declared.hamt_shape.HamtShape.{HamtShape}

abbrev made : (width bucket : ℕ) → 3 ≤ width → width ≤ 8 → 1 ≤ bucket → bucket ≤ 16 → HamtShape
made width bucket wide narrow filled small = record { width = width; bucket = bucket; wide = wide; narrow = narrow; filled = filled; small = small }

one-shape : (p : HamtShape) (wide : 3 ≤ p.width) (narrow : p.width ≤ 8) (filled : 1 ≤ p.bucket) (small : p.bucket ≤ 16)
    → p ≡ made p.width p.bucket wide narrow filled small
one-shape p wide narrow filled small =
    ap (λ x. made p.width p.bucket x p.narrow p.filled p.small) (le_prop p.wide wide)
    ∙ ap (λ x. made p.width p.bucket wide x p.filled p.small) (le_prop p.narrow narrow)
    ∙ ap (λ x. made p.width p.bucket wide narrow x p.small) (le_prop p.filled filled)
    ∙ ap (λ x. made p.width p.bucket wide narrow filled x) (le_prop p.small small)

pub same-shape : (p q : HamtShape) → p.width ≡ q.width → p.bucket ≡ q.bucket → p ≡ q
same-shape p q width bucket =
    subst (λ w. (wide : 3 ≤ w) (narrow : w ≤ 8) → p ≡ made w q.bucket wide narrow q.filled q.small) width
    (subst (λ b. (filled : 1 ≤ b) (small : b ≤ 16) (wide : 3 ≤ p.width) (narrow : p.width ≤ 8) → p ≡ made p.width b wide narrow filled small) bucket
    (λ filled small wide narrow. one-shape p wide narrow filled small) q.filled q.small)
    q.wide q.narrow
