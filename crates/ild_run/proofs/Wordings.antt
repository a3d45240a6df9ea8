-- Words that have no form.
use Rattle.std.proofs.Common.{◌≡◌, ◌<◌, ◌≤◌, ℕ, List, [], ◌∷◌, length, Bool, false, cond, Some, None, refl, ap, ◌∙◌, arith}
use Rattle.std.specs.Prelude.{String, string_bytes, codes, get_or}
use Rattle.std.specs.declared.alloc.Global.{Global}
use Rattle.ild_data.specs.Key.{same_text}
use Rattle.ild_run.specs.Words.{job_of, checks}

pub none_few : (ws : List (String Global)) → length ws < 2 → None ≡ job_of ws
none_few [] few = refl
none_few (a ∷ []) few = refl
none_few (a ∷ b ∷ ws) few = absurd (omega (arith, few))

pub none_two : (ws : List (String Global)) (v : String Global) (t : List ℕ) → length ws ≡ 2 → v ≡ get_or ws 0 v → t ≡ string_bytes v → false ≡ same_text t (codes "check") → None ≡ job_of ws
none_two [] v t is first text other = absurd (omega (arith, is))
none_two (a ∷ []) v t is first text other = absurd (omega (arith, is))
none_two (a ∷ b ∷ []) v t is first text other =
    ap (λ (x : Bool). cond x (Some (checks (string_bytes b))) None) (other ∙ ap (λ (x : List ℕ). same_text x (codes "check")) (text ∙ ap string_bytes first))
none_two (a ∷ b ∷ c ∷ ws) v t is first text other = absurd (omega (arith, is))

pub none_three : (ws : List (String Global)) → length ws ≡ 3 → None ≡ job_of ws
none_three [] is = absurd (omega (arith, is))
none_three (a ∷ []) is = absurd (omega (arith, is))
none_three (a ∷ b ∷ []) is = absurd (omega (arith, is))
none_three (a ∷ b ∷ c ∷ []) is = refl
none_three (a ∷ b ∷ c ∷ d ∷ ws) is = absurd (omega (arith, is))

pub none_many : (ws : List (String Global)) → 7 ≤ length ws → None ≡ job_of ws
none_many [] many = absurd (omega (arith, many))
none_many (a ∷ []) many = absurd (omega (arith, many))
none_many (a ∷ b ∷ []) many = absurd (omega (arith, many))
none_many (a ∷ b ∷ c ∷ []) many = absurd (omega (arith, many))
none_many (a ∷ b ∷ c ∷ d ∷ []) many = absurd (omega (arith, many))
none_many (a ∷ b ∷ c ∷ d ∷ e ∷ []) many = absurd (omega (arith, many))
none_many (a ∷ b ∷ c ∷ d ∷ e ∷ f ∷ []) many = absurd (omega (arith, many))
none_many (a ∷ b ∷ c ∷ d ∷ e ∷ f ∷ g ∷ ws) many = refl
