-- What a search of a needle says of the places of a delimiter.
use mathlib.Core.Path.{subst₂}
use Rattle.std.proofs.Common.{◌≡◌, ℕ, ◌+◌, ◌-◌, ◌<◌, ◌≤◌, List, Some, None, length, take, drop, ap, sym, ◌∙◌, arith}
use Rattle.std.proofs.lemmas.List.{drop-drop, length-drop}
use Rattle.memchr.specs.Find.{FindsNeedle, OccursAt}
use Rattle.memchr.proofs.lemmas.MatchLemmas.{OccursAt-part, OccursAt-from_part}
use Rattle.ild_schema.specs.Joins.{Occurs}
use Rattle.ild_text.specs.inside.Find.{IsNext}
use Rattle.ild_text.proofs.Begins.{occurs_inside}

-- an occurrence behind a place is one in what begins there
needle_there : (d t : List ℕ) (from at : ℕ) → 0 < length d → from ≤ at → Occurs d t at → OccursAt (drop from t) d (at - from)
needle_there d t from at some le o =
    OccursAt-from_part (drop from t) d (at - from)
    (omega (arith, occurs_inside d t at some o, length-drop from t))
    (ap (take (length d)) (drop-drop (at - from) from t ∙ ap (λ n. drop n t) (omega arith)) ∙ o)

pub found_next : (d t needle bs : List ℕ) (from i : ℕ) → 0 < length d → needle ≡ d → bs ≡ drop from t → FindsNeedle bs needle 0 (Some i) → IsNext d t from (from + i)
found_next d t needle bs from i some n e f =
    let g : FindsNeedle (drop from t) d 0 (Some i) = subst₂ (λ xs ys. FindsNeedle xs ys 0 (Some i)) e n f in
    record {
      behind = omega arith;
      here = ap (take (length d)) (sym (drop-drop i from t)) ∙ OccursAt-part (drop from t) d i g.1;
      first = λ at le lt o. g.0.before (at - from) (omega arith) (omega arith) (needle_there d t from at some le o);
    }

pub found_none : (d t needle bs : List ℕ) (from : ℕ) → 0 < length d → needle ≡ d → bs ≡ drop from t → FindsNeedle bs needle 0 None → (at : ℕ) → from ≤ at → Occurs d t at → ⊥
found_none d t needle bs from some n e f at le o =
    let g : FindsNeedle (drop from t) d 0 None = subst₂ (λ xs ys. FindsNeedle xs ys 0 None) e n f in
    let there = needle_there d t from at some le o in
    g (at - from) (omega arith) (omega (arith, there.fits)) there
