-- The part at a place, from one delimiter to the next.
use Rattle.std.proofs.Common.{◌≡◌, ℕ, suc, ◌+◌, ◌-◌, ◌<◌, ◌≤◌, List, [], ◌∷◌, Some, None, length, slice_get, ap, sym, ◌∙◌, subst, arith}
use Rattle.std.proofs.lemmas.Option.{slice_get_past}
use Rattle.ild_text.specs.Cut.{cut, halves}
use Rattle.ild_text.proofs.Steps.{Parted, Halved, Whole, parted}

-- how far a walk has come: the part at the place is, of what is left, the one at the places that are left
abbrev pub Walks : List ℕ → List ℕ → List ℕ → ℕ → ℕ → Type 0
Walks d t rest i k = slice_get (cut d rest) (i - k) ≡ slice_get (cut d t) i

by_rest : (d t : List ℕ) (h : List ℕ × List ℕ) (rest : List ℕ) → Halved d rest h → (i k : ℕ) → k < i → Walks d t rest i k → Walks d t h.1 i (k + 1)
by_rest d t h rest p i k lt w =
    ap (slice_get (h.0 ∷ cut d h.1)) (left i k lt) ∙ ap (λ ps. slice_get ps (i - k)) (sym p.parts) ∙ w
  where
    left : (i k : ℕ) → k < i → suc (i - (k + 1)) ≡ i - k
    left i k lt = omega arith

pub walk_goes : (d t rest front back : List ℕ) → 0 < length d → Some (front, back) ≡ halves d rest → (i k : ℕ) → k < i → Walks d t rest i k → Walks d t back i (k + 1)
walk_goes d t rest front back some e i k lt w =
    by_rest d t (front, back) rest (subst (Parted d rest) (sym e) (parted d rest some)) i k lt w

pub walk_fails : (d t rest : List ℕ) → 0 < length d → None ≡ halves d rest → (i k : ℕ) → k < i → Walks d t rest i k → None ≡ slice_get (cut d t) i
walk_fails d t rest some e i k lt w =
    let p : Whole d rest = subst (Parted d rest) (sym e) (parted d rest some) in
    sym (slice_get_past (rest ∷ []) (i - k) (omega arith)) ∙ ap (λ ps. slice_get ps (i - k)) (sym p.part) ∙ w

at_end : (i k : ℕ) → i ≤ k → 0 ≡ i - k
at_end i k le = omega arith

pub walk_finds : (d t rest front back : List ℕ) → 0 < length d → Some (front, back) ≡ halves d rest → (i k : ℕ) → i ≤ k → Walks d t rest i k → Some front ≡ slice_get (cut d t) i
walk_finds d t rest front back some e i k le w =
    let p : Halved d rest (front, back) = subst (Parted d rest) (sym e) (parted d rest some) in
    ap (slice_get (front ∷ cut d back)) (at_end i k le) ∙ ap (λ ps. slice_get ps (i - k)) (sym p.parts) ∙ w

pub walk_ends : (d t rest : List ℕ) → 0 < length d → None ≡ halves d rest → (i k : ℕ) → i ≤ k → Walks d t rest i k → Some rest ≡ slice_get (cut d t) i
walk_ends d t rest some e i k le w =
    let p : Whole d rest = subst (Parted d rest) (sym e) (parted d rest some) in
    ap (slice_get (rest ∷ [])) (at_end i k le) ∙ ap (λ ps. slice_get ps (i - k)) (sym p.part) ∙ w
