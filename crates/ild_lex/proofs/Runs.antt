-- Runs of bytes of one class: all that is passed over passes, and what is left begins with a byte that doesn't.
use Rattle.std.proofs.Common.{◌≡◌, ℕ, Bool, true, false, cond, List, [], ◌∷◌, ◌++◌, refl, ap}
use Rattle.std.specs.List.{list_all}
use Rattle.std.proofs.lemmas.Bool.{and_parts, and_from}
use Rattle.ild_lex.specs.inside.Scan.{skip_while}

-- the bytes begin with none that passes
abbrev pub Begins : (ℕ → Bool) → List ℕ → Type 0
Begins p [] = Unit {0}
Begins p (b ∷ bs) = p b ≡ false

pub record IsRun (p : ℕ → Bool) (bytes rest : List ℕ) : Type 0 where
  pub run : List ℕ
  pub is : bytes ≡ run ++ rest
  pub each : list_all p run ≡ true
  pub stops : Begins p rest

pub run_of : (p : ℕ → Bool) (bytes : List ℕ) → IsRun p bytes (skip_while p bytes)
run_of p [] = record { run = []; is = refl; each = refl; stops = tt }
run_of p (b ∷ bs) =
    let P : Bool → Type 0 = λ v. p b ≡ v → IsRun p (b ∷ bs) (cond v (skip_while p bs) (b ∷ bs)) in
    (elim (p b) as P [
      | true ↦ λ h. let r = run_of p bs in record { run = b ∷ r.run; is = ap (λ (l : List ℕ). b ∷ l) r.is; each = and_from _ _ h r.each; stops = r.stops }
      | false ↦ λ h. record { run = []; is = refl; each = refl; stops = h }
    ]) refl

-- a run is passed over
pub skip-run : (p : ℕ → Bool) (run rest : List ℕ) → list_all p run ≡ true → skip_while p (run ++ rest) ≡ skip_while p rest
skip-run p [] rest h = refl
skip-run p (b ∷ bs) rest h = let a = and_parts (p b) (list_all p bs) h in rw a.0 (skip-run p bs rest a.1)

pub skip-none : (p : ℕ → Bool) (rest : List ℕ) → Begins p rest → skip_while p rest ≡ rest
skip-none p [] h = refl
skip-none p (b ∷ bs) h = rw h refl

-- a byte behind a run doesn't pass where the run stops there
pub run_stops : (p : ℕ → Bool) (run more after : List ℕ) (b : ℕ) → Begins p (b ∷ more ++ after) → list_all p (run ++ b ∷ more) ≡ true → ⊥
run_stops p [] more after b h e = let a = and_parts (p b) (list_all p more) e in absurd cc
run_stops p (c ∷ run) more after b h e = run_stops p run more after b h (and_parts (p c) (list_all p (run ++ b ∷ more)) e).1

-- and it is longer with one that does
pub run_more : (p : ℕ → Bool) (run : List ℕ) (b : ℕ) → list_all p run ≡ true → p b ≡ true → list_all p (run ++ b ∷ []) ≡ true
run_more p [] b h e = and_from _ _ e refl
run_more p (c ∷ run) b h e = let a = and_parts (p c) (list_all p run) h in and_from _ _ a.0 (run_more p run b a.1 e)
