-- Reading parts one after the other, as a loop does.
use Rattle.std.proofs.Common.{◌≡◌, ℕ, suc, ◌-◌, ◌+◌, ◌≤◌, ◌<◌, Bool, true, false, List, [], ◌∷◌, ◌++◌, Result, Ok, Err, refl, sym, ap, ◌∙◌, append_assoc, arith}
use Rattle.std.proofs.lemmas.List.{append-nil}
use Rattle.ild_parse.specs.declared.error.ParseErr.{ParseErr}
use Rattle.ild_parse.specs.declared.error.ParseErr.TheVariants as E
use Rattle.ild_parse_grammar.proofs.Stream.{Stream, place}
use Rattle.ild_parse_grammar.proofs.Read.{◌>>=◌, many_at}
use Rattle.ild_parse.specs.inside.Seen.{Fails}

-- what was read before, and what is still read
abbrev pub with_front : {A : Type 0} → List A → Result (List A × Stream) ℕ → Result (List A × Stream) ℕ
with_front front read = read >>= λ x. Ok (front ++ x.0, x.1)

none_before : {A : Type 0} (read : Result (List A × Stream) ℕ) → with_front [] read ≡ read
none_before (Ok x) = refl
none_before (Err e) = refl

regroup : {A : Type 0} (front : List A) (x : A) (read : Result (List A × Stream) ℕ) → with_front front (read >>= λ xs. Ok (x ∷ xs.0, xs.1)) ≡ with_front (front ++ x ∷ []) read
regroup {A} front x (Ok xs) = ap (λ (ys : List A). Ok (ys, xs.1)) (sym (append_assoc front (x ∷ []) xs.0))
regroup front x (Err e) = refl

pub many_starts : {A : Type 0} (one : Stream → Result (A × Stream) ℕ) (ends : Stream → Bool) (n m : ℕ) (s : Stream) → n ≡ m → with_front [] (many_at one ends (n - 0) s) ≡ many_at one ends m s
many_starts one ends n m s e = let k : n - 0 ≡ m = omega arith in rw k (none_before (many_at one ends m s))

pub many_goes : {A : Type 0} (one : Stream → Result (A × Stream) ℕ) (ends : Stream → Bool) (front : List A) (n i : ℕ) (rest after : Stream) (x : A) (total : Result (List A × Stream) ℕ) → i < n → ends rest ≡ false → one rest ≡ Ok (x, after)
    → with_front front (many_at one ends (n - i) rest) ≡ total → with_front (front ++ x ∷ []) (many_at one ends (n - (i + 1)) after) ≡ total
unfolding many_at
many_goes one ends front n i rest after x total lt on h so_far =
    let k : n - i ≡ suc (n - (i + 1)) = omega arith in
    let one_more : with_front front (many_at one ends (n - i) rest) ≡ with_front (front ++ x ∷ []) (many_at one ends (n - (i + 1)) after) = rw (k, on, h) (regroup front x (many_at one ends (n - (i + 1)) after)) in
    sym one_more ∙ so_far

pub many_fails : {A : Type 0} (one : Stream → Result (A × Stream) ℕ) (ends : Stream → Bool) (e : ParseErr) (front : List A) (n i : ℕ) (rest : Stream) (total : Result (List A × Stream) ℕ) → i < n → ends rest ≡ false → Fails e (one rest)
    → with_front front (many_at one ends (n - i) rest) ≡ total → Fails e total
unfolding many_at
many_fails one ends E.Memory front n i rest total lt on h so_far = tt
many_fails one ends (E.Syntax at) front n i rest total lt on h so_far =
    let k : n - i ≡ suc (n - (i + 1)) = omega arith in
    let one_more : with_front front (many_at one ends (n - i) rest) ≡ Err at = rw (k, on, h) refl in
    sym so_far ∙ one_more

pub many_done : {A : Type 0} (one : Stream → Result (A × Stream) ℕ) (ends : Stream → Bool) (front : List A) (n i : ℕ) (rest : Stream) (total : Result (List A × Stream) ℕ) → i < n → ends rest ≡ true
    → with_front front (many_at one ends (n - i) rest) ≡ total → total ≡ Ok (front, rest)
unfolding many_at
many_done {A} one ends front n i rest total lt off so_far =
    let k : n - i ≡ suc (n - (i + 1)) = omega arith in
    let here : with_front front (many_at one ends (n - i) rest) ≡ Ok (front, rest) = rw (k, off) (ap (λ (xs : List A). Ok (xs, rest)) (append-nil front)) in
    sym so_far ∙ here

pub many_too_few : {A : Type 0} (one : Stream → Result (A × Stream) ℕ) (ends : Stream → Bool) (front : List A) (n i : ℕ) (rest : Stream) (total : Result (List A × Stream) ℕ) → n ≤ i
    → with_front front (many_at one ends (n - i) rest) ≡ total → total ≡ Err (place rest)
unfolding many_at
many_too_few one ends front n i rest total le so_far =
    let k : n - i ≡ 0 = omega arith in
    let here : with_front front (many_at one ends (n - i) rest) ≡ Err (place rest) = rw k refl in
    sym so_far ∙ here
