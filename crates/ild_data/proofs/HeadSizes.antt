-- How long heads are: an argument that is no less has a head that is no shorter.
use Rattle.std.proofs.Common.{◌≡◌, ℕ, ◌+◌, ◌*◌, ◌^◌, ◌<◌, ◌≤◌, Bool, true, false, cond, nat_lt, List, [], ◌∷◌, length, length-append, refl, ap, arith}
use Rattle.std.specs.Int.{to_be_bytes, w16, w32, w64}
use Rattle.std.specs.Prelude.{if◌then◌else◌}
use Rattle.std.proofs.lemmas.Bool.Decides.{nat_tests}
use Rattle.ild_data.specs.Spell.{head, spell_bytes, spell_text}

abbrev head_by : ℕ → ℕ → Bool → Bool → Bool → Bool → List ℕ
head_by major n a b c d =
    if a then (32 * major + n) ∷ []
    else if b then (32 * major + 24) ∷ n ∷ []
    else if c then (32 * major + 25) ∷ to_be_bytes w16 n
    else if d then (32 * major + 26) ∷ to_be_bytes w32 n
    else (32 * major + 27) ∷ to_be_bytes w64 n

abbrev size_by : Bool → Bool → Bool → Bool → ℕ
size_by a b c d = cond a 1 (cond b 2 (cond c 3 (cond d 5 9)))

at_most_2 : (a c d : Bool) → size_by a true c d ≤ 2
at_most_2 true c d = omega arith
at_most_2 false c d = omega arith

at_most_3 : (a b d : Bool) → size_by a b true d ≤ 3
at_most_3 true b d = omega arith
at_most_3 false true d = omega arith
at_most_3 false false d = omega arith

at_most_5 : (a b c : Bool) → size_by a b c true ≤ 5
at_most_5 true b c = omega arith
at_most_5 false true c = omega arith
at_most_5 false false true = omega arith
at_most_5 false false false = omega arith

at_most_9 : (a b c d : Bool) → size_by a b c d ≤ 9
at_most_9 true b c d = omega arith
at_most_9 false true c d = omega arith
at_most_9 false false true d = omega arith
at_most_9 false false false true = omega arith
at_most_9 false false false false = omega arith

sizes : (a b c d e f g h : Bool) → (e ≡ true → a ≡ true) → (f ≡ true → b ≡ true) → (g ≡ true → c ≡ true) → (h ≡ true → d ≡ true) → size_by a b c d ≤ size_by e f g h
sizes a b c d true f g h p q r s = omega (arith, ap (λ x. size_by x b c d) (p refl))
sizes a b c d false true g h p q r s = omega (arith, ap (λ x. size_by a x c d) (q refl), at_most_2 a c d)
sizes a b c d false false true h p q r s = omega (arith, ap (λ x. size_by a b x d) (r refl), at_most_3 a b d)
sizes a b c d false false false true p q r s = omega (arith, ap (size_by a b c) (s refl), at_most_5 a b c)
sizes a b c d false false false false p q r s = at_most_9 a b c d

head_size : (major n : ℕ) → length (head major n) ≡ size_by (nat_lt n 24) (nat_lt n (2 ^ 8)) (nat_lt n (2 ^ 16)) (nat_lt n (2 ^ 32))
head_size major n = by (nat_lt n 24) (nat_lt n (2 ^ 8)) (nat_lt n (2 ^ 16)) (nat_lt n (2 ^ 32))
  where
    by : (a b c d : Bool) → length (head_by major n a b c d) ≡ size_by a b c d
    by true b c d = refl
    by false true c d = refl
    by false false true d = refl
    by false false false true = refl
    by false false false false = refl

below : (m n k : ℕ) → m ≤ n → nat_lt n k ≡ true → nat_lt m k ≡ true
below m n k le e = grind (arith, nat_tests, le, e)

pub head_more : (major m n : ℕ) → m ≤ n → length (head major m) ≤ length (head major n)
head_more major m n le =
    let more = sizes (nat_lt m 24) (nat_lt m (2 ^ 8)) (nat_lt m (2 ^ 16)) (nat_lt m (2 ^ 32)) (nat_lt n 24) (nat_lt n (2 ^ 8)) (nat_lt n (2 ^ 16)) (nat_lt n (2 ^ 32))
    (below m n 24 le) (below m n (2 ^ 8) le) (below m n (2 ^ 16) le) (below m n (2 ^ 32) le) in
    omega (arith, head_size major m, head_size major n, more)

pub head_at_most_9 : (major n : ℕ) → length (head major n) ≤ 9
head_at_most_9 major n = omega (arith, head_size major n, at_most_9 (nat_lt n 24) (nat_lt n (2 ^ 8)) (nat_lt n (2 ^ 16)) (nat_lt n (2 ^ 32)))

pub head_at_most_5 : (major n : ℕ) → n < 2 ^ 32 → length (head major n) ≤ 5
head_at_most_5 major n less =
    let fits : nat_lt n (2 ^ 32) ≡ true = grind (arith, nat_tests, less) in
    omega (arith, head_size major n, ap (size_by (nat_lt n 24) (nat_lt n (2 ^ 8)) (nat_lt n (2 ^ 16))) fits, at_most_5 (nat_lt n 24) (nat_lt n (2 ^ 8)) (nat_lt n (2 ^ 16)))

-- ---- texts and bytes

pub text_more : (s t : List ℕ) → length s ≤ length t → length (spell_text s) ≤ length (spell_text t)
text_more s t le = omega (arith, length-append (head 3 (length s)) s, length-append (head 3 (length t)) t, head_more 3 (length s) (length t) le, le)

pub bytes_more : (s t : List ℕ) → length s ≤ length t → length (spell_bytes s) ≤ length (spell_bytes t)
bytes_more s t le = omega (arith, length-append (head 2 (length s)) s, length-append (head 2 (length t)) t, head_more 2 (length s) (length t) le, le)
