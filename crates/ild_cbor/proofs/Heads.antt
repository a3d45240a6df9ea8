-- The arguments of heads: what is read was written, and what was written is read.
use Rattle.std.proofs.Common.{◌≡◌, ℕ, ◌+◌, ◌*◌, ◌^◌, ◌<◌, ◌≤◌, true, false, ltb, List, [], ◌∷◌, ◌++◌, length, take, drop, Option, Some, None, Ok, refl, sym, ap, subst, arith, inl, inr}
use Rattle.std.specs.Prelude.{◌==◌}
use Rattle.std.specs.Int.{Width, w8, w16, w32, w64, byte_len, from_be_bytes, to_be_bytes}
use Rattle.std.proofs.lemmas.Bool.{cases_lt, ltb-true, ltb-false, lt-ltb, le-ltb, eqb-true, ne_eqb}
use Rattle.std.proofs.lemmas.List.{take_at, drop_at, take-append-drop, length-append, length-take}
use Rattle.std.proofs.lemmas.Nat.{be_bytes_2, be_bytes_4, be_bytes_8, from_be_bytes-to_be_bytes_2, from_be_bytes-to_be_bytes_4, from_be_bytes-to_be_bytes_8}
use Rattle.ild_data.specs.Bytes.{AreBytes}
use Rattle.ild_data.specs.Spell.{head}
use Rattle.ild_data.proofs.Bytes.{AreBytes-places, AreBytes-take, AreBytes-drop}
use Rattle.ild_cbor.specs.declared.fault.CborKind.TheVariants.{Head}
use Rattle.ild_cbor.specs.Reading.{◌>>=◌, refuse, or_short, stop_at, split_at, cut_at, wide_from, wide_at, argument_at, least_of, number_at}
use Rattle.ild_cbor.proofs.Steps.{bind_ok, refuse_ok, or_short_ok, chosen, Takes, ok_is, some_is}

-- ---- n bytes

pub split_takes : (n : ℕ) (b : List ℕ) (x : List ℕ × List ℕ) → AreBytes b → split_at n b ≡ Some x → Takes b x.0 x.1 × (length x.0 ≡ n) × AreBytes x.0
unfolding split_at
split_takes n b x fits e =
    elim (chosen (ltb (length b) n) None (Some (take n b, drop n b)) (Some x) e) [
      | inl a ↦ absurd cc
      | inr a ↦
          let long : n ≤ length b = ltb-false _ _ a.0 in
          let is : (take n b, drop n b) ≡ x = some_is (take n b, drop n b) x a.1 in
          let P : List ℕ × List ℕ → Type 0 = λ y. Takes b y.0 y.1 × (length y.0 ≡ n) × AreBytes y.0 in
          subst P is (record { parts = sym (take-append-drop n b); fits = AreBytes-drop n b fits }, omega (arith, length-take n b), AreBytes-take n b fits)
    ]

pub split_again : (n : ℕ) (s rest : List ℕ) → length s ≡ n → split_at n (s ++ rest) ≡ Some (s, rest)
unfolding split_at
split_again n s rest len =
    let long : ltb (length (s ++ rest)) n ≡ false = le-ltb _ _ (omega (arith, length-append s rest)) in
    rw (long, take_at s rest n len, drop_at s rest n len) refl

pub cut_takes : (n : ℕ) (b : List ℕ) (x : List ℕ × List ℕ) → AreBytes b → cut_at n b ≡ Ok x → Takes b x.0 x.1 × (length x.0 ≡ n) × AreBytes x.0
unfolding cut_at
cut_takes n b x fits e = split_takes n b x fits (or_short_ok (split_at n b) x e)

pub cut_again : (n : ℕ) (s rest : List ℕ) → length s ≡ n → cut_at n (s ++ rest) ≡ Ok (s, rest)
unfolding cut_at
cut_again n s rest len = rw (split_again n s rest len) refl

-- ---- numbers of one width, spelled by code

pub record IsWide (w : Width) (limit : ℕ) (code : ℕ → List ℕ) : Type 0 where
  pub len : (n : ℕ) → length (code n) ≡ byte_len w
  pub back : (b : List ℕ) → length b ≡ byte_len w → AreBytes b → code (from_be_bytes w b) ≡ b
  pub again : (n : ℕ) → n < limit → from_be_bytes w (code n) ≡ n
  pub below : (b : List ℕ) → AreBytes b → from_be_bytes w b < limit

abbrev pub one : ℕ → List ℕ
one n = n ∷ []

one_back : (b : List ℕ) → length b ≡ 1 → one (from_be_bytes w8 b) ≡ b
one_back [] e = absurd (omega arith)
one_back (c ∷ []) e = ap one (omega arith)
one_back (c ∷ d ∷ b) e = absurd (omega arith)

wide8 : IsWide w8 (2 ^ 8) one
wide8 = record {
  len = λ n. refl;
  back = λ b len fits. one_back b len;
  again = λ n lt. omega arith;
  below = λ b all. let fits = AreBytes-places b all in omega (arith, fits 0);
}

wide16 : IsWide w16 (2 ^ 16) (to_be_bytes w16)
wide16 = record {
  len = λ n. refl;
  back = λ b len fits. be_bytes_2 b _ len (AreBytes-places b fits) refl;
  again = λ n lt. from_be_bytes-to_be_bytes_2 n lt;
  below = λ b all. let fits = AreBytes-places b all in omega (arith, fits 0, fits 1);
}

wide32 : IsWide w32 (2 ^ 32) (to_be_bytes w32)
wide32 = record {
  len = λ n. refl;
  back = λ b len fits. be_bytes_4 b _ len (AreBytes-places b fits) refl;
  again = λ n lt. from_be_bytes-to_be_bytes_4 n lt;
  below = λ b all. let fits = AreBytes-places b all in omega (arith, fits 0, fits 1, fits 2, fits 3);
}

wide64 : IsWide w64 (2 ^ 64) (to_be_bytes w64)
wide64 = record {
  len = λ n. refl;
  back = λ b len fits. be_bytes_8 b _ len (AreBytes-places b fits) refl;
  again = λ n lt. from_be_bytes-to_be_bytes_8 n lt;
  below = λ b all. let fits = AreBytes-places b all in omega (arith, fits 0, fits 1, fits 2, fits 3, fits 4, fits 5, fits 6, fits 7);
}

wide_some : (w : Width) (o : Option (List ℕ × List ℕ)) (x : ℕ × List ℕ) → wide_from w o ≡ Some x → (s : List ℕ × List ℕ) × (o ≡ Some s) × ((from_be_bytes w s.0, s.1) ≡ x)
wide_some w None x e = absurd cc
wide_some w (Some s) x e = (s, refl, some_is (from_be_bytes w s.0, s.1) x e)

wide_takes : (w : Width) (limit : ℕ) (code : ℕ → List ℕ) (wide : IsWide w limit code) (b : List ℕ) (x : ℕ × List ℕ) → AreBytes b → wide_at w b ≡ Some x → Takes b (code x.0) x.1 × (x.0 < limit)
wide_takes w limit code wide b x fits e =
    let s = wide_some w (split_at (byte_len w) b) x e in
    let cut = split_takes (byte_len w) b s.0 fits s.1 in
    let front : code (from_be_bytes w s.0.0) ≡ s.0.0 = wide.back s.0.0 cut.1 cut.2 in
    let P : ℕ × List ℕ → Type 0 = λ y. Takes b (code y.0) y.1 × (y.0 < limit) in
    subst P s.2 (rw front cut.0, wide.below s.0.0 cut.2)

wide_again : (w : Width) (limit : ℕ) (code : ℕ → List ℕ) (wide : IsWide w limit code) (n : ℕ) (rest : List ℕ) → n < limit → wide_at w (code n ++ rest) ≡ Some (n, rest)
wide_again w limit code wide n rest lt = rw (split_again (byte_len w) (code n) rest (wide.len n), wide.again n lt) refl

-- ---- the argument of a head

-- tail is the head of n behind its first byte, whose low part is low
pub record IsHead (low n : ℕ) (tail : List ℕ) : Type 0 where
  pub below : low < 28
  pub limit : n < 2 ^ 64
  pub spells : (major : ℕ) → head major n ≡ (32 * major + low) ∷ tail
  pub argument : (rest : List ℕ) → argument_at low (tail ++ rest) ≡ Some (n, rest)
  pub long : ltb n (least_of low) ≡ false

pub head_reads : (low n : ℕ) (tail from rest : List ℕ) → IsHead low n tail → number_at from low (tail ++ rest) ≡ Ok (n, rest)
unfolding number_at
head_reads low n tail from rest h =
    let small : ltb 27 low ≡ false = le-ltb 27 low (omega (arith, h.below)) in
    rw (small, h.argument rest, h.long) refl

head_0 : (n : ℕ) → n < 24 → IsHead n n []
unfolding argument_at
head_0 n lt =
    let t : ltb n 24 ≡ true = lt-ltb n 24 lt in
    record { below = omega arith; limit = omega arith; spells = λ major. rw t refl; argument = λ rest. rw t refl; long = no_least n lt }
  where
    no_least : (n : ℕ) → n < 24 → ltb n (least_of n) ≡ false
    no_least n lt =
        let a : (n == 24) ≡ false = ne_eqb n 24 (λ e. omega arith) in
        let b : (n == 25) ≡ false = ne_eqb n 25 (λ e. omega arith) in
        let c : (n == 26) ≡ false = ne_eqb n 26 (λ e. omega arith) in
        let d : (n == 27) ≡ false = ne_eqb n 27 (λ e. omega arith) in
        rw (a, b, c, d) (le-ltb n 0 (omega arith))

head_8 : (n : ℕ) → 24 ≤ n → n < 2 ^ 8 → IsHead 24 n (n ∷ [])
unfolding argument_at
head_8 n le lt =
    let a : ltb n 24 ≡ false = le-ltb n 24 le in
    let b : ltb n (2 ^ 8) ≡ true = lt-ltb n (2 ^ 8) lt in
    record { below = omega arith; limit = omega arith; spells = λ major. rw (a, b) refl; argument = λ rest. wide_again w8 (2 ^ 8) one wide8 n rest lt; long = a }

head_16 : (n : ℕ) → 2 ^ 8 ≤ n → n < 2 ^ 16 → IsHead 25 n (to_be_bytes w16 n)
unfolding argument_at
head_16 n le lt =
    let a : ltb n 24 ≡ false = le-ltb n 24 (omega arith) in
    let b : ltb n (2 ^ 8) ≡ false = le-ltb n (2 ^ 8) le in
    let c : ltb n (2 ^ 16) ≡ true = lt-ltb n (2 ^ 16) lt in
    record { below = omega arith; limit = omega arith; spells = λ major. rw (a, b, c) refl; argument = λ rest. wide_again w16 (2 ^ 16) (to_be_bytes w16) wide16 n rest lt; long = b }

head_32 : (n : ℕ) → 2 ^ 16 ≤ n → n < 2 ^ 32 → IsHead 26 n (to_be_bytes w32 n)
unfolding argument_at
head_32 n le lt =
    let a : ltb n 24 ≡ false = le-ltb n 24 (omega arith) in
    let b : ltb n (2 ^ 8) ≡ false = le-ltb n (2 ^ 8) (omega arith) in
    let c : ltb n (2 ^ 16) ≡ false = le-ltb n (2 ^ 16) le in
    let d : ltb n (2 ^ 32) ≡ true = lt-ltb n (2 ^ 32) lt in
    record { below = omega arith; limit = omega arith; spells = λ major. rw (a, b, c, d) refl; argument = λ rest. wide_again w32 (2 ^ 32) (to_be_bytes w32) wide32 n rest lt; long = c }

head_64 : (n : ℕ) → 2 ^ 32 ≤ n → n < 2 ^ 64 → IsHead 27 n (to_be_bytes w64 n)
unfolding argument_at
head_64 n le lt =
    let a : ltb n 24 ≡ false = le-ltb n 24 (omega arith) in
    let b : ltb n (2 ^ 8) ≡ false = le-ltb n (2 ^ 8) (omega arith) in
    let c : ltb n (2 ^ 16) ≡ false = le-ltb n (2 ^ 16) (omega arith) in
    let d : ltb n (2 ^ 32) ≡ false = le-ltb n (2 ^ 32) le in
    record { below = omega arith; limit = omega arith; spells = λ major. rw (a, b, c, d) refl; argument = λ rest. wide_again w64 (2 ^ 64) (to_be_bytes w64) wide64 n rest lt; long = d }

pub record HeadOf (n : ℕ) : Type 0 where
  pub low : ℕ
  pub tail : List ℕ
  pub is : IsHead low n tail

abbrev form : (low n : ℕ) (tail : List ℕ) → IsHead low n tail → HeadOf n
form low n tail is = record { low = low; tail = tail; is = is }

-- each number below 2 ^ 64 has a head
pub head_of : (n : ℕ) → n < 2 ^ 64 → HeadOf n
head_of n lt =
    elim (cases_lt n 24) [
      | inl a ↦ form n n [] (head_0 n a)
      | inr a ↦ elim (cases_lt n (2 ^ 8)) [
        | inl b ↦ form 24 n (n ∷ []) (head_8 n a b)
        | inr b ↦ elim (cases_lt n (2 ^ 16)) [
          | inl c ↦ form 25 n (to_be_bytes w16 n) (head_16 n b c)
          | inr c ↦ elim (cases_lt n (2 ^ 32)) [
            | inl d ↦ form 26 n (to_be_bytes w32 n) (head_32 n c d)
            | inr d ↦ form 27 n (to_be_bytes w64 n) (head_64 n d lt)
          ]
        ]
      ]
    ]

-- what was read of a head behind its first byte
pub record NumberTook (low : ℕ) (b : List ℕ) (x : ℕ × List ℕ) : Type 0 where
  pub tail : List ℕ
  pub takes : Takes b tail x.1
  pub is : IsHead low x.0 tail

took : (low k : ℕ) (b : List ℕ) (x : ℕ × List ℕ) (tail : List ℕ) → low ≡ k → Takes b tail x.1 → IsHead k x.0 tail → NumberTook low b x
took low k b x tail e t h = rw e (record { tail = tail; takes = t; is = h })

-- the argument is as long as its low part asks
least : (low k n : ℕ) → low ≡ k → ltb n (least_of low) ≡ false → least_of k ≤ n
least low k n e h = subst (λ (j : ℕ). least_of j ≤ n) e (ltb-false _ _ h)

argument_took : (low : ℕ) (b : List ℕ) (x : ℕ × List ℕ) → AreBytes b → argument_at low b ≡ Some x → ltb x.0 (least_of low) ≡ false → NumberTook low b x
unfolding argument_at
argument_took low b x fits e long =
    elim (chosen (ltb low 24) _ _ _ e) [
      | inl a ↦
          let is : (low, b) ≡ x = some_is (low, b) x a.1 in
          subst (λ (y : ℕ × List ℕ). NumberTook low b y) is (record { tail = []; takes = record { parts = refl; fits = fits }; is = head_0 low (ltb-true _ _ a.0) })
      | inr a ↦ elim (chosen (low == 24) _ _ _ a.1) [
        | inl c ↦ let k = eqb-true low 24 c.0 in let t = wide_takes w8 (2 ^ 8) one wide8 b x fits c.1 in took low 24 b x (one x.0) k t.0 (head_8 x.0 (least low 24 x.0 k long) t.1)
        | inr c ↦ elim (chosen (low == 25) _ _ _ c.1) [
          | inl d ↦ let k = eqb-true low 25 d.0 in let t = wide_takes w16 (2 ^ 16) (to_be_bytes w16) wide16 b x fits d.1 in took low 25 b x (to_be_bytes w16 x.0) k t.0 (head_16 x.0 (least low 25 x.0 k long) t.1)
          | inr d ↦ elim (chosen (low == 26) _ _ _ d.1) [
            | inl f ↦ let k = eqb-true low 26 f.0 in let t = wide_takes w32 (2 ^ 32) (to_be_bytes w32) wide32 b x fits f.1 in took low 26 b x (to_be_bytes w32 x.0) k t.0 (head_32 x.0 (least low 26 x.0 k long) t.1)
            | inr f ↦ elim (chosen (low == 27) _ _ _ f.1) [
              | inl g ↦ let k = eqb-true low 27 g.0 in let t = wide_takes w64 (2 ^ 64) (to_be_bytes w64) wide64 b x fits g.1 in took low 27 b x (to_be_bytes w64 x.0) k t.0 (head_64 x.0 (least low 27 x.0 k long) t.1)
              | inr g ↦ absurd cc
            ]
          ]
        ]
      ]
    ]

pub number_takes : (from : List ℕ) (low : ℕ) (b : List ℕ) (x : ℕ × List ℕ) → AreBytes b → number_at from low b ≡ Ok x → NumberTook low b x
unfolding number_at
number_takes from low b x fits e =
    let g = refuse_ok (ltb 27 low) (stop_at Head from) (or_short (argument_at low b) >>= λ y. (refuse (ltb y.0 (least_of low)) (stop_at Head from) >>= λ u. Ok y)) x e in
    let a = bind_ok (or_short (argument_at low b)) (λ y. refuse (ltb y.0 (least_of low)) (stop_at Head from) >>= λ u. Ok y) x g.1 in
    let l = refuse_ok (ltb a.0.0 (least_of low)) (stop_at Head from) (Ok a.0) x a.2 in
    subst (λ (y : ℕ × List ℕ). NumberTook low b y) (ok_is a.0 x l.1) (argument_took low b a.0 fits (or_short_ok (argument_at low b) a.0 a.1) l.0)
