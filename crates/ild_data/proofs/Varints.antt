-- Varints: their size, and that what is read is their grammar.
use Rattle.std.proofs.Common.{◌≡◌, ℕ, zero, suc, ◌+◌, ◌*◌, ◌-◌, ◌^◌, ◌<◌, ◌≤◌, Bool, true, false, ◌⊎◌, inl, inr, List, [], ◌∷◌, ◌++◌, length, nat_lt, ◌==◌, if◌then◌else◌, refl, ap, sym, ◌∙◌, arith, subst}
use Rattle.std.specs.Prelude.{Ok, Err, Result}
use Rattle.ild_data.specs.declared.fault.CidFault.{CidFault}
use Rattle.ild_data.specs.declared.fault.CidFault.TheVariants.{Varint}
use Rattle.std.proofs.Math.Pow.{pow_mono}
use Rattle.std.proofs.lemmas.Nat.{pow-add}
use Rattle.std.proofs.lemmas.Bool.{lt-ltb}
use Rattle.std.proofs.lemmas.Bool.Decides.{nat_tests}
use Rattle.ild_data.specs.Varint.{AreGroups, IsVarint}
use Rattle.ild_data.specs.CidRead.{read_more, read_varint, behind, ◌>>=◌}

seven_more : (k : ℕ) → 2 ^ (7 * k + 7) ≡ 2 ^ (7 * k) * 128
seven_more k = pow-add 2 (7 * k) 7

-- a group more
pub more_below : (room n b : ℕ) → 0 < room → n < 2 ^ (7 * (room - 1)) → b < 128 → b + 128 * n < 2 ^ (7 * room)
more_below room n b pos lt less =
    let e : 7 * room ≡ 7 * (room - 1) + 7 = omega arith in
    let h : b + 128 * n < 2 ^ (7 * (room - 1)) * 128 = omega arith in
    subst (λ k. b + 128 * n < k) (sym (ap (λ k. 2 ^ k) e ∙ seven_more (room - 1))) h

pub one_below : (room b : ℕ) → 0 < room → b < 128 → b < 2 ^ (7 * room)
one_below room b pos less = let h : 2 ^ 7 ≤ 2 ^ (7 * room) = pow_mono {i = 7} {j = 7 * room} (omega arith) in omega arith

pub more_fits : (room n : ℕ) → 0 < room → room ≤ 8 → n < 2 ^ (7 * (room - 1)) → n < 2 ^ 49
more_fits room n pos le lt = let h : 2 ^ (7 * (room - 1)) ≤ 2 ^ 49 = pow_mono {i = 7 * (room - 1)} {j = 49} (omega arith) in omega arith

-- what a chain that came out well went through
pub bind_ok : {A B : Type 0} (r : Result A CidFault) (f : A → Result B CidFault) (y : B) → (r >>= f) ≡ Ok y → (x : A) × (r ≡ Ok x) × (f x ≡ Ok y)
bind_ok (Ok x) f y is = (x, refl, is)
bind_ok (Err e) f y is = absurd (cc)

value_of : Result (ℕ × List ℕ) CidFault → ℕ × List ℕ
value_of (Ok x) = x
value_of (Err e) = (0, [])

number_is : (a b : ℕ) (x y : List ℕ) → ◌≡◌ {A = Result (ℕ × List ℕ) CidFault} (Ok (a, x)) (Ok (b, y)) → a ≡ b
unfolding value_of
number_is a b x y is = ap (λ (r : Result (ℕ × List ℕ) CidFault). (value_of r).0) is

rest_is : (a b : ℕ) (x y : List ℕ) → ◌≡◌ {A = Result (ℕ × List ℕ) CidFault} (Ok (a, x)) (Ok (b, y)) → x ≡ y
unfolding value_of
rest_is a b x y is = ap (λ (r : Result (ℕ × List ℕ) CidFault). (value_of r).1) is

-- the last group, or one that says that more follow
abbrev pub Last : Bool → ℕ → ℕ → List ℕ → List ℕ → Type 0
Last u b n s rest = (u ≡ true) × (n ≡ b) × (s ≡ rest)

abbrev pub NotLast : Bool → Bool → ℕ → ℕ → List ℕ → Result (ℕ × List ℕ) CidFault → Type 0
NotLast u v b n rest r = (u ≡ false) × (v ≡ true) × ((m : ℕ) × (r ≡ Ok (m, rest)) × (n ≡ b - 128 + 128 * m))

group_cases : (u v : Bool) (b n : ℕ) (s rest : List ℕ) (r : Result (ℕ × List ℕ) CidFault)
    → (if u then Ok (b, s) else if v then (r >>= λ x. Ok (behind b x)) else Err Varint) ≡ Ok (n, rest)
    → Last u b n s rest ⊎ NotLast u v b n rest r
group_cases true v b n s rest r is = inl (refl, sym (number_is b n s rest is), rest_is b n s rest is)
group_cases false true b n s rest (Ok x) is =
    inr (refl, refl, (x.0, ap (λ t. Ok (x.0, t)) (rest_is (b - 128 + 128 * x.0) n x.1 rest is), sym (number_is (b - 128 + 128 * x.0) n x.1 rest is)))
group_cases false true b n s rest (Err e) is = absurd (cc)
group_cases false false b n s rest r is = absurd (cc)

not_first : (t : Bool) (r : Result (ℕ × List ℕ) CidFault) (x : ℕ × List ℕ) → (if t then Err Varint else r) ≡ Ok x → (t ≡ false) × (r ≡ Ok x)
not_first true r x is = absurd (cc)
not_first false r x is = (refl, is)

-- a group in front of others
groups_more : (b m : ℕ) (form : List ℕ) → AreGroups form m → 128 ≤ b → b < 256 → 0 < m → AreGroups (b ∷ form) (b - 128 + 128 * m)
groups_more b m [] of le lt pos = absurd of
groups_more b m (c ∷ form) of le lt pos = (le, lt, (m, pos, omega arith, of))

-- the groups behind one, in front of the rest
pub record GroupsRead (room : ℕ) (s : List ℕ) (n : ℕ) (rest : List ℕ) : Type 0 where
  pub form : List ℕ
  pub groups : AreGroups form n
  pub positive : 0 < n
  pub within : length form ≤ room
  pub is : s ≡ form ++ rest

more_read : (room b : ℕ) (s : List ℕ) (n m : ℕ) (rest : List ℕ) → nat_lt b 128 ≡ false → nat_lt b 256 ≡ true → n ≡ b - 128 + 128 * m
    → GroupsRead room s m rest → GroupsRead (suc room) (b ∷ s) n rest
more_read room b s n m rest u v is g =
    let le : 128 ≤ b = grind (arith, nat_tests) in
    let lt : b < 256 = grind (arith, nat_tests) in
    let pos : 0 < m = g.positive in
    record {
      form = b ∷ g.form;
      groups = subst (AreGroups (b ∷ g.form)) (sym is) (groups_more b m g.form g.groups le lt g.positive);
      positive = omega arith;
      within = grind (arith, g.within);
      is = ap (λ t. b ∷ t) g.is;
    }

last_read : (room b : ℕ) (s : List ℕ) (n : ℕ) (rest : List ℕ) → (b == 0) ≡ false → Last (nat_lt b 128) b n s rest → GroupsRead (suc room) (b ∷ s) n rest
last_read room b s n rest e h =
    let lt : b < 128 = grind (arith, nat_tests) in
    let pos : 0 < b = grind (arith, nat_tests) in
    record { form = b ∷ []; groups = (lt, h.1); positive = omega (arith, h.1); within = omega arith; is = ap (λ t. b ∷ t) h.2 }

group_read : (room b : ℕ) (s : List ℕ) (n : ℕ) (rest : List ℕ) → (b == 0) ≡ false
    → Last (nat_lt b 128) b n s rest ⊎ NotLast (nat_lt b 128) (nat_lt b 256) b n rest (read_more room s)
    → ((m : ℕ) → read_more room s ≡ Ok (m, rest) → GroupsRead room s m rest) → GroupsRead (suc room) (b ∷ s) n rest
group_read room b s n rest e (inl h) ih = last_read room b s n rest e h
group_read room b s n rest e (inr h) ih = more_read room b s n h.2.0 rest h.0 h.1 h.2.2 (ih h.2.0 h.2.1)

pub read_more-sound : (room : ℕ) (s : List ℕ) (n : ℕ) (rest : List ℕ) → read_more room s ≡ Ok (n, rest) → GroupsRead room s n rest
unfolding read_more
read_more-sound zero s n rest is = absurd (cc)
read_more-sound (suc room) [] n rest is = absurd (cc)
read_more-sound (suc room) (b ∷ s) n rest is =
    let k = not_first (b == 0) (if nat_lt b 128 then Ok (b, s) else if nat_lt b 256 then (read_more room s >>= λ x. Ok (behind b x)) else Err Varint) (n, rest) is in
    group_read room b s n rest k.0 (group_cases (nat_lt b 128) (nat_lt b 256) b n s rest (read_more room s) k.1) (λ m h. read_more-sound room s m rest h)

-- a varint in front of the rest
pub record VarintRead (s : List ℕ) (n : ℕ) (rest : List ℕ) : Type 0 where
  pub form : List ℕ
  pub varint : IsVarint form n
  pub is : s ≡ form ++ rest

varint_read : (b : ℕ) (s : List ℕ) (n : ℕ) (rest : List ℕ) → Last (nat_lt b 128) b n s rest ⊎ NotLast (nat_lt b 128) (nat_lt b 256) b n rest (read_more 8 s)
    → VarintRead (b ∷ s) n rest
varint_read b s n rest (inl h) =
    let lt : b < 128 = grind (arith, nat_tests) in
    record { form = b ∷ []; varint = record { groups = (lt, h.1); short = omega arith }; is = ap (λ t. b ∷ t) h.2 }
varint_read b s n rest (inr h) =
    let g = more_read 8 b s n h.2.0 rest h.0 h.1 h.2.2 (read_more-sound 8 s h.2.0 rest h.2.1) in
    record { form = g.form; varint = record { groups = g.groups; short = g.within }; is = g.is }

pub read_varint-sound : (s : List ℕ) (n : ℕ) (rest : List ℕ) → read_varint s ≡ Ok (n, rest) → VarintRead s n rest
unfolding read_varint
read_varint-sound [] n rest is = absurd (cc)
read_varint-sound (b ∷ s) n rest is = varint_read b s n rest (group_cases (nat_lt b 128) (nat_lt b 256) b n s rest (read_more 8 s) is)

not_zero : (b : ℕ) → 0 < b → (b == 0) ≡ false
not_zero b pos = grind (arith, nat_tests)

not_below : (b n : ℕ) → n ≤ b → nat_lt b n ≡ false
not_below b n le = grind (arith, nat_tests)

-- what stands as groups is read, whatever follows
pub read_more-complete : (form : List ℕ) (n room : ℕ) (rest : List ℕ) → AreGroups form n → 0 < n → length form ≤ room → read_more room (form ++ rest) ≡ Ok (n, rest)
unfolding read_more
read_more-complete [] n room rest of pos le = absurd of
read_more-complete (b ∷ []) n zero rest of pos le = absurd (omega arith)
read_more-complete (b ∷ []) n (suc room) rest of pos le =
    rw (not_zero b (omega (arith, of.1)), lt-ltb b 128 of.0, of.1) refl
read_more-complete (b ∷ c ∷ bs) n zero rest of pos le = absurd (omega arith)
read_more-complete (b ∷ c ∷ bs) n (suc room) rest of pos le =
    rw (not_zero b (omega (arith, of.0)), not_below b 128 of.0, lt-ltb b 256 of.1, read_more-complete (c ∷ bs) of.2.0 room rest of.2.3 of.2.1 (omega arith))
    (ap (λ k. Ok (k, rest)) (omega (arith, of.0, of.2.2)))

pub read_varint-complete : (form : List ℕ) (n : ℕ) (rest : List ℕ) → IsVarint form n → read_varint (form ++ rest) ≡ Ok (n, rest)
unfolding read_varint
read_varint-complete [] n rest of = absurd of.groups
read_varint-complete (b ∷ []) n rest of = rw (lt-ltb b 128 of.groups.0, of.groups.1) refl
read_varint-complete (b ∷ c ∷ bs) n rest of =
    rw (not_below b 128 of.groups.0, lt-ltb b 256 of.groups.1, read_more-complete (c ∷ bs) of.groups.2.0 8 rest of.groups.2.3 of.groups.2.1 (omega (arith, of.short)))
    (ap (λ k. Ok (k, rest)) (omega (arith, of.groups.0, of.groups.2.2)))

-- a number below 128 has one form, a byte
pub one_form : (form : List ℕ) (n : ℕ) → AreGroups form n → n < 128 → form ≡ n ∷ []
one_form [] n of lt = absurd of
one_form (b ∷ []) n of lt = ap (λ k. k ∷ []) (sym of.1)
one_form (b ∷ c ∷ bs) n of lt = absurd (omega (arith, of.0, of.2.1, of.2.2))
