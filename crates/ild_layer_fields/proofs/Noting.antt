-- One place more.
use Rattle.std.proofs.Common.{◌≡◌, ℕ, ◌+◌, ◌≤◌, ◌<◌, List, [], ◌∷◌, ◌++◌, Bool, true, false, ◌||◌, refl, sym, ◌∙◌, ap, arith, max}
use Rattle.std.specs.Prelude.{nat_eq, nat_lt}
use Rattle.std.specs.List.{list_any}
use Rattle.std.proofs.lemmas.List.Folds.{list_any-append}
use Rattle.std.proofs.lemmas.Bool.{eq-eqb, eqb-true, lt-ltb, le-ltb, ltb-true, ltb-false}
use Rattle.ild_typed.specs.StructWhy.{has_fall}
use Rattle.ild_layer_fields.specs.declared.notes.Notes.{Notes}
use Rattle.ild_layer_fields.specs.Notes.{IsNoted, is_marked, stands_twice, is_strange}

pub or_none : (a : Bool) → (a || false) ≡ a
or_none true = refl
or_none false = refl

pub or_right : (a : Bool) → (a || true) ≡ true
or_right true = refl
or_right false = refl

-- a test of one element more
pub any_more : {A : Type 0} (p : A → Bool) (xs : List A) (x : A) → list_any p (xs ++ x ∷ []) ≡ (list_any p xs || p x)
any_more p xs x = list_any-append p xs (x ∷ []) ∙ ap (λ b. list_any p xs || b) (or_none (p x))

pub turn : (a b f l : Bool) → ((a || b) || (f || l)) ≡ ((a || f) || (b || l))
turn true b f l = refl
turn false true true l = refl
turn false true false l = refl
turn false false f l = refl

pub fall_more : (ns : List ℕ) (p : ℕ) → has_fall (ns ++ p ∷ []) ≡ (has_fall ns || list_any (λ n. nat_lt p n) ns)
fall_more [] p = refl
fall_more (n ∷ ns) p =
    ap (λ b. b || has_fall (ns ++ p ∷ [])) (any_more (λ m. nat_lt m n) ns p)
    ∙ ap (λ b. (list_any (λ m. nat_lt m n) ns || nat_lt p n) || b) (fall_more ns p)
    ∙ turn (list_any (λ m. nat_lt m n) ns) (nat_lt p n) (has_fall ns) (list_any (λ n. nat_lt p n) ns)

pub twice_more : (ns : List ℕ) (p : ℕ) → stands_twice (ns ++ p ∷ []) ≡ (stands_twice ns || list_any (λ n. nat_eq p n) ns)
twice_more [] p = refl
twice_more (n ∷ ns) p =
    ap (λ b. b || stands_twice (ns ++ p ∷ [])) (any_more (λ m. nat_eq m n) ns p)
    ∙ ap (λ b. (list_any (λ m. nat_eq m n) ns || nat_eq p n) || b) (twice_more ns p)
    ∙ turn (list_any (λ m. nat_eq m n) ns) (nat_eq p n) (stands_twice ns) (list_any (λ n. nat_eq p n) ns)

-- the greater of two places stands for both
highest_more : (m h p : ℕ) → (nat_lt m h || nat_lt m p) ≡ nat_lt m (max h p)
highest_more m h p = by (nat_lt m h) refl (nat_lt m p) refl where
  by : (a : Bool) → nat_lt m h ≡ a → (b : Bool) → nat_lt m p ≡ b → (nat_lt m h || nat_lt m p) ≡ nat_lt m (max h p)
  by true is b at = ap (λ c. c || nat_lt m p) is ∙ sym (lt-ltb m (max h p) (omega (arith, ltb-true m h is)))
  by false is true at = ap (λ c. c || nat_lt m p) is ∙ at ∙ sym (lt-ltb m (max h p) (omega (arith, ltb-true m p at)))
  by false is false at = ap (λ c. c || nat_lt m p) is ∙ at ∙ sym (le-ltb m (max h p) (omega (arith, ltb-false m h is, ltb-false m p at)))

-- ---- the notes

abbrev pub risen : ℕ → Notes → Notes
risen p notes = record notes { falls = notes.falls || nat_lt p notes.highest; next = p + 1; highest = max notes.highest p }

abbrev pub met_more : ℕ → List ℕ → Notes → Notes
met_more p words notes = record notes { twice = notes.twice || is_marked notes.met p; met = words }

module _ (count p : ℕ) (old mid : Notes) (is : mid ≡ risen p old) (ns : List ℕ) (h : IsNoted count old ns) where
  falls_more : mid.falls ≡ has_fall (ns ++ p ∷ [])
  falls_more =
      ap (λ (n : Notes). n.falls) is ∙ ap (λ b. b || nat_lt p old.highest) h.falls ∙ ap (λ b. has_fall ns || b) (sym (h.highest p)) ∙ sym (fall_more ns p)

  highest_all : (m : ℕ) → list_any (λ n. nat_lt m n) (ns ++ p ∷ []) ≡ nat_lt m mid.highest
  highest_all m =
      any_more (λ n. nat_lt m n) ns p ∙ ap (λ b. b || nat_lt m p) (h.highest m) ∙ highest_more m old.highest p ∙ ap (λ (n : Notes). nat_lt m n.highest) (sym is)

  pub noted_stranger : p ≡ count → IsNoted count (record mid { stranger = true }) (ns ++ p ∷ [])
  noted_stranger at = record {
    stranger = sym strange;
    falls = falls_more;
    twice = λ known. absurd (let e : true ≡ false = sym strange ∙ known in cc);
    highest = highest_all;
    met = λ i less.
        let not_here : nat_eq i p ≡ false = other i less in
        ap (λ (n : Notes). is_marked n.met i) is ∙ h.met i less
        ∙ sym (any_more (λ n. nat_eq i n) ns p ∙ ap (λ b. list_any (λ n. nat_eq i n) ns || b) not_here ∙ or_none (list_any (λ n. nat_eq i n) ns));
  } where
    strange : is_strange count (ns ++ p ∷ []) ≡ true
    strange = any_more (λ n. nat_eq n count) ns p ∙ ap (λ b. is_strange count ns || b) (eq-eqb p count at) ∙ or_right (is_strange count ns)

    other : (i : ℕ) → i < count → nat_eq i p ≡ false
    other i less = by (nat_eq i p) refl where
      by : (b : Bool) → nat_eq i p ≡ b → b ≡ false
      by true e = absurd (omega (arith, eqb-true i p e, at))
      by false e = refl

  pub noted_field : (after : Notes) → after ≡ met_more p after.met mid → ((i : ℕ) → is_marked after.met i ≡ (is_marked mid.met i || nat_eq i p))
      → (p ≡ count → ⊥) → p ≤ count → IsNoted count after (ns ++ p ∷ [])
  noted_field after so marked at within = record {
    stranger = ap (λ (n : Notes). n.stranger) so ∙ ap (λ (n : Notes). n.stranger) is ∙ h.stranger ∙ sym strange;
    falls = ap (λ (n : Notes). n.falls) so ∙ falls_more;
    twice = λ known.
        ap (λ (n : Notes). n.twice) so ∙ ap (λ (n : Notes). n.twice || is_marked n.met p) is
        ∙ ap (λ b. b || is_marked old.met p) (h.twice (sym strange ∙ known))
        ∙ ap (λ b. stands_twice ns || b) (h.met p here)
        ∙ sym (twice_more ns p);
    highest = λ m. highest_all m ∙ ap (λ (n : Notes). nat_lt m n.highest) (sym so);
    met = λ i less.
        marked i ∙ ap (λ (n : Notes). is_marked n.met i || nat_eq i p) is ∙ ap (λ b. b || nat_eq i p) (h.met i less) ∙ sym (any_more (λ n. nat_eq i n) ns p);
  } where
    here : p < count
    here = by (nat_lt p count) refl where
      by : (b : Bool) → nat_lt p count ≡ b → p < count
      by true e = ltb-true p count e
      by false e = absurd (at (omega (arith, ltb-false p count e, within)))

    away : nat_eq p count ≡ false
    away = by (nat_eq p count) refl where
      by : (b : Bool) → nat_eq p count ≡ b → b ≡ false
      by true e = absurd (at (eqb-true p count e))
      by false e = refl

    strange : is_strange count (ns ++ p ∷ []) ≡ is_strange count ns
    strange = any_more (λ n. nat_eq n count) ns p ∙ ap (λ b. is_strange count ns || b) away ∙ or_none (is_strange count ns)
