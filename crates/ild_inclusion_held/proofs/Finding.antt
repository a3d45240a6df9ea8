-- Blocks in lists, told apart.
use Rattle.std.proofs.Common.{◌≡◌, ◌≢◌, ℕ, suc, List, [], ◌∷◌, Bool, true, false, cond, Option, Some, inl, inr, refl, subst, arith}
use Rattle.std.specs.Prelude.{◌⊎◌, Contains, find}
use Rattle.std.specs.List.{AllByRecursion}
use Rattle.std.specs.Ordering.{eq_by_cmp}
use Rattle.std.proofs.lemmas.Option.{none-some, same_Some}
use Rattle.ild_data.specs.ByteOrder.{bytewise}
use Rattle.ild_data.specs.Bytes.{AreBytes}
use Rattle.ild_data.specs.Spell.{id_of}
use Rattle.ild_edges.specs.Store.{block_at}
use Rattle.ild_data.specs.Key.{same_text}
use Rattle.ild_hamt_trie.proofs.Parts.{key_itself, same_key}
use Rattle.ild_inclusion_held.specs.Laws.{TwoCollide}

pub contains_first : (x : List ℕ) (xs : List (List ℕ)) → Contains (x ∷ xs) x
contains_first x xs = (0, omega arith, refl)

pub contains_later : (x y : List ℕ) (xs : List (List ℕ)) → Contains xs y → Contains (x ∷ xs) y
contains_later x y xs c = let lt = c.1 in (suc c.0, omega (arith, lt), c.2)

found_by : (x y : List ℕ) (xs : List (List ℕ)) (rest : Option (List ℕ)) → (rest ≡ Some y → Contains xs y) → (b : Bool) → cond b (Some x) rest ≡ Some y → Contains (x ∷ xs) y
found_by x y xs rest later true is = subst (λ (z : List ℕ). Contains (x ∷ xs) z) (same_Some x y is) (contains_first x xs)
found_by x y xs rest later false is = contains_later x y xs (later is)

found_in : (test : List ℕ → Bool) (xs : List (List ℕ)) (y : List ℕ) → find test xs ≡ Some y → Contains xs y
found_in test [] y e = absurd (none-some y e)
found_in test (x ∷ xs) y e = found_by x y xs (find test xs) (found_in test xs y) (test x) e

pub held_in : (held : List (List ℕ)) (id b : List ℕ) → block_at held id ≡ Some b → Contains held b
held_in held id b e = found_in (λ c. same_text (id_of c) id) held b e

-- each block of a list is in it
all_in : (ys xs : List (List ℕ)) → ((b : List ℕ) → Contains xs b → Contains ys b) → AllByRecursion (Contains ys) xs
all_in ys [] sub = tt
all_in ys (x ∷ xs) sub = (sub x (contains_first x xs), all_in ys xs (λ b in_. sub b (contains_later x b xs in_)))

pub all_own : (xs : List (List ℕ)) → AllByRecursion (Contains xs) xs
all_own xs = all_in xs xs (λ b in_. in_)

-- a block with the id of another is that one, or they collide
pub same_or_collide : (blocks others : List (List ℕ)) (b c : List ℕ) → Contains blocks b → Contains others c → AreBytes b → AreBytes c → id_of b ≡ id_of c → (b ≡ c) ⊎ TwoCollide blocks others
same_or_collide blocks others b c x y first second named = by (eq_by_cmp bytewise b c) refl where
  by : (r : Bool) → eq_by_cmp bytewise b c ≡ r → (b ≡ c) ⊎ TwoCollide blocks others
  by true e = inl (same_key b c e)
  by false e = inr (record { one = b; two = c; first = x; second = y; collide = record { kept_bytes = first; new_bytes = second; differ = differ; one_id = named } }) where
    differ : b ≢ c
    differ same = let yes : eq_by_cmp bytewise b c ≡ true = subst (λ (z : List ℕ). eq_by_cmp bytewise b z ≡ true) same (key_itself b) in absurd cc
