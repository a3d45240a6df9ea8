-- A list in any order of its keys has no key twice, and a put there is a put among the pairs.
use Rattle.std.proofs.Common.{◌≡◌, ℕ, ◌-◌, Bool, true, false, cond, not, ◌&&◌, T, List, [], ◌∷◌, Some, None, is_some, refl, sym, ap, ◌∙◌, subst}
use Rattle.std.specs.Cmp.{IsTotalOrder}
use Rattle.std.specs.Ordering.{eq_by_cmp, is_eq, is_lt}
use Rattle.std.specs.declared.cmp.Ordering.{Ordering}
use Rattle.std.specs.declared.cmp.Ordering.TheVariants.{Less, Equal, Greater}
use Rattle.std.specs.FinMap.{find, put, is_sorted, IsAntisymmetric}
use Rattle.std.specs.FinMap.Entries.{below_all, find-put}
use Rattle.std.proofs.lemmas.Cmp.{tied_itself}
use Rattle.ild_data.specs.Data.{Data}
use Rattle.ild_data.specs.ByteOrder.{bytewise, in_byte_order, no_key_twice, without}
use Rattle.ild_data.specs.Trie.{trie, node_of}
use Rattle.ild_data.specs.declared.hamt_shape.HamtShape.{HamtShape}
use Rattle.ild_data.specs.TrieShape.{trie_levels}
use Rattle.ild_hamt_trie.proofs.Node.{trie-sorted}
use Rattle.ild_hamt_trie.proofs.Parts.{same_key, key_itself, equal_if, same_by_find, in_order-put, in_order-sorted, find-put_at, find-sorted, in_order-without, find-without}

pub and_T : (a b : Bool) → T (a && b) → (a ≡ true) × T b
and_T true b p = (refl, p)
and_T false b p = absurd p

and_both : (a b : Bool) → T (a && b) → T a × T b
and_both true b p = (tt, p)
and_both false b p = absurd p

unequal : (r : Ordering) → is_lt r ≡ true → is_eq r ≡ false
unequal Less e = refl
unequal Equal e = absurd cc
unequal Greater e = refl

module _ (R : List ℕ → List ℕ → Ordering) (o : IsTotalOrder R) (anti : IsAntisymmetric R) where
  -- both tests tell whether two keys are one
  same_test : (x y : List ℕ) → eq_by_cmp R x y ≡ eq_by_cmp bytewise x y
  same_test x y = by_answers (eq_by_cmp R x y) (eq_by_cmp bytewise x y) refl refl
    where
      by_answers : (a b : Bool) → eq_by_cmp R x y ≡ a → eq_by_cmp bytewise x y ≡ b → a ≡ b
      by_answers true true p q = refl
      by_answers false false p q = refl
      by_answers true false p q = sym (subst (λ (z : List ℕ). eq_by_cmp bytewise x z ≡ true) (anti x y (equal_if (R x y) p)) (key_itself x)) ∙ q
      by_answers false true p q = sym p ∙ subst (λ (z : List ℕ). eq_by_cmp R x z ≡ true) (same_key x y q) (ap is_eq (tied_itself o x))

  pub find_same : (q : List ℕ) (es : List (List ℕ × Data)) → find R q es ≡ find bytewise q es
  find_same q [] = refl
  find_same q (e ∷ es) = λ i. cond (same_test q e.0 i) (Some e.1) (find_same q es i)

  not_below : (x : List ℕ) (es : List (List ℕ × Data)) → T (below_all R x es) → find R x es ≡ None
  not_below x [] h = refl
  not_below x (e ∷ es) h =
      let parts = and_T (is_lt (R x e.0)) (below_all R x es) h in
      ap (λ b. cond b (Some e.1) (find R x es)) (unequal (R x e.0) parts.0) ∙ not_below x es parts.1

  pub no_key_twice-sorted : (es : List (List ℕ × Data)) → T (is_sorted R es) → no_key_twice es ≡ true
  no_key_twice-sorted [] h = refl
  no_key_twice-sorted (e ∷ es) h =
      let parts = and_both (below_all R e.0 es) (is_sorted R es) h in
      ap (λ o. not (is_some o) && no_key_twice es) (sym (find_same e.0 es) ∙ not_below e.0 es parts.0) ∙ no_key_twice-sorted es parts.1

  -- the pairs of a list with a pair put, in bytewise order
  pub sorted-put : (k : List ℕ) (v : Data) (es : List (List ℕ × Data)) → in_byte_order (put R k v es) ≡ put bytewise k v (in_byte_order es)
  sorted-put k v es =
      same_by_find _ _ (in_order-sorted (put R k v es)) (in_order-put k v (in_byte_order es) (in_order-sorted es))
      (λ q. find-sorted q (put R k v es) ∙ sym (find_same q (put R k v es)) ∙ find-put R o q k v es
      ∙ (λ i. cond (same_test q k i) (Some v) (find_same q es i)) ∙ ap (λ x. cond (eq_by_cmp bytewise q k) (Some v) x) (sym (find-sorted q es)) ∙ sym (find-put_at q k v (in_byte_order es)))

-- the trie of entries with a pair set, and without a key, whatever list has these pairs
pub trie-set : (h : List ℕ → List ℕ) (p : HamtShape) (k : List ℕ) (v : Data) (es fs : List (List ℕ × Data)) (depth : ℕ) → no_key_twice fs ≡ true
    → ((q : List ℕ) → find bytewise q fs ≡ cond (eq_by_cmp bytewise q k) (Some v) (find bytewise q es))
    → trie h p fs depth ≡ node_of h p (trie_levels p - depth) depth (put bytewise k v (in_byte_order es))
trie-set h p k v es fs depth one is =
    trie-sorted h p fs depth one
    ∙ ap (node_of h p (trie_levels p - depth) depth)
    (same_by_find _ _ (in_order-sorted fs) (in_order-put k v (in_byte_order es) (in_order-sorted es))
    (λ q. find-sorted q fs ∙ is q ∙ ap (λ o. cond (eq_by_cmp bytewise q k) (Some v) o) (sym (find-sorted q es)) ∙ sym (find-put_at q k v (in_byte_order es))))

pub trie-removed : (h : List ℕ → List ℕ) (p : HamtShape) (k : List ℕ) (es fs : List (List ℕ × Data)) (depth : ℕ) → no_key_twice fs ≡ true
    → ((q : List ℕ) → find bytewise q fs ≡ cond (not (eq_by_cmp bytewise k q)) (find bytewise q es) None)
    → trie h p fs depth ≡ node_of h p (trie_levels p - depth) depth (without k (in_byte_order es))
trie-removed h p k es fs depth one is =
    trie-sorted h p fs depth one
    ∙ ap (node_of h p (trie_levels p - depth) depth)
    (same_by_find _ _ (in_order-sorted fs) (in_order-without k (in_byte_order es) (in_order-sorted es))
    (λ q. find-sorted q fs ∙ is q ∙ ap (λ o. cond (not (eq_by_cmp bytewise k q)) o None) (sym (find-sorted q es)) ∙ sym (find-without k (in_byte_order es) q)))
