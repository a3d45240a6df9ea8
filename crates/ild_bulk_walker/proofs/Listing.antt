-- The rows that a walk lists rise by their keys.
use Rattle.std.proofs.Common.{◌≡◌, ℕ, suc, ◌+◌, ◌-◌, Bool, true, false, cond, not, List, [], ◌∷◌, map, get_or, Some, is_some, refl, sym, ap, ◌∙◌, arith, IsPermutation}
use Rattle.std.specs.List.{IsDistinct, AllByRecursion}
use Rattle.std.specs.Cmp.{IsEquivalence}
use Rattle.std.specs.FinMap.{find}
use Rattle.std.specs.Ordering.{eq_by_cmp, is_lt, ordering_reverse}
use Rattle.std.specs.declared.cmp.Ordering.{Ordering}
use Rattle.std.specs.declared.cmp.Ordering.TheVariants.{Less, Equal, Greater}
use Rattle.std.proofs.lemmas.Bool.{and_parts}
use Rattle.std.proofs.lemmas.Cmp.{eq_by_cmp_equiv}
use Rattle.std.proofs.lemmas.List.Sorted.{IsPermutation-map}
use Rattle.std.proofs.lemmas.Map.Keys.{IsDistinct-IsPermutation, IsDistinct-head, IsDistinct-tail}
use Rattle.ild_data.specs.declared.hamt_shape.HamtShape.{HamtShape}
use Rattle.ild_data.specs.ByteOrder.{bytewise, no_key_twice}
use Rattle.ild_data.specs.Data.{Data}
use Rattle.ild_data.specs.Key.{key_cmp, key_less, Rises}
use Rattle.ild_data.specs.Trie.{TrieSlot}
use Rattle.ild_data.specs.TrieShape.{trie_levels}
use Rattle.ild_data.proofs.Rising.{key_cmp_total, key_exact}
use Rattle.ild_hamt_trie.proofs.Parts.{total, key_itself}
use Rattle.ild_node_slots.specs.Form.{IsNode}
use Rattle.ild_bulk_walker.specs.Checked.{InKeyOrder, row_pair, spelled_pair}
use Rattle.ild_bulk_walker.specs.Gives.{RootGives}
use Rattle.ild_bulk_walker.specs.declared.row.Row.{Row}
use Rattle.ild_bulk_walker.proofs.Tried.{given-is-trie}

abbrev key_of : List ℕ × List ℕ → List ℕ
key_of e = e.0

laws : IsEquivalence (eq_by_cmp bytewise)
laws = eq_by_cmp_equiv total

not_found : (k : List ℕ) (es : List (List ℕ × Data)) → not (is_some (find bytewise k es)) ≡ true → AllByRecursion (λ y. eq_by_cmp bytewise k y ≡ false) (map key_of (map spelled_pair es))
not_found k [] none = tt
not_found k (e ∷ es) none = by (eq_by_cmp bytewise k e.0) refl (not_found k es) none
  where
    by : (b : Bool) → eq_by_cmp bytewise k e.0 ≡ b → (not (is_some (find bytewise k es)) ≡ true → AllByRecursion (λ y. eq_by_cmp bytewise k y ≡ false) (map key_of (map spelled_pair es)))
        → not (is_some (cond b (Some e.1) (find bytewise k es))) ≡ true → AllByRecursion (λ y. eq_by_cmp bytewise k y ≡ false) (map key_of (map spelled_pair (e ∷ es)))
    by true is more rest = absurd cc
    by false is more rest = (is, more rest)

distinct_keys : (es : List (List ℕ × Data)) → no_key_twice es ≡ true → IsDistinct (eq_by_cmp bytewise) (map key_of (map spelled_pair es))
unfolding IsDistinct
distinct_keys [] once = tt
distinct_keys (e ∷ es) once = let parts = and_parts (not (is_some (find bytewise e.0 es))) (no_key_twice es) once in (not_found e.0 es parts.0, distinct_keys es parts.1)

strictly : (a b : List ℕ) → key_less b a ≡ false → eq_by_cmp bytewise a b ≡ false → key_cmp a b ≡ Less
strictly a b not_less apart = by_answer (key_cmp a b) refl
  where
    by_answer : (o : Ordering) → key_cmp a b ≡ o → key_cmp a b ≡ Less
    by_answer Less e = e
    by_answer Equal e = let same : eq_by_cmp bytewise a b ≡ true = ap (eq_by_cmp bytewise a) (sym (key_exact a b e)) ∙ key_itself a in absurd cc
    by_answer Greater e = let less : key_less b a ≡ true = ap is_lt (key_cmp_total.antisymm b a ∙ ap ordering_reverse e) in absurd cc

later : (k : ℕ) → suc k + 1 ≡ suc (k + 1)
later k = omega arith

rise_from : (rows : List Row) → IsDistinct (eq_by_cmp bytewise) (map key_of (map row_pair rows)) → InKeyOrder rows → Rises (map row_pair rows)
rise_from [] apart order = tt
rise_from (r ∷ []) apart order = (tt, tt)
rise_from (r ∷ s ∷ rows) apart order = (
  strictly r.key s.key (order 0 r (omega arith) (omega arith)) (IsDistinct-head (eq_by_cmp bytewise) r.key (map key_of (map row_pair (s ∷ rows))) apart).0,
  rise_from (s ∷ rows) (IsDistinct-tail (eq_by_cmp bytewise) r.key (map key_of (map row_pair (s ∷ rows))) apart)
      (λ k d from lt. ap (λ n. key_less (get_or (r ∷ s ∷ rows) n d).key (get_or (s ∷ rows) k d).key) (sym (later k)) ∙ order (suc k) d (omega arith) (omega (arith, lt))),
)

pub rows-rise : (p : HamtShape) (h : List ℕ → List ℕ) (held : List (List ℕ)) (slots : List TrieSlot) (es : List (List ℕ × Data)) (rows : List Row) → IsNode p slots → RootGives h p held (trie_levels p - 1) slots es
    → IsPermutation (map spelled_pair es) (map row_pair rows) → InKeyOrder rows → Rises (map row_pair rows)
rows-rise p h held slots es rows form gives same order =
    rise_from rows
    (IsDistinct-IsPermutation (eq_by_cmp bytewise) laws.symm (map key_of (map spelled_pair es)) (map key_of (map row_pair rows)) (IsPermutation-map key_of (map spelled_pair es) (map row_pair rows) same)
    (distinct_keys es (given-is-trie p h held slots es form gives).distinct)) order
