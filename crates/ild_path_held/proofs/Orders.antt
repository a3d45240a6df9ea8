-- Entries in the key order and in bytewise order: what is found, and what a key put or gone makes.
use Rattle.std.proofs.Common.{◌≡◌, ◌≢◌, ℕ, cond, not, ◌&&◌, List, [], ◌∷◌, Bool, true, false, Some, None, refl, ap, sym, ◌∙◌}
use Rattle.std.specs.Prelude.{is_some}
use Rattle.std.specs.FinMap.{find, put as insert}
use Rattle.std.specs.Ordering.{eq_by_cmp}
use Rattle.std.specs.Cmp.Lexicographic.{same_text as text_same}
use Rattle.ild_splice_changes.proofs.Maps.{own_text, put-there, put-other, without-gone, without-other, below_absent}
use Rattle.ild_data.specs.ByteOrder.{bytewise, in_byte_order, no_key_twice, without as remove}
use Rattle.ild_data.specs.Data.{Data}
use Rattle.ild_data.specs.Key.{Rises, same_text, value_at, put, without}
use Rattle.ild_hamt_trie.proofs.Parts.{same_key, key_itself, same_by_find, in_order-put, in_order-without, in_order-sorted, find-sorted, find-put_at, find-without}

-- one test of keys
same_test : (a b : List ℕ) → eq_by_cmp bytewise a b ≡ same_text a b
same_test a b = by (eq_by_cmp bytewise a b) refl (same_text a b) refl where
  by : (x : Bool) → eq_by_cmp bytewise a b ≡ x → (y : Bool) → same_text a b ≡ y → eq_by_cmp bytewise a b ≡ same_text a b
  by true p true q = p ∙ sym q
  by false p false q = p ∙ sym q
  by true p false q = let e : true ≡ false = sym (own_text a) ∙ ap (same_text a) (same_key a b p) ∙ q in absurd cc
  by false p true q = let e : true ≡ false = sym (key_itself a) ∙ ap (eq_by_cmp bytewise a) (text_same a b (sym q)) ∙ p in absurd cc

pub same_find : (k : List ℕ) (es : List (List ℕ × Data)) → find bytewise k es ≡ value_at k es
same_find k [] = refl
same_find k (e ∷ es) = λ i. cond (same_test k e.0 i) (Some e.1) (same_find k es i)

-- a key of which no test says that it is there
other : (a b : List ℕ) → eq_by_cmp bytewise a b ≡ false → a ≢ b
other a b e same = let h : true ≡ false = sym (key_itself a) ∙ ap (eq_by_cmp bytewise a) same ∙ e in absurd cc

pub once : (es : List (List ℕ × Data)) → Rises es → no_key_twice es ≡ true
once [] up = refl
once (e ∷ es) up = λ i. not (is_some ((same_find e.0 es ∙ below_absent e.0 es up.0 up.1) i)) && once es up.1 i

put_found : (q k : List ℕ) (d : Data) (es : List (List ℕ × Data)) → value_at q (put k d es) ≡ cond (eq_by_cmp bytewise q k) (Some d) (value_at q es)
put_found q k d es = by (eq_by_cmp bytewise q k) refl where
  by : (b : Bool) → eq_by_cmp bytewise q k ≡ b → value_at q (put k d es) ≡ cond b (Some d) (value_at q es)
  by true e = ap (λ x. value_at x (put k d es)) (same_key q k e) ∙ put-there k d es
  by false e = put-other k q d es (λ same. other q k e (sym same))

gone_found : (q k : List ℕ) (es : List (List ℕ × Data)) → Rises es → value_at q (without k es) ≡ cond (not (eq_by_cmp bytewise k q)) (value_at q es) None
gone_found q k es up = by (eq_by_cmp bytewise k q) refl where
  by : (b : Bool) → eq_by_cmp bytewise k q ≡ b → value_at q (without k es) ≡ cond (not b) (value_at q es) None
  by true e = ap (λ x. value_at x (without k es)) (sym (same_key k q e)) ∙ without-gone k es up
  by false e = without-other k q es (other k q e)

-- a key is put among entries in bytewise order as among those in the key order
pub sorted_put : (k : List ℕ) (d : Data) (es : List (List ℕ × Data)) → insert bytewise k d (in_byte_order es) ≡ in_byte_order (put k d es)
sorted_put k d es =
    same_by_find (insert bytewise k d (in_byte_order es)) (in_byte_order (put k d es)) (in_order-put k d (in_byte_order es) (in_order-sorted es)) (in_order-sorted (put k d es))
    (λ q.
    find-put_at q k d (in_byte_order es) ∙ ap (cond (eq_by_cmp bytewise q k) (Some d)) (find-sorted q es ∙ same_find q es)
    ∙ sym (find-sorted q (put k d es) ∙ same_find q (put k d es) ∙ put_found q k d es))

-- and goes from them
pub sorted_without : (k : List ℕ) (es : List (List ℕ × Data)) → Rises es → remove k (in_byte_order es) ≡ in_byte_order (without k es)
sorted_without k es up =
    same_by_find (remove k (in_byte_order es)) (in_byte_order (without k es)) (in_order-without k (in_byte_order es) (in_order-sorted es)) (in_order-sorted (without k es))
    (λ q.
    find-without k (in_byte_order es) q ∙ ap (λ o. cond (not (eq_by_cmp bytewise k q)) o None) (find-sorted q es ∙ same_find q es)
    ∙ sym (find-sorted q (without k es) ∙ same_find q (without k es) ∙ gone_found q k es up))
