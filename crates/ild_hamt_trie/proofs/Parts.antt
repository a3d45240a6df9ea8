-- Parts of entries in order, and what a put and a removal do to them.
use Rattle.std.proofs.Common.{◌≡◌, ◌≢◌, ℕ, Bool, true, false, cond, not, ◌==◌, List, [], ◌∷◌, Option, Some, None, refl, sym, ap, ◌∙◌}
use Rattle.std.specs.Cmp.{IsTotalOrder}
use Rattle.std.specs.Ordering.{eq_by_cmp, is_eq}
use Rattle.std.specs.declared.cmp.Ordering.{Ordering}
use Rattle.std.specs.declared.cmp.Ordering.TheVariants.{Less, Equal, Greater}
use Rattle.std.specs.FinMap.{find, put, slice_cmp-IsAntisymmetric, nat_cmp-IsAntisymmetric}
use Rattle.std.specs.FinMap.Entries.{is_sorted-put, is_sorted-where_key, find-put, find-where_key, same_entries}
use Rattle.std.proofs.lemmas.Cmp.{nat_list_cmp_total, tied_itself}
use Rattle.std.proofs.lemmas.Bool.{eq-eqb, ne_eqb}
use Rattle.ild_data.specs.Data.{Data}
use Rattle.ild_data.specs.ByteOrder.{bytewise, in_byte_order, without, IsInOrder}
use Rattle.ild_data.specs.Trie.{part}

pub total : IsTotalOrder bytewise
total = nat_list_cmp_total

pub same_if_equal : (x y : List ℕ) → bytewise x y ≡ Equal → x ≡ y
same_if_equal = slice_cmp-IsAntisymmetric nat_cmp-IsAntisymmetric

pub equal_if : (o : Ordering) → is_eq o ≡ true → o ≡ Equal
equal_if Less e = absurd cc
equal_if Equal e = refl
equal_if Greater e = absurd cc

pub same_key : (x y : List ℕ) → eq_by_cmp bytewise x y ≡ true → x ≡ y
same_key x y e = same_if_equal x y (equal_if (bytewise x y) e)

pub key_itself : (x : List ℕ) → eq_by_cmp bytewise x x ≡ true
key_itself x = ap is_eq (tied_itself total x)

-- two lists in order that answer alike are the same
pub same_by_find : (es fs : List (List ℕ × Data)) → IsInOrder es → IsInOrder fs → ((q : List ℕ) → find bytewise q es ≡ find bytewise q fs) → es ≡ fs
same_by_find es fs a b is = same_entries bytewise total same_if_equal es fs a b is

pub in_order-part : (at : List ℕ → ℕ) (es : List (List ℕ × Data)) (i : ℕ) → IsInOrder es → IsInOrder (part at es i)
in_order-part at es i h = is_sorted-where_key bytewise (λ k. at k == i) es h

pub in_order-without : (k : List ℕ) (es : List (List ℕ × Data)) → IsInOrder es → IsInOrder (without k es)
in_order-without k es h = is_sorted-where_key bytewise (λ q. not (eq_by_cmp bytewise k q)) es h

pub in_order-put : (k : List ℕ) (v : Data) (es : List (List ℕ × Data)) → IsInOrder es → IsInOrder (put bytewise k v es)
in_order-put k v es h = is_sorted-put bytewise total k v es h

pub find-part : (at : List ℕ → ℕ) (es : List (List ℕ × Data)) (i : ℕ) (q : List ℕ) → find bytewise q (part at es i) ≡ cond (at q == i) (find bytewise q es) None
find-part at es i q = find-where_key bytewise (λ k. at k == i) q (λ x e. ap (λ k. at k == i) (sym (same_if_equal q x e))) es

pub find-without : (k : List ℕ) (es : List (List ℕ × Data)) (q : List ℕ) → find bytewise q (without k es) ≡ cond (not (eq_by_cmp bytewise k q)) (find bytewise q es) None
find-without k es q = find-where_key bytewise (λ x. not (eq_by_cmp bytewise k x)) q (λ x e. ap (λ y. not (eq_by_cmp bytewise k y)) (sym (same_if_equal q x e))) es

pub find-put_at : (q k : List ℕ) (v : Data) (es : List (List ℕ × Data)) → find bytewise q (put bytewise k v es) ≡ cond (eq_by_cmp bytewise q k) (Some v) (find bytewise q es)
find-put_at q k v es = find-put bytewise total q k v es

-- the pair at its own index
here : (at : List ℕ → ℕ) (q k : List ℕ) (i : ℕ) (b : Bool) (x y : Option Data) → at k ≡ i → eq_by_cmp bytewise q k ≡ b
    → cond (at q == i) (cond b x y) None ≡ cond b x (cond (at q == i) y None)
here at q k i true x y e is = rw (same_key q k is, eq-eqb (at k) i e) refl
here at q k i false x y e is = refl

pub part-put_same : (at : List ℕ → ℕ) (k : List ℕ) (v : Data) (es : List (List ℕ × Data)) (i : ℕ) → IsInOrder es → at k ≡ i
    → part at (put bytewise k v es) i ≡ put bytewise k v (part at es i)
part-put_same at k v es i h e =
    same_by_find _ _ (in_order-part at _ i (in_order-put k v es h)) (in_order-put k v _ (in_order-part at es i h))
    (λ q. find-part at (put bytewise k v es) i q ∙ ap (λ o. cond (at q == i) o None) (find-put_at q k v es)
    ∙ here at q k i (eq_by_cmp bytewise q k) (Some v) (find bytewise q es) e refl
    ∙ ap (λ o. cond (eq_by_cmp bytewise q k) (Some v) o) (sym (find-part at es i q)) ∙ sym (find-put_at q k v (part at es i)))

-- at another index
there : (at : List ℕ → ℕ) (q k : List ℕ) (i : ℕ) (b : Bool) (x y : Option Data) → (at k ≢ i) → eq_by_cmp bytewise q k ≡ b
    → cond (at q == i) (cond b x y) None ≡ cond (at q == i) y None
there at q k i true x y e is = rw (same_key q k is, ne_eqb (at k) i e) refl
there at q k i false x y e is = refl

pub part-put_other : (at : List ℕ → ℕ) (k : List ℕ) (v : Data) (es : List (List ℕ × Data)) (i : ℕ) → IsInOrder es → (at k ≢ i)
    → part at (put bytewise k v es) i ≡ part at es i
part-put_other at k v es i h e =
    same_by_find _ _ (in_order-part at _ i (in_order-put k v es h)) (in_order-part at es i h)
    (λ q. find-part at (put bytewise k v es) i q ∙ ap (λ o. cond (at q == i) o None) (find-put_at q k v es)
    ∙ there at q k i (eq_by_cmp bytewise q k) (Some v) (find bytewise q es) e refl
    ∙ sym (find-part at es i q))

turned : (a b : Bool) (x : Option Data) → cond a (cond b x None) None ≡ cond b (cond a x None) None
turned true b x = refl
turned false true x = refl
turned false false x = refl

pub part-without_same : (at : List ℕ → ℕ) (k : List ℕ) (es : List (List ℕ × Data)) (i : ℕ) → IsInOrder es
    → part at (without k es) i ≡ without k (part at es i)
part-without_same at k es i h =
    same_by_find _ _ (in_order-part at _ i (in_order-without k es h)) (in_order-without k _ (in_order-part at es i h))
    (λ q. find-part at (without k es) i q ∙ ap (λ o. cond (at q == i) o None) (find-without k es q)
    ∙ turned (at q == i) (not (eq_by_cmp bytewise k q)) (find bytewise q es)
    ∙ ap (λ o. cond (not (eq_by_cmp bytewise k q)) o None) (sym (find-part at es i q)) ∙ sym (find-without k (part at es i) q))

gone : (at : List ℕ → ℕ) (q k : List ℕ) (i : ℕ) (b : Bool) (x : Option Data) → (at k ≢ i) → eq_by_cmp bytewise k q ≡ b
    → cond (at q == i) (cond (not b) x None) None ≡ cond (at q == i) x None
gone at q k i true x e is = rw (sym (same_key k q is), ne_eqb (at k) i e) refl
gone at q k i false x e is = refl

pub part-without_other : (at : List ℕ → ℕ) (k : List ℕ) (es : List (List ℕ × Data)) (i : ℕ) → IsInOrder es → (at k ≢ i)
    → part at (without k es) i ≡ part at es i
part-without_other at k es i h e =
    same_by_find _ _ (in_order-part at _ i (in_order-without k es h)) (in_order-part at es i h)
    (λ q. find-part at (without k es) i q ∙ ap (λ o. cond (at q == i) o None) (find-without k es q)
    ∙ gone at q k i (eq_by_cmp bytewise k q) (find bytewise q es) e refl
    ∙ sym (find-part at es i q))

-- `sorted`: it is in order and answers as the list does
pub in_order-sorted : (es : List (List ℕ × Data)) → IsInOrder (in_byte_order es)
in_order-sorted [] = tt
in_order-sorted (e ∷ es) = in_order-put e.0 e.1 (in_byte_order es) (in_order-sorted es)

pub find-sorted : (q : List ℕ) (es : List (List ℕ × Data)) → find bytewise q (in_byte_order es) ≡ find bytewise q es
find-sorted q [] = refl
find-sorted q (e ∷ es) = find-put_at q e.0 e.1 (in_byte_order es) ∙ ap (λ o. cond (eq_by_cmp bytewise q e.0) (Some e.1) o) (find-sorted q es)

pub sorted_alike : (es fs : List (List ℕ × Data)) → ((q : List ℕ) → find bytewise q es ≡ find bytewise q fs) → in_byte_order es ≡ in_byte_order fs
sorted_alike es fs is = same_by_find _ _ (in_order-sorted es) (in_order-sorted fs) (λ q. find-sorted q es ∙ is q ∙ sym (find-sorted q fs))

pub sorted_in_order : (es : List (List ℕ × Data)) → IsInOrder es → in_byte_order es ≡ es
sorted_in_order es h = same_by_find _ _ (in_order-sorted es) h (λ q. find-sorted q es)
