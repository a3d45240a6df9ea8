-- A node's slots: a put and a removal change the one at the key's index.
use Rattle.std.proofs.Common.{◌≡◌, ◌≢◌, ℕ, zero, suc, ◌<◌, ◌^◌, List, [], ◌∷◌, length, map, get_or, set, Option, Some, None, option_map, refl, sym, ap, ◌∙◌, arith, ⊎_elim}
use Rattle.std.specs.List.{range_with_len}
use Rattle.std.specs.FinMap.{put}
use Rattle.std.proofs.lemmas.List.{same_lists, length-set, get_or-set_same, get_or-set_other}
use Rattle.std.proofs.lemmas.List.FromFn.{get_or-map-range_with_len, length-map-range_with_len}
use Rattle.std.proofs.lemmas.Bool.{cases_eq}
use Rattle.ild_data.specs.Data.{Data}
use Rattle.ild_data.specs.declared.hamt_shape.HamtShape.{HamtShape}
use Rattle.ild_data.specs.ByteOrder.{bytewise, without, IsInOrder}
use Rattle.ild_data.specs.Trie.{part, TrieSlot, slot_of, slots_of, all_some}
use Rattle.ild_hamt_trie.proofs.Parts.{part-put_same, part-put_other, part-without_same, part-without_other}

-- two functions that differ at one index alone
pub map-range_set : {X : Type 0} (f g : ℕ → X) (n j : ℕ) (y : X) → j < n → g j ≡ y → ((i : ℕ) → i ≢ j → g i ≡ f i)
    → map g (range_with_len 0 n) ≡ set (map f (range_with_len 0 n)) j y
map-range_set f g n j y lt here there =
    same_lists _ _ (length-map-range_with_len g 0 n ∙ sym (length-map-range_with_len f 0 n) ∙ sym (length-set (map f (range_with_len 0 n)) j y))
    (λ k d k_lt.
    let below : k < n = omega (arith, length-map-range_with_len g 0 n) in
    let inside : j < length (map f (range_with_len 0 n)) = omega (arith, length-map-range_with_len f 0 n) in
    get_or-map-range_with_len g 0 n k k d below (omega arith)
    ∙ ⊎_elim
    (λ same. ap g same ∙ here ∙ sym (ap (λ m. get_or (set (map f (range_with_len 0 n)) j y) m d) same ∙ get_or-set_same (map f (range_with_len 0 n)) j y d inside))
    (λ apart. there k apart ∙ sym (get_or-set_other (map f (range_with_len 0 n)) j k y d apart ∙ get_or-map-range_with_len f 0 n k k d below (omega arith)))
    (cases_eq k j))

-- the parts of a list that has each element
pub some_cons : {X : Type 0} (z : X) (r : Option (List X)) (xs : List X) → option_map (λ ys. z ∷ ys) r ≡ Some xs → (ys : List X) × (r ≡ Some ys) × (xs ≡ z ∷ ys)
some_cons z None xs is = absurd cc
some_cons z (Some ys) xs is = (ys, refl, cc)

first_set : {X : Type 0} (z : X) (os : List (Option X)) (ys : List X) (o : Option X) → all_some os ≡ Some ys
    → all_some (o ∷ os) ≡ option_map (λ x. set (z ∷ ys) 0 x) o
first_set z os ys None is = refl
first_set z os ys (Some x) is = rw is refl

later_set : {X : Type 0} (z : X) (ys : List X) (i : ℕ) (o : Option X)
    → option_map (λ xs. z ∷ xs) (option_map (λ x. set ys i x) o) ≡ option_map (λ x. set (z ∷ ys) (suc i) x) o
later_set z ys i None = refl
later_set z ys i (Some x) = refl

pub all_some-set : {X : Type 0} (os : List (Option X)) (xs : List X) (i : ℕ) (o : Option X) → i < length os → all_some os ≡ Some xs
    → all_some (set os i o) ≡ option_map (λ x. set xs i x) o
all_some-set [] xs i o lt is = absurd (omega arith)
all_some-set (None ∷ os) xs i o lt is = absurd cc
all_some-set (Some z ∷ os) xs zero o lt is =
    let parts = some_cons z (all_some os) xs is in
    first_set z os parts.0 o parts.1 ∙ ap (λ ys. option_map (λ x. set ys 0 x) o) (sym parts.2)
all_some-set (Some z ∷ os) xs (suc i) o lt is =
    let parts = some_cons z (all_some os) xs is in
    ap (option_map (λ ys. z ∷ ys)) (all_some-set os parts.0 i o (omega arith) parts.1) ∙ later_set z parts.0 i o
    ∙ ap (λ ys. option_map (λ x. set ys (suc i) x) o) (sym parts.2)

-- each element of a list that has each
pub all_some-get_or : {X : Type 0} (os : List (Option X)) (xs : List X) (i : ℕ) (d : Option X) (x : X) → i < length os → all_some os ≡ Some xs
    → get_or os i d ≡ Some (get_or xs i x)
all_some-get_or [] xs i d x lt is = absurd (omega arith)
all_some-get_or (None ∷ os) xs i d x lt is = absurd cc
all_some-get_or (Some z ∷ os) xs zero d x lt is =
    let parts = some_cons z (all_some os) xs is in ap (λ ys. Some (get_or ys 0 x)) (sym parts.2)
all_some-get_or (Some z ∷ os) xs (suc i) d x lt is =
    let parts = some_cons z (all_some os) xs is in
    all_some-get_or os parts.0 i d x (omega arith) parts.1 ∙ ap (λ ys. Some (get_or ys (suc i) x)) (sym parts.2)

pub all_some-length : {X : Type 0} (os : List (Option X)) (xs : List X) → all_some os ≡ Some xs → length xs ≡ length os
all_some-length [] xs is = let e : xs ≡ [] = cc in ap length e
all_some-length (None ∷ os) xs is = absurd cc
all_some-length (Some z ∷ os) xs is =
    let parts = some_cons z (all_some os) xs is in ap length parts.2 ∙ ap suc (all_some-length os parts.0 parts.1)

-- the first element and the others
pub all_some-cons : {X : Type 0} (o : Option X) (os : List (Option X)) (xs : List X) → all_some (o ∷ os) ≡ Some xs
    → (x : X) × (ys : List X) × (o ≡ Some x) × (all_some os ≡ Some ys) × (xs ≡ x ∷ ys)
all_some-cons None os xs is = absurd cc
all_some-cons (Some x) os xs is = let parts = some_cons x (all_some os) xs is in (x, parts.0, refl, parts.1, parts.2)

-- the slot of each part
abbrev pub pieces : HamtShape → (List ℕ → ℕ) → (List (List ℕ × Data) → Option Data) → List (List ℕ × Data) → List (Option TrieSlot)
pieces p at below es = map (λ i. slot_of p.bucket below (part at es i)) (range_with_len 0 (2 ^ p.width))

-- the change of the slots where the part at one index alone changes
pub slots-changed : (p : HamtShape) (at : List ℕ → ℕ) (below : List (List ℕ × Data) → Option Data) (es fs : List (List ℕ × Data)) (i : ℕ) (slots : List TrieSlot)
    → i < 2 ^ p.width → ((j : ℕ) → j ≢ i → part at fs j ≡ part at es j) → slots_of p at below es ≡ Some slots
    → slots_of p at below fs ≡ option_map (λ s. set slots i s) (slot_of p.bucket below (part at fs i))
slots-changed p at below es fs i slots lt other is =
    ap all_some (map-range_set (λ j. slot_of p.bucket below (part at es j)) (λ j. slot_of p.bucket below (part at fs j)) (2 ^ p.width) i _ lt refl
    (λ j apart. ap (slot_of p.bucket below) (other j apart)))
    ∙ all_some-set (pieces p at below es) slots i (slot_of p.bucket below (part at fs i))
    (omega (arith, length-map-range_with_len (λ j. slot_of p.bucket below (part at es j)) 0 (2 ^ p.width))) is

-- set: the slot at the key's index is the slot of the part with the pair
pub slots-put : (p : HamtShape) (at : List ℕ → ℕ) (below : List (List ℕ × Data) → Option Data) (es : List (List ℕ × Data)) (k : List ℕ) (v : Data) (slots : List TrieSlot)
    → at k < 2 ^ p.width → IsInOrder es → slots_of p at below es ≡ Some slots
    → slots_of p at below (put bytewise k v es) ≡ option_map (λ s. set slots (at k) s) (slot_of p.bucket below (put bytewise k v (part at es (at k))))
slots-put p at below es k v slots lt h is =
    slots-changed p at below es (put bytewise k v es) (at k) slots lt (λ j apart. part-put_other at k v es j h (λ e. apart (sym e))) is
    ∙ ap (λ fs. option_map (λ s. set slots (at k) s) (slot_of p.bucket below fs)) (part-put_same at k v es (at k) h refl)

-- remove: the slot at the key's index is the slot of the part without the key
pub slots-without : (p : HamtShape) (at : List ℕ → ℕ) (below : List (List ℕ × Data) → Option Data) (es : List (List ℕ × Data)) (k : List ℕ) (slots : List TrieSlot)
    → at k < 2 ^ p.width → IsInOrder es → slots_of p at below es ≡ Some slots
    → slots_of p at below (without k es) ≡ option_map (λ s. set slots (at k) s) (slot_of p.bucket below (without k (part at es (at k))))
slots-without p at below es k slots lt h is =
    slots-changed p at below es (without k es) (at k) slots lt (λ j apart. part-without_other at k es j h (λ e. apart (sym e))) is
    ∙ ap (λ fs. option_map (λ s. set slots (at k) s) (slot_of p.bucket below fs)) (part-without_same at k es (at k) h)

-- what stands in the slot is the slot of the part
pub slot_at : (p : HamtShape) (at : List ℕ → ℕ) (below : List (List ℕ × Data) → Option Data) (es : List (List ℕ × Data)) (i : ℕ) (slots : List TrieSlot) (z : TrieSlot)
    → i < 2 ^ p.width → slots_of p at below es ≡ Some slots → slot_of p.bucket below (part at es i) ≡ Some (get_or slots i z)
slot_at p at below es i slots z lt is =
    sym (get_or-map-range_with_len (λ j. slot_of p.bucket below (part at es j)) 0 (2 ^ p.width) i i None lt (omega arith))
    ∙ all_some-get_or (pieces p at below es) slots i None z (omega (arith, length-map-range_with_len (λ j. slot_of p.bucket below (part at es j)) 0 (2 ^ p.width))) is
