-- The other way: slots of given parts are the slots of the parts' entries together.
use Rattle.std.proofs.Common.{◌≡◌, ◌≢◌, ℕ, zero, suc, ◌+◌, ◌<◌, ◌^◌, cond, ◌==◌, List, [], ◌∷◌, ◌++◌, length, map, get_or, Option, Some, None, refl, sym, ap, ◌∙◌, arith, ⊎_elim, flat_map}
use Rattle.std.specs.FinMap.{find}
use Rattle.std.proofs.lemmas.Bool.{eq-eqb, ne_eqb, cases_eq}
use Rattle.std.proofs.lemmas.List.{same_lists, length-map, get_or-map}
use Rattle.std.proofs.lemmas.List.FromFn.{get_or-map-range_with_len, length-map-range_with_len}
use Rattle.ild_data.specs.Data.{Data}
use Rattle.ild_data.specs.declared.hamt_shape.HamtShape.{HamtShape}
use Rattle.ild_data.specs.ByteOrder.{bytewise, in_byte_order, IsInOrder}
use Rattle.ild_data.specs.Trie.{part, slot_of, slots_of, all_some}
use Rattle.ild_hamt_trie.proofs.Parts.{same_by_find, in_order-sorted, in_order-part, find-sorted, find-part}
use Rattle.ild_hamt_trie.proofs.Fold.{or_else, find-append}

-- each key that is found in part i has index i, where parts count from a
abbrev pub StandApart : (List ℕ → ℕ) → ℕ → List (List (List ℕ × Data)) → Type 0
StandApart at a [] = Unit {0}
StandApart at a (es ∷ ess) = IsInOrder es × ((q : List ℕ) → at q ≢ a → find bytewise q es ≡ None) × StandApart at (a + 1) ess

not_among : (at : List ℕ → ℕ) (a : ℕ) (ess : List (List (List ℕ × Data))) (q : List ℕ) → StandApart at a ess → at q < a → find bytewise q (flat_map (λ es. es) ess) ≡ None
unfolding or_else
not_among at a [] q apart lt = refl
not_among at a (es ∷ ess) q apart lt =
    find-append q es (flat_map (λ fs. fs) ess) ∙ (λ i. or_else (apart.1 q (omega arith) i) (not_among at (a + 1) ess q apart.2 (omega arith) i))

pub or_none : (o : Option Data) → or_else o None ≡ o
unfolding or_else
or_none None = refl
or_none (Some x) = refl

or_first : (o x : Option Data) → o ≡ None → or_else o x ≡ x
unfolding or_else
or_first o x e = rw e refl

found_among : (at : List ℕ → ℕ) (a i : ℕ) (ess : List (List (List ℕ × Data))) (q : List ℕ) → StandApart at a ess → i < length ess
    → cond (at q == (a + i)) (find bytewise q (flat_map (λ es. es) ess)) None ≡ find bytewise q (get_or ess i [])
found_among at a i [] q apart lt = absurd (omega arith)
found_among at a zero (es ∷ ess) q apart lt =
    let sum : a + 0 ≡ a = omega arith in
    ⊎_elim
    (λ same. rw (sum, eq-eqb (at q) a same) (find-append q es (flat_map (λ fs. fs) ess)
    ∙ ap (or_else (find bytewise q es)) (not_among at (a + 1) ess q apart.2 (omega (arith, same))) ∙ or_none (find bytewise q es)))
    (λ other. rw (sum, ne_eqb (at q) a other) (sym (apart.1 q other)))
    (cases_eq (at q) a)
found_among at a (suc i) (es ∷ ess) q apart lt =
    let sum : a + suc i ≡ (a + 1) + i = omega arith in
    let rest = found_among at (a + 1) i ess q apart.2 (omega arith) in
    ⊎_elim
    (λ same. ap (λ o. cond (at q == a + suc i) o None) (find-append q es (flat_map (λ fs. fs) ess) ∙ or_first (find bytewise q es) (find bytewise q (flat_map (λ fs. fs) ess)) (apart.1 q (omega (arith, same))))
    ∙ ap (λ n. cond (at q == n) (find bytewise q (flat_map (λ fs. fs) ess)) None) sum ∙ rest)
    (λ other. ap (λ b. cond b (find bytewise q (es ++ flat_map (λ fs. fs) ess)) None) (ne_eqb (at q) (a + suc i) other)
    ∙ ap (λ b. cond b (find bytewise q (flat_map (λ fs. fs) ess)) None) (sym (ne_eqb (at q) (a + suc i) other))
    ∙ ap (λ n. cond (at q == n) (find bytewise q (flat_map (λ fs. fs) ess)) None) sum ∙ rest)
    (cases_eq (at q) (a + suc i))

in_order-at : (at : List ℕ → ℕ) (a i : ℕ) (ess : List (List (List ℕ × Data))) → StandApart at a ess → i < length ess → IsInOrder (get_or ess i [])
in_order-at at a i [] apart lt = absurd (omega arith)
in_order-at at a zero (es ∷ ess) apart lt = apart.0
in_order-at at a (suc i) (es ∷ ess) apart lt = in_order-at at (a + 1) i ess apart.2 (omega arith)

-- the part of all of them at an index is the one that was given
pub part-gathered : (at : List ℕ → ℕ) (i : ℕ) (ess : List (List (List ℕ × Data))) → StandApart at 0 ess → i < length ess
    → part at (in_byte_order (flat_map (λ es. es) ess)) i ≡ get_or ess i []
part-gathered at i ess apart lt =
    same_by_find _ _ (in_order-part at (in_byte_order (flat_map (λ es. es) ess)) i (in_order-sorted (flat_map (λ es. es) ess))) (in_order-at at 0 i ess apart lt)
    (λ q. find-part at (in_byte_order (flat_map (λ es. es) ess)) i q ∙ ap (λ o. cond (at q == i) o None) (find-sorted q (flat_map (λ es. es) ess))
    ∙ ap (λ n. cond (at q == n) (find bytewise q (flat_map (λ es. es) ess)) None) (zero_add i)
    ∙ found_among at 0 i ess q apart lt)
  where
    zero_add : (i : ℕ) → i ≡ 0 + i
    zero_add i = omega arith

-- so the slots of the given parts are the slots of all of them
pub slots-gathered : (p : HamtShape) (at : List ℕ → ℕ) (below : List (List ℕ × Data) → Option Data) (ess : List (List (List ℕ × Data))) → StandApart at 0 ess → length ess ≡ 2 ^ p.width
    → slots_of p at below (in_byte_order (flat_map (λ es. es) ess)) ≡ all_some (map (slot_of p.bucket below) ess)
slots-gathered p at below ess apart long =
    let all : List (List ℕ × Data) = in_byte_order (flat_map (λ es. es) ess) in
    ap all_some (same_lists _ _
    (length-map-range_with_len (λ i. slot_of p.bucket below (part at all i)) 0 (2 ^ p.width) ∙ sym long ∙ sym (length-map ess (slot_of p.bucket below)))
    (λ k d lt.
    let inside : k < 2 ^ p.width = omega (arith, length-map-range_with_len (λ i. slot_of p.bucket below (part at all i)) 0 (2 ^ p.width)) in
    let among : k < length ess = omega arith in
    get_or-map-range_with_len (λ i. slot_of p.bucket below (part at all i)) 0 (2 ^ p.width) k k d inside (omega arith)
    ∙ ap (slot_of p.bucket below) (part-gathered at k ess apart among)
    ∙ sym (get_or-map (slot_of p.bucket below) ess k [] d among)))
