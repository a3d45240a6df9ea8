-- The nodes beneath a bucket with one entry too many stand on the key's way.
use Rattle.std.proofs.Common.{◌≡◌, ◌≢◌, ⊎_elim, ℕ, zero, suc, ◌+◌, ◌≤◌, ◌<◌, ◌==◌, ◌^◌, nat_le, Bool, true, false, cond, List, [], ◌∷◌, ◌++◌, length, Option, Some, None, is_some, flat_map, refl, sym, ap, ◌∙◌, subst, arith}
use Rattle.std.specs.Prelude.{reverse}
use Rattle.std.specs.List.{range_with_len}
use Rattle.std.specs.Ordering.{eq_by_cmp}
use Rattle.std.specs.FinMap.{find}
use Rattle.std.proofs.lemmas.Bool.{le-leb, eq-eqb, ne_eqb, cases_eq}
use Rattle.std.proofs.lemmas.List.{append-nil, reverse-append}
use Rattle.ild_data.specs.Data.{Data}
use Rattle.ild_data.specs.declared.hamt_shape.HamtShape.{HamtShape}
use Rattle.ild_data.specs.ByteOrder.{bytewise}
use Rattle.ild_data.specs.Trie.{part, node_of, at_depth}
use Rattle.ild_data.specs.TrieBlocks.{node_and_beneath, none_or, block_of}
use Rattle.ild_hamt_trie.specs.Way.{way}
use Rattle.ild_hamt_trie.proofs.Parts.{same_key, find-part}
use Rattle.ild_hamt_trie.proofs.Fold.{length-part}
use Rattle.ild_hamt_trie.proofs.Index.{index_below}
use Rattle.ild_hamt_trie.proofs.Way.{way_is}
use Rattle.ild_bulk.specs.Planned.{planned, slot_plan}
use Rattle.ild_bulk.proofs.Building.{planned_is}

-- the part at another index lacks the key's entry
pub other-less : (at : List ℕ → ℕ) (k : List ℕ) (i : ℕ) (es : List (List ℕ × Data)) → at k ≢ i → is_some (find bytewise k es) ≡ true → length (part at es i) < length es
other-less at k i [] apart some = absurd cc
other-less at k i (e ∷ es) apart some = by_key (eq_by_cmp bytewise k e.0) refl some (λ found. other-less at k i es apart found)
  where
    by_key : (b : Bool) → eq_by_cmp bytewise k e.0 ≡ b → is_some (cond b (Some e.1) (find bytewise k es)) ≡ true
        → (is_some (find bytewise k es) ≡ true → length (part at es i) < length es) → length (part at (e ∷ es) i) < length (e ∷ es)
    by_key true is found later =
        let other : (at e.0 == i) ≡ false = ne_eqb (at e.0) i (λ same. apart (ap at (same_key k e.0 is) ∙ same)) in
        let le = length-part at es i in
        subst (λ (c : Bool). length (cond c (e ∷ part at es i) (part at es i)) < suc (length es)) (sym other) (omega arith)
    by_key false is found later =
        let rest = later found in
        elim (at e.0 == i) as (λ c. length (cond c (e ∷ part at es i) (part at es i)) < suc (length es)) [ true ↦ omega arith | false ↦ omega arith ]

-- where one piece alone isn't empty
pub no-piece : {X : Type 0} (f : ℕ → List X) (j a n : ℕ) → j < a → ((i : ℕ) → i ≢ j → f i ≡ []) → flat_map f (range_with_len a n) ≡ []
no-piece f j a zero lt none = refl
no-piece {X = X} f j a (suc n) lt none =
    (λ i. none a (λ e. absurd (omega (arith, e))) i ++ no-piece f j (a + 1) n (omega arith) none i)

pub one-piece : {X : Type 0} (f : ℕ → List X) (j a n : ℕ) → a ≤ j → j < a + n → ((i : ℕ) → i ≢ j → f i ≡ []) → flat_map f (range_with_len a n) ≡ f j
one-piece f j a zero le lt none = absurd (omega arith)
one-piece {X = X} f j a (suc n) le lt none =
    ⊎_elim
    (λ same. (λ i. f (same i) ++ no-piece f j (a + 1) n (let e : j < a + 1 = omega (arith, same) in e) none i) ∙ append-nil (f j))
    (λ apart. ap (λ xs. xs ++ flat_map f (range_with_len (a + 1) n)) (none a apart) ∙ one-piece f j (a + 1) n (let e : a + 1 ≤ j = omega (arith, le, apart) in e) (omega arith) none)
    (cases_eq a j)

pub one-reversed : (o : Option Data) → block_of o ≡ reverse (block_of o)
one-reversed None = refl
one-reversed (Some node) = refl

slot-reversed : (b : Bool) (below : List (List ℕ × Data) → Option Data) (pl wy : List (List ℕ × Data) → List (List ℕ)) (fs : List (List ℕ × Data)) → pl fs ≡ reverse (wy fs)
    → none_or b (λ gs. pl gs ++ block_of (below gs)) fs ≡ reverse (none_or b (λ gs. block_of (below gs) ++ wy gs) fs)
slot-reversed true below pl wy fs is = refl
slot-reversed false below pl wy fs is = (λ i. is i ++ one-reversed (below fs) i) ∙ sym (reverse-append (block_of (below fs)) (wy fs))

none-left : (h : List ℕ → List ℕ) (p : HamtShape) (k : List ℕ) (depth : ℕ) (gs : List (List ℕ × Data)) → planned h p zero depth gs ≡ reverse (way h p k zero depth gs)
unfolding planned way
none-left h p k depth gs = refl

pub chain-way : (h : List ℕ → List ℕ) (p : HamtShape) (k : List ℕ) (left depth : ℕ) (gs : List (List ℕ × Data))
    → length gs ≤ p.bucket + 1 → is_some (find bytewise k gs) ≡ true → planned h p left depth gs ≡ reverse (way h p k left depth gs)
chain-way h p k zero depth gs few some = none-left h p k depth gs
chain-way h p k (suc left) depth gs few some =
    let at : List ℕ → ℕ = at_depth h p depth in
    let fs : List (List ℕ × Data) = part at gs (at k) in
    let le = length-part at gs (at k) in
    let found : is_some (find bytewise k fs) ≡ true = ap is_some (find-part at gs (at k) k ∙ ap (λ b. cond b (find bytewise k gs) None) (eq-eqb (at k) (at k) refl)) ∙ some in
    planned_is h p left depth gs
    ∙ one-piece (λ i. slot_plan p.bucket (node_of h p left (depth + 1)) (planned h p left (depth + 1)) (part at gs i)) (at k) 0 (2 ^ p.width) (omega arith) (omega (arith, index_below p (h k) depth))
    (λ i apart.
    let less = other-less at k i gs (λ e. apart (sym e)) some in
    ap (λ b. none_or b (λ es. planned h p left (depth + 1) es ++ block_of (node_of h p left (depth + 1) es)) (part at gs i)) (le-leb (length (part at gs i)) p.bucket (omega arith)))
    ∙ slot-reversed (nat_le (length fs) p.bucket) (node_of h p left (depth + 1)) (planned h p left (depth + 1)) (way h p k left (depth + 1)) fs
    (chain-way h p k left (depth + 1) fs (omega arith) found)
    ∙ ap reverse (sym (way_is h p k left depth gs))

-- the blocks of the slot of a bucket with the pair, split where it is one too many
pub slot-chain : (h : List ℕ → List ℕ) (p : HamtShape) (k : List ℕ) (left depth : ℕ) (gs : List (List ℕ × Data))
    → length gs ≤ p.bucket + 1 → is_some (find bytewise k gs) ≡ true
    → slot_plan p.bucket (node_of h p left depth) (planned h p left depth) gs ≡ reverse (node_and_beneath p.bucket (node_of h p left depth) (way h p k left depth) gs)
slot-chain h p k left depth gs few some =
    slot-reversed (nat_le (length gs) p.bucket) (node_of h p left depth) (planned h p left depth) (way h p k left depth) gs (chain-way h p k left depth gs few some)
