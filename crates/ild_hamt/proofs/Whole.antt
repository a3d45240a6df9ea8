-- The nodes on a new way have their children on the way or in the store.
use Rattle.std.proofs.Common.{◌≡◌, ◌≢◌, ◌⊎◌, inl, inr, ⊎_elim, ℕ, zero, suc, ◌+◌, ◌<◌, nat_le, Bool, true, false, List, [], ◌∷◌, ◌++◌, length, get_or, take, Option, Some, None, refl, sym, ap, ◌∙◌, subst, arith}
use Rattle.std.specs.Prelude.{IsSome, is_some, reverse}
use Rattle.std.specs.List.{AllByRecursion}
use Rattle.std.proofs.lemmas.Bool.{lt-leb, le-leb, cases_eq, cases_lt}
use Rattle.std.proofs.lemmas.List.{reverse-append}
use Rattle.ild_bulk.proofs.Childs.{held_among, over-more}
use Rattle.ild_data.specs.Data.{Data}
use Rattle.ild_data.specs.Spell.{spell, id_of}
use Rattle.ild_data.specs.declared.hamt_shape.HamtShape.{HamtShape}
use Rattle.ild_data.specs.Trie.{TrieSlot, empty, node_data, part, node_of, at_depth, slots_at}
use Rattle.ild_data.specs.TrieBlocks.{none_or, block_of}
use Rattle.ild_edges.specs.Store.{block_at, Keeps}
use Rattle.ild_hamt_trie.specs.Way.{way}
use Rattle.ild_hamt_trie.proofs.Node.{slots-node, no_node}
use Rattle.ild_hamt_trie.proofs.Slots.{slot_at}
use Rattle.ild_hamt_trie.proofs.Way.{way_is}
use Rattle.ild_typed.proofs.TrieTells.{SlotWay, nothing, few, many, slot_way}
use Rattle.ild_bulk.specs.Children.{IsIdAmong, ChildIn, IsNodeOver, AddsLinked}
use Rattle.ild_edges.specs.Gained.{AreHeld}
use Rattle.ild_edges.specs.Among.{IsIn}
use Rattle.ild_edges.proofs.Among.{IsIn-of}
use Rattle.ild_bulk.specs.Putting.{StopsAfter}
use Rattle.ild_bulk_walker.specs.Trees.{HoldsBelow}
use Rattle.ild_hamt_climb.specs.Planning.{Rising}
use Rattle.ild_hamt_climb.specs.Rewriting.{DiffersAt}
use Rattle.ild_hamt_climb.proofs.Planning.{among-last, rising-append}
use Rattle.ild_hamt_climb.proofs.Differing.{part-differs, part-others}
use Rattle.ild_hamt.proofs.Holding.{Had, had-below, part-there}
use Rattle.ild_hamt.proofs.Leading.{slots-many}

-- the id of the first of these blocks
abbrev pub IsFirst : List ℕ → List (List ℕ) → Type 0
IsFirst id [] = ⊥
IsFirst id (b ∷ bs) = id_of b ≡ id

-- a child is held, or is the next on the way
abbrev pub IsNear : List (List ℕ) → List (List ℕ) → List ℕ → Type 0
IsNear was ws id = IsSome (block_at was id) ⊎ IsFirst id ws

abbrev pub WayOver : List (List ℕ) → List (List ℕ) → Type 0
WayOver was [] = Unit {0}
WayOver was (w ∷ ws) = IsNodeOver (IsNear was ws) w × WayOver was ws

-- ---- one node

all-each : (P : TrieSlot → Type 0) (slots : List TrieSlot) → ((i : ℕ) → i < length slots → P (get_or slots i empty)) → AllByRecursion P slots
all-each P [] each = tt
all-each P (s ∷ slots) each = (each 0 (omega arith), all-each P slots (λ i lt. each (suc i) (omega arith)))

slot-child : (holds : List ℕ → Type 0) (most : ℕ) (below : List (List ℕ × Data) → Option Data) (es : List (List ℕ × Data)) (z : TrieSlot) → SlotWay most below es z
    → ((node : Data) → most < length es → below es ≡ Some node → holds (id_of (spell node))) → ChildIn holds z
slot-child holds most below es z (nothing none is) each = subst (λ (s : TrieSlot). ChildIn holds s) (sym is) tt
slot-child holds most below es z (few is) each = subst (λ (s : TrieSlot). ChildIn holds s) (sym is) tt
slot-child holds most below es z (many node lots there is) each = subst (λ (s : TrieSlot). ChildIn holds s) (sym is) (each node lots there)

-- the first block of a way that goes on
way-first : (h : List ℕ → List ℕ) (p : HamtShape) (k : List ℕ) (left depth : ℕ) (es : List (List ℕ × Data)) (node : Data) → p.bucket < length (part (at_depth h p depth) es (at_depth h p depth k))
    → node_of h p left (depth + 1) (part (at_depth h p depth) es (at_depth h p depth k)) ≡ Some node
    → way h p k (suc left) depth es ≡ spell node ∷ way h p k left (depth + 1) (part (at_depth h p depth) es (at_depth h p depth k))
way-first h p k left depth es node lots is =
    let fs : List (List ℕ × Data) = part (at_depth h p depth) es (at_depth h p depth k) in
    way_is h p k left depth es
    ∙ ap (λ b. none_or b (λ gs. block_of (node_of h p left (depth + 1) gs) ++ way h p k left (depth + 1) gs) fs) (lt-leb (length fs) p.bucket lots)
    ∙ ap (λ o. block_of o ++ way h p k left (depth + 1) fs) is

node-near : (h : List ℕ → List ℕ) (p : HamtShape) (k : List ℕ) (was : List (List ℕ)) (left depth : ℕ) (es fs : List (List ℕ × Data)) (ss : List TrieSlot) → DiffersAt k es fs → slots_at h p left depth fs ≡ Some ss
    → HoldsBelow h p was (suc left) depth es → IsNodeOver (IsNear was (way h p k (suc left) depth fs)) (spell (node_data ss))
node-near h p k was left depth es fs ss d is below = record {
  slots = ss;
  is = refl;
  children = all-each (ChildIn (IsNear was (way h p k (suc left) depth fs))) ss (λ i lt.
      slot-child (IsNear was (way h p k (suc left) depth fs)) p.bucket (node_of h p left (depth + 1)) (part (at_depth h p depth) fs i) (get_or ss i empty)
      (slot_way p.bucket (node_of h p left (depth + 1)) (part (at_depth h p depth) fs i) (get_or ss i empty)
      (slot_at p (at_depth h p depth) (node_of h p left (depth + 1)) fs i ss empty (let e = slots-many h p left depth fs ss is in omega (arith, e, lt)) is))
      (λ node lots there. ⊎_elim (λ same. inr (on-way i node lots there same)) (λ apart. inl (off-way i node lots there apart)) (cases_eq (at_depth h p depth k) i)));
}
  where
    on-way : (i : ℕ) (node : Data) → p.bucket < length (part (at_depth h p depth) fs i) → node_of h p left (depth + 1) (part (at_depth h p depth) fs i) ≡ Some node → at_depth h p depth k ≡ i
        → IsFirst (id_of (spell node)) (way h p k (suc left) depth fs)
    on-way i node lots there same =
        let first = way-first h p k left depth fs node (subst (λ (n : ℕ). p.bucket < length (part (at_depth h p depth) fs n)) (sym same) lots)
        (subst (λ (n : ℕ). node_of h p left (depth + 1) (part (at_depth h p depth) fs n) ≡ Some node) (sym same) there) in
        subst (λ (ws : List (List ℕ)). IsFirst (id_of (spell node)) ws) (sym first) refl

    off-way : (i : ℕ) (node : Data) → p.bucket < length (part (at_depth h p depth) fs i) → node_of h p left (depth + 1) (part (at_depth h p depth) fs i) ≡ Some node → at_depth h p depth k ≢ i
        → IsSome (block_at was (id_of (spell node)))
    off-way i node lots there apart =
        let same = part-others (at_depth h p depth) k i es fs d apart in
        let held = below i node (subst (λ (gs : List (List ℕ × Data)). p.bucket < length gs) same lots) (subst (λ (gs : List (List ℕ × Data)). node_of h p left (depth + 1) gs ≡ Some node) same there) in
        ap is_some held.0.here

-- ---- the way

no-way : (h : List ℕ → List ℕ) (p : HamtShape) (k : List ℕ) (depth : ℕ) (es : List (List ℕ × Data)) → way h p k zero depth es ≡ []
unfolding way
no-way h p k depth es = refl

pub way-over : (h : List ℕ → List ℕ) (p : HamtShape) (k : List ℕ) (was : List (List ℕ)) (left depth : ℕ) (es fs : List (List ℕ × Data)) (ss : List TrieSlot) → DiffersAt k es fs → Had h p left depth es
    → slots_at h p left depth fs ≡ Some ss → HoldsBelow h p was (suc left) depth es → WayOver was (way h p k (suc left) depth fs)
way-over h p k was zero depth es fs ss d had is below =
    let gs : List (List ℕ × Data) = part (at_depth h p depth) fs (at_depth h p depth k) in
    subst (λ (ws : List (List ℕ)). WayOver was ws)
    (sym (way_is h p k zero depth fs ∙ by (nat_le (length gs) p.bucket) gs)) tt
  where
    by : (b : Bool) (gs : List (List ℕ × Data)) → none_or b (λ xs. block_of (node_of h p zero (depth + 1) xs) ++ way h p k zero (depth + 1) xs) gs ≡ []
    by true gs = refl
    by false gs = (λ i. block_of (no_node h p (depth + 1) gs i) ++ no-way h p k (depth + 1) gs i)
way-over h p k was (suc left) depth es fs ss d had is below =
    let gs : List (List ℕ × Data) = part (at_depth h p depth) fs (at_depth h p depth k) in
    let beneath = had-below h p k was left depth es had below in
    let deeper = part-differs (at_depth h p depth) k (at_depth h p depth k) es fs d in
    ⊎_elim
    (λ lots.
    let node = part-there h p k (suc left) depth fs ss is lots in
    let tt_slots = slots-node h p left (depth + 1) gs node.0 node.1 in
    subst (λ (ws : List (List ℕ)). WayOver was ws) (sym (way-first h p k (suc left) depth fs node.0 lots node.1)) (
      subst (λ (d : Data). IsNodeOver (IsNear was (way h p k (suc left) (depth + 1) gs)) (spell d)) (sym tt_slots.2)
          (node-near h p k was left (depth + 1) (part (at_depth h p depth) es (at_depth h p depth k)) gs tt_slots.0 deeper tt_slots.1 beneath.1),
      way-over h p k was left (depth + 1) (part (at_depth h p depth) es (at_depth h p depth k)) gs tt_slots.0 deeper beneath.0 tt_slots.1 beneath.1,
    ))
    (λ small. subst (λ (ws : List (List ℕ)). WayOver was ws)
    (sym (way_is h p k (suc left) depth fs
    ∙ ap (λ b. none_or b (λ xs. block_of (node_of h p (suc left) (depth + 1) xs) ++ way h p k (suc left) (depth + 1) xs) gs) (le-leb (length gs) p.bucket small))) tt)
    (cases_lt p.bucket (length gs))

-- ---- from the bottom up

near-among : (was ws : List (List ℕ)) (id : List ℕ) → IsNear was ws id → IsSome (block_at was id) ⊎ IsIdAmong (reverse ws) id
near-among was [] id near = ⊎_elim (λ held. inl held) (λ none. absurd none) near
near-among was (w ∷ ws) id near =
    ⊎_elim (λ held. inl held)
    (λ first. inr (record { block = w; among = subst (λ (bs : List (List ℕ)). IsIn w bs) (sym (reverse-append (w ∷ []) ws)) (among-last w (reverse ws)); named = first })) near

pub rising-way : (was ws : List (List ℕ)) → WayOver was ws → Rising was [] (reverse ws)
rising-way was [] over = tt
rising-way was (w ∷ ws) over =
    subst (λ (bs : List (List ℕ)). Rising was [] bs) (sym (reverse-append (w ∷ []) ws))
    (rising-append was [] (reverse ws) (w ∷ []) (rising-way was ws over.1)
    (over-more (IsNear was ws) (λ id. IsSome (block_at was id) ⊎ IsIdAmong (reverse ws) id) w (near-among was ws) over.0, tt))

-- ---- in a store

still-some : (was now : List (List ℕ)) (id : List ℕ) (o : Option (List ℕ)) → Keeps was now → block_at was id ≡ o → IsSome o → IsSome (block_at now id)
still-some was now id None keeps is some = absurd cc
still-some was now id (Some b) keeps is some = ap is_some (keeps id b is)

child-there : (was now before : List (List ℕ)) → Keeps was now → AreHeld before now → (id : List ℕ) → IsSome (block_at was id) ⊎ IsIdAmong before id → IsSome (block_at now id)
child-there was now before keeps held id there =
    ⊎_elim (λ some. still-some was now id (block_at was id) keeps refl some)
    (λ among. ap is_some (ap (block_at now) (sym among.named) ∙ held_among before now among.block held among.among)) there

held-push : (bs now : List (List ℕ)) (b : List ℕ) → AreHeld bs now → block_at now (id_of b) ≡ Some b → AreHeld (bs ++ b ∷ []) now
held-push [] now b held is = (is, tt)
held-push (c ∷ bs) now b held is = (held.0, held-push bs now b held.1 is)

first-over : (k : ℕ) (was before bs now : List (List ℕ)) (b : List ℕ) → Keeps was now → Rising was before bs → AreHeld before now → AreHeld (take k bs) now → IsIn b (take (suc k) bs)
    → IsNodeOver (λ id. IsSome (block_at now id)) b
first-over k was before [] now b keeps rises done held is = absurd is
first-over zero was before (c ∷ bs) now b keeps rises done held is =
    ⊎_elim (λ here. subst (λ (x : List ℕ). IsNodeOver (λ id. IsSome (block_at now id)) x) (sym here) (over-more _ _ c (child-there was now before keeps done) rises.0)) (λ none. absurd none) is
first-over (suc k) was before (c ∷ bs) now b keeps rises done held is =
    ⊎_elim (λ here. subst (λ (x : List ℕ). IsNodeOver (λ id. IsSome (block_at now id)) x) (sym here) (over-more _ _ c (child-there was now before keeps done) rises.0))
    (λ more. first-over k was (before ++ c ∷ []) bs now b keeps rises.1 (held-push before now c done held.0) held.1 more) is

next_is : (k : ℕ) → k + 1 ≡ suc k
next_is k = omega arith

pub stopped-whole : (bs : List (List ℕ)) (k : ℕ) (was now : List (List ℕ)) → Keeps was now → Rising was [] bs → StopsAfter bs k was now → AddsLinked was now
stopped-whole bs k was now keeps rises stops id b held =
    ⊎_elim (λ before. inl before)
    (λ among. inr (first-over k was [] bs now b keeps rises tt stops.held (subst (λ (n : ℕ). IsIn b (take n bs)) (next_is k) (IsIn-of b (take (k + 1) bs) among))))
    (stops.adds id b held)
