-- In the plan of a HAMT each node stands behind its children; and what that leaves in a store.
use Rattle.std.proofs.Common.{◌≡◌, inl, inr, ⊎_elim, ℕ, zero, suc, ◌+◌, ◌^◌, nat_le, Bool, true, false, List, [], ◌∷◌, ◌++◌, length, map, take, Option, Some, None, refl, sym, ap, ◌∙◌, subst, arith, flat_map, append_assoc, append-nil}
use Rattle.std.specs.Prelude.{IsSome, is_some, Result}
use Rattle.std.specs.List.{AllByRecursion, range_with_len}
use Rattle.std.proofs.lemmas.Bool.{lt-leb}
use Rattle.ild_data.specs.Data.{Data}
use Rattle.ild_data.specs.Spell.{spell, id_of}
use Rattle.ild_data.specs.declared.hamt_shape.HamtShape.{HamtShape}
use Rattle.ild_data.specs.Trie.{TrieSlot, empty, bucket, child, part, slot_of, all_some, node_of, at_depth}
use Rattle.ild_data.specs.TrieBlocks.{block_of, none_or}
use Rattle.ild_hamt_trie.proofs.Node.{slots-node, no_node}
use Rattle.ild_hamt_trie.proofs.Slots.{all_some-cons}
use Rattle.ild_typed.proofs.TrieTells.{SlotWay, nothing, few, many, slot_way}
use Rattle.ild_edges.specs.Store.{Moment, block_at}
use Rattle.ild_edges.specs.Told.{BothTold}
use Rattle.ild_node_slots.specs.declared.fault.HamtFault.{HamtFault}
use Rattle.ild_bulk.specs.Children.{IsIdAmong, ChildIn, IsNodeOver, Follows, AddsLinked}
use Rattle.ild_bulk.specs.Planned.{planned, slot_plan}
use Rattle.ild_edges.specs.Gained.{AreHeld}
use Rattle.ild_edges.specs.Among.{IsIn}
use Rattle.ild_bulk.specs.Putting.{PutsAll, StopsAfter}
use Rattle.ild_bulk.proofs.Building.{planned_is}
use Rattle.ild_bulk.proofs.Puts.{told-map, told-same}
use Rattle.ild_edges.proofs.Among.{IsIn-left, IsIn-right, IsIn-of}

-- ---- one slot

pub child_of : (most : ℕ) (below : List (List ℕ × Data) → Option Data) (beneath : List (List ℕ × Data) → List (List ℕ)) (es : List (List ℕ × Data)) (s : TrieSlot) (whole : List (List ℕ))
    → ((b : List ℕ) → IsIn b (slot_plan most below beneath es) → IsIn b whole) → SlotWay most below es s → ChildIn (IsIdAmong whole) s
child_of most below beneath es s whole sub (nothing a is) = subst (λ (z : TrieSlot). ChildIn (IsIdAmong whole) z) (sym is) tt
child_of most below beneath es s whole sub (few is) = subst (λ (z : TrieSlot). ChildIn (IsIdAmong whole) z) (sym is) tt
child_of most below beneath es s whole sub (many n long has is) =
    let plan : slot_plan most below beneath es ≡ beneath es ++ block_of (below es) = ap (λ b. none_or b (λ fs. beneath fs ++ block_of (below fs)) es) (lt-leb (length es) most long) in
    subst (λ (z : TrieSlot). ChildIn (IsIdAmong whole) z) (sym is) (record {
      block = spell n;
      among = sub (spell n) (subst (λ (bs : List (List ℕ)). IsIn (spell n) bs) (sym (plan ∙ ap (λ o. beneath es ++ block_of o) has)) (IsIn-right (spell n) (beneath es) (spell n ∷ []) (inl refl)));
      named = refl;
    })

-- ---- the slots of a node

children_of : (most : ℕ) (at : List ℕ → ℕ) (below : List (List ℕ × Data) → Option Data) (beneath : List (List ℕ × Data) → List (List ℕ)) (es : List (List ℕ × Data)) (js : List ℕ) (slots : List TrieSlot) (whole : List (List ℕ))
    → all_some (map (λ i. slot_of most below (part at es i)) js) ≡ Some slots → ((b : List ℕ) → IsIn b (flat_map (λ i. slot_plan most below beneath (part at es i)) js) → IsIn b whole)
    → AllByRecursion (ChildIn (IsIdAmong whole)) slots
children_of most at below beneath es [] slots whole is sub = let none : [] ≡ slots = cc in subst (λ (ss : List TrieSlot). AllByRecursion (ChildIn (IsIdAmong whole)) ss) none tt
children_of most at below beneath es (j ∷ js) slots whole is sub =
    let parts = all_some-cons (slot_of most below (part at es j)) (map (λ i. slot_of most below (part at es i)) js) slots is in
    subst (λ (ss : List TrieSlot). AllByRecursion (ChildIn (IsIdAmong whole)) ss) (sym parts.4) (
      child_of most below beneath (part at es j) parts.0 whole (λ b among. sub b (IsIn-left b (slot_plan most below beneath (part at es j)) _ among)) (slot_way most below (part at es j) parts.0 parts.2),
      children_of most at below beneath es js parts.1 whole parts.3 (λ b among. sub b (IsIn-right b (slot_plan most below beneath (part at es j)) _ among)),
    )

-- a node's block, where the blocks beneath it stand before
pub node-over : (h : List ℕ → List ℕ) (p : HamtShape) (left depth : ℕ) (es : List (List ℕ × Data)) (node : Data) (before : List (List ℕ)) → node_of h p left depth es ≡ Some node
    → IsNodeOver (IsIdAmong (before ++ planned h p left depth es)) (spell node)
node-over h p zero depth es node before is = absurd (let e : None ≡ Some node = sym (no_node h p depth es) ∙ is in cc)
node-over h p (suc left) depth es node before is =
    let n = slots-node h p left depth es node is in
    record {
      slots = n.0;
      is = ap spell n.2;
      children = children_of p.bucket (at_depth h p depth) (node_of h p left (depth + 1)) (planned h p left (depth + 1)) es (range_with_len 0 (2 ^ p.width)) n.0 (before ++ planned h p (suc left) depth es) n.1
          (λ b among. IsIn-right b before (planned h p (suc left) depth es) (subst (λ (bs : List (List ℕ)). IsIn b bs) (sym (planned_is h p left depth es)) among));
    }

-- ---- the plan

pub follows-append : (before xs ys : List (List ℕ)) → Follows before xs → Follows (before ++ xs) ys → Follows before (xs ++ ys)
follows-append before [] ys first second = subst (λ (bs : List (List ℕ)). Follows bs ys) (append-nil before) second
follows-append before (x ∷ xs) ys first second = (first.0, follows-append (before ++ x ∷ []) xs ys first.1 (subst (λ (bs : List (List ℕ)). Follows bs ys) (sym (append_assoc before (x ∷ []) xs)) second))

follows_parts : (f : ℕ → List (List ℕ)) (js : List ℕ) (before : List (List ℕ)) → ((j : ℕ) (bs : List (List ℕ)) → Follows bs (f j)) → Follows before (flat_map f js)
follows_parts f [] before each = tt
follows_parts f (j ∷ js) before each = follows-append before (f j) (flat_map f js) (each j before) (follows_parts f js (before ++ f j) each)

follows_block : (o : Option Data) (before : List (List ℕ)) → ((node : Data) → o ≡ Some node → IsNodeOver (IsIdAmong before) (spell node)) → Follows before (block_of o)
follows_block None before over = tt
follows_block (Some node) before over = (over node refl, tt)

pub follows_slot : (b : Bool) (below : List (List ℕ × Data) → Option Data) (beneath : List (List ℕ × Data) → List (List ℕ)) (es : List (List ℕ × Data)) (before : List (List ℕ)) → Follows before (beneath es)
    → ((node : Data) → below es ≡ Some node → IsNodeOver (IsIdAmong (before ++ beneath es)) (spell node)) → Follows before (none_or b (λ fs. beneath fs ++ block_of (below fs)) es)
follows_slot true below beneath es before first over = tt
follows_slot false below beneath es before first over = follows-append before (beneath es) (block_of (below es)) first (follows_block (below es) (before ++ beneath es) over)

none_planned : (h : List ℕ → List ℕ) (p : HamtShape) (depth : ℕ) (es : List (List ℕ × Data)) (before : List (List ℕ)) → Follows before (planned h p zero depth es)
unfolding planned
none_planned h p depth es before = tt

pub plan-follows : (h : List ℕ → List ℕ) (p : HamtShape) (left depth : ℕ) (es : List (List ℕ × Data)) (before : List (List ℕ)) → Follows before (planned h p left depth es)
plan-follows h p zero depth es before = none_planned h p depth es before
plan-follows h p (suc left) depth es before =
    subst (λ (bs : List (List ℕ)). Follows before bs) (sym (planned_is h p left depth es))
    (follows_parts (λ i. slot_plan p.bucket (node_of h p left (depth + 1)) (planned h p left (depth + 1)) (part (at_depth h p depth) es i)) (range_with_len 0 (2 ^ p.width)) before
    (λ i bs. follows_slot (nat_le (length (part (at_depth h p depth) es i)) p.bucket) (node_of h p left (depth + 1)) (planned h p left (depth + 1)) (part (at_depth h p depth) es i) bs
    (plan-follows h p left (depth + 1) (part (at_depth h p depth) es i) bs)
    (λ node is. node-over h p left (depth + 1) (part (at_depth h p depth) es i) node bs is)))

-- ---- in a store

pub over-more : (P Q : List ℕ → Type 0) (b : List ℕ) → ((id : List ℕ) → P id → Q id) → IsNodeOver P b → IsNodeOver Q b
over-more P Q b f over = record { slots = over.slots; is = over.is; children = all_more over.slots over.children }
  where
    one : (s : TrieSlot) → ChildIn P s → ChildIn Q s
    one empty c = tt
    one (bucket es) c = tt
    one (child id) c = f id c

    all_more : (slots : List TrieSlot) → AllByRecursion (ChildIn P) slots → AllByRecursion (ChildIn Q) slots
    all_more [] all = tt
    all_more (s ∷ slots) all = (one s all.0, all_more slots all.1)

pub held_among : (bs now : List (List ℕ)) (b : List ℕ) → AreHeld bs now → IsIn b bs → block_at now (id_of b) ≡ Some b
held_among [] now b held is = absurd is
held_among (c ∷ bs) now b held is = ⊎_elim (λ here. subst (λ (x : List ℕ). block_at now (id_of x) ≡ Some x) (sym here) held.0) (λ more. held_among bs now b held.1 more) is

child_held : (bs now : List (List ℕ)) (id : List ℕ) → AreHeld bs now → IsIdAmong bs id → IsSome (block_at now id)
child_held bs now id held is = ap is_some (ap (block_at now) (sym is.named) ∙ held_among bs now is.block held is.among)

held_push : (bs now : List (List ℕ)) (b : List ℕ) → AreHeld bs now → block_at now (id_of b) ≡ Some b → AreHeld (bs ++ b ∷ []) now
held_push [] now b held is = (is, tt)
held_push (c ∷ bs) now b held is = (held.0, held_push bs now b held.1 is)

-- each of the first blocks, of which all but the last are held, has its children held
first_over : (k : ℕ) (before bs now : List (List ℕ)) (b : List ℕ) → Follows before bs → AreHeld before now → AreHeld (take k bs) now → IsIn b (take (suc k) bs) → IsNodeOver (λ id. IsSome (block_at now id)) b
first_over k before [] now b follows done held is = absurd is
first_over zero before (c ∷ bs) now b follows done held is =
    ⊎_elim (λ here. subst (λ (x : List ℕ). IsNodeOver (λ id. IsSome (block_at now id)) x) (sym here) (over-more _ _ c (λ id among. child_held before now id done among) follows.0)) (λ none. absurd none) is
first_over (suc k) before (c ∷ bs) now b follows done held is =
    ⊎_elim (λ here. subst (λ (x : List ℕ). IsNodeOver (λ id. IsSome (block_at now id)) x) (sym here) (over-more _ _ c (λ id among. child_held before now id done among) follows.0))
    (λ more. first_over k (before ++ c ∷ []) bs now b follows.1 (held_push before now c done held.0) held.1 more) is

next_is : (k : ℕ) → k + 1 ≡ suc k
next_is k = omega arith

stopped_whole : (bs : List (List ℕ)) (k : ℕ) (was now : List (List ℕ)) → Follows [] bs → StopsAfter bs k was now → AddsLinked was now
stopped_whole bs k was now follows stops id b held =
    ⊎_elim (λ before. inl before)
    (λ among. inr (first_over k [] bs now b follows tt stops.held (subst (λ (n : ℕ). IsIn b (take n bs)) (next_is k) (IsIn-of b (take (k + 1) bs) among))))
    (stops.adds id b held)

pub puts-whole : (m n : Moment) (bs : List (List ℕ)) (r : Result (Unit {0}) HamtFault) → Follows [] bs → PutsAll m bs r n → BothTold m.blocks n.blocks AddsLinked
puts-whole m n bs r follows puts =
    told-map m.blocks n.blocks (StopsAfter bs puts.stops.0) AddsLinked (λ was now s. stopped_whole bs puts.stops.0 was now follows s) puts.stops.1

pub nothing-added : (m : Moment) → BothTold m.blocks m.blocks AddsLinked
nothing-added m = told-same m.blocks m.blocks AddsLinked refl (λ a id b held. inl held)
