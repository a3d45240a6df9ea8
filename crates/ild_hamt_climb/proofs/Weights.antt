-- Whether a bucket takes all entries of a node, told by its slots.
use Rattle.std.proofs.Common.{◌≡◌, ◌≢◌, ⊎_elim, ℕ, suc, ◌+◌, ◌≤◌, ◌<◌, ◌^◌, nat_le, false, List, [], ◌∷◌, ◌++◌, length, set, get_or, Option, Some, option_map, refl, sym, ap, ◌∙◌, arith, append-nil}
use Rattle.std.proofs.lemmas.Bool.{le-leb, lt-leb, leb-false, cases_eq, cases_lt, cases_Bool}
use Rattle.std.specs.Prelude.{Result, Ok, Err, IfOk}
use Rattle.std.proofs.lemmas.List.{get_or-set_same, get_or-set_other}
use Rattle.ild_node.specs.NewSlots.{slot_seen}
use Rattle.ild_node.specs.declared.hold.NewHold.{NewHold}
use Rattle.ild_data.specs.Data.{Data}
use Rattle.ild_data.specs.Spell.{spell, id_of}
use Rattle.ild_data.specs.ByteOrder.{IsInOrder}
use Rattle.ild_data.specs.declared.hamt_shape.HamtShape.{HamtShape}
use Rattle.ild_data.specs.Trie.{TrieSlot, empty, bucket, child, is_child, bucket_entries, link_to, node_data, part, slot_of, node_of, at_depth, slots_at}
use Rattle.ild_data.specs.TrieBlocks.{none_or, block_of}
use Rattle.ild_hamt_trie.specs.Collapse.{sized}
use Rattle.ild_hamt_trie.proofs.Fold.{slot-few, slot-many, child-many, other-held, length-part}
use Rattle.ild_hamt_trie.proofs.Index.{index_below}
use Rattle.ild_hamt_trie.proofs.Node.{node-slots}
use Rattle.ild_hamt_trie.proofs.Slots.{slot_at}
use Rattle.ild_hamt_climb.specs.inside.Gathering.{put_each, weight, held_to}
use Rattle.ild_hamt_climb.specs.Rewriting.{Lifts}
use Rattle.ild_hamt_climb.proofs.PutEach.{held-few, held-first, held-all, held-same, held-more, held-longer}

-- ---- one slot

weight-few : (most : ℕ) (below : List (List ℕ × Data) → Option Data) (es : List (List ℕ × Data)) (z : TrieSlot) → slot_of most below es ≡ Some z → weight most z ≤ most → weight most z ≡ length es
weight-few most below es empty is le = ap length (other-held most below es empty is refl)
weight-few most below es (bucket fs) is le = ap length (other-held most below es (bucket fs) is refl)
weight-few most below es (child id) is le = absurd (omega arith)

weight-many : (most : ℕ) (below : List (List ℕ × Data) → Option Data) (es : List (List ℕ × Data)) (z : TrieSlot) → slot_of most below es ≡ Some z → most < weight most z → most < length es
weight-many most below es empty is lt = let e = ap length (other-held most below es empty is refl) in omega (arith, lt)
weight-many most below es (bucket fs) is lt = let e = ap length (other-held most below es (bucket fs) is refl) in omega (arith, lt, e)
weight-many most below es (child id) is lt = child-many most below es (child id) is refl

pub few-held : (most : ℕ) (below : List (List ℕ × Data) → Option Data) (es : List (List ℕ × Data)) (z : TrieSlot) → slot_of most below es ≡ Some z → length es ≤ most → bucket_entries z ≡ es
few-held most below es z is le =
    ⊎_elim (λ linked. absurd (let lt = child-many most below es z is linked in omega arith)) (λ other. other-held most below es z is other) (cases_Bool (is_child z))

-- ---- the slots of a node of which one is exchanged

-- the entries of an index have the slot there
pub record Exchanged (most : ℕ) (at : List ℕ → ℕ) (below : List (List ℕ × Data) → Option Data) (n i : ℕ) (ss : List TrieSlot) (s : TrieSlot) (gs : List (List ℕ × Data)) : Type 0 where
  pub here : slot_of most below (part at gs i) ≡ Some s
  pub others : (j : ℕ) → j < n → j ≢ i → slot_of most below (part at gs j) ≡ Some (get_or ss j empty)
  pub within : (q : List ℕ) → at q < n

pub exchanged : (h : List ℕ → List ℕ) (p : HamtShape) (left depth i : ℕ) (ss : List TrieSlot) (s : TrieSlot) (gs : List (List ℕ × Data)) → length ss ≡ 2 ^ p.width → i < 2 ^ p.width
    → slots_at h p left depth gs ≡ Some (set ss i s) → Exchanged p.bucket (at_depth h p depth) (node_of h p left (depth + 1)) (2 ^ p.width) i ss s gs
exchanged h p left depth i ss s gs many lt is = record {
  here = slot_at p (at_depth h p depth) (node_of h p left (depth + 1)) gs i (set ss i s) empty lt is ∙ ap Some (get_or-set_same ss i s empty (let e : i < length ss = omega (arith, many, lt) in e));
  others = λ j j_lt apart. slot_at p (at_depth h p depth) (node_of h p left (depth + 1)) gs j (set ss i s) empty j_lt is ∙ ap Some (get_or-set_other ss i j s empty apart);
  within = λ q. index_below p (h q) depth;
}

-- ---- counting

-- the count so far: that of the entries held so far, or more than a bucket takes
pub record CountTo (most : ℕ) (at : List ℕ → ℕ) (i j count : ℕ) (gs : List (List ℕ × Data)) : Type 0 where
  pub few : count ≤ most → count ≡ length (held_to at i j gs)
  pub many : most < count → most < length gs

pub count-first : (most : ℕ) (at : List ℕ → ℕ) (below : List (List ℕ × Data) → Option Data) (n i count : ℕ) (ss : List TrieSlot) (s : TrieSlot) (gs : List (List ℕ × Data))
    → Exchanged most at below n i ss s gs → count ≡ weight most s → CountTo most at i 0 count gs
count-first most at below n i count ss s gs x is = record {
  few = λ le. is ∙ weight-few most below (part at gs i) s x.here (omega (arith, is, le)) ∙ ap length (sym (held-first at i gs));
  many = λ lt. let more = weight-many most below (part at gs i) s x.here (let e : most < weight most s = omega (arith, is, lt) in e) in let le = length-part at gs i in omega (arith, more, le);
}

pub count-more : (most : ℕ) (at : List ℕ → ℕ) (below : List (List ℕ × Data) → Option Data) (n i j count w next : ℕ) (ss : List TrieSlot) (s : TrieSlot) (gs : List (List ℕ × Data))
    → Exchanged most at below n i ss s gs → CountTo most at i j count gs → j < n → count ≤ most → (j ≢ i → w ≡ weight most (get_or ss j empty)) → (j ≡ i → w ≡ 0)
    → next ≤ count + w → (next ≤ most → next ≡ count + w) → CountTo most at i (j + 1) next gs
count-more most at below n i j count w next ss s gs x was lt le weighs passes up sums =
    ⊎_elim
    (λ same. let none = passes same in let held = held-same at i j gs same in record {
      few = λ few. let e = sums few in let f = was.few le in omega (arith, none, e) ∙ f ∙ ap length (sym held);
      many = λ more. absurd (omega (arith, none, up, le, more));
    })
    (λ apart.
    let is = weighs apart in
    let z : TrieSlot = get_or ss j empty in
    let there = x.others j lt apart in
    let longer = held-longer at i j gs apart in
    let all = held-few at i (j + 1) gs in
    let part_le = length-part at gs j in
    record {
      few = λ few.
          let e = sums few in
          let f = was.few le in
          let small = weight-few most below (part at gs j) z there (let g : weight most z ≤ most = omega (arith, is, e, few) in g) in
          omega (arith, e, f, is, small, longer);
      many = λ more. ⊎_elim
          (λ big. let lots = weight-many most below (part at gs j) z there big in omega (arith, lots, part_le))
          (λ small.
          let w_is = weight-few most below (part at gs j) z there small in
          let f = was.few le in
          omega (arith, up, f, is, w_is, longer, all, more))
          (cases_lt most (weight most z));
    })
    (cases_eq j i)

pub count-done : (most : ℕ) (at : List ℕ → ℕ) (below : List (List ℕ × Data) → Option Data) (n i j count : ℕ) (ss : List TrieSlot) (s : TrieSlot) (gs : List (List ℕ × Data))
    → Exchanged most at below n i ss s gs → CountTo most at i j count gs → n ≤ j → nat_le count most ≡ nat_le (length gs) most
count-done most at below n i j count ss s gs x was le =
    ⊎_elim
    (λ big. let more = was.many big in lt-leb count most big ∙ sym (lt-leb (length gs) most more))
    (λ small.
    let f = was.few small in
    let whole = ap length (held-all at i j gs (λ q. let lt = x.within q in omega (arith, lt, le))) in
    ap (λ m. nat_le m most) (f ∙ whole))
    (cases_lt most count)

pub count-stops : (most : ℕ) (at : List ℕ → ℕ) (i j count : ℕ) (gs : List (List ℕ × Data)) → CountTo most at i j count gs → most < count → false ≡ nat_le (length gs) most
count-stops most at i j count gs was big = sym (lt-leb (length gs) most (was.many big))

-- ---- gathering

pub gather-first : (most : ℕ) (at : List ℕ → ℕ) (below : List (List ℕ × Data) → Option Data) (n i : ℕ) (ss : List TrieSlot) (s : TrieSlot) (gs rows : List (List ℕ × Data))
    → Exchanged most at below n i ss s gs → length gs ≤ most → rows ≡ bucket_entries s → rows ≡ held_to at i 0 gs
gather-first most at below n i ss s gs rows x le is =
    is ∙ few-held most below (part at gs i) s x.here (let e = length-part at gs i in let f : length (part at gs i) ≤ most = omega (arith, e, le) in f) ∙ sym (held-first at i gs)

pub gather-more : (most : ℕ) (at : List ℕ → ℕ) (below : List (List ℕ × Data) → Option Data) (n i j : ℕ) (ss : List TrieSlot) (s : TrieSlot) (gs rows new : List (List ℕ × Data))
    → Exchanged most at below n i ss s gs → IsInOrder gs → length gs ≤ most → j < n → rows ≡ held_to at i j gs → (j ≢ i → new ≡ put_each (bucket_entries (get_or ss j empty)) rows) → (j ≡ i → new ≡ rows)
    → new ≡ held_to at i (j + 1) gs
gather-more most at below n i j ss s gs rows new x order le lt was puts stays =
    ⊎_elim
    (λ same. stays same ∙ was ∙ sym (held-same at i j gs same))
    (λ apart.
    let here = few-held most below (part at gs j) (get_or ss j empty) (x.others j lt apart) (let e = length-part at gs j in let f : length (part at gs j) ≤ most = omega (arith, e, le) in f) in
    puts apart ∙ (λ n. put_each (here n) (was n)) ∙ held-more at i j gs order)
    (cases_eq j i)

pub gather-done : (most : ℕ) (at : List ℕ → ℕ) (below : List (List ℕ × Data) → Option Data) (n i j : ℕ) (ss : List TrieSlot) (s : TrieSlot) (gs rows : List (List ℕ × Data)) (z : TrieSlot)
    → Exchanged most at below n i ss s gs → length gs ≤ most → rows ≡ held_to at i j gs → n ≤ j → (length rows ≤ most → z ≡ sized most empty rows) → z ≡ sized most empty gs
gather-done most at below n i j ss s gs rows z x few was le is =
    let whole : rows ≡ gs = was ∙ held-all at i j gs (λ q. let lt = x.within q in omega (arith, lt, le)) in
    is (let e : length rows ≤ most = omega (arith, ap length whole, few) in e) ∙ ap (sized most empty) whole

-- ---- the slot in the node above

pub lifts-few : (h : List ℕ → List ℕ) (p : HamtShape) (left depth : ℕ) (gs : List (List ℕ × Data)) (z : TrieSlot) (plan : List (List ℕ)) → length gs ≤ p.bucket → z ≡ sized p.bucket empty gs → Lifts h p left depth gs z plan plan
lifts-few h p left depth gs z plan few is = record {
  slot_is = slot-few p.bucket (node_of h p left depth) gs empty few ∙ ap Some (sym is);
  plan_is = sym (ap (λ b. plan ++ none_or b (λ xs. block_of (node_of h p left depth xs)) gs) (le-leb (length gs) p.bucket few) ∙ append-nil plan);
}

pub lifts-link : (h : List ℕ → List ℕ) (p : HamtShape) (left depth : ℕ) (ss : List TrieSlot) (gs : List (List ℕ × Data)) (block id : List ℕ) (plan now : List (List ℕ)) → nat_le (length gs) p.bucket ≡ false
    → slots_at h p left depth gs ≡ Some ss → block ≡ spell (node_data ss) → id ≡ id_of block → now ≡ plan ++ block ∷ [] → Lifts h p (suc left) depth gs (child id) plan now
lifts-link h p left depth ss gs block id plan now many is written named pushes =
    let node : node_of h p (suc left) depth gs ≡ Some (node_data ss) = node-slots h p left depth gs ∙ ap (option_map node_data) is in
    record {
      slot_is = slot-many p.bucket (node_of h p (suc left) depth) gs (leb-false (length gs) p.bucket many) ∙ ap (option_map link_to) node ∙ ap (λ (x : List ℕ). Some (child x)) (sym (named ∙ ap id_of written));
      plan_is = pushes ∙ ap (λ x. plan ++ x ∷ []) written
          ∙ sym (ap (λ b. plan ++ none_or b (λ xs. block_of (node_of h p (suc left) depth xs)) gs) many ∙ ap (λ o. plan ++ block_of o) node);
    }

pub ok-lifts : {E : Type 0} (r : Result (Option NewHold) E) (h : List ℕ → List ℕ) (p : HamtShape) (left depth : ℕ) (gs : List (List ℕ × Data)) (plan : List (List ℕ)) → length gs ≤ p.bucket
    → IfOk r (λ s. slot_seen s ≡ sized p.bucket empty gs) → IfOk r (λ s. Lifts h p left depth gs (slot_seen s) plan plan)
ok-lifts (Ok s) h p left depth gs plan few is = lifts-few h p left depth gs (slot_seen s) plan few is
ok-lifts (Err e) h p left depth gs plan few is = tt
