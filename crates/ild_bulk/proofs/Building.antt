-- The steps of a build.
use Rattle.std.proofs.Common.{◌≡◌, ◌≤◌, ◌<◌, ◌+◌, ◌-◌, ◌^◌, ℕ, zero, suc, length, map, get_or, List, [], ◌∷◌, ◌++◌, Option, Some, None, option_map, refl, sym, ap, ◌∙◌, subst, arith}
use Rattle.std.specs.List.{range_with_len, flat_map}
use Rattle.std.specs.Prelude.{nat_le, Ok, Err}
use Rattle.std.proofs.lemmas.Bool.{le-leb, lt-leb}
use Rattle.std.proofs.lemmas.Grind.{flat_map-append}
use Rattle.std.proofs.lemmas.List.{length-append, map-append, append_assoc, append-nil}
use Rattle.std.proofs.lemmas.List.FromFn.{get_or-map-range_with_len, length-map-range_with_len}
use Rattle.ild_data.specs.Data.{Data}
use Rattle.ild_data.specs.declared.id.BlockId.{BlockId}
use Rattle.ild_data.specs.Spell.{spell, id_of}
use Rattle.ild_data.specs.declared.hamt_shape.HamtShape.{HamtShape}
use Rattle.ild_data.specs.TrieShape.{trie_levels}
use Rattle.ild_data.specs.Trie.{TrieSlot, empty, bucket, child, bucket_or, link_to, node_data, part, slot_of, all_some, node_of, at_depth}
use Rattle.ild_data.specs.TrieBlocks.{block_of, none_or}
use Rattle.ild_hamt_trie.proofs.Fold.{slot-many as slot-many_lem}
use Rattle.ild_hamt_trie.proofs.Slots.{some_cons}
use Rattle.ild_hamt_trie.proofs.Node.{node-slots, no_node as none_left}
use Rattle.ild_node.specs.declared.hold.NewHold.TheVariants as N
use Rattle.ild_bulk.specs.declared.fault.PlanFault.{PlanFault}
use Rattle.ild_bulk.specs.declared.fault.PlanFault.TheVariants as F
use Rattle.ild_node.specs.declared.hashed.HashedEntry.{HashedEntry}
use Rattle.ild_node.specs.Hashed.{AreHashed}
use Rattle.ild_node.specs.Rows.{AreRows}
use Rattle.ild_node.specs.Drafts.{HasWritten, FillBucket}
use Rattle.ild_node.specs.declared.draft.Draft.{Draft}
use Rattle.ild_node.proofs.Drafting.{hashed-many, written-skip}
use Rattle.ild_bulk.specs.Keyed.{hashed_part}
use Rattle.ild_bulk.specs.Planned.{PlansInto, PlansNode, PlansSlot, planned, slot_plan, slots_left}
use Rattle.ild_bulk.proofs.Keys.{no-part}

pub node-left : (h : List ℕ → List ℕ) (p : HamtShape) (left depth : ℕ) (es : List (List ℕ × Data)) → node_of h p left depth es ≡ option_map node_data (slots_left h p left depth es)
node-left h p zero depth es = none_left h p depth es
node-left h p (suc left) depth es = node-slots h p left depth es

pub all_some-push : {X : Type 0} (os : List (Option X)) (xs : List X) (x : X) → all_some os ≡ Some xs → all_some (os ++ Some x ∷ []) ≡ Some (xs ++ x ∷ [])
all_some-push [] xs x is = let e : xs ≡ [] = cc in ap (λ ys. Some (ys ++ x ∷ [])) (sym e)
all_some-push (None ∷ os) xs x is = absurd cc
all_some-push (Some y ∷ os) xs x is =
    let parts = some_cons y (all_some os) xs is in
    ap (option_map (λ ys. y ∷ ys)) (all_some-push os parts.0 x parts.1) ∙ ap (λ ys. Some (ys ++ x ∷ [])) (sym parts.2)

-- where one is missing
all_some-at : {X : Type 0} (os : List (Option X)) (n : ℕ) → n < length os → get_or os n None ≡ None → all_some os ≡ None
all_some-at [] n lt is = absurd (omega arith)
all_some-at (None ∷ os) n lt is = refl
all_some-at (Some x ∷ os) zero lt is = absurd cc
all_some-at (Some x ∷ os) (suc n) lt is = ap (option_map (λ ys. x ∷ ys)) (all_some-at os n (omega arith) is)

one_more : (n d : ℕ) → d < n → n - d ≡ suc (n - (d + 1))
one_more n d lt = omega arith

range_more : (a n : ℕ) → range_with_len a (suc n) ≡ range_with_len a n ++ (a + n) ∷ []
range_more a zero = ap (λ k. k ∷ []) (same a)
  where
    same : (k : ℕ) → k ≡ k + 0
    same k = omega arith
range_more a (suc n) = ap (λ ks. a ∷ ks) (range_more (a + 1) n ∙ ap (λ k. range_with_len (a + 1) n ++ k ∷ []) (same a n))
  where
    same : (k m : ℕ) → k + 1 + m ≡ k + suc m
    same k m = omega arith

range_next : (n : ℕ) → range_with_len 0 (n + 1) ≡ range_with_len 0 n ++ n ∷ []
range_next n = ap (range_with_len 0) (after n) ∙ range_more 0 n ∙ ap (λ k. range_with_len 0 n ++ k ∷ []) (none n)
  where
    after : (k : ℕ) → k + 1 ≡ suc k
    after k = omega arith

    none : (k : ℕ) → 0 + k ≡ k
    none k = omega arith

-- ---- the blocks

none_or-few : (most : ℕ) (f : List (List ℕ × Data) → List (List ℕ)) (es : List (List ℕ × Data)) → length es ≤ most → none_or (nat_le (length es) most) f es ≡ []
none_or-few most f es few = ap (λ b. none_or b f es) (le-leb (length es) most few)

none_or-many : (most : ℕ) (f : List (List ℕ × Data) → List (List ℕ)) (es : List (List ℕ × Data)) → most < length es → none_or (nat_le (length es) most) f es ≡ f es
none_or-many most f es many = ap (λ b. none_or b f es) (lt-leb (length es) most many)

pub planned_is : (h : List ℕ → List ℕ) (p : HamtShape) (left depth : ℕ) (es : List (List ℕ × Data))
    → planned h p (suc left) depth es ≡ flat_map (λ i. slot_plan p.bucket (node_of h p left (depth + 1)) (planned h p left (depth + 1)) (part (at_depth h p depth) es i)) (range_with_len 0 (2 ^ p.width))
unfolding planned
planned_is h p left depth es = refl

-- the slot of an index, and its blocks
abbrev pub slot_in : (List ℕ → List ℕ) → HamtShape → ℕ → List (List ℕ × Data) → ℕ → Option TrieSlot
slot_in h p depth es i = slot_of p.bucket (node_of h p (trie_levels p - (depth + 1)) (depth + 1)) (part (at_depth h p depth) es i)

abbrev pub plan_in : (List ℕ → List ℕ) → HamtShape → ℕ → List (List ℕ × Data) → ℕ → List (List ℕ)
plan_in h p depth es i = slot_plan p.bucket (node_of h p (trie_levels p - (depth + 1)) (depth + 1)) (planned h p (trie_levels p - (depth + 1)) (depth + 1)) (part (at_depth h p depth) es i)

-- the slots of so many indices are written, and their blocks are appended
pub record PlansParts (h : List ℕ → List ℕ) (p : HamtShape) (depth : ℕ) (es : List (List ℕ × Data)) (n : ℕ) (d : Draft) (old now : List (List ℕ)) : Type 0 where
  pub slots : List TrieSlot
  pub many : length slots ≡ n
  pub slots_are : all_some (map (slot_in h p depth es) (range_with_len 0 n)) ≡ Some slots
  pub blocks_are : now ≡ old ++ flat_map (plan_in h p depth es) (range_with_len 0 n)
  pub written : HasWritten p d slots

pub plans-first : (h : List ℕ → List ℕ) (p : HamtShape) (depth : ℕ) (es : List (List ℕ × Data)) (d : Draft) (bs : List (List ℕ)) → HasWritten p d [] → PlansParts h p depth es 0 d bs bs
plans-first h p depth es d bs none = record { slots = []; many = refl; slots_are = refl; blocks_are = sym (append-nil bs); written = none }

-- one index more
pub plans-step : (h : List ℕ → List ℕ) (p : HamtShape) (depth : ℕ) (es : List (List ℕ × Data)) (n : ℕ) (d e : Draft) (old now new : List (List ℕ)) (was : PlansParts h p depth es n d old now)
    → PlansInto h p (trie_levels p - (depth + 1)) (depth + 1) (part (at_depth h p depth) es n) (Ok tt) was.slots e now new → PlansParts h p depth es (n + 1) e old new
plans-step h p depth es n d e old now new was plans =
    let f : ℕ → Option TrieSlot = slot_in h p depth es in
    let g : ℕ → List (List ℕ) = plan_in h p depth es in
    let long = length-append was.slots (plans.0 ∷ []) in
    let many = was.many in
    record {
      slots = was.slots ++ plans.0 ∷ [];
      many = omega (arith, long, many);
      slots_are = ap all_some (ap (map f) (range_next n) ∙ map-append f (range_with_len 0 n) (n ∷ []) ∙ ap (λ o. map f (range_with_len 0 n) ++ o ∷ []) (sym plans.1))
          ∙ all_some-push (map f (range_with_len 0 n)) was.slots plans.0 was.slots_are;
      blocks_are = plans.2 ∙ ap (λ bs. bs ++ g n) was.blocks_are ∙ append_assoc old (flat_map g (range_with_len 0 n)) (g n)
          ∙ ap (λ bs. old ++ bs)
          (sym (ap (flat_map g) (range_next n) ∙ flat_map-append g (range_with_len 0 n) (n ∷ []) ∙ ap (λ bs. flat_map g (range_with_len 0 n) ++ bs) (append-nil (g n))));
      written = plans.3;
    }

-- all of them
pub plans-done : (h : List ℕ → List ℕ) (p : HamtShape) (depth : ℕ) (es : List (List ℕ × Data)) (n : ℕ) (d : Draft) (old new : List (List ℕ)) (block : List ℕ)
    → depth < trie_levels p → n ≡ 2 ^ p.width → (plans : PlansParts h p depth es n d old new) → block ≡ spell (node_data plans.slots)
    → PlansNode h p (trie_levels p - depth) depth es (Ok block) old new
plans-done h p depth es n d old new block lt all plans written =
    let left : ℕ = trie_levels p - (depth + 1) in
    let one : trie_levels p - depth ≡ suc left = one_more (trie_levels p) depth lt in
    let slots : Some plans.slots ≡ slots_left h p (trie_levels p - depth) depth es =
    sym (ap (λ m. slots_left h p m depth es) one ∙ ap (λ m. all_some (map (slot_in h p depth es) (range_with_len 0 m))) (sym all) ∙ plans.slots_are) in (
      ap Some written ∙ ap (option_map (λ s. spell (node_data s))) slots
          ∙ spelled_node (slots_left h p (trie_levels p - depth) depth es) ∙ ap (option_map spell) (sym (node-left h p (trie_levels p - depth) depth es)),
      plans.blocks_are ∙ ap (λ bs. old ++ bs) (ap (λ m. flat_map (plan_in h p depth es) (range_with_len 0 m)) all ∙ sym (ap (λ m. planned h p m depth es) one ∙ planned_is h p left depth es)),
    )
  where
    spelled_node : (o : Option (List TrieSlot)) → option_map (λ s. spell (node_data s)) o ≡ option_map spell (option_map node_data o)
    spelled_node None = refl
    spelled_node (Some s) = refl

no_node : (h : List ℕ → List ℕ) (p : HamtShape) (depth n : ℕ) (es : List (List ℕ × Data)) → depth < trie_levels p → n < 2 ^ p.width → slot_in h p depth es n ≡ None → node_of h p (trie_levels p - depth) depth es ≡ None
no_node h p depth n es lt within is =
    let f : ℕ → Option TrieSlot = slot_in h p depth es in
    node-left h p (trie_levels p - depth) depth es
    ∙ ap (option_map node_data)
    (ap (λ m. slots_left h p m depth es) (one_more (trie_levels p) depth lt)
    ∙ all_some-at (map f (range_with_len 0 (2 ^ p.width))) n (omega (arith, length-map-range_with_len f 0 (2 ^ p.width), within)) (get_or-map-range_with_len f 0 (2 ^ p.width) n n None within (omega arith) ∙ is))

-- a part that has no slot, or want of memory
pub plans-stop : (h : List ℕ → List ℕ) (p : HamtShape) (depth : ℕ) (es : List (List ℕ × Data)) (n : ℕ) (e : PlanFault) (old new now more : List (List ℕ)) → depth < trie_levels p → n < 2 ^ p.width
    → (slots : List TrieSlot) (d : Draft) → PlansInto h p (trie_levels p - (depth + 1)) (depth + 1) (part (at_depth h p depth) es n) (Err e) slots d now more → PlansNode h p (trie_levels p - depth) depth es (Err e) old new
plans-stop h p depth es n F.Exhausted old new now more lt within slots d plans = no_node h p depth n es lt within plans
plans-stop h p depth es n F.Memory old new now more lt within slots d plans = tt

pub plans-exhausted : (h : List ℕ → List ℕ) (p : HamtShape) (depth : ℕ) (es : List (List ℕ × Data)) → trie_levels p ≤ depth → node_of h p (trie_levels p - depth) depth es ≡ None
plans-exhausted h p depth es le = let none : trie_levels p - depth ≡ 0 = omega arith in ap (λ n. node_of h p n depth es) none ∙ none_left h p depth es

-- ---- slots

pub slot-empty : (h : List ℕ → List ℕ) (p : HamtShape) (left depth : ℕ) (es : List (List ℕ × Data)) (bs : List (List ℕ)) → length es ≡ 0 → PlansSlot h p left depth es (Ok None) bs bs
slot-empty h p left depth [] bs none = (refl, sym (ap (λ cs. bs ++ cs) (none_or-few p.bucket (λ fs. planned h p left depth fs ++ block_of (node_of h p left depth fs)) [] (omega arith)) ∙ append-nil bs))
slot-empty h p left depth (e ∷ es) bs none = absurd (omega arith)

pub slot-few : (h : List ℕ → List ℕ) (p : HamtShape) (left depth : ℕ) (es rows : List (List ℕ × Data)) (bs : List (List ℕ)) → rows ≡ es → 0 < length es → length es ≤ p.bucket → PlansSlot h p left depth es (Ok (Some (N.Bucket rows))) bs bs
slot-few h p left depth [] rows bs same some few = absurd (omega arith)
slot-few h p left depth (e ∷ es) rows bs same some few = (
  ap (λ fs. Some (bucket fs)) same ∙ sym (ap (λ b. bucket_or b (node_of h p left depth) (e ∷ es)) (le-leb (length (e ∷ es)) p.bucket few)),
  sym (ap (λ cs. bs ++ cs) (none_or-few p.bucket (λ fs. planned h p left depth fs ++ block_of (node_of h p left depth fs)) (e ∷ es) few) ∙ append-nil bs),
)

some_node : (o : Option Data) (block : List ℕ) → Some block ≡ option_map spell o → (node : Data) × (o ≡ Some node) × (block ≡ spell node)
some_node None block is = absurd cc
some_node (Some node) block is = (node, refl, cc)

pub slot-many : (h : List ℕ → List ℕ) (p : HamtShape) (left depth : ℕ) (es : List (List ℕ × Data)) (old now new : List (List ℕ)) (block : List ℕ) (id : BlockId) → p.bucket < length es
    → PlansNode h p left depth es (Ok block) old now → id.0 ≡ id_of block → new ≡ now ++ block ∷ [] → PlansSlot h p left depth es (Ok (Some (N.Child id))) old new
slot-many h p left depth es old now new block id many plans named pushes =
    let n = some_node (node_of h p left depth es) block plans.0 in (
      ap (λ i. Some (child i)) (named ∙ ap id_of n.2) ∙ sym (slot-many_lem p.bucket (node_of h p left depth) es many ∙ ap (option_map link_to) n.1),
      pushes ∙ ap (λ bs. bs ++ block ∷ []) plans.1 ∙ append_assoc old (planned h p left depth es) (block ∷ [])
          ∙ ap (λ bs. old ++ bs)
          (ap (λ bs. planned h p left depth es ++ bs) (ap (λ b. b ∷ []) n.2 ∙ ap block_of (sym n.1))
          ∙ sym (none_or-many p.bucket (λ fs. planned h p left depth fs ++ block_of (node_of h p left depth fs)) es many)),
    )

pub slot-stop : (h : List ℕ → List ℕ) (p : HamtShape) (left depth : ℕ) (es : List (List ℕ × Data)) (e : PlanFault) (old now new : List (List ℕ)) → p.bucket < length es
    → PlansNode h p left depth es (Err e) old now → PlansSlot h p left depth es (Err e) old new
slot-stop h p left depth es F.Exhausted old now new many plans = slot-many_lem p.bucket (node_of h p left depth) es many ∙ ap (option_map link_to) plans
slot-stop h p left depth es F.Memory old now new many plans = tt

-- ---- slots that are written

pub into-empty : (h : List ℕ → List ℕ) (p : HamtShape) (left depth : ℕ) (es : List (List ℕ × Data)) (slots : List TrieSlot) (d : Draft) (bs : List (List ℕ)) → length es ≡ 0 → HasWritten p d (slots ++ empty ∷ []) → PlansInto h p left depth es (Ok tt) slots d bs bs
into-empty h p left depth es slots d bs none written = let s = slot-empty h p left depth es bs none in (empty, s.0, s.1, written)

pub into-few : (h : List ℕ → List ℕ) (p : HamtShape) (left depth : ℕ) (es : List (List ℕ × Data)) (slots : List TrieSlot) (d : Draft) (bs : List (List ℕ)) → 0 < length es → length es ≤ p.bucket → HasWritten p d (slots ++ bucket es ∷ [])
    → PlansInto h p left depth es (Ok tt) slots d bs bs
into-few h p left depth es slots d bs some few written = let s = slot-few h p left depth es es bs refl some few in (bucket es, s.0, s.1, written)

pub into-many : (h : List ℕ → List ℕ) (p : HamtShape) (left depth : ℕ) (es : List (List ℕ × Data)) (slots : List TrieSlot) (d : Draft) (old now new : List (List ℕ)) (block : List ℕ) (id : BlockId) → p.bucket < length es
    → PlansNode h p left depth es (Ok block) old now → id.0 ≡ id_of block → new ≡ now ++ block ∷ [] → HasWritten p d (slots ++ child id.0 ∷ []) → PlansInto h p left depth es (Ok tt) slots d old new
into-many h p left depth es slots d old now new block id many plans named pushes written =
    let s = slot-many h p left depth es old now new block id many plans named pushes in (child id.0, s.0, s.1, written)

pub into-stop : (h : List ℕ → List ℕ) (p : HamtShape) (left depth : ℕ) (es : List (List ℕ × Data)) (e : PlanFault) (slots : List TrieSlot) (d : Draft) (old now new : List (List ℕ)) → p.bucket < length es
    → PlansNode h p left depth es (Err e) old now → PlansInto h p left depth es (Err e) slots d old new
into-stop h p left depth es F.Exhausted slots d old now new many plans = slot-many_lem p.bucket (node_of h p left depth) es many ∙ ap (option_map link_to) plans
into-stop h p left depth es F.Memory slots d old now new many plans = tt

-- ---- indices that are passed over

skip_one : (h : List ℕ → List ℕ) (p : HamtShape) (depth : ℕ) (es : List (List ℕ × Data)) (n : ℕ) (d : Draft) (old now : List (List ℕ)) → PlansParts h p depth es n d old now → n < 2 ^ p.width → part (at_depth h p depth) es n ≡ []
    → PlansParts h p depth es (n + 1) d old now
skip_one h p depth es n d old now was lt none =
    let many = was.many in
    plans-step h p depth es n d d old now now was
    (into-empty h p (trie_levels p - (depth + 1)) (depth + 1) (part (at_depth h p depth) es n) was.slots d now (ap (λ (fs : List (List ℕ × Data)). length fs) none) (written-skip p d was.slots was.written (omega (arith, many, lt))))

skip_many : (h : List ℕ → List ℕ) (p : HamtShape) (depth : ℕ) (es : List (List ℕ × Data)) (d : Draft) (old now : List (List ℕ)) (k n : ℕ) → PlansParts h p depth es n d old now → n + k ≤ 2 ^ p.width
    → ((i : ℕ) → n ≤ i → i < n + k → part (at_depth h p depth) es i ≡ []) → PlansParts h p depth es (n + k) d old now
skip_many h p depth es d old now zero n was le none = subst (λ (m : ℕ). PlansParts h p depth es m d old now) (same n) was
  where
    same : (m : ℕ) → m ≡ m + 0
    same m = omega arith
skip_many h p depth es d old now (suc k) n was le none =
    subst (λ (m : ℕ). PlansParts h p depth es m d old now) (same n k)
    (skip_many h p depth es d old now k (n + 1) (skip_one h p depth es n d old now was (omega (arith, le)) (none n (omega arith) (omega arith))) (omega (arith, le))
    (λ i from below. none i (omega (arith, from)) (omega (arith, below))))
  where
    same : (m j : ℕ) → m + 1 + j ≡ m + suc j
    same m j = omega arith

pub plans-skip : (h : List ℕ → List ℕ) (p : HamtShape) (depth : ℕ) (es : List (List ℕ × Data)) (ks : List HashedEntry) (n m : ℕ) (d : Draft) (old now : List (List ℕ)) → AreHashed h es ks → PlansParts h p depth es n d old now → n ≤ m
    → m ≤ 2 ^ p.width → ((i : ℕ) → n ≤ i → i < m → hashed_part p depth ks i ≡ []) → PlansParts h p depth es m d old now
plans-skip h p depth es ks n m d old now are was le most none =
    let sum : n + (m - n) ≡ m = omega (arith, le) in
    subst (λ (k : ℕ). PlansParts h p depth es k d old now) sum
    (skip_many h p depth es d old now (m - n) n was (omega (arith, sum, most)) (λ i from below. no-part h p depth es ks i are (none i from (omega (arith, sum, below)))))

-- a bucket takes the entries
pub fills : (p : HamtShape) (h : List ℕ → List ℕ) (es : List (List ℕ × Data)) (ks : List HashedEntry) → AreHashed h es ks → AreRows es → 0 < length ks → length ks ≤ p.bucket → FillBucket p es
fills p h es ks are rows some few = let many = hashed-many h es ks are in record { rows_are = rows; some = omega (arith, many, some); few = omega (arith, many, few) }
