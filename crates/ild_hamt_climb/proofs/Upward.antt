-- From the bottom of a key's way up to the root.
use Rattle.std.proofs.Common.{◌≡◌, ℕ, suc, ◌+◌, ◌-◌, ◌^◌, ◌≤◌, ◌<◌, nat_le, nat_lt, Bool, true, false, cond, List, [], ◌∷◌, ◌++◌, length, set, get_or, Option, Some, None, is_some, option_map, refl, sym, ap, ◌∙◌, subst, arith, append-nil}
use Rattle.std.specs.Prelude.{if◌then◌else◌, reverse, Result, Ok, Err, IfOk}
use Rattle.std.proofs.lemmas.Option.{same_Some}
use Rattle.std.specs.FinMap.{find, put}
use Rattle.std.specs.FinMap.Entries.{length-put}
use Rattle.std.proofs.lemmas.Bool.{le-leb, leb-true}
use Rattle.std.proofs.lemmas.List.{reverse-append, length-append, get_or_at, get_or_append_left}
use Rattle.ild_data.specs.Data.{Data}
use Rattle.ild_data.specs.Spell.{spell}
use Rattle.ild_data.specs.declared.hamt_shape.HamtShape.{HamtShape}
use Rattle.ild_data.specs.TrieShape.{index, index_at, trie_levels}
use Rattle.ild_data.specs.Trie.{TrieSlot, empty, part, node_data, slot_of, node_of, at_depth, slots_at}
use Rattle.ild_data.specs.ByteOrder.{IsInOrder, bytewise}
use Rattle.ild_data.specs.TrieBlocks.{node_and_beneath, none_or, block_of}
use Rattle.ild_hamt_trie.specs.Collapse.{sized}
use Rattle.ild_hamt_trie.specs.Way.{along, way}
use Rattle.ild_hamt_trie.proofs.Fold.{slot-few, length-part}
use Rattle.ild_hamt_trie.proofs.Parts.{total, find-put_at, key_itself}
use Rattle.ild_hamt_trie.proofs.Climb.{in_order-along}
use Rattle.ild_hamt_trie.proofs.Index.{index_below}
use Rattle.ild_hamt_trie.proofs.Node.{node-slots, along-put}
use Rattle.ild_hamt_trie.proofs.Way.{way_is, along-more}
use Rattle.ild_bulk.specs.Planned.{planned, slot_plan}
use Rattle.ild_hamt_climb.specs.Way.{IsRootOf}
use Rattle.ild_hamt_climb.specs.Rewriting.{DiffersAt, NodeAt, Lifts, ClimbedTo, ClimbState, HasRoot, own_block, way_at, way_up}
use Rattle.ild_hamt_climb.proofs.Chain.{slot-chain, one-reversed}
use Rattle.ild_hamt_climb.proofs.Differing.{along-differs, slots-differ}

-- an index is that of a slot
pub slot-below : (p : HamtShape) (hash : List ℕ) (depth i : ℕ) → Some i ≡ index_at p hash depth → i < 2 ^ p.width
slot-below p hash depth i is = by (nat_lt depth (trie_levels p)) is
  where
    by : (b : Bool) → Some i ≡ (if b then Some (index p hash depth) else None) → i < 2 ^ p.width
    by true is = let same : i ≡ index p hash depth = same_Some i (index p hash depth) is in let lt = index_below p hash depth in omega (arith, same, lt)
    by false is = absurd cc

-- the entries one level further along a key
pub next-part : (h : List ℕ → List ℕ) (p : HamtShape) (k : List ℕ) (n : ℕ) (es : List (List ℕ × Data))
    → along h p k (n + 1) 0 es ≡ part (at_depth h p n) (along h p k n 0 es) (at_depth h p n k)
next-part h p k n es =
    let e : 0 + n ≡ n = omega arith in
    subst (λ (d : ℕ). along h p k (n + 1) 0 es ≡ part (at_depth h p d) (along h p k n 0 es) (at_depth h p d k)) e (along-more h p k n 0 es)

-- the way beneath few entries
few-way : (h : List ℕ → List ℕ) (p : HamtShape) (k : List ℕ) (left depth : ℕ) (es : List (List ℕ × Data)) → length es ≤ p.bucket → way h p k (suc left) depth es ≡ []
few-way h p k left depth es few =
    let fs : List (List ℕ × Data) = part (at_depth h p depth) es (at_depth h p depth k) in
    let le = length-part (at_depth h p depth) es (at_depth h p depth k) in
    way_is h p k left depth es
    ∙ ap (λ b. none_or b (λ gs. block_of (node_of h p left (depth + 1) gs) ++ way h p k left (depth + 1) gs) fs) (le-leb (length fs) p.bucket (let e : length fs ≤ p.bucket = omega (arith, le, few) in e))

-- the blocks along the way at a place: the node's own behind those beneath it
own-behind : (b : Bool) (below : List (List ℕ × Data) → Option Data) (wy : List (List ℕ × Data) → List (List ℕ)) (gs : List (List ℕ × Data)) → (b ≡ true → wy gs ≡ [])
    → reverse (none_or b (λ xs. block_of (below xs) ++ wy xs) gs) ≡ reverse (wy gs) ++ none_or b (λ xs. block_of (below xs)) gs
own-behind true below wy gs none = sym (append-nil (reverse (wy gs)) ∙ ap reverse (none refl))
own-behind false below wy gs none = reverse-append (block_of (below gs)) (wy gs) ∙ ap (λ xs. reverse (wy gs) ++ xs) (sym (one-reversed (below gs)))

-- the new slots of a node on the way
pub new-slots : (h : List ℕ → List ℕ) (p : HamtShape) (k : List ℕ) (es fs : List (List ℕ × Data)) (j : ℕ) (b : List ℕ) (s : TrieSlot) (plan : List (List ℕ))
    → DiffersAt k es fs → (at : NodeAt h p k (trie_levels p) es j b) → ClimbedTo h p k fs (j + 1) s plan
    → slots_at h p at.less (j + 1) (along h p k (j + 1) 0 fs) ≡ Some (set at.slots (at_depth h p (j + 1) k) s)
new-slots h p k es fs j b s plan d at was =
    let down : trie_levels p - ((j + 1) + 1) ≡ at.less = omega (arith, at.left_is) in
    let more = next-part h p k (j + 1) fs in
    slots-differ h p k at.less (j + 1) (along h p k (j + 1) 0 es) (along h p k (j + 1) 0 fs) at.slots s (along-differs h p k (j + 1) 0 es fs d) at.stands
    (subst (λ (n : ℕ). slot_of p.bucket (node_of h p n ((j + 1) + 1)) (part (at_depth h p (j + 1)) (along h p k (j + 1) 0 fs) (at_depth h p (j + 1) k)) ≡ Some s) down
    (subst (λ (xs : List (List ℕ × Data)). slot_of p.bucket (node_of h p (trie_levels p - ((j + 1) + 1)) ((j + 1) + 1)) xs ≡ Some s) more was.slot_is))

-- one node up
pub climb-up : (h : List ℕ → List ℕ) (p : HamtShape) (k : List ℕ) (fs : List (List ℕ × Data)) (j less : ℕ) (s slot : TrieSlot) (plan now : List (List ℕ))
    → trie_levels p ≡ suc (j + suc less) → ClimbedTo h p k fs (j + 1) s plan → Lifts h p (suc less) (j + 1) (along h p k (j + 1) 0 fs) slot plan now → ClimbedTo h p k fs j slot now
climb-up h p k fs j less s slot plan now levels was lifts =
    let gs : List (List ℕ × Data) = along h p k (j + 1) 0 fs in
    let up : trie_levels p - (j + 1) ≡ suc less = omega (arith, levels) in
    let down : trie_levels p - ((j + 1) + 1) ≡ less = omega (arith, levels) in
    let beneath : way_at h p k fs (j + 1) ≡ way h p k (suc less) (j + 1) gs =
    (λ i. node_and_beneath p.bucket (node_of h p (down i) ((j + 1) + 1)) (way h p k (down i) ((j + 1) + 1)) (next-part h p k (j + 1) fs i)) ∙ sym (way_is h p k less (j + 1) gs) in
    let here : reverse (way_at h p k fs j) ≡ reverse (way h p k (suc less) (j + 1) gs) ++ own_block p.bucket (node_of h p (suc less) (j + 1)) gs =
    (λ i. reverse (node_and_beneath p.bucket (node_of h p (up i) (j + 1)) (way h p k (up i) (j + 1)) gs))
    ∙ own-behind (nat_le (length gs) p.bucket) (node_of h p (suc less) (j + 1)) (way h p k (suc less) (j + 1)) gs (λ few. few-way h p k less (j + 1) gs (leb-true (length gs) p.bucket few)) in
    record {
      slot_is = subst (λ (n : ℕ). slot_of p.bucket (node_of h p n (j + 1)) gs ≡ Some slot) (sym up) lifts.slot_is;
      plan_is = lifts.plan_is ∙ ap (λ xs. xs ++ own_block p.bucket (node_of h p (suc less) (j + 1)) gs) (was.plan_is ∙ ap reverse beneath) ∙ sym here;
    }

-- the root
pub climb-top : (h : List ℕ → List ℕ) (p : HamtShape) (k : List ℕ) (slots : List TrieSlot) (es fs : List (List ℕ × Data)) (s : TrieSlot) (plan : List (List ℕ))
    → IsRootOf h p es slots → DiffersAt k es fs → ClimbedTo h p k fs 0 s plan
    → (node_of h p (trie_levels p) 0 fs ≡ Some (node_data (set slots (at_depth h p 0 k) s))) × (plan ≡ way_up h p k fs)
climb-top h p k slots es fs s plan root d was =
    let gs : List (List ℕ × Data) = part (at_depth h p 0) fs (at_depth h p 0 k) in
    let down : trie_levels p - (0 + 1) ≡ root.left = omega (arith, root.all) in
    let new : slot_of p.bucket (node_of h p root.left (0 + 1)) gs ≡ Some s =
    subst (λ (n : ℕ). slot_of p.bucket (node_of h p n (0 + 1)) gs ≡ Some s) down was.slot_is in (
      ap (λ n. node_of h p n 0 fs) root.all ∙ node-slots h p root.left 0 fs ∙ ap (option_map node_data) (slots-differ h p k root.left 0 es fs slots s d root.node new),
      was.plan_is ∙ ap reverse ((λ i. node_and_beneath p.bucket (node_of h p (down i) (0 + 1)) (way h p k (down i) (0 + 1)) gs)
          ∙ sym (way_is h p k root.left 0 fs) ∙ sym (ap (λ n. way h p k n 0 fs) root.all)),
    )

-- ---- the bottom

-- a bucket takes the entries
pub start-few : (h : List ℕ → List ℕ) (p : HamtShape) (k : List ℕ) (fs rows : List (List ℕ × Data)) (n : ℕ) (s : TrieSlot) (plan : List (List ℕ))
    → rows ≡ along h p k (n + 1) 0 fs → length rows ≤ p.bucket → s ≡ sized p.bucket empty rows → plan ≡ [] → ClimbedTo h p k fs n s plan
start-few h p k fs rows n s plan same few is none =
    let gs : List (List ℕ × Data) = along h p k (n + 1) 0 fs in
    let le : length gs ≤ p.bucket = omega (arith, ap length same, few) in
    record {
      slot_is = slot-few p.bucket (node_of h p (trie_levels p - (n + 1)) (n + 1)) gs empty le ∙ ap Some (sym (is ∙ ap (sized p.bucket empty) same));
      plan_is = none ∙ sym (ap (λ b. reverse (none_or b (λ xs. block_of (node_of h p (trie_levels p - (n + 1)) (n + 1) xs) ++ way h p k (trie_levels p - (n + 1)) (n + 1) xs) gs)) (le-leb (length gs) p.bucket le));
    }

pub put_found : (k : List ℕ) (v : Data) (fs : List (List ℕ × Data)) → is_some (find bytewise k (put bytewise k v fs)) ≡ true
put_found k v fs = ap is_some (find-put_at k k v fs ∙ ap (λ b. cond b (Some v) (find bytewise k fs)) (key_itself k))

pub put_few : (k : List ℕ) (v : Data) (fs : List (List ℕ × Data)) → IsInOrder fs → length (put bytewise k v fs) ≤ length fs + 1
put_few k v fs order =
    let e = length-put bytewise total k v fs order in
    by_case (is_some (find bytewise k fs)) (length fs) (length (put bytewise k v fs)) e
  where
    by_case : (b : Bool) (n m : ℕ) → m ≡ cond b n (n + 1) → m ≤ n + 1
    by_case true n m e = omega arith
    by_case false n m e = omega arith

-- the entries of a bucket with a pair
pub start-put : (h : List ℕ → List ℕ) (p : HamtShape) (k : List ℕ) (v : Data) (es rows : List (List ℕ × Data)) (n : ℕ) (s : TrieSlot) (plan : List (List ℕ))
    → IsInOrder es → length (along h p k (n + 1) 0 es) ≤ p.bucket → rows ≡ put bytewise k v (along h p k (n + 1) 0 es)
    → Some s ≡ slot_of p.bucket (node_of h p (trie_levels p - (n + 1)) (n + 1)) rows
    → plan ≡ slot_plan p.bucket (node_of h p (trie_levels p - (n + 1)) (n + 1)) (planned h p (trie_levels p - (n + 1)) (n + 1)) rows
    → ClimbedTo h p k (put bytewise k v es) n s plan
start-put h p k v es rows n s plan order few same is plans =
    let gs : List (List ℕ × Data) = along h p k (n + 1) 0 es in
    let le = put_few k v gs (in_order-along h p k (n + 1) 0 es order) in
    let whole : rows ≡ along h p k (n + 1) 0 (put bytewise k v es) = same ∙ sym (along-put h p k v (n + 1) 0 es order) in
    record {
      slot_is = ap (slot_of p.bucket (node_of h p (trie_levels p - (n + 1)) (n + 1))) (sym whole) ∙ sym is;
      plan_is = plans ∙ ap (slot_plan p.bucket (node_of h p (trie_levels p - (n + 1)) (n + 1)) (planned h p (trie_levels p - (n + 1)) (n + 1))) same
          ∙ slot-chain h p k (trie_levels p - (n + 1)) (n + 1) (put bytewise k v gs) (omega arith) (put_found k v gs)
          ∙ ap (λ xs. reverse (node_and_beneath p.bucket (node_of h p (trie_levels p - (n + 1)) (n + 1)) (way h p k (trie_levels p - (n + 1)) (n + 1)) xs)) (sym same ∙ whole);
    }

-- ---- the loop

-- the last block, as the node that it is
pub record Last (h : List ℕ → List ℕ) (p : HamtShape) (k : List ℕ) (es : List (List ℕ × Data)) (bs rest : List (List ℕ)) (block : List ℕ) : Type 0 where
  pub long : length bs ≡ length rest + 1
  pub at : NodeAt h p k (trie_levels p) es (length rest) block

pub state-last : (h : List ℕ → List ℕ) (p : HamtShape) (k : List ℕ) (es fs : List (List ℕ × Data)) (bs rest : List (List ℕ)) (b block : List ℕ) (depth : ℕ) (s : TrieSlot) (plan : List (List ℕ))
    → ClimbState h p k es fs bs depth s plan → bs ≡ rest ++ b ∷ [] → block ≡ b → Last h p k es bs rest block
state-last h p k es fs bs rest b block depth s plan was pops read =
    let long : length bs ≡ length rest + 1 = ap length pops ∙ length-append rest (b ∷ []) in
    let last : get_or bs (length rest) [] ≡ block = ap (λ xs. get_or xs (length rest) []) pops ∙ get_or_at rest b [] [] (length rest) refl ∙ sym read in
    record {
      long = long;
      at = subst (λ (x : List ℕ). NodeAt h p k (trie_levels p) es (length rest) x) last (was.nodes (length rest) (omega (arith, long)));
    }

-- the slots of its new node, by the code's depth and index
pub state-slots : (h : List ℕ → List ℕ) (p : HamtShape) (k hash : List ℕ) (es fs : List (List ℕ × Data)) (bs rest : List (List ℕ)) (block : List ℕ) (depth : ℕ) (s : TrieSlot) (plan : List (List ℕ))
    → DiffersAt k es fs → hash ≡ h k → ClimbState h p k es fs bs depth s plan → (last : Last h p k es bs rest block)
    → slots_at h p last.at.less depth (along h p k (length rest + 1) 0 fs) ≡ Some (set last.at.slots (index p hash depth) s)
state-slots h p k hash es fs bs rest block depth s plan d hashed was last =
    let there : ClimbedTo h p k fs (length rest + 1) s plan = subst (λ (n : ℕ). ClimbedTo h p k fs n s plan) last.long was.climbed in
    let deep : depth ≡ length rest + 1 = was.deep ∙ last.long in
    let new = new-slots h p k es fs (length rest) block s plan d last.at there in
    ap (λ n. slots_at h p last.at.less n (along h p k (length rest + 1) 0 fs)) deep ∙ new ∙ ap Some (λ i. set last.at.slots (index p (sym hashed i) (sym deep i)) s)

pub state-more : (h : List ℕ → List ℕ) (p : HamtShape) (k : List ℕ) (es fs : List (List ℕ × Data)) (bs rest : List (List ℕ)) (b block : List ℕ) (depth next : ℕ) (s slot : TrieSlot) (plan now : List (List ℕ))
    → ClimbState h p k es fs bs depth s plan → bs ≡ rest ++ b ∷ [] → (last : Last h p k es bs rest block) → next ≡ depth - 1
    → Lifts h p (suc last.at.less) depth (along h p k (length rest + 1) 0 fs) slot plan now → ClimbState h p k es fs rest next slot now
state-more h p k es fs bs rest b block depth next s slot plan now was pops last up lifts =
    let deep : depth ≡ length rest + 1 = was.deep ∙ last.long in
    record {
      deep = omega (arith, up, deep);
      nodes = λ j lt. subst (λ (x : List ℕ). NodeAt h p k (trie_levels p) es j x)
          (ap (λ xs. get_or xs j []) pops ∙ get_or_append_left rest (b ∷ []) [] j lt) (was.nodes j (omega (arith, last.long)));
      climbed = climb-up h p k fs (length rest) last.at.less s slot plan now last.at.left_is (subst (λ (n : ℕ). ClimbedTo h p k fs n s plan) last.long was.climbed)
          (subst (λ (n : ℕ). Lifts h p (suc last.at.less) n (along h p k (length rest + 1) 0 fs) slot plan now) deep lifts);
    }

pub state-done : (h : List ℕ → List ℕ) (p : HamtShape) (k hash : List ℕ) (slots : List TrieSlot) (es fs : List (List ℕ × Data)) (bs : List (List ℕ)) (depth i : ℕ) (s : TrieSlot) (plan : List (List ℕ)) (root : List ℕ)
    → IsRootOf h p es slots → DiffersAt k es fs → hash ≡ h k → ClimbState h p k es fs bs depth s plan → bs ≡ [] → i ≡ index p hash 0 → root ≡ spell (node_data (set slots i s))
    → HasRoot h p fs root × (plan ≡ way_up h p k fs)
state-done h p k hash slots es fs bs depth i s plan root is d hashed state none at writes =
    let zero_is : length bs ≡ 0 = ap length none in
    let top = climb-top h p k slots es fs s plan is d (subst (λ (n : ℕ). ClimbedTo h p k fs n s plan) zero_is state.climbed) in
    (record { node = node_data (set slots (at_depth h p 0 k) s); is = top.0; spelled = writes ∙ ap (λ n. spell (node_data (set slots n s))) (at ∙ ap (λ x. index p x 0) hashed) }, top.1)

-- the answer of a write
pub ok-done : {E : Type 0} (r : Result (List ℕ) E) (block : List ℕ) (P : List ℕ → Type 0) → IfOk r (λ b. b ≡ block) → ((b : List ℕ) → b ≡ block → P b) → IfOk r P
ok-done (Ok b) block P is gives = gives b is
ok-done (Err e) block P is gives = tt
