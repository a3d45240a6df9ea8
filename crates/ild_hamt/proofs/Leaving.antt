-- How the rewriting of a way begins at the end of a trail, and how it ends.
use Rattle.std.proofs.Common.{◌≡◌, inl, ℕ, suc, ◌+◌, ◌-◌, ◌≤◌, Bool, true, false, cond, not, List, [], ◌∷◌, ◌++◌, length, Option, Some, None, is_some, refl, sym, ap, ◌∙◌, subst, arith, append-nil}
use Rattle.std.specs.Prelude.{Result, Ok, Err, IfOk, IsSome}
use Rattle.std.specs.Ordering.{eq_by_cmp}
use Rattle.std.specs.FinMap.{find, put}
use Rattle.std.proofs.lemmas.Bool.{le-leb, false≢true}
use Rattle.ild_data.specs.ByteOrder.{bytewise, without, IsInOrder}
use Rattle.ild_data.specs.Data.{Data}
use Rattle.ild_data.specs.Trie.{TrieSlot, empty, slot_of, node_of}
use Rattle.ild_data.specs.TrieBlocks.{none_or, block_of}
use Rattle.ild_data.specs.declared.hamt_shape.HamtShape.{HamtShape}
use Rattle.ild_data.specs.TrieShape.{trie_levels}
use Rattle.ild_hamt_trie.specs.Collapse.{sized}
use Rattle.ild_hamt_trie.specs.Way.{along}
use Rattle.ild_hamt_trie.proofs.Climb.{in_order-along}
use Rattle.ild_hamt_trie.proofs.Fold.{slot-few}
use Rattle.ild_hamt_trie.proofs.Parts.{same_by_find, same_key, key_itself, in_order-put, in_order-without, find-put_at, find-without}
use Rattle.ild_cbor.specs.declared.node.Node.{Node}
use Rattle.ild_edges.specs.Store.{Moment}
use Rattle.ild_bulk.specs.Faults.{plan_fault}
use Rattle.ild_bulk.specs.declared.fault.PlanFault.{PlanFault}
use Rattle.ild_bulk.specs.declared.fault.PlanFault.TheVariants as P
use Rattle.ild_bulk.specs.Planned.{PlansSlot, planned, slot_plan}
use Rattle.ild_node.specs.NewSlots.{slot_seen}
use Rattle.ild_node_slots.specs.Views.{HasEntries, ValueIn, bucket_node}
use Rattle.ild_node_slots.specs.declared.bucket.Bucket.{Bucket}
use Rattle.ild_node.specs.declared.hold.NewHold.{NewHold}
use Rattle.ild_node_slots.specs.declared.view.NodeSlot.TheVariants as S
use Rattle.ild_node_slots.specs.declared.fault.HamtFault.{HamtFault}
use Rattle.ild_node_slots.specs.declared.fault.HamtFault.TheVariants as F
use Rattle.ild_hamt.specs.Descending.{IsTrailOf, trail_blocks}
use Rattle.ild_hamt.specs.Ends.{hashes_of}
use Rattle.ild_hamt.proofs.Hashed.{others-put}
use Rattle.ild_hamt.specs.Removing.{Removes}
use Rattle.ild_hamt_climb.specs.Rewriting.{Rewrites, ClimbState}
use Rattle.ild_hamt_climb.specs.Seen.{IsReadOf}
use Rattle.ild_hamt.specs.declared.trail.Trail.{Trail}
use Rattle.ild_hamt_climb.proofs.Differing.{along-without}
use Rattle.ild_hamt.proofs.Fulling.{end-bucket, full-is}
use Rattle.ild_hamt.proofs.Roomy.{has-room}
use Rattle.ild_hamt_climb.proofs.Upward.{start-put, start-few}

-- ---- the bottom

pub plans-few : (h : List ℕ → List ℕ) (p : HamtShape) (left depth : ℕ) (rows : List (List ℕ × Data)) (o : Option NewHold) (plan : List (List ℕ)) → length rows ≤ p.bucket → slot_seen o ≡ sized p.bucket empty rows
    → PlansSlot h p left depth rows (Ok o) plan plan
plans-few h p left depth rows o plan few is = (
  ap Some is ∙ sym (slot-few p.bucket (node_of h p left depth) rows empty few),
  sym (ap (λ b. plan ++ none_or b (λ fs. planned h p left depth fs ++ block_of (node_of h p left depth fs)) rows) (le-leb (length rows) p.bucket few) ∙ append-nil plan),
)

-- a pair that is put where its key was taken away
put-back : (q k : List ℕ) (v : Data) (b c : Bool) (x : Option Data) → eq_by_cmp bytewise q k ≡ b → eq_by_cmp bytewise k q ≡ c → cond b (Some v) (cond (not c) x None) ≡ cond b (Some v) x
put-back q k v true c x one two = refl
put-back q k v false true x one two = absurd (let same = same_key k q two in let itself : eq_by_cmp bytewise q k ≡ true = ap (eq_by_cmp bytewise q) same ∙ key_itself q in cc)
put-back q k v false false x one two = refl

pub put-without : (k : List ℕ) (v : Data) (es : List (List ℕ × Data)) → IsInOrder es → put bytewise k v (without k es) ≡ put bytewise k v es
put-without k v es order =
    same_by_find _ _ (in_order-put k v (without k es) (in_order-without k es order)) (in_order-put k v es order)
    (λ q. find-put_at q k v (without k es) ∙ ap (λ o. cond (eq_by_cmp bytewise q k) (Some v) o) (find-without k es q)
    ∙ put-back q k v (eq_by_cmp bytewise q k) (eq_by_cmp bytewise k q) (find bytewise q es) refl refl ∙ sym (find-put_at q k v es))

-- the rows at the end of a trail with the pair
pub rows-put : (p : HamtShape) (h : List ℕ → List ℕ) (k key : List ℕ) (v : Data) (slots : List TrieSlot) (es others rows : List (List ℕ × Data)) (t : Trail) → IsTrailOf h p k slots es t
    → others ≡ without k (along h p k (length (trail_blocks t) + 1) 0 es) → key ≡ k → rows ≡ put bytewise key v others → rows ≡ put bytewise k v (along h p k (length (trail_blocks t) + 1) 0 es)
rows-put p h k key v slots es others rows t trail is named puts =
    puts ∙ (λ i. put bytewise (named i) v (is i)) ∙ put-without k v (along h p k (length (trail_blocks t) + 1) 0 es) (in_order-along h p k (length (trail_blocks t) + 1) 0 es trail.root.order)

-- the hashes that the trail keeps are those of the other rows
pub others-end : (p : HamtShape) (h : List ℕ → List ℕ) (k : List ℕ) (v : Data) (slots : List TrieSlot) (es : List (List ℕ × Data)) (t : Trail) (rows : List (List ℕ × Data)) → IsTrailOf h p k slots es t
    → rows ≡ put bytewise k v (along h p k (length (trail_blocks t) + 1) 0 es) → t.others.items ≡ hashes_of h (without t.key rows)
others-end p h k v slots es t rows trail puts =
    let gs : List (List ℕ × Data) = along h p k (length (trail_blocks t) + 1) 0 es in
    others-put h k t.key v gs rows t.others.items (in_order-along h p k (length (trail_blocks t) + 1) 0 es trail.root.order) trail.others trail.key puts

-- what a plan of the end's slot gives
pub end-state : (p : HamtShape) (h : List ℕ → List ℕ) (k : List ℕ) (v : Data) (slots : List TrieSlot) (es rows : List (List ℕ × Data)) (t : Trail) (o : Option NewHold) (depth : ℕ) (old plan : List (List ℕ)) → IsTrailOf h p k slots es t
    → rows ≡ put bytewise k v (along h p k (length (trail_blocks t) + 1) 0 es) → depth ≡ length (trail_blocks t) + 1 → old ≡ [] → PlansSlot h p (trie_levels p - depth) depth rows (Ok o) old plan
    → ClimbState h p k es (put bytewise k v es) (trail_blocks t) t.depth (slot_seen o) plan
end-state p h k v slots es rows t o depth old plan trail is deep none plans =
    let n : ℕ = length (trail_blocks t) in
    let there = subst (λ (d : ℕ). PlansSlot h p (trie_levels p - d) d rows (Ok o) old plan) deep plans in
    record {
      deep = trail.depth;
      nodes = trail.nodes;
      climbed = start-put h p k v es rows n (slot_seen o) plan trail.root.order trail.ends is there.0 (there.1 ∙ ap (λ xs. xs ++ slot_plan p.bucket (node_of h p (trie_levels p - (n + 1)) (n + 1)) (planned h p (trie_levels p - (n + 1)) (n + 1)) rows) none);
    }

-- and where it has none
pub end-stopped : (p : HamtShape) (h : List ℕ → List ℕ) (k : List ℕ) (v : Data) (slots : List TrieSlot) (es rows fs : List (List ℕ × Data)) (t : Trail) (e : PlanFault) (depth : ℕ) (old plan : List (List ℕ)) (m : Moment) → IsTrailOf h p k slots es t
    → rows ≡ put bytewise k v (along h p k (length (trail_blocks t) + 1) 0 es) → depth ≡ length (trail_blocks t) + 1 → is_some (node_of h p (trie_levels p) 0 (put bytewise k v es)) ≡ true
    → PlansSlot h p (trie_levels p - depth) depth rows (Err e) old plan → Rewrites h p k fs m (Err (plan_fault e)) m
end-stopped p h k v slots es rows fs t P.Exhausted depth old plan m trail is deep room plans =
    let n : ℕ = length (trail_blocks t) in
    let none : slot_of p.bucket (node_of h p (trie_levels p - (n + 1)) (n + 1)) (put bytewise k v (along h p k (n + 1) 0 es)) ≡ None =
    (λ i. slot_of p.bucket (node_of h p (trie_levels p - (sym deep i)) (sym deep i)) (sym is i)) ∙ plans in
    let full : t.exhausted ≡ false = full-is h p k slots es v t trail ∙ ap not room in
    absurd (false≢true (sym (ap is_some none) ∙ has-room h p k slots es v t trail full))
end-stopped p h k v slots es rows fs t P.Memory depth old plan m trail is deep room plans = inl refl

-- the bottom of a removal
pub rest-state : (p : HamtShape) (h : List ℕ → List ℕ) (k : List ℕ) (slots : List TrieSlot) (es rows : List (List ℕ × Data)) (t : Trail) (s : TrieSlot) (plan : List (List ℕ)) → IsTrailOf h p k slots es t
    → rows ≡ without k (along h p k (length (trail_blocks t) + 1) 0 es) → (length rows ≤ p.bucket → s ≡ sized p.bucket empty rows) → plan ≡ []
    → ClimbState h p k es (without k es) (trail_blocks t) t.depth s plan
rest-state p h k slots es rows t s plan trail is slot none =
    let n : ℕ = length (trail_blocks t) in
    let gs : List (List ℕ × Data) = along h p k (n + 1) 0 es in
    let few : length rows ≤ p.bucket = (let le = without-few k gs in omega (arith, ap length is, le, trail.ends)) in
    record {
      deep = trail.depth;
      nodes = trail.nodes;
      climbed = start-few h p k (without k es) rows n s plan (is ∙ sym (along-without h p k (n + 1) 0 es trail.root.order)) few (slot few) none;
    }
  where
    without-few : (k : List ℕ) (es : List (List ℕ × Data)) → length (without k es) ≤ length es
    without-few k [] = omega arith
    without-few k (e ∷ es) =
        let rest = without-few k es in
        elim (eq_by_cmp bytewise k e.0) as (λ b. length (cond (not b) (e ∷ without k es) (without k es)) ≤ suc (length es)) [ true ↦ omega arith | false ↦ omega arith ]

-- ---- what was read at the end

pub others-bucket : {E : Type 0} (p : HamtShape) (r : Result (List (List ℕ × Data)) E) (h : List ℕ → List ℕ) (k key : List ℕ) (slots : List TrieSlot) (es : List (List ℕ × Data)) (t : Trail) (b : Bucket) → IsTrailOf h p k slots es t → key ≡ k
    → IsReadOf (S.Bucket b) (sized p.bucket empty (along h p k (length (trail_blocks t) + 1) 0 es)) → ((gs : List (List ℕ × Data)) → HasEntries b gs → IsInOrder gs → IfOk r (λ rows. rows ≡ without key gs))
    → IfOk r (λ rows. rows ≡ without k (along h p k (length (trail_blocks t) + 1) 0 es))
others-bucket p r h k key slots es t b trail named shows reads =
    let gs : List (List ℕ × Data) = along h p k (length (trail_blocks t) + 1) 0 es in
    subst (λ (q : List ℕ). IfOk r (λ rows. rows ≡ without q gs)) named (reads gs (end-bucket p.bucket gs b trail.ends shows) (in_order-along h p k (length (trail_blocks t) + 1) 0 es trail.root.order))

pub none-without : (k : List ℕ) (es : List (List ℕ × Data)) → es ≡ [] → [] ≡ without k es
none-without k es none = ap (without k) (sym none)

pub none-found : (k : List ℕ) (es : List (List ℕ × Data)) → es ≡ [] → find bytewise k es ≡ None
none-found k es none = ap (find bytewise k) none

pub value-some : (whole : Node) (es : List (List ℕ × Data)) (key : List ℕ) (o : Option Data) (n : Node) → ValueIn whole es key o (Some n) → IsSome o
value-some whole es key None n is = absurd is
value-some whole es key (Some d) n is = refl

pub value-none : (whole : Node) (es : List (List ℕ × Data)) (key : List ℕ) (o : Option Data) → ValueIn whole es key o None → o ≡ None
value-none whole es key None is = refl
value-none whole es key (Some d) is = absurd is

pub bucket-found : (p : HamtShape) (h : List ℕ → List ℕ) (k key : List ℕ) (slots : List TrieSlot) (es : List (List ℕ × Data)) (t : Trail) (b : Bucket) (n : Node) → IsTrailOf h p k slots es t → key ≡ k
    → IsReadOf (S.Bucket b) (sized p.bucket empty (along h p k (length (trail_blocks t) + 1) 0 es)) → ((gs : List (List ℕ × Data)) → HasEntries b gs → ValueIn (bucket_node b) gs key (find bytewise key gs) (Some n))
    → IsSome (find bytewise k (along h p k (length (trail_blocks t) + 1) 0 es))
bucket-found p h k key slots es t b n trail named shows finds =
    let gs : List (List ℕ × Data) = along h p k (length (trail_blocks t) + 1) 0 es in
    subst (λ (q : List ℕ). IsSome (find bytewise q gs)) named (value-some (bucket_node b) gs key (find bytewise key gs) n (finds gs (end-bucket p.bucket gs b trail.ends shows)))

pub bucket-missing : (p : HamtShape) (h : List ℕ → List ℕ) (k key : List ℕ) (slots : List TrieSlot) (es : List (List ℕ × Data)) (t : Trail) (b : Bucket) → IsTrailOf h p k slots es t → key ≡ k
    → IsReadOf (S.Bucket b) (sized p.bucket empty (along h p k (length (trail_blocks t) + 1) 0 es)) → ((gs : List (List ℕ × Data)) → HasEntries b gs → ValueIn (bucket_node b) gs key (find bytewise key gs) None)
    → find bytewise k (along h p k (length (trail_blocks t) + 1) 0 es) ≡ None
bucket-missing p h k key slots es t b trail named shows finds =
    let gs : List (List ℕ × Data) = along h p k (length (trail_blocks t) + 1) 0 es in
    subst (λ (q : List ℕ). find bytewise q gs ≡ None) named (value-none (bucket_node b) gs key (find bytewise key gs) (finds gs (end-bucket p.bucket gs b trail.ends shows)))

-- ---- the answer of a removal

pub removes-some : (h : List ℕ → List ℕ) (p : HamtShape) (k : List ℕ) (es : List (List ℕ × Data)) (m : Moment) (r : Result (List ℕ) HamtFault) (n : Moment) → IsSome (find bytewise k es) → Rewrites h p k (without k es) m r n → Removes h p k es m r n
removes-some h p k es m (Ok root) n some is = (some, is)
removes-some h p k es m (Err F.NoKey) n some is = absurd is
removes-some h p k es m (Err F.Exhausted) n some is = (some, is)
removes-some h p k es m (Err F.Size) n some is = (some, is)
removes-some h p k es m (Err F.Memory) n some is = (some, is)
removes-some h p k es m (Err (F.Block id why)) n some is = (some, is)
removes-some h p k es m (Err F.Store) n some is = (some, is)
removes-some h p k es m (Err (F.Clash id kept new)) n some is = (some, is)
