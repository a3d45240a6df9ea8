-- The slot at the end of a trail and the nodes planned beneath it, of whatever trie they are.
use Rattle.std.proofs.Common.{◌≡◌, inr, ℕ, zero, suc, ◌+◌, ◌-◌, ◌≤◌, ◌<◌, nat_le, Bool, true, false, not, ◌&&◌, List, [], ◌∷◌, ◌++◌, length, get_or, Option, Some, None, is_some, refl, sym, ap, ◌∙◌, subst, arith}
use Rattle.std.specs.Prelude.{Result, Ok, IfOk, IsSome, reverse}
use Rattle.std.specs.List.{AllByRecursion}
use Rattle.std.specs.FinMap.{find, put}
use Rattle.std.specs.FinMap.Entries.{length-put}
use Rattle.std.proofs.lemmas.Bool.{or_parts}
use Rattle.std.proofs.lemmas.List.{length-reverse}
use Rattle.ild_data.specs.ByteOrder.{bytewise, without, IsInOrder}
use Rattle.ild_data.specs.Data.{Data}
use Rattle.ild_data.specs.declared.hamt_shape.HamtShape.{HamtShape}
use Rattle.ild_data.specs.TrieShape.{index, trie_levels}
use Rattle.ild_data.specs.Trie.{TrieSlot, empty, bucket, child, bucket_entries, part, slot_of, node_of, at_depth}
use Rattle.ild_data.specs.TrieBlocks.{none_or, block_of, node_and_beneath}
use Rattle.ild_edges.specs.Store.{Moment}
use Rattle.ild_hamt_trie.specs.Way.{along, way}
use Rattle.ild_hamt_trie.proofs.Climb.{in_order-along}
use Rattle.ild_hamt_trie.proofs.Node.{few-node, is_some-slot, no_node, set-exhausts, length-along}
use Rattle.ild_hamt_trie.proofs.Parts.{total}
use Rattle.ild_hamt_trie.proofs.Way.{way_is, find-along}
use Rattle.ild_typed.proofs.TrieTells.{slot_way}
use Rattle.ild_typed.specs.Node.{IsSlot}
use Rattle.ild_cbor.specs.declared.node.Node.{Node}
use Rattle.ild_node.specs.NewSlots.{slot_seen}
use Rattle.ild_node.specs.declared.hold.NewHold.{NewHold}
use Rattle.ild_node_slots.specs.Form.{IsNode}
use Rattle.ild_node_slots.specs.Views.{HasSlots, HasEntries, ValueIn, bucket_node}
use Rattle.ild_node_slots.specs.declared.bucket.Bucket.{Bucket}
use Rattle.ild_node_slots.specs.declared.view.NodeView.{NodeView}
use Rattle.ild_node_slots.specs.declared.view.NodeSlot.{NodeSlot}
use Rattle.ild_node_slots.specs.declared.view.NodeSlot.TheVariants as S
use Rattle.ild_bulk.specs.Children.{Follows}
use Rattle.ild_bulk.specs.Planned.{PlansSlot, planned, slot_plan}
use Rattle.ild_bulk.proofs.Childs.{child_of, follows_slot, node-over, plan-follows, over-more}
use Rattle.ild_hamt_climb.specs.Planning.{Rising, IsPlanned, SpellsNode}
use Rattle.ild_hamt_climb.specs.Seen.{IsReadOf}
use Rattle.ild_hamt_climb.specs.Way.{Leads, slot_for}
use Rattle.ild_hamt_climb.proofs.Chain.{slot-chain}
use Rattle.ild_hamt_climb.proofs.Planning.{child-more}
use Rattle.ild_hamt_climb.proofs.Upward.{put_found, put_few}
use Rattle.ild_hamt.specs.Edits.{IsTrailAlong, entries_at_end, is_full_at_end}
use Rattle.ild_hamt.specs.Descending.{Descends, IsTrail, trail_blocks}
use Rattle.ild_hamt.specs.Ends.{EndsAt}
use Rattle.ild_hamt.specs.declared.trail.Trail.{Trail}
use Rattle.ild_hamt.proofs.Fulling.{along-agree, full-cond}
use Rattle.ild_hamt.proofs.Leading.{leads-end}
use Rattle.ild_hamt.proofs.Leaving.{put-without, value-some, value-none}

-- ---- the slot at the end

all-get : (P : TrieSlot → Type 0) (slots : List TrieSlot) (i : ℕ) → AllByRecursion P slots → P empty → P (get_or slots i empty)
all-get P [] i all is = is
all-get P (s ∷ slots) zero all is = all.0
all-get P (s ∷ slots) (suc i) all is = all-get P slots i all.1 is

leads-node : (p : HamtShape) (hash : List ℕ) (depth : ℕ) (slots : List TrieSlot) (bs : List (List ℕ)) (last : List TrieSlot) → IsNode p slots → Leads p hash depth slots bs last → IsNode p last
leads-node p hash depth slots [] last form leads = subst (λ (ss : List TrieSlot). IsNode p ss) leads form
leads-node p hash depth slots (b ∷ bs) last form leads = leads-node p hash (depth + 1) leads.0 bs last leads.2.form leads.3

end-form : (p : HamtShape) (root : NodeView) (t : Trail) (h : List ℕ → List ℕ) (k : List ℕ) (slots last : List TrieSlot) → IsTrailAlong p root t h k slots last → IsSlot p (slot_for p (h k) (length (trail_blocks t)) last)
end-form p root t h k slots last along =
    all-get (IsSlot p) last (index p (h k) (length (trail_blocks t))) (leads-node p (h k) 0 slots (trail_blocks t) last along.has.form along.leads).each tt

ordered : (p : HamtShape) (s : TrieSlot) → IsSlot p s → IsInOrder (bucket_entries s)
ordered p empty form = tt
ordered p (bucket es) form = form.0
ordered p (child id) form = tt

small : (p : HamtShape) (s : TrieSlot) → IsSlot p s → length (bucket_entries s) ≤ p.bucket
small p empty form = omega arith
small p (bucket es) form = form.2
small p (child id) form = omega arith

pub end-order : (p : HamtShape) (root : NodeView) (t : Trail) (h : List ℕ → List ℕ) (k : List ℕ) (slots last : List TrieSlot) → IsTrailAlong p root t h k slots last → IsInOrder (entries_at_end h p k (trail_blocks t) last)
end-order p root t h k slots last along = ordered p _ (end-form p root t h k slots last along)

pub end-small : (p : HamtShape) (root : NodeView) (t : Trail) (h : List ℕ → List ℕ) (k : List ℕ) (slots last : List TrieSlot) → IsTrailAlong p root t h k slots last → length (entries_at_end h p k (trail_blocks t) last) ≤ p.bucket
end-small p root t h k slots last along = small p _ (end-form p root t h k slots last along)

-- a descent gives such a trail
pub descended-along : (p : HamtShape) (root : NodeView) (h : List ℕ → List ℕ) (k : List ℕ) (slots : List TrieSlot) (m : Moment) (t : Trail) (n : Moment) → HasSlots p root slots → Descends h p k slots m (Ok t) n
    → (last : List TrieSlot) × IsTrailAlong p root t h k slots last
descended-along p root h k slots m t n has descends =
    let same : trail_blocks t ≡ descends.bs = descends.answer.blocks in (
      descends.last,
      record {
        has = has;
        leads = subst (λ (bs : List (List ℕ)). Leads p (h k) 0 slots bs descends.last) (sym same) descends.reads.leads;
        short = subst (λ (bs : List (List ℕ)). length bs < trie_levels p) (sym same) descends.reads.short;
        trail = subst (λ (bs : List (List ℕ)). IsTrail h p k bs descends.last t) (sym same) descends.answer;
      },
    )

-- what was read there
pub along-read : (p : HamtShape) (root : NodeView) (t : Trail) (h : List ℕ → List ℕ) (k : List ℕ) (slots last : List TrieSlot) (blocks : List (List ℕ)) (x : NodeSlot) → IsTrailAlong p root t h k slots last → blocks ≡ trail_blocks t
    → ((ss there : List TrieSlot) → HasSlots p root ss → EndsAt p ss blocks there → t.depth ≡ length blocks → t.depth < trie_levels p → IsReadOf x (slot_for p t.hash t.depth there))
    → IsReadOf x (slot_for p (h k) (length (trail_blocks t)) last)
along-read p root t h k slots last blocks x along same reads =
    let at = reads slots last along.has (subst (λ (bs : List (List ℕ)). EndsAt p slots bs last) (sym same) (leads-end p (h k) 0 slots (trail_blocks t) last along.leads)) (along.trail.depth ∙ ap length (sym same))
    (let lt = along.short in omega (arith, along.trail.depth)) in
    subst (λ (s : TrieSlot). IsReadOf x s) (λ i. slot_for p (along.trail.hash i) (along.trail.depth i) last) at

pub others-read : {E : Type 0} (p : HamtShape) (r : Result (List (List ℕ × Data)) E) (k key : List ℕ) (b : Bucket) (s : TrieSlot) → IsSlot p s → key ≡ k → IsReadOf (S.Bucket b) s
    → ((gs : List (List ℕ × Data)) → HasEntries b gs → IsInOrder gs → IfOk r (λ rows. rows ≡ without key gs)) → IfOk r (λ rows. rows ≡ without k (bucket_entries s))
others-read p r k key b empty form named shows reads = absurd shows
others-read p r k key b (bucket es) form named shows reads = subst (λ (q : List ℕ). IfOk r (λ rows. rows ≡ without q es)) named (reads es shows form.0)
others-read p r k key b (child id) form named shows reads = absurd shows

pub along-others : {E : Type 0} (p : HamtShape) (r : Result (List (List ℕ × Data)) E) (root : NodeView) (t : Trail) (h : List ℕ → List ℕ) (k key : List ℕ) (slots last : List TrieSlot) (b : Bucket) → IsTrailAlong p root t h k slots last → key ≡ k
    → IsReadOf (S.Bucket b) (slot_for p (h k) (length (trail_blocks t)) last) → ((gs : List (List ℕ × Data)) → HasEntries b gs → IsInOrder gs → IfOk r (λ rows. rows ≡ without key gs))
    → IfOk r (λ rows. rows ≡ without k (entries_at_end h p k (trail_blocks t) last))
along-others p r root t h k key slots last b along named shows reads = others-read p r k key b _ (end-form p root t h k slots last along) named shows reads

pub empty-entries : (s : TrieSlot) → IsReadOf S.Empty s → [] ≡ bucket_entries s
empty-entries empty shows = refl
empty-entries (bucket es) shows = absurd shows
empty-entries (child id) shows = refl

pub child-entries : (s : TrieSlot) (id : _) → IsReadOf (S.Child id) s → [] ≡ bucket_entries s
child-entries empty id shows = absurd shows
child-entries (bucket es) id shows = absurd shows
child-entries (child c) id shows = refl

pub along-found : (k key : List ℕ) (b : Bucket) (n : Node) (s : TrieSlot) → key ≡ k → IsReadOf (S.Bucket b) s → ((gs : List (List ℕ × Data)) → HasEntries b gs → ValueIn (bucket_node b) gs key (find bytewise key gs) (Some n))
    → IsSome (find bytewise k (bucket_entries s))
along-found k key b n empty named shows finds = absurd shows
along-found k key b n (bucket es) named shows finds = subst (λ (q : List ℕ). IsSome (find bytewise q es)) named (value-some (bucket_node b) es key (find bytewise key es) n (finds es shows))
along-found k key b n (child id) named shows finds = absurd shows

pub along-missing : (k key : List ℕ) (b : Bucket) (s : TrieSlot) → key ≡ k → IsReadOf (S.Bucket b) s → ((gs : List (List ℕ × Data)) → HasEntries b gs → ValueIn (bucket_node b) gs key (find bytewise key gs) None)
    → find bytewise k (bucket_entries s) ≡ None
along-missing k key b empty named shows finds = absurd shows
along-missing k key b (bucket es) named shows finds = subst (λ (q : List ℕ). find bytewise q es ≡ None) named (value-none (bucket_node b) es key (find bytewise key es) (finds es shows))
along-missing k key b (child id) named shows finds = absurd shows

-- the rows with the pair
pub along-put : (k key : List ℕ) (v : Data) (gs others rows : List (List ℕ × Data)) → IsInOrder gs → others ≡ without k gs → key ≡ k → rows ≡ put bytewise key v others → rows ≡ put bytewise k v gs
along-put k key v gs others rows order is named puts = puts ∙ (λ i. put bytewise (named i) v (is i)) ∙ put-without k v gs order

-- ---- the nodes that are planned there

rising-of : (held before bs : List (List ℕ)) → Follows before bs → Rising held before bs
rising-of held before [] follows = tt
rising-of held before (b ∷ bs) follows = (over-more _ _ b (λ id among. inr among) follows.0, rising-of held (before ++ b ∷ []) bs follows.1)

nodes-of : (before bs : List (List ℕ)) → Follows before bs → AllByRecursion SpellsNode bs
nodes-of before [] follows = tt
nodes-of before (b ∷ bs) follows = (record { slots = follows.0.slots; spelled = follows.0.is }, nodes-of (before ++ b ∷ []) bs follows.1)

pub none-at : (h : List ℕ → List ℕ) (p : HamtShape) (k : List ℕ) (depth : ℕ) (es : List (List ℕ × Data)) → way h p k zero depth es ≡ []
unfolding way
none-at h p k depth es = refl

one-more : (o : Option Data) (ws : List (List ℕ)) (n : ℕ) → length ws ≤ n → length (block_of o ++ ws) ≤ suc n
one-more None ws n le = omega (arith, le)
one-more (Some d) ws n le = omega (arith, le)

chain-length : (h : List ℕ → List ℕ) (p : HamtShape) (k : List ℕ) (left depth : ℕ) (gs : List (List ℕ × Data)) → length (node_and_beneath p.bucket (node_of h p left depth) (way h p k left depth) gs) ≤ left
chain-length h p k zero depth gs = by (nat_le (length gs) p.bucket)
  where
    by : (b : Bool) → length (none_or b (λ fs. block_of (node_of h p zero depth fs) ++ way h p k zero depth fs) gs) ≤ zero
    by true = omega arith
    by false = subst (λ (n : ℕ). n ≤ zero) (sym (λ i. length (block_of (no_node h p depth gs i) ++ none-at h p k depth gs i))) (omega arith)
chain-length h p k (suc left) depth gs =
    by (nat_le (length gs) p.bucket) (subst (λ (ws : List (List ℕ)). length ws ≤ left) (sym (way_is h p k left depth gs)) (chain-length h p k left (depth + 1) (part (at_depth h p depth) gs (at_depth h p depth k))))
  where
    by : (b : Bool) → length (way h p k (suc left) depth gs) ≤ left → length (none_or b (λ xs. block_of (node_of h p (suc left) depth xs) ++ way h p k (suc left) depth xs) gs) ≤ suc left
    by true le = omega arith
    by false le = one-more (node_of h p (suc left) depth gs) (way h p k (suc left) depth gs) left le

-- what stands at the end, where the plan is that of a slot of these rows
pub record BegunAt (left : ℕ) (s : TrieSlot) (plan : List (List ℕ)) : Type 0 where
  pub nodes : AllByRecursion SpellsNode plan
  pub few : length plan ≤ left
  pub planned : (held : List (List ℕ)) → IsPlanned held s plan

pub begun-at : (p : HamtShape) (h : List ℕ → List ℕ) (k : List ℕ) (v : Data) (left depth : ℕ) (gs rows : List (List ℕ × Data)) (o : Option NewHold) (old plan : List (List ℕ)) → IsInOrder gs → length gs ≤ p.bucket
    → rows ≡ put bytewise k v gs → old ≡ [] → PlansSlot h p left depth rows (Ok o) old plan → BegunAt left (slot_seen o) plan
begun-at p h k v left depth gs rows o old plan order small same none plans =
    let below = node_of h p left depth in
    let beneath = planned h p left depth in
    let is : plan ≡ slot_plan p.bucket below beneath rows = plans.1 ∙ ap (λ xs. xs ++ slot_plan p.bucket below beneath rows) none in
    let follows : Follows [] (slot_plan p.bucket below beneath rows) =
    follows_slot (nat_le (length rows) p.bucket) below beneath rows [] (plan-follows h p left depth rows []) (λ node there. node-over h p left depth rows node [] there) in
    let chain : slot_plan p.bucket below beneath (put bytewise k v gs) ≡ reverse (node_and_beneath p.bucket below (way h p k left depth) (put bytewise k v gs)) =
    slot-chain h p k left depth (put bytewise k v gs) (let le = put_few k v gs order in omega (arith, le, small)) (put_found k v gs) in
    let long = chain-length h p k left depth (put bytewise k v gs) in
    subst (λ (bs : List (List ℕ)). BegunAt left (slot_seen o) bs) (sym is) (record {
      nodes = nodes-of [] _ follows;
      few = omega (arith, long, ap length (ap (slot_plan p.bucket below beneath) same ∙ chain) ∙ length-reverse (node_and_beneath p.bucket below (way h p k left depth) (put bytewise k v gs)));
      planned = λ held. record {
        rises = rising-of held [] _ follows;
        link = child-more _ _ (slot_seen o) (λ id among. inr among)
            (child_of p.bucket below beneath rows (slot_seen o) (slot_plan p.bucket below beneath rows) (λ b among. among) (slot_way p.bucket below rows (slot_seen o) (sym plans.0)));
      };
    })

-- ---- no place

full-most : (p : HamtShape) (h : List ℕ → List ℕ) (k : List ℕ) (v : Data) (left depth : ℕ) (gs rows : List (List ℕ × Data)) → IsInOrder gs → length gs ≤ p.bucket → rows ≡ put bytewise k v gs
    → slot_of p.bucket (node_of h p left depth) rows ≡ None → nat_le (length (put bytewise k v (along h p k left depth gs))) p.bucket ≡ false
full-most p h k v zero depth gs rows order small same none =
    let parts = or_parts (nat_le (length rows) p.bucket) (is_some (node_of h p zero depth rows)) (sym (is_some-slot p.bucket (node_of h p zero depth) rows) ∙ ap is_some none) in
    ap (λ xs. nat_le (length xs) p.bucket) (sym same) ∙ parts.0
full-most p h k v (suc left) depth gs rows order small same none =
    let parts = or_parts (nat_le (length rows) p.bucket) (is_some (node_of h p (suc left) depth rows)) (sym (is_some-slot p.bucket (node_of h p (suc left) depth) rows) ∙ ap is_some none) in
    sym (set-exhausts h p left depth gs k v order (few-node h p left depth gs small)) ∙ ap (λ xs. is_some (node_of h p (suc left) depth xs)) (sym same) ∙ parts.1

pub full-at-end : (p : HamtShape) (h : List ℕ → List ℕ) (k : List ℕ) (v : Data) (bs : List (List ℕ)) (last : List TrieSlot) (depth : ℕ) (rows : List (List ℕ × Data)) → IsInOrder (entries_at_end h p k bs last) → length (entries_at_end h p k bs last) ≤ p.bucket
    → depth ≡ length bs + 1 → rows ≡ put bytewise k v (entries_at_end h p k bs last) → slot_of p.bucket (node_of h p (trie_levels p - depth) depth) rows ≡ None → is_full_at_end h p k bs last ≡ true
full-at-end p h k v bs last depth rows order small deep same none =
    let d : ℕ = length bs + 1 in
    let gs : List (List ℕ × Data) = entries_at_end h p k bs last in
    let ends : List (List ℕ × Data) = along h p k (trie_levels p - d) d gs in
    let most = full-most p h k v (trie_levels p - d) d gs rows order small same (ap (λ n. slot_of p.bucket (node_of h p (trie_levels p - n) n) rows) (sym deep) ∙ none) in
    let few : length ends ≤ p.bucket = (let a = length-along h p k (trie_levels p - d) d gs in omega (arith, a, small)) in
    (λ i. not (is_some (sym (find-along h p k (trie_levels p - d) d gs) i)) && nat_le p.bucket (length (sym (along-agree h p k (trie_levels p - d) d gs) i)))
    ∙ full-cond (find bytewise k ends) (length ends) p.bucket few
    ∙ ap (λ m. not (nat_le m p.bucket)) (sym (length-put bytewise total k v ends (in_order-along h p k (trie_levels p - d) d gs order)))
    ∙ ap not most
