-- When a trail has no place for its key.
use Rattle.std.proofs.Common.{◌≡◌, ⊎_elim, ℕ, zero, suc, ◌+◌, ◌-◌, ◌≤◌, ◌<◌, ◌==◌, nat_le, Bool, true, false, cond, not, ◌&&◌, List, [], ◌∷◌, length, get_or, Option, Some, None, is_some, filter, refl, sym, ap, ◌∙◌, subst, arith}
use Rattle.std.proofs.lemmas.Bool.{le-leb, lt-leb, cases_lt}
use Rattle.std.specs.FinMap.{find, put}
use Rattle.std.specs.FinMap.Entries.{length-put}
use Rattle.ild_data.specs.Data.{Data}
use Rattle.ild_data.specs.declared.hamt_shape.HamtShape.{HamtShape}
use Rattle.ild_data.specs.TrieShape.{trie_levels, index}
use Rattle.ild_data.specs.Trie.{TrieSlot, empty, bucket, part, node_of, at_depth, slots_at}
use Rattle.ild_hamt_trie.specs.Collapse.{sized}
use Rattle.ild_data.specs.ByteOrder.{bytewise}
use Rattle.ild_hamt_trie.specs.Way.{along}
use Rattle.ild_hamt_trie.proofs.Parts.{total}
use Rattle.ild_hamt_trie.proofs.Climb.{in_order-along}
use Rattle.ild_hamt_trie.proofs.Node.{set-exhausts, node-slots, length-along}
use Rattle.ild_hamt_trie.proofs.Way.{find-along}
use Rattle.ild_hamt_trie.proofs.Index.{index_below}
use Rattle.ild_hamt_trie.proofs.Slots.{slot_at}
use Rattle.ild_hamt_trie.proofs.Fold.{slot-few}
use Rattle.std.proofs.lemmas.Option.{same_Some}
use Rattle.ild_data.specs.declared.id.BlockId.{BlockId}
use Rattle.ild_cbor.specs.declared.node.Node.{Node}
use Rattle.ild_node_slots.specs.declared.view.NodeView.{NodeView}
use Rattle.ild_node_slots.specs.declared.view.NodeSlot.{NodeSlot}
use Rattle.ild_node_slots.specs.declared.view.NodeSlot.TheVariants as S
use Rattle.ild_node_slots.specs.declared.bucket.Bucket.{Bucket}
use Rattle.ild_node_slots.specs.Views.{HasSlots, HasEntries, ValueIn, bucket_node}
use Rattle.ild_hamt_climb.proofs.Shown.{value-found}
use Rattle.ild_hamt_climb.proofs.Upward.{next-part}
use Rattle.ild_hamt.specs.declared.trail.Trail.{Trail}
use Rattle.ild_hamt_climb.specs.Seen.{IsReadOf, ValueIs}
use Rattle.ild_hamt.specs.Ends.{EndsAt, agree, agreeing}
use Rattle.ild_bulk_walker.specs.Gives.{IsNodeOf}
use Rattle.ild_hamt_climb.specs.Way.{slot_for}
use Rattle.ild_hamt.specs.Descending.{IsTrailOf, trail_blocks}

all_pass : {X : Type 0} (xs : List X) → filter (λ x. true) xs ≡ xs
all_pass [] = refl
all_pass (x ∷ xs) = ap (λ ys. x ∷ ys) (all_pass xs)

first_twice : {X : Type 0} (b : Bool) (g : X → Bool) (x : X) (xs : List X) → filter g (cond b (x ∷ xs) xs) ≡ cond (b && g x) (x ∷ filter g xs) (filter g xs)
first_twice true g x xs = refl
first_twice false g x xs = refl

twice : {X : Type 0} (f g : X → Bool) (xs : List X) → filter g (filter f xs) ≡ filter (λ x. f x && g x) xs
twice f g [] = refl
twice f g (x ∷ xs) = first_twice (f x) g x (filter f xs) ∙ ap (λ ys. cond (f x && g x) (x ∷ ys) ys) (twice f g xs)

pub along-agree : (h : List ℕ → List ℕ) (p : HamtShape) (k : List ℕ) (n depth : ℕ) (es : List (List ℕ × Data)) → along h p k n depth es ≡ filter (λ e. agree p (h e.0) (h k) n depth) es
along-agree h p k zero depth es = sym (all_pass es)
along-agree h p k (suc n) depth es =
    along-agree h p k n (depth + 1) (part (at_depth h p depth) es (at_depth h p depth k))
    ∙ twice (λ e. at_depth h p depth e.0 == at_depth h p depth k) (λ e. agree p (h e.0) (h k) n (depth + 1)) es

pub along-split : (h : List ℕ → List ℕ) (p : HamtShape) (k : List ℕ) (a b depth : ℕ) (es : List (List ℕ × Data))
    → along h p k (a + b) depth es ≡ along h p k b (depth + a) (along h p k a depth es)
along-split h p k zero b depth es = let e : depth + 0 ≡ depth = omega arith in let f : 0 + b ≡ b = omega arith in rw (e, f) refl
along-split h p k (suc a) b depth es =
    let e : suc a + b ≡ suc (a + b) = omega arith in
    let f : depth + suc a ≡ (depth + 1) + a = omega arith in
    rw (e, f) (along-split h p k a b (depth + 1) (part (at_depth h p depth) es (at_depth h p depth k)))

pub full-cond : (o : Option Data) (a most : ℕ) → a ≤ most → (not (is_some o) && nat_le most a) ≡ not (nat_le (cond (is_some o) a (a + 1)) most)
full-cond (Some d) a most le = ap not (sym (le-leb a most le))
full-cond None a most le =
    ⊎_elim
    (λ less. lt-leb most a less ∙ ap not (sym (le-leb (a + 1) most (omega arith))))
    (λ more. le-leb most a more ∙ ap not (sym (lt-leb (a + 1) most (omega arith))))
    (cases_lt a most)

node_there : (h : List ℕ → List ℕ) (p : HamtShape) (left : ℕ) (es : List (List ℕ × Data)) (slots : List TrieSlot) → slots_at h p left 0 es ≡ Some slots → is_some (node_of h p (suc left) 0 es) ≡ true
node_there h p left es slots is = rw (node-slots h p left 0 es, is) refl

pub full-is : (h : List ℕ → List ℕ) (p : HamtShape) (k : List ℕ) (slots : List TrieSlot) (es : List (List ℕ × Data)) (v : Data) (t : Trail) → IsTrailOf h p k slots es t
    → t.exhausted ≡ not (is_some (node_of h p (trie_levels p) 0 (put bytewise k v es)))
full-is h p k slots es v t trail =
    let n : ℕ = length (trail_blocks t) + 1 in
    let rest : ℕ = trie_levels p - n in
    let fs : List (List ℕ × Data) = along h p k n 0 es in
    let gs : List (List ℕ × Data) = along h p k (trie_levels p) 0 es in
    let whole : n + rest ≡ trie_levels p = (let lt = trail.short in omega arith) in
    let zero_n : 0 + n ≡ n = omega arith in
    let split : gs ≡ along h p k rest n fs =
    ap (λ m. along h p k m 0 es) (sym whole) ∙ along-split h p k n rest 0 es ∙ ap (λ d. along h p k rest d fs) zero_n in
    let same : agreeing h p (h k) n fs ≡ gs = sym (split ∙ along-agree h p k rest n fs) in
    let few : length gs ≤ p.bucket = (let a = length-along h p k rest n fs in let b = trail.ends in omega (arith, ap length split)) in
    let found : find bytewise k fs ≡ find bytewise k gs = find-along h p k n 0 es ∙ sym (find-along h p k (trie_levels p) 0 es) in
    let order = in_order-along h p k (trie_levels p) 0 es trail.root.order in
    trail.full
    ∙ (λ i. not (is_some (found i)) && nat_le p.bucket (length (same i)))
    ∙ full-cond (find bytewise k gs) (length gs) p.bucket few
    ∙ ap (λ m. not (nat_le m p.bucket)) (sym (length-put bytewise total k v gs order))
    ∙ sym (ap not (ap (λ m. is_some (node_of h p m 0 (put bytewise k v es))) trail.root.all
    ∙ set-exhausts h p trail.root.left 0 es k v trail.root.order (node_there h p trail.root.left es slots trail.root.node)
    ∙ ap (λ m. nat_le (length (put bytewise k v (along h p k m 0 es))) p.bucket) (sym trail.root.all)))

-- ---- where a way ends

get-any : (xs : List (List ℕ)) (i : ℕ) (d e : List ℕ) → i < length xs → get_or xs i d ≡ get_or xs i e
get-any [] i d e lt = absurd (omega arith)
get-any (x ∷ xs) zero d e lt = refl
get-any (x ∷ xs) (suc i) d e lt = get-any xs i d e (omega arith)

pub node-last : (p : HamtShape) (blocks : List (List ℕ)) (b piece : List ℕ) (slots last : List TrieSlot) (count : ℕ)
    → piece ≡ b → b ≡ get_or blocks (count - 1) b → count ≡ length blocks → 0 < count → EndsAt p slots blocks last → IsNodeOf p piece last
node-last p blocks b piece slots last count read is many some ends =
    let at : IsNodeOf p (get_or blocks (count - 1) []) last = ends.node (count - 1) (omega (arith, many)) in
    let here : get_or blocks (count - 1) [] ≡ piece = get-any blocks (count - 1) [] b (omega (arith, many)) ∙ sym is ∙ sym read in
    subst (λ (x : List ℕ). IsNodeOf p x last) here at

-- the slots of the node in which a trail ends, and what the key's slot there holds
pub record TrailEnd (h : List ℕ → List ℕ) (p : HamtShape) (k : List ℕ) (slots : List TrieSlot) (es : List (List ℕ × Data)) (bs : List (List ℕ)) : Type 0 where
  pub last : List TrieSlot
  pub ends : EndsAt p slots bs last
  pub less : ℕ
  pub left_is : trie_levels p ≡ suc (length bs + less)
  pub stands : slots_at h p less (length bs) (along h p k (length bs) 0 es) ≡ Some last
  pub slot : slot_for p (h k) (length bs) last ≡ sized p.bucket empty (along h p k (length bs + 1) 0 es)

end-slot : (h : List ℕ → List ℕ) (p : HamtShape) (k : List ℕ) (n less : ℕ) (es : List (List ℕ × Data)) (last : List TrieSlot)
    → slots_at h p less n (along h p k n 0 es) ≡ Some last → length (along h p k (n + 1) 0 es) ≤ p.bucket → slot_for p (h k) n last ≡ sized p.bucket empty (along h p k (n + 1) 0 es)
end-slot h p k n less es last is few =
    let fs : List (List ℕ × Data) = part (at_depth h p n) (along h p k n 0 es) (at_depth h p n k) in
    let more = next-part h p k n es in
    let le : length fs ≤ p.bucket = subst (λ (gs : List (List ℕ × Data)). length gs ≤ p.bucket) more few in
    let e : Some (slot_for p (h k) n last) ≡ Some (sized p.bucket empty fs) =
    sym (slot_at p (at_depth h p n) (node_of h p less (n + 1)) (along h p k n 0 es) (at_depth h p n k) last empty (index_below p (h k) n) is)
    ∙ slot-few p.bucket (node_of h p less (n + 1)) fs empty le in
    same_Some (slot_for p (h k) n last) (sized p.bucket empty fs) e ∙ ap (sized p.bucket empty) (sym more)

pub trail-end : (h : List ℕ → List ℕ) (p : HamtShape) (k : List ℕ) (slots : List TrieSlot) (es : List (List ℕ × Data)) (t : Trail) → IsTrailOf h p k slots es t → TrailEnd h p k slots es (trail_blocks t)
trail-end h p k slots es t trail = by_many (length (trail_blocks t)) refl
  where
    by_many : (n : ℕ) → n ≡ length (trail_blocks t) → TrailEnd h p k slots es (trail_blocks t)
    by_many zero is =
        let here : slots_at h p trail.root.left (length (trail_blocks t)) (along h p k (length (trail_blocks t)) 0 es) ≡ Some slots =
        subst (λ (n : ℕ). slots_at h p trail.root.left n (along h p k n 0 es) ≡ Some slots) is trail.root.node in
        record {
          last = slots;
          ends = record { root = λ e. refl; node = λ j e. absurd (omega (arith, is)) };
          less = trail.root.left;
          left_is = omega (arith, is, trail.root.all);
          stands = here;
          slot = end-slot h p k (length (trail_blocks t)) trail.root.left es slots here trail.ends;
        }
    by_many (suc j) is =
        let at = trail.nodes j (omega (arith, is)) in
        let long : j + 1 ≡ length (trail_blocks t) = omega (arith, is) in
        let here : slots_at h p at.less (length (trail_blocks t)) (along h p k (length (trail_blocks t)) 0 es) ≡ Some at.slots =
        subst (λ (n : ℕ). slots_at h p at.less n (along h p k n 0 es) ≡ Some at.slots) long at.stands in
        record {
          last = at.slots;
          ends = record {
            root = λ e. absurd (omega (arith, is, e));
            node = λ i e. subst (λ (m : ℕ). IsNodeOf p (get_or (trail_blocks t) m []) at.slots) (let f : j ≡ i = omega (arith, is, e) in f) at.node;
          };
          less = at.less;
          left_is = omega (arith, long, at.left_is);
          stands = here;
          slot = end-slot h p k (length (trail_blocks t)) at.less es at.slots here trail.ends;
        }

-- what is found in the slot at the end
pub end-bucket : (most : ℕ) (fs : List (List ℕ × Data)) (b : Bucket) → length fs ≤ most → IsReadOf (S.Bucket b) (sized most empty fs) → HasEntries b fs
end-bucket most [] b le is = absurd is
end-bucket most (e ∷ es) b le is =
    subst (λ (c : Bool). IsReadOf (S.Bucket b) (cond c (bucket (e ∷ es)) empty)) (le-leb (length (e ∷ es)) most le) is

pub not-empty : (most : ℕ) (fs : List (List ℕ × Data)) → length fs ≤ most → IsReadOf S.Empty (sized most empty fs) → fs ≡ []
not-empty most [] le is = refl
not-empty most (e ∷ es) le is = absurd (subst (λ (c : Bool). IsReadOf S.Empty (cond c (bucket (e ∷ es)) empty)) (le-leb (length (e ∷ es)) most le) is)

pub not-child : (most : ℕ) (fs : List (List ℕ × Data)) (id : BlockId) → length fs ≤ most → IsReadOf (S.Child id) (sized most empty fs) → fs ≡ []
not-child most [] id le is = refl
not-child most (e ∷ es) id le is = absurd (subst (λ (c : Bool). IsReadOf (S.Child id) (cond c (bucket (e ∷ es)) empty)) (le-leb (length (e ∷ es)) most le) is)

-- the slot that a trail's end reads
pub end-read : (p : HamtShape) (h : List ℕ → List ℕ) (root : NodeView) (k : List ℕ) (slots : List TrieSlot) (es : List (List ℕ × Data)) (t : Trail) (blocks : List (List ℕ)) (x : NodeSlot)
    → HasSlots p root slots → IsTrailOf h p k slots es t → blocks ≡ trail_blocks t
    → ((ss last : List TrieSlot) → HasSlots p root ss → EndsAt p ss blocks last → t.depth ≡ length blocks → t.depth < trie_levels p
    → IsReadOf x (slot_for p t.hash t.depth last))
    → IsReadOf x (sized p.bucket empty (along h p k (length (trail_blocks t) + 1) 0 es))
end-read p h root k slots es t blocks x has trail same reads =
    let end = trail-end h p k slots es t trail in
    let at = reads slots end.last has (subst (λ (bs : List (List ℕ)). EndsAt p slots bs end.last) (sym same) end.ends) (trail.depth ∙ ap length (sym same)) (let lt = trail.short in omega (arith, trail.depth)) in
    subst (λ (s : TrieSlot). IsReadOf x s) ((λ i. slot_for p (trail.hash i) (trail.depth i) end.last) ∙ end.slot) at

pub found-bucket : (h : List ℕ → List ℕ) (p : HamtShape) (k key : List ℕ) (slots : List TrieSlot) (es : List (List ℕ × Data)) (t : Trail) (b : Bucket) (r : Option Node)
    → IsTrailOf h p k slots es t → key ≡ k → IsReadOf (S.Bucket b) (sized p.bucket empty (along h p k (length (trail_blocks t) + 1) 0 es))
    → ((fs : List (List ℕ × Data)) → HasEntries b fs → ValueIn (bucket_node b) fs key (find bytewise key fs) r) → ValueIs (find bytewise k es) r
found-bucket h p k key slots es t b r trail named is finds =
    let fs : List (List ℕ × Data) = along h p k (length (trail_blocks t) + 1) 0 es in
    subst (λ (o : Option Data). ValueIs o r) (ap (λ q. find bytewise q fs) named ∙ find-along h p k (length (trail_blocks t) + 1) 0 es) (value-found (bucket_node b) fs key (find bytewise key fs) r (finds fs (end-bucket p.bucket fs b trail.ends is)))

found-no : (h : List ℕ → List ℕ) (p : HamtShape) (k : List ℕ) (n : ℕ) (es : List (List ℕ × Data)) → along h p k n 0 es ≡ [] → ValueIs (find bytewise k es) None
found-no h p k n es is = subst (λ (o : Option Data). ValueIs o None) (ap (find bytewise k) (sym is) ∙ find-along h p k n 0 es) tt

pub found-empty : (h : List ℕ → List ℕ) (p : HamtShape) (k : List ℕ) (slots : List TrieSlot) (es : List (List ℕ × Data)) (t : Trail)
    → IsTrailOf h p k slots es t → IsReadOf S.Empty (sized p.bucket empty (along h p k (length (trail_blocks t) + 1) 0 es)) → ValueIs (find bytewise k es) None
found-empty h p k slots es t trail is = found-no h p k (length (trail_blocks t) + 1) es (not-empty p.bucket _ trail.ends is)

pub found-child : (h : List ℕ → List ℕ) (p : HamtShape) (k : List ℕ) (slots : List TrieSlot) (es : List (List ℕ × Data)) (t : Trail) (id : BlockId)
    → IsTrailOf h p k slots es t → IsReadOf (S.Child id) (sized p.bucket empty (along h p k (length (trail_blocks t) + 1) 0 es)) → ValueIs (find bytewise k es) None
found-child h p k slots es t id trail is = found-no h p k (length (trail_blocks t) + 1) es (not-child p.bucket _ id trail.ends is)

-- the test of two hashes, level by level
pub agree-step : (p : HamtShape) (a b : List ℕ) (n depth : ℕ) → depth < n → ((index p a depth == index p b depth) && agree p a b (n - (depth + 1)) (depth + 1)) ≡ agree p a b (n - depth) depth
agree-step p a b n depth lt = let e : n - depth ≡ suc (n - (depth + 1)) = omega arith in rw e refl

pub agree-end : (p : HamtShape) (a b : List ℕ) (n depth : ℕ) → n ≤ depth → true ≡ agree p a b (n - depth) depth
agree-end p a b n depth le = let e : n - depth ≡ 0 = omega arith in rw e refl

pub agree-then : (p : HamtShape) (a b : List ℕ) (n depth : ℕ) (t r : Bool) → depth < n → t ≡ (index p a depth == index p b depth) → t ≡ true
    → r ≡ agree p a b (n - (depth + 1)) (depth + 1) → r ≡ agree p a b (n - depth) depth
agree-then p a b n depth t r lt is same rest = rest ∙ ap (λ c. c && agree p a b (n - (depth + 1)) (depth + 1)) (sym same ∙ is) ∙ agree-step p a b n depth lt

pub agree-else : (p : HamtShape) (a b : List ℕ) (n depth : ℕ) (t : Bool) → depth < n → t ≡ (index p a depth == index p b depth) → t ≡ false → t ≡ agree p a b (n - depth) depth
agree-else p a b n depth t lt is no-one = no-one ∙ ap (λ c. c && agree p a b (n - (depth + 1)) (depth + 1)) (sym no-one ∙ is) ∙ agree-step p a b n depth lt
