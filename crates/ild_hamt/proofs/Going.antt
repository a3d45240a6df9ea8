-- The steps of a descent.
use Rattle.std.proofs.Common.{◌≡◌, ◌⊎◌, inl, inr, ⊎_elim, ℕ, suc, ◌+◌, ◌≤◌, ◌<◌, nat_le, true, false, ◌&&◌, is_some, cond, List, [], ◌∷◌, ◌++◌, length, get_or, Option, Some, None, option_map, Result, Ok, Err, refl, sym, ap, ◌∙◌, subst, arith}
use Rattle.std.proofs.lemmas.List.{append-nil, length-append}
use Rattle.std.proofs.lemmas.Bool.{le-leb, leb-true, cases_lt, false≢true, and_parts}
use Rattle.ild_data.specs.ByteOrder.{without}
use Rattle.ild_data.specs.Data.{Data}
use Rattle.ild_data.specs.Spell.{spell, id_of}
use Rattle.ild_cbor.specs.Reading.{fault_of}
use Rattle.ild_cbor.proofs.Blocks.{one_spelling_within, block_again}
use Rattle.ild_edges.specs.Gained.{IsUnder}
use Rattle.ild_edges.specs.Store.{Moment, Later, block_at}
use Rattle.ild_edges.specs.Told.{IfTold}
use Rattle.ild_edges.proofs.Later.{Later-refl, Later-trans}
use Rattle.ild_data.specs.declared.hamt_shape.HamtShape.{HamtShape}
use Rattle.ild_data.specs.TrieShape.{trie_levels}
use Rattle.ild_data.specs.Trie.{TrieSlot, empty, bucket, child, is_child, bucket_entries, node_data, part, at_depth, slots_at}
use Rattle.ild_hamt_trie.specs.Way.{along, way}
use Rattle.ild_hamt_trie.proofs.Way.{way-ends, along-more}
use Rattle.ild_hamt_trie.proofs.Node.{slot-held, few-held}
use Rattle.ild_cbor.specs.declared.why.Why.TheVariants.{Trie}
use Rattle.ild_data.specs.declared.id.BlockId.{BlockId}
use Rattle.ild_node_slots.specs.Views.{HasSlots}
use Rattle.ild_node_slots.specs.declared.view.NodeView.{NodeView}
use Rattle.ild_node_slots.specs.declared.view.NodeSlot.{NodeSlot}
use Rattle.ild_hamt_climb.specs.Seen.{IsReadOf}
use Rattle.ild_hamt.specs.Ends.{EndsAt, hashes_of, is_full}
use Rattle.ild_cbor.specs.declared.why.BlockWhy.{BlockWhy}
use Rattle.ild_cbor.specs.declared.why.BlockWhy.TheVariants.{Missing, Cbor, Shape as NoNode}
use Rattle.ild_node_slots.specs.declared.fault.HamtFault.{HamtFault}
use Rattle.ild_node_slots.specs.declared.fault.HamtFault.TheVariants.{Exhausted, Block, Store, Clash, Size, NoKey, Memory}
use Rattle.ild_hamt.specs.declared.trail.Trail.{Trail}
use Rattle.ild_hamt.specs.Fetching.{Fetches, BlockCause}
use Rattle.ild_edges.specs.Gained.{AreHeld}
use Rattle.ild_bulk_walker.specs.Gives.{IsNodeOf}
use Rattle.ild_bulk_walker.specs.Trees.{HoldsBelow}
use Rattle.ild_hamt_climb.specs.Way.{slot_for, child_id, Leads, IsRootOf}
use Rattle.ild_hamt_climb.specs.Rewriting.{NodeAt}
use Rattle.ild_hamt.specs.Descending.{Reads, DescendAnswer, TrailIs, Descends, IsBadChild, LinksBeyond, trail_blocks}
use Rattle.ild_hamt.proofs.Leading.{leads-more, leads-end, leads-node, held-more, leads-way, child-node, Child, held-node}

-- ---- where the trie is held

pub told : {A : Type 0} (o : Option A) (a : A) (P : A → Type 0) → o ≡ Some a → IfTold o P → P a
told None a P is t = absurd cc
told (Some b) a P is t = let same : b ≡ a = cc in subst P same t

no-missing : (o : Option (List ℕ)) (b : List ℕ) → o ≡ Some b → o ≡ None → ⊥
no-missing o b one none = let e : Some b ≡ None = sym one ∙ none in absurd cc

-- a block that is held under its id is refused by no cause
no-cause : (p : HamtShape) (m : Moment) (held : List (List ℕ)) (id : List ℕ) (slots : List TrieSlot) (why : BlockWhy) (n : Moment)
    → m.blocks ≡ Some held → IsNodeOf p (spell (node_data slots)) slots → block_at held id ≡ Some (spell (node_data slots)) → BlockCause p m id why n → ⊥
no-cause p m held id slots Missing n tells node here cause =
    no-missing (block_at held id) (spell (node_data slots)) here (told m.blocks held (λ blocks. block_at blocks id ≡ None) tells cause.0)
no-cause p m held id slots (Cbor fault) n tells node here cause =
    let at : block_at held id ≡ Some cause.block = told m.blocks held (λ blocks. block_at blocks id ≡ Some cause.block) tells cause.at.held in
    let same : cause.block ≡ spell (node_data slots) = (let e : Some cause.block ≡ Some (spell (node_data slots)) = sym at ∙ here in cc) in
    let none : None ≡ Some fault = sym (block_again (spell (node_data slots)) (node_data slots) node.is) ∙ ap fault_of (sym same) ∙ cause.wrong in
    absurd cc
no-cause p m held id slots (NoNode why) n tells node here cause =
    let at : block_at held id ≡ Some cause.block = told m.blocks held (λ blocks. block_at blocks id ≡ Some cause.block) tells cause.at.held in
    let same : cause.block ≡ spell (node_data slots) = (let e : Some cause.block ≡ Some (spell (node_data slots)) = sym at ∙ here in cc) in
    cause.wrong.1.other slots node.form ((one_spelling_within cause.wrong.1.data_in (node_data slots) [] [] cause.wrong.1.is.within node.is.within
    (append-nil (spell cause.wrong.1.data_in) ∙ sym cause.wrong.1.is.spelled ∙ same ∙ sym (append-nil (spell (node_data slots))))).0)

pub record OnTrie (h : List ℕ → List ℕ) (p : HamtShape) (k : List ℕ) (held : List (List ℕ)) (es : List (List ℕ × Data)) (bs : List (List ℕ)) (last : List TrieSlot) : Type 0 where
  pub less : ℕ
  pub many : trie_levels p ≡ suc (length bs + less)
  pub slots : slots_at h p less (length bs) (along h p k (length bs) 0 es) ≡ Some last
  pub way_is : way h p k (trie_levels p) 0 es ≡ bs ++ way h p k (suc less) (length bs) (along h p k (length bs) 0 es)
  pub below : HoldsBelow h p held (suc less) (length bs) (along h p k (length bs) 0 es)

pub on-trie : (h : List ℕ → List ℕ) (p : HamtShape) (k : List ℕ) (held : List (List ℕ)) (es : List (List ℕ × Data)) (slots : List TrieSlot) (bs : List (List ℕ)) (last : List TrieSlot)
    → 3 ≤ p.width → IsRootOf h p es slots → HoldsBelow h p held (trie_levels p) 0 es → Leads p (h k) 0 slots bs last → AreHeld bs held → OnTrie h p k held es bs last
on-trie h p k held es slots bs last wide root below leads all =
    let r = leads-way h p k held root.left 0 es slots bs last wide root.node (subst (λ (n : ℕ). HoldsBelow h p held n 0 es) root.all below) leads all in
    let e : 0 + length bs ≡ length bs = omega arith in
    record {
      less = r.less;
      many = omega (arith, root.all, r.levels);
      slots = subst (λ (d : ℕ). slots_at h p r.less d (along h p k (length bs) 0 es) ≡ Some last) e r.slots;
      way_is = ap (λ n. way h p k n 0 es) root.all ∙ r.way ∙ ap (λ d. bs ++ way h p k (suc r.less) d (along h p k (length bs) 0 es)) e;
      below = subst (λ (d : ℕ). HoldsBelow h p held (suc r.less) d (along h p k (length bs) 0 es)) e r.below;
    }

-- the way ends where no child stands
pub way-done : (h : List ℕ → List ℕ) (p : HamtShape) (k : List ℕ) (held : List (List ℕ)) (es : List (List ℕ × Data)) (bs : List (List ℕ)) (last : List TrieSlot)
    → OnTrie h p k held es bs last → is_child (slot_for p (h k) (length bs) last) ≡ false → way h p k (trie_levels p) 0 es ≡ bs
way-done h p k held es bs last on ends =
    on.way_is ∙ ap (λ xs. bs ++ xs) (way-ends h p k on.less (length bs) (along h p k (length bs) 0 es) last on.slots ends) ∙ append-nil bs

pub next-child : (h : List ℕ → List ℕ) (p : HamtShape) (k : List ℕ) (held : List (List ℕ)) (es : List (List ℕ × Data)) (bs : List (List ℕ)) (last : List TrieSlot) (id : List ℕ)
    → (on : OnTrie h p k held es bs last) → slot_for p (h k) (length bs) last ≡ child id → Child h p k held on.less (length bs) (along h p k (length bs) 0 es) id
next-child h p k held es bs last id on is = child-node h p k held on.less (length bs) (along h p k (length bs) 0 es) last id on.slots on.below is

count : (h : List ℕ → List ℕ) (p : HamtShape) (k : List ℕ) (held : List (List ℕ)) (es : List (List ℕ × Data)) (bs : List (List ℕ)) (last : List TrieSlot) (s : TrieSlot)
    → OnTrie h p k held es bs last → s ≡ slot_for p (h k) (length bs) last → length bs + cond (is_child s) 1 0 ≤ length (way h p k (trie_levels p) 0 es)
count h p k held es bs last empty on is = omega (arith, ap length (way-done h p k held es bs last on (ap is_child (sym is))))
count h p k held es bs last (bucket fs) on is = omega (arith, ap length (way-done h p k held es bs last on (ap is_child (sym is))))
count h p k held es bs last (child id) on is =
    let c = next-child h p k held es bs last id on (sym is) in
    let rest : List (List ℕ) = way h p k on.less (length bs + 1) (part (at_depth h p (length bs)) (along h p k (length bs) 0 es) (at_depth h p (length bs) k)) in
    omega (arith, ap length (on.way_is ∙ ap (λ xs. bs ++ xs) c.way), length-append bs (spell (node_data c.slots) ∷ rest))

child-there : (s : TrieSlot) → is_child s ≡ true → (id : List ℕ) × (s ≡ child id)
child-there empty is = absurd cc
child-there (bucket es) is = absurd cc
child-there (child id) is = (id, refl)

refused : (h : List ℕ → List ℕ) (p : HamtShape) (k : List ℕ) (held : List (List ℕ)) (es : List (List ℕ × Data)) (m : Moment) (bs : List (List ℕ)) (last : List TrieSlot) (id : List ℕ) (why : BlockWhy) (n : Moment)
    → 3 ≤ p.width → m.blocks ≡ Some held → OnTrie h p k held es bs last → IsBadChild p (h k) m bs last id why n → ⊥
refused h p k held es m bs last id why n wide tells on bad =
    let fs : List (List ℕ × Data) = part (at_depth h p (length bs)) (along h p k (length bs) 0 es) (at_depth h p (length bs) k) in
    let c = next-child h p k held es bs last id on bad.link in
    no-cause p m held id c.slots why n tells (held-node h p held c.deeper (length bs + 1) fs c.slots wide c.stands c.node) (ap (block_at held) c.named ∙ c.node.here) bad.cause

none-beyond : (h : List ℕ → List ℕ) (p : HamtShape) (k : List ℕ) (held : List (List ℕ)) (es : List (List ℕ × Data)) (bs : List (List ℕ)) (last : List TrieSlot) (id : List ℕ)
    → OnTrie h p k held es bs last → LinksBeyond p (h k) bs last id → ⊥
none-beyond h p k held es bs last id on beyond =
    let there = child-there (slot_for p (h k) (length bs) last) beyond.link in
    let c = next-child h p k held es bs last there.0 on there.1 in
    absurd (let le = beyond.none_left in omega (arith, on.many, c.left_is))

-- the slot in which the way ends holds the entries that agree with the key so far
end-held : (h : List ℕ → List ℕ) (p : HamtShape) (k : List ℕ) (held_blocks : List (List ℕ)) (es : List (List ℕ × Data)) (bs : List (List ℕ)) (last : List TrieSlot)
    → OnTrie h p k held_blocks es bs last → is_child (slot_for p (h k) (length bs) last) ≡ false
    → (along h p k (length bs + 1) 0 es ≡ bucket_entries (slot_for p (h k) (length bs) last)) × (length (along h p k (length bs + 1) 0 es) ≤ p.bucket)
end-held h p k held_blocks es bs last on ends =
    let fs : List (List ℕ × Data) = along h p k (length bs) 0 es in
    let zero_bs : 0 + length bs ≡ length bs = omega arith in
    let more : along h p k (length bs + 1) 0 es ≡ part (at_depth h p (length bs)) fs (at_depth h p (length bs) k) =
    subst (λ (d : ℕ). along h p k (length bs + 1) 0 es ≡ part (at_depth h p d) fs (at_depth h p d k)) zero_bs (along-more h p k (length bs) 0 es) in (
      more ∙ slot-held h p on.less (length bs) fs k last on.slots ends,
      subst (λ (gs : List (List ℕ × Data)). length gs ≤ p.bucket) (sym more) (few-held h p on.less (length bs) fs k last on.slots ends),
    )

trail-is : (h : List ℕ → List ℕ) (p : HamtShape) (k : List ℕ) (held_blocks : List (List ℕ)) (slots : List TrieSlot) (es : List (List ℕ × Data)) (m : Moment) (bs : List (List ℕ)) (last : List TrieSlot) (result : Result Trail HamtFault) (n : Moment)
    → 3 ≤ p.width → m.blocks ≡ Some held_blocks → IsRootOf h p es slots → length bs < trie_levels p
    → ((j : ℕ) → j < length bs → NodeAt h p k (trie_levels p) es j (get_or bs j []))
    → OnTrie h p k held_blocks es bs last → DescendAnswer h p k m bs last result n → TrailIs h p k slots es result
trail-is h p k held_blocks slots es m bs last (Ok t) n wide tells root short nodes on answer =
    let e : length bs ≡ length (trail_blocks t) = ap length (sym answer.blocks) in
    let ended = end-held h p k held_blocks es bs last on answer.ends in
    record {
      shape = answer.shape;
      root = root;
      key = answer.key;
      hash = answer.hash;
      depth = answer.depth ∙ e;
      short = omega arith;
      way = answer.blocks ∙ sym (way-done h p k held_blocks es bs last on answer.ends);
      nodes = subst (λ (cs : List (List ℕ)). (j : ℕ) → j < length cs → NodeAt h p k (trie_levels p) es j (get_or cs j [])) (sym answer.blocks) nodes;
      ends = subst (λ (d : ℕ). length (along h p k (d + 1) 0 es) ≤ p.bucket) e ended.1;
      full = answer.full ∙ ap (is_full h p k (h k) (length bs + 1)) (sym ended.0)
          ∙ ap (λ d. is_full h p k (h k) (d + 1) (along h p k (d + 1) 0 es)) e;
      others = answer.others ∙ ap (λ gs. hashes_of h (without k gs)) (sym ended.0) ∙ ap (λ d. hashes_of h (without k (along h p k (d + 1) 0 es))) e;
    }
trail-is h p k held_blocks slots es m bs last (Err (Block id why)) n wide tells root short nodes on answer =
    ⊎_elim (λ bad. refused h p k held_blocks es m bs last id.0 why n wide tells on bad) (λ beyond. none-beyond h p k held_blocks es bs last id.0 on beyond.1) answer
trail-is h p k held_blocks slots es m bs last (Err Store) n wide tells root short nodes on answer = tt
trail-is h p k held_blocks slots es m bs last (Err Memory) n wide tells root short nodes on answer = tt
trail-is h p k held_blocks slots es m bs last (Err Exhausted) n wide tells root short nodes on answer = absurd answer
trail-is h p k held_blocks slots es m bs last (Err (Clash id kept new)) n wide tells root short nodes on answer = absurd answer
trail-is h p k held_blocks slots es m bs last (Err Size) n wide tells root short nodes on answer = absurd answer
trail-is h p k held_blocks slots es m bs last (Err NoKey) n wide tells root short nodes on answer = absurd answer

nodes-on : (h : List ℕ → List ℕ) (p : HamtShape) (k : List ℕ) (held_blocks : List (List ℕ)) (es : List (List ℕ × Data)) (slots : List TrieSlot) (bs : List (List ℕ)) (last : List TrieSlot)
    → 3 ≤ p.width → IsRootOf h p es slots → HoldsBelow h p held_blocks (trie_levels p) 0 es → Leads p (h k) 0 slots bs last → AreHeld bs held_blocks
    → (j : ℕ) → j < length bs → NodeAt h p k (trie_levels p) es j (get_or bs j [])
nodes-on h p k held_blocks es slots bs last wide root below leads all j lt =
    let r = leads-node h p k held_blocks root.left 0 es slots bs last j wide root.node (subst (λ (n : ℕ). HoldsBelow h p held_blocks n 0 es) root.all below) leads all lt in
    let e : 0 + (j + 1) ≡ j + 1 = omega arith in
    record {
      slots = r.slots;
      node = r.node;
      less = r.less;
      left_is = omega (arith, root.all, r.left_is);
      stands = subst (λ (d : ℕ). slots_at h p r.less d (along h p k (j + 1) 0 es) ≡ Some r.slots) e r.stands;
      many = r.many;
    }

pub descends : (h : List ℕ → List ℕ) (p : HamtShape) (k : List ℕ) (slots : List TrieSlot) (m : Moment) (bs : List (List ℕ)) (last : List TrieSlot) (result : Result Trail HamtFault) (n : Moment)
    → 3 ≤ p.width → Reads p (h k) slots m bs last n → DescendAnswer h p k m bs last result n → Descends h p k slots m result n
descends h p k slots m bs last result n wide reads answer = record {
  bs = bs;
  last = last;
  reads = reads;
  answer = answer;
  trie = λ es held_blocks root tells below.
      let all = told m.blocks held_blocks (AreHeld bs) tells reads.held in
      let on = on-trie h p k held_blocks es slots bs last wide root below reads.leads all in
      record {
        trail = trail-is h p k held_blocks slots es m bs last result n wide tells root reads.short (nodes-on h p k held_blocks es slots bs last wide root below reads.leads all) on answer;
        gets = let up = reads.gets in omega (arith, count h p k held_blocks es bs last (slot_for p (h k) (length bs) last) on refl);
      };
}

-- ---- the loop

-- what was read so far, and where it leads
pub record Going (p : HamtShape) (hash : List ℕ) (slots : List TrieSlot) (m : Moment) (bs : List (List ℕ)) (depth : ℕ) (next : Option (List ℕ)) (n : Moment) : Type 0 where
  pub last : List TrieSlot
  pub reads : Reads p hash slots m bs last n
  pub exact : n.gets ≤ m.gets + length bs
  pub next_is : next ≡ child_id (slot_for p hash (length bs) last)
  pub depth_is : depth ≡ length bs

child-of : (s : TrieSlot) (id : List ℕ) → Some id ≡ child_id s → s ≡ child id
child-of empty id is = absurd cc
child-of (bucket es) id is = absurd cc
child-of (child i) id is = let same : i ≡ id = cc in ap child same

no-child : (s : TrieSlot) → None ≡ child_id s → is_child s ≡ false
no-child empty is = refl
no-child (bucket es) is = refl
no-child (child i) is = absurd cc

told-all : (o : Option (List (List ℕ))) → IfTold o (AreHeld [])
told-all None = tt
told-all (Some a) = tt

pub going-start : (p : HamtShape) (hash : List ℕ) (slots : List TrieSlot) (m : Moment) (bs : List (List ℕ)) (depth : ℕ) (next : Option (List ℕ))
    → 0 < trie_levels p → bs ≡ [] → depth ≡ 0 → next ≡ child_id (slot_for p hash 0 slots) → Going p hash slots m bs depth next m
going-start p hash slots m bs depth next some none at is =
    let long : length bs ≡ 0 = ap length none in
    record {
      last = slots;
      reads = record {
        leads = subst (λ (cs : List (List ℕ)). Leads p hash 0 slots cs slots) (sym none) refl;
        short = omega arith;
        held = subst (λ (cs : List (List ℕ)). IfTold m.blocks (AreHeld cs)) (sym none) (told-all m.blocks);
        gets = omega arith;
        deep = λ le. omega arith;
        later = Later-refl m;
        blocks = refl;
        given = refl;
        puts = refl;
      };
      exact = omega arith;
      next_is = is ∙ ap (λ d. child_id (slot_for p hash d slots)) (sym long);
      depth_is = at ∙ sym long;
    }

told-push : (o : Option (List (List ℕ))) (bs : List (List ℕ)) (b : List ℕ) → IfTold o (AreHeld bs) → IfTold o (λ blocks. block_at blocks (id_of b) ≡ Some b) → IfTold o (AreHeld (bs ++ b ∷ []))
told-push None bs b all is = tt
told-push (Some a) bs b all is = held-more bs a b all is

-- a moment with the same blocks
block-back : (m k : Moment) (id b : List ℕ) → k.blocks ≡ m.blocks → IsUnder k.blocks id b → IsUnder m.blocks id b
block-back m k id b same at = record { named = at.named; held = subst (λ (o : Option (List (List ℕ))). IfTold o (λ blocks. block_at blocks id ≡ Some b)) same at.held }

cause-back : (p : HamtShape) (m k : Moment) (id : List ℕ) (why : BlockWhy) (n : Moment) → k.blocks ≡ m.blocks → m.lacks ≤ k.lacks → BlockCause p k id why n → BlockCause p m id why n
cause-back p m k id Missing n same le cause =
    (subst (λ (o : Option (List (List ℕ))). IfTold o (λ blocks. block_at blocks id ≡ None)) same cause.0, let rose = cause.1 in omega (arith, rose))
cause-back p m k id (Cbor fault) n same le cause = record { block = cause.block; at = block-back m k id cause.block same cause.at; wrong = cause.wrong }
cause-back p m k id (NoNode why) n same le cause = record { block = cause.block; at = block-back m k id cause.block same cause.at; wrong = cause.wrong }

-- the child that is read next
going-child : (p : HamtShape) (hash : List ℕ) (slots : List TrieSlot) (m : Moment) (bs : List (List ℕ)) (depth : ℕ) (id : List ℕ) (k : Moment)
    → (g : Going p hash slots m bs depth (Some id) k) → slot_for p hash (length bs) g.last ≡ child id
going-child p hash slots m bs depth id k g = child-of (slot_for p hash (length bs) g.last) id g.next_is

one-more : (s : TrieSlot) (id : List ℕ) (a : ℕ) → s ≡ child id → a + 1 ≤ a + cond (is_child s) 1 0
one-more empty id a is = absurd cc
one-more (bucket es) id a is = absurd cc
one-more (child i) id a is = omega arith

-- a get of it, whatever it answers
going-read : (p : HamtShape) (hash : List ℕ) (slots : List TrieSlot) (m : Moment) (bs : List (List ℕ)) (depth : ℕ) (id : List ℕ) (k : Moment) (r : Result (List ℕ) HamtFault) (n : Moment)
    → (g : Going p hash slots m bs depth (Some id) k) → depth + 1 < trie_levels p → Fetches p k id r n → Reads p hash slots m bs g.last n
going-read p hash slots m bs depth id k r n g room f =
    let one = one-more (slot_for p hash (length bs) g.last) id (m.gets + length bs) (going-child p hash slots m bs depth id k g) in
    record {
      leads = g.reads.leads;
      short = g.reads.short;
      held = g.reads.held;
      gets = let a = g.exact in let b = f.gets in omega (arith, one);
      deep = λ le. absurd (omega (arith, le, room, g.depth_is));
      later = Later-trans m k n g.reads.later f.later;
      blocks = f.blocks ∙ g.reads.blocks;
      given = f.given ∙ g.reads.given;
      puts = f.puts ∙ g.reads.puts;
    }

pub going-more : (p : HamtShape) (hash : List ℕ) (slots : List TrieSlot) (m : Moment) (bs : List (List ℕ)) (depth : ℕ) (id : List ℕ) (k : Moment) (b : List ℕ) (n : Moment)
    (cs : List (List ℕ)) (deeper : ℕ) (next : Option (List ℕ))
    → Going p hash slots m bs depth (Some id) k → Fetches p k id (Ok b) n → deeper ≡ depth + 1 → deeper < trie_levels p
    → ((ss : List TrieSlot) → IsNodeOf p b ss → next ≡ child_id (slot_for p hash deeper ss)) → cs ≡ bs ++ b ∷ [] → Going p hash slots m cs deeper next n
going-more p hash slots m bs depth id k b n cs deeper next g f up lt looks pushes =
    let at = f.answer.0 in
    let node : IsNodeOf p b f.answer.1.slots = record { is = f.answer.1.is; form = f.answer.1.form } in
    let long : length cs ≡ length bs + 1 = ap length pushes ∙ length-append bs (b ∷ []) in
    let here : deeper ≡ length cs = omega (arith, up, g.depth_is, long) in
    let zero_bs : 0 + length bs ≡ length bs = omega arith in
    let leads = leads-more p hash 0 slots bs g.last b f.answer.1.slots g.reads.leads
    (ap (λ d. slot_for p hash d g.last) zero_bs ∙ going-child p hash slots m bs depth id k g ∙ ap child (sym at.named)) node in
    let there = block-back m k id b g.reads.blocks at in
    let held = told-push m.blocks bs b g.reads.held (subst (λ (i : List ℕ). IfTold m.blocks (λ blocks. block_at blocks i ≡ Some b)) (sym at.named) there.held) in
    let gets : n.gets ≤ m.gets + length cs = (let a = g.exact in let c = f.gets in omega (arith, long)) in
    record {
      last = f.answer.1.slots;
      reads = record {
        leads = subst (λ (xs : List (List ℕ)). Leads p hash 0 slots xs f.answer.1.slots) (sym pushes) leads;
        short = omega arith;
        held = subst (λ (xs : List (List ℕ)). IfTold m.blocks (AreHeld xs)) (sym pushes) held;
        gets = omega arith;
        deep = λ le. gets;
        later = Later-trans m k n g.reads.later f.later;
        blocks = f.blocks ∙ g.reads.blocks;
        given = f.given ∙ g.reads.given;
        puts = f.puts ∙ g.reads.puts;
      };
      exact = gets;
      next_is = looks f.answer.1.slots node ∙ ap (λ d. child_id (slot_for p hash d f.answer.1.slots)) here;
      depth_is = here;
    }

stopped : (h : List ℕ → List ℕ) (p : HamtShape) (key : List ℕ) (m k : Moment) (bs : List (List ℕ)) (last : List TrieSlot) (id : List ℕ) (e : HamtFault) (n : Moment)
    → slot_for p (h key) (length bs) last ≡ child id → length bs + 1 < trie_levels p → k.blocks ≡ m.blocks → Later m k → Fetches p k id (Err e) n → DescendAnswer h p key m bs last (Err e) n
stopped h p key m k bs last id (Block i why) n is room same later f =
    let at : id ≡ i.0 = sym f.answer.0 in
    inl (record {
      link = is ∙ ap child at;
      room = room;
      cause = subst (λ (x : List ℕ). BlockCause p m x why n) at (cause-back p m k id why n same later.lacks f.answer.1);
    })
stopped h p key m k bs last id Store n is room same later f = let a = f.answer in let b = later.faults in omega (arith, a)
stopped h p key m k bs last id Memory n is room same later f = tt
stopped h p key m k bs last id Exhausted n is room same later f = absurd f.answer
stopped h p key m k bs last id (Clash at kept new) n is room same later f = absurd f.answer
stopped h p key m k bs last id Size n is room same later f = absurd f.answer
stopped h p key m k bs last id NoKey n is room same later f = absurd f.answer

-- how it ends
pub going-stopped : (h : List ℕ → List ℕ) (p : HamtShape) (key hash : List ℕ) (slots : List TrieSlot) (m : Moment) (bs : List (List ℕ)) (depth : ℕ) (id : List ℕ) (k : Moment) (e : HamtFault) (n : Moment)
    → 3 ≤ p.width → hash ≡ h key → Going p hash slots m bs depth (Some id) k → depth + 1 < trie_levels p → Fetches p k id (Err e) n → Descends h p key slots m (Err e) n
going-stopped h p key hash slots m bs depth id k e n wide same going room f =
    let g = subst (λ (x : List ℕ). Going p x slots m bs depth (Some id) k) same going in
    descends h p key slots m bs g.last (Err e) n wide (going-read p (h key) slots m bs depth id k (Err e) n g room f)
    (stopped h p key m k bs g.last id e n (going-child p (h key) slots m bs depth id k g) (omega (arith, room, g.depth_is)) g.reads.blocks g.reads.later f)

last-of : (bs cs : List (List ℕ)) (b : List ℕ) → cs ≡ bs ++ b ∷ [] → (at : ℕ) × (suc at ≡ length cs) × (get_or cs at [] ≡ b)
last-of bs cs b is = (length bs, omega (arith, ap length is, length-append bs (b ∷ [])), ap (λ xs. get_or xs (length bs) []) is ∙ get-last bs b)
  where
    get-last : (bs : List (List ℕ)) (b : List ℕ) → get_or (bs ++ b ∷ []) (length bs) [] ≡ b
    get-last [] b = refl
    get-last (c ∷ bs) b = get-last bs b

some-child : (o : Option BlockId) (s : TrieSlot) → option_map (λ (id : BlockId). id.0) o ≡ child_id s → is_some o ≡ true → is_child s ≡ true
some-child None s is some = absurd cc
some-child (Some id) empty is some = absurd cc
some-child (Some id) (bucket es) is some = absurd cc
some-child (Some id) (child c) is some = refl

-- a level is left for the child that is read next
pub room-next : (p : HamtShape) (o : Option BlockId) (depth : ℕ) → (is_some o && nat_le (trie_levels p) (depth + 1)) ≡ false → is_some o ≡ true → depth + 1 < trie_levels p
room-next p None depth not some = absurd cc
room-next p (Some id) depth not some = lt_of (cases_lt (depth + 1) (trie_levels p))
  where
    lt_of : (depth + 1 < trie_levels p) ⊎ (trie_levels p ≤ depth + 1) → depth + 1 < trie_levels p
    lt_of c = ⊎_elim (λ lt. lt) (λ le. absurd (false≢true (sym not ∙ le-leb (trie_levels p) (depth + 1) le))) c

pub going-beyond : (h : List ℕ → List ℕ) (p : HamtShape) (key hash : List ℕ) (slots : List TrieSlot) (m : Moment) (bs : List (List ℕ)) (depth : ℕ) (id : BlockId) (k : Moment) (b : List ℕ) (n : Moment)
    (next : Option BlockId) (deeper : ℕ) → 3 ≤ p.width → hash ≡ h key → Going p hash slots m bs depth (Some id.0) k → Fetches p k id.0 (Ok b) n → deeper ≡ depth + 1 → deeper < trie_levels p
    → ((ss : List TrieSlot) → IsNodeOf p b ss → option_map (λ (i : BlockId). i.0) next ≡ child_id (slot_for p hash deeper ss))
    → (is_some next && nat_le (trie_levels p) (deeper + 1)) ≡ true → Descends h p key slots m (Err (Block id (NoNode Trie))) n
going-beyond h p key hash slots m bs depth id k b n next deeper wide same going f up lt looks beyond =
    let more = going-more p hash slots m bs depth id.0 k b n (bs ++ b ∷ []) deeper (option_map (λ (i : BlockId). i.0) next) going f up lt looks refl in
    let g = subst (λ (x : List ℕ). Going p x slots m (bs ++ b ∷ []) deeper (option_map (λ (i : BlockId). i.0) next) n) same more in
    let end = last-of bs (bs ++ b ∷ []) b refl in
    let parts = and_parts (is_some next) (nat_le (trie_levels p) (deeper + 1)) beyond in
    let le : trie_levels p ≤ deeper + 1 = leb-true (trie_levels p) (deeper + 1) parts.1 in
    descends h p key slots m (bs ++ b ∷ []) g.last (Err (Block id (NoNode Trie))) n wide g.reads
    (inr (
      refl,
      record {
        at = end.0;
        is_last = end.1;
        named = ap id_of end.2 ∙ f.answer.0.named;
        none_left = omega (arith, le, g.depth_is);
        link = some-child next (slot_for p (h key) (length (bs ++ b ∷ [])) g.last) g.next_is parts.0;
      },
    ))

-- no memory for a block that was read
pub going-full : (h : List ℕ → List ℕ) (p : HamtShape) (key hash : List ℕ) (slots : List TrieSlot) (m : Moment) (bs : List (List ℕ)) (depth : ℕ) (id : List ℕ) (k : Moment) (b : List ℕ) (n : Moment)
    → 3 ≤ p.width → hash ≡ h key → Going p hash slots m bs depth (Some id) k → depth + 1 < trie_levels p → Fetches p k id (Ok b) n → Descends h p key slots m (Err Memory) n
going-full h p key hash slots m bs depth id k b n wide same going room f =
    let g = subst (λ (x : List ℕ). Going p x slots m bs depth (Some id) k) same going in
    descends h p key slots m bs g.last (Err Memory) n wide (going-read p (h key) slots m bs depth id k (Ok b) n g room f) tt

pub going-unnamed : (h : List ℕ → List ℕ) (p : HamtShape) (key hash : List ℕ) (slots : List TrieSlot) (m : Moment) (bs : List (List ℕ)) (depth : ℕ) (n : Moment)
    → 3 ≤ p.width → hash ≡ h key → Going p hash slots m bs depth None n → Descends h p key slots m (Err Memory) n
going-unnamed h p key hash slots m bs depth n wide same going =
    let g = subst (λ (x : List ℕ). Going p x slots m bs depth None n) same going in
    descends h p key slots m bs g.last (Err Memory) n wide g.reads tt

pub going-done : (h : List ℕ → List ℕ) (p : HamtShape) (key hash : List ℕ) (slots : List TrieSlot) (m : Moment) (depth : ℕ) (t : Trail) (n : Moment) (x : NodeSlot)
    → 3 ≤ p.width → hash ≡ h key → Going p hash slots m (trail_blocks t) depth None n → t.shape ≡ p → t.key ≡ key → t.hash ≡ hash → t.depth ≡ depth
    → ((last : List TrieSlot) → EndsAt p slots (trail_blocks t) last → depth ≡ length (trail_blocks t) → depth < trie_levels p → IsReadOf x (slot_for p hash depth last))
    → ((y : TrieSlot) → IsReadOf x y → t.exhausted ≡ is_full h p key hash (depth + 1) (bucket_entries y))
    → ((y : TrieSlot) → IsReadOf x y → t.others.items ≡ hashes_of h (without key (bucket_entries y)))
    → Descends h p key slots m (Ok t) n
going-done h p key hash slots m depth t n x wide same going shaped named hashed deep stands full others =
    let g = subst (λ (x : List ℕ). Going p x slots m (trail_blocks t) depth None n) same going in
    let at = stands g.last (leads-end p (h key) 0 slots (trail_blocks t) g.last g.reads.leads) g.depth_is (let lt = g.reads.short in omega (arith, g.depth_is)) in
    descends h p key slots m (trail_blocks t) g.last (Ok t) n wide g.reads
    (record {
      shape = shaped;
      blocks = refl;
      key = named;
      hash = hashed ∙ same;
      depth = deep ∙ g.depth_is;
      ends = no-child (slot_for p (h key) (length (trail_blocks t)) g.last) g.next_is;
      full = full (slot_for p hash depth g.last) at
          ∙ (λ i. is_full h p key (same i) (g.depth_is i + 1) (bucket_entries (slot_for p (same i) (g.depth_is i) g.last)));
      others = others (slot_for p hash depth g.last) at ∙ (λ i. hashes_of h (without key (bucket_entries (slot_for p (same i) (g.depth_is i) g.last))));
    })

pub stands-at : (p : HamtShape) (root : NodeView) (x : NodeSlot) (hash : List ℕ) (depth : ℕ) (slots : List TrieSlot) (cs bs : List (List ℕ))
    → cs ≡ bs → HasSlots p root slots
    → ((ss last : List TrieSlot) → HasSlots p root ss → EndsAt p ss cs last → depth ≡ length cs → depth < trie_levels p → IsReadOf x (slot_for p hash depth last))
    → (last : List TrieSlot) → EndsAt p slots bs last → depth ≡ length bs → depth < trie_levels p → IsReadOf x (slot_for p hash depth last)
stands-at p root x hash depth slots cs bs read has reads =
    subst (λ (ds : List (List ℕ)). (last : List TrieSlot) → EndsAt p slots ds last → depth ≡ length ds → depth < trie_levels p → IsReadOf x (slot_for p hash depth last)) read (λ last. reads slots last has)
