-- Blocks that lead along a hash are the nodes on the way.
use Rattle.std.proofs.Common.{◌≡◌, ℕ, zero, suc, ◌+◌, ◌≤◌, ◌<◌, List, [], ◌∷◌, ◌++◌, length, map, ◌^◌, get_or, Some, None, refl, sym, ap, ◌∙◌, subst, arith}
use Rattle.std.proofs.lemmas.List.{append-nil}
use Rattle.ild_data.specs.Data.{Data}
use Rattle.ild_data.specs.Spell.{spell, id_of}
use Rattle.ild_cbor.proofs.Blocks.{one_spelling_within}
use Rattle.ild_edges.specs.Store.{block_at}
use Rattle.ild_data.specs.declared.hamt_shape.HamtShape.{HamtShape}
use Rattle.ild_data.specs.Trie.{TrieSlot, child, node_data, node_of, slot_of, part, at_depth, slots_at}
use Rattle.ild_hamt_trie.specs.Way.{along, way}
use Rattle.std.specs.List.{range_with_len}
use Rattle.std.proofs.lemmas.List.FromFn.{length-map-range_with_len}
use Rattle.ild_hamt_trie.proofs.Bits.{same_node}
use Rattle.ild_hamt_trie.proofs.Slots.{all_some-length}
use Rattle.ild_hamt_trie.proofs.Node.{slot-child, slots-node, no_node}
use Rattle.ild_hamt_trie.proofs.Way.{way-child}
use Rattle.ild_node_slots.proofs.Shapes.{whole_map}
use Rattle.ild_hamt.specs.Ends.{EndsAt}
use Rattle.ild_edges.specs.Gained.{AreHeld}
use Rattle.ild_bulk_walker.specs.Gives.{IsNodeOf}
use Rattle.ild_bulk_walker.specs.Trees.{IsHeldNode, HoldsBelow}
use Rattle.ild_hamt_climb.specs.Way.{slot_for, Leads}

pub leads-more : (p : HamtShape) (hash : List ℕ) (depth : ℕ) (slots : List TrieSlot) (bs : List (List ℕ)) (last : List TrieSlot) (b : List ℕ) (next : List TrieSlot)
    → Leads p hash depth slots bs last → slot_for p hash (depth + length bs) last ≡ child (id_of b) → IsNodeOf p b next → Leads p hash depth slots (bs ++ b ∷ []) next
leads-more p hash depth slots [] last b next leads is node =
    let e : depth + 0 ≡ depth = omega arith in
    (next, ap (slot_for p hash depth) leads ∙ ap (λ d. slot_for p hash d last) (sym e) ∙ is, node, refl)
leads-more p hash depth slots (c ∷ bs) last b next leads is node =
    let e : depth + suc (length bs) ≡ (depth + 1) + length bs = omega arith in
    (leads.0, leads.1, leads.2, leads-more p hash (depth + 1) leads.0 bs last b next leads.3 (ap (λ d. slot_for p hash d last) (sym e) ∙ is) node)

pub held-more : (bs held : List (List ℕ)) (b : List ℕ) → AreHeld bs held → block_at held (id_of b) ≡ Some b → AreHeld (bs ++ b ∷ []) held
held-more [] held b all is = (is, tt)
held-more (c ∷ bs) held b all is = (all.0, held-more bs held b all.1 is)

-- a way through a trie that is held
pub record Reached (h : List ℕ → List ℕ) (p : HamtShape) (k : List ℕ) (held : List (List ℕ)) (left depth : ℕ) (es : List (List ℕ × Data)) (bs : List (List ℕ)) (last : List TrieSlot) : Type 0 where
  pub less : ℕ
  pub levels : left ≡ length bs + less
  pub slots : slots_at h p less (depth + length bs) (along h p k (length bs) depth es) ≡ Some last
  pub way : way h p k (suc left) depth es ≡ bs ++ way h p k (suc less) (depth + length bs) (along h p k (length bs) depth es)
  pub below : HoldsBelow h p held (suc less) (depth + length bs) (along h p k (length bs) depth es)

-- the node that a child link leads to
pub record Child (h : List ℕ → List ℕ) (p : HamtShape) (k : List ℕ) (held : List (List ℕ)) (left depth : ℕ) (es : List (List ℕ × Data)) (id : List ℕ) : Type 0 where
  pub deeper : ℕ
  pub left_is : left ≡ suc deeper
  pub slots : List TrieSlot
  pub node : IsHeldNode p held (node_data slots)
  pub named : id ≡ id_of (spell (node_data slots))
  pub stands : slots_at h p deeper (depth + 1) (part (at_depth h p depth) es (at_depth h p depth k)) ≡ Some slots
  pub way : way h p k (suc left) depth es ≡ spell (node_data slots) ∷ way h p k left (depth + 1) (part (at_depth h p depth) es (at_depth h p depth k))
  pub below : HoldsBelow h p held left (depth + 1) (part (at_depth h p depth) es (at_depth h p depth k))

pub child-node : (h : List ℕ → List ℕ) (p : HamtShape) (k : List ℕ) (held : List (List ℕ)) (left depth : ℕ) (es : List (List ℕ × Data)) (slots : List TrieSlot) (id : List ℕ)
    → slots_at h p left depth es ≡ Some slots → HoldsBelow h p held (suc left) depth es → slot_for p (h k) depth slots ≡ child id → Child h p k held left depth es id
child-node h p k held zero depth es slots id is below stands =
    let c = way-child h p k zero depth es slots id is stands in
    absurd (let none : None ≡ Some c.0 = sym (no_node h p (depth + 1) (part (at_depth h p depth) es (at_depth h p depth k))) ∙ c.1 in cc)
child-node h p k held (suc deeper) depth es slots id is below stands =
    let fs : List (List ℕ × Data) = part (at_depth h p depth) es (at_depth h p depth k) in
    let c = way-child h p k (suc deeper) depth es slots id is stands in
    let s = slots-node h p deeper (depth + 1) fs c.0 c.1 in
    let b = below (at_depth h p depth k) c.0 (slot-child h p (suc deeper) depth es k slots id is stands).0 c.1 in
    record {
      deeper = deeper;
      left_is = refl;
      slots = s.0;
      node = subst (λ (d : Data). IsHeldNode p held d) s.2 b.0;
      named = c.2 ∙ ap (λ (d : Data). id_of (spell d)) s.2;
      stands = s.1;
      way = c.3 ∙ ap (λ (d : Data). spell d ∷ way h p k (suc deeper) (depth + 1) fs) s.2;
      below = b.1;
    }

-- the same id, and both held: one block
pub same_held : (held : List (List ℕ)) (b c : List ℕ) → block_at held (id_of b) ≡ Some b → block_at held (id_of c) ≡ Some c → id_of b ≡ id_of c → b ≡ c
same_held held b c one two same = let e : Some b ≡ Some c = sym one ∙ ap (block_at held) same ∙ two in cc

-- one block is the node of one list of slots
pub same_slots : (p : HamtShape) (ss ts : List TrieSlot) (b : List ℕ) → 3 ≤ p.width → IsNodeOf p b ss → IsNodeOf p b ts → ss ≡ ts
same_slots p ss ts b wide one two =
    let same : node_data ss ≡ node_data ts = (one_spelling_within (node_data ss) (node_data ts) [] [] one.is.within two.is.within
    (append-nil (spell (node_data ss)) ∙ sym one.is.spelled ∙ two.is.spelled ∙ sym (append-nil (spell (node_data ts))))).0 in
    same_node ss ts (whole_map p.width (length ss) wide one.form.many) (two.form.many ∙ sym one.form.many) same

pub slots-many : (h : List ℕ → List ℕ) (p : HamtShape) (left depth : ℕ) (es : List (List ℕ × Data)) (slots : List TrieSlot) → slots_at h p left depth es ≡ Some slots → length slots ≡ 2 ^ p.width
slots-many h p left depth es slots is =
    all_some-length (map (λ i. slot_of p.bucket (node_of h p left (depth + 1)) (part (at_depth h p depth) es i)) (range_with_len 0 (2 ^ p.width))) slots is
    ∙ length-map-range_with_len (λ i. slot_of p.bucket (node_of h p left (depth + 1)) (part (at_depth h p depth) es i)) 0 (2 ^ p.width)

-- a node of the trie that is held is its block
pub held-node : (h : List ℕ → List ℕ) (p : HamtShape) (held : List (List ℕ)) (left depth : ℕ) (es : List (List ℕ × Data)) (slots : List TrieSlot)
    → 3 ≤ p.width → slots_at h p left depth es ≡ Some slots → IsHeldNode p held (node_data slots) → IsNodeOf p (spell (node_data slots)) slots
held-node h p held left depth es slots wide is node =
    let many = slots-many h p left depth es slots is in
    let same : node.slots ≡ slots = same_node node.slots slots (whole_map p.width (length node.slots) wide node.block.form.many) (many ∙ sym node.block.form.many) (sym node.is) in
    subst (λ (ss : List TrieSlot). IsNodeOf p (spell (node_data slots)) ss) same node.block

pub leads-way : (h : List ℕ → List ℕ) (p : HamtShape) (k : List ℕ) (held : List (List ℕ)) (left depth : ℕ) (es : List (List ℕ × Data)) (slots : List TrieSlot) (bs : List (List ℕ)) (last : List TrieSlot)
    → 3 ≤ p.width → slots_at h p left depth es ≡ Some slots → HoldsBelow h p held (suc left) depth es → Leads p (h k) depth slots bs last → AreHeld bs held
    → Reached h p k held left depth es bs last
leads-way h p k held left depth es slots [] last wide is below leads all =
    let e : depth ≡ depth + 0 = omega arith in
    record {
      less = left;
      levels = omega arith;
      slots = subst (λ (d : ℕ). slots_at h p left d es ≡ Some last) e (is ∙ ap Some leads);
      way = ap (λ d. way h p k (suc left) d es) e;
      below = subst (λ (d : ℕ). HoldsBelow h p held (suc left) d es) e below;
    }
leads-way h p k held left depth es slots (b ∷ bs) last wide is below leads all =
    let fs : List (List ℕ × Data) = part (at_depth h p depth) es (at_depth h p depth k) in
    let c = child-node h p k held left depth es slots (id_of b) is below leads.1 in
    let same : b ≡ spell (node_data c.slots) = same_held held b (spell (node_data c.slots)) all.0 c.node.here c.named in
    let one : IsNodeOf p b c.slots = subst (λ (x : List ℕ). IsNodeOf p x c.slots) (sym same) (held-node h p held c.deeper (depth + 1) fs c.slots wide c.stands c.node) in
    let next : c.slots ≡ leads.0 = same_slots p c.slots leads.0 b wide one leads.2 in
    let rest = leads-way h p k held c.deeper (depth + 1) fs leads.0 bs last wide (c.stands ∙ ap Some next)
    (subst (λ (n : ℕ). HoldsBelow h p held n (depth + 1) fs) c.left_is c.below) leads.3 all.1 in
    let e : (depth + 1) + length bs ≡ depth + suc (length bs) = omega arith in
    record {
      less = rest.less;
      levels = omega (arith, c.left_is, rest.levels);
      slots = subst (λ (d : ℕ). slots_at h p rest.less d (along h p k (length bs) (depth + 1) fs) ≡ Some last) e rest.slots;
      way = c.way ∙ ap (λ x. x ∷ way h p k left (depth + 1) fs) (sym same) ∙ ap (λ n. b ∷ way h p k n (depth + 1) fs) c.left_is
          ∙ ap (λ xs. b ∷ xs) (rest.way ∙ ap (λ d. bs ++ way h p k (suc rest.less) d (along h p k (length bs) (depth + 1) fs)) e);
      below = subst (λ (d : ℕ). HoldsBelow h p held (suc rest.less) d (along h p k (length bs) (depth + 1) fs)) e rest.below;
    }

-- a node among those on the way
pub record Among (h : List ℕ → List ℕ) (p : HamtShape) (k : List ℕ) (left depth : ℕ) (es : List (List ℕ × Data)) (j : ℕ) (b : List ℕ) : Type 0 where
  pub slots : List TrieSlot
  pub node : IsNodeOf p b slots
  pub less : ℕ
  pub left_is : left ≡ j + suc less
  pub stands : slots_at h p less (depth + (j + 1)) (along h p k (j + 1) depth es) ≡ Some slots
  pub many : p.bucket < length (along h p k (j + 1) depth es)

pub leads-node : (h : List ℕ → List ℕ) (p : HamtShape) (k : List ℕ) (held : List (List ℕ)) (left depth : ℕ) (es : List (List ℕ × Data)) (slots : List TrieSlot) (bs : List (List ℕ)) (last : List TrieSlot) (j : ℕ)
    → 3 ≤ p.width → slots_at h p left depth es ≡ Some slots → HoldsBelow h p held (suc left) depth es → Leads p (h k) depth slots bs last → AreHeld bs held → j < length bs
    → Among h p k left depth es j (get_or bs j [])
leads-node h p k held left depth es slots [] last j wide is below leads all lt = absurd (omega arith)
leads-node h p k held left depth es slots (b ∷ bs) last j wide is below leads all lt =
    let fs : List (List ℕ × Data) = part (at_depth h p depth) es (at_depth h p depth k) in
    let c = child-node h p k held left depth es slots (id_of b) is below leads.1 in
    let same : b ≡ spell (node_data c.slots) = same_held held b (spell (node_data c.slots)) all.0 c.node.here c.named in
    let one : IsNodeOf p b c.slots = subst (λ (x : List ℕ). IsNodeOf p x c.slots) (sym same) (held-node h p held c.deeper (depth + 1) fs c.slots wide c.stands c.node) in
    let next : c.slots ≡ leads.0 = same_slots p c.slots leads.0 b wide one leads.2 in
    at j lt c one (λ i i_lt. leads-node h p k held c.deeper (depth + 1) fs leads.0 bs last i wide (c.stands ∙ ap Some next)
    (subst (λ (n : ℕ). HoldsBelow h p held n (depth + 1) fs) c.left_is c.below) leads.3 all.1 i_lt)
  where
    at : (j : ℕ) → j < length (b ∷ bs) → (c : Child h p k held left depth es (id_of b)) → IsNodeOf p b c.slots
        → ((i : ℕ) → i < length bs → Among h p k c.deeper (depth + 1) (part (at_depth h p depth) es (at_depth h p depth k)) i (get_or bs i []))
        → Among h p k left depth es j (get_or (b ∷ bs) j [])
    at zero lt c one rest =
        let e : depth + 1 ≡ depth + (0 + 1) = omega arith in
        record {
          slots = c.slots;
          node = one;
          less = c.deeper;
          left_is = omega (arith, c.left_is);
          stands = subst (λ (d : ℕ). slots_at h p c.deeper d (part (at_depth h p depth) es (at_depth h p depth k)) ≡ Some c.slots) e c.stands;
          many = (slot-child h p left depth es k slots (id_of b) is leads.1).0;
        }
    at (suc i) lt c one rest =
        let r = rest i (omega arith) in
        let e : (depth + 1) + (i + 1) ≡ depth + (suc i + 1) = omega arith in
        let f : suc (i + 1) ≡ suc i + 1 = omega arith in
        record {
          slots = r.slots;
          node = r.node;
          less = r.less;
          left_is = omega (arith, c.left_is, r.left_is);
          stands = subst (λ (d : ℕ). slots_at h p r.less d (along h p k (suc i + 1) depth es) ≡ Some r.slots) e
              (subst (λ (a : ℕ). slots_at h p r.less ((depth + 1) + (i + 1)) (along h p k a depth es) ≡ Some r.slots) f r.stands);
          many = subst (λ (a : ℕ). p.bucket < length (along h p k a depth es)) f r.many;
        }

pub leads-end : (p : HamtShape) (hash : List ℕ) (depth : ℕ) (slots : List TrieSlot) (bs : List (List ℕ)) (last : List TrieSlot) → Leads p hash depth slots bs last → EndsAt p slots bs last
leads-end p hash depth slots [] last leads = record { root = λ e. leads; node = λ j e. absurd (omega arith) }
leads-end p hash depth slots (b ∷ []) last leads = record {
  root = λ e. absurd (omega arith);
  node = λ j e. one j e;
}
  where
    one : (j : ℕ) → suc j ≡ 1 → IsNodeOf p (get_or (b ∷ []) j []) last
    one zero e = subst (IsNodeOf p b) leads.3 leads.2
    one (suc j) e = absurd (omega arith)
leads-end p hash depth slots (b ∷ c ∷ bs) last leads =
    let rest = leads-end p hash (depth + 1) leads.0 (c ∷ bs) last leads.3 in
    record {
      root = λ e. absurd (omega arith);
      node = λ j e. one rest j e;
    }
  where
    one : EndsAt p leads.0 (c ∷ bs) last → (j : ℕ) → suc j ≡ length (b ∷ c ∷ bs) → IsNodeOf p (get_or (b ∷ c ∷ bs) j []) last
    one rest zero e = absurd (omega arith)
    one rest (suc j) e = rest.node j (omega arith)
