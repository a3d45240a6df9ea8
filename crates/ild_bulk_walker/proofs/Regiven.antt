-- The blocks of a trie that is held give its entries.
use Rattle.std.proofs.Common.{◌≡◌, ℕ, zero, suc, ◌+◌, ◌-◌, ◌<◌, ◌≤◌, ◌^◌, ◌==◌, nat_le, Bool, true, false, cond, List, [], ◌∷◌, ◌++◌, length, map, Option, Some, None, option_map, refl, sym, ap, ◌∙◌, subst, arith, flat_map}
use Rattle.std.specs.Prelude.{is_some}
use Rattle.std.specs.List.{AllByRecursion, range_with_len}
use Rattle.std.specs.FinMap.{find}
use Rattle.std.specs.FinMap.Entries.{length-put}
use Rattle.std.proofs.lemmas.Bool.{eqb-true, le-leb, leb-false}
use Rattle.std.proofs.lemmas.Option.{same_Some}
use Rattle.std.proofs.lemmas.List.FromFn.{length-map-range_with_len}
use Rattle.ild_hamt_trie.proofs.Levels.{levels-first}
use Rattle.ild_data.proofs.AllOf.{all_filter, all_append}
use Rattle.ild_data.specs.declared.hamt_shape.HamtShape.{HamtShape}
use Rattle.ild_data.specs.ByteOrder.{bytewise, in_byte_order, IsInOrder}
use Rattle.ild_data.specs.Data.{Data}
use Rattle.ild_data.specs.Spell.{spell, id_of}
use Rattle.ild_data.specs.Trie.{TrieSlot, empty, bucket, child, bucket_or, link_to, part, slot_of, all_some, at_depth, node_data, node_of, slots_at}
use Rattle.ild_data.specs.TrieShape.{trie_levels}
use Rattle.ild_hamt_trie.specs.Walk.{part_or, in_trie_order}
use Rattle.ild_hamt_trie.proofs.Bits.{same_node}
use Rattle.ild_hamt_trie.proofs.Node.{slots-node, no_node, trie-sorted}
use Rattle.ild_hamt_trie.proofs.Parts.{total, in_order-sorted, in_order-part}
use Rattle.ild_hamt_trie.proofs.Slots.{all_some-cons, all_some-length}
use Rattle.ild_hamt_trie.proofs.Walk.{sorted-walk}
use Rattle.ild_node_slots.proofs.Shapes.{whole_map, levels_suc}
use Rattle.ild_node_slots.specs.Form.{IsNode}
use Rattle.ild_bulk_walker.specs.Gives.{SlotGives, AtIndex, SlotsGive, TreeGives, RootGives}
use Rattle.ild_bulk_walker.specs.Trees.{IsHeldNode, HoldsBelow, IsTrieOf}
use Rattle.ild_bulk_walker.proofs.Tried.{ordered, walk_step}

-- ---- what holds of all entries holds of them in the order of the trie

all-flat : {X : Type 0} (P : X → Type 0) (f : ℕ → List X) (js : List ℕ) → ((j : ℕ) → AllByRecursion P (f j)) → AllByRecursion P (flat_map f js)
all-flat P f [] each = tt
all-flat P f (j ∷ js) each = all_append P (f j) (flat_map f js) (each j) (all-flat P f js each)

all-or : (P : List ℕ × Data → Type 0) (b : Bool) (below : List (List ℕ × Data) → List (List ℕ × Data)) (es : List (List ℕ × Data)) → AllByRecursion P es → AllByRecursion P (below es) → AllByRecursion P (part_or b below es)
all-or P true below es here beneath = here
all-or P false below es here beneath = beneath

all-none : (p : HamtShape) (P : List ℕ × Data → Type 0) (h : List ℕ → List ℕ) (depth : ℕ) (es : List (List ℕ × Data)) → AllByRecursion P es → AllByRecursion P (in_trie_order h p zero depth es)
unfolding in_trie_order
all-none p P h depth es all = all

all-walk : (p : HamtShape) (P : List ℕ × Data → Type 0) (h : List ℕ → List ℕ) (left depth : ℕ) (es : List (List ℕ × Data)) → AllByRecursion P es → AllByRecursion P (in_trie_order h p left depth es)
all-walk p P h zero depth es all = all-none p P h depth es all
all-walk p P h (suc left) depth es all =
    subst (λ (xs : List (List ℕ × Data)). AllByRecursion P xs) (sym (walk_step h p left depth es))
    (all-flat P (λ i. ordered h p left depth (part (at_depth h p depth) es i)) (range_with_len 0 (2 ^ p.width)) (λ i.
    let here = all_filter P (λ e. at_depth h p depth e.0 == i) es all in
    all-or P (nat_le (length (part (at_depth h p depth) es i)) p.bucket) (in_trie_order h p left (depth + 1)) (part (at_depth h p depth) es i) here
    (all-walk p P h left (depth + 1) (part (at_depth h p depth) es i) here)))

part-at : (at : List ℕ → ℕ) (i : ℕ) (es : List (List ℕ × Data)) → AllByRecursion (λ e. at e.0 ≡ i) (part at es i)
part-at at i [] = tt
part-at at i (e ∷ es) = by (at e.0 == i) refl (part-at at i es)
  where
    by : (b : Bool) → (at e.0 == i) ≡ b → AllByRecursion (λ f. at f.0 ≡ i) (part at es i) → AllByRecursion (λ f. at f.0 ≡ i) (cond b (e ∷ part at es i) (part at es i))
    by true same rest = (eqb-true (at e.0) i same, rest)
    by false same rest = rest

ordered-at : (p : HamtShape) (h : List ℕ → List ℕ) (left depth i : ℕ) (es : List (List ℕ × Data)) → AtIndex h p depth i (ordered h p left depth (part (at_depth h p depth) es i))
ordered-at p h left depth i es =
    let at : List ℕ → ℕ = at_depth h p depth in
    let here = part-at at i es in
    all-or (λ e. at e.0 ≡ i) (nat_le (length (part at es i)) p.bucket) (in_trie_order h p left (depth + 1)) (part at es i) here (all-walk p (λ e. at e.0 ≡ i) h left (depth + 1) (part at es i) here)

-- ---- lengths

shorter : (es : List (List ℕ × Data)) → length (in_byte_order es) ≤ length es
shorter [] = omega arith
shorter (e ∷ es) =
    let long = length-put bytewise total e.0 e.1 (in_byte_order es) (in_order-sorted es) in
    let rest = shorter es in
    by (is_some (find bytewise e.0 (in_byte_order es))) long rest
  where
    by : (b : Bool) → length (in_byte_order (e ∷ es)) ≡ cond b (length (in_byte_order es)) (length (in_byte_order es) + 1) → length (in_byte_order es) ≤ length es → length (in_byte_order (e ∷ es)) ≤ suc (length es)
    by true long rest = omega (arith, long, rest)
    by false long rest = omega (arith, long, rest)

walk-long : (p : HamtShape) (h : List ℕ → List ℕ) (left depth : ℕ) (es : List (List ℕ × Data)) → IsInOrder es → length es ≤ length (in_trie_order h p left depth es)
walk-long p h left depth es order =
    let le = shorter (in_trie_order h p left depth es) in
    let same = ap (λ (xs : List (List ℕ × Data)). length xs) (sorted-walk h p left depth es order) in
    omega (arith, le, same)

-- ---- one slot

abbrev Beneath : (p : HamtShape) → (List ℕ → List ℕ) → List (List ℕ) → ℕ → ℕ → Type 0
Beneath p h held left depth = (fs : List (List ℕ × Data)) (node : Data) → IsInOrder fs → p.bucket < length fs → node_of h p left (depth + 1) fs ≡ Some node → IsHeldNode p held node → HoldsBelow h p held left (depth + 1) fs
    → TreeGives h p held left (depth + 1) (id_of (spell node)) (in_trie_order h p left (depth + 1) fs)

linked : (o : Option Data) (s : TrieSlot) → option_map link_to o ≡ Some s → (node : Data) × (o ≡ Some node) × (s ≡ child (id_of (spell node)))
linked None s is = absurd cc
linked (Some node) s is = (node, refl, sym (same_Some (link_to node) s is))

slot-given : (p : HamtShape) (h : List ℕ → List ℕ) (held : List (List ℕ)) (left depth : ℕ) (fs : List (List ℕ × Data)) (s : TrieSlot) → Beneath p h held left depth → IsInOrder fs → slot_of p.bucket (node_of h p left (depth + 1)) fs ≡ Some s
    → ((node : Data) → p.bucket < length fs → node_of h p left (depth + 1) fs ≡ Some node → IsHeldNode p held node × HoldsBelow h p held left (depth + 1) fs)
    → SlotGives (TreeGives h p held left (depth + 1)) s (ordered h p left depth fs)
slot-given p h held left depth [] s beneath order is holds =
    subst (λ z. SlotGives (TreeGives h p held left (depth + 1)) z (ordered h p left depth [])) (same_Some empty s is)
    (ap (λ b. part_or b (in_trie_order h p left (depth + 1)) []) (le-leb 0 p.bucket (omega arith)))
slot-given p h held left depth (f ∷ fs) s beneath order is holds = by (nat_le (length (f ∷ fs)) p.bucket) refl is
  where
    by : (b : Bool) → nat_le (length (f ∷ fs)) p.bucket ≡ b → bucket_or b (node_of h p left (depth + 1)) (f ∷ fs) ≡ Some s → SlotGives (TreeGives h p held left (depth + 1)) s (part_or b (in_trie_order h p left (depth + 1)) (f ∷ fs))
    by true few made = subst (λ z. SlotGives (TreeGives h p held left (depth + 1)) z (f ∷ fs)) (same_Some (bucket (f ∷ fs)) s made) refl
    by false many made =
        let more = leb-false (length (f ∷ fs)) p.bucket many in
        let l = linked (node_of h p left (depth + 1) (f ∷ fs)) s made in
        let held_so = holds l.0 more l.1 in
        subst (λ z. SlotGives (TreeGives h p held left (depth + 1)) z (in_trie_order h p left (depth + 1) (f ∷ fs))) (sym l.2) (beneath (f ∷ fs) l.0 order more l.1 held_so.0 held_so.1)

-- ---- all slots

slots-given : (p : HamtShape) (h : List ℕ → List ℕ) (held : List (List ℕ)) (left depth : ℕ) (es : List (List ℕ × Data)) (a n : ℕ) (slots : List TrieSlot) → Beneath p h held left depth → IsInOrder es → HoldsBelow h p held (suc left) depth es
    → all_some (map (λ i. slot_of p.bucket (node_of h p left (depth + 1)) (part (at_depth h p depth) es i)) (range_with_len a n)) ≡ Some slots
    → SlotsGive h p depth a (TreeGives h p held left (depth + 1)) slots (flat_map (λ i. ordered h p left depth (part (at_depth h p depth) es i)) (range_with_len a n))
slots-given p h held left depth es a zero slots beneath order holds is = subst (λ ss. SlotsGive h p depth a (TreeGives h p held left (depth + 1)) ss []) (same_Some [] slots is) refl
slots-given p h held left depth es a (suc n) slots beneath order holds is =
    let at : List ℕ → ℕ = at_depth h p depth in
    let slot_in : ℕ → Option TrieSlot = λ i. slot_of p.bucket (node_of h p left (depth + 1)) (part at es i) in
    let c = all_some-cons (slot_in a) (map slot_in (range_with_len (a + 1) n)) slots is in
    let more : List (List ℕ × Data) = flat_map (λ i. ordered h p left depth (part at es i)) (range_with_len (a + 1) n) in
    subst (λ ss. SlotsGive h p depth a (TreeGives h p held left (depth + 1)) ss (ordered h p left depth (part at es a) ++ more)) (sym c.4) (
      ordered h p left depth (part at es a),
      more,
      refl,
      ordered-at p h left depth a es,
      slot-given p h held left depth (part at es a) c.0 beneath (in_order-part at es a order) c.2 (holds a),
      slots-given p h held left depth es (a + 1) n c.1 beneath order holds c.3,
    )

node-given : (p : HamtShape) (h : List ℕ → List ℕ) (held : List (List ℕ)) (left depth : ℕ) (slots : List TrieSlot) (es : List (List ℕ × Data)) → Beneath p h held left depth → IsInOrder es → HoldsBelow h p held (suc left) depth es → slots_at h p left depth es ≡ Some slots
    → SlotsGive h p depth 0 (TreeGives h p held left (depth + 1)) slots (in_trie_order h p (suc left) depth es)
node-given p h held left depth slots es beneath order holds is =
    subst (λ xs. SlotsGive h p depth 0 (TreeGives h p held left (depth + 1)) slots xs) (sym (walk_step h p left depth es)) (slots-given p h held left depth es 0 (2 ^ p.width) slots beneath order holds is)

slots-long : (p : HamtShape) (h : List ℕ → List ℕ) (left depth : ℕ) (es : List (List ℕ × Data)) (slots : List TrieSlot) → slots_at h p left depth es ≡ Some slots → length slots ≡ 2 ^ p.width
slots-long p h left depth es slots is =
    all_some-length (map (λ i. slot_of p.bucket (node_of h p left (depth + 1)) (part (at_depth h p depth) es i)) (range_with_len 0 (2 ^ p.width))) slots is
    ∙ length-map-range_with_len (λ i. slot_of p.bucket (node_of h p left (depth + 1)) (part (at_depth h p depth) es i)) 0 (2 ^ p.width)

one-node : (p : HamtShape) (ss ts : List TrieSlot) → length ss ≡ 2 ^ p.width → length ts ≡ 2 ^ p.width → node_data ss ≡ node_data ts → ss ≡ ts
one-node p ss ts long also same = same_node ss ts (whole_map p.width (length ss) p.wide long) (also ∙ sym long) same

tree-given : (p : HamtShape) (h : List ℕ → List ℕ) (held : List (List ℕ)) (left depth : ℕ) (slots : List TrieSlot) (es : List (List ℕ × Data)) → IsInOrder es → HoldsBelow h p held (suc left) depth es → slots_at h p left depth es ≡ Some slots
    → SlotsGive h p depth 0 (TreeGives h p held left (depth + 1)) slots (in_trie_order h p (suc left) depth es)
tree-given p h held zero depth slots es order holds is =
    node-given p h held zero depth slots es (λ fs node o many there n b. absurd (let none : None ≡ Some node = sym (no_node h p (depth + 1) fs) ∙ there in cc)) order holds is
tree-given p h held (suc left) depth slots es order holds is =
    node-given p h held (suc left) depth slots es (λ fs node o many there n b.
    let s = slots-node h p left (depth + 1) fs node there in
    let same : s.0 ≡ n.slots = one-node p s.0 n.slots (slots-long p h left (depth + 1) fs s.0 s.1) n.block.form.many (sym s.2 ∙ n.is) in
    record {
      block = spell node;
      slots = n.slots;
      here = n.here;
      node = n.block;
      many = let long = walk-long p h (suc left) (depth + 1) fs o in omega (arith, long, many);
      gives = tree-given p h held left (depth + 1) n.slots fs o b (s.1 ∙ ap Some same);
    }) order holds is

some-data : (p : HamtShape) (h : List ℕ → List ℕ) (slots : List TrieSlot) (es : List (List ℕ × Data)) → length slots ≡ 2 ^ p.width → node_of h p (trie_levels p - 0) 0 es ≡ Some (node_data slots) → slots_at h p (trie_levels p - 1) 0 es ≡ Some slots
some-data p h slots es long is =
    let left : ℕ = trie_levels p - 1 in
    let s = slots-node h p left 0 es (node_data slots) (ap (λ n. node_of h p n 0 es) (sym (levels-first p)) ∙ is) in
    s.1 ∙ ap Some (one-node p s.0 slots (slots-long p h left 0 es s.0 s.1) long (sym s.2))

pub trie-is-given : (p : HamtShape) (h : List ℕ → List ℕ) (held : List (List ℕ)) (slots : List TrieSlot) (es : List (List ℕ × Data)) → IsNode p slots → IsTrieOf h p held slots es → RootGives h p held (trie_levels p - 1) slots es
trie-is-given p h held slots es form t =
    subst (λ xs. SlotsGive h p 0 0 (TreeGives h p held (trie_levels p - 1) 1) slots xs) (sym (t.order ∙ ap (λ n. in_trie_order h p n 0 (in_byte_order es)) (levels_suc p)))
    (tree-given p h held (trie_levels p - 1) 0 slots (in_byte_order es) (in_order-sorted es) (subst (λ n. HoldsBelow h p held n 0 (in_byte_order es)) (levels_suc p) t.holds) (some-data p h slots (in_byte_order es) form.many (sym (trie-sorted h p es 0 t.distinct) ∙ t.tree)))
