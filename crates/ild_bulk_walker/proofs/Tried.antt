-- What the blocks of a HAMT give is the trie of it.
use Rattle.std.proofs.Common.{◌≡◌, ◌≢◌, ℕ, zero, suc, ◌+◌, ◌-◌, ◌<◌, ◌≤◌, ◌^◌, nat_le, not, ◌&&◌, true, cond, List, [], ◌∷◌, ◌++◌, length, map, get_or, Option, Some, None, option_map, refl, sym, ap, ◌∙◌, subst, arith, inl, ⊎_elim, flat_map}
use Rattle.std.specs.Prelude.{is_some}
use Rattle.std.specs.Ordering.{is_lt, is_eq}
use Rattle.std.specs.List.{AllByRecursion, range_with_len}
use Rattle.std.specs.Ordering.{eq_by_cmp}
use Rattle.std.specs.FinMap.{find, put, is_sorted}
use Rattle.std.specs.FinMap.Entries.{below_all, length-put}
use Rattle.std.proofs.lemmas.Bool.{and_parts, and_from, cases_lt, cases_Bool, lt-leb, le-leb, ne_eqb}
use Rattle.std.proofs.lemmas.List.{same_lists, length-append, length-map, get_or-map}
use Rattle.std.proofs.lemmas.List.Folds.{flat_map-map}
use Rattle.std.proofs.lemmas.List.FromFn.{get_or-map-range_with_len, length-map-range_with_len}
use Rattle.ild_hamt_trie.proofs.Pairs.{none_from}
use Rattle.ild_hamt_trie.proofs.Levels.{levels-first}
use Rattle.ild_data.specs.ByteOrder.{bytewise, in_byte_order, no_key_twice, IsInOrder}
use Rattle.ild_data.specs.Data.{Data}
use Rattle.ild_data.specs.Spell.{spell, id_of}
use Rattle.ild_data.specs.Trie.{TrieSlot, empty, bucket, child, bucket_or, link_to, part, slot_of, all_some, at_depth, node_data, node_of, slots_at}
use Rattle.ild_data.specs.TrieBlocks.{block_of, none_or, node_and_beneath, nodes_beneath}
use Rattle.ild_data.specs.declared.hamt_shape.HamtShape.{HamtShape}
use Rattle.ild_data.specs.TrieShape.{trie_levels}
use Rattle.ild_edges.specs.Store.{block_at}
use Rattle.ild_edges.proofs.Held.{block_at_id}
use Rattle.ild_typed.specs.Node.{IsSlot}
use Rattle.ild_typed.proofs.NodeEntries.{less, true_of}
use Rattle.ild_hamt_trie.specs.Walk.{part_or, in_trie_order}
use Rattle.ild_node_slots.proofs.Shapes.{levels_suc}
use Rattle.ild_hamt_trie.proofs.Fold.{or_else, find-append, slot-many}
use Rattle.ild_hamt_trie.proofs.Gather.{StandApart, part-gathered, slots-gathered}
use Rattle.ild_hamt_trie.proofs.Index.{index_below}
use Rattle.ild_hamt_trie.proofs.Node.{node-slots, trie-sorted}
use Rattle.ild_hamt_trie.proofs.Parts.{total, same_key, in_order-sorted, find-sorted, sorted_alike, sorted_in_order}
use Rattle.ild_node_slots.specs.Form.{IsNode, AreSlots}
use Rattle.ild_bulk_walker.specs.Gives.{IsNodeOf, SlotGives, AtIndex, SlotsGive, NodeGives, TreeGives, RootGives}
use Rattle.ild_bulk_walker.specs.Reads.{SlotNodes, SlotsNodes, TreeNodes, NodesBeneath}
use Rattle.ild_bulk_walker.specs.Trees.{IsHeldNode, HoldsBelow, IsTrieOf}

-- ---- lists of entries

no_find : (k : List ℕ) (es : List (List ℕ × Data)) → below_all bytewise k es ≡ true → find bytewise k es ≡ None
no_find k [] below = refl
no_find k (e ∷ es) below =
    let parts = and_parts (is_lt (bytewise k e.0)) (below_all bytewise k es) below in
    (λ i. cond (is_eq (less (bytewise k e.0) parts.0 i)) (Some e.1) (no_find k es parts.1 i))

once : (es : List (List ℕ × Data)) → is_sorted bytewise es ≡ true → no_key_twice es ≡ true
once [] order = refl
once (e ∷ es) order =
    let parts = and_parts (below_all bytewise e.0 es) (is_sorted bytewise es) order in
    (λ i. not (is_some (no_find e.0 es parts.0 i)) && once es parts.1 i)

find-absent : (at : List ℕ → ℕ) (i : ℕ) (es : List (List ℕ × Data)) (q : List ℕ) → AllByRecursion (λ e. at e.0 ≡ i) es → at q ≢ i → find bytewise q es ≡ None
find-absent at i [] q all other = refl
find-absent at i (e ∷ es) q all other =
    ⊎_elim
    (λ same. absurd (other (ap at (same_key q e.0 same) ∙ all.0)))
    (λ apart. ap (λ b. cond b (Some e.1) (find bytewise q es)) apart ∙ find-absent at i es q all.1 other)
    (cases_Bool (eq_by_cmp bytewise q e.0))

or_nothing : (o x : Option Data) → o ≡ None → x ≡ None → or_else o x ≡ None
unfolding or_else
or_nothing o x a b = rw (a, b) refl

distinct-append : (es fs : List (List ℕ × Data)) → no_key_twice es ≡ true → no_key_twice fs ≡ true → AllByRecursion (λ e. find bytewise e.0 fs ≡ None) es → no_key_twice (es ++ fs) ≡ true
distinct-append [] fs a b none = b
distinct-append (e ∷ es) fs a b none =
    let parts = and_parts (not (is_some (find bytewise e.0 es))) (no_key_twice es) a in
    and_from (not (is_some (find bytewise e.0 (es ++ fs)))) (no_key_twice (es ++ fs))
    (ap (λ o. not (is_some o)) (find-append e.0 es fs ∙ or_nothing (find bytewise e.0 es) (find bytewise e.0 fs) (none_from (find bytewise e.0 es) parts.0) none.0))
    (distinct-append es fs parts.1 b none.1)

one-more : (n : ℕ) → n + 1 ≡ suc n
one-more n = omega arith

length-new : (k : List ℕ) (v : Data) (es : List (List ℕ × Data)) → IsInOrder es → find bytewise k es ≡ None → length (put bytewise k v es) ≡ suc (length es)
length-new k v es order none = length-put bytewise total k v es order ∙ ap (λ o. cond (is_some o) (length es) (length es + 1)) none ∙ one-more (length es)

length-sorted : (es : List (List ℕ × Data)) → no_key_twice es ≡ true → length (in_byte_order es) ≡ length es
length-sorted [] once = refl
length-sorted (e ∷ es) once =
    let parts = and_parts (not (is_some (find bytewise e.0 es))) (no_key_twice es) once in
    length-new e.0 e.1 (in_byte_order es) (in_order-sorted es) (find-sorted e.0 es ∙ none_from (find bytewise e.0 es) parts.0) ∙ ap suc (length-sorted es parts.1)

-- ---- how many nodes

-- as many blocks as are beneath a link to a child, each of which is held
record CountsNode (p : HamtShape) (held : List (List ℕ)) (below : List ℕ → ℕ → Type 0) (id : List ℕ) (n : ℕ) : Type 0 where
  pub block : List ℕ
  pub slots : List TrieSlot
  pub here : block_at held id ≡ Some block
  pub node : IsNodeOf p block slots
  pub more : ℕ
  pub is : n ≡ 1 + more
  pub many : SlotsNodes below slots more

abbrev Counts : HamtShape → List (List ℕ) → ℕ → List ℕ → ℕ → Type 0
Counts p held zero id n = ⊥
Counts p held (suc left) id n = CountsNode p held (Counts p held left) id n

-- the blocks of a part: its own, and those beneath
abbrev blocks : (List ℕ → List ℕ) → HamtShape → ℕ → ℕ → List (List ℕ × Data) → List (List ℕ)
blocks h p left depth fs = node_and_beneath p.bucket (node_of h p left (depth + 1)) (nodes_beneath h p left (depth + 1)) fs

beneath_step : (h : List ℕ → List ℕ) (p : HamtShape) (left depth : ℕ) (es : List (List ℕ × Data)) → nodes_beneath h p (suc left) depth es ≡ flat_map (λ i. blocks h p left depth (part (at_depth h p depth) es i)) (range_with_len 0 (2 ^ p.width))
unfolding nodes_beneath
beneath_step h p left depth es = refl

-- ---- one part

record PartIs (h : List ℕ → List ℕ) (p : HamtShape) (held : List (List ℕ)) (left depth : ℕ) (s : TrieSlot) (es : List (List ℕ × Data)) : Type 0 where
  pub distinct : no_key_twice es ≡ true
  pub slot : slot_of p.bucket (node_of h p left (depth + 1)) (in_byte_order es) ≡ Some s
  pub order : es ≡ part_or (nat_le (length (in_byte_order es)) p.bucket) (in_trie_order h p left (depth + 1)) (in_byte_order es)
  pub nodes : SlotNodes (Counts p held left) s (length (blocks h p left depth (in_byte_order es)))
  pub holds : (node : Data) → p.bucket < length (in_byte_order es) → node_of h p left (depth + 1) (in_byte_order es) ≡ Some node → IsHeldNode p held node × HoldsBelow h p held left (depth + 1) (in_byte_order es)

record Tells (h : List ℕ → List ℕ) (p : HamtShape) (held : List (List ℕ)) (left depth : ℕ) (slots : List TrieSlot) (es : List (List ℕ × Data)) : Type 0 where
  pub distinct : no_key_twice es ≡ true
  pub order : es ≡ in_trie_order h p (suc left) depth (in_byte_order es)
  pub node : slots_at h p left depth (in_byte_order es) ≡ Some slots
  pub nodes : SlotsNodes (Counts p held left) slots (length (nodes_beneath h p (suc left) depth (in_byte_order es)))
  pub holds : HoldsBelow h p held (suc left) depth (in_byte_order es)

part-few : (h : List ℕ → List ℕ) (p : HamtShape) (held : List (List ℕ)) (left depth : ℕ) (es : List (List ℕ × Data)) → IsInOrder es → 1 ≤ length es → length es ≤ p.bucket → PartIs h p held left depth (bucket es) es
part-few h p held left depth [] order some few = absurd (omega arith)
part-few h p held left depth (e ∷ es) order some few =
    let same : in_byte_order (e ∷ es) ≡ e ∷ es = sorted_in_order (e ∷ es) order in
    let le : nat_le (length (e ∷ es)) p.bucket ≡ true = le-leb (length (e ∷ es)) p.bucket few in
    record {
      distinct = once (e ∷ es) (true_of _ order);
      slot = ap (slot_of p.bucket (node_of h p left (depth + 1))) same ∙ ap (λ b. bucket_or b (node_of h p left (depth + 1)) (e ∷ es)) le;
      order = sym (ap (λ (fs : List (List ℕ × Data)). part_or (nat_le (length fs) p.bucket) (in_trie_order h p left (depth + 1)) fs) same ∙ ap (λ b. part_or b (in_trie_order h p left (depth + 1)) (e ∷ es)) le);
      nodes = ap (λ (fs : List (List ℕ × Data)). length (blocks h p left depth fs)) same ∙ ap (λ b. length (none_or b (λ fs. block_of (node_of h p left (depth + 1) fs) ++ nodes_beneath h p left (depth + 1) fs) (e ∷ es))) le;
      holds = λ node many is. absurd (let long = ap (λ (fs : List (List ℕ × Data)). length fs) same in omega arith);
    }

part-none : (h : List ℕ → List ℕ) (p : HamtShape) (held : List (List ℕ)) (left depth : ℕ) → PartIs h p held left depth empty []
part-none h p held left depth = record {
  distinct = refl;
  slot = refl;
  order = sym (ap (λ b. part_or b (in_trie_order h p left (depth + 1)) []) (le-leb 0 p.bucket (omega arith)));
  nodes = ap (λ b. length (none_or b (λ fs. block_of (node_of h p left (depth + 1) fs) ++ nodes_beneath h p left (depth + 1) fs) [])) (le-leb 0 p.bucket (omega arith));
  holds = λ node many is. absurd (omega arith);
}

same-node : (a b : Data) → Some a ≡ Some b → a ≡ b
same-node a b is = cc

one-added : (n : ℕ) → suc n ≡ 1 + n
one-added n = omega arith

part-child : (h : List ℕ → List ℕ) (p : HamtShape) (held : List (List ℕ)) (left depth : ℕ) (id : List ℕ) (es : List (List ℕ × Data)) (t : NodeGives h p held (depth + 1) (TreeGives h p held left (depth + 1 + 1)) id es) → Tells h p held left (depth + 1) t.slots es
    → PartIs h p held (suc left) depth (child id) es
part-child h p held left depth id es t tells =
    let fs : List (List ℕ × Data) = in_byte_order es in
    let long = length-sorted es tells.distinct in
    let many = t.many in
    let there : node_of h p (suc left) (depth + 1) fs ≡ Some (node_data t.slots) = node-slots h p left (depth + 1) fs ∙ ap (option_map node_data) tells.node in
    let named : id_of (spell (node_data t.slots)) ≡ id = ap id_of (sym t.node.is.spelled) ∙ block_at_id held id t.block t.here in
    record {
      distinct = tells.distinct;
      slot = slot-many p.bucket (node_of h p (suc left) (depth + 1)) fs (omega arith) ∙ ap (option_map link_to) there ∙ ap (λ i. Some (child i)) named;
      order = tells.order ∙ sym (ap (λ b. part_or b (in_trie_order h p (suc left) (depth + 1)) fs) (lt-leb (length fs) p.bucket (omega arith)));
      nodes = record {
        block = t.block;
        slots = t.slots;
        here = t.here;
        node = t.node;
        more = length (nodes_beneath h p (suc left) (depth + 1) fs);
        is = ap (λ b. length (none_or b (λ gs. block_of (node_of h p (suc left) (depth + 1) gs) ++ nodes_beneath h p (suc left) (depth + 1) gs) fs)) (lt-leb (length fs) p.bucket (omega arith))
            ∙ ap (λ o. length (block_of o ++ nodes_beneath h p (suc left) (depth + 1) fs)) there ∙ one-added (length (nodes_beneath h p (suc left) (depth + 1) fs));
        many = tells.nodes;
      };
      holds = λ node more is.
          let same : node ≡ node_data t.slots = same-node node (node_data t.slots) (sym is ∙ there) in (
            subst (IsHeldNode p held) (sym same) (record {
              slots = t.slots;
              is = refl;
              block = subst (λ b. IsNodeOf p b t.slots) t.node.is.spelled t.node;
              here = ap (block_at held) named ∙ t.here ∙ ap Some t.node.is.spelled;
            }),
            tells.holds,
          );
    }

-- ---- all parts

abbrev Each : (List ℕ → List ℕ) → HamtShape → List (List ℕ) → ℕ → ℕ → ℕ → List TrieSlot → List (List (List ℕ × Data)) → Type 0
Each h p held left depth i [] [] = Unit {0}
Each h p held left depth i [] (es ∷ ess) = ⊥
Each h p held left depth i (s ∷ slots) [] = ⊥
Each h p held left depth i (s ∷ slots) (es ∷ ess) = AtIndex h p depth i es × PartIs h p held left depth s es × Each h p held left depth (i + 1) slots ess

abbrev joined : List (List (List ℕ × Data)) → List (List ℕ × Data)
joined ess = flat_map (λ es. es) ess

record Split (h : List ℕ → List ℕ) (p : HamtShape) (held : List (List ℕ)) (left depth i : ℕ) (slots : List TrieSlot) (es : List (List ℕ × Data)) : Type 0 where
  pub parts : List (List (List ℕ × Data))
  pub is : es ≡ joined parts
  pub each : Each h p held left depth i slots parts

slot-part : (h : List ℕ → List ℕ) (p : HamtShape) (held : List (List ℕ)) (left depth : ℕ) (s : TrieSlot) (es : List (List ℕ × Data)) → ((id : List ℕ) (fs : List (List ℕ × Data)) → TreeGives h p held left (depth + 1) id fs → PartIs h p held left depth (child id) fs)
    → IsSlot p s → SlotGives (TreeGives h p held left (depth + 1)) s es → PartIs h p held left depth s es
slot-part h p held left depth empty es beneath form gives = subst (PartIs h p held left depth empty) (sym gives) (part-none h p held left depth)
slot-part h p held left depth (bucket fs) es beneath form gives = subst (PartIs h p held left depth (bucket fs)) (sym gives) (part-few h p held left depth fs form.0 form.1 form.2)
slot-part h p held left depth (child id) es beneath form gives = beneath id es gives

split : (h : List ℕ → List ℕ) (p : HamtShape) (held : List (List ℕ)) (left depth i : ℕ) (slots : List TrieSlot) (es : List (List ℕ × Data)) → ((id : List ℕ) (fs : List (List ℕ × Data)) → TreeGives h p held left (depth + 1) id fs → PartIs h p held left depth (child id) fs)
    → AreSlots p slots → SlotsGive h p depth i (TreeGives h p held left (depth + 1)) slots es → Split h p held left depth i slots es
split h p held left depth i [] es beneath forms gives = record { parts = []; is = gives; each = tt }
split h p held left depth i (s ∷ slots) es beneath forms gives =
    let rest = split h p held left depth (i + 1) slots gives.1 beneath forms.1 gives.5 in
    record { parts = gives.0 ∷ rest.parts; is = gives.2 ∙ ap (λ fs. gives.0 ++ fs) rest.is; each = (gives.3, slot-part h p held left depth s gives.0 beneath forms.0 gives.4, rest.each) }

each-long : (h : List ℕ → List ℕ) (p : HamtShape) (held : List (List ℕ)) (left depth i : ℕ) (slots : List TrieSlot) (ess : List (List (List ℕ × Data))) → Each h p held left depth i slots ess → length ess ≡ length slots
each-long h p held left depth i [] [] each = refl
each-long h p held left depth i [] (es ∷ ess) each = absurd each
each-long h p held left depth i (s ∷ slots) [] each = absurd each
each-long h p held left depth i (s ∷ slots) (es ∷ ess) each = ap suc (each-long h p held left depth (i + 1) slots ess each.2)

each-apart : (h : List ℕ → List ℕ) (p : HamtShape) (held : List (List ℕ)) (left depth i : ℕ) (slots : List TrieSlot) (ess : List (List (List ℕ × Data))) → Each h p held left depth i slots ess → StandApart (at_depth h p depth) i (map in_byte_order ess)
each-apart h p held left depth i [] [] each = tt
each-apart h p held left depth i [] (es ∷ ess) each = absurd each
each-apart h p held left depth i (s ∷ slots) [] each = absurd each
each-apart h p held left depth i (s ∷ slots) (es ∷ ess) each =
    (in_order-sorted es, λ q other. find-sorted q es ∙ find-absent (at_depth h p depth) i es q each.0 other, each-apart h p held left depth (i + 1) slots ess each.2)

each-slots : (h : List ℕ → List ℕ) (p : HamtShape) (held : List (List ℕ)) (left depth i : ℕ) (slots : List TrieSlot) (ess : List (List (List ℕ × Data))) → Each h p held left depth i slots ess
    → all_some (map (slot_of p.bucket (node_of h p left (depth + 1))) (map in_byte_order ess)) ≡ Some slots
each-slots h p held left depth i [] [] each = refl
each-slots h p held left depth i [] (es ∷ ess) each = absurd each
each-slots h p held left depth i (s ∷ slots) [] each = absurd each
each-slots h p held left depth i (s ∷ slots) (es ∷ ess) each =
    ap (λ o. all_some (o ∷ map (slot_of p.bucket (node_of h p left (depth + 1))) (map in_byte_order ess))) each.1.slot ∙ ap (option_map (λ ss. s ∷ ss)) (each-slots h p held left depth (i + 1) slots ess each.2)

abbrev pub ordered : (List ℕ → List ℕ) → HamtShape → ℕ → ℕ → List (List ℕ × Data) → List (List ℕ × Data)
ordered h p left depth fs = part_or (nat_le (length fs) p.bucket) (in_trie_order h p left (depth + 1)) fs

each-order : (h : List ℕ → List ℕ) (p : HamtShape) (held : List (List ℕ)) (left depth i : ℕ) (slots : List TrieSlot) (ess : List (List (List ℕ × Data))) → Each h p held left depth i slots ess → joined ess ≡ flat_map (ordered h p left depth) (map in_byte_order ess)
each-order h p held left depth i [] [] each = refl
each-order h p held left depth i [] (es ∷ ess) each = absurd each
each-order h p held left depth i (s ∷ slots) [] each = absurd each
each-order h p held left depth i (s ∷ slots) (es ∷ ess) each = (λ k. each.1.order k ++ each-order h p held left depth (i + 1) slots ess each.2 k)

each-nodes : (h : List ℕ → List ℕ) (p : HamtShape) (held : List (List ℕ)) (left depth i : ℕ) (slots : List TrieSlot) (ess : List (List (List ℕ × Data))) → Each h p held left depth i slots ess
    → SlotsNodes (Counts p held left) slots (length (flat_map (blocks h p left depth) (map in_byte_order ess)))
each-nodes h p held left depth i [] [] each = refl
each-nodes h p held left depth i [] (es ∷ ess) each = absurd each
each-nodes h p held left depth i (s ∷ slots) [] each = absurd each
each-nodes h p held left depth i (s ∷ slots) (es ∷ ess) each = (
  length (blocks h p left depth (in_byte_order es)),
  length (flat_map (blocks h p left depth) (map in_byte_order ess)),
  length-append (blocks h p left depth (in_byte_order es)) (flat_map (blocks h p left depth) (map in_byte_order ess)),
  each.1.nodes,
  each-nodes h p held left depth (i + 1) slots ess each.2,
)

each-holds : (h : List ℕ → List ℕ) (p : HamtShape) (held : List (List ℕ)) (left depth i : ℕ) (slots : List TrieSlot) (ess : List (List (List ℕ × Data))) → Each h p held left depth i slots ess → (j : ℕ) (node : Data)
    → p.bucket < length (get_or (map in_byte_order ess) j []) → node_of h p left (depth + 1) (get_or (map in_byte_order ess) j []) ≡ Some node → IsHeldNode p held node × HoldsBelow h p held left (depth + 1) (get_or (map in_byte_order ess) j [])
each-holds h p held left depth i [] [] each j node many is = absurd (omega arith)
each-holds h p held left depth i [] (es ∷ ess) each j node many is = absurd each
each-holds h p held left depth i (s ∷ slots) [] each j node many is = absurd each
each-holds h p held left depth i (s ∷ slots) (es ∷ ess) each zero node many is = each.1.holds node many is
each-holds h p held left depth i (s ∷ slots) (es ∷ ess) each (suc j) node many is = each-holds h p held left depth (i + 1) slots ess each.2 j node many is

absent-later : (h : List ℕ → List ℕ) (p : HamtShape) (held : List (List ℕ)) (left depth i : ℕ) (slots : List TrieSlot) (ess : List (List (List ℕ × Data))) (q : List ℕ) → Each h p held left depth i slots ess → at_depth h p depth q < i → find bytewise q (joined ess) ≡ None
absent-later h p held left depth i [] [] q each lt = refl
absent-later h p held left depth i [] (es ∷ ess) q each lt = absurd each
absent-later h p held left depth i (s ∷ slots) [] q each lt = absurd each
absent-later h p held left depth i (s ∷ slots) (es ∷ ess) q each lt =
    find-append q es (joined ess) ∙ or_nothing (find bytewise q es) (find bytewise q (joined ess)) (find-absent (at_depth h p depth) i es q each.0 (λ same. omega arith)) (absent-later h p held left depth (i + 1) slots ess q each.2 (omega arith))

each-distinct : (h : List ℕ → List ℕ) (p : HamtShape) (held : List (List ℕ)) (left depth i : ℕ) (slots : List TrieSlot) (ess : List (List (List ℕ × Data))) → Each h p held left depth i slots ess → no_key_twice (joined ess) ≡ true
each-distinct h p held left depth i [] [] each = refl
each-distinct h p held left depth i [] (es ∷ ess) each = absurd each
each-distinct h p held left depth i (s ∷ slots) [] each = absurd each
each-distinct h p held left depth i (s ∷ slots) (es ∷ ess) each =
    distinct-append es (joined ess) each.1.distinct (each-distinct h p held left depth (i + 1) slots ess each.2) (apart es each.0)
  where
    apart : (fs : List (List ℕ × Data)) → AtIndex h p depth i fs → AllByRecursion (λ e. find bytewise e.0 (joined ess) ≡ None) fs
    apart [] at = tt
    apart (f ∷ fs) at = (absent-later h p held left depth (i + 1) slots ess f.0 each.2 (let same = at.0 in omega arith), apart fs at.1)

find-joined : (ess : List (List (List ℕ × Data))) (q : List ℕ) → find bytewise q (joined ess) ≡ find bytewise q (joined (map in_byte_order ess))
find-joined [] q = refl
find-joined (es ∷ ess) q =
    find-append q es (joined ess) ∙ ap (λ o. or_else o (find bytewise q (joined ess))) (sym (find-sorted q es)) ∙ ap (or_else (find bytewise q (in_byte_order es))) (find-joined ess q) ∙ sym (find-append q (in_byte_order es) (joined (map in_byte_order ess)))

no-part : (at : List ℕ → ℕ) (i : ℕ) (es : List (List ℕ × Data)) → ((q : List ℕ) → at q ≢ i) → part at es i ≡ []
no-part at i [] other = refl
no-part at i (e ∷ es) other = ap (λ b. cond b (e ∷ part at es i) (part at es i)) (ne_eqb (at e.0) i (other e.0)) ∙ no-part at i es other

pub walk_step : (h : List ℕ → List ℕ) (p : HamtShape) (left depth : ℕ) (es : List (List ℕ × Data)) → in_trie_order h p (suc left) depth es ≡ flat_map (λ i. ordered h p left depth (part (at_depth h p depth) es i)) (range_with_len 0 (2 ^ p.width))
unfolding in_trie_order
walk_step h p left depth es = refl

from-parts : (h : List ℕ → List ℕ) (p : HamtShape) (held : List (List ℕ)) (left depth : ℕ) (slots : List TrieSlot) (es : List (List ℕ × Data)) → ((id : List ℕ) (fs : List (List ℕ × Data)) → TreeGives h p held left (depth + 1) id fs → PartIs h p held left depth (child id) fs)
    → IsNode p slots → SlotsGive h p depth 0 (TreeGives h p held left (depth + 1)) slots es → Tells h p held left depth slots es
from-parts h p held left depth slots es beneath form gives =
    let at : List ℕ → ℕ = at_depth h p depth in
    let s = split h p held left depth 0 slots es beneath form.each gives in
    let fss : List (List (List ℕ × Data)) = map in_byte_order s.parts in
    let all : List (List ℕ × Data) = in_byte_order (joined fss) in
    let same : in_byte_order es ≡ all = ap in_byte_order s.is ∙ sorted_alike (joined s.parts) (joined fss) (find-joined s.parts) in
    let apart = each-apart h p held left depth 0 slots s.parts s.each in
    let long : length fss ≡ 2 ^ p.width = length-map s.parts in_byte_order ∙ each-long h p held left depth 0 slots s.parts s.each ∙ form.many in
    let lists : map (ordered h p left depth) fss ≡ map (λ i. ordered h p left depth (part at all i)) (range_with_len 0 (2 ^ p.width)) =
    sym (same_lists (map (λ i. ordered h p left depth (part at all i)) (range_with_len 0 (2 ^ p.width))) (map (ordered h p left depth) fss)
    (length-map-range_with_len (λ i. ordered h p left depth (part at all i)) 0 (2 ^ p.width) ∙ sym long ∙ sym (length-map fss (ordered h p left depth)))
    (λ k d lt.
    let inside : k < 2 ^ p.width = omega (arith, length-map-range_with_len (λ i. ordered h p left depth (part at all i)) 0 (2 ^ p.width)) in
    let among : k < length fss = omega (arith, long) in
    get_or-map-range_with_len (λ i. ordered h p left depth (part at all i)) 0 (2 ^ p.width) k k d inside (omega arith)
    ∙ ap (ordered h p left depth) (part-gathered at k fss apart among)
    ∙ sym (get_or-map (ordered h p left depth) fss k [] d among))) in
    let sets : map (blocks h p left depth) fss ≡ map (λ i. blocks h p left depth (part at all i)) (range_with_len 0 (2 ^ p.width)) =
    sym (same_lists (map (λ i. blocks h p left depth (part at all i)) (range_with_len 0 (2 ^ p.width))) (map (blocks h p left depth) fss)
    (length-map-range_with_len (λ i. blocks h p left depth (part at all i)) 0 (2 ^ p.width) ∙ sym long ∙ sym (length-map fss (blocks h p left depth)))
    (λ k d lt.
    let inside : k < 2 ^ p.width = omega (arith, length-map-range_with_len (λ i. blocks h p left depth (part at all i)) 0 (2 ^ p.width)) in
    let among : k < length fss = omega (arith, long) in
    get_or-map-range_with_len (λ i. blocks h p left depth (part at all i)) 0 (2 ^ p.width) k k d inside (omega arith)
    ∙ ap (blocks h p left depth) (part-gathered at k fss apart among)
    ∙ sym (get_or-map (blocks h p left depth) fss k [] d among))) in
    let beneath_all : flat_map (blocks h p left depth) fss ≡ nodes_beneath h p (suc left) depth (in_byte_order es) = sym (flat_map-map (λ xs. xs) (blocks h p left depth) fss) ∙ ap (flat_map (λ xs. xs)) sets
    ∙ flat_map-map (λ xs. xs) (λ i. blocks h p left depth (part at all i)) (range_with_len 0 (2 ^ p.width)) ∙ sym (beneath_step h p left depth all) ∙ ap (nodes_beneath h p (suc left) depth) (sym same) in
    record {
      nodes = subst (λ (bs : List (List ℕ)). SlotsNodes (Counts p held left) slots (length bs)) beneath_all (each-nodes h p held left depth 0 slots s.parts s.each);
      distinct = ap no_key_twice s.is ∙ each-distinct h p held left depth 0 slots s.parts s.each;
      order = s.is ∙ each-order h p held left depth 0 slots s.parts s.each ∙ sym (flat_map-map (λ xs. xs) (ordered h p left depth) fss) ∙ ap (flat_map (λ xs. xs)) lists
          ∙ flat_map-map (λ xs. xs) (λ i. ordered h p left depth (part at all i)) (range_with_len 0 (2 ^ p.width)) ∙ sym (walk_step h p left depth all) ∙ ap (in_trie_order h p (suc left) depth) (sym same);
      node = ap (slots_at h p left depth) same ∙ slots-gathered p at (node_of h p left (depth + 1)) fss apart long ∙ each-slots h p held left depth 0 slots s.parts s.each;
      holds = subst (λ xs. HoldsBelow h p held (suc left) depth xs) (sym same) (λ i node many is.
          ⊎_elim
          (λ lt.
          let gathered : part at all i ≡ get_or fss i [] = part-gathered at i fss apart (omega (arith, long)) in
          let r = each-holds h p held left depth 0 slots s.parts s.each i node (subst (λ (xs : List (List ℕ × Data)). p.bucket < length xs) gathered many) (ap (node_of h p left (depth + 1)) (sym gathered) ∙ is) in
          (r.0, subst (λ xs. HoldsBelow h p held left (depth + 1) xs) (sym gathered) r.1))
          (λ le.
          let none : part at all i ≡ [] = no-part at i all (λ q e. let lt = index_below p (h q) depth in omega arith) in
          absurd (let short = ap (λ (xs : List (List ℕ × Data)). length xs) none in omega arith))
          (cases_lt i (2 ^ p.width)));
    }

tells : (h : List ℕ → List ℕ) (p : HamtShape) (held : List (List ℕ)) (left depth : ℕ) (slots : List TrieSlot) (es : List (List ℕ × Data)) → IsNode p slots → SlotsGive h p depth 0 (TreeGives h p held left (depth + 1)) slots es → Tells h p held left depth slots es
tells h p held zero depth slots es form gives = from-parts h p held zero depth slots es (λ id fs t. absurd t) form gives
tells h p held (suc left) depth slots es form gives =
    from-parts h p held (suc left) depth slots es (λ id fs t. part-child h p held left depth id fs t (tells h p held left (depth + 1) t.slots fs t.node.form t.gives)) form gives

pub given-is-trie : (p : HamtShape) (h : List ℕ → List ℕ) (held : List (List ℕ)) (slots : List TrieSlot) (es : List (List ℕ × Data)) → IsNode p slots → RootGives h p held (trie_levels p - 1) slots es → IsTrieOf h p held slots es
given-is-trie p h held slots es form gives =
    let left : ℕ = trie_levels p - 1 in
    let t = tells h p held left 0 slots es form gives in
    record {
      distinct = t.distinct;
      order = t.order ∙ ap (λ n. in_trie_order h p n 0 (in_byte_order es)) (sym (levels_suc p));
      tree = trie-sorted h p es 0 t.distinct ∙ ap (λ n. node_of h p n 0 (in_byte_order es)) (levels-first p) ∙ node-slots h p left 0 (in_byte_order es) ∙ ap (option_map node_data) t.node;
      holds = subst (λ n. HoldsBelow h p held n 0 (in_byte_order es)) (sym (levels_suc p)) t.holds;
    }

-- ---- the nodes that a walk reads

slots-counted : (p : HamtShape) (held : List (List ℕ)) (left : ℕ) (slots : List TrieSlot) (n : ℕ) → ((id : List ℕ) (k : ℕ) → Counts p held left id k → TreeNodes p held left id k) → SlotsNodes (Counts p held left) slots n → SlotsNodes (TreeNodes p held left) slots n
slots-counted p held left [] n beneath many = many
slots-counted p held left (empty ∷ slots) n beneath many = (many.0, many.1, many.2, many.3, slots-counted p held left slots many.1 beneath many.4)
slots-counted p held left (bucket es ∷ slots) n beneath many = (many.0, many.1, many.2, many.3, slots-counted p held left slots many.1 beneath many.4)
slots-counted p held left (child id ∷ slots) n beneath many = (many.0, many.1, many.2, beneath id many.0 many.3, slots-counted p held left slots many.1 beneath many.4)

tree-counted : (p : HamtShape) (held : List (List ℕ)) (left : ℕ) (id : List ℕ) (n : ℕ) → Counts p held left id n → TreeNodes p held left id n
tree-counted p held zero id n c = absurd c
tree-counted p held (suc left) id n c = (
  c.more,
  c.is,
  inl (record {
    slots = c.slots;
    node = record { block = c.block; at = record { named = block_at_id held id c.block c.here; held = c.here }; node = c.node };
    many = slots-counted p held left c.slots c.more (tree-counted p held left) c.many;
  }),
)

pub given-counted : (p : HamtShape) (h : List ℕ → List ℕ) (held : List (List ℕ)) (slots : List TrieSlot) (es : List (List ℕ × Data)) → IsNode p slots → RootGives h p held (trie_levels p - 1) slots es → NodesBeneath p held slots (length (nodes_beneath h p (trie_levels p) 0 (in_byte_order es)))
given-counted p h held slots es form gives =
    let left : ℕ = trie_levels p - 1 in
    subst (λ n. NodesBeneath p held slots (length (nodes_beneath h p n 0 (in_byte_order es)))) (sym (levels_suc p))
    (slots-counted p held left slots (length (nodes_beneath h p (suc left) 0 (in_byte_order es))) (tree-counted p held left) (tells h p held left 0 slots es form gives).nodes)
