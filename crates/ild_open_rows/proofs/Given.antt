-- The entries that a root splits into are those that its blocks give.
use Rattle.std.proofs.Common.{◌≡◌, ℕ, zero, suc, ◌+◌, ◌^◌, ◌==◌, nat_le, Bool, true, false, List, [], ◌∷◌, length, map, Option, Some, None, IsUtf8, refl, sym, ◌∙◌, ap, subst, arith}
use Rattle.std.specs.List.{AllByRecursion, range_with_len}
use Rattle.std.specs.FinMap.{put as insert}
use Rattle.std.specs.Ordering.{match_ordering}
use Rattle.std.specs.declared.cmp.Ordering.{Ordering}
use Rattle.std.specs.declared.cmp.Ordering.TheVariants.{Less, Equal, Greater}
use Rattle.std.proofs.lemmas.Bool.{leb-true}
use Rattle.std.proofs.lemmas.List.FromFn.{length-map-range_with_len}
use Rattle.std.proofs.lemmas.Option.{none-some, same_Some}
use Rattle.sha2.proofs.Facts256.{length-sha256}
use Rattle.ild_data.proofs.AllOf.{all_filter}
use Rattle.ild_data.specs.ByteOrder.{IsInOrder, bytewise, in_byte_order}
use Rattle.ild_data.specs.Data.{Data}
use Rattle.ild_data.specs.Limits.{IsWithin}
use Rattle.ild_data.specs.Spell.{spell}
use Rattle.ild_data.specs.Trie.{TrieSlot, empty, bucket, all_some, at_depth, bucket_or, link_to, node_data, node_of, part, slot_of, slots_at}
use Rattle.ild_data.specs.TrieBlocks.{nodes_beneath}
use Rattle.ild_data.specs.TrieShape.{trie_levels}
use Rattle.ild_data.specs.declared.hamt_shape.HamtShape.{HamtShape}
use Rattle.ild_edges.specs.Store.{block_at}
use Rattle.ild_node_slots.specs.Form.{AreTexts, IsNode}
use Rattle.ild_node_slots.proofs.Rooting.{root-same}
use Rattle.ild_hamt_trie.specs.Walk.{in_trie_order}
use Rattle.ild_hamt_trie.proofs.Node.{no_node, slots-node}
use Rattle.ild_hamt_trie.proofs.Parts.{in_order-part, in_order-sorted}
use Rattle.ild_hamt_trie.proofs.Slots.{all_some-length, some_cons}
use Rattle.ild_typed.specs.Known.{AreKnown, HeldNode}
use Rattle.ild_typed.specs.Node.{IsSlot}
use Rattle.ild_typed.proofs.Basics.{map_from}
use Rattle.ild_typed.proofs.Utf8Texts.{id_bytes}
use Rattle.ild_bulk_walker.specs.Reads.{NodesBeneath}
use Rattle.ild_bulk_walker.specs.Trees.{HoldsBelow, IsHeldNode}
use Rattle.ild_bulk_walker.proofs.Regiven.{trie-is-given}
use Rattle.ild_bulk_walker.proofs.Tried.{given-counted}
use Rattle.ild_open_held.proofs.Trieing.{tried}
use Rattle.ild_open_rows.specs.Rooted.{EntriesAreGiven}

-- ---- a node of entries whose keys are texts

one_slot : (p : HamtShape) (below : List (List ℕ × Data) → Option Data) (es : List (List ℕ × Data)) (z : TrieSlot) → IsInOrder es → AreTexts es → slot_of p.bucket below es ≡ Some z → IsSlot p z
one_slot p below [] z order texts e = subst (IsSlot p) (same_Some empty z e) tt
one_slot p below (x ∷ es) z order texts e = by (nat_le (length (x ∷ es)) p.bucket) refl e where
  by : (b : Bool) → nat_le (length (x ∷ es)) p.bucket ≡ b → bucket_or b below (x ∷ es) ≡ Some z → IsSlot p z
  by true is h = subst (IsSlot p) (same_Some (bucket (x ∷ es)) z h) (order, omega arith, leb-true (length (x ∷ es)) p.bucket is, texts)
  by false is h =
      let n = map_from link_to (below (x ∷ es)) z h in
      subst (IsSlot p) (same_Some (link_to n.item) z n.made) (length-sha256 (spell n.item), id_bytes (spell n.item))

each_slot : (p : HamtShape) (piece : ℕ → Option TrieSlot) → ((i : ℕ) (z : TrieSlot) → piece i ≡ Some z → IsSlot p z) → (is : List ℕ) (slots : List TrieSlot) → all_some (map piece is) ≡ Some slots → AllByRecursion (IsSlot p) slots
each_slot p piece each [] slots e = subst (AllByRecursion (IsSlot p)) (same_Some [] slots e) tt
each_slot p piece each (i ∷ is) slots e = by (piece i) (each i) (each_slot p piece each is) e where
  by : (o : Option TrieSlot) → ((z : TrieSlot) → o ≡ Some z → IsSlot p z) → ((zs : List TrieSlot) → all_some (map piece is) ≡ Some zs → AllByRecursion (IsSlot p) zs)
      → all_some (o ∷ map piece is) ≡ Some slots → AllByRecursion (IsSlot p) slots
  by None own later h = absurd (none-some slots h)
  by (Some z) own later h =
      let x = some_cons z (all_some (map piece is)) slots h in
      subst (AllByRecursion (IsSlot p)) (sym x.2) (own z refl, later x.0 x.1)

pub node_form : (h : List ℕ → List ℕ) (p : HamtShape) (left depth : ℕ) (es : List (List ℕ × Data)) (slots : List TrieSlot) → IsInOrder es → AreTexts es → slots_at h p left depth es ≡ Some slots → IsNode p slots
node_form h p left depth es slots order texts is =
    let at : List ℕ → ℕ = at_depth h p depth in
    let piece : ℕ → Option TrieSlot = λ i. slot_of p.bucket (node_of h p left (depth + 1)) (part at es i) in
    record {
      many = all_some-length (map piece (range_with_len 0 (2 ^ p.width))) slots is ∙ length-map-range_with_len piece 0 (2 ^ p.width);
      each = each_slot p piece (λ i z made. one_slot p (node_of h p left (depth + 1)) (part at es i) z (in_order-part at es i order) (all_filter (λ e. IsUtf8 e.0) (λ e. at e.0 == i) es texts) made) (range_with_len 0 (2 ^ p.width)) slots is;
    }

-- ---- nodes that are known are held as blocks

module _ (h : List ℕ → List ℕ) (p : HamtShape) (held : List (List ℕ)) where
  held_node : (left depth : ℕ) (es : List (List ℕ × Data)) (node : Data) → IsInOrder es → AreTexts es → node_of h p left depth es ≡ Some node → HeldNode (block_at held) node → IsHeldNode p held node
  held_node zero depth es node order texts is known = absurd (none-some node (sym (no_node h p depth es) ∙ is))
  held_node (suc left) depth es node order texts is known =
      let s = slots-node h p left depth es node is in
      record {
        slots = s.0;
        is = s.2;
        block = record { is = record { within = subst IsWithin s.2 known.within; spelled = ap spell s.2 }; form = node_form h p left depth es s.0 order texts s.1 };
        here = known.there;
      }

  pub known_holds : (left depth : ℕ) (es : List (List ℕ × Data)) → IsInOrder es → AreTexts es → AreKnown h p (HeldNode (block_at held)) left depth es → HoldsBelow h p held left depth es
  unfolding AreKnown
  known_holds zero depth es order texts known = tt
  known_holds (suc left) depth es order texts known = λ i node big has.
      let fs : List (List ℕ × Data) = part (at_depth h p depth) es i in
      let o : IsInOrder fs = in_order-part (at_depth h p depth) es i order in
      let u : AreTexts fs = all_filter (λ e. IsUtf8 e.0) (λ e. at_depth h p depth e.0 == i) es texts in
      let x = known i node big has in
      (held_node left (depth + 1) fs node o u has x.0, known_holds left (depth + 1) fs o u x.1)

-- ---- texts in another order

insert_texts : (k : List ℕ) (d : Data) (es : List (List ℕ × Data)) → IsUtf8 k → AreTexts es → AreTexts (insert bytewise k d es)
insert_texts k d [] text all = (text, tt)
insert_texts k d (e ∷ es) text all = by (bytewise k e.0) (insert_texts k d es text all.1) where
  by : (o : Ordering) → AreTexts (insert bytewise k d es) → AreTexts (match_ordering o ((k, d) ∷ e ∷ es) ((e.0, d) ∷ es) (e ∷ insert bytewise k d es))
  by Less rest = (text, all)
  by Equal rest = all
  by Greater rest = (all.0, rest)

pub sorted_texts : (es : List (List ℕ × Data)) → AreTexts es → AreTexts (in_byte_order es)
sorted_texts [] all = tt
sorted_texts (e ∷ es) all = insert_texts e.0 e.1 (in_byte_order es) all.0 (sorted_texts es all.1)

pub entries_are_given : EntriesAreGiven
entries_are_given = λ h p held t slots fs is texts root.
    let y = tried (block_at held) h p t fs root in
    let es : List (List ℕ × Data) = in_trie_order h p (trie_levels p) 0 (in_byte_order fs) in
    let form : IsNode p slots = record { many = is.indices; each = is.each } in
    let node : y.node ≡ node_data slots = root-same p y.node (node_data slots) (sym y.is ∙ is.tree) in
    let sorted : AreTexts (in_byte_order es) = subst AreTexts (sym y.same) (sorted_texts fs texts) in
    let gives = trie-is-given p h held slots es form (record {
      distinct = y.once;
      order = ap (in_trie_order h p (trie_levels p) 0) (sym y.same);
      tree = y.tree ∙ ap Some node;
      holds = known_holds h p held (trie_levels p) 0 (in_byte_order es) (in_order-sorted es) sorted y.known;
    }) in
    record {
      entries = es;
      gives = gives;
      nodes = subst (λ gs. NodesBeneath p held slots (length (nodes_beneath h p (trie_levels p) 0 gs))) y.same (given-counted p h held slots es form gives);
    }
