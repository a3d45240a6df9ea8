-- The nodes of a trie of sound entries are nodes of a block, where they are short enough.
use Rattle.std.proofs.Common.{◌≡◌, ℕ, zero, suc, ◌+◌, ◌≤◌, ◌^◌, ◌==◌, nat_le, Bool, true, false, List, [], ◌∷◌, ◌++◌, length, map, Option, Some, None, option_map, refl, sym, ap, ◌∙◌, subst, arith}
use Rattle.std.specs.Prelude.{IsUtf8}
use Rattle.std.specs.List.{AllByRecursion, range_with_len}
use Rattle.std.proofs.lemmas.Bool.{lt-leb, leb-true}
use Rattle.std.proofs.lemmas.Option.{same_Some}
use Rattle.sha2.proofs.Facts256.{length-sha256}
use Rattle.ild_data.proofs.AllOf.{all_filter}
use Rattle.ild_data.specs.Data.{Data}
use Rattle.ild_data.specs.ByteOrder.{IsInOrder}
use Rattle.ild_data.specs.Limits.{longest_block}
use Rattle.ild_data.specs.Spell.{spell, id_of}
use Rattle.ild_data.specs.Trie.{TrieSlot, empty, bucket, all_some, part, link_to, bucket_or, slot_of, node_of, at_depth, slots_at}
use Rattle.ild_data.specs.TrieBlocks.{none_or, block_of}
use Rattle.ild_data.specs.declared.hamt_shape.HamtShape.{HamtShape}
use Rattle.ild_cbor.specs.Block.{IsBlockOf}
use Rattle.ild_edges.specs.Store.{block_at}
use Rattle.ild_hamt_trie.specs.Way.{way}
use Rattle.ild_hamt_trie.proofs.Node.{slots-node, no_node}
use Rattle.ild_hamt_trie.proofs.Parts.{in_order-part}
use Rattle.ild_hamt_trie.proofs.Way.{way_is}
use Rattle.ild_typed.specs.Node.{IsSlot}
use Rattle.ild_typed.proofs.Treed.{EntryIn}
use Rattle.ild_typed.proofs.TreeNodes.{node_of_in}
use Rattle.ild_typed.proofs.Utf8Texts.{id_bytes}
use Rattle.ild_hamt.specs.inside.Holding.{HoldsWay}
use Rattle.ild_hamt.proofs.Leading.{slots-many}

slot-form : (p : HamtShape) (below : List (List ℕ × Data) → Option Data) (es : List (List ℕ × Data)) (z : TrieSlot) → IsInOrder es → AllByRecursion (λ e. IsUtf8 e.0) es → slot_of p.bucket below es ≡ Some z → IsSlot p z
slot-form p below [] z order texts is = subst (IsSlot p) (same_Some empty z is) tt
slot-form p below (e ∷ es) z order texts is = by (nat_le (length (e ∷ es)) p.bucket) (below (e ∷ es)) refl refl is
  where
    by : (b : Bool) (o : Option Data) → nat_le (length (e ∷ es)) p.bucket ≡ b → below (e ∷ es) ≡ o → slot_of p.bucket below (e ∷ es) ≡ Some z → IsSlot p z
    by true o few there made =
        subst (IsSlot p) (same_Some (bucket (e ∷ es)) z (ap (λ b. bucket_or b below (e ∷ es)) (sym few) ∙ made)) (order, omega arith, leb-true (length (e ∷ es)) p.bucket few, texts)
    by false None few there made = absurd (let none : None ≡ Some z = ap (option_map link_to) (sym there) ∙ ap (λ b. bucket_or b below (e ∷ es)) (sym few) ∙ made in cc)
    by false (Some node) few there made =
        subst (IsSlot p) (same_Some (link_to node) z (ap (option_map link_to) (sym there) ∙ ap (λ b. bucket_or b below (e ∷ es)) (sym few) ∙ made)) (length-sha256 (spell node), id_bytes (spell node))

each-some : {X : Type 0} (P : X → Type 0) (f : ℕ → Option X) (is : List ℕ) (xs : List X) → all_some (map f is) ≡ Some xs → ((i : ℕ) (x : X) → f i ≡ Some x → P x) → AllByRecursion P xs
each-some P f [] xs made each = subst (AllByRecursion P) (same_Some [] xs made) tt
each-some {X = X} P f (i ∷ is) xs made each = by (f i) (all_some (map f is)) refl refl made (λ ys rest. each-some P f is ys rest each)
  where
    by : (o : Option X) (os : Option (List X)) → f i ≡ o → all_some (map f is) ≡ os → all_some (o ∷ map f is) ≡ Some xs → ((ys : List X) → all_some (map f is) ≡ Some ys → AllByRecursion P ys) → AllByRecursion P xs
    by None os here rest whole later = absurd cc
    by (Some x) None here rest whole later = absurd (let none : option_map (λ ys. x ∷ ys) None ≡ Some xs = ap (option_map (λ ys. x ∷ ys)) (sym rest) ∙ whole in cc)
    by (Some x) (Some ys) here rest whole later = subst (AllByRecursion P) (same_Some (x ∷ ys) xs (ap (option_map (λ zs. x ∷ zs)) (sym rest) ∙ whole)) (each i x here, later ys rest)

texts-of : (es : List (List ℕ × Data)) (n : ℕ) → AllByRecursion (EntryIn n) es → AllByRecursion (λ e. IsUtf8 e.0) es
texts-of [] n all = tt
texts-of (e ∷ es) n all = (all.0.0, texts-of es n all.1)

pub slots-form : (h : List ℕ → List ℕ) (p : HamtShape) (left depth n : ℕ) (es : List (List ℕ × Data)) (slots : List TrieSlot) → IsInOrder es → AllByRecursion (EntryIn n) es
    → slots_at h p left depth es ≡ Some slots → AllByRecursion (IsSlot p) slots
slots-form h p left depth n es slots order all is =
    let at : List ℕ → ℕ = at_depth h p depth in
    each-some (IsSlot p) (λ i. slot_of p.bucket (node_of h p left (depth + 1)) (part at es i)) (range_with_len 0 (2 ^ p.width)) slots is
    (λ i z made. slot-form p (node_of h p left (depth + 1)) (part at es i) z (in_order-part at es i order)
    (texts-of (part at es i) n (all_filter (EntryIn n) (λ e. at e.0 == i) es all)) made)

-- a block that is held, and short enough
abbrev pub IsShortHeld : List (List ℕ) → List ℕ → Type 0
IsShortHeld held b = (length b ≤ longest_block) × (block_at held (id_of b) ≡ Some b)

pub way-holds : (p : HamtShape) (h : List ℕ → List ℕ) (k : List ℕ) (held : List (List ℕ)) (left depth : ℕ) (es : List (List ℕ × Data)) → IsInOrder es → AllByRecursion (EntryIn 92) es
    → AllByRecursion (IsShortHeld held) (way h p k left depth es) → HoldsWay h p k held left depth es
way-holds p h k held zero depth es order all blocks = tt
way-holds p h k held (suc zero) depth es order all blocks =
    λ node many is. absurd (let none : None ≡ Some node = sym (no_node h p (depth + 1) (part (at_depth h p depth) es (at_depth h p depth k))) ∙ is in cc)
way-holds p h k held (suc (suc left)) depth es order all blocks =
    let at : List ℕ → ℕ = at_depth h p depth in
    let fs : List (List ℕ × Data) = part at es (at k) in
    let fs_order = in_order-part at es (at k) order in
    let fs_all = all_filter (EntryIn 92) (λ e. at e.0 == at k) es all in
    let next : List (List ℕ × Data) → List (List ℕ) = λ gs. block_of (node_of h p (suc left) (depth + 1) gs) ++ way h p k (suc left) (depth + 1) gs in
    λ node many is.
    let whole : way h p k (suc (suc left)) depth es ≡ spell node ∷ way h p k (suc left) (depth + 1) fs =
    way_is h p k (suc left) depth es ∙ ap (λ b. none_or b next fs) (lt-leb (length fs) p.bucket many)
    ∙ ap (λ o. block_of o ++ way h p k (suc left) (depth + 1) fs) is in
    let each = subst (AllByRecursion (IsShortHeld held)) whole blocks in
    let slots = slots-node h p left (depth + 1) fs node is in
    let tree = node_of_in 92 h p (suc left) (depth + 1) fs node fs_all is in
    let one : IsBlockOf (spell node) node = record { within = record { tree = tree.tree; nested = tree.nested; sized = each.0.0 }; spelled = refl } in (
      record {
        slots = slots.0;
        is = slots.2;
        block = record {
          is = subst (λ (d : Data). IsBlockOf (spell node) d) slots.2 one;
          form = record { many = slots-many h p left (depth + 1) fs slots.0 slots.1; each = slots-form h p left (depth + 1) 92 fs slots.0 fs_order fs_all slots.1 };
        };
        here = each.0.1;
      },
      way-holds p h k held (suc left) (depth + 1) fs fs_order fs_all each.1,
    )
