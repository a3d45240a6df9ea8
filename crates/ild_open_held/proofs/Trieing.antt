-- The root of a HAMT and its entries: from a trie whose nodes are held to a root of entries, and back to the trie.
use Rattle.std.proofs.Common.{◌≡◌, ℕ, ◌-◌, List, Bool, true, Option, Some, None, cond, refl, sym, ◌∙◌, ap, subst}
use Rattle.std.specs.Prelude.{option_map}
use Rattle.std.proofs.lemmas.Option.{same_Some}
use Rattle.ild_data.specs.ByteOrder.{IsInOrder, in_byte_order, no_key_twice}
use Rattle.ild_data.specs.Data.{Data}
use Rattle.ild_data.specs.Key.{Rises}
use Rattle.ild_data.specs.Trie.{node_of, trie}
use Rattle.ild_data.specs.TrieShape.{trie_levels}
use Rattle.ild_data.specs.declared.hamt_shape.HamtShape.{HamtShape}
use Rattle.ild_hamt_trie.specs.Walk.{in_trie_order}
use Rattle.ild_hamt_trie.proofs.Node.{trie-sorted}
use Rattle.ild_hamt_trie.proofs.Parts.{in_order-sorted}
use Rattle.ild_hamt_trie.proofs.Walk.{sorted-walk}
use Rattle.ild_typed.specs.Hamt.{root_map, whole}
use Rattle.ild_typed.specs.Known.{AreKnown, HeldNode}
use Rattle.ild_typed.specs.Layer as L
use Rattle.ild_typed.specs.Layer.{as_map}
use Rattle.ild_typed.proofs.Basics.{map_from, true_from, if_from, then_from}
use Rattle.std.proofs.Math.Nat.{sub-zero}
use Rattle.ild_open_held.specs.Entries.{IsRootOf}
use Rattle.ild_open_held.specs.Held.{IsHeldBlock}
use Rattle.ild_open_held.proofs.Beneath.{known_blocks}
use Rattle.ild_open_held.proofs.Orderly.{walk_once}

module _ (block : List ℕ → Option (List ℕ)) (h : List ℕ → List ℕ) (p : HamtShape) where
  -- a trie of entries in the key order, with each node held, is a root of them
  pub root_of_trie : (t n : Data) (fs : List (List ℕ × Data)) → Rises fs → AreKnown h p (HeldNode block) (trie_levels p) 0 (in_byte_order fs) → trie h p fs 0 ≡ Some n → t ≡ root_map p n → IsRootOf block h p t fs
  unfolding trie
  root_of_trie t n fs rises known tree is =
      let once : no_key_twice fs ≡ true = (if_from (no_key_twice fs) (node_of h p (trie_levels p - 0) 0 (in_byte_order fs)) n tree).0 in
      let all : trie_levels p - 0 ≡ trie_levels p = sub-zero (trie_levels p) in
      let node : node_of h p (trie_levels p) 0 (in_byte_order fs) ≡ Some n = sym (ap (λ l. node_of h p l 0 (in_byte_order fs)) all) ∙ sym (trie-sorted h p fs 0 once) ∙ tree in
      record {
        kept = (rises, subst (λ l. AreKnown h p (HeldNode block) l 0 (in_byte_order fs)) (sym all) known);
        made = ap (option_map (root_map p)) tree ∙ ap Some (sym is);
        below = known_blocks (IsHeldBlock block) (HeldNode block) (λ d k. record { short = k.within.sized; there = k.there }) h p (trie_levels p) 0 (in_byte_order fs) n node known;
      }

  -- the entries of a root in the order of its trie
  pub record IsTried (t : Data) (fs es : List (List ℕ × Data)) : Type 0 where
    pub node : Data
    pub is : t ≡ root_map p node
    pub once : no_key_twice es ≡ true
    pub same : in_byte_order es ≡ in_byte_order fs
    pub tree : trie h p es 0 ≡ Some node
    pub known : AreKnown h p (HeldNode block) (trie_levels p) 0 (in_byte_order es)

  pub tried : (t : Data) (fs : List (List ℕ × Data)) → IsRootOf block h p t fs → IsTried t fs (in_trie_order h p (trie_levels p) 0 (in_byte_order fs))
  unfolding trie
  tried t fs root =
      let x = map_from (root_map p) (trie h p fs 0) t root.made in
      let es : List (List ℕ × Data) = in_trie_order h p (trie_levels p) 0 (in_byte_order fs) in
      let same : in_byte_order es ≡ in_byte_order fs = sorted-walk h p (trie_levels p) 0 (in_byte_order fs) (in_order-sorted fs) in
      let once : no_key_twice es ≡ true = walk_once h p (trie_levels p) 0 (in_byte_order fs) (in_order-sorted fs) in
      let first : no_key_twice fs ≡ true = (if_from (no_key_twice fs) (node_of h p (trie_levels p - 0) 0 (in_byte_order fs)) x.item x.there).0 in
      record {
        node = x.item;
        is = sym (same_Some (root_map p x.item) t x.made);
        once = once;
        same = same;
        tree = trie-sorted h p es 0 once ∙ ap (λ gs. node_of h p (trie_levels p - 0) 0 gs) same ∙ sym (trie-sorted h p fs 0 first) ∙ x.there;
        known = subst (λ gs. AreKnown h p (HeldNode block) (trie_levels p) 0 gs) (sym same) (subst (λ l. AreKnown h p (HeldNode block) l 0 (in_byte_order fs)) (sub-zero (trie_levels p)) root.kept.1);
      }
