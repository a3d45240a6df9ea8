-- The root map over entries, and the blocks beneath it.
use Rattle.std.proofs.Common.{◌≡◌, ℕ, zero, suc, ◌+◌, ◌-◌, ◌^◌, nat_le, Bool, true, false, cond, not, is_none, is_some, List, [], ◌∷◌, ◌++◌, length, Option, Some, None, Ok, refl, sym, ap, ◌∙◌, subst, arith, append-nil, flat_map}
use Rattle.std.specs.List.{AllByRecursion, range_with_len, sum_by}
use Rattle.std.specs.FinMap.{find, put}
use Rattle.std.specs.Ordering.{is_eq, match_ordering}
use Rattle.std.specs.declared.cmp.Ordering.{Ordering}
use Rattle.std.specs.declared.cmp.Ordering.TheVariants.{Less, Equal, Greater}
use Rattle.std.proofs.lemmas.Bool.{and_parts}
use Rattle.std.proofs.lemmas.List.Sums.{sum_by-append}
use Rattle.std.proofs.lemmas.Option.{same_Some, none-some}
use Rattle.std.proofs.Math.Nat.{sub-zero}
use Rattle.ild_bulk.specs.Children.{Follows}
use Rattle.ild_bulk.specs.Planned.{planned, slot_plan, PlansNode}
use Rattle.ild_bulk.proofs.Building.{planned_is}
use Rattle.ild_bulk.proofs.Childs.{plan-follows}
use Rattle.ild_hamt_trie.proofs.Pairs.{none_from}
use Rattle.ild_data.specs.ByteOrder.{bytewise, in_byte_order, no_key_twice}
use Rattle.ild_data.specs.Data.{Data}
use Rattle.ild_data.specs.Spell.{spell}
use Rattle.ild_data.specs.Trie.{part, at_depth, node_of, trie}
use Rattle.ild_data.specs.TrieBlocks.{block_of, node_and_beneath, nodes_beneath, none_or}
use Rattle.ild_data.specs.declared.hamt_shape.HamtShape.{HamtShape}
use Rattle.ild_data.specs.TrieShape.{trie_levels}
use Rattle.ild_emit.specs.Grown.{IsGrown}
use Rattle.ild_hamt_trie.proofs.Parts.{find-sorted}
use Rattle.ild_typed.specs.Hamt.{root_map}
use Rattle.ild_typed.proofs.Basics.{if_from, map_from}
use Rattle.ild_build_entries.specs.Entries.{AddsRoot, untried}
use Rattle.ild_build_entries.specs.Fine.{told, SetWhere}
use Rattle.ild_build_entries.specs.declared.nodes.Nodes.{Nodes}
use Rattle.ild_build_entries.proofs.Flags.{set_none}

-- ---- the blocks of a plan

module _ (f : List ℕ → ℕ) where
  sum_parts : (a b : ℕ → List (List ℕ)) (js : List ℕ) → ((j : ℕ) → sum_by f (a j) ≡ sum_by f (b j)) → sum_by f (flat_map a js) ≡ sum_by f (flat_map b js)
  sum_parts a b [] each = refl
  sum_parts a b (j ∷ js) each = sum_by-append f (a j) (flat_map a js) ∙ (λ i. each j i + sum_parts a b js each i) ∙ sym (sum_by-append f (b j) (flat_map b js))

  sum_slot : (c : Bool) (below : List (List ℕ × Data) → Option Data) (a b : List (List ℕ × Data) → List (List ℕ)) (es : List (List ℕ × Data)) → sum_by f (a es) ≡ sum_by f (b es)
      → sum_by f (none_or c (λ fs. a fs ++ block_of (below fs)) es) ≡ sum_by f (none_or c (λ fs. block_of (below fs) ++ b fs) es)
  sum_slot true below a b es each = refl
  sum_slot false below a b es each =
      let x = sum_by-append f (a es) (block_of (below es)) in
      let y = sum_by-append f (block_of (below es)) (b es) in
      omega (arith, x, y, each)

  module _ (h : List ℕ → List ℕ) (p : HamtShape) where
    beneath_is : (left depth : ℕ) (es : List (List ℕ × Data))
        → nodes_beneath h p (suc left) depth es ≡ flat_map (λ i. node_and_beneath p.bucket (node_of h p left (depth + 1)) (nodes_beneath h p left (depth + 1)) (part (at_depth h p depth) es i)) (range_with_len 0 (2 ^ p.width))
    unfolding nodes_beneath
    beneath_is left depth es = refl

    none_left : (depth : ℕ) (es : List (List ℕ × Data)) → sum_by f (planned h p zero depth es) ≡ sum_by f (nodes_beneath h p zero depth es)
    unfolding planned nodes_beneath
    none_left depth es = refl

    plan_sums : (left depth : ℕ) (es : List (List ℕ × Data)) → sum_by f (planned h p left depth es) ≡ sum_by f (nodes_beneath h p left depth es)
    plan_sums zero depth es = none_left depth es
    plan_sums (suc left) depth es =
        ap (sum_by f) (planned_is h p left depth es)
        ∙ sum_parts (λ i. slot_plan p.bucket (node_of h p left (depth + 1)) (planned h p left (depth + 1)) (part (at_depth h p depth) es i))
        (λ i. node_and_beneath p.bucket (node_of h p left (depth + 1)) (nodes_beneath h p left (depth + 1)) (part (at_depth h p depth) es i)) (range_with_len 0 (2 ^ p.width))
        (λ i. sum_slot (nat_le (length (part (at_depth h p depth) es i)) p.bucket) (node_of h p left (depth + 1)) (planned h p left (depth + 1)) (nodes_beneath h p left (depth + 1)) (part (at_depth h p depth) es i)
        (plan_sums left (depth + 1) (part (at_depth h p depth) es i)))
        ∙ sym (ap (sum_by f) (beneath_is left depth es))

-- ---- entries in bytewise order

module _ (P : List ℕ × Data → Type 0) where
  put_all : (k : List ℕ) (v : Data) (es : List (List ℕ × Data)) → find bytewise k es ≡ None → P (k, v) → AllByRecursion P es → AllByRecursion P (put bytewise k v es)
  put_all k v [] none here all = (here, tt)
  put_all k v (e ∷ es) none here all = by (λ n. put_all k v es n here all.1) (bytewise k e.0) none
    where
      by : (find bytewise k es ≡ None → AllByRecursion P (put bytewise k v es)) → (o : Ordering) → cond (is_eq o) (Some e.1) (find bytewise k es) ≡ None
          → AllByRecursion P (match_ordering o ((k, v) ∷ e ∷ es) ((e.0, v) ∷ es) (e ∷ put bytewise k v es))
      by more Less n = (here, all)
      by more Equal n = absurd (none-some e.1 (sym n))
      by more Greater n = (all.0, more n)

  put_parts : (k : List ℕ) (v : Data) (es : List (List ℕ × Data)) → find bytewise k es ≡ None → AllByRecursion P (put bytewise k v es) → P (k, v) × AllByRecursion P es
  put_parts k v [] none all = all
  put_parts k v (e ∷ es) none all = by (λ n rest. put_parts k v es n rest) (bytewise k e.0) none all
    where
      by : (find bytewise k es ≡ None → AllByRecursion P (put bytewise k v es) → P (k, v) × AllByRecursion P es) → (o : Ordering) → cond (is_eq o) (Some e.1) (find bytewise k es) ≡ None
          → AllByRecursion P (match_ordering o ((k, v) ∷ e ∷ es) ((e.0, v) ∷ es) (e ∷ put bytewise k v es)) → P (k, v) × AllByRecursion P (e ∷ es)
      by more Less n all = all
      by more Equal n all = absurd (none-some e.1 (sym n))
      by more Greater n all = let x = more n all.1 in (x.0, (all.0, x.1))

  first_none : (e : List ℕ × Data) (es : List (List ℕ × Data)) → not (is_some (find bytewise e.0 es)) ≡ true → find bytewise e.0 (in_byte_order es) ≡ None
  first_none e es one = find-sorted e.0 es ∙ none_from (find bytewise e.0 es) one

  pub order_all : (es : List (List ℕ × Data)) → no_key_twice es ≡ true → AllByRecursion P es → AllByRecursion P (in_byte_order es)
  order_all [] one all = tt
  order_all (e ∷ es) one all =
      let parts = and_parts (not (is_some (find bytewise e.0 es))) (no_key_twice es) one in
      put_all e.0 e.1 (in_byte_order es) (first_none e es parts.0) all.0 (order_all es parts.1 all.1)

  pub order_parts : (es : List (List ℕ × Data)) → no_key_twice es ≡ true → AllByRecursion P (in_byte_order es) → AllByRecursion P es
  order_parts [] one all = tt
  order_parts (e ∷ es) one all =
      let parts = and_parts (not (is_some (find bytewise e.0 es))) (no_key_twice es) one in
      let x = put_parts e.0 e.1 (in_byte_order es) (first_none e es parts.0) all in
      (x.0, order_parts es parts.1 x.1)

-- ---- tries

module _ (h : List ℕ → List ℕ) (p : HamtShape) where
  trie_known : (es : List (List ℕ × Data)) → no_key_twice es ≡ true → trie h p es 0 ≡ node_of h p (trie_levels p - 0) 0 (in_byte_order es)
  unfolding trie
  trie_known es one = ap (λ c. cond c (node_of h p (trie_levels p - 0) 0 (in_byte_order es)) None) one

  pub trie_node : (es : List (List ℕ × Data)) (node : Data) → trie h p es 0 ≡ Some node → (no_key_twice es ≡ true) × (node_of h p (trie_levels p - 0) 0 (in_byte_order es) ≡ Some node)
  unfolding trie
  trie_node es node e = if_from (no_key_twice es) (node_of h p (trie_levels p - 0) 0 (in_byte_order es)) node e

  pub tried : (es : List (List ℕ × Data)) (node : Data) → trie h p es 0 ≡ Some node → untried h p es ≡ 0
  tried es node e = ap {B = ℕ} (λ o. cond (is_none o) 1 0) e

  -- ---- a root that is written

  module _ (es fs : List (List ℕ × Data)) (order : in_byte_order es ≡ fs) (one : no_key_twice es ≡ true) (old new : List ℕ) (was now : Nodes) where
    known : trie h p es 0 ≡ node_of h p (trie_levels p - 0) 0 fs
    known = trie_known es one ∙ ap (node_of h p (trie_levels p - 0) 0) order

    pub root_added : (root : List ℕ) (none bs : List (List ℕ)) → PlansNode h p (trie_levels p - 0) 0 fs (Ok root) none bs → none ≡ [] → now.blocks.items ≡ was.blocks.items ++ bs → now.exhausted ≡ was.exhausted → now.long ≡ was.long
        → IsGrown old new → ((node : Data) → root ≡ spell node → new ≡ old ++ spell (root_map p node)) → AddsRoot h p es old new was now
    root_added root none bs plans empty blocks exhausted long grown written =
        let x = map_from spell (node_of h p (trie_levels p - 0) 0 fs) root (sym plans.0) in
        let every : trie_levels p - 0 ≡ trie_levels p = sub-zero (trie_levels p) in
        let all : bs ≡ planned h p (trie_levels p - 0) 0 fs = plans.1 ∙ ap (λ y. y ++ planned h p (trie_levels p - 0) 0 fs) empty in
        record {
          grown = grown;
          added = bs;
          blocks = blocks;
          follows = λ before. subst (λ y. Follows before y) (sym all) (plan-follows h p (trie_levels p - 0) 0 fs before);
          exhausted = subst (λ n. SetWhere was.exhausted n now.exhausted) (sym (tried es x.item (known ∙ x.there))) (subst (λ b. SetWhere was.exhausted 0 b) (sym exhausted) (set_none was.exhausted));
          long = long;
          spelled = λ node is. written node (sym (same_Some (spell x.item) root x.made) ∙ ap spell (same_Some x.item node (sym x.there ∙ sym known ∙ is)));
          plan = λ node is. all ∙ (λ i. planned h p (every i) 0 (sym order i));
          same = λ node is f. ap (sum_by f) all ∙ plan_sums f h p (trie_levels p - 0) 0 fs ∙ (λ i. sum_by f (nodes_beneath h p (every i) 0 (sym order i)));
        }

    pub root_missing : node_of h p (trie_levels p - 0) 0 fs ≡ None → now.blocks.items ≡ was.blocks.items → now.exhausted ≡ true → now.long ≡ was.long → new ≡ old → AddsRoot h p es old new was now
    root_missing none blocks exhausted long same =
        let all : trie h p es 0 ≡ None = known ∙ none in
        let one : untried h p es ≡ 1 = ap {B = ℕ} (λ o. cond (is_none o) 1 0) all in
        let set : told now.exhausted ≡ 1 = ap told exhausted in
        record {
          grown = record { more = []; is = same ∙ sym (append-nil old) };
          added = [];
          blocks = blocks ∙ sym (append-nil was.blocks.items);
          follows = λ before. tt;
          exhausted = record { set = λ k. omega (arith, set); only = λ k. omega (arith, one) };
          long = long;
          spelled = λ node is. absurd (none-some node (sym all ∙ is));
          plan = λ node is. absurd (none-some node (sym all ∙ is));
          same = λ node is f. absurd (none-some node (sym all ∙ is));
        }
