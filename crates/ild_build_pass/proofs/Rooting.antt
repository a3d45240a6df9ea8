-- The root map of a HAMT over its entries.
use Rattle.std.proofs.Common.{◌≡◌, inl, inr, ℕ, zero, suc, ◌+◌, ◌-◌, ◌≤◌, T, Bool, true, false, cond, ◌&&◌, is_none, is_some, List, [], ◌∷◌, ◌++◌, Option, Some, None, option_map, refl, sym, ap, ◌∙◌, arith, append_assoc}
use Rattle.std.specs.Prelude.{option_and_then}
use Rattle.std.specs.List.{AllByRecursion, sum_by}
use Rattle.std.specs.FinMap.{is_sorted}
use Rattle.std.specs.FinMap.Entries.{below_all}
use Rattle.std.specs.Ordering.{is_lt}
use Rattle.std.specs.declared.cmp.Ordering.{Ordering}
use Rattle.std.specs.declared.cmp.Ordering.TheVariants.{Less, Equal, Greater}
use Rattle.std.proofs.lemmas.List.Sums.{sum_by-append}
use Rattle.std.proofs.lemmas.Option.{same_Some}
use Rattle.std.proofs.Math.Nat.{sub-zero}
use Rattle.ild_bulk.proofs.Childs.{follows-append}
use Rattle.ild_data.specs.ByteOrder.{in_byte_order, no_key_twice}
use Rattle.ild_data.specs.Data.{Data}
use Rattle.ild_data.specs.Key.{key_cmp, IsBelow, Rises}
use Rattle.ild_data.specs.Spell.{spell}
use Rattle.ild_data.specs.Trie.{trie}
use Rattle.ild_data.specs.TrieBlocks.{nodes_beneath}
use Rattle.ild_data.specs.TrieShape.{trie_levels}
use Rattle.ild_data.specs.declared.hamt_shape.HamtShape.{HamtShape}
use Rattle.ild_data.proofs.Rising.{key_cmp_total, key_exact}
use Rattle.ild_schema.specs.declared.number.Slot.{Slot}
use Rattle.ild_schema.specs.declared.row.Row.{Row}
use Rattle.ild_schema.specs.Value.{Value, Pairs, pairs_list}
use Rattle.ild_hamt_trie.proofs.Orders.{no_key_twice-sorted}
use Rattle.ild_typed.specs.Hamt.{root_map, whole}
use Rattle.ild_typed.specs.Represented.{represented_pairs}
use Rattle.ild_typed.proofs.Basics.{map_from, then_from}
use Rattle.ild_build_entries.specs.Entries.{AddsRoot, untried}
use Rattle.ild_build_entries.specs.Entries.{over}
use Rattle.ild_build_entries.proofs.Roots.{order_parts, trie_node, tried}
use Rattle.ild_build_pass.specs.Weights.{Weight, bare_keys, beneath, beneath_of, crowded, entries_weight, hamt_made}
use Rattle.ild_build_entries.specs.Fine.{IsFine}
use Rattle.ild_build_pass.specs.Writes.{Exact, TooLong, Writes}
use Rattle.ild_build_entries.specs.declared.nodes.Nodes.{Nodes}
use Rattle.ild_build_pass.proofs.Crowds.{nulls, trie_nulls, twice_nulls}
use Rattle.ild_build_entries.proofs.Flags.{by_flag, never_set}
use Rattle.ild_build_pass.proofs.Flow.{over_more, set_then}
use Rattle.ild_build_pass.proofs.Gathering.{Gathered, are_data, one_data}
use Rattle.ild_build_pass.proofs.Judges.{uncrowded_pairs}
use Rattle.ild_build_pass.proofs.Inner.{hamt_placed}
use Rattle.ild_build_pass.proofs.Placing.{placed_more, placed_append}
use Rattle.ild_bulk.specs.Planned.{planned}
use Rattle.ild_build_pass.proofs.Longs.{IsShort, root_size, values_short}
use Rattle.ild_build_pass.proofs.Weighing.{pairs_weigh}

-- ---- keys that rise

both_T : (a b : Bool) → T a → T b → T (a && b)
both_T true b p q = q
both_T false b p q = absurd p

lt_T : (o : Ordering) → o ≡ Less → T (is_lt o)
lt_T Less e = tt
lt_T Equal e = absurd cc
lt_T Greater e = absurd cc

below_next : (k l : List ℕ) (ps : List (List ℕ × Value)) → key_cmp k l ≡ Less → IsBelow l ps → IsBelow k ps
below_next k l [] less below = tt
below_next k l (p ∷ ps) less below = key_cmp_total.trans k l p.0 less below

below_bare : (k : List ℕ) (ps : List (List ℕ × Value)) → IsBelow k ps → Rises ps → T (below_all key_cmp k (bare_keys ps))
below_bare k [] below up = tt
below_bare k (p ∷ ps) below up = both_T (is_lt (key_cmp k p.0)) (below_all key_cmp k (bare_keys ps)) (lt_T (key_cmp k p.0) below) (below_bare k ps (below_next k p.0 ps below up.0) up.1)

bare_sorted : (ps : List (List ℕ × Value)) → Rises ps → T (is_sorted key_cmp (bare_keys ps))
bare_sorted [] up = tt
bare_sorted (p ∷ ps) up = both_T (below_all key_cmp p.0 (bare_keys ps)) (is_sorted key_cmp (bare_keys ps)) (below_bare p.0 ps up.0 up.1) (bare_sorted ps up.1)

pub once_by_keys : (h : List ℕ → List ℕ) (shape : HamtShape) (ps : List (List ℕ × Value)) (es : List (List ℕ × Data)) → nulls es ≡ bare_keys ps → Rises ps → no_key_twice es ≡ true
once_by_keys h shape ps es keys up = sym (twice_nulls h shape es) ∙ ap no_key_twice keys ∙ no_key_twice-sorted key_cmp key_cmp_total key_exact (bare_keys ps) (bare_sorted ps up)

-- ---- tries

module _ (h : List ℕ → List ℕ) (p : HamtShape) where
  none_alike : (a b : Option Data) → is_some a ≡ is_some b → ◌≡◌ {A = ℕ} (cond (is_none a) 1 0) (cond (is_none b) 1 0)
  none_alike None None e = refl
  none_alike (Some x) (Some y) e = refl
  none_alike None (Some y) e = absurd cc
  none_alike (Some x) None e = absurd cc

  untried_is : (u : Slot) (ps : Pairs) (es : List (List ℕ × Data)) → nulls es ≡ bare_keys (pairs_list ps) → untried h p es ≡ crowded h p u ps
  untried_is u ps es keys =
      none_alike (trie h p es 0) (trie h p (bare_keys (pairs_list ps)) 0) (sym (trie_nulls h p es) ∙ ap (λ xs. is_some (trie h p xs 0)) keys)

-- ---- the whole HAMT

module _ (h : List ℕ → List ℕ) (p : HamtShape) (rows : List Row) (u : Slot) (ps : Pairs) where
  record Tree (s : List ℕ) : Type 0 where
    data_of : List (List ℕ × Data)
    node : Data
    are : represented_pairs (whole h) rows u ps ≡ Some data_of
    is : trie h p data_of 0 ≡ Some node
    spells : s ≡ spell (root_map p node)

  tree_of : (s : List ℕ) → hamt_made h p rows u ps ≡ Some s → Tree s
  tree_of s e =
      let x = map_from spell (option_map (root_map p) (option_and_then (λ es. trie h p es 0) (represented_pairs (whole h) rows u ps))) s e in
      let y = map_from (root_map p) (option_and_then (λ es. trie h p es 0) (represented_pairs (whole h) rows u ps)) x.item x.there in
      let z = then_from (λ es. trie h p es 0) (represented_pairs (whole h) rows u ps) y.item y.there in
      record {
        data_of = z.item;
        node = y.item;
        are = z.there;
        is = z.made;
        spells = sym (same_Some (spell x.item) s x.made) ∙ ap spell (sym (same_Some (root_map p y.item) x.item y.made));
      }

  beneath_tree : (f : List ℕ → ℕ) (s : List ℕ) (t : Tree s) → beneath h rows f p u ps ≡ sum_by f (nodes_beneath h p (trie_levels p) 0 (in_byte_order t.data_of))
  beneath_tree f s t =
      ap (λ o. sum_by f (beneath_of h p o)) t.are
      ∙ ap (λ o. sum_by f (cond (is_some o) (nodes_beneath h p (trie_levels p) 0 (in_byte_order t.data_of)) [])) t.is

  all_short : (s : List ℕ) (t : Tree s) → over s ≡ 0 → beneath h rows over p u ps ≡ 0 → AllByRecursion IsShort t.data_of
  all_short s t root below =
      let n = trie_node h p t.data_of t.node t.is in
      let less = over_more (spell t.node) (spell (root_map p t.node)) (root_size p t.node) in
      let same = ap over t.spells in
      let sum = beneath_tree over s t ∙ ap (λ l. sum_by over (nodes_beneath h p l 0 (in_byte_order t.data_of))) (sym (sub-zero (trie_levels p))) in
      order_parts IsShort t.data_of n.0 (values_short h p (trie_levels p - 0) 0 (in_byte_order t.data_of) t.node n.1 (omega (arith, root, less, same)) (omega (arith, below, sum)))

  module _ (es : List (List ℕ × Data)) (old new : List ℕ) (was mid now : Nodes) (g : Gathered h rows u (pairs_list ps) es was mid) (r : AddsRoot h p es old new mid now) where
    abbrev weight : Weight → ℕ
    weight μ = μ p u ps + entries_weight μ rows u (pairs_list ps)

    full_mid : (s : List ℕ) → Tree s → IsFine was → mid.exhausted ≡ false
    full_mid s t fine = never_set was.exhausted mid.exhausted (entries_weight (crowded h) rows u (pairs_list ps)) g.exhausted fine.exhausted (sym (pairs_weigh rows (crowded h) u ps) ∙ uncrowded_pairs h rows u ps t.data_of t.are)

    exact : (s : List ℕ) → Tree s → IsFine was → mid.long ≡ false → Exact h rows weight s old new (g.added ++ r.added) now
    exact s t fine short =
        let full = full_mid s t fine in
        let fine_mid : IsFine mid = record { exhausted = full; long = short } in
        let same = one_data h rows u (pairs_list ps) es t.data_of (g.are fine_mid) (are_data h rows u ps t.data_of t.are) in
        let is : trie h p es 0 ≡ Some t.node = ap (λ y. trie h p y 0) same ∙ t.is in
        record {
          spelled = r.spelled t.node is ∙ ap (λ y. old ++ y) (sym t.spells);
          blocks = λ f.
              let first = g.sums fine_mid f in
              let second = r.same t.node is f ∙ ap (λ y. sum_by f (nodes_beneath h p (trie_levels p) 0 (in_byte_order y))) same ∙ sym (beneath_tree f s t) in
              let all = sum_by-append f g.added r.added in
              omega (arith, first, second, all);
          placed = λ before.
              placed_append h rows weight before g.added r.added (placed_more h rows (λ μ. entries_weight μ rows u (pairs_list ps)) weight (λ μ. omega arith) before g.added (g.placed fine_mid before))
              (placed_more h rows (λ μ. μ p u ps) weight (λ μ. omega arith) (before ++ g.added) r.added
              (hamt_placed h rows u p ps t.data_of t.node before g.added r.added t.are t.is (g.sums fine_mid) (r.plan t.node is ∙ ap (λ y. planned h p (trie_levels p) 0 (in_byte_order y)) same)));
          fine = record { exhausted = never_set mid.exhausted now.exhausted (untried h p es) r.exhausted full (tried h p es t.node is); long = r.long ∙ short };
        }

    too_long : (s : List ℕ) → Tree s → IsFine was → mid.long ≡ true → TooLong h rows weight s now.long
    too_long s t fine long = record { marked = r.long ∙ long; long = by (over s + weight (beneath h rows over)) refl }
      where
        by : (n : ℕ) → over s + weight (beneath h rows over) ≡ n → 1 ≤ over s + weight (beneath h rows over)
        by (suc n) e = omega (arith, e)
        by zero e =
            let short = all_short s t (omega (arith, e)) (omega (arith, e)) in
            let some = g.long fine.long (full_mid s t fine) long t.data_of (are_data h rows u ps t.data_of t.are) short in
            absurd (omega (arith, e, some))

    pub hamt_written : Writes h rows (hamt_made h p rows u ps) (λ μ. μ p u ps + entries_weight μ rows u (pairs_list ps)) old new was now
    hamt_written = record {
      grown = r.grown;
      added = g.added ++ r.added;
      blocks = r.blocks ∙ ap (λ bs. bs ++ r.added) g.blocks ∙ append_assoc was.blocks.items g.added r.added;
      follows = λ before. follows-append before g.added r.added (g.follows before) (r.follows (before ++ g.added));
      exhausted = let e = untried_is h p u ps es g.keys in
          set_then was.exhausted mid.exhausted now.exhausted (entries_weight (crowded h) rows u (pairs_list ps)) (untried h p es) (crowded h p u ps + entries_weight (crowded h) rows u (pairs_list ps)) (omega (arith, e)) g.exhausted r.exhausted;
      stays = λ k. r.long ∙ g.stays k;
      exact = λ fine s is. let t = tree_of s is in by_flag mid.long (λ k. inr (too_long s t fine k)) (λ k. inl (exact s t fine k));
    }
