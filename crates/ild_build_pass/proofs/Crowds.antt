-- Whether entries have a trie is said by their keys alone.
use Rattle.std.proofs.Common.{◌≡◌, ℕ, zero, suc, ◌+◌, ◌-◌, ◌^◌, nat_le, ◌==◌, Bool, true, false, cond, not, ◌||◌, ◌&&◌, List, [], ◌∷◌, length, map, Option, Some, None, is_some, option_map, refl, sym, ap, ◌∙◌}
use Rattle.std.specs.List.{range_with_len}
use Rattle.std.specs.Ordering.{eq_by_cmp, match_ordering}
use Rattle.std.specs.declared.cmp.Ordering.{Ordering}
use Rattle.std.specs.declared.cmp.Ordering.TheVariants.{Less, Equal, Greater}
use Rattle.std.specs.FinMap.{find, put}
use Rattle.std.proofs.lemmas.Option.{same_Some}
use Rattle.ild_hamt_trie.proofs.Exhaust.{some_first}
use Rattle.ild_data.specs.ByteOrder.{bytewise, in_byte_order, no_key_twice}
use Rattle.ild_data.specs.Data as T
use Rattle.ild_data.specs.Data.{Data}
use Rattle.ild_data.specs.Trie.{all_some, at_depth, node_data, node_of, part, slot_of, slots_at, trie}
use Rattle.ild_data.specs.declared.hamt_shape.HamtShape.{HamtShape}
use Rattle.ild_data.specs.TrieShape.{trie_levels}
use Rattle.ild_hamt_trie.proofs.Node.{is_some-map, is_some-slot, no_node, node-slots}
use Rattle.ild_schema.specs.declared.number.Slot.{Slot}
use Rattle.ild_schema.specs.declared.row.Row.{Row}
use Rattle.ild_schema.specs.Value as V
use Rattle.ild_schema.specs.Value.{Pairs, pairs_list}
use Rattle.ild_typed.specs.Composed.{Hamts}
use Rattle.ild_typed.specs.Represented.{represented, represented_pairs}
use Rattle.ild_typed.proofs.Basics.{map_from}
use Rattle.ild_typed.proofs.Entries.{both_from}
use Rattle.ild_build_pass.specs.Weights.{bare_keys}

-- null at each key
abbrev pub nulls : List (List ℕ × Data) → List (List ℕ × Data)
nulls es = map (λ (e : List ℕ × Data). (e.0, T.null)) es

-- ---- one node

nulls_length : (es : List (List ℕ × Data)) → length (nulls es) ≡ length es
nulls_length [] = refl
nulls_length (e ∷ es) = ap suc (nulls_length es)

nulls_part : (at : List ℕ → ℕ) (es : List (List ℕ × Data)) (i : ℕ) → part at (nulls es) i ≡ nulls (part at es i)
nulls_part at [] i = refl
nulls_part at (e ∷ es) i = by (nulls_part at es i) (at e.0 == i)
  where
    by : part at (nulls es) i ≡ nulls (part at es i) → (b : Bool) → cond b ((e.0, T.null) ∷ part at (nulls es) i) (part at (nulls es) i) ≡ nulls (cond b (e ∷ part at es i) (part at es i))
    by more true = ap (λ xs. (e.0, T.null) ∷ xs) more
    by more false = more

all_alike : {X Y : Type 0} (f g : X → Option Y) (xs : List X) → ((x : X) → is_some (f x) ≡ is_some (g x)) → is_some (all_some (map f xs)) ≡ is_some (all_some (map g xs))
all_alike f g [] each = refl
all_alike f g (x ∷ xs) each = some_first (f x) (map f xs) ∙ (λ i. each x i && all_alike f g xs each i) ∙ sym (some_first (g x) (map g xs))

module _ (h : List ℕ → List ℕ) (p : HamtShape) where
  node_nulls : (left depth : ℕ) (es : List (List ℕ × Data)) → is_some (node_of h p left depth (nulls es)) ≡ is_some (node_of h p left depth es)
  node_nulls zero depth es = ap is_some (no_node h p depth (nulls es)) ∙ sym (ap is_some (no_node h p depth es))
  node_nulls (suc left) depth es =
      let below = node_of h p left (depth + 1) in
      let one : (xs : List (List ℕ × Data)) → is_some (slot_of p.bucket below (nulls xs)) ≡ is_some (slot_of p.bucket below xs)
      = λ xs. is_some-slot p.bucket below (nulls xs) ∙ (λ i. nat_le (nulls_length xs i) p.bucket || node_nulls left (depth + 1) xs i) ∙ sym (is_some-slot p.bucket below xs) in
      ap is_some (node-slots h p left depth (nulls es)) ∙ is_some-map node_data (slots_at h p left depth (nulls es))
      ∙ all_alike (λ i. slot_of p.bucket below (part (at_depth h p depth) (nulls es) i)) (λ i. slot_of p.bucket below (part (at_depth h p depth) es i)) (range_with_len 0 (2 ^ p.width))
      (λ i. ap (λ xs. is_some (slot_of p.bucket below xs)) (nulls_part (at_depth h p depth) es i) ∙ one (part (at_depth h p depth) es i))
      ∙ sym (ap is_some (node-slots h p left depth es) ∙ is_some-map node_data (slots_at h p left depth es))

  -- ---- the order, and keys that stand twice

  find_nulls : (k : List ℕ) (es : List (List ℕ × Data)) → is_some (find bytewise k (nulls es)) ≡ is_some (find bytewise k es)
  find_nulls k [] = refl
  find_nulls k (e ∷ es) = by (find_nulls k es) (eq_by_cmp bytewise k e.0)
    where
      by : is_some (find bytewise k (nulls es)) ≡ is_some (find bytewise k es) → (b : Bool) → is_some (cond b (Some T.null) (find bytewise k (nulls es))) ≡ is_some (cond b (Some e.1) (find bytewise k es))
      by more true = refl
      by more false = more

  pub twice_nulls : (es : List (List ℕ × Data)) → no_key_twice (nulls es) ≡ no_key_twice es
  twice_nulls [] = refl
  twice_nulls (e ∷ es) = λ i. not (find_nulls e.0 es i) && twice_nulls es i

  put_nulls : (k : List ℕ) (d : Data) (es : List (List ℕ × Data)) → put bytewise k T.null (nulls es) ≡ nulls (put bytewise k d es)
  put_nulls k d [] = refl
  put_nulls k d (e ∷ es) = by (put_nulls k d es) (bytewise k e.0)
    where
      by : put bytewise k T.null (nulls es) ≡ nulls (put bytewise k d es) → (o : Ordering) → match_ordering o ((k, T.null) ∷ (e.0, T.null) ∷ nulls es) ((e.0, T.null) ∷ nulls es) ((e.0, T.null) ∷ put bytewise k T.null (nulls es))
          ≡ nulls (match_ordering o ((k, d) ∷ e ∷ es) ((e.0, d) ∷ es) (e ∷ put bytewise k d es))
      by more Less = refl
      by more Equal = refl
      by more Greater = ap (λ xs. (e.0, T.null) ∷ xs) more

  order_nulls : (es : List (List ℕ × Data)) → in_byte_order (nulls es) ≡ nulls (in_byte_order es)
  order_nulls [] = refl
  order_nulls (e ∷ es) = ap (put bytewise e.0 T.null) (order_nulls es) ∙ put_nulls e.0 e.1 (in_byte_order es)

  pub trie_nulls : (es : List (List ℕ × Data)) → is_some (trie h p (nulls es) 0) ≡ is_some (trie h p es 0)
  unfolding trie
  trie_nulls es = ap (λ c. is_some (cond c (node_of h p (trie_levels p - 0) 0 (in_byte_order (nulls es))) None)) (twice_nulls es) ∙ pick (no_key_twice es)
    where
      same : is_some (node_of h p (trie_levels p - 0) 0 (in_byte_order (nulls es))) ≡ is_some (node_of h p (trie_levels p - 0) 0 (in_byte_order es))
      same = ap (λ xs. is_some (node_of h p (trie_levels p - 0) 0 xs)) (order_nulls es) ∙ node_nulls (trie_levels p - 0) 0 (in_byte_order es)

      pick : (b : Bool) → is_some (cond b (node_of h p (trie_levels p - 0) 0 (in_byte_order (nulls es))) None) ≡ is_some (cond b (node_of h p (trie_levels p - 0) 0 (in_byte_order es)) None)
      pick true = same
      pick false = refl

-- ---- the keys of a value's entries

pub nulls_keys : (at : Hamts) (rows : List Row) (u : Slot) (ps : Pairs) (es : List (List ℕ × Data)) → represented_pairs at rows u ps ≡ Some es → nulls es ≡ bare_keys (pairs_list ps)
nulls_keys at rows u V.no_pairs es e = ap nulls (sym (same_Some {A = List (List ℕ × Data)} [] es e))
nulls_keys at rows u (V.pair k v ps) es e =
    let b = both_from (option_map {U = List ℕ × Data} (λ d. (k, d)) (represented at rows u v)) (represented_pairs at rows u ps) es e in
    let x = map_from {B = List ℕ × Data} (λ d. (k, d)) (represented at rows u v) b.item b.first in
    let same : (k, x.item) ≡ b.item = same_Some {A = List ℕ × Data} (k, x.item) b.item x.made in
    ap nulls (sym b.all) ∙ ap (λ (q : List ℕ × Data). (q.0, T.null) ∷ nulls b.items) (sym same) ∙ ap (λ xs. (k, T.null) ∷ xs) (nulls_keys at rows u ps b.items b.rest)
