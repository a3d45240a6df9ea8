-- The trie of a HAMT whose entry at a key is another, or goes: there is one where there was one.
use Rattle.std.proofs.Common.{cond, ◌≡◌, ◌-◌, ℕ, suc, List, [], ◌∷◌, length, nat_le, Bool, true, false, Option, Some, None, refl, ap, sym, ◌∙◌}
use Rattle.std.specs.Prelude.{is_some, is_none}
use Rattle.std.specs.FinMap.{find, put as insert}
use Rattle.std.specs.Ordering.{match_ordering, eq_by_cmp}
use Rattle.std.specs.declared.cmp.Ordering.{Ordering}
use Rattle.std.specs.declared.cmp.Ordering.TheVariants.{Less, Equal, Greater}
use Rattle.ild_data.specs.ByteOrder.{bytewise, in_byte_order, IsInOrder}
use Rattle.ild_data.specs.Data.{Data}
use Rattle.ild_data.specs.Key.{Rises, value_at, put, without}
use Rattle.ild_data.specs.Trie.{node_of, trie}
use Rattle.ild_data.proofs.Rising.{rises_put, rises_without}
use Rattle.ild_hamt_trie.specs.Way.{along}
use Rattle.ild_hamt_trie.proofs.Levels.{levels-first}
use Rattle.ild_hamt_trie.proofs.Node.{set-exhausts, remove-stands, trie-sorted}
use Rattle.ild_hamt_trie.proofs.Parts.{same_key, same_by_find, in_order-put, in_order-sorted, find-sorted, find-put_at}
use Rattle.ild_data.specs.TrieShape.{trie_levels}
use Rattle.ild_data.specs.declared.hamt_shape.HamtShape.{HamtShape}
use Rattle.ild_path_held.proofs.Orders.{same_find, once, sorted_put, sorted_without}

-- a key is put as often, whatever its value
same_length : (k : List ℕ) (d e : Data) (es : List (List ℕ × Data)) → length (insert bytewise k d es) ≡ length (insert bytewise k e es)
same_length k d e [] = refl
same_length k d e (x ∷ xs) = by (bytewise k x.0) (same_length k d e xs) where
  by : (o : Ordering) → length (insert bytewise k d xs) ≡ length (insert bytewise k e xs)
      → length (match_ordering o ((k, d) ∷ x ∷ xs) ((x.0, d) ∷ xs) (x ∷ insert bytewise k d xs)) ≡ length (match_ordering o ((k, e) ∷ x ∷ xs) ((x.0, e) ∷ xs) (x ∷ insert bytewise k e xs))
  by Less rest = refl
  by Equal rest = refl
  by Greater rest = ap suc rest

-- what is there, put again
put_itself : (k : List ℕ) (e : Data) (es : List (List ℕ × Data)) → IsInOrder es → find bytewise k es ≡ Some e → insert bytewise k e es ≡ es
put_itself k e es order there = same_by_find (insert bytewise k e es) es (in_order-put k e es order) order (λ q. find-put_at q k e es ∙ by q (eq_by_cmp bytewise q k) refl) where
  by : (q : List ℕ) (b : Bool) → eq_by_cmp bytewise q k ≡ b → cond b (Some e) (find bytewise q es) ≡ find bytewise q es
  by q true same = sym there ∙ ap (λ x. find bytewise x es) (sym (same_key q k same))
  by q false other = refl

module _ (h : List ℕ → List ℕ) (p : HamtShape) (es : List (List ℕ × Data)) (up : Rises es) (is : is_some (trie h p es 0) ≡ true) where
  abbrev sorted : List (List ℕ × Data)
  sorted = in_byte_order es

  -- the levels below the first
  abbrev left : ℕ
  left = trie_levels p - 1

  abbrev node_in : List (List ℕ × Data) → Option Data
  node_in xs = node_of h p (suc left) 0 xs

  tried : (xs : List (List ℕ × Data)) → Rises xs → trie h p xs 0 ≡ node_in (in_byte_order xs)
  tried xs rises = trie-sorted h p xs 0 (once xs rises) ∙ ap (λ l. node_of h p l 0 (in_byte_order xs)) (levels-first p)

  node_there : is_some (node_in sorted) ≡ true
  node_there = sym (ap is_some (tried es up)) ∙ is

  pub trie_put : (k : List ℕ) (d e : Data) → value_at k es ≡ Some e → is_some (trie h p (put k d es) 0) ≡ true
  trie_put k d e there =
      let order = in_order-sorted es in
      let found : find bytewise k sorted ≡ Some e = find-sorted k es ∙ same_find k es ∙ there in
      let way = along h p k (suc left) 0 sorted in
      ap is_some (tried (put k d es) (rises_put k d es up) ∙ ap node_in (sym (sorted_put k d es)))
      ∙ set-exhausts h p left 0 sorted k d order node_there ∙ ap (λ n. nat_le n p.bucket) (same_length k d e way)
      ∙ sym (set-exhausts h p left 0 sorted k e order node_there) ∙ ap (λ xs. is_some (node_in xs)) (put_itself k e sorted order found) ∙ node_there

  pub trie_without : (k : List ℕ) → is_some (trie h p (without k es) 0) ≡ true
  trie_without k =
      ap is_some (tried (without k es) (rises_without k es up) ∙ ap node_in (sym (sorted_without k es up)))
      ∙ remove-stands h p left 0 sorted k (in_order-sorted es) node_there

pub some_is : {X : Type 0} (o : Option X) → is_some o ≡ true → is_none o ≡ false
some_is None e = absurd cc
some_is (Some x) e = refl
