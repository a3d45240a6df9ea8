-- What the blocks of a HAMT give, in the order of keys: the entries of its root; and values of entries that stand in another order.
use Rattle.std.proofs.Common.{◌≡◌, ℕ, ◌+◌, ◌-◌, List, [], ◌∷◌, length, map, Bool, true, false, cond, not, Option, Some, None, is_some, refl, sym, ◌∙◌, ap, subst}
use Rattle.std.specs.Prelude.{sum_by}
use Rattle.std.specs.FinMap.{find}
use Rattle.std.specs.List.{AllByRecursion}
use Rattle.std.specs.List.Sorted.{IsPermutation}
use Rattle.std.specs.Ordering.{eq_by_cmp, match_ordering}
use Rattle.std.specs.declared.cmp.Ordering.{Ordering}
use Rattle.std.specs.declared.cmp.Ordering.TheVariants.{Less, Equal, Greater}
use Rattle.std.proofs.lemmas.Bool.{and_parts}
use Rattle.std.proofs.lemmas.Option.{none-some}
use Rattle.std.proofs.lemmas.List.Sorted.{IsPermutation-cons, IsPermutation-middle, IsPermutation-refl, IsPermutation-sym, IsPermutation-trans, sum_by-IsPermutation}
use Rattle.std.proofs.lemmas.List.Sums.{sum_by-cons}
use Rattle.ild_data.specs.ByteOrder.{bytewise, in_byte_order, no_key_twice}
use Rattle.ild_data.specs.Data.{Data}
use Rattle.ild_data.specs.Key.{key_cmp, put}
use Rattle.ild_data.specs.Trie.{TrieSlot, node_data, node_of, trie}
use Rattle.ild_data.specs.TrieShape.{trie_levels}
use Rattle.ild_data.specs.declared.hamt_shape.HamtShape.{HamtShape}
use Rattle.ild_data.proofs.Rising.{key_exact}
use Rattle.ild_edges.specs.Store.{block_at}
use Rattle.ild_hamt_trie.proofs.Node.{trie-sorted}
use Rattle.ild_hamt_trie.proofs.Pairs.{find-permutation, none_from}
use Rattle.ild_hamt_trie.proofs.Parts.{key_itself, sorted_alike}
use Rattle.ild_node_slots.specs.Form.{IsNode}
use Rattle.ild_schema.specs.Value.{Value}
use Rattle.ild_schema.specs.declared.number.Slot.{Slot}
use Rattle.ild_schema.specs.declared.row.Row.{Row}
use Rattle.ild_typed.specs.Blocks.{nodes}
use Rattle.ild_typed.specs.Known.{AreKnown, HeldNode}
use Rattle.ild_typed.specs.Node.{IsRoot}
use Rattle.ild_typed.specs.Strings.{in_key_order}
use Rattle.ild_typed.proofs.Rising.{rises_sorted}
use Rattle.ild_bulk_walker.specs.Gives.{RootGives}
use Rattle.ild_bulk_walker.proofs.Tried.{given-is-trie}
use Rattle.ild_open_held.specs.Entries.{IsRootOf}
use Rattle.ild_open_held.specs.Held.{IsHeld}
use Rattle.ild_open_held.specs.Splits.{PartsHaveValues, entry_parts, nodes_in}
use Rattle.ild_open_held.proofs.Permuted.{lifted}
use Rattle.ild_open_held.proofs.Trieing.{root_of_trie}
use Rattle.ild_open_rows.proofs.Rooting.{holds_known}
use Rattle.ild_open_rows.proofs.Trees.{all_moved}

-- ---- pairs in the order of keys

none_parts : (b : Bool) (d : Data) (o : Option Data) → cond b (Some d) o ≡ None → (b ≡ false) × (o ≡ None)
none_parts true d o e = absurd (none-some d (sym e))
none_parts false d o e = (refl, e)

-- a pair is put among others of which none has its key
put_moved : (k : List ℕ) (v : Data) (ms : List (List ℕ × Data)) → find bytewise k ms ≡ None → IsPermutation ((k, v) ∷ ms) (put k v ms)
put_moved k v [] none = IsPermutation-refl ((k, v) ∷ [])
put_moved k v (m ∷ ms) none =
    let parts = none_parts (eq_by_cmp bytewise k m.0) m.1 (find bytewise k ms) none in
    by (key_cmp k m.0) refl parts.0 (put_moved k v ms parts.1)
  where
    by : (o : Ordering) → key_cmp k m.0 ≡ o → eq_by_cmp bytewise k m.0 ≡ false → IsPermutation ((k, v) ∷ ms) (put k v ms) → IsPermutation ((k, v) ∷ m ∷ ms) (match_ordering o ((k, v) ∷ m ∷ ms) ((k, v) ∷ ms) (m ∷ put k v ms))
    by Less is apart more = IsPermutation-refl ((k, v) ∷ m ∷ ms)
    by Equal is apart more = let same : eq_by_cmp bytewise k m.0 ≡ true = ap (eq_by_cmp bytewise k) (sym (key_exact k m.0 is)) ∙ key_itself k in absurd cc
    by Greater is apart more =
        IsPermutation-trans ((k, v) ∷ m ∷ ms) (m ∷ (k, v) ∷ ms) (m ∷ put k v ms) (IsPermutation-sym (m ∷ (k, v) ∷ ms) ((k, v) ∷ m ∷ ms) (IsPermutation-middle (m ∷ []) (k, v) ms))
        (IsPermutation-cons m ((k, v) ∷ ms) (put k v ms) more)

sorted_moved : (es : List (List ℕ × Data)) → no_key_twice es ≡ true → IsPermutation es (in_key_order es)
sorted_moved [] once = IsPermutation-refl []
sorted_moved (e ∷ es) once =
    let parts = and_parts (not (is_some (find bytewise e.0 es))) (no_key_twice es) once in
    let more = sorted_moved es parts.1 in
    let none : find bytewise e.0 (in_key_order es) ≡ None = sym ((find-permutation es (in_key_order es) more parts.1).1 e.0) ∙ none_from (find bytewise e.0 es) parts.0 in
    IsPermutation-trans (e ∷ es) (e ∷ in_key_order es) (in_key_order (e ∷ es)) (IsPermutation-cons e es (in_key_order es) more) (put_moved e.0 e.1 (in_key_order es) none)

-- the root of the tree that gives entries splits into them, in the order of keys
pub record IsOrdered (h : List ℕ → List ℕ) (p : HamtShape) (held : List (List ℕ)) (t : Data) (es : List (List ℕ × Data)) : Type 0 where
  pub entries : List (List ℕ × Data)
  pub moved : IsPermutation es entries
  pub root : IsRootOf (block_at held) h p t entries

pub ordered : (h : List ℕ → List ℕ) (p : HamtShape) (held : List (List ℕ)) (t : Data) (slots : List TrieSlot) (es : List (List ℕ × Data)) → IsRoot p slots t → RootGives h p held (trie_levels p - 1) slots es → IsOrdered h p held t es
ordered h p held t slots es is gives =
    let form : IsNode p slots = record { many = is.indices; each = is.each } in
    let y = given-is-trie p h held slots es form gives in
    let fs : List (List ℕ × Data) = in_key_order es in
    let moved = sorted_moved es y.distinct in
    let both = find-permutation es fs moved y.distinct in
    let same : in_byte_order es ≡ in_byte_order fs = sorted_alike es fs both.1 in
    let whole : trie h p fs 0 ≡ Some (node_data slots) = trie-sorted h p fs 0 both.0 ∙ ap (λ gs. node_of h p (trie_levels p - 0) 0 gs) (sym same) ∙ sym (trie-sorted h p es 0 y.distinct) ∙ y.tree in
    let known = subst (λ gs. AreKnown h p (HeldNode (block_at held)) (trie_levels p) 0 gs) same (holds_known h p held (trie_levels p) 0 (in_byte_order es) y.holds) in
    record { entries = fs; moved = moved; root = root_of_trie (block_at held) h p t (node_data slots) fs (rises_sorted es) known whole is.tree }

-- ---- values of entries in another order

record Valued : Type 0 where
  entry : List ℕ × Data
  value : Value

abbrev entries_in : List Valued → List (List ℕ × Data)
entries_in qs = map (λ q. q.entry) qs

abbrev values_in : List Valued → List Value
values_in qs = map (λ q. q.value) qs

module _ (block : List ℕ → Option (List ℕ)) (h : List ℕ → List ℕ) (rows : List Row) (room : ℕ) (u : Slot) where
  abbrev IsOwn : Valued → Type 0
  IsOwn q = IsHeld block h rows room u q.entry.1 q.value

  abbrev many_of : Valued → ℕ
  many_of q = length (nodes h rows u q.value)

  record Zipped (es : List (List ℕ × Data)) (vs : List Value) : Type 0 where
    pairs : List Valued
    are : entries_in pairs ≡ es
    own : AllByRecursion IsOwn pairs
    many : sum_by many_of pairs ≡ nodes_in h rows (entry_parts u es) vs

  zipped : (es : List (List ℕ × Data)) (vs : List Value) → PartsHaveValues block h rows room (entry_parts u es) vs → Zipped es vs
  zipped [] [] all = record { pairs = []; are = refl; own = tt; many = refl }
  zipped [] (v ∷ vs) all = absurd all
  zipped (e ∷ es) [] all = absurd all
  zipped (e ∷ es) (v ∷ vs) all =
      let r = zipped es vs all.1 in
      let q : Valued = record { entry = e; value = v } in
      record { pairs = q ∷ r.pairs; are = ap (λ xs. e ∷ xs) r.are; own = (all.0, r.own); many = sum_by-cons many_of q r.pairs ∙ ap (λ n. length (nodes h rows u v) + n) r.many }

  unzipped : (qs : List Valued) → AllByRecursion IsOwn qs → PartsHaveValues block h rows room (entry_parts u (entries_in qs)) (values_in qs)
  unzipped [] all = tt
  unzipped (q ∷ qs) all = (all.0, unzipped qs all.1)

  counted : (qs : List Valued) → nodes_in h rows (entry_parts u (entries_in qs)) (values_in qs) ≡ sum_by many_of qs
  counted [] = refl
  counted (q ∷ qs) = ap (λ n. length (nodes h rows u q.value) + n) (counted qs) ∙ sym (sum_by-cons many_of q qs)

  -- as many nodes
  pub record AreMoved (es fs : List (List ℕ × Data)) (vs : List Value) : Type 0 where
    pub values : List Value
    pub are : PartsHaveValues block h rows room (entry_parts u fs) values
    pub many : nodes_in h rows (entry_parts u fs) values ≡ nodes_in h rows (entry_parts u es) vs

  pub values_moved : (es fs : List (List ℕ × Data)) (vs : List Value) → IsPermutation es fs → PartsHaveValues block h rows room (entry_parts u es) vs → AreMoved es fs vs
  values_moved es fs vs moved all =
      let z = zipped es vs all in
      let l = lifted (λ (q : Valued). q.entry) z.pairs fs (subst (λ xs. IsPermutation xs fs) (sym z.are) moved) in
      let own = all_moved IsOwn z.pairs l.elements l.moved z.own in
      record {
        values = values_in l.elements;
        are = subst (λ xs. PartsHaveValues block h rows room (entry_parts u xs) (values_in l.elements)) l.made (unzipped l.elements own);
        many = ap (λ xs. nodes_in h rows (entry_parts u xs) (values_in l.elements)) (sym l.made) ∙ counted l.elements ∙ sum_by-IsPermutation many_of z.pairs l.elements l.moved ∙ z.many;
      }
