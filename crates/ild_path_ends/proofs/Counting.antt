-- The nodes on the way of a key that has gone.
use Rattle.std.proofs.Common.{◌≡◌, ℕ, Bool, true, false, List, [], ◌∷◌, length, Option, Some, refl, sym, ap, ◌∙◌, subst}
use Rattle.std.specs.Prelude.{cond, is_some, option_map}
use Rattle.std.specs.Option.{option_map_or}
use Rattle.std.proofs.lemmas.Option.{same_Some}
use Rattle.ild_data.specs.ByteOrder.{in_byte_order, without as remove}
use Rattle.ild_data.specs.Data.{Data}
use Rattle.ild_data.specs.Key.{same_text, without}
use Rattle.ild_data.specs.Trie.{trie}
use Rattle.ild_data.specs.TrieShape.{trie_levels}
use Rattle.ild_hamt_trie.specs.Way.{way}
use Rattle.ild_schema.specs.declared.def.TypeDef.{TypeDef}
use Rattle.ild_schema.specs.declared.number.Slot.{Slot}
use Rattle.ild_schema.specs.declared.row.Row.{Row}
use Rattle.ild_schema.specs.Slots.{form_of}
use Rattle.ild_schema.specs.Value.{Value, Pairs, pairs_of, pairs_list}
use Rattle.ild_typed.specs.Hamt.{root_map, whole}
use Rattle.ild_typed.specs.Represented.{represented, represented_pairs}
use Rattle.ild_typed.specs.Strings.{cons_both}
use Rattle.ild_typed.proofs.Basics.{map_from}
use Rattle.ild_typed.proofs.Entries.{both_from}
use Rattle.ild_typed_fronts.proofs.Pathing.{pairs_back}
use Rattle.ild_path_nodes.specs.NodeLaws.{IsHamt}
use Rattle.ild_path_held.specs.Hamts.{IsTrieIn}
use Rattle.ild_path_held.proofs.Orders.{sorted_without}
use Rattle.ild_path_held.proofs.Tries.{map_data}
use Rattle.ild_path_entered.specs.Entered.{without_entry}
use Rattle.ild_path_outward.proofs.Counting.{met_length}
use Rattle.ild_path_way.specs.Way.{nodes_for, nodes_on}
use Rattle.ild_script_meaning.specs.Costs.{met_in}

module _ (h : List ℕ → List ℕ) (rows : List Row) (elem : Slot) where
  abbrev data_of_pairs : List (List ℕ × Value) → Option (List (List ℕ × Data))
  data_of_pairs xs = represented_pairs (whole h) rows elem (pairs_of xs)

  record Split (x : List ℕ × Value) (xs : List (List ℕ × Value)) (es : List (List ℕ × Data)) : Type 0 where
    own : Data
    own_is : represented (whole h) rows elem x.1 ≡ Some own
    rest : List (List ℕ × Data)
    rest_is : data_of_pairs xs ≡ Some rest
    all : es ≡ (x.0, own) ∷ rest

  split : (x : List ℕ × Value) (xs : List (List ℕ × Value)) (es : List (List ℕ × Data)) → data_of_pairs (x ∷ xs) ≡ Some es → Split x xs es
  split x xs es e =
      let b = both_from (option_map {U = List ℕ × Data} (λ d. (x.0, d)) (represented (whole h) rows elem x.1)) (data_of_pairs xs) es e in
      let o = map_from {B = List ℕ × Data} (λ d. (x.0, d)) (represented (whole h) rows elem x.1) b.item b.first in
      record { own = o.item; own_is = o.there; rest = b.items; rest_is = b.rest; all = sym (ap (λ p. p ∷ b.items) (same_Some (x.0, o.item) b.item o.made) ∙ b.all) }

  joined : (k : List ℕ) (w : Value) (d : Data) (xs : List (List ℕ × Value)) (es : List (List ℕ × Data)) → represented (whole h) rows elem w ≡ Some d → data_of_pairs xs ≡ Some es → data_of_pairs ((k, w) ∷ xs) ≡ Some ((k, d) ∷ es)
  joined k w d xs es e g = λ i. cons_both (option_map {U = List ℕ × Data} (λ d. (k, d)) (e i)) (g i)

  -- the data of the pairs without a key
  cut_data : (k : List ℕ) (xs : List (List ℕ × Value)) (es : List (List ℕ × Data)) → data_of_pairs xs ≡ Some es → data_of_pairs (without k xs) ≡ Some (without k es)
  cut_data k [] es e = subst (λ es. data_of_pairs [] ≡ Some (without k es)) (same_Some [] es e) refl
  cut_data k (x ∷ xs) es e =
      let y = split x xs es e in
      subst (λ es. data_of_pairs (without k (x ∷ xs)) ≡ Some (without k es)) (sym y.all) (by (same_text k x.0) y (cut_data k xs y.rest y.rest_is))
    where
      by : (b : Bool) (y : Split x xs es) → data_of_pairs (without k xs) ≡ Some (without k y.rest) → data_of_pairs (cond b xs (x ∷ without k xs)) ≡ Some (cond b y.rest ((x.0, y.own) ∷ without k y.rest))
      by true y later = y.rest_is
      by false y later = joined x.0 x.1 y.own (without k xs) (without k y.rest) y.own_is later

-- a map with data from which an entry has gone has for its key the nodes on the key's way in the trie of the others
pub cut_met : (h : List ℕ → List ℕ) (rows : List Row) (held : List (List ℕ)) (s elem : Slot) (ps : Pairs) (t : Data) (es : List (List ℕ × Data)) (is : IsHamt rows s elem) → IsTrieIn h is.3 rows held elem ps t es
    → (k : List ℕ) (x : Data) → represented (whole h) rows s (without_entry k ps) ≡ Some x
    → nodes_for h rows (form_of rows s) (without_entry k ps) k ≡ way h is.3 k (trie_levels is.3) 0 (remove k es)
cut_met h rows held s elem ps t es is tried k x made =
    let xs = pairs_list ps in
    let pairs : List (List ℕ × Data) = without k tried.pairs in
    let e : represented_pairs (whole h) rows elem (pairs_of (without k xs)) ≡ Some pairs = cut_data h rows elem k xs tried.pairs (ap (represented_pairs (whole h) rows elem) (pairs_back ps) ∙ tried.represents) in
    let y = map_from (root_map is.3) (trie h is.3 pairs 0) x (sym (map_data h rows s elem is (pairs_of (without k xs)) pairs e) ∙ made) in
    let order : remove k es ≡ in_byte_order pairs = ap (remove k) tried.order ∙ sorted_without k tried.pairs tried.rises in
    ap (λ (o : Option TypeDef). nodes_for h rows o (without_entry k ps) k) is.4
    ∙ ap (λ o. option_map_or (nodes_on h is.3 k) o []) e
    ∙ ap (λ (o : Option Data). cond (is_some o) (way h is.3 k (trie_levels is.3) 0 (in_byte_order pairs)) []) y.there
    ∙ ap (λ fs. way h is.3 k (trie_levels is.3) 0 fs) (sym order)

pub cut_counted : (h : List ℕ → List ℕ) (rows : List Row) (held : List (List ℕ)) (s elem : Slot) (ps : Pairs) (t : Data) (es : List (List ℕ × Data)) (is : IsHamt rows s elem) → IsTrieIn h is.3 rows held elem ps t es
    → (k : List ℕ) (x : Data) → represented (whole h) rows s (without_entry k ps) ≡ Some x
    → met_in h rows (form_of rows s) (without_entry k ps) k ≡ length (way h is.3 k (trie_levels is.3) 0 (remove k es))
cut_counted h rows held s elem ps t es is tried k x made =
    met_length h rows (form_of rows s) (without_entry k ps) k ∙ ap (λ (bs : List (List ℕ)). length bs) (cut_met h rows held s elem ps t es is tried k x made)
