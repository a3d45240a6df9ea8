-- What stands in the buckets of a HAMT's nodes is within the limits of a block.
use Rattle.std.proofs.Common.{◌≡◌, ℕ, ◌+◌, ◌≤◌, List, [], ◌∷◌, ◌++◌, length, map, flat_map, Option, append_assoc, append-nil, sym, ◌∙◌, ap, subst, arith}
use Rattle.std.specs.List.{All, AllByRecursion}
use Rattle.std.proofs.lemmas.List.Elements.{recursion_from_All}
use Rattle.ild_bulk_walker.specs.OnTree.{HasNode}
use Rattle.ild_bulk_walker.specs.Standing.{StandsThere}
use Rattle.ild_bulk_walker.specs.declared.row.Row.{Row as Listed}
use Rattle.ild_cbor.proofs.Insides.{part_within}
use Rattle.ild_data.proofs.AllOf.{all_at}
use Rattle.ild_data.proofs.Lists.{items_list-items_of}
use Rattle.ild_data.specs.Data as T
use Rattle.ild_data.specs.Data.{Data, Items, Members, bytes, depth, item, items_depth, items_list, items_of, list, member, members_list, no_items}
use Rattle.ild_data.specs.Limits.{IsWithin}
use Rattle.ild_data.specs.Spell.{head, spell, spell_items, spell_members, spell_text}
use Rattle.ild_data.specs.Tree.{AreTrees}
use Rattle.ild_data.specs.Trie.{TrieSlot, empty, bucket, child, bucket_entries, elements_of, entry_data, map_of, node_data}
use Rattle.ild_data.specs.declared.hamt_shape.HamtShape.{HamtShape}
use Rattle.ild_typed.specs.Hamt.{root_map}
use Rattle.ild_typed.specs.Node.{IsRoot}
use Rattle.ild_open_parts.specs.Hamts.{IsSpelledRow}

-- ---- the parts of a list, and the node in a root

items_within : (ds : Items) (t : Data) (front after : List ℕ) → IsWithin t → spell t ≡ front ++ (spell_items ds ++ after) → AreTrees ds → items_depth ds ≤ depth t → AllByRecursion IsWithin (items_list ds)
items_within no_items t front after w is trees deep = tt
items_within (item d ds) t front after w is trees deep =
    let here : spell t ≡ front ++ (spell d ++ (spell_items ds ++ after)) = is ∙ ap (λ (x : List ℕ). front ++ x) (append_assoc (spell d) (spell_items ds) after) in (
      part_within t d front (spell_items ds ++ after) w here trees.0 (omega (arith, deep)),
      items_within ds t (front ++ spell d) after w (here ∙ sym (append_assoc front (spell d) (spell_items ds ++ after))) trees.1 (omega (arith, deep)),
    )

list_within : (ds : List Data) → IsWithin (list (items_of ds)) → AllByRecursion IsWithin ds
list_within ds w =
    let H : List ℕ = head 4 (length (items_list (items_of ds))) in
    subst (AllByRecursion IsWithin) (items_list-items_of ds)
    (items_within (items_of ds) (list (items_of ds)) H [] w (ap (λ (x : List ℕ). H ++ x) (sym (append-nil (spell_items (items_of ds))))) w.tree (omega arith))

regroup : (a b c d : List ℕ) → a ++ ((b ++ c) ++ d) ≡ (a ++ b) ++ (c ++ d)
regroup a b c d = ap (λ (x : List ℕ). a ++ x) (append_assoc b c d) ∙ sym (append_assoc a b (c ++ d))

first_within : (k : List ℕ) (d : Data) (ms : Members) → IsWithin (T.map (member k d ms)) → IsWithin d
first_within k d ms w =
    let H : List ℕ = head 5 (length (members_list (member k d ms))) in
    part_within (T.map (member k d ms)) d (H ++ spell_text k) (spell_members ms) w (regroup H (spell_text k) (spell d) (spell_members ms)) w.tree.1 (omega arith)

root_within : (p : HamtShape) (node : Data) → IsWithin (root_map p node) → IsWithin node
root_within p node w = first_within _ node _ w

-- ---- entries

abbrev IsLimited : List ℕ × Data → Type 0
IsLimited e = IsWithin e.1

abbrev IsLimitedSlot : TrieSlot → Type 0
IsLimitedSlot z = AllByRecursion IsLimited (bucket_entries z)

entries_within : (es : List (List ℕ × Data)) → AllByRecursion IsWithin (map entry_data es) → AllByRecursion IsLimited es
entries_within [] all = tt
entries_within (e ∷ es) all = ((list_within (bytes e.0 ∷ e.1 ∷ []) all.0).1.0, entries_within es all.1)

slots_within : (slots : List TrieSlot) → AllByRecursion IsWithin (flat_map elements_of slots) → AllByRecursion IsLimitedSlot slots
slots_within [] all = tt
slots_within (empty ∷ slots) all = (tt, slots_within slots all)
slots_within (bucket es ∷ slots) all = (entries_within es (list_within (map entry_data es) all.0), slots_within slots all.1)
slots_within (child id ∷ slots) all = (tt, slots_within slots all.1)

node_within : (slots : List TrieSlot) → IsWithin (node_data slots) → AllByRecursion IsLimitedSlot slots
node_within slots w =
    let x = list_within (bytes (map_of slots) ∷ list (items_of (flat_map elements_of slots)) ∷ []) w in
    slots_within slots (list_within (flat_map elements_of slots) x.1.0)

-- ---- rows

module _ (p : HamtShape) (told : Option (List (List ℕ))) (root : List TrieSlot) (t : Data) (is : IsRoot p root t) (w : IsWithin t) where
  has_within : (up id : List ℕ) (slots : List TrieSlot) → HasNode p told root up id slots → IsWithin (node_data slots)
  has_within [] id slots node = subst (λ zs. IsWithin (node_data zs)) (sym node) (root_within p (node_data root) (subst IsWithin is.tree w))
  has_within (i ∷ up) id slots node = node.node.is.within

  pub row_spelled : (at : List ℕ) (row : Listed) → StandsThere p told root at row → IsSpelledRow row
  row_spelled at row x =
      let own = all_at IsLimitedSlot x.slots x.index (bucket x.entries) (node_within x.slots (has_within x.up row.block.0 x.slots x.node)) x.stands in
      record { tree = x.value; is = record { within = all_at IsLimited x.entries x.place (row.key, x.value) own x.is; spelled = x.spelled } }

  each_spelled : (at : List ℕ) (rows : List Listed) → AllByRecursion (StandsThere p told root at) rows → AllByRecursion IsSpelledRow rows
  each_spelled at [] all = tt
  each_spelled at (r ∷ rows) all = (row_spelled at r all.0, each_spelled at rows all.1)

  pub rows_spelled : (at : List ℕ) (rows : List Listed) → All (StandsThere p told root at) rows → AllByRecursion IsSpelledRow rows
  rows_spelled at rows all = each_spelled at rows (recursion_from_All (StandsThere p told root at) rows all)
