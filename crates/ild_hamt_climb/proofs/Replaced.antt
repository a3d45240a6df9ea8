-- A node of which one element is another.
use Rattle.std.proofs.Common.{◌≡◌, ℕ, zero, suc, ◌+◌, ◌<◌, ◌≤◌, true, List, [], ◌∷◌, ◌++◌, length, map, take, set, get_or, Option, Some, None, refl, sym, ap, ◌∙◌, subst, arith, flat_map}
use Rattle.std.specs.Prelude.{IfOk, IfSome, Result, Ok, Err}
use Rattle.std.specs.Option.{option_map_or}
use Rattle.std.proofs.lemmas.List.{length-append, length-set}
use Rattle.ild_data.specs.declared.hamt_shape.HamtShape.{HamtShape}
use Rattle.ild_data.specs.Bytes.{AreBytes}
use Rattle.ild_data.specs.Data.{Data, bytes, list, link, item, no_items, items_of}
use Rattle.ild_data.specs.Limits.{deepest, longest_block}
use Rattle.ild_data.specs.Spell.{spell, spell_link, cid_of}
use Rattle.ild_data.specs.Trie.{TrieSlot, empty, bucket, child, is_used, map_of, elements_of, node_data}
use Rattle.ild_data.proofs.Lists.{items_list-items_of}
use Rattle.ild_cbor.specs.Block.{IsBlockOf}
use Rattle.ild_cbor.specs.Nodes.{IsRoot, HasData}
use Rattle.ild_cbor.specs.Span.{item_of}
use Rattle.ild_cbor.specs.declared.node.Node.{Node}
use Rattle.ild_typed.specs.Nested.{BlockIn, TreeIn}
use Rattle.ild_typed.proofs.TreeNodes.{node_in}
use Rattle.ild_node.specs.Rows.{AreRows, deepest_value}
use Rattle.ild_node.specs.Written.{IsNodeBlock, IsSound, bytes_of_bits}
use Rattle.ild_node.proofs.Nodes.{child-sound, node-block, slot_in}
use Rattle.ild_node.proofs.Standing.{all-set, slots-sound}
use Rattle.ild_node.proofs.Writing.{map-is}
use Rattle.ild_node_slots.specs.Form.{bucket_data}
use Rattle.ild_node_slots.specs.Places.{elements_data, elements_before}
use Rattle.ild_node_slots.specs.Views.{HasSlots}
use Rattle.ild_node_slots.specs.declared.view.NodeView.{NodeView}
use Rattle.ild_splice.specs.Splices.{IsAt, Splices}
use Rattle.ild_splice_changes.specs.TreeChange.{TreeStep, nth, replace, with_child, changed, altered, change_here}
use Rattle.ild_hamt_climb.specs.inside.Elements.{IsElementAt, SpellsElement}

-- ---- how deep an element nests

pub element_fits : (p : HamtShape) (s : TrieSlot) (e : Data) → IsSound p s → elements_of s ≡ e ∷ [] → TreeIn deepest e
element_fits p s e sound is =
    let whole : TreeIn deepest (list (item (bytes (map_of (s ∷ []))) (item (list (items_of (elements_of s ++ []))) no_items))) = node_in deepest_value (s ∷ []) (slot_in p s sound, tt) in
    let one : TreeIn deepest (list (item (bytes (map_of (s ∷ []))) (item (list (item e no_items)) no_items))) =
    subst (λ (ds : List Data). TreeIn deepest (list (item (bytes (map_of (s ∷ []))) (item (list (items_of (ds ++ []))) no_items)))) is whole in
    let le = one.nested in
    record { tree = one.tree.1.0.0; nested = omega arith }

pub element_block : (p : HamtShape) (s : TrieSlot) (b : List ℕ) → SpellsElement p s b → BlockIn deepest b
element_block p s b e = record { of = e.tree; is = e.spelled; fits = element_fits p s e.tree e.sound e.is }

-- ---- the elements and the map

set_behind : (xs ys : List Data) (m n : ℕ) (e : Data) → m ≡ length xs + n → set (xs ++ ys) m e ≡ xs ++ set ys n e
set_behind [] ys m n e is = let same : m ≡ n = omega arith in ap (λ k. set ys k e) same
set_behind (x ∷ xs) ys zero n e is = absurd (omega arith)
set_behind (x ∷ xs) ys (suc m) n e is = ap (λ zs. x ∷ zs) (set_behind xs ys m n e (omega arith))

set_first : (t s : TrieSlot) (e : Data) (ds : List Data) → is_used t ≡ true → elements_of s ≡ e ∷ [] → set (elements_of t ++ ds) 0 e ≡ elements_of s ++ ds
set_first empty s e ds used is = absurd cc
set_first (bucket es) s e ds used is = sym (ap (λ xs. xs ++ ds) is)
set_first (child id) s e ds used is = sym (ap (λ xs. xs ++ ds) is)

elements_set : (slots : List TrieSlot) (i : ℕ) (s : TrieSlot) (e : Data) → i < length slots → is_used (get_or slots i empty) ≡ true → elements_of s ≡ e ∷ []
    → set (flat_map elements_of slots) (elements_before slots i) e ≡ flat_map elements_of (set slots i s)
elements_set [] i s e lt used is = absurd (omega arith)
elements_set (t ∷ slots) zero s e lt used is = set_first t s e (flat_map elements_of slots) used is
elements_set (t ∷ slots) (suc i) s e lt used is =
    let front : List Data = elements_of t in
    let rest : List Data = flat_map elements_of slots in
    set_behind front rest (length (front ++ flat_map elements_of (take i slots))) (elements_before slots i) e (length-append front (flat_map elements_of (take i slots)))
    ∙ ap (λ ds. front ++ ds) (elements_set slots i s e (omega arith) used is)

used_set : (slots : List TrieSlot) (i : ℕ) (s : TrieSlot) → is_used (get_or slots i empty) ≡ is_used s → i < length slots → map is_used (set slots i s) ≡ map is_used slots
used_set [] i s same lt = absurd (omega arith)
used_set (t ∷ slots) zero s same lt = ap (λ b. b ∷ map is_used slots) (sym same)
used_set (t ∷ slots) (suc i) s same lt = ap (λ bs. is_used t ∷ bs) (used_set slots i s same (omega arith))

map_set : (slots : List TrieSlot) (i : ℕ) (s : TrieSlot) → is_used (get_or slots i empty) ≡ is_used s → i < length slots → map_of slots ≡ map_of (set slots i s)
map_set slots i s same lt = sym (map-is slots) ∙ ap bytes_of_bits (sym (used_set slots i s same lt)) ∙ map-is (set slots i s)

used_by : (s : TrieSlot) (e : Data) → elements_of s ≡ e ∷ [] → true ≡ is_used s
used_by empty e is = absurd cc
used_by (bucket es) e is = refl
used_by (child id) e is = refl

-- ---- the tree

list_changed : (slots : List TrieSlot) (n : ℕ) (e part : Data) → item_of (elements_data slots) n ≡ Some part
    → altered (change_here (replace e)) (nth n ∷ []) (elements_data slots) ≡ list (items_of (set (flat_map elements_of slots) n e))
list_changed slots n e part here =
    let d : Data = elements_data slots in
    ap (λ (o : Option Data). option_map_or (λ u. with_child (nth n) e d) o d) here
    ∙ ap (λ ds. list (items_of (set ds n e))) (items_list-items_of (flat_map elements_of slots))

tree_changed : (slots : List TrieSlot) (i : ℕ) (s : TrieSlot) (e part : Data) → i < length slots → is_used (get_or slots i empty) ≡ true → elements_of s ≡ e ∷ []
    → item_of (elements_data slots) (elements_before slots i) ≡ Some part
    → changed (nth 1 ∷ nth (elements_before slots i) ∷ []) (replace e) (node_data slots) ≡ node_data (set slots i s)
tree_changed slots i s e part lt used is here =
    ap (λ (d : Data). list (item (bytes (map_of slots)) (item d no_items)))
    (list_changed slots (elements_before slots i) e part here ∙ ap (λ ds. list (items_of ds)) (elements_set slots i s e lt used is))
    ∙ ap (λ m. list (item (bytes m) (item (elements_data (set slots i s)) no_items))) (map_set slots i s (used ∙ used_by s e is) lt)

node_of_bytes : (p : HamtShape) (v : NodeView) (slots : List TrieSlot) (i : ℕ) (s : TrieSlot) (r : Option (List ℕ)) → HasSlots p v slots → IsSound p s → (t : Data) → t ≡ node_data (set slots i s)
    → IfSome r (λ b. b ≡ spell t) → IfSome r (IsNodeBlock p (set slots i s))
node_of_bytes p v slots i s None has sound t same made = tt
node_of_bytes p v slots i s (Some b) has sound t same made =
    node-block p (set slots i s) b (length-set slots i s ∙ has.form.many) (all-set (IsSound p) slots i s (slots-sound p v slots has) sound) (made ∙ ap spell same)

node_of_result : {E : Type 0} (p : HamtShape) (v : NodeView) (slots : List TrieSlot) (i : ℕ) (s : TrieSlot) (r : Result (Option (List ℕ)) E) → HasSlots p v slots → IsSound p s → (t : Data) → t ≡ node_data (set slots i s)
    → IfOk r (λ o. IfSome o (λ b. b ≡ spell t)) → IfOk r (λ o. IfSome o (IsNodeBlock p (set slots i s)))
node_of_result p v slots i s (Ok o) has sound t same made = node_of_bytes p v slots i s o has sound t same made
node_of_result p v slots i s (Err x) has sound t same made = tt

-- the node with another element at a used slot
pub node_spliced : {E : Type 0} (p : HamtShape) (v : NodeView) (slots : List TrieSlot) (i : ℕ) (s : TrieSlot) (old : Node) (new : List ℕ) (r : Result (Option (List ℕ)) E) → HasSlots p v slots → i < length slots
    → IsElementAt slots i old → SpellsElement p s new
    → ((t d e : Data) (q : List TreeStep) → IsAt old t q d → TreeIn deepest e → new ≡ spell e → IfOk r (λ o. IfSome o (λ b. b ≡ spell (changed q (replace e) t))))
    → IfOk r (λ o. IfSome o (IsNodeBlock p (set slots i s)))
node_spliced p v slots i s old new r has lt there spells made =
    let q : List TreeStep = nth 1 ∷ nth (elements_before slots i) ∷ [] in
    let many = has.form.many in
    node_of_result p v slots i s r has spells.sound (changed q (replace spells.tree) (node_data slots))
    (tree_changed slots i s spells.tree there.part (omega (arith, lt, many)) there.used spells.is there.is)
    (made (node_data slots) there.part spells.tree q there.at (element_fits p s spells.tree spells.sound spells.is) spells.spelled)

-- ---- spellings of elements

pub spells_same : (p : HamtShape) (s : TrieSlot) (b c : List ℕ) → c ≡ b → SpellsElement p s b → SpellsElement p s c
spells_same p s b c same e = record { tree = e.tree; is = e.is; spelled = same ∙ e.spelled; sound = e.sound }

pub bucket_spelled : (p : HamtShape) (es : List (List ℕ × Data)) (b : List ℕ) → AreRows es → 1 ≤ length es → length es ≤ p.bucket → b ≡ spell (bucket_data es) → SpellsElement p (bucket es) b
bucket_spelled p es b rows some few is = record { tree = bucket_data es; is = refl; spelled = is; sound = record { form = (rows.0, some, few, rows.1); values = rows.2 } }

pub link_spelled : (p : HamtShape) (id b : List ℕ) → length id ≡ 32 → AreBytes id → b ≡ spell_link (cid_of id) → SpellsElement p (child id) b
link_spelled p id b long all is = record { tree = link (cid_of id); is = refl; spelled = is; sound = child-sound p id long all }

-- ---- one item in place of another

pub block_is : (b : List ℕ) (e : Data) → TreeIn deepest e → b ≡ spell e → length b ≤ longest_block → IsBlockOf b e
block_is b e fits is short = record { within = record { tree = fits.tree; nested = fits.nested; sized = subst (λ (x : List ℕ). length x ≤ longest_block) is short }; spelled = is }

pub item_replaced : (old new : Node) (bs b : List ℕ) → length bs ≤ longest_block → ((x : Data) → IsBlockOf bs x → IsRoot new bs x) → ((x : Data) → HasData new x → Splices old (replace x) (Ok b))
    → (t d e : Data) (q : List TreeStep) → IsAt old t q d → TreeIn deepest e → bs ≡ spell e → b ≡ spell (changed q (replace e) t)
item_replaced old new bs b short root made t d e q at fits is = ((made e (root e (block_is bs e fits is short)).stands).makes t d q at).0
