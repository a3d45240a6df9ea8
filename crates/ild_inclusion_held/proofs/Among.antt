-- Values of a type whose blocks are among some: their parts, and the roots of their HAMTs.
use Rattle.std.proofs.Common.{◌≡◌, ℕ, suc, ◌-◌, ◌^◌, List, [], ◌∷◌, length, Bool, true, false, cond, Option, Some, None, refl, sym, ap, ◌∙◌, subst}
use Rattle.std.specs.Prelude.{Contains, option_and_then, option_map}
use Rattle.std.specs.FinMap.{find}
use Rattle.std.specs.List.{AllByRecursion}
use Rattle.std.specs.Ordering.{eq_by_cmp}
use Rattle.std.specs.Cmp.Lexicographic.{same_text as text_same, other_text}
use Rattle.std.proofs.lemmas.Option.{none-some, same_Some}
use Rattle.ild_data.specs.ByteOrder.{IsInOrder, bytewise, in_byte_order, no_key_twice}
use Rattle.ild_data.specs.Data.{Data}
use Rattle.ild_data.specs.Key.{same_text, value_at}
use Rattle.ild_data.specs.Spell.{spell}
use Rattle.ild_data.specs.Tree.{IsTree}
use Rattle.ild_data.specs.Trie.{TrieSlot, node_data, node_of, slots_at, trie}
use Rattle.ild_data.specs.TrieShape.{trie_levels}
use Rattle.ild_data.specs.declared.hamt_shape.HamtShape.{HamtShape}
use Rattle.ild_hamt_trie.proofs.Bits.{same_node}
use Rattle.ild_hamt_trie.proofs.Levels.{levels-first}
use Rattle.ild_hamt_trie.proofs.Node.{trie-sorted}
use Rattle.ild_hamt_trie.proofs.Parts.{find-sorted, in_order-sorted, key_itself, same_key}
use Rattle.ild_node_slots.proofs.Rooting.{root-same}
use Rattle.ild_node_slots.proofs.Shapes.{whole_map}
use Rattle.ild_open_held_parts.proofs.Nodes.{part_nodes}
use Rattle.ild_open_held_parts.proofs.Parting.{part_fits}
use Rattle.ild_path_changes.proofs.HaveTrees.{has_trees}
use Rattle.ild_path_changes.proofs.Represented.{represents}
use Rattle.ild_path_changes.specs.LiftLaws.{of_values}
use Rattle.ild_path_edits.proofs.KeepTyped.{of_type_is_kept}
use Rattle.ild_path_edits.proofs.RoomTests.{schemas_have_tests}
use Rattle.ild_schema.proofs.Legibly.{legible}
use Rattle.ild_schema.specs.Slots.{form_of}
use Rattle.ild_schema.specs.Value as V
use Rattle.ild_schema.specs.Value.{Value, Pairs, pairs_list}
use Rattle.ild_schema.specs.declared.def.MapForm.TheVariants as MF
use Rattle.ild_schema.specs.declared.def.TypeDef.{TypeDef}
use Rattle.ild_schema.specs.declared.def.TypeDef.TheVariants as T
use Rattle.ild_schema.specs.declared.number.Slot.{Slot}
use Rattle.ild_schema.specs.declared.number.TypeNo.{TypeNo}
use Rattle.ild_schema.specs.declared.row.Row.{Row}
use Rattle.ild_typed.proofs.Basics.{if_from, map_from, then_from}
use Rattle.ild_typed.proofs.Entries.{both_from}
use Rattle.ild_typed.proofs.TreeKept.{kept_value}
use Rattle.ild_typed.proofs.TrieTells.{NodeSlots, node_slots}
use Rattle.ild_typed.specs.At.{InSlot, seen}
use Rattle.ild_typed.specs.Blocks.{nodes}
use Rattle.ild_typed.specs.Composed.{composed}
use Rattle.ild_typed.specs.Hamt.{root_map, whole}
use Rattle.ild_typed.specs.Holder.{map_holder}
use Rattle.ild_typed.specs.Known.{AreKnown, Kept}
use Rattle.ild_typed.specs.Layer as L
use Rattle.ild_typed.specs.Node.{IsRoot}
use Rattle.ild_typed.specs.OfType.{OfType}
use Rattle.ild_typed.specs.Represented.{layered, represented, represented_pairs}
use Rattle.ild_typed.specs.Schema.{IsSchema}
use Rattle.ild_typed.specs.Segment.{part}
use Rattle.ild_typed.specs.Slots.{element_of}
use Rattle.ild_typed_fronts.specs.Front.{is_root}
use Rattle.ild_value_meaning.proofs.Told.{told}

-- a node whose block is among these
pub record IsNode (others : List (List ℕ)) (n : Data) : Type 0 where
  pub tree : IsTree n
  pub there : Contains others (spell n)

-- the value of a slot that the data represent, with the block of each node of its HAMTs among these
pub record IsAmong (others : List (List ℕ)) (h : List ℕ → List ℕ) (rows : List Row) (s : Slot) (t : Data) (v : Value) : Type 0 where
  pub typed : OfType rows s v
  pub tree : represented (whole h) rows s v ≡ Some t
  pub among : AllByRecursion (Contains others) (nodes h rows s v)

-- ---- parts

part_tree : (h : List ℕ → List ℕ) (rows : List Row) → IsSchema rows → (p q : InSlot) (t : Data) (s : List ℕ) → OfType rows p.0 p.1 → represented (whole h) rows p.0 p.1 ≡ Some t
    → part (seen rows p) s ≡ Some q → (u : Data) × (represented (whole h) rows q.0 q.1 ≡ Some u)
part_tree h rows schema p q t s typed tree is =
    let tests = schemas_have_tests rows schema in
    let is_key = tests.0.is_key in
    let keys = tests.1.keys in
    let kept = of_type_is_kept rows is_key schema keys in
    let r = represents rows is_key (told rows schema).apart (told rows schema).any_there keys (legible rows schema.accepted).clear (whole h) (has_trees (whole h) rows (of_values h refl) schema.table.texts.spelled) kept in
    r.parts p q s t typed is tree

module _ (others : List (List ℕ)) (h : List ℕ → List ℕ) (rows : List Row) (schema : IsSchema rows) where
  pub part_among : (p q : InSlot) (t u : Data) (s : List ℕ) → IsAmong others h rows p.0 t p.1 → part (seen rows p) s ≡ Some q → represented (whole h) rows q.0 q.1 ≡ Some u → IsAmong others h rows q.0 u q.1
  part_among p q t u s has is tree = record {
    typed = (has.typed.0, part_fits rows schema has.typed.0 p q s has.typed.1 is);
    tree = tree;
    among = part_nodes (Contains others) h rows p.0 p.1 s q is has.among;
  }

  pub parts_are_among : (p q : InSlot) (t : Data) (s : List ℕ) → IsAmong others h rows p.0 t p.1 → part (seen rows p) s ≡ Some q → (u : Data) × IsAmong others h rows q.0 u q.1
  parts_are_among p q t s has is =
      let x = part_tree h rows schema p q t s has.typed has.tree is in
      (x.0, part_among p q t x.0 s has is x.1)

-- ---- the data at a key

same_test : (q k : List ℕ) (a b : Bool) → a ≡ eq_by_cmp bytewise q k → b ≡ same_text q k → a ≡ b
same_test q k true true e f = refl
same_test q k false false e f = refl
same_test q k false true e f = e ∙ ap (eq_by_cmp bytewise q) (sym (text_same q k f)) ∙ key_itself q
same_test q k true false e f = absurd (other_text q k f (same_key q k (sym e)))

module _ (h : List ℕ → List ℕ) (rows : List Row) (u : Slot) where
  -- data for a value, or neither
  abbrev pub AreAlike : Option Data → Option Value → Type 0
  AreAlike None None = Unit {0}
  AreAlike (Some d) (Some w) = represented (whole h) rows u w ≡ Some d
  AreAlike (Some d) None = ⊥
  AreAlike None (Some w) = ⊥

  data_at : (k : List ℕ) (ps : Pairs) (es : List (List ℕ × Data)) → represented_pairs (whole h) rows u ps ≡ Some es → AreAlike (find bytewise k es) (value_at k (pairs_list ps))
  data_at k V.no_pairs es e = subst (λ (xs : List (List ℕ × Data)). AreAlike (find bytewise k xs) None) (same_Some [] es e) tt
  data_at k (V.pair l v ps) es e =
      let b = both_from (option_map {U = List ℕ × Data} (λ d. (l, d)) (represented (whole h) rows u v)) (represented_pairs (whole h) rows u ps) es e in
      let x = map_from {B = List ℕ × Data} (λ d. (l, d)) (represented (whole h) rows u v) b.item b.first in
      let all : (l, x.item) ∷ b.items ≡ es = ap (λ (p : List ℕ × Data). p ∷ b.items) (same_Some (l, x.item) b.item x.made) ∙ b.all in
      subst (λ (xs : List (List ℕ × Data)). AreAlike (find bytewise k xs) (value_at k (pairs_list (V.pair l v ps)))) all
      (by (eq_by_cmp bytewise k l) (same_text k l) (same_test k l (eq_by_cmp bytewise k l) (same_text k l) refl refl) x.item x.there (find bytewise k b.items) (value_at k (pairs_list ps)) (data_at k ps b.items b.rest))
    where
      by : (a b : Bool) → a ≡ b → (d : Data) → represented (whole h) rows u v ≡ Some d → (o : Option Data) (w : Option Value) → AreAlike o w → AreAlike (cond a (Some d) o) (cond b (Some v) w)
      by true true same d there o w rest = there
      by false false same d there o w rest = rest
      by true false same d there o w rest = absurd cc
      by false true same d there o w rest = absurd cc

-- ---- roots

-- a HAMT of a value, by its root: the slots of the node of its entries, each node beneath which is known
pub record IsRooted (others : List (List ℕ)) (h : List ℕ → List ℕ) (rows : List Row) (p : InSlot) (value : Slot) (shape : HamtShape) (slots : List TrieSlot) : Type 0 where
  pub pairs : Pairs
  pub entries : List (List ℕ × Data)
  pub parts : (k : List ℕ) → part (seen rows p) k ≡ option_map {U = InSlot} (λ w. (value, w)) (value_at k (pairs_list pairs))
  pub order : IsInOrder (in_byte_order entries)
  pub left : ℕ
  pub node : slots_at h shape left 0 (in_byte_order entries) ≡ Some slots
  pub known : AreKnown h shape (IsNode others) (suc left) 0 (in_byte_order entries)
  pub each : (k : List ℕ) → AreAlike h rows value (find bytewise k (in_byte_order entries)) (value_at k (pairs_list pairs))

-- a node has the slots of its entries
pub slots_told : (h : List ℕ → List ℕ) (p : HamtShape) (left depth : ℕ) (es : List (List ℕ × Data)) (node : Data) (xs : List TrieSlot) → length xs ≡ 2 ^ p.width → node_data xs ≡ node → (n : NodeSlots h p left depth es node)
    → xs ≡ n.slots
slots_told h p left depth es node xs many is n = same_node xs n.slots (whole_map p.width (length xs) p.wide many) (n.count ∙ sym many) (is ∙ sym n.is)

-- the node of a trie
trie_node : (h : List ℕ → List ℕ) (p : HamtShape) (es : List (List ℕ × Data)) (node : Data) → trie h p es 0 ≡ Some node → node_of h p (suc (trie_levels p - 1)) 0 (in_byte_order es) ≡ Some node
unfolding trie
trie_node h p es node e =
    let once = (if_from (no_key_twice es) (node_of h p (trie_levels p - 0) 0 (in_byte_order es)) node e).0 in
    ap (λ (l : ℕ). node_of h p l 0 (in_byte_order es)) (sym (levels-first p)) ∙ sym (trie-sorted h p es 0 once) ∙ e

module _ (others : List (List ℕ)) (h : List ℕ → List ℕ) (rows : List Row) (schema : IsSchema rows) (s : Slot) (t : Data) (slots : List TrieSlot) (key : TypeNo) (key_at : ℕ) (value : Slot) (place : ℕ) (shape : HamtShape)
    (form : form_of rows s ≡ Some (T.Map key key_at value place (MF.Hamt shape))) where
  abbrev Own : TypeDef
  Own = T.Map key key_at value place (MF.Hamt shape)

  -- the nodes beneath a root are known
  nodes_known : (ps : Pairs) (es : List (List ℕ × Data)) → IsAmong others h rows s t (V.map ps) → represented_pairs (whole h) rows value ps ≡ Some es → Kept h (IsNode others) shape es
  nodes_known ps es has there =
      let good = kept_value (Contains others) (IsNode others) (λ d tree b. record { tree = tree; there = b }) h rows schema.table.texts.spelled has.typed.0 s (V.map ps) t has.typed.1 has.tree has.among in
      good.0 Own value es form refl there

  of_entries : (ps : Pairs) (es : List (List ℕ × Data)) (node : Data) → IsAmong others h rows s t (V.map ps) → represented_pairs (whole h) rows value ps ≡ Some es → length slots ≡ 2 ^ shape.width → node_data slots ≡ node
      → NodeSlots h shape (trie_levels shape - 1) 0 (in_byte_order es) node → IsRooted others h rows (s, V.map ps) value shape slots
  of_entries ps es node has there many is own = record {
    pairs = ps;
    entries = es;
    parts = λ k. ap (λ (o : Option TypeDef). part (map_holder o ps) k) form;
    order = in_order-sorted es;
    left = trie_levels shape - 1;
    node = own.there ∙ ap Some (sym (slots_told h shape (trie_levels shape - 1) 0 (in_byte_order es) node slots many is own));
    known = subst (λ (l : ℕ). AreKnown h shape (IsNode others) l 0 (in_byte_order es)) (levels-first shape) (nodes_known ps es has there).1;
    each = λ k. subst (λ (o : Option Data). AreAlike h rows value o (value_at k (pairs_list ps))) (sym (find-sorted k es)) (data_at h rows value k ps es there);
  }

  -- of entries the data are the root of their trie
  moved : (o : Option (List (List ℕ × Data))) → option_and_then (composed (whole h) Own) (option_map L.map o) ≡ option_and_then (λ es. whole h shape (L.map es)) o
  moved None = refl
  moved (Some es) = refl

  made : (ps : Pairs) → represented (whole h) rows s (V.map ps) ≡ Some t → option_and_then (λ (es : List (List ℕ × Data)). whole h shape (L.map es)) (represented_pairs (whole h) rows value ps) ≡ Some t
  made ps e =
      sym (moved (represented_pairs (whole h) rows value ps))
      ∙ sym (ap (λ o. layered (whole h) o (option_map L.map (option_and_then (λ u. represented_pairs (whole h) rows u ps) (element_of o)))) form)
      ∙ e

  of_pairs : (ps : Pairs) → IsAmong others h rows s t (V.map ps) → IsRoot shape slots t → IsRooted others h rows (s, V.map ps) value shape slots
  of_pairs ps has is =
      let x = then_from (λ (es : List (List ℕ × Data)). whole h shape (L.map es)) (represented_pairs (whole h) rows value ps) t (made ps has.tree) in
      let n = map_from (root_map shape) (trie h shape x.item 0) t x.made in
      let item : n.item ≡ node_data slots = root-same shape n.item (node_data slots) (same_Some (root_map shape n.item) t n.made ∙ is.tree) in
      of_entries ps x.item n.item has x.there is.indices (sym item) (node_slots h shape (trie_levels shape - 1) 0 (in_byte_order x.item) n.item (trie_node h shape x.item n.item n.there))

  -- a root alone has no entries to be represented by
  no_root : (d : Data) → represented (whole h) rows s (V.hamt d) ≡ Some t → ⊥
  no_root d e = none-some t (sym (ap (λ o. layered (whole h) o (Some (L.hamt d))) form) ∙ e)

  pub roots_are_rooted : (v : Value) → IsAmong others h rows s t v → is_root rows (s, v) ≡ true → IsRoot shape slots t → IsRooted others h rows (s, v) value shape slots
  roots_are_rooted (V.map ps) has top is = of_pairs ps has is
  roots_are_rooted (V.hamt d) has top is = absurd (no_root d has.tree)
  roots_are_rooted v has top is = absurd cc
