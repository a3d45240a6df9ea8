-- Where the element of a slot stands in its node.
use Rattle.std.proofs.Common.{◌≡◌, ℕ, ◌+◌, ◌<◌, ◌≤◌, Bool, true, false, cond, List, [], ◌∷◌, length, take, get_or, Option, Some, None, refl, sym, ap, ◌∙◌, subst, arith, flat_map}
use Rattle.std.specs.Prelude.{IfSome, is_none}
use Rattle.std.proofs.Math.Logic.{∥∥₁_elim}
use Rattle.std.proofs.Math.Bool.{Bool-set}
use Rattle.std.proofs.lemmas.List.{take_more, length-append}
use Rattle.std.proofs.lemmas.Grind.{flat_map-append}
use Rattle.std.proofs.lemmas.Option.{same_Some}
use mir.Val.{bool_byte}
use Rattle.ild_data.specs.Data.{Data}
use Rattle.ild_data.specs.Spell.{spell}
use Rattle.ild_data.specs.Trie.{TrieSlot, empty, bucket, child, is_used, elements_of, node_data}
use Rattle.ild_cbor.proofs.Blocks.{block_again}
use Rattle.ild_cbor.specs.Nodes.{HasData, Finds}
use Rattle.ild_cbor.specs.Reading.{fault_of}
use Rattle.ild_cbor.specs.Span.{item_of, place_of}
use Rattle.ild_cbor.specs.declared.fault.CborFault.{CborFault}
use Rattle.ild_cbor.specs.declared.node.Node.{Node}
use Rattle.ild_node_slots.proofs.InSlot.{long_of}
use Rattle.ild_node_slots.specs.Places.{elements_data, elements_before}
use Rattle.ild_splice.specs.Laws.{IsFoundAt, ItemsAreAt}
use Rattle.ild_splice.specs.Splices.{IsAt}
use Rattle.ild_splice_changes.specs.TreeChange.{nth}
use Rattle.ild_hamt_climb.specs.inside.Elements.{IsElementAt}

none_of : (o : Option CborFault) → is_none o ≡ true → o ≡ None
none_of None h = refl
none_of (Some x) h = absurd cc

-- the bytes of an item are a block
pub no_item_fault : (n : Node) (b : List ℕ) → ((t : Data) → HasData n t → b ≡ spell t) → fault_of b ≡ None
no_item_fault n b is = none_of (fault_of b) (∥∥₁_elim n.stands (Bool-set (is_none (fault_of b)) true) (λ h. ap is_none (block_again b h.of (record { within = h.spells.within; spelled = is h.of h.spells }))))

-- ---- how many elements stand before that of a slot

as_number : (b : Bool) → bool_byte b ≡ cond b 1 0
as_number true = refl
as_number false = refl

pub small_number : (b : Bool) → bool_byte b ≤ 1
small_number true = omega arith
small_number false = omega arith

one_of : (s : TrieSlot) → flat_map elements_of (s ∷ []) ≡ elements_of s
one_of empty = refl
one_of (bucket es) = refl
one_of (child id) = refl

pub before_more : (slots : List TrieSlot) (j : ℕ) (b : Bool) → j < length slots → b ≡ is_used (get_or slots j empty) → elements_before slots (j + 1) ≡ elements_before slots j + bool_byte b
before_more slots j b lt is =
    let s : TrieSlot = get_or slots j empty in
    ap (λ xs. length (flat_map elements_of xs)) (take_more slots j empty lt)
    ∙ ap length (flat_map-append elements_of (take j slots) (s ∷ []))
    ∙ length-append (flat_map elements_of (take j slots)) (flat_map elements_of (s ∷ []))
    ∙ ap (λ n. elements_before slots j + n) (ap length (one_of s) ∙ long_of s ∙ ap (λ c. cond c 1 0) (sym is) ∙ sym (as_number b))

-- ---- the item there

-- the list of the elements
list_found : (slots : List TrieSlot) (whole below : Node) → ItemsAreAt → IsAt whole (node_data slots) [] (node_data slots)
    → Finds whole (place_of (node_data slots) 1) (item_of (node_data slots) 1) (Some below) → IsAt below (node_data slots) (nth 1 ∷ []) (elements_data slots)
list_found slots whole below items at finds =
    let found : IsFoundAt below (node_data slots) (nth 1 ∷ []) (item_of (node_data slots) 1) = items whole below (node_data slots) (node_data slots) [] 1 at finds in
    let same : elements_data slots ≡ found.part = same_Some (elements_data slots) found.part found.is in
    subst (λ (d : Data). IsAt below (node_data slots) (nth 1 ∷ []) d) (sym same) found.at

found_there : (slots : List TrieSlot) (i n : ℕ) (below : Node) (r : Option Node) → ItemsAreAt → IsAt below (node_data slots) (nth 1 ∷ []) (elements_data slots) → n ≡ elements_before slots i
    → is_used (get_or slots i empty) ≡ true → Finds below (place_of (elements_data slots) n) (item_of (elements_data slots) n) r → IfSome r (IsElementAt slots i)
found_there slots i n below None items at before used finds = tt
found_there slots i n below (Some m) items at before used finds =
    let found : IsFoundAt m (node_data slots) (nth 1 ∷ nth (elements_before slots i) ∷ []) (item_of (elements_data slots) (elements_before slots i)) =
    subst (λ (k : ℕ). IsFoundAt m (node_data slots) (nth 1 ∷ nth k ∷ []) (item_of (elements_data slots) k)) before (items below m (node_data slots) (elements_data slots) (nth 1 ∷ []) n at finds) in
    record { used = used; part = found.part; is = found.is; at = found.at }

pub element_found : (slots : List TrieSlot) (i n : ℕ) (whole below : Node) (r : Option Node) → ItemsAreAt → IsAt whole (node_data slots) [] (node_data slots)
    → Finds whole (place_of (node_data slots) 1) (item_of (node_data slots) 1) (Some below) → n ≡ elements_before slots i → is_used (get_or slots i empty) ≡ true
    → ((t : Data) → HasData below t → Finds below (place_of t n) (item_of t n) r) → IfSome r (IsElementAt slots i)
element_found slots i n whole below r items at finds before used next =
    let there = list_found slots whole below items at finds in
    found_there slots i n below r items there before used (next (elements_data slots) there.stands)
