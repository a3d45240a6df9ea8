-- The elements around a slot.
use Rattle.std.proofs.Common.{◌≡◌, ℕ, suc, ◌<◌, cond, Bool, List, ◌∷◌, ◌++◌, length, take, drop, get_or, sym, ap, ◌∙◌, subst, flat_map}
use Rattle.std.proofs.lemmas.Grind.{flat_map-append}
use Rattle.ild_data.specs.Data.{Data, list, items_of}
use Rattle.ild_data.specs.Trie.{TrieSlot, empty, is_used, elements_of}
use Rattle.ild_data.specs.declared.hamt_shape.HamtShape.{HamtShape}
use Rattle.ild_cbor.specs.Nodes.{HasData, AreAround}
use Rattle.ild_typed.specs.NodeReading.{map_bit}
use Rattle.ild_typed.proofs.NodeMaps.{bit-read}
use Rattle.ild_node_slots.specs.inside.Reading.{ones_below}
use Rattle.ild_node_slots.specs.Views.{HasSlots, spelled_elements}
use Rattle.ild_node_slots.specs.declared.view.NodeView.{NodeView}
use Rattle.ild_node_slots.proofs.Shapes.{whole_map}
use Rattle.ild_node_slots.proofs.InSlot.{parted_at, ones_of, long_of}

-- the slot of an index, and those around it
elements-around : (slots : List TrieSlot) (i : ℕ) → i < length slots
    → flat_map elements_of slots ≡ flat_map elements_of (take i slots) ++ (elements_of (get_or slots i empty) ++ flat_map elements_of (drop (suc i) slots))
elements-around slots i lt = ap (flat_map elements_of) (parted_at slots i lt) ∙ flat_map-append elements_of (take i slots) (get_or slots i empty ∷ drop (suc i) slots)

pub around-slot : (p : HamtShape) (v : NodeView) (slots : List TrieSlot) (i n m : ℕ) (on : Bool) (front back : List ℕ) → HasSlots p v slots → i < length slots → n ≡ ones_below v.map.now i → on ≡ map_bit v.map.now i
    → m ≡ cond on 1 0
    → ((xs ys zs : List Data) → HasData v.data (list (items_of (xs ++ (ys ++ zs)))) → length xs ≡ n → length ys ≡ m → AreAround front back xs zs)
    → (front ≡ spelled_elements (take i slots)) × (back ≡ spelled_elements (drop (suc i) slots))
around-slot p v slots i n m on front back has lt before bit own cuts =
    let whole = whole_map p.width (length slots) p.wide has.form.many in
    let own_is : length (elements_of (get_or slots i empty)) ≡ m =
    long_of (get_or slots i empty) ∙ ap (λ b. cond b 1 0) (sym (bit-read slots i whole lt) ∙ ap (λ x. map_bit x i) (sym has.map) ∙ sym bit) ∙ sym own in
    let stands = subst (λ (ds : List Data). HasData v.data (list (items_of ds))) (elements-around slots i lt) has.part.stands in
    let a = cuts (flat_map elements_of (take i slots)) (elements_of (get_or slots i empty)) (flat_map elements_of (drop (suc i) slots)) stands (sym (ones_of p slots v.map.now i n has.form.many has.map lt before)) own_is in
    (a.front_is, a.back_is)

-- whether a slot is used, by the bit of the map
pub used-read : (p : HamtShape) (v : NodeView) (slots : List TrieSlot) (i : ℕ) (b : Bool) → HasSlots p v slots → i < length slots → b ≡ map_bit v.map.now i → b ≡ is_used (get_or slots i empty)
used-read p v slots i b has lt is =
    let whole = whole_map p.width (length slots) p.wide has.form.many in
    is ∙ ap (λ m. map_bit m i) has.map ∙ bit-read slots i whole lt
