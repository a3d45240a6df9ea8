-- The steps of writing a node with another slot.
use Rattle.std.proofs.Common.{◌≡◌, ◌≢◌, ℕ, ◌+◌, ◌<◌, ◌≤◌, Bool, List, [], ◌∷◌, ◌++◌, ◌^◌, length, map, take, set, get_or, sym, ap, ◌∙◌, arith}
use Rattle.std.specs.Prelude.{Option, Some, None, is_some}
use Rattle.std.proofs.lemmas.List.{take_more, take_all, length-map, length-set, get_or-map, get_or-set_same, get_or-set_other}
use Rattle.ild_data.specs.Trie.{TrieSlot, empty, is_used}
use Rattle.ild_data.specs.declared.hamt_shape.HamtShape.{HamtShape}
use Rattle.ild_node.specs.NewSlots.{slot_seen}
use Rattle.ild_node.specs.declared.hold.NewHold.{NewHold}
use Rattle.ild_node.specs.declared.hold.NewHold.TheVariants as N
use Rattle.ild_node_slots.specs.Views.{HasSlots, view_shape}
use Rattle.ild_node_slots.specs.declared.view.NodeView.{NodeView}

pub on-here : (slots : List TrieSlot) (i j : ℕ) (s : TrieSlot) (on : Bool) → j ≡ i → j < length slots → on ≡ is_used s → on ≡ is_used (get_or (set slots i s) j empty)
on-here slots i j s on same lt is =
    is ∙ ap is_used (sym (ap (λ n. get_or (set slots i s) n empty) same ∙ get_or-set_same slots i s empty (let e : i < length slots = omega (arith, same, lt) in e)))

pub on-there : (slots : List TrieSlot) (i j : ℕ) (s : TrieSlot) (b : Bool) → j ≢ i → b ≡ is_used (get_or slots j empty) → b ≡ is_used (get_or (set slots i s) j empty)
on-there slots i j s b apart is = is ∙ ap is_used (sym (get_or-set_other slots i j s empty apart))

pub long-set : (p q : HamtShape) (v : NodeView) (slots : List TrieSlot) (i : ℕ) (s : TrieSlot) → HasSlots p v slots → q ≡ view_shape v → length (set slots i s) ≡ 2 ^ q.width
long-set p q v slots i s has same = length-set slots i s ∙ has.form.many ∙ ap (λ (r : HamtShape). 2 ^ r.width) (sym (same ∙ has.shape))

pub used-more : (ss : List TrieSlot) (j : ℕ) (old new : List Bool) (b : Bool) → j < length ss → old ≡ take j (map is_used ss) → b ≡ is_used (get_or ss j empty) → new ≡ old ++ b ∷ []
    → new ≡ take (j + 1) (map is_used ss)
used-more ss j old new b lt was is adds =
    adds ∙ (λ k. was k ++ (is ∙ sym (get_or-map is_used ss j empty b lt)) k ∷ []) ∙ sym (take_more (map is_used ss) j b (let e = length-map ss is_used in omega arith))

pub used-done : (ss : List TrieSlot) (j : ℕ) (used : List Bool) → used ≡ take j (map is_used ss) → length ss ≤ j → used ≡ map is_used ss
used-done ss j used is le = is ∙ take_all j (map is_used ss) (let e = length-map ss is_used in omega arith)

-- whether a new slot is used
pub used-slot : (o : Option NewHold) (b : Bool) → b ≡ is_some o → b ≡ is_used (slot_seen o)
used-slot None b is = is
used-slot (Some (N.Child id)) b is = is
used-slot (Some (N.Bucket rows)) b is = is
