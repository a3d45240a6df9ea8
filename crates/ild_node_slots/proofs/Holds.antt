-- What a slot that was read holds.
use Rattle.std.proofs.Common.{ℕ, List, get_or}
use Rattle.ild_data.specs.Trie.{TrieSlot, empty, bucket, child}
use Rattle.ild_node_slots.specs.Views.{SlotHolds, SlotIs}
use Rattle.ild_node_slots.specs.Walks.{SomeHold}
use Rattle.ild_node_slots.specs.declared.view.NodeSlot.{NodeSlot}
use Rattle.ild_node_slots.specs.declared.view.NodeSlot.TheVariants as S
use Rattle.ild_node_slots.specs.declared.view.NodeView.{NodeView}

hold_known : (v : NodeView) (slots : List TrieSlot) (i : ℕ) (r : NodeSlot) (s : TrieSlot) → SlotHolds v slots i r s → SomeHold r
hold_known v slots i S.Empty s is = tt
hold_known v slots i (S.Bucket b) empty is = absurd is
hold_known v slots i (S.Bucket b) (bucket es) is = record { es = es; has = is.entries }
hold_known v slots i (S.Bucket b) (child c) is = absurd is
hold_known v slots i (S.Child id) s is = tt

pub some-hold : (v : NodeView) (slots : List TrieSlot) (i : ℕ) (r : NodeSlot) → SlotIs v slots i r → SomeHold r
some-hold v slots i r is = hold_known v slots i r (get_or slots i empty) is
