-- What a slot that was read at its place shows.
use Rattle.std.proofs.Common.{◌≡◌, ℕ, List, get_or, Option, Some, None, refl, ap, subst}
use Rattle.ild_data.specs.Data.{Data}
use Rattle.ild_data.specs.declared.id.BlockId.{BlockId}
use Rattle.ild_cbor.specs.declared.node.Node.{Node}
use Rattle.ild_node_slots.specs.declared.bucket.Bucket.{Bucket}
use Rattle.ild_data.specs.Trie.{TrieSlot, empty, bucket, child}
use Rattle.ild_node_slots.specs.Views.{SlotIs, SlotHolds, ValueIn}
use Rattle.ild_node_slots.specs.declared.view.NodeView.{NodeView}
use Rattle.ild_node_slots.specs.declared.view.NodeSlot.{NodeSlot}
use Rattle.ild_node_slots.specs.declared.view.NodeSlot.TheVariants as S
use Rattle.ild_hamt_climb.specs.Seen.{IsReadOf, ValueIs}
use Rattle.ild_hamt_climb.specs.Way.{child_id}

shows : (v : NodeView) (slots : List TrieSlot) (i : ℕ) (r : NodeSlot) (s : TrieSlot) → SlotHolds v slots i r s → IsReadOf r s
shows v slots i S.Empty empty is = tt
shows v slots i S.Empty (bucket es) is = absurd is
shows v slots i S.Empty (child c) is = absurd is
shows v slots i (S.Bucket b) empty is = absurd is
shows v slots i (S.Bucket b) (bucket es) is = is.entries
shows v slots i (S.Bucket b) (child c) is = absurd is
shows v slots i (S.Child id) empty is = absurd is
shows v slots i (S.Child id) (bucket es) is = absurd is
shows v slots i (S.Child id) (child c) is = is

pub slot-shows : (v : NodeView) (slots : List TrieSlot) (i j : ℕ) (r : NodeSlot) → i ≡ j → SlotIs v slots i r → IsReadOf r (get_or slots j empty)
slot-shows v slots i j r same is = subst (λ (n : ℕ). IsReadOf r (get_or slots n empty)) same (shows v slots i r (get_or slots i empty) is)

pub child-shown : (id : BlockId) (s : TrieSlot) → IsReadOf (S.Child id) s → Some id.0 ≡ child_id s
child-shown id empty is = absurd is
child-shown id (bucket es) is = absurd is
child-shown id (child c) is = ap Some is

pub empty-shown : (s : TrieSlot) → IsReadOf S.Empty s → None ≡ child_id s
empty-shown empty is = refl
empty-shown (bucket es) is = absurd is
empty-shown (child c) is = absurd is

pub bucket-shown : (b : Bucket) (s : TrieSlot) → IsReadOf (S.Bucket b) s → None ≡ child_id s
bucket-shown b empty is = absurd is
bucket-shown b (bucket es) is = refl
bucket-shown b (child c) is = absurd is

-- a value that was found at its place
pub value-found : (whole : Node) (es : List (List ℕ × Data)) (key : List ℕ) (o : Option Data) (r : Option Node) → ValueIn whole es key o r → ValueIs o r
value-found whole es key None None is = tt
value-found whole es key (Some d) (Some n) is = is.part.stands
value-found whole es key None (Some n) is = absurd is
value-found whole es key (Some d) None is = absurd is
