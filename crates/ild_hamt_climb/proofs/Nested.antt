-- The values in a node leave room for the node around them.
use Rattle.std.proofs.Common.{◌≡◌, ℕ, zero, suc, ◌≤◌, List, [], ◌∷◌, get_or, flat_map, Option, Some, None, refl, subst}
use Rattle.std.specs.Prelude.{slice_get}
use Rattle.std.specs.Borrow.{Bor}
use Rattle.std.specs.List.{AllByRecursion}
use Rattle.ild_data.proofs.AllOf.{all_first, all_second}
use Rattle.ild_data.specs.declared.hamt_shape.HamtShape.{HamtShape}
use Rattle.ild_data.specs.Data.{Data, depth}
use Rattle.ild_data.specs.Limits.{IsWithin}
use Rattle.ild_data.specs.Trie.{TrieSlot, empty, bucket, child, elements_of, node_data}
use Rattle.ild_cbor.specs.Nodes.{HasData}
use Rattle.ild_cbor.specs.declared.node.Node.{Node}
use Rattle.ild_cbor.proofs.Blocks.{one_tree_lem}
use Rattle.ild_typed.specs.Nested.{TreeIn}
use Rattle.ild_node.specs.Rows.{AreShallow, deepest_value}
use Rattle.ild_node_slots.specs.Views.{HasSlots, EntryIs, SlotIs}
use Rattle.ild_node_slots.specs.declared.bucket.Bucket.{Bucket}
use Rattle.ild_node_slots.specs.declared.view.NodeView.{NodeView}
use Rattle.ild_node_slots.specs.declared.view.NodeSlot.{NodeSlot}
use Rattle.ild_node_slots.specs.declared.view.NodeSlot.TheVariants as S
use Rattle.ild_node.proofs.Standing.{elements_in, bucket_in}
use Rattle.ild_hamt_climb.specs.Known.{SomeBucket, SomeSlot}
use Rattle.ild_hamt_climb.specs.Seen.{IsReadOf}
use Rattle.ild_hamt_climb.proofs.Shown.{slot-shows}

elements_of-in : (slots : List TrieSlot) (i : ℕ) → AllByRecursion (TreeIn 94) (flat_map elements_of slots) → AllByRecursion (TreeIn 94) (elements_of (get_or slots i empty))
elements_of-in [] i all = tt
elements_of-in (s ∷ slots) zero all = all_first (TreeIn 94) (elements_of s) (flat_map elements_of slots) all
elements_of-in (s ∷ slots) (suc i) all = elements_of-in slots i (all_second (TreeIn 94) (elements_of s) (flat_map elements_of slots) all)

pub shallow-slot : (slots : List TrieSlot) (i : ℕ) (es : List (List ℕ × Data)) → IsWithin (node_data slots) → get_or slots i empty ≡ bucket es → AreShallow es
shallow-slot slots i es w is = bucket_in es (subst (λ (s : TrieSlot). AllByRecursion (TreeIn 94) (elements_of s)) is (elements_of-in slots i (elements_in slots w))).0

-- ---- what was read

slot-known : (slots : List TrieSlot) (i : ℕ) (r : NodeSlot) (s : TrieSlot) → IsWithin (node_data slots) → get_or slots i empty ≡ s → IsReadOf r s → SomeSlot r
slot-known slots i S.Empty s w is shows = tt
slot-known slots i (S.Bucket b) empty w is shows = absurd shows
slot-known slots i (S.Bucket b) (bucket es) w is shows = record { es = es; has = shows; low = shallow-slot slots i es w is }
slot-known slots i (S.Bucket b) (child c) w is shows = absurd shows
slot-known slots i (S.Child id) s w is shows = tt

pub some-slot : (p : HamtShape) (v : NodeView) (slots : List TrieSlot) (i : ℕ) (r : NodeSlot) → HasSlots p v slots → IsReadOf r (get_or slots i empty) → SomeSlot r
some-slot p v slots i r has shows = slot-known slots i r (get_or slots i empty) has.stands.within refl shows

pub some-next : (p : HamtShape) (v : NodeView) (slots : List TrieSlot) (i : ℕ) (r : NodeSlot) → HasSlots p v slots → SlotIs v slots i r → SomeSlot r
some-next p v slots i r has is = some-slot p v slots i r has (slot-shows v slots i i r refl is)

-- ---- a value

one-tree : (n : Node) (d e : Data) → HasData n d → HasData n e → d ≡ e
one-tree n d e p q = one_tree_lem _ _ _ _ d e p q

shallow-at : (es : List (List ℕ × Data)) (i : ℕ) (e : List ℕ × Data) → AreShallow es → slice_get es i ≡ Some e → depth e.1 ≤ deepest_value
shallow-at [] i e all is = absurd cc
shallow-at (f ∷ es) zero e all is = let same : f ≡ e = cc in subst (λ (x : List ℕ × Data). depth x.1 ≤ deepest_value) same all.0.nested
shallow-at (f ∷ es) (suc i) e all is = shallow-at es i e all.1 is

pub value-low : (b : Bucket) (some : SomeBucket b) (i : ℕ) (key : Bor (List ℕ)) (value : Node) (t : Data) → EntryIs b some.es i (slice_get some.es i) (Some (key, value)) → HasData value t → depth t ≤ deepest_value
value-low b some i key value t is stands = by (slice_get some.es i) refl is
  where
    by : (o : Option (List ℕ × Data)) → slice_get some.es i ≡ o → EntryIs b some.es i o (Some (key, value)) → depth t ≤ deepest_value
    by None at is = absurd is
    by (Some e) at is = subst (λ (d : Data). depth d ≤ deepest_value) (one-tree value e.1 t is.1.stands stands) (shallow-at some.es i e some.low at)
