-- What is read as a node is one, and a node is read.
use Rattle.std.proofs.Common.{◌≡◌, ℕ, Bool, true, false, List, Option, Some, None, refl, sym, ap, ◌∙◌, subst, flat_map}
use Rattle.std.specs.Prelude.{MatchOption}
use Rattle.ild_data.specs.Data.{Data, bytes, list, Items, items_of, items_list}
use Rattle.ild_data.proofs.Lists.{items_list-items_of}
use Rattle.ild_cbor.specs.declared.node.Node.{Node}
use Rattle.ild_cbor.specs.Nodes.{HasData, IsPart}
use Rattle.ild_cbor.specs.Span.{place_of}
use Rattle.ild_cbor.specs.declared.items.Items.{Items as ItemsLeft}
use Rattle.ild_cbor.specs.Scalar.{bytes_of}
use Rattle.ild_cbor.specs.Steps.{IteratesItems, FindsItems, items_of as list_items}
use Rattle.ild_data.specs.declared.hamt_shape.HamtShape.{HamtShape}
use Rattle.ild_data.specs.Trie.{TrieSlot, map_of, elements_of, node_data}
use Rattle.ild_node_slots.specs.Form.{IsNode}
use Rattle.ild_node_slots.specs.Items.{IsAtItem}
use Rattle.ild_typed.specs.NodeReading.{pair_in, parts_fit, pair_fits, node_fits}
use Rattle.ild_node_slots.specs.inside.Parts.{PairIs}
use Rattle.ild_node_slots.specs.Slotted.{IsSlotted}
use Rattle.ild_node_slots.specs.Views.{HasSlots, IsSomeNode, view_shape}
use Rattle.ild_node_slots.specs.declared.view.NodeView.{NodeView}
use Rattle.ild_node_slots.proofs.Iter.{iter-first}
use Rattle.ild_typed.proofs.NodeRoots.{node-taken}

-- ---- the parts of a view

pub record PartsOf (n : Node) (t : Data) (ones : List ℕ) (b : Node) (it : ItemsLeft) : Type 0 where
  pub parts : Items
  pub pair : pair_in t ≡ Some (bytes ones, list parts)
  pub items : IteratesItems b parts it
  pub elements : IsPart n b (place_of t 1) (list parts)

bytes_is : (d : Data) (m : List ℕ) → Some m ≡ bytes_of d → d ≡ bytes m
bytes_is (bytes s) m is = let same : s ≡ m = cc in ap bytes same
bytes_is d m is = absurd cc

parts_in : (n : Node) (t d e : Data) (ones : List ℕ) (b : Node) (it : ItemsLeft) → pair_in t ≡ Some (d, e) → d ≡ bytes ones → IsPart n b (place_of t 1) e → FindsItems b (list_items e) (Some it) → PartsOf n t ones b it
parts_in n t d (list ds) ones b it pair is part finds = record { parts = ds; pair = pair ∙ ap (λ x. Some (x, list ds)) is; items = finds; elements = part }
parts_in n t d e ones b it pair is part finds = absurd finds

parts_by : (n : Node) (t : Data) (o : Option (Data × Data)) (a b : Node) (ones : List ℕ) (it : ItemsLeft) → o ≡ pair_in t → PairIs n t o (Some (a, b)) → ((d : Data) → HasData a d → Some ones ≡ bytes_of d)
    → ((d : Data) → HasData b d → FindsItems b (list_items d) (Some it)) → PartsOf n t ones b it
parts_by n t None a b ones it read pair keys items = absurd pair
parts_by n t (Some x) a b ones it read pair keys items =
    parts_in n t x.0 x.1 ones b it (sym read) (bytes_is x.0 ones (keys x.0 pair.0.stands)) pair.1 (items x.1 pair.1.stands)

pub parts-of : (n : Node) (t : Data) (a b : Node) (ones : List ℕ) (it : ItemsLeft) → PairIs n t (pair_in t) (Some (a, b)) → ((d : Data) → HasData a d → Some ones ≡ bytes_of d)
    → ((d : Data) → HasData b d → FindsItems b (list_items d) (Some it)) → PartsOf n t ones b it
parts-of n t a b ones it pair keys items = parts_by n t (pair_in t) a b ones it refl pair keys items

pub not-fits : (p : HamtShape) (n : Node) (t : Data) (ones : List ℕ) (b : Node) (it : ItemsLeft) (parts : PartsOf n t ones b it) (r : Bool) → r ≡ parts_fit p (bytes ones, list parts.parts) → r ≡ false → node_fits p t ≡ false
not-fits p n t ones b it parts r is off = ap (pair_fits p) parts.pair ∙ sym is ∙ off

not_listed : (p : HamtShape) (n : Node) (t d e : Data) (b : Node) → IsPart n b (place_of t 1) e → ((u : Data) → HasData b u → FindsItems b (list_items u) None) → parts_fit p (d, e) ≡ false
not_listed p n t (bytes m) (list ds) b part items = absurd (items (list ds) part.stands)
not_listed p n t (bytes m) e b part items = refl
not_listed p n t d e b part items = refl

-- an item whose second part is no list isn't read
pub not-listed : (p : HamtShape) (n : Node) (t : Data) (a b : Node) (r : Option NodeView) (Q : NodeView → Type 0) → PairIs n t (pair_in t) (Some (a, b)) → ((u : Data) → HasData b u → FindsItems b (list_items u) None)
    → r ≡ None → MatchOption r (node_fits p t ≡ false) Q
not-listed p n t a b (Some v) Q pair items none = absurd cc
not-listed p n t a b None Q pair items none = by (pair_in t) pair
  where
    by : (o : Option (Data × Data)) → PairIs n t o (Some (a, b)) → pair_fits p o ≡ false
    by None pair = absurd pair
    by (Some x) pair = not_listed p n t x.0 x.1 b pair.1 items

-- ---- nodes

pub same_pair : (m n : List ℕ) (ds es : Items) → ◌≡◌ {A = Option (Data × Data)} (Some (bytes m, list ds)) (Some (bytes n, list es)) → (m ≡ n) × (ds ≡ es)
same_pair m n ds es is =
    let both : ◌≡◌ {A = Data × Data} (bytes m, list ds) (bytes n, list es) = cc in
    (same_bytes m n (ap (λ (x : Data × Data). x.0) both), same_items ds es (ap (λ (x : Data × Data). x.1) both))
  where
    same_bytes : (m n : List ℕ) → bytes m ≡ bytes n → m ≡ n
    same_bytes m n is = cc

    same_items : (ds es : Items) → list ds ≡ list es → ds ≡ es
    same_items ds es is = cc

-- the parts of an item that stands for the node of slots are those of these slots
pub slotted : (p : HamtShape) (node body : Node) (ones : List ℕ) (it : ItemsLeft) (slots : List TrieSlot) → PartsOf node (node_data slots) ones body it → HasData node (node_data slots) → IsNode p slots
    → IsSlotted p p node body ones it slots
slotted p node body ones it slots parts stands form =
    let same = same_pair (map_of slots) ones (items_of (flat_map elements_of slots)) parts.parts parts.pair in
    record {
      shape = refl;
      stands = stands;
      map = sym same.0;
      part = subst (λ (ds : Items). IsPart node body (place_of (node_data slots) 1) (list ds)) (sym same.1) parts.elements;
      elements = iter-first body (flat_map elements_of slots) it (subst (λ (ds : Items). IteratesItems body ds it) (sym same.1) parts.items);
      form = form;
    }

-- they are those of slots, where they were told to be a node's
pub record Taken (p : HamtShape) (node body : Node) (ones : List ℕ) (it : ItemsLeft) (t : Data) : Type 0 where
  pub slots : List TrieSlot
  pub is : t ≡ node_data slots
  pub has : IsSlotted p p node body ones it slots

pub taken : (p : HamtShape) (node body : Node) (ones : List ℕ) (it : ItemsLeft) (t : Data) (parts : PartsOf node t ones body it) → parts_fit p (bytes ones, list parts.parts) ≡ true → HasData node t → Taken p node body ones it t
taken p node body ones it t parts fits stands =
    let n = node-taken p t p.wide stands.within.tree (ap (pair_fits p) parts.pair ∙ fits) in
    record {
      slots = n.slots;
      is = n.is;
      has = slotted p node body ones it n.slots (subst (λ (d : Data). PartsOf node d ones body it) n.is parts) (subst (λ (d : Data). HasData node d) n.is stands) (record { many = n.many; each = n.each });
    }

-- a view of the node of some slots has also those that are the same data
pub slots-same : (p : HamtShape) (v : NodeView) (slots ts : List TrieSlot) → HasSlots p v slots → node_data ts ≡ node_data slots → IsNode p ts → HasSlots p v ts
slots-same p v slots ts has is form =
    let same = same_pair (map_of ts) (map_of slots) (items_of (flat_map elements_of ts)) (items_of (flat_map elements_of slots)) (ap pair_in is) in
    let listed : flat_map elements_of slots ≡ flat_map elements_of ts =
    sym (items_list-items_of (flat_map elements_of slots)) ∙ ap items_list (sym same.1) ∙ items_list-items_of (flat_map elements_of ts) in
    record {
      shape = has.shape;
      stands = subst (λ (d : Data). HasData v.node d) (sym is) has.stands;
      map = has.map ∙ sym same.0;
      part = subst (λ (d : Data). IsPart v.node v.data (place_of d 1) (list (items_of (flat_map elements_of ts)))) (sym is)
          (subst (λ (ds : List Data). IsPart v.node v.data (place_of (node_data slots) 1) (list (items_of ds))) listed has.part);
      elements = subst (λ (ds : List Data). IsAtItem v.data ds 0 v.elements) listed has.elements;
      form = form;
    }

-- each view is that of a node
pub some-node : (v : NodeView) → ∥ IsSomeNode v ∥₁
some-node v = v.stands

-- it has slots of the shape that it has
pub slots-at : (p : HamtShape) (v : NodeView) → view_shape v ≡ p → (n : IsSomeNode v) → HasSlots p v n.slots
slots-at p v own n = subst (λ (q : HamtShape). HasSlots q v n.slots) own n.has
