-- The entries in the block of a HAMT's root, one after another, and what is found of such a root by itself.
use Rattle.std.proofs.Common.{◌≡◌, ℕ, zero, suc, ◌+◌, ◌-◌, ◌^◌, ◌<◌, ◌≤◌, List, [], ◌∷◌, ◌++◌, length, drop, get_or, true, false, Option, Some, None, refl, sym, ◌∙◌, ap, subst, arith}
use Rattle.std.specs.Prelude.{slice_get}
use Rattle.std.specs.List.{AllByRecursion}
use Rattle.std.specs.Borrow.{Bor}
use Rattle.std.proofs.lemmas.Option.{none-some, same_Some}
use Rattle.ild_data.proofs.Gets.{drop_at, drop_past}
use Rattle.ild_data.specs.Data as T
use Rattle.ild_data.specs.Data.{Data}
use Rattle.ild_data.specs.Trie as Trie
use Rattle.ild_data.specs.Trie.{TrieSlot}
use Rattle.ild_data.specs.declared.id.BlockId.{BlockId}
use Rattle.ild_data.specs.declared.hamt_shape.HamtShape.{HamtShape}
use Rattle.ild_cbor.specs.declared.node.Node.{Node}
use Rattle.ild_cbor.specs.declared.piece.Piece.TheVariants as Q
use Rattle.ild_node_slots.specs.Steps.{IsAtSlot, SlotStep}
use Rattle.ild_node_slots.proofs.Shapes.{pow_few}
use Rattle.ild_node_slots.specs.Views.{EntryIs, HasEntries, HasSlots, SlotHolds}
use Rattle.ild_node_slots.specs.declared.bucket.Bucket.{Bucket}
use Rattle.ild_node_slots.specs.declared.slots.Slots.{Slots}
use Rattle.ild_node_slots.specs.declared.view.NodeSlot.{NodeSlot}
use Rattle.ild_node_slots.specs.declared.view.NodeSlot.TheVariants as S
use Rattle.ild_node_slots.specs.declared.view.NodeView.{NodeView}
use Rattle.ild_schema.specs.Slots.{plainly}
use Rattle.ild_schema.specs.declared.number.Slot.{Slot}
use Rattle.ild_schema.specs.declared.number.TypeNo.{TypeNo}
use Rattle.ild_schema.specs.declared.row.Row.{Row}
use Rattle.ild_typed.specs.Node.{IsSlot}
use Rattle.ild_typed.specs.RootSpots.{bucket_spots, in_node, root_spots}
use Rattle.ild_typed.specs.Spots.{Spot, key_spot, value_spot}
use Rattle.ild_layer_parts.specs.declared.part.Part.{Part}
use Rattle.ild_layer_parts.specs.declared.root.RootEntries.{RootEntries}
use Rattle.ild_layer_places.specs.declared.way.Way.{Way}
use Rattle.ild_layer_parts.specs.Part.{IsSpotted}
use Rattle.ild_layer_parts.specs.Root.{HasRoot, IsBucketLeft, IsRootHeld, SplitsRootOff}
use Rattle.ild_layer_parts.specs.Entries.{held_count}
use Rattle.ild_layer_parts.specs.Ways.{LeadsFirst}
use Rattle.ild_layer_parts.proofs.Leading.{leads_there}
use Rattle.ild_layer_places.specs.Places.{steps_of}

none_behind : {A : Type 0} (xs : List A) (i : ℕ) → slice_get xs i ≡ None → drop i xs ≡ []
none_behind [] zero e = refl
none_behind [] (suc i) e = refl
none_behind (x ∷ xs) zero e = absurd (none-some x (sym e))
none_behind (x ∷ xs) (suc i) e = none_behind xs i e

got_or : {A : Type 0} (xs : List A) (i : ℕ) (d : A) → i < length xs → slice_get xs i ≡ Some (get_or xs i d)
got_or [] i d h = absurd (omega (arith, h))
got_or (x ∷ xs) zero d h = refl
got_or (x ∷ xs) (suc i) d h = got_or xs i d (omega (arith, h))

slot_at : (p : HamtShape) (slots : List TrieSlot) (i : ℕ) (z : TrieSlot) → AllByRecursion (IsSlot p) slots → slice_get slots i ≡ Some z → IsSlot p z
slot_at p [] i z all e = absurd (none-some z e)
slot_at p (y ∷ ys) zero z all e = subst (IsSlot p) (same_Some y z e) all.0
slot_at p (y ∷ ys) (suc i) z all e = slot_at p ys i z all.1 e

module _ (s : RootEntries) (ps : List Spot) (h : HasRoot s ps) where
  -- a value whose key was handed out
  pub root_value : (rows : List Row) (x : Bor (List ℕ) × Node) (r : Part) (way : Way) → s.held ≡ Some x → r ≡ record { slot = s.value; piece = Q.Node x.1; is_key = false; way = way }
      → (rest : RootEntries) → rest ≡ record { key = s.key; value = s.value; slots = s.slots; element = s.element; bucket = s.bucket; entry = s.entry; held = None } → SplitsRootOff rows ps (Some r) rest
  root_value rows x r way held same rest is =
      let k = subst (λ o. IsRootHeld s o h.rest ps) held h.held in
      let spot : Spot = value_spot s.value k.0 (in_node s.element k.1 1) in
      subst (SplitsRootOff rows ps (Some r)) (sym is) (record {
        taken = spot ∷ [];
        others = h.rest;
        is = k.4;
        first = (spot, refl, subst (λ y. IsSpotted rows y spot) (sym same) (record { slot = refl; key = refl; stands = k.3 }));
        left = record { shape = h.shape; view = h.view; slots = h.slots; has = h.has; at = h.at; left = h.left; within = h.within; few = h.few; rest = h.rest; held = refl; bucket = h.bucket };
      })

  pub root_value_way : (x : Bor (List ℕ) × Node) → s.held ≡ Some x → (i : ℕ) → i ≡ s.entry - 1 → (r : Part) → steps_of r.way ≡ in_node s.element i 1 → LeadsFirst r ps
  root_value_way x held i before r way =
      let k = subst (λ o. IsRootHeld s o h.rest ps) held h.held in
      let behind = k.2 in
      let same : i ≡ k.1 = omega (arith, before, behind) in
      leads_there r ps (value_spot s.value k.0 (in_node s.element k.1 1)) h.rest k.4 (way ∙ ap (λ j. in_node s.element j 1) same)

  many : length h.slots ≤ 256
  many = let all = h.has.form.many in let few = pow_few h.shape in omega (arith, all, few)

  module _ (free : s.held ≡ None) where
    all_rest : ps ≡ h.rest
    all_rest = subst (λ o. IsRootHeld s o h.rest ps) free h.held

    module _ (b : Bucket) (there : s.bucket ≡ Some b) where
      in_it : IsBucketLeft s (Some b) (drop h.at h.slots) h.rest
      in_it = subst (λ o. IsBucketLeft s o (drop h.at h.slots) h.rest) there h.bucket

      counted : held_count s.bucket ≡ 1
      counted = ap held_count there

      pub root_key : (rows : List Row) (x : Bor (List ℕ) × Node) (r : Part) (way : Way) → r ≡ record { slot = plainly s.key; piece = Q.Text x.0; is_key = true; way = way }
          → ((es : List (List ℕ × Data)) → HasEntries b es → length es ≤ 16 → EntryIs b es s.entry (slice_get es s.entry) (Some x)) → (rest : RootEntries)
          → rest ≡ record { key = s.key; value = s.value; slots = s.slots; element = s.element; bucket = s.bucket; entry = s.entry + 1; held = Some x } → SplitsRootOff rows ps (Some r) rest
      root_key rows x r way same entry rest is = by (slice_get in_it.0 s.entry) refl (entry in_it.0 in_it.1 in_it.2) where
        by : (o : Option (List ℕ × Data)) → slice_get in_it.0 s.entry ≡ o → EntryIs b in_it.0 s.entry o (Some x) → SplitsRootOff rows ps (Some r) rest
        by None got none = absurd none
        by (Some e) got e_is =
            let spot : Spot = key_spot s.key e.0 (in_node s.element s.entry 0) in
            let more : List Spot = bucket_spots s.key s.value s.element (s.entry + 1) (drop (s.entry + 1) in_it.0) ++ root_spots s.key s.value (s.element + 1) (drop h.at h.slots) in
            let behind : List Spot =
            value_spot s.value e.1 (in_node s.element s.entry 1) ∷ (bucket_spots s.key s.value s.element (s.entry + 1) (drop (s.entry + 1) in_it.0) ++ root_spots s.key s.value (s.element + 1) (drop h.at h.slots)) in
            subst (SplitsRootOff rows ps (Some r)) (sym is) (record {
              taken = spot ∷ [];
              others = behind;
              is = all_rest ∙ in_it.3 ∙ ap (λ es. bucket_spots s.key s.value s.element s.entry es ++ root_spots s.key s.value (s.element + 1) (drop h.at h.slots)) (drop_at in_it.0 s.entry e got);
              first = (spot, refl, subst (λ y. IsSpotted rows y spot) (sym same) (record { slot = refl; key = refl; stands = ap T.text (sym e_is.0) }));
              left = record {
                shape = h.shape;
                view = h.view;
                slots = h.slots;
                has = h.has;
                at = h.at;
                left = h.left;
                within = h.within;
                few = h.few;
                rest = more;
                held = (e.1, s.entry, refl, e_is.1.stands, refl);
                bucket = subst (λ o. IsBucketLeft (record { key = s.key; value = s.value; slots = s.slots; element = s.element; bucket = s.bucket; entry = s.entry + 1; held = Some x }) o (drop h.at h.slots) more)
                    (sym there) (in_it.0, in_it.1, in_it.2, refl);
              };
            })

      pub root_key_way : (x : Bor (List ℕ) × Node) → ((es : List (List ℕ × Data)) → HasEntries b es → length es ≤ 16 → EntryIs b es s.entry (slice_get es s.entry) (Some x)) → (r : Part)
          → steps_of r.way ≡ in_node s.element s.entry 0 → LeadsFirst r ps
      root_key_way x entry r way = by (slice_get in_it.0 s.entry) refl (entry in_it.0 in_it.1 in_it.2) where
        by : (o : Option (List ℕ × Data)) → slice_get in_it.0 s.entry ≡ o → EntryIs b in_it.0 s.entry o (Some x) → LeadsFirst r ps
        by None got none = absurd none
        by (Some e) got e_is =
            leads_there r ps (key_spot s.key e.0 (in_node s.element s.entry 0))
            (value_spot s.value e.1 (in_node s.element s.entry 1) ∷ (bucket_spots s.key s.value s.element (s.entry + 1) (drop (s.entry + 1) in_it.0) ++ root_spots s.key s.value (s.element + 1) (drop h.at h.slots)))
            (all_rest ∙ in_it.3 ∙ ap (λ es. bucket_spots s.key s.value s.element s.entry es ++ root_spots s.key s.value (s.element + 1) (drop h.at h.slots)) (drop_at in_it.0 s.entry e got)) way

      pub root_out : (rows : List Row) → ((es : List (List ℕ × Data)) → HasEntries b es → length es ≤ 16 → EntryIs b es s.entry (slice_get es s.entry) None)
          → (next : ℕ) → (s.element < 2 ^ 64 - 1 → next ≡ s.element + 1)
          → (rest : RootEntries) → rest ≡ record { key = s.key; value = s.value; slots = s.slots; element = next; bucket = None; entry = 0; held = None } → SplitsRootOff rows ps None rest
      root_out rows entry next up rest is = by (slice_get in_it.0 s.entry) refl (entry in_it.0 in_it.1 in_it.2) where
        few : s.element + 1 ≤ h.at
        few = let own = h.few in let one = counted in omega (arith, own, one)

        here : next ≡ s.element + 1
        here = up (let own = few in let most = h.within in let long = many in omega (arith, own, most, long))

        by : (o : Option (List ℕ × Data)) → slice_get in_it.0 s.entry ≡ o → EntryIs b in_it.0 s.entry o None → SplitsRootOff rows ps None rest
        by (Some e) got none = absurd none
        by None got none =
            subst (SplitsRootOff rows ps None) (sym is)
            (subst (λ n. SplitsRootOff rows ps None (record { key = s.key; value = s.value; slots = s.slots; element = n; bucket = None; entry = 0; held = None })) (sym here) (record {
              taken = [];
              others = root_spots s.key s.value (s.element + 1) (drop h.at h.slots);
              is = all_rest ∙ in_it.3 ∙ ap (λ es. bucket_spots s.key s.value s.element s.entry es ++ root_spots s.key s.value (s.element + 1) (drop h.at h.slots)) (none_behind in_it.0 s.entry got);
              first = tt;
              left = record {
                shape = h.shape;
                view = h.view;
                slots = h.slots;
                has = h.has;
                at = h.at;
                left = h.left;
                within = h.within;
                few = let own = few in omega (arith, own);
                rest = root_spots s.key s.value (s.element + 1) (drop h.at h.slots);
                held = refl;
                bucket = refl;
              };
            }))

    module _ (none : s.bucket ≡ None) where
      slots_left : ps ≡ root_spots s.key s.value s.element (drop h.at h.slots)
      slots_left = all_rest ∙ subst (λ o. IsBucketLeft s o (drop h.at h.slots) h.rest) none h.bucket

      few_before : s.element ≤ h.at
      few_before = let own = h.few in let no = ap held_count none in omega (arith, own, no)

      pub root_end : ((p : HamtShape) (v : NodeView) (slots : List TrieSlot) (i : ℕ) → HasSlots p v slots → IsAtSlot v slots i s.slots → length slots ≤ i) → ps ≡ []
      root_end over = slots_left ∙ ap (root_spots s.key s.value s.element) (drop_past h.slots h.at (over h.shape h.view h.slots h.at h.has h.left))

      abbrev Away : Slots → ℕ → Option Bucket → RootEntries
      Away after element bucket = record { key = s.key; value = s.value; slots = after; element = element; bucket = bucket; entry = 0; held = None }

      module _ (rows : List Row) (after : Slots) (found : NodeSlot)
          (step : (p : HamtShape) (v : NodeView) (slots : List TrieSlot) (i : ℕ) → HasSlots p v slots → IsAtSlot v slots i s.slots → SlotStep v slots i (Some found) after) where
        here : SlotStep h.view h.slots h.at (Some found) after
        here = step h.shape h.view h.slots h.at h.has h.left

        got : slice_get h.slots h.at ≡ Some (get_or h.slots h.at Trie.empty)
        got = got_or h.slots h.at Trie.empty here.0

        now : ps ≡ root_spots s.key s.value s.element (get_or h.slots h.at Trie.empty ∷ drop (h.at + 1) h.slots)
        now = slots_left ∙ ap (root_spots s.key s.value s.element) (drop_at h.slots h.at (get_or h.slots h.at Trie.empty) got)

        below : h.at + 1 ≤ length h.slots
        below = let less = here.0 in omega (arith, less)

        -- behind a slot without a bucket
        passed : (element : ℕ) → element ≤ h.at + 1 → ps ≡ root_spots s.key s.value element (drop (h.at + 1) h.slots) → SplitsRootOff rows ps None (Away after element None)
        passed element few is = record {
          taken = [];
          others = root_spots s.key s.value element (drop (h.at + 1) h.slots);
          is = is;
          first = tt;
          left = record {
            shape = h.shape;
            view = h.view;
            slots = h.slots;
            has = h.has;
            at = h.at + 1;
            left = here.2;
            within = below;
            few = omega (arith, few);
            rest = root_spots s.key s.value element (drop (h.at + 1) h.slots);
            held = refl;
            bucket = refl;
          };
        }

        pub root_empty : found ≡ S.Empty → (rest : RootEntries) → rest ≡ Away after s.element None → SplitsRootOff rows ps None rest
        root_empty is rest same = subst (SplitsRootOff rows ps None) (sym same) (by (get_or h.slots h.at Trie.empty) now (subst (λ f. SlotHolds h.view h.slots h.at f (get_or h.slots h.at Trie.empty)) is here.1)) where
          by : (y : TrieSlot) → ps ≡ root_spots s.key s.value s.element (y ∷ drop (h.at + 1) h.slots) → SlotHolds h.view h.slots h.at S.Empty y → SplitsRootOff rows ps None (Away after s.element None)
          by Trie.empty e k = passed s.element (let few = few_before in omega (arith, few)) e
          by (Trie.bucket es) e k = absurd k
          by (Trie.child c) e k = absurd k

        pub root_child : (id : BlockId) → found ≡ S.Child id → (next : ℕ) → (s.element < 2 ^ 64 - 1 → next ≡ s.element + 1) → (rest : RootEntries) → rest ≡ Away after next None → SplitsRootOff rows ps None rest
        root_child id is next up rest same =
            subst (SplitsRootOff rows ps None) (sym (same ∙ ap (λ n. Away after n None) here_next))
            (by (get_or h.slots h.at Trie.empty) now (subst (λ f. SlotHolds h.view h.slots h.at f (get_or h.slots h.at Trie.empty)) is here.1))
          where
            here_next : next ≡ s.element + 1
            here_next = up (let few = few_before in let less = here.0 in let long = many in omega (arith, few, less, long))

            by : (y : TrieSlot) → ps ≡ root_spots s.key s.value s.element (y ∷ drop (h.at + 1) h.slots) → SlotHolds h.view h.slots h.at (S.Child id) y → SplitsRootOff rows ps None (Away after (s.element + 1) None)
            by (Trie.child c) e k = passed (s.element + 1) (let few = few_before in omega (arith, few)) e
            by Trie.empty e k = absurd k
            by (Trie.bucket es) e k = absurd k

        pub root_bucket : (b : Bucket) → found ≡ S.Bucket b → (rest : RootEntries) → rest ≡ Away after s.element (Some b) → SplitsRootOff rows ps None rest
        root_bucket b is rest same =
            subst (SplitsRootOff rows ps None) (sym same)
            (by (get_or h.slots h.at Trie.empty) now (slot_at h.shape h.slots h.at (get_or h.slots h.at Trie.empty) h.has.form.each got) (subst (λ f. SlotHolds h.view h.slots h.at f (get_or h.slots h.at Trie.empty)) is here.1))
          where
            by : (y : TrieSlot) → ps ≡ root_spots s.key s.value s.element (y ∷ drop (h.at + 1) h.slots) → IsSlot h.shape y → SlotHolds h.view h.slots h.at (S.Bucket b) y
                → SplitsRootOff rows ps None (Away after s.element (Some b))
            by (Trie.bucket es) e form k = record {
              taken = [];
              others = bucket_spots s.key s.value s.element 0 es ++ root_spots s.key s.value (s.element + 1) (drop (h.at + 1) h.slots);
              is = e;
              first = tt;
              left = record {
                shape = h.shape;
                view = h.view;
                slots = h.slots;
                has = h.has;
                at = h.at + 1;
                left = here.2;
                within = below;
                few = let few = few_before in omega (arith, few);
                rest = bucket_spots s.key s.value s.element 0 es ++ root_spots s.key s.value (s.element + 1) (drop (h.at + 1) h.slots);
                held = refl;
                bucket = (es, k.entries, (let most = form.2 in let small = h.shape.small in omega (arith, most, small)), refl);
              };
            }
            by Trie.empty e form k = absurd k
            by (Trie.child c) e form k = absurd k

drop_none : {A : Type 0} (xs : List A) → xs ≡ drop 0 xs
drop_none [] = refl
drop_none (x ∷ xs) = refl

-- before the first slot
pub root_begins : (p : HamtShape) (key : TypeNo) (value : Slot) (view : NodeView) (slots : List TrieSlot) → HasSlots p view slots → (it : Slots) → IsAtSlot view slots 0 it
    → HasRoot (record { key = key; value = value; slots = it; element = 0; bucket = None; entry = 0; held = None }) (root_spots key value 0 slots)
root_begins p key value view slots has it left = record {
  shape = p;
  view = view;
  slots = slots;
  has = has;
  at = 0;
  left = left;
  within = omega arith;
  few = omega arith;
  rest = root_spots key value 0 slots;
  held = refl;
  bucket = ap (root_spots key value 0) (drop_none slots);
}
