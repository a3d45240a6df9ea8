-- The places of the part that an edit brings are places in the changed value, and its nodes are nodes.
use Rattle.std.proofs.Common.{◌≡◌, inl, inr, ◌<◌, ℕ, Bool, List, [], ◌∷◌, slice_get, refl, ap, sym, subst, ◌∙◌, arith}
use Rattle.std.specs.Prelude.{Contains, option_and_then}
use Rattle.std.specs.List.{AllByRecursion}
use Rattle.ild_schema.proofs.Parts.{values_list-values_of}
use Rattle.ild_data.proofs.AllOf.{all_split, all_append, all_contained}
use Rattle.ild_data.specs.Data as D
use Rattle.ild_data.specs.Data.{Data}
use Rattle.ild_schema.specs.declared.number.Slot.{Slot}
use Rattle.ild_schema.specs.declared.row.Row.{Row}
use Rattle.ild_schema.specs.Prelude.{anything}
use Rattle.ild_schema.specs.Value.{Value, values_of}
use Rattle.ild_typed.specs.At.{InSlot, at, seen}
use Rattle.ild_typed.specs.Blocks.{nodes}
use Rattle.ild_typed.specs.Holder.{Holder, value_of, of_any}
use Rattle.ild_typed.specs.OfType.{TestsKeys}
use Rattle.ild_typed.specs.Schema.{IsSchema}
use Rattle.ild_typed.specs.Segment.{part}
use Rattle.ild_typed.specs.Slots.{element_of}
use Rattle.ild_typed.proofs.Rooms.{all_more}
use Rattle.ild_typed_places.specs.Parts.{LieIn}
use Rattle.ild_typed_places.specs.Places.{Place, Places, blocks_in, down_from, each_place, nowhere, place, places_in}
use Rattle.ild_typed_places.proofs.Joining.{down_each}
use Rattle.ild_typed_places.proofs.Listing.{all_one}
use Rattle.ild_typed_places.proofs.Parted.{elements as in_elements}
use Rattle.ild_typed_places.proofs.Telling.{are_nodes}
use Rattle.ild_path_places.proofs.Along.{places_of_parts}
use Rattle.ild_path_judged.proofs.Last.{HeldBy}
use Rattle.ild_path_brought.specs.Laws.{PlacesOfBrought, NodesOfBrought}
use Rattle.ild_path_brought.proofs.Standing.{Stood, at_segment, as_element, as_data, StandsIn, stands_in}

module _ (h : List ℕ → List ℕ) (rows : List Row) where
  none_in : (d : Data) → places_in h rows anything (of_any d) ≡ nowhere
  none_in D.null = refl
  none_in (D.boolean b) = refl
  none_in (D.integer n) = refl
  none_in (D.text s) = refl
  none_in (D.bytes s) = refl
  none_in (D.list ds) = refl
  none_in (D.map ms) = refl
  none_in (D.link s) = refl

  lie_nowhere : (ps qs : Places) → ps ≡ nowhere → LieIn ps qs
  lie_nowhere ps qs is = subst (λ (r : Places). LieIn r qs) (sym is) (λ x here. absurd (no_place x here)) where
    no_place : (x : Place) → Contains [] x → ⊥
    no_place x here = let low : here.0 < 0 = here.1 in omega (arith, low)

  module _ (is_key : ℕ → List ℕ → Bool) (schema : IsSchema rows) (keys : TestsKeys rows is_key) where
    of_holder : (s : Slot) (k : Holder) (slot : Slot) (w : Value) → seen rows (s, value_of k) ≡ k → HeldBy rows is_key schema keys s k → Stood k slot w → LieIn (places_in h rows slot w) (places_in h rows s (value_of k))
    of_holder s k slot w again held (at_segment t e) =
        places_of_parts h rows (s, value_of k) (slot, w) (t ∷ []) (ap (λ o. option_and_then (λ q. at rows q []) o) (ap (λ k. part k t) again ∙ e))
    of_holder s k slot w again held (as_element xs i e is) =
        subst (λ k. HeldBy rows is_key schema keys s k → LieIn (places_in h rows slot w) (places_in h rows s (value_of k))) (sym e)
        (λ it. in_elements h rows s slot (values_of xs) i w (ap element_of it.1) (ap (λ ys. slice_get ys i) (values_list-values_of xs) ∙ is)) held
    of_holder s k slot w again held (as_data ds i d e is same) =
        subst (λ (r : InSlot). LieIn (places_in h rows r.0 r.1) (places_in h rows s (value_of k))) same (lie_nowhere (places_in h rows anything (of_any d)) (places_in h rows s (value_of k)) (none_in d))

    lie_in : (p : InSlot) (c : Value) (slot : Slot) (w : Value) → StandsIn rows is_key schema keys p c slot w → LieIn (places_in h rows slot w) (places_in h rows p.0 c)
    lie_in p c slot w (inl same) = subst (λ (r : InSlot). LieIn (places_in h rows r.0 r.1) (places_in h rows p.0 c)) same (λ x here. here)
    lie_in p c slot w (inr b) = λ x here. places_of_parts h rows (p.0, c) (b.place, value_of b.holder) b.path b.leads x (of_holder b.place b.holder slot w b.again b.held b.stood x here)

pub places_of_brought : PlacesOfBrought
places_of_brought h rows is_key p how path slot w c b = lie_in h rows is_key b.schema b.keys p c slot w (stands_in rows is_key p how path slot w c b)

-- ---- blocks

-- what each place's block has, each block has
each_block : (P : List ℕ → Type 0) (ps : Places) → AllByRecursion (λ (x : Place). P x.0) (each_place ps) → AllByRecursion P (blocks_in ps)
each_block P nowhere all = tt
each_block P (place b beneath ps) all =
    let x = all_split (λ (x : Place). P x.0) (each_place beneath) (each_place ps) all.1 in
    (all.0, all_append P (blocks_in beneath) (blocks_in ps) (each_block P beneath x.0) (each_block P ps x.1))

blocks_lie : (ps qs : Places) → LieIn ps qs → AllByRecursion (Contains (blocks_in qs)) (blocks_in ps)
blocks_lie ps qs lie =
    let down = down_each (Contains (blocks_in qs)) qs (all_one (blocks_in qs)) in
    let block = λ (x : Place) (here : Contains (each_place ps) x). (all_contained (λ (y : Place). AllByRecursion (Contains (blocks_in qs)) (down_from y)) (each_place qs) x down (lie x here)).0 in
    each_block (Contains (blocks_in qs)) ps (all_more (Contains (each_place ps)) (λ (x : Place). Contains (blocks_in qs) x.0) block (each_place ps) (all_one (each_place ps)))

pub nodes_of_brought : NodesOfBrought
nodes_of_brought h rows is_key p how path slot w c b =
    let ps = places_in h rows slot w in
    let qs = places_in h rows p.0 c in
    let lie = blocks_lie ps qs (places_of_brought h rows is_key p how path slot w c b) in
    let node = λ (x : List ℕ) (here : Contains (nodes h rows slot w) x). (are_nodes h rows p.0 c x).0 (all_contained (Contains (blocks_in qs)) (blocks_in ps) x lie ((are_nodes h rows slot w x).1 here)) in
    all_more (Contains (nodes h rows slot w)) (Contains (nodes h rows p.0 c)) node (nodes h rows slot w) (all_one (nodes h rows slot w))
