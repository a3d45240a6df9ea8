-- Paths in a view: one segment, and then all.
use Rattle.std.proofs.Common.{◌≡◌, ◌<◌, ◌≤◌, ◌+◌, ◌^◌, ℕ, zero, suc, List, [], ◌∷◌, Bool, true, false, cond, length, length-append, drop, get_or, Option, Some, None, option_map, refl, sym, ◌∙◌, ap, subst, arith}
use Rattle.std.specs.Prelude.{option_and_then, slice_get, Result, Ok, Err}
use Rattle.std.specs.Option.{option_map_or}
use Rattle.std.specs.Borrow.{Bor}
use Rattle.std.proofs.lemmas.Option.{none-some}
use Rattle.ild_cbor.specs.Span.{item_of}
use Rattle.ild_cbor.specs.declared.piece.Piece.TheVariants as Q
use Rattle.ild_data.proofs.Gets.{past_end, drop_past}
use Rattle.ild_data.specs.Data as T
use Rattle.ild_data.specs.Data.{Data, Items, items_list}
use Rattle.ild_data.specs.Key.{same_text}
use Rattle.ild_data.specs.Spell.{head, spell, spell_items}
use Rattle.ild_data.proofs.Sizes.{items_count}
use Rattle.ild_data.specs.declared.hamt_shape.HamtShape.{HamtShape}
use Rattle.ild_node_slots.specs.declared.view.NodeView.{NodeView}
use Rattle.ild_schema.specs.Legible.{IsLegible}
use Rattle.ild_schema.specs.Prelude.{anything}
use Rattle.ild_schema.specs.Slots.{form_of, plainly}
use Rattle.ild_schema.specs.Value as V
use Rattle.ild_schema.specs.Value.{Value}
use Rattle.ild_schema.specs.declared.def.Member.{Member}
use Rattle.ild_schema.specs.declared.def.Scalar.{Scalar}
use Rattle.ild_schema.specs.declared.def.Scalar.TheVariants as C
use Rattle.ild_schema.specs.declared.def.TypeDef.{TypeDef}
use Rattle.ild_schema.specs.declared.def.TypeDef.TheVariants as D
use Rattle.ild_schema.specs.declared.number.Slot.{Slot}
use Rattle.ild_schema.specs.declared.row.Row.{Row}
use Rattle.ild_typed.specs.At.{InSlot, Reach, or_enter, reached, seen}
use Rattle.ild_typed.specs.Fields.{is_scalar}
use Rattle.ild_typed.specs.Fits.{Front}
use Rattle.ild_typed.specs.Hamt.{alone}
use Rattle.ild_typed.specs.Holder.{Holder, any_elements, any_entries, elements, entries, fields, member, nothing, of_any}
use Rattle.ild_typed.specs.Pieces.{is_null_there}
use Rattle.ild_typed.specs.Segment.{held_as, index_of, part}
use Rattle.ild_typed.proofs.OneValue.{Way, as_layer, as_null, way_of}
use Rattle.ild_view.proofs.Finding.{element_there}
use Rattle.ild_view.proofs.Parting.{Beside, no_element, seen_by, seen_null}
use Rattle.ild_view.specs.Body.{BodyStands}
use Rattle.ild_view.specs.Forms.{element_slot}
use Rattle.ild_view.specs.Parts.{HandsOut, HandsOutMember, IsPartView, element_at, entry_at, field_named, member_held}
use Rattle.ild_view.specs.Reaches.{Reaches}
use Rattle.ild_view.specs.Roots.{RootIs, root_in}
use Rattle.ild_view.specs.Safe.{is_safe}
use Rattle.ild_view.specs.View.{IsView, slot_of, table_of}
use Rattle.ild_view.specs.declared.body.Body.{Body}
use Rattle.ild_view.specs.declared.body.Body.TheVariants as B
use Rattle.ild_view.specs.declared.step.NoPath.{NoPath}
use Rattle.ild_view.specs.declared.step.Step.{Step}
use Rattle.ild_view.specs.declared.step.Step.TheVariants as S
use Rattle.ild_view.specs.declared.view.View.{View}

-- ---- elements are few

pub list_short : (ds : Items) → length (spell (T.list ds)) ≤ 4194304 → length (items_list ds) < 2 ^ 64
list_short ds h =
    let few = items_count ds in
    let sum = length-append (head 4 (length (items_list ds))) (spell_items ds) in
    omega (arith, h, few, sum)

sized_none : (t : Data) (i : ℕ) → length (spell t) ≤ 4194304 → 2 ^ 64 ≤ i → item_of t i ≡ None
sized_none (T.list ds) i h far = let few = list_short ds h in past_end (items_list ds) i (omega (arith, few, far))
sized_none t i h far = refl

no_scalar : (c : Scalar) (ds : Items) → is_scalar c (T.list ds) ≡ true → ⊥
no_scalar (C.Bool b) ds e = absurd cc
no_scalar (C.Int n) ds e = absurd cc
no_scalar (C.Text s) ds e = absurd cc

far_none : (rows : List Row) (b : Body) (t : Data) → BodyStands rows b t → (i : ℕ) → 2 ^ 64 ≤ i → item_of t i ≡ None
far_none rows (B.Held (Q.Node n)) t h i far = sized_none t i h.within.sized far
far_none rows (B.Held (Q.Text s)) t h i far = ap (λ d. item_of d i) h
far_none rows (B.Held (Q.Bytes s)) t h i far = ap (λ d. item_of d i) h
far_none rows (B.Held (Q.Inline n u)) t h i far = ap (λ d. item_of d i) h.rest
far_none rows (B.Implicit c) (T.list ds) h i far = absurd (no_scalar c.now ds h)
far_none rows (B.Implicit c) t h i far = refl

beside_none : (rows : List Row) (u : Slot) (o : Option Data) (q : Option InSlot) → o ≡ None → Beside rows u o q → q ≡ None
beside_none rows u None None e h = refl
beside_none rows u None (Some q) e h = absurd h
beside_none rows u (Some x) q e h = absurd (none-some x (sym e))

module _ (rows : List Row) (legible : IsLegible rows) (any : form_of rows anything ≡ Some D.Any) (s : Slot) (safe : is_safe rows s ≡ true) (room : ℕ) (f : Value) (t : Data) (front : Front rows room s f t) (b : Body) (stands : BodyStands rows b t) where
  -- a place behind all elements of a block
  pub element_far : (i : ℕ) → 2 ^ 64 ≤ i → element_at (seen rows (s, f)) i ≡ None
  element_far i far = by (is_null_there s t) refl where
    held : (d : TypeDef) → form_of rows s ≡ Some d → is_null_there s t ≡ false → (o : Option Slot) → element_slot d ≡ o → element_at (seen rows (s, f)) i ≡ None
    held d known some None e = no_element rows legible.clear s safe room f t front d (seen_by rows legible.clear s safe room f t front some d known) e i
    held d known some (Some u) e =
        beside_none rows u (item_of t i) (element_at (seen rows (s, f)) i) (far_none rows b t stands i far) (element_there rows legible.clear s safe room f t front some any d known u e i)

    some_form : is_null_there s t ≡ false → Way alone rows s f t → (d : TypeDef) × (form_of rows s ≡ Some d)
    some_form e (as_null a n z) = let h : false ≡ true = sym e ∙ ap (is_null_there s) z ∙ n in absurd cc
    some_form e (as_layer d l is there made) = (d, is)

    by : (c : Bool) → is_null_there s t ≡ c → element_at (seen rows (s, f)) i ≡ None
    by true e = ap (λ h. element_at h i) (seen_null rows legible.clear s safe room f t front e)
    by false e = let x = some_form e (way_of alone rows s f t front.tree) in held x.0 x.1 e (element_slot x.0) refl

-- ---- a segment by what the holder is

module _ (rows : List Row) where
  pub part_field : (h : Holder) (k : List ℕ) (v : View) → HandsOut rows (field_named h k) (Some v) → HandsOut rows (part h k) (Some v)
  part_field (fields fs os) k v x = x
  part_field h k v x = absurd x

  pub part_entry : (h : Holder) (k : List ℕ) (v : View) → HandsOut rows (entry_at h k) (Some v) → HandsOut rows (part h k) (Some v)
  part_entry (entries key slot paired ps) k v x = x
  part_entry (any_entries ms) k v x = x
  part_entry h k v x = absurd x

  pub part_member : (h : Holder) (k : List ℕ) (w : Bor (List ℕ) × View) → HandsOutMember rows (member_held h) (Some w) → same_text k w.0.now ≡ true → HandsOut rows (part h k) (Some w.1)
  part_member (member ms n v) k w x e = by (slice_get ms n) x where
    by : (o : Option Member) → HandsOutMember rows (option_map (λ (m : Member). (m.name, (plainly m.ty, v))) o) (Some w) → HandsOut rows (held_as k v o) (Some w.1)
    by None y = absurd y
    by (Some m) y = subst (λ c. HandsOut rows (cond c (Some (plainly m.ty, v)) None) (Some w.1)) (sym (ap (same_text k) (sym y.0) ∙ e)) y.1
  part_member h k w x e = absurd x

  pub part_other : (h : Holder) (k : List ℕ) (w : Bor (List ℕ) × View) → HandsOutMember rows (member_held h) (Some w) → same_text k w.0.now ≡ false → HandsOut rows (part h k) None
  part_other (member ms n v) k w x e = by (slice_get ms n) x where
    by : (o : Option Member) → HandsOutMember rows (option_map (λ (m : Member). (m.name, (plainly m.ty, v))) o) (Some w) → HandsOut rows (held_as k v o) None
    by None y = absurd y
    by (Some m) y = subst (λ c. HandsOut rows (cond c (Some (plainly m.ty, v)) None) None) (sym (ap (same_text k) (sym y.0) ∙ e)) tt
  part_other h k w x e = absurd x

  nothing_more : (q : Option InSlot) (r : Option View) → HandsOut rows q None → HandsOut rows None r → HandsOut rows q r
  nothing_more q None x y = x
  nothing_more q (Some v) x y = absurd y

  no_member : (k : List ℕ) (v : Value) (o : Option Member) → HandsOutMember rows (option_map (λ (m : Member). (m.name, (plainly m.ty, v))) o) None → HandsOut rows (held_as k v o) None
  no_member k v None x = tt
  no_member k v (Some m) x = absurd x

  module _ (h : Holder) (k : List ℕ) (no_field : HandsOut rows (field_named h k) None) (no_entry : HandsOut rows (entry_at h k) None) (none : HandsOutMember rows (member_held h) None) where
    pub part_item : (i : ℕ) (r : Option View) → index_of k ≡ Some i → HandsOut rows (element_at h i) r → HandsOut rows (part h k) r
    part_item i r e x = by h no_field no_entry none x where
      by : (g : Holder) → HandsOut rows (field_named g k) None → HandsOut rows (entry_at g k) None → HandsOutMember rows (member_held g) None → HandsOut rows (element_at g i) r → HandsOut rows (part g k) r
      by (fields fs os) a b c y = nothing_more (part (fields fs os) k) r a y
      by (member ms n v) a b c y = nothing_more (part (member ms n v) k) r (no_member k v (slice_get ms n) c) y
      by (entries key slot paired ps) a b c y = nothing_more (part (entries key slot paired ps) k) r b y
      by (elements slot vs) a b c y = subst (λ o. HandsOut rows (option_map (λ w. (slot, w)) (option_and_then (λ j. slice_get vs j) o)) r) (sym e) y
      by (any_entries ms) a b c y = nothing_more (part (any_entries ms) k) r b y
      by (any_elements ds) a b c y = subst (λ o. HandsOut rows (option_map (λ d. (anything, of_any d)) (option_and_then (λ j. slice_get ds j) o)) r) (sym e) y
      by (nothing v) a b c y = y

    pub part_none : ((i : ℕ) → index_of k ≡ Some i → 2 ^ 64 ≤ i) → ((i : ℕ) → 2 ^ 64 ≤ i → element_at h i ≡ None) → HandsOut rows (part h k) None
    part_none large far = by h no_field no_entry none far where
      at_none : (g : Holder) (o : Option ℕ) → index_of k ≡ o → ((i : ℕ) → 2 ^ 64 ≤ i → element_at g i ≡ None) → option_and_then (λ j. element_at g j) o ≡ None
      at_none g None e all = refl
      at_none g (Some i) e all = all i (large i e)

      swap : {A : Type 0} (to : A → InSlot) (get : ℕ → Option A) (o : Option ℕ) → option_map to (option_and_then get o) ≡ option_and_then (λ j. option_map to (get j)) o
      swap to get None = refl
      swap to get (Some i) = refl

      by : (g : Holder) → HandsOut rows (field_named g k) None → HandsOut rows (entry_at g k) None → HandsOutMember rows (member_held g) None → ((i : ℕ) → 2 ^ 64 ≤ i → element_at g i ≡ None) → HandsOut rows (part g k) None
      by (fields fs os) a b c all = a
      by (member ms n v) a b c all = no_member k v (slice_get ms n) c
      by (entries key slot paired ps) a b c all = b
      by (elements slot vs) a b c all =
          subst (λ o. HandsOut rows o None) (sym (swap (λ w. (slot, w)) (λ j. slice_get vs j) (index_of k) ∙ at_none (elements slot vs) (index_of k) refl all)) tt
      by (any_entries ms) a b c all = b
      by (any_elements ds) a b c all =
          subst (λ o. HandsOut rows o None) (sym (swap (λ d. (anything, of_any d)) (λ j. slice_get ds j) (index_of k) ∙ at_none (any_elements ds) (index_of k) refl all)) tt
      by (nothing v) a b c all = tt

-- ---- all segments

-- so far a path leads to this view
pub record Walked (rows : List Row) (from k : ℕ) (p : InSlot) (path : List (List ℕ)) (v : View) : Type 0 where
  pub to : InSlot
  pub view : IsPartView rows to v
  pub same : reached rows from p (drop from path) ≡ reached rows k to (drop k path)

pub walked_begins : (v : View) (f : Value) (from : ℕ) (path : List (List ℕ)) → IsView v f → Walked (table_of v) from from (slot_of v, f) path v
walked_begins v f from path h = record { to = (slot_of v, f); view = record { table = refl; slot = refl; view = h }; same = refl }

drop_at : {A : Type 0} (xs : List A) (i : ℕ) (x : A) → i < length xs → x ≡ get_or xs i x → drop i xs ≡ x ∷ drop (suc i) xs
drop_at [] i x h e = absurd (omega (arith, h))
drop_at (y ∷ ys) zero x h e = ap (λ z. z ∷ ys) (sym e)
drop_at (y ∷ ys) (suc i) x h e = drop_at ys i x (omega (arith, h)) e

pub moved : (rows : List Row) (to : InSlot) (v : View) (k : List ℕ) (r : Option View) → IsPartView rows to v
    → ((f : Value) → IsView v f → HandsOut (table_of v) (part (seen (table_of v) (slot_of v, f)) k) r) → HandsOut rows (part (seen rows to) k) r
moved rows to v k r h all =
    subst (λ (s : Slot). HandsOut rows (part (seen rows (s, to.1)) k) r) h.slot
    (subst (λ (rs : List Row). HandsOut rs (part (seen rs (slot_of v, to.1)) k) r) h.table (all to.1 h.view))

given : (rows : List Row) (o : Option InSlot) (v : View) → HandsOut rows o (Some v) → (q : InSlot) × (o ≡ Some q) × IsPartView rows q v
given rows None v h = absurd h
given rows (Some q) v h = (q, refl, h)

not_given : (rows : List Row) (o : Option InSlot) → HandsOut rows o None → o ≡ None
not_given rows None h = refl
not_given rows (Some q) h = absurd h

module _ (rows : List Row) (from k : ℕ) (p : InSlot) (path : List (List ℕ)) (v : View) (w : Walked rows from k p path v) where
  pub walked_ends : length path ≤ k → Reaches rows (reached rows from p (drop from path)) (Ok (S.Here v))
  walked_ends far = subst (λ r. Reaches rows r (Ok (S.Here v))) (sym (w.same ∙ ap (reached rows k w.to) (drop_past path k far))) w.view

  module _ (x : List ℕ) (less : k < length path) (is : x ≡ get_or path k x) where
    rest : List (List ℕ)
    rest = drop (suc k) path

    abbrev Next : Option InSlot → Reach
    Next o = option_map_or (λ q. reached rows (suc k) q (drop (suc k) path)) o (or_enter k w.to.0 w.to.1)

    on : reached rows from p (drop from path) ≡ Next (part (seen rows w.to) x)
    on = w.same ∙ ap (reached rows k w.to) (drop_at path k x less is)

    pub walked_on : (next : View) (n : ℕ) → n ≡ k + 1 → ((f : Value) → IsView v f → HandsOut (table_of v) (part (seen (table_of v) (slot_of v, f)) x) (Some next)) → Walked rows from n p path next
    walked_on next n e all =
        let g = given rows (part (seen rows w.to) x) next (moved rows w.to v x (Some next) w.view all) in
        let step : suc k ≡ n = omega (arith, e) in
        record { to = g.0; view = g.2; same = on ∙ ap Next g.1 ∙ ap (λ (m : ℕ). reached rows m g.0 (drop m path)) step }

    module _ (all : (f : Value) → IsView v f → HandsOut (table_of v) (part (seen (table_of v) (slot_of v, f)) x) None) where
      stays : reached rows from p (drop from path) ≡ or_enter k w.to.0 w.to.1
      stays = on ∙ ap Next (not_given rows (part (seen rows w.to) x) (moved rows w.to v x None w.view all))

      pub walked_stops : (r : Result Step NoPath) → ((f : Value) → IsView v f → Reaches (table_of v) (or_enter k (slot_of v) f) r) → Reaches rows (reached rows from p (drop from path)) r
      walked_stops r stop =
          subst (λ z. Reaches rows z r) (sym stays)
          (subst (λ (u : Slot). Reaches rows (or_enter k u w.to.1) r) w.view.slot (subst (λ (rs : List Row). Reaches rs (or_enter k (slot_of v) w.to.1) r) w.view.table (stop w.to.1 w.view.view)))

-- ---- where it stops

pub stop_enters : (v : View) (k : ℕ) (f : Value) (node : NodeView) → IsView v f → (o : Option HamtShape) → RootIs o (root_in f) (Some node) → Reaches (table_of v) (or_enter k (slot_of v) f) (Ok (S.Enter v k))
stop_enters v k (V.hamt d) node is o h = (record { table = refl; slot = refl; view = is }, refl)
stop_enters v k f node is o h = absurd h

pub stop_nowhere : (v : View) (k : ℕ) (f : Value) (o : Option HamtShape) → RootIs o (root_in f) None → Reaches (table_of v) (or_enter k (slot_of v) f) (Err (record { k = k }))
stop_nowhere v k (V.hamt d) o h = absurd h
stop_nowhere v k f o h = refl
