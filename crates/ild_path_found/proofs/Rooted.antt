-- The root of a HAMT is its own data and a site by itself; in an Any no HAMT stands.
use Rattle.std.proofs.Common.{◌≡◌, ℕ, zero, suc, ◌-◌, ◌≤◌, Bool, true, false, true≢false, List, Option, Some, refl, sym, ap, ◌∙◌, subst, arith}
use Rattle.std.specs.Prelude.{IsSomeAnd, option_and_then, slice_get}
use Rattle.std.proofs.lemmas.Option.{none-some, same_Some}
use Rattle.ild_typed.proofs.Composing.{a_map_says}
use Rattle.ild_data.specs.Data as T
use Rattle.ild_data.specs.Data.{Data, items_list, members_list}
use Rattle.ild_data.specs.Key.{value_at}
use Rattle.ild_data.specs.declared.hamt_shape.HamtShape.{HamtShape}
use Rattle.ild_node_slots.specs.Views.{HasSlots}
use Rattle.ild_node_slots.specs.declared.view.NodeView.{NodeView}
use Rattle.ild_open_parts.specs.Sites.{IsSite, Site}
use Rattle.ild_path_found.specs.Laws.{is_any}
use Rattle.ild_path_found.specs.Sites.{IsSiteOf}
use Rattle.ild_schema.specs.Prelude.{anything}
use Rattle.ild_schema.specs.Slots.{form_of}
use Rattle.ild_schema.specs.Value as V
use Rattle.ild_schema.specs.Value.{Value, hamt}
use Rattle.ild_schema.specs.declared.def.TypeDef.{TypeDef}
use Rattle.ild_schema.specs.declared.number.Slot.{Slot}
use Rattle.ild_schema.specs.declared.row.Row.{Row}
use Rattle.ild_typed.proofs.Basics.{map_from}
use Rattle.ild_typed.proofs.FormOf.{hamt_form}
use Rattle.ild_typed.proofs.OneLayer.{in_layer}
use Rattle.ild_typed.proofs.OneValue.{Way, as_layer, as_null, way_of}
use Rattle.ild_typed.proofs.WalkSound.{one_root}
use Rattle.ild_typed.specs.At.{InSlot, seen}
use Rattle.ild_typed.specs.Composed.{composed}
use Rattle.ild_typed.specs.Fits.{Fits, FitsPast, FormFits, Front}
use Rattle.ild_typed.specs.Hamt.{a_map, alone}
use Rattle.ild_typed.specs.Holder.{any_holder, of_any}
use Rattle.ild_typed.specs.Layer as L
use Rattle.ild_typed.specs.Levels.{levels_of}
use Rattle.ild_typed.specs.OfType.{OfType}
use Rattle.ild_typed.specs.Segment.{index_of, part}
use Rattle.ild_view.specs.Forms.{shape_in}
use Rattle.ild_view.specs.Roots.{RootIs}
use Rattle.ild_view.specs.View.{slot_of, table_of}
use Rattle.ild_view.specs.declared.view.View.{View}

-- ---- the root of a HAMT by itself

hamt_levels : (rows : List Row) (room : ℕ) (s : Slot) (t : Data) (d : TypeDef) → form_of rows s ≡ Some d → Fits rows room s (hamt t) → levels_of d (hamt t) ≤ room
unfolding FitsPast
hamt_levels rows zero s t d is f = (subst (λ o. IsSomeAnd o (FormFits rows zero (λ over u w. ⊥) (hamt t))) is f).0
hamt_levels rows (suc room) s t d is f = (subst (λ o. IsSomeAnd o (FormFits rows (suc room) (FitsPast rows room) (hamt t))) is f).0

pub record HamtSite (rows : List Row) (room : ℕ) (s : Slot) (tree : Data) (block : List ℕ) : Type 0 where
  pub site : Site
  pub is : IsSite rows room s tree site
  pub here : site.block ≡ block

module _ (rows : List Row) (room : ℕ) (s : Slot) (tree d : Data) (front : Front rows room s (hamt tree) d) where
  -- its data are the root
  pub own_data : d ≡ tree
  own_data = by (way_of alone rows s (hamt tree) d front.tree) where
    by : Way alone rows s (hamt tree) d → d ≡ tree
    by (as_null a n z) = absurd cc
    by (as_layer c l known there made) =
        let x = in_layer rows s (hamt tree) (L.hamt tree) refl (room, front.fits) in
        let y = hamt_form rows (OfType rows) x.ty tree x.holds in
        let same : c ≡ x.ty = same_Some c x.ty (sym known ∙ x.form) in
        let m : composed alone x.ty (L.hamt tree) ≡ Some d = (λ i. composed alone (sym same i) (same_Some (L.hamt tree) l there i)) ∙ made in
        let z : a_map tree ≡ Some d = ap (λ (f : TypeDef). composed alone f (L.hamt tree)) (sym y.5) ∙ m in
        sym (a_map_says tree d z)

  pub hamt_site : (block : List ℕ) → HamtSite rows room s tree block
  hamt_site block =
      let x = in_layer rows s (hamt tree) (L.hamt tree) refl (room, front.fits) in
      let y = hamt_form rows (OfType rows) x.ty tree x.holds in
      let many : levels_of x.ty (hamt tree) ≤ room = hamt_levels rows room s tree x.ty x.form front.fits in
      let five : 5 ≤ room = subst (λ (f : TypeDef). levels_of f (hamt tree) ≤ room) y.5 many in
      record {
        site = record { block = block; shape = y.4; slots = y.6.0; key = y.0; value = y.2; room = room - 5 };
        is = record { key_at = y.1; at = y.3; form = x.form ∙ ap (λ (f : TypeDef). Some f) y.5; root = y.6.1; left = omega (arith, five) };
        here = refl;
      }

-- the root that a view has is the site's
pub site_slots : (rows : List Row) (slot : Slot) (room : ℕ) (view : View) (block : List ℕ) (z : Site) (x : IsSiteOf rows slot room view block z) (root : NodeView)
    → RootIs (shape_in (form_of (table_of view) (slot_of view))) (Some x.tree) (Some root) → HasSlots z.shape root z.slots
site_slots rows slot room view block z x root is =
    let form : shape_in (form_of (table_of view) (slot_of view)) ≡ Some z.shape = ap (λ (rs : List Row). shape_in (form_of rs (slot_of view))) x.table ∙ ap shape_in x.site.form in
    let here = subst (λ (o : Option HamtShape). RootIs o (Some x.tree) (Some root)) form is in
    subst (HasSlots z.shape root) (one_root z.shape here.0 z.slots x.tree here.1 x.site.root) here.2

-- ---- no HAMT is in an Any

abbrev is_hamt_value : Value → Bool
is_hamt_value (V.hamt d) = true
is_hamt_value v = false

any_plain : (d : Data) → is_hamt_value (of_any d) ≡ false
any_plain T.null = refl
any_plain (T.boolean b) = refl
any_plain (T.integer n) = refl
any_plain (T.text s) = refl
any_plain (T.bytes s) = refl
any_plain (T.list ds) = refl
any_plain (T.map ms) = refl
any_plain (T.link s) = refl

abbrev pub AnyPart : InSlot → Type 0
AnyPart q = (x : Data) × ((anything, of_any x) ≡ q)

any_part : (d : Data) (s : List ℕ) (q : InSlot) → part (any_holder d) s ≡ Some q → AnyPart q
any_part (T.list ds) s q e =
    let x = map_from (λ (d : Data). (anything, of_any d)) (option_and_then (λ i. slice_get (items_list ds) i) (index_of s)) q e in
    (x.item, same_Some (anything, of_any x.item) q x.made)
any_part (T.map ms) s q e =
    let x = map_from (λ (d : Data). (anything, of_any d)) (value_at s (members_list ms)) q e in
    (x.item, same_Some (anything, of_any x.item) q x.made)
any_part T.null s q e = absurd (none-some q e)
any_part (T.boolean b) s q e = absurd (none-some q e)
any_part (T.integer n) s q e = absurd (none-some q e)
any_part (T.text x) s q e = absurd (none-some q e)
any_part (T.bytes x) s q e = absurd (none-some q e)
any_part (T.link x) s q e = absurd (none-some q e)

pub inner_part : (rows : List Row) (u : Slot) (d : Data) (s : List ℕ) (q : InSlot) → part (seen rows (u, of_any d)) s ≡ Some q → AnyPart q
inner_part rows u (T.list ds) s q e = any_part (T.list ds) s q e
inner_part rows u (T.map ms) s q e = any_part (T.map ms) s q e
inner_part rows u T.null s q e = absurd (none-some q e)
inner_part rows u (T.boolean b) s q e = absurd (none-some q e)
inner_part rows u (T.integer n) s q e = absurd (none-some q e)
inner_part rows u (T.text x) s q e = absurd (none-some q e)
inner_part rows u (T.bytes x) s q e = absurd (none-some q e)
inner_part rows u (T.link x) s q e = absurd (none-some q e)

-- the parts of an Any are those of its data
pub of_any_part : (rows : List Row) (p q : InSlot) (s : List ℕ) → is_any p.1 ≡ true → part (seen rows p) s ≡ Some q → AnyPart q
of_any_part rows p q s any is = by p.1 any is where
  by : (v : Value) → is_any v ≡ true → part (seen rows (p.0, v)) s ≡ Some q → AnyPart q
  by (V.any d) a i = any_part d s q i
  by V.null a i = absurd cc
  by (V.boolean b) a i = absurd cc
  by (V.integer n) a i = absurd cc
  by (V.text x) a i = absurd cc
  by (V.bytes x) a i = absurd cc
  by (V.link x) a i = absurd cc
  by (V.list vs) a i = absurd cc
  by (V.map ps) a i = absurd cc
  by (V.struct os) a i = absurd cc
  by (V.union n v) a i = absurd cc
  by (V.enum n) a i = absurd cc
  by V.unit a i = absurd cc
  by (V.hamt d) a i = absurd cc

pub no_hamt : (d tree : Data) → of_any d ≡ hamt tree → ⊥
no_hamt d tree e = true≢false (sym (ap is_hamt_value e) ∙ any_plain d)
