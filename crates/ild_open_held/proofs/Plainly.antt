-- Values without parts: a front of one is held, whatever a store holds.
use Rattle.std.proofs.Common.{◌≡◌, ℕ, zero, suc, List, [], Bool, true, false, cond, Option, Some, None, refl, sym, ◌∙◌, ap, subst}
use Rattle.std.specs.Prelude.{IsTrue, option_and_then}
use Rattle.std.specs.List.{AllByRecursion}
use Rattle.std.proofs.lemmas.Option.{same_Some, none-some}
use Rattle.ild_data.specs.Data as T
use Rattle.ild_data.specs.Data.{Data}
use Rattle.ild_schema.proofs.Legibly.{legible}
use Rattle.ild_schema.specs.Copies.{base}
use Rattle.ild_schema.specs.declared.def.MapForm.{MapForm}
use Rattle.ild_schema.specs.declared.def.MapForm.TheVariants as MF
use Rattle.ild_schema.specs.declared.def.TypeDef.{TypeDef}
use Rattle.ild_schema.specs.declared.def.TypeDef.TheVariants as D
use Rattle.ild_schema.specs.declared.number.Slot.{Slot}
use Rattle.ild_schema.specs.declared.row.Row.{Row}
use Rattle.ild_schema.specs.Slots.{form_of}
use Rattle.ild_schema.specs.Value as V
use Rattle.ild_schema.specs.Value.{Value}
use Rattle.ild_typed.specs.Blocks.{nodes}
use Rattle.ild_typed.specs.Composed.{composed, map_form}
use Rattle.ild_typed.specs.Fits.{Fits, FitsPast}
use Rattle.ild_typed.specs.Hamt.{alone, whole}
use Rattle.ild_typed.specs.Layer as L
use Rattle.ild_typed.specs.Layer.{Layer, as_map}
use Rattle.ild_typed.specs.Pieces.{is_null_there}
use Rattle.ild_typed.specs.Represented.{layered, represented}
use Rattle.ild_typed.proofs.OneValue.{Way, as_null, as_layer, way_of, layer_data, scalar_of, scalar_value}
use Rattle.ild_typed.proofs.Composing.{alone_tells, composed_tells}
use Rattle.ild_open_held.specs.Held.{IsHeld, IsHeldBlock}
use Rattle.ild_open_held.specs.Laws.{IsFronted}
use Rattle.ild_open_held.specs.Leaves.{LeavesAreHeld, NullIsHeld, leaf_of}

-- the layer of a leaf is no map's
no_map : (form : MapForm) (l : Layer Data) (t : Data) (v : Value) → leaf_of l ≡ Some v → map_form alone form l ≡ Some t → ⊥
no_map MF.Map (L.boolean b) t v e h = none-some t h
no_map MF.Map (L.integer n) t v e h = none-some t h
no_map MF.Map (L.text s) t v e h = none-some t h
no_map MF.Map (L.bytes s) t v e h = none-some t h
no_map MF.Map (L.link s) t v e h = none-some t h
no_map MF.Map (L.any d) t v e h = none-some t h
no_map MF.Map L.unit t v e h = none-some t h
no_map MF.Map (L.enum n) t v e h = none-some t h
no_map MF.ListPairs (L.boolean b) t v e h = none-some t h
no_map MF.ListPairs (L.integer n) t v e h = none-some t h
no_map MF.ListPairs (L.text s) t v e h = none-some t h
no_map MF.ListPairs (L.bytes s) t v e h = none-some t h
no_map MF.ListPairs (L.link s) t v e h = none-some t h
no_map MF.ListPairs (L.any d) t v e h = none-some t h
no_map MF.ListPairs L.unit t v e h = none-some t h
no_map MF.ListPairs (L.enum n) t v e h = none-some t h
no_map (MF.StringPairs i k) (L.boolean b) t v e h = none-some t h
no_map (MF.StringPairs i k) (L.integer n) t v e h = none-some t h
no_map (MF.StringPairs i k) (L.text s) t v e h = none-some t h
no_map (MF.StringPairs i k) (L.bytes s) t v e h = none-some t h
no_map (MF.StringPairs i k) (L.link s) t v e h = none-some t h
no_map (MF.StringPairs i k) (L.any d) t v e h = none-some t h
no_map (MF.StringPairs i k) L.unit t v e h = none-some t h
no_map (MF.StringPairs i k) (L.enum n) t v e h = none-some t h
no_map (MF.Hamt p) (L.boolean b) t v e h = none-some t h
no_map (MF.Hamt p) (L.integer n) t v e h = none-some t h
no_map (MF.Hamt p) (L.text s) t v e h = none-some t h
no_map (MF.Hamt p) (L.bytes s) t v e h = none-some t h
no_map (MF.Hamt p) (L.link s) t v e h = none-some t h
no_map (MF.Hamt p) (L.any d) t v e h = none-some t h
no_map (MF.Hamt p) L.unit t v e h = none-some t h
no_map (MF.Hamt p) (L.enum n) t v e h = none-some t h
no_map form l t v e h = absurd (none-some v e)

-- so its data don't depend on what stands for a HAMT
same_made : (h : List ℕ → List ℕ) (d : TypeDef) (l : Layer Data) (t : Data) (v : Value) → leaf_of l ≡ Some v → composed alone d l ≡ Some t → composed (whole h) d l ≡ Some t
same_made h (D.Map key key_at value at form) l t v leaf e = absurd (no_map form l t v leaf e)
same_made h d l t v leaf e = e

-- a leaf is the value of its layer
leaf_layer : (h : List ℕ → List ℕ) (rows : List Row) (s : Slot) (l : Layer Data) (v : Value) → leaf_of l ≡ Some v → represented (whole h) rows s v ≡ layered (whole h) (form_of rows s) (Some l)
leaf_layer h rows s (L.boolean b) v e = ap (represented (whole h) rows s) (sym (same_Some (V.boolean b) v e))
leaf_layer h rows s (L.integer n) v e = ap (represented (whole h) rows s) (sym (same_Some (V.integer n) v e))
leaf_layer h rows s (L.text x) v e = ap (represented (whole h) rows s) (sym (same_Some (V.text x) v e))
leaf_layer h rows s (L.bytes x) v e = ap (represented (whole h) rows s) (sym (same_Some (V.bytes x) v e))
leaf_layer h rows s (L.link x) v e = ap (represented (whole h) rows s) (sym (same_Some (V.link x) v e))
leaf_layer h rows s (L.any d) v e = ap (represented (whole h) rows s) (sym (same_Some (V.any d) v e))
leaf_layer h rows s L.unit v e = ap (represented (whole h) rows s) (sym (same_Some V.unit v e))
leaf_layer h rows s (L.enum n) v e = ap (represented (whole h) rows s) (sym (same_Some (V.enum n) v e))
leaf_layer h rows s l v e = absurd (none-some v e)

leaf_nodes : (h : List ℕ → List ℕ) (rows : List Row) (s : Slot) (l : Layer Data) (v : Value) → leaf_of l ≡ Some v → nodes h rows s v ≡ []
leaf_nodes h rows s (L.boolean b) v e = ap (nodes h rows s) (sym (same_Some (V.boolean b) v e))
leaf_nodes h rows s (L.integer n) v e = ap (nodes h rows s) (sym (same_Some (V.integer n) v e))
leaf_nodes h rows s (L.text x) v e = ap (nodes h rows s) (sym (same_Some (V.text x) v e))
leaf_nodes h rows s (L.bytes x) v e = ap (nodes h rows s) (sym (same_Some (V.bytes x) v e))
leaf_nodes h rows s (L.link x) v e = ap (nodes h rows s) (sym (same_Some (V.link x) v e))
leaf_nodes h rows s (L.any d) v e = ap (nodes h rows s) (sym (same_Some (V.any d) v e))
leaf_nodes h rows s L.unit v e = ap (nodes h rows s) (sym (same_Some V.unit v e))
leaf_nodes h rows s (L.enum n) v e = ap (nodes h rows s) (sym (same_Some (V.enum n) v e))
leaf_nodes h rows s l v e = absurd (none-some v e)

leaf_scalar : (l : Layer Data) (v : Value) → leaf_of l ≡ Some v → scalar_of l ≡ Some v
leaf_scalar (L.boolean b) v e = e
leaf_scalar (L.integer n) v e = e
leaf_scalar (L.text x) v e = e
leaf_scalar (L.bytes x) v e = e
leaf_scalar (L.link x) v e = e
leaf_scalar (L.any d) v e = e
leaf_scalar L.unit v e = e
leaf_scalar (L.enum n) v e = e
leaf_scalar l v e = absurd (none-some v e)

pub leaves_are_held : LeavesAreHeld
leaves_are_held = λ block h rows schema room s t front d l v is leaf made.
    let clear = (legible rows schema.accepted).clear in
    let own : layer_data alone rows (Some d) front.shows.0 ≡ Some l = back rows s t front.shows.0 d l (λ m k x. composed_tells alone alone_tells d (clear.types (base rows s.ty.0) d is) m l t x k) is front.some made front.shows.2 in
    let same : front.shows.0 ≡ v = scalar_value alone rows (Some d) front.shows.0 v (ap (option_and_then scalar_of) own ∙ leaf_scalar l v leaf) in
    record {
      fits = subst (Fits rows room s) same front.shows.1;
      tree = leaf_layer h rows s l v leaf ∙ ap (λ o. layered (whole h) o (Some l)) is ∙ same_made h d l t v leaf made;
      held = subst (AllByRecursion (IsHeldBlock block)) (sym (leaf_nodes h rows s l v leaf)) tt;
    }
  where
    back : (rows : List Row) (s : Slot) (t : Data) (f : Value) (d : TypeDef) (l : Layer Data) → ((m : Layer Data) → composed alone d l ≡ Some t → composed alone d m ≡ Some t → m ≡ l) → form_of rows s ≡ Some d
        → is_null_there s t ≡ false → composed alone d l ≡ Some t → represented alone rows s f ≡ Some t → layer_data alone rows (Some d) f ≡ Some l
    back rows s t f d l tells is some made e = by (way_of alone rows s f t e) where
      by : Way alone rows s f t → layer_data alone rows (Some d) f ≡ Some l
      by (as_null a n z) = let x : false ≡ true = sym some ∙ ap (is_null_there s) z ∙ n in absurd cc
      by (as_layer c m known there composes) =
          let same : c ≡ d = same_Some c d (sym known ∙ is) in
          let layer : m ≡ l = tells m made (ap (λ k. composed alone k m) (sym same) ∙ composes) in
          ap (λ k. layer_data alone rows (Some k) f) (sym same) ∙ there ∙ ap Some layer

null_fits : (rows : List Row) (room : ℕ) (s : Slot) → IsTrue s.nullable → Fits rows room s V.null
unfolding FitsPast
null_fits rows zero s n = n
null_fits rows (suc room) s n = n

null_there : (s : Slot) (t : Data) → is_null_there s t ≡ true → (s.nullable ≡ true) × (t ≡ T.null)
null_there s T.null e = (e, refl)
null_there s t e = absurd cc

pub null_is_held : NullIsHeld
null_is_held = λ block h rows room s t e.
    let x = null_there s t e in
    record { fits = null_fits rows room s x.0; tree = ap (λ b. cond b (Some T.null) None) x.0 ∙ ap Some (sym x.1); held = tt }
