-- What fits at a known form of type, by the layer; and the layer that data are, of a value that they represent.
use Rattle.std.proofs.Common.{◌≡◌, ℕ, zero, suc, ◌+◌, ◌-◌, ◌≤◌, List, Bool, true, false, Option, Some, None, refl, sym, ◌∙◌, ap, subst, arith}
use Rattle.std.specs.Prelude.{IsSomeAnd}
use Rattle.std.proofs.lemmas.Option.{same_Some, none-some}
use Rattle.ild_data.specs.Data.{Data, null}
use Rattle.ild_schema.specs.declared.number.Slot.{Slot}
use Rattle.ild_schema.specs.declared.def.TypeDef.{TypeDef}
use Rattle.ild_schema.specs.declared.row.Row.{Row}
use Rattle.ild_schema.specs.Clear.{ClearType}
use Rattle.ild_schema.specs.Slots.{form_of}
use Rattle.ild_schema.specs.Value as V
use Rattle.ild_schema.specs.Value.{Value}
use Rattle.ild_typed.specs.Composed.{Hamts, composed}
use Rattle.ild_typed.specs.Fits.{FormFits, ValueFits, FitsPast, Fits}
use Rattle.ild_typed.specs.Hamt.{alone}
use Rattle.ild_typed.specs.Layer.{Layer}
use Rattle.ild_typed.specs.Layers.{LayerFits, layer_of}
use Rattle.ild_typed.specs.Levels.{levels_of}
use Rattle.ild_typed.specs.Pieces.{is_null_there}
use Rattle.ild_typed.specs.Represented.{represented}
use Rattle.ild_typed.proofs.Composing.{alone_tells, composed_tells}
use Rattle.ild_typed.proofs.OneLayer.{from_form, past_over}
use Rattle.ild_typed.proofs.OneValue.{Way, as_null, as_layer, way_of, layer_data}
use Rattle.ild_typed.proofs.Rooms.{layer_more}

pub past_back : (rows : List Row) (over r n : ℕ) → n ≡ r + over → (s : Slot) (w : Value) → FitsPast rows n over s w → Fits rows r s w
unfolding FitsPast
past_back rows zero r n e s w h = subst (λ k. FitsPast rows k zero s w) (same r n e) h
  where
    same : (r n : ℕ) → n ≡ r + zero → n ≡ r
    same r n e = omega (arith, e)
past_back rows (suc over) r zero e s w h = absurd h
past_back rows (suc over) r (suc n) e s w h = past_back rows over r n (less r over n e) s w h
  where
    less : (r over n : ℕ) → suc n ≡ r + suc over → n ≡ r + over
    less r over n e = omega (arith, e)

opened : (rows : List Row) (room : ℕ) (below : ℕ → Slot → Value → Type 0) (s : Slot) (v : Value) (d : TypeDef) (l : Layer Value) → layer_of v ≡ Some l → form_of rows s ≡ Some d → ValueFits rows room below s v
    → (levels_of d v ≤ room) × LayerFits (below (levels_of d v - 1)) rows d l
opened rows room below s V.null d l lay is f = absurd (none-some l lay)
opened rows room below s v d l lay is f =
    let x : FormFits rows room below v d = subst (λ o. IsSomeAnd o (FormFits rows room below v)) is f in
    (x.0, subst (λ o. IsSomeAnd o (LayerFits (below (levels_of d v - 1)) rows d)) lay x.1)

module _ (rows : List Row) (room less : ℕ) (s : Slot) (v : Value) (d : TypeDef) (l : Layer Value) (lay : layer_of v ≡ Some l) (is : form_of rows s ≡ Some d) (some : 1 ≤ levels_of d v)
    (left : room ≡ less + levels_of d v) where
  up_past : (n r : ℕ) → n ≡ levels_of d v → room ≡ suc r → LayerFits (Fits rows less) rows d l → FitsPast rows (suc r) zero s v
  unfolding FitsPast
  up_past n r num is_room fit =
      from_form rows (suc r) (FitsPast rows r) s v l lay
      (subst (λ x. IsSomeAnd x (FormFits rows (suc r) (FitsPast rows r) v)) (sym is) (
        omega (arith, some, left, is_room),
        subst (λ x. IsSomeAnd x (LayerFits (FitsPast rows r (levels_of d v - 1)) rows d)) (sym lay)
            (layer_more rows (Fits rows less) (FitsPast rows r (levels_of d v - 1)) (λ t w k. past_over rows (levels_of d v - 1) less r (omega (arith, some, left, is_room)) t w k) d l fit),
      ))

  pub fits_up : LayerFits (Fits rows less) rows d l → Fits rows room s v
  fits_up fit = let r = room - 1 in let is_room : room ≡ suc (room - 1) = omega (arith, some, left) in
      subst (λ k. Fits rows k s v) (sym is_room) (up_past (levels_of d v) (room - 1) refl is_room fit)

  down_past : (r : ℕ) → room ≡ suc r → FitsPast rows (suc r) zero s v → LayerFits (Fits rows less) rows d l
  unfolding FitsPast
  down_past r is_room f =
      let x = opened rows (suc r) (FitsPast rows r) s v d l lay is f in
      layer_more rows (FitsPast rows r (levels_of d v - 1)) (Fits rows less) (λ t w k. past_back rows (levels_of d v - 1) less r (omega (arith, some, left, is_room)) t w k) d l x.1

  pub fits_down : Fits rows room s v → LayerFits (Fits rows less) rows d l
  fits_down f = let is_room : room ≡ suc (room - 1) = omega (arith, some, left) in down_past (room - 1) is_room (subst (λ k. Fits rows k s v) is_room f)

-- the layer that was read is that of each value that the data represent
pub layer_back : (at : Hamts) (rows : List Row) (s : Slot) (t : Data) (d : TypeDef) (l : Layer Data) (v : Value) → ClearType d → ((m : Layer Data) → composed at d m ≡ composed alone d m) → form_of rows s ≡ Some d
    → is_null_there s t ≡ false → composed alone d l ≡ Some t → represented at rows s v ≡ Some t → layer_data at rows (Some d) v ≡ Some l
layer_back at rows s t d l v clear like is some made e = by (way_of at rows s v t e) where
  by : Way at rows s v t → layer_data at rows (Some d) v ≡ Some l
  by (as_null a n z) = let x : false ≡ true = sym some ∙ ap (is_null_there s) z ∙ n in absurd cc
  by (as_layer c m known there composes) =
      let same : c ≡ d = same_Some c d (sym known ∙ is) in
      let own : composed alone d m ≡ Some t = sym (like m) ∙ ap (λ k. composed at k m) (sym same) ∙ composes in
      let layer : m ≡ l = composed_tells alone alone_tells d clear m l t own made in
      ap (λ k. layer_data at rows (Some k) v) (sym same) ∙ there ∙ ap Some layer
