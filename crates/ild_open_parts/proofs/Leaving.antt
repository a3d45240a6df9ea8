-- Values without parts: what is answered where they are to be kept, and where not; and the values of fields that are left out.
use Rattle.std.proofs.Common.{◌≡◌, ℕ, List, Bool, true, false, Option, Some, None, refl, sym, ◌∙◌, ap, subst}
use Rattle.std.specs.Prelude.{Result, Ok, Err, IfErr, IfOk}
use Rattle.std.proofs.lemmas.Option.{same_Some}
use Rattle.ild_data.specs.Data.{Data}
use Rattle.ild_edges.specs.Store.{Moment}
use Rattle.ild_schema.specs.Fitting.{ImplicitFits}
use Rattle.ild_schema.specs.Rules.{is_of}
use Rattle.ild_schema.specs.Slots.{form_of}
use Rattle.ild_schema.specs.Value as V
use Rattle.ild_schema.specs.Value.{Value}
use Rattle.ild_schema.specs.ValueSeen.{value_of}
use Rattle.ild_schema.specs.declared.def.Field.{Field}
use Rattle.ild_schema.specs.declared.def.Scalar.{Scalar}
use Rattle.ild_schema.specs.declared.def.Scalar.TheVariants as C
use Rattle.ild_schema.specs.declared.def.TypeDef.{TypeDef}
use Rattle.ild_schema.specs.declared.def.TypeDef.TheVariants as D
use Rattle.ild_schema.specs.declared.number.Slot.{Slot}
use Rattle.ild_schema.specs.declared.row.Row.{Row}
use Rattle.ild_schema.specs.declared.val.Val.{Val}
use Rattle.ild_typed.specs.Composed.{composed}
use Rattle.ild_typed.specs.Fields.{is_implicit}
use Rattle.ild_typed.specs.Hamt.{alone}
use Rattle.ild_typed.specs.Layer as L
use Rattle.ild_typed.specs.Layer.{Layer}
use Rattle.ild_typed.specs.Schema.{IsSchema}
use Rattle.ild_typed.proofs.Structs.{scalar_data, scalar_same}
use Rattle.ild_open_held.specs.Held.{IsHeld}
use Rattle.ild_open_held.specs.Laws.{IsFronted}
use Rattle.ild_open_held.specs.Leaves.{leaf_of}
use Rattle.ild_open_held.specs.Splits.{HasFront}
use Rattle.ild_open_held.proofs.Plainly.{leaves_are_held}
use Rattle.ild_open_parts.specs.Leaf.{HasLeaf, IsImplied, IsLeafOf, is_leaf, scalar_value}
use Rattle.ild_open_parts.specs.Reads.{Reads}
use Rattle.ild_open_parts.specs.declared.fault.OpenFault.{OpenFault}
use Rattle.ild_open_parts.specs.declared.fault.OpenFault.TheVariants as F
use Rattle.ild_open_parts.proofs.Forming.{front_layer}
use Rattle.ild_open_parts.proofs.Turning.{memory_wants, plain_read}

leaf_there : (d : TypeDef) (l : Layer Data) (t : Data) → is_leaf d ≡ true → composed alone d l ≡ Some t → (v : Value) × (leaf_of l ≡ Some v)
leaf_there D.Bool (L.boolean b) t leaf e = (V.boolean b, refl)
leaf_there D.Text (L.text s) t leaf e = (V.text s, refl)
leaf_there D.Bytes (L.bytes s) t leaf e = (V.bytes s, refl)
leaf_there D.Int (L.integer n) t leaf e = (V.integer n, refl)
leaf_there D.Any (L.any d) t leaf e = (V.any d, refl)
leaf_there (D.Link target) (L.link s) t leaf e = (V.link s, refl)
leaf_there (D.Unit form) L.unit t leaf e = (V.unit, refl)
leaf_there (D.Enum m) (L.enum n) t leaf e = (V.enum n, refl)
leaf_there d l t leaf e = absurd cc

-- it is there, whatever is kept of it
pub leaf_passed : (rows : List Row) → IsSchema rows → (room : ℕ) (s : Slot) (t : Data) (d : TypeDef) → form_of rows s ≡ Some d → is_leaf d ≡ true → (val : Val) → IsFronted rows room s t → HasLeaf rows room s t false val
leaf_passed rows schema room s t d is leaf val front =
    let x = front_layer rows room s t d is front in
    let y = leaf_there d x.0 t leaf x.1 in
    record { value = y.0; is = λ block h. leaves_are_held block h rows schema room s t front d x.0 y.0 is y.1 x.1; kept = λ k. absurd cc }

pub leaf_kept : (rows : List Row) (room : ℕ) (s : Slot) (t : Data) (keep : Bool) (val : Val) → IsLeafOf rows s t val → IsFronted rows room s t → HasLeaf rows room s t keep val
leaf_kept rows room s t keep val is front = record { value = value_of val; is = λ block h. is block h room front; kept = λ k. refl }

pub leaf_answer : (rows : List Row) (room : ℕ) (s : Slot) (t : Data) (keep : Bool) (r : Result Val OpenFault) → IfOk r (IsLeafOf rows s t) → IsFronted rows room s t → IfOk r (HasLeaf rows room s t keep)
leaf_answer rows room s t keep (Ok val) is front = leaf_kept rows room s t keep val is front
leaf_answer rows room s t keep (Err e) is front = tt

pub leaf_read : (h : List ℕ → List ℕ) (at : List ℕ) (rows : List Row) (room : ℕ) (keep : Bool) (s : Slot) (t : Data) (m : Moment) (r : Result Val OpenFault) → IfOk r (HasLeaf rows room s t keep) → IfErr r (λ e. e ≡ F.Memory)
    → Reads h at rows room (s, t) keep m r m
leaf_read h at rows room keep s t m (Ok val) ok err = plain_read h at rows room keep (s, t) m val ok.value (λ block. ok.is block h) ok.kept
leaf_read h at rows room keep s t m (Err e) ok err = subst (λ k. Reads h at rows room (s, t) keep m (Err k) m) (sym err) (memory_wants h at rows room keep (s, t) m)

-- ---- fields that are left out

module _ (block : List ℕ → Option (List ℕ)) (h : List ℕ → List ℕ) (rows : List Row) (schema : IsSchema rows) (room : ℕ) (s : Slot) where
  scalar_held : (sc : Scalar) (o : Option TypeDef) → form_of rows s ≡ o → is_of sc o ≡ true → HasFront rows room (s, scalar_data sc) → IsHeld block h rows room s (scalar_data sc) (scalar_value sc)
  scalar_held (C.Bool b) (Some D.Bool) is fits front = leaves_are_held block h rows schema room s (scalar_data (C.Bool b)) (record { some = refl; shows = front }) D.Bool (L.boolean b) (V.boolean b) is refl refl
  scalar_held (C.Int n) (Some D.Int) is fits front = leaves_are_held block h rows schema room s (scalar_data (C.Int n)) (record { some = refl; shows = front }) D.Int (L.integer n) (V.integer n) is refl refl
  scalar_held (C.Text x) (Some D.Text) is fits front = leaves_are_held block h rows schema room s (scalar_data (C.Text x)) (record { some = refl; shows = front }) D.Text (L.text x) (V.text x) is refl refl
  scalar_held sc o is fits front = absurd cc

pub given_scalar : (o : Option Scalar) (d : Data) → is_implicit o d ≡ true → (sc : Scalar) × (o ≡ Some sc) × (d ≡ scalar_data sc)
given_scalar None d e = absurd cc
given_scalar (Some sc) d e = (sc, refl, scalar_same sc d e)

pub implied_read : (h : List ℕ → List ℕ) (at : List ℕ) (rows : List Row) → IsSchema rows → (room : ℕ) (keep : Bool) (f : Field) (d : Data) (m : Moment) (val : Val) → ImplicitFits rows f → is_implicit f.implicit d ≡ true
    → IsImplied f val → HasFront rows room (f.slot, d) → Reads h at rows room (f.slot, d) keep m (Ok val) m
implied_read h at rows schema room keep f d m val fits is implied front =
    let x = given_scalar f.implicit d is in
    let same : x.0 ≡ implied.0 = same_Some x.0 implied.0 (sym x.1 ∙ implied.1) in
    let there : HasFront rows room (f.slot, scalar_data x.0) = subst (λ e. HasFront rows room (f.slot, e)) x.2 front in
    plain_read h at rows room keep (f.slot, d) m val (scalar_value x.0)
    (λ block. subst (λ e. IsHeld block h rows room f.slot e (scalar_value x.0)) (sym x.2) (scalar_held block h rows schema room f.slot x.0 (form_of rows f.slot) refl (fits x.0 x.1) there))
    (λ k. implied.2 ∙ ap scalar_value (sym same))

pub implied_wants : (h : List ℕ → List ℕ) (at : List ℕ) (rows : List Row) (room : ℕ) (keep : Bool) (s : Slot) (d : Data) (m : Moment) (e : OpenFault) → e ≡ F.Memory → Reads h at rows room (s, d) keep m (Err e) m
implied_wants h at rows room keep s d m e is = subst (λ k. Reads h at rows room (s, d) keep m (Err k) m) (sym is) (memory_wants h at rows room keep (s, d) m)
