-- The keys of a map, one by one; and values in their turn.
use Rattle.std.proofs.Common.{◌≡◌, ◌⊎◌, inl, inr, ℕ, zero, suc, ◌+◌, ◌<◌, ◌≤◌, List, [], ◌∷◌, length, Some, None, slice_get, refl, sym, ◌∙◌, ap, subst, arith}
use Rattle.std.specs.List.{AllByRecursion}
use Rattle.std.proofs.lemmas.Option.{same_Some, none-some}
use Rattle.ild_data.proofs.AllOf.{all_at}
use Rattle.ild_data.specs.Data as T
use Rattle.ild_data.specs.Data.{Data, depth}
use Rattle.ild_data.specs.declared.tree.Tree.{Tree}
use Rattle.ild_schema.specs.declared.number.Slot.{Slot}
use Rattle.ild_schema.specs.declared.number.TypeNo.{TypeNo}
use Rattle.ild_schema.specs.declared.def.TypeDef.{TypeDef}
use Rattle.ild_schema.specs.declared.def.TypeDef.TheVariants as D
use Rattle.ild_schema.specs.declared.def.MapForm.{MapForm}
use Rattle.ild_schema.specs.declared.row.Row.{Row}
use Rattle.ild_schema.specs.declared.val.Val.{Val}
use Rattle.ild_schema.specs.declared.val.Val.TheVariants as W
use Rattle.ild_schema.specs.Slots.{form_of, plainly}
use Rattle.ild_schema.specs.Value as V
use Rattle.ild_schema.specs.Value.{Value, Pairs, values_list, pairs_list, optionals_list}
use Rattle.ild_schema.specs.ValueSeen.{value_of}
use Rattle.ild_typed.specs.Fits.{Fits}
use Rattle.ild_typed.specs.Layer as L
use Rattle.ild_typed.specs.Layers.{RepresentsSome}
use Rattle.ild_typed.specs.OfType.{OfType}
use Rattle.ild_typed.proofs.FormOf.{any_form}
use Rattle.ild_typed.proofs.OneLayer.{in_layer}
use Rattle.ild_build.specs.inside.KeysIn.{KeysIn, IsPlainLayer}
use Rattle.ild_build.proofs.PartTests.{below_next}
use Rattle.ild_build.proofs.RoomParts.{to_room, in_room}

-- all before a place
abbrev pub AllBefore : {A : Type 0} → (A → Type 0) → List A → ℕ → Type 0
AllBefore {A} P xs i = (j : ℕ) (x : A) → j < i → slice_get xs j ≡ Some x → P x

pub before_next : {A : Type 0} (P : A → Type 0) (xs : List A) (i : ℕ) (x : A) → slice_get xs i ≡ Some x → P x → AllBefore P xs i → AllBefore P xs (i + 1)
before_next {A} P xs i x here p before j y h e = by (below_next j i h)
  where
    by : (j < i) ⊎ (j ≡ i) → P y
    by (inl less) = before j y less e
    by (inr same) = subst P (same_Some x y (sym here ∙ ap (slice_get xs) (sym same) ∙ e)) p

pub before_none : {A : Type 0} (P : A → Type 0) (xs : List A) (i : ℕ) → slice_get xs i ≡ None → AllBefore P xs i → AllBefore P xs (i + 1)
before_none {A} P xs i here before j y h e = by (below_next j i h)
  where
    by : (j < i) ⊎ (j ≡ i) → P y
    by (inl less) = before j y less e
    by (inr same) = absurd (none-some y (sym here ∙ ap (slice_get xs) (sym same) ∙ e))

pub all_before : {A : Type 0} (P : A → Type 0) (xs : List A) (i : ℕ) → length xs ≤ i → AllBefore P xs i → AllByRecursion P xs
all_before P [] i h all = tt
all_before P (x ∷ xs) zero h all = absurd (omega (arith, h))
all_before P (x ∷ xs) (suc i) h all = (all 0 x (omega arith) refl, all_before P xs i (omega (arith, h)) (λ j y k e. all (suc j) y (omega (arith, k)) e))

-- ---- keys of a layer

pub keys_all : (P Q : Slot → Value → Type 0) (rows : List Row) (d : TypeDef) (v : Value) (key : TypeNo) (key_at : ℕ) (value : Slot) (place : ℕ) (form : MapForm) (ps : Pairs) (i : ℕ)
    → d ≡ D.Map key key_at value place form → v ≡ V.map ps → length (pairs_list ps) ≤ i
    → AllBefore (λ p. RepresentsSome Q rows (plainly key) (T.text p.0) → RepresentsSome P rows (plainly key) (T.text p.0)) (pairs_list ps) i → KeysIn Q rows d v → KeysIn P rows d v
keys_all P Q rows d v key key_at value place form ps i is map le before typed =
    let all = all_before (λ (p : List ℕ × Value). RepresentsSome Q rows (plainly key) (T.text p.0) → RepresentsSome P rows (plainly key) (T.text p.0)) (pairs_list ps) i le before in
    let own : KeysIn Q rows (D.Map key key_at value place form) (V.map ps) = subst (λ x. KeysIn Q rows (D.Map key key_at value place form) x) map (subst (λ c. KeysIn Q rows c v) is typed) in
    let made : KeysIn P rows (D.Map key key_at value place form) (V.map ps) = apply (pairs_list ps) all own in
    subst (λ c. KeysIn P rows c v) (sym is) (subst (λ x. KeysIn P rows (D.Map key key_at value place form) x) (sym map) made)
  where
    apply : (xs : List (List ℕ × Value)) → AllByRecursion (λ p. RepresentsSome Q rows (plainly key) (T.text p.0) → RepresentsSome P rows (plainly key) (T.text p.0)) xs → AllByRecursion (λ p. RepresentsSome Q rows (plainly key) (T.text p.0)) xs
        → AllByRecursion (λ p. RepresentsSome P rows (plainly key) (T.text p.0)) xs
    apply [] f h = tt
    apply (x ∷ xs) f h = (f.0 h.0, apply xs f.1 h.1)

pub a_key : (P : Slot → Value → Type 0) (rows : List Row) (d : TypeDef) (v : Value) (key : TypeNo) (key_at : ℕ) (value : Slot) (place : ℕ) (form : MapForm) (ps : Pairs) (i : ℕ) (p : List ℕ × Value)
    → d ≡ D.Map key key_at value place form → v ≡ V.map ps → slice_get (pairs_list ps) i ≡ Some p → KeysIn P rows d v → RepresentsSome P rows (plainly key) (T.text p.0)
a_key P rows d v key key_at value place form ps i p is map at h =
    all_at (λ (q : List ℕ × Value). RepresentsSome P rows (plainly key) (T.text q.0)) (pairs_list ps) i p (subst (λ x. KeysIn P rows (D.Map key key_at value place form) x) map (subst (λ c. KeysIn P rows c v) is h)) at

-- ---- values of Any, and values of the program

pub any_room : (rows : List Row) (room : ℕ) (s : Slot) (x : Data) → OfType rows s (V.any x) → (depth x ≤ room → Fits rows room s (V.any x)) × (Fits rows room s (V.any x) → depth x ≤ room)
any_room rows room s x typed =
    let y = in_layer rows s (V.any x) (L.any x) refl typed in
    let z = any_form rows (OfType rows) y.ty x y.holds in
    let form : form_of rows s ≡ Some D.Any = y.form ∙ ap Some z.0 in
    ((λ le. to_room rows room s (V.any x) (L.any x) D.Any refl form le (z.1, z.2)), (λ h. (in_room rows room s (V.any x) (L.any x) D.Any refl form h).0))

pub plain_val : (val : Val) → (val ≡ W.Null → ⊥) → ((x : Tree) → val ≡ W.Any x → ⊥) → IsPlainLayer (value_of val)
plain_val W.Null a b = absurd (a refl)
plain_val (W.Any x) a b = absurd (b x refl)
plain_val (W.Bool x) a b = record { layer = L.boolean x; is = refl; no_root = λ y e. cc; no_any = λ y e. cc }
plain_val (W.Int x) a b = record { layer = L.integer x; is = refl; no_root = λ y e. cc; no_any = λ y e. cc }
plain_val (W.Text x) a b = record { layer = L.text x; is = refl; no_root = λ y e. cc; no_any = λ y e. cc }
plain_val (W.Bytes x) a b = record { layer = L.bytes x; is = refl; no_root = λ y e. cc; no_any = λ y e. cc }
plain_val (W.Link x) a b = record { layer = L.link x; is = refl; no_root = λ y e. cc; no_any = λ y e. cc }
plain_val (W.List x) a b = record { layer = L.list (values_list x); is = refl; no_root = λ y e. cc; no_any = λ y e. cc }
plain_val (W.Map x) a b = record { layer = L.map (pairs_list x); is = refl; no_root = λ y e. cc; no_any = λ y e. cc }
plain_val (W.Struct x) a b = record { layer = L.struct (optionals_list x); is = refl; no_root = λ y e. cc; no_any = λ y e. cc }
plain_val (W.Union n x) a b = record { layer = L.union n x; is = refl; no_root = λ y e. cc; no_any = λ y e. cc }
plain_val (W.Enum x) a b = record { layer = L.enum x; is = refl; no_root = λ y e. cc; no_any = λ y e. cc }
plain_val W.Unit a b = record { layer = L.unit; is = refl; no_root = λ y e. cc; no_any = λ y e. cc }
