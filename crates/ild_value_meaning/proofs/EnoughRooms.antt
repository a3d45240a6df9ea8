-- For the texts of a table's types, rooms by their length are enough: each time that a text gets shorter, at most as many
-- types come as the table has.
use Rattle.std.proofs.Common.{◌≡◌, inl, inr, ℕ, zero, suc, ◌+◌, ◌<◌, ◌≤◌, List, [], ◌∷◌, length, Bool, true, false, cond, Some, None, refl, sym, ◌∙◌, subst, ap, arith}
use Rattle.std.specs.Prelude.{IsUtf8, eqb, ◌||◌}
use Rattle.std.specs.List.{AllByRecursion, IsDistinct, list_any}
use Rattle.std.proofs.lemmas.Bool.Decides.{nat_tests}
use Rattle.std.proofs.lemmas.Map.Steps.{length-le_from_distinct_below}
use Rattle.std.proofs.lemmas.Option.{same_Some, none-some}
use Rattle.ild_data.specs.Data as T
use Rattle.ild_data.specs.Data.{Data}
use Rattle.ild_schema.specs.declared.number.Slot.{Slot}
use Rattle.ild_schema.specs.declared.number.TypeNo.{TypeNo}
use Rattle.ild_schema.specs.declared.row.Row.{Row}
use Rattle.ild_schema.specs.Prelude.{number}
use Rattle.ild_schema.specs.Slots.{plainly}
use Rattle.ild_schema.specs.Value as V
use Rattle.ild_schema.specs.Value.{Value, height}
use Rattle.ild_schema.proofs.Legibly.{legible}
use Rattle.ild_typed.specs.Hamt.{alone}
use Rattle.ild_typed.specs.Represented.{represented}
use Rattle.ild_typed.specs.Fits.{ValueFits, FitsPast, Fits, IsTextOf}
use Rattle.ild_typed.specs.Layers.{RepresentsSome}
use Rattle.ild_typed.specs.OfType.{OfType}
use Rattle.ild_typed.specs.Schema.{IsSchema}
use Rattle.ild_typed.proofs.OneValue.{one_value, alone_exact, plain_safe}
use Rattle.ild_typed.proofs.Rooms.{fits_more}
use Rattle.ild_value_meaning.proofs.InTable.{in_table}
use Rattle.ild_value_meaning.proofs.TextRooms.{IsLower, Lowers, one_more}

-- ---- slots that may be null

true_null : (t : List ℕ) → T.null ≡ T.text t → ⊥
true_null t e = absurd cc

plain_tree : (rows : List Row) (s : Slot) (v : Value) (t : List ℕ) → represented alone rows s v ≡ Some (T.text t) → represented alone rows (plainly s.ty) v ≡ Some (T.text t)
plain_tree rows s V.null t e = by s.nullable e
  where
    by : (b : Bool) → cond b (Some T.null) None ≡ Some (T.text t) → represented alone rows (plainly s.ty) V.null ≡ Some (T.text t)
    by true e = absurd (true_null t (same_Some T.null (T.text t) e))
    by false e = absurd (none-some (T.text t) e)
plain_tree rows s v t e = e

module _ (rows : List Row) (m : ℕ) (P : ℕ → Slot → Value → Type 0) where
  plain_value : (s : Slot) (v : Value) (t : List ℕ) → represented alone rows s v ≡ Some (T.text t) → ValueFits rows m P s v → ValueFits rows m P (plainly s.ty) v
  plain_value s V.null t e h = absurd (none-some (T.text t) (plain_tree rows s V.null t e))
  plain_value s v t e h = h

  value_plain : (s : Slot) (v : Value) → ValueFits rows m P (plainly s.ty) v → ValueFits rows m P s v
  value_plain s V.null h = absurd (no h)
    where
      no : false ≡ true → ⊥
      no e = absurd cc
  value_plain s v h = h

plain_fits : (rows : List Row) (m : ℕ) (s : Slot) (v : Value) (t : List ℕ) → represented alone rows s v ≡ Some (T.text t) → Fits rows m s v → Fits rows m (plainly s.ty) v
unfolding FitsPast
plain_fits rows zero s v t e h = plain_value rows zero (λ over t w. ⊥) s v t e h
plain_fits rows (suc m) s v t e h = plain_value rows (suc m) (FitsPast rows m) s v t e h

fits_plain : (rows : List Row) (m : ℕ) (s : Slot) (v : Value) → Fits rows m (plainly s.ty) v → Fits rows m s v
unfolding FitsPast
fits_plain rows zero s v h = value_plain rows zero (λ over t w. ⊥) s v h
fits_plain rows (suc m) s v h = value_plain rows (suc m) (FitsPast rows m) s v h

-- ---- types that came already

-- each is a type of which the text is that of a value which nests deeper
abbrev AreAround : List Row → List ℕ → ℕ → List ℕ → Type 0
AreAround rows k n us = AllByRecursion (λ u. (w : Value) × (represented alone rows (plainly (number u)) w ≡ Some (T.text k)) × (n < height w)) us

-- how much room one length of text takes at most, and then all lengths below one
abbrev pub more_room : ℕ → ℕ → ℕ
more_room zero room = room
more_room (suc n) room = suc (more_room n room)

abbrev pub room_below : ℕ → ℕ → ℕ
room_below count zero = zero
room_below count (suc size) = more_room (suc count) (room_below count size)

more_room-le : (n room : ℕ) → room ≤ more_room n room
more_room-le zero room = omega arith
more_room-le (suc n) room = let h = more_room-le n room in omega (arith, h)

around_more : (rows : List Row) (k : List ℕ) (m n : ℕ) → m < n → (us : List ℕ) → AreAround rows k n us → AreAround rows k m us
around_more rows k m n less [] h = tt
around_more rows k m n less (u ∷ us) h = let deep = (h.0).2 in (((h.0).0, (h.0).1, omega (arith, less, deep)), around_more rows k m n less us h.1)

module _ (rows : List Row) (schema : IsSchema rows) where
  one_text : (key : TypeNo) (v w : Value) (k : List ℕ) → represented alone rows (plainly key) v ≡ Some (T.text k) → represented alone rows (plainly key) w ≡ Some (T.text k) → v ≡ w
  one_text key v w k a b = one_value alone alone_exact rows (legible rows schema.accepted).clear (plainly key) (plain_safe rows (plainly key) refl) v w (T.text k) a b

  not_around : (k : List ℕ) (key : TypeNo) (v : Value) → represented alone rows (plainly key) v ≡ Some (T.text k) → (us : List ℕ) → AreAround rows k (height v) us → AllByRecursion (λ u. eqb key.0 u ≡ false) us
  not_around k key v e [] h = tt
  not_around k key v e (u ∷ us) h = (by (eqb key.0 u) refl, not_around k key v e us h.1)
    where
      by : (b : Bool) → eqb key.0 u ≡ b → b ≡ false
      by false is = refl
      by true is =
          let same : key.0 ≡ u = grind (arith, nat_tests, is) in
          let there = (h.0).1 in
          let one = one_text key v (h.0).0 k e (subst (λ i. represented alone rows (plainly (number i)) (h.0).0 ≡ Some (T.text k)) (sym same) there) in
          let deep = (h.0).2 in
          let high = ap height one in
          absurd (omega (arith, deep, high))

  -- shorter texts than so long take so much room
  abbrev Shorts : ℕ → ℕ → Type 0
  Shorts size room = (s : Slot) (w : Value) (t : List ℕ) → length t < size → OfType rows s w → represented alone rows s w ≡ Some (T.text t) → Fits rows room s w

  lowers : (room base size : ℕ) → base ≤ room → Shorts size base → (k : List ℕ) → length k ≤ size → (n : ℕ)
      → ((key : TypeNo) (w : Value) → OfType rows (plainly key) w → represented alone rows (plainly key) w ≡ Some (T.text k) → height w < n → Fits rows room (plainly key) w)
      → Lowers rows room k n
  lowers room base size le short k within n next = λ s w t typed e c. by s w t typed e c
    where
      by : (s : Slot) (w : Value) (t : List ℕ) → OfType rows s w → represented alone rows s w ≡ Some (T.text t) → IsLower k n t w → Fits rows room s w
      by s w t typed e (inl less) = fits_more rows base room le s w (short s w t (omega (arith, less, within)) typed e)
      by s w t typed e (inr (same, high)) =
          fits_plain rows room s w (next s.ty w (typed.0, plain_fits rows typed.0 s w t e typed.1) (plain_tree rows s w t e ∙ ap (λ x. Some (T.text x)) same) high)

  any_below : (n : ℕ) (us : List ℕ) → AllByRecursion (λ u. u < n) us → (q : ℕ) → list_any (eqb q) us ≡ true → q < n
  any_below n [] all q e = absurd cc
  any_below n (u ∷ us) all q e = by (eqb q u) refl e (λ h. any_below n us all.1 q h)
    where
      by : (b : Bool) → eqb q u ≡ b → (b || list_any (eqb q) us) ≡ true → (list_any (eqb q) us ≡ true → q < n) → q < n
      by true is h next = let same : q ≡ u = grind (arith, nat_tests, is) in subst (λ i. i < n) (sym same) all.0
      by false is h next = next h

  -- with so many types left, so many levels
  deep : (f size base : ℕ) → Shorts size base → (us : List ℕ) → IsDistinct eqb us → AllByRecursion (λ u. u < length rows) us → f + length us ≡ suc (length rows) → (k : List ℕ) → length k ≤ size
      → (key : TypeNo) (v : Value) → OfType rows (plainly key) v → represented alone rows (plainly key) v ≡ Some (T.text k) → AreAround rows k (height v) us → Fits rows (more_room f base) (plainly key) v
  unfolding IsDistinct
  deep zero size base short us apart below count k within key v typed e around =
      let few = length-le_from_distinct_below us (length rows) apart (any_below (length rows) us below) in absurd (omega (arith, few, count))
  deep (suc f) size base short us apart below count k within key v typed e around =
      let next = λ (other : TypeNo) (w : Value) (type : OfType rows (plainly other) w) (g : represented alone rows (plainly other) w ≡ Some (T.text k)) (high : height w < height v).
      deep f size base short (key.0 ∷ us) (not_around k key v e us around, apart) (in_table rows key typed.0 v typed.1, below) (omega (arith, count)) k within other w type g
      ((v, e, high), around_more rows k (height w) (height v) high us around) in
      one_more rows (more_room f base) k (height v) (lowers (more_room f base) base size (more_room-le f base) short k within (height v) next) schema (plainly key) v typed.0 refl typed.1 e

  shorts : (size : ℕ) → Shorts size (room_below (length rows) size)
  unfolding IsDistinct
  shorts zero = λ s w t less typed e. absurd (none t less)
    where
      none : (t : List ℕ) → length t < zero → ⊥
      none t less = omega (arith, less)
  shorts (suc size) = λ s w t less typed e.
      let room = room_below (length rows) size in
      fits_plain rows (more_room (suc (length rows)) room) s w
      (deep (suc (length rows)) size room (shorts size) [] tt tt (omega arith) t (omega (arith, less)) s.ty w (typed.0, plain_fits rows typed.0 s w t e typed.1) (plain_tree rows s w t e) tt)

-- rooms by text in which each text of a type is found
abbrev pub AreRoomsEnough : List Row → (List ℕ → ℕ) → Type 0
AreRoomsEnough rows room_of = (key : TypeNo) (k : List ℕ) → IsUtf8 k → IsTextOf rows key k → RepresentsSome (Fits rows (room_of k)) rows (plainly key) (T.text k)

-- so much room for a text
abbrev pub room_for : List Row → List ℕ → ℕ
room_for rows k = room_below (length rows) (suc (length k))

pub enough : (rows : List Row) → IsSchema rows → AreRoomsEnough rows (room_for rows)
enough rows schema = λ key k utf8 found.
    let shows = found.1 in
    (shows.0, shorts rows schema (suc (length k)) (plainly key) shows.0 k (omega arith) (found.0, shows.1) shows.2, shows.2)
