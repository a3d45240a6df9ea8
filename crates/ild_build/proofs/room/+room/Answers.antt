use Rattle.std.proofs.Common.{◌≡◌, ℕ, ◌≤◌, List, Bool, Result, Ok, Err, true, false, Some, ap, length, refl, sym, subst, ◌∙◌, ◌-◌, arith}
use Rattle.std.specs.Prelude.{◌↔◌, IfOk}
use Rattle.ild_data.specs.Seen.{data_of}
use Rattle.ild_schema.specs.declared.number.Slot.{Slot}
use Rattle.ild_schema.specs.declared.def.TypeDef.{TypeDef}
use Rattle.ild_schema.specs.declared.row.Row.{Row}
use Rattle.ild_schema.specs.Slots.{form_of}
use Rattle.ild_schema.specs.Value as V
use Rattle.ild_schema.specs.Value.{Value}
use Rattle.ild_schema.specs.ValueSeen.{value_of}
use Rattle.ild_typed.specs.Fits.{Fits}
use Rattle.ild_typed.specs.Levels.{levels_of}
use Rattle.ild_typed.specs.OfType.{OfType}
use Rattle.ild_typed.proofs.OneLayer.{null_in}
use Rattle.ild_build.specs.inside.KeysIn.{IsPlainLayer, KeysIn}
use Rattle.ild_build.specs.PartAt.{places}
use Rattle.ild_build.proofs.PartTests.{PartsBefore, part_lower}
use Rattle.ild_build.proofs.PartFits.{part_typed}
use Rattle.ild_build.proofs.EachKey.{any_room, plain_val}
use Rattle.ild_build.proofs.RoomParts.{null_room, too_deep, a_part, its_keys, keys_typed, fits_by}
use Rattle.ild_build.proofs.room.+room.Goals as goal

on_ok : {A E : Type 0} (P Q : A → Type 0) → ((a : A) → P a → Q a) → (r : Result A E) → IfOk r P → IfOk r Q
on_ok P Q more (Ok a) h = more a h
on_ok P Q more (Err e) h = h

-- where the parts fit, the answer for the keys is that for the layer
layer_answer : {E : Type 0} (rows : List Row) (room n : ℕ) (s : Slot) (v : Value) (d : TypeDef) → form_of rows s ≡ Some d → n ≡ levels_of d V.null → n ≤ room → (m : ℕ) → places v ≤ m
    → PartsBefore (λ u w. OfType rows u w → Fits rows (room - n) u w) d v m
    → (r : Result Bool E) → IfOk r (λ b. KeysIn (OfType rows) rows d v → (b ≡ true) ↔ KeysIn (Fits rows (room - n)) rows d v)
    → IfOk r (λ b. IsPlainLayer v → OfType rows s v → (b ≡ true) ↔ Fits rows room s v)
layer_answer rows room n s v d is levels le m all parts r =
    on_ok (λ b. KeysIn (OfType rows) rows d v → (b ≡ true) ↔ KeysIn (Fits rows (room - n)) rows d v) (λ b. IsPlainLayer v → OfType rows s v → (b ≡ true) ↔ Fits rows room s v)
    (λ b h plain typed.
    let both = h (keys_typed rows room (room - n) n s v d is plain levels typed) in (
      (λ e. fits_by rows room (room - n) n s v d is plain levels typed le refl m all (λ j u w less at. parts j u w less at (part_typed rows s v d is typed j u w at)) (both.0 e)),
      (λ k. both.1 (its_keys rows room (room - n) n s v d is plain levels refl k)),
    ))
    r

false_true : {A : Type 0} → false ≡ true → A
false_true e = absurd cc

pub fits-returns-in-Null : goal.fits-returns-in-Null
fits-returns-in-Null t c = λ typed.
    let is = ap value_of c.in-Null.is in
    ((λ e. subst (Fits c.args.acc.now c.args.room c.args.slot) (sym is) (null_room c.args.acc.now c.args.room c.args.slot (null_in c.args.acc.now c.args.slot (subst (OfType c.args.acc.now c.args.slot) is typed)))), (λ h. refl))

pub fits-returns-in-Any : goal.fits-returns-in-Any
fits-returns-in-Any t c = λ typed.
    let is = ap value_of c.in-Any.is in
    let both = any_room c.args.acc.now c.args.room c.args.slot (data_of c.in-Any.tree) (subst (OfType c.args.acc.now c.args.slot) is typed) in (
      (λ e. subst (Fits c.args.acc.now c.args.room c.args.slot) (sym is) (both.0 (c.tree_fits.ensures.0 e))),
      (λ h. c.tree_fits.ensures.1 (both.1 (subst (Fits c.args.acc.now c.args.room c.args.slot) is h))),
    )

pub fits-returns-in_default : goal.fits-returns-in_default
fits-returns-in_default t c =
    let rows = c.args.acc.now in
    let v = value_of c.args.val.now in
    on_ok (λ b. IsPlainLayer v → OfType rows c.args.slot v → (b ≡ true) ↔ Fits rows c.args.room c.args.slot v) (λ b. OfType rows c.args.slot v → (b ≡ true) ↔ Fits rows c.args.room c.args.slot v)
    (λ b h typed. h (plain_val c.args.val.now c.in_default.not-Null c.in_default.not-Any) typed) c.layer_fits.result c.layer_fits.ensures

pub layer_fits-returns-then-room-levels : goal.layer_fits-returns-then-room-levels
layer_fits-returns-then-room-levels t c = λ plain typed. (
  (λ e. false_true e),
  (λ h. absurd (too_deep c.args.acc.now c.args.room 0 c.levels_of-levels.result c.args.slot (value_of c.args.val.now) c.form_of-def.result.now c.form_of-def.ensures.same plain c.levels_of-levels.ensures c.if-room-levels.true h)),
)

pub layer_fits-fits-requires : goal.layer_fits-fits-requires
layer_fits-fits-requires t c =
    let lower = part_lower (Some c.form_of-def.result.now) (value_of c.args.val.now) c.loop-i.i c.in-Some.slot (value_of c.in-Some.part.now) (sym c.in-Some.ensures.same) in
    (omega arith, c.in-Some.ensures.within (length c.args.acc.now) c.form_of-def.ensures.within)

pub layer_fits-returns-then-not-fit : goal.layer_fits-returns-then-not-fit
layer_fits-returns-then-not-fit t c = λ plain typed.
    let rows = c.args.acc.now in
    let v = value_of c.args.val.now in
    let w = value_of c.in-Some.part.now in
    let at = sym c.in-Some.ensures.same in
    let part = part_typed rows c.args.slot v c.form_of-def.result.now c.form_of-def.ensures.same typed c.loop-i.i c.in-Some.slot w at in (
      (λ e. false_true e),
      (λ h. sym c.if-not-fit.true
          ∙ (c.in_ok-fit.ensures part).1 (a_part rows c.args.room (c.args.room - c.levels_of-levels.result) c.levels_of-levels.result c.args.slot v c.form_of-def.result.now c.form_of-def.ensures.same plain c.levels_of-levels.ensures refl h c.loop-i.i c.in-Some.slot w at)),
    )

pub layer_fits-returns-then-has_leaves : goal.layer_fits-returns-then-has_leaves
layer_fits-returns-then-has_leaves t c =
    let v = value_of c.args.val.now in
    let leaves = c.has_leaves.ensures c.if-has_leaves.true in
    layer_answer c.args.acc.now c.args.room c.levels_of-levels.result c.args.slot v c.form_of-def.result.now c.form_of-def.ensures.same c.levels_of-levels.ensures (omega arith) (places v) (omega arith)
    (λ j u w less at. (leaves.each v j u w at).room (c.args.room - c.levels_of-levels.result)) c.keys_fit.result c.keys_fit.ensures

pub layer_fits-returns : goal.layer_fits-returns
layer_fits-returns t c =
    layer_answer c.args.acc.now c.args.room c.levels_of-levels.result c.args.slot (value_of c.args.val.now) c.form_of-def.result.now c.form_of-def.ensures.same c.levels_of-levels.ensures (omega arith) c.loop-i.i (omega arith) c.loop-i.invariant
    c.keys_fit-2.result c.keys_fit-2.ensures
