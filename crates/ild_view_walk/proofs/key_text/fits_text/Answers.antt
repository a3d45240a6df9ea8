use Rattle.std.proofs.Common.{◌≡◌, List, [], true, false, refl, subst}
use Rattle.ild_data.specs.Data as T
use Rattle.ild_schema.specs.Slots.{plainly}
use Rattle.ild_schema.specs.declared.row.Row.{Row}
use Rattle.ild_typed.specs.Spots.{key_spot}
use Rattle.ild_typed.proofs.OneValue.{plain_safe}
use Rattle.ild_typed.proofs.WalkSound.{refused_sound}
use Rattle.ild_view_walk.specs.Checks.{IsPartRefusal, PartFaults}
use Rattle.ild_view_walk.proofs.key_text.fits_text.Goals as goal

pub returns-in-Ok : goal.returns-in-Ok
returns-in-Ok c = (λ e. c.in-Ok.ensures, λ shows. refl)

pub returns-in-Err-Shape : goal.returns-in-Err-Shape
returns-in-Err-Shape c =
    let rows : List Row = c.args.acc.now in
    let legible = c.recall.ensures.legible in
    let h : IsPartRefusal rows c.args.room (key_spot c.args.ty c.args.text.now []) c.in-Err-Shape.field-0-0 c.in-Err-Shape.field-0-1 = subst (PartFaults rows c.args.room (key_spot c.args.ty c.args.text.now [])) c.in-Err-Shape.field-0-is c.in-Err-Shape.ensures in (
      (λ e. absurd (never e)),
      (λ shows. absurd (refused_sound rows legible.clear legible.delims c.args.room 0 (plainly c.args.ty) (plain_safe rows (plainly c.args.ty) refl) (T.text c.args.text.now) h.refusal h.refused shows)),
    )
  where
    never : false ≡ true → ⊥
    never e = absurd cc
