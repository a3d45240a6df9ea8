-- The law of texts: one value of a type stands behind a text, and the texts of a type are those that represent one.
use Rattle.std.proofs.Common.{refl}
use Rattle.ild_data.specs.Data.{text}
use Rattle.ild_schema.specs.Slots.{plainly}
use Rattle.ild_schema.proofs.Legibly.{legible}
use Rattle.ild_typed.specs.Hamt.{alone}
use Rattle.ild_typed.specs.Laws.{OneText, TextsRepresent}
use Rattle.ild_typed.proofs.Flat.{flat_alone, flat_whole}
use Rattle.ild_typed.proofs.Judging.{tree_sound}
use Rattle.ild_typed.proofs.OneValue.{one_value, alone_exact, plain_safe}

pub one_value_of_text : OneText
one_value_of_text = λ h rows schema n v w k a b.
    let s = plainly n in
    one_value alone alone_exact rows (legible rows schema.accepted).clear s (plain_safe rows s refl) v w (text k)
    (flat_alone h rows s v (text k) a tt) (flat_alone h rows s w (text k) b tt)

pub texts_represent : TextsRepresent
texts_represent = λ h rows n k. (
  λ p.
      let e = flat_whole h rows (plainly n) p.1.0 (text k) p.1.2 tt in
      (p.1.0, (p.0, p.1.1, (tree_sound h rows (plainly n) p.1.0 (text k) e).0), e),
  λ p. (p.1.0, (p.0, p.1.1, flat_alone h rows (plainly n) p.0 (text k) p.2 tt)),
)
