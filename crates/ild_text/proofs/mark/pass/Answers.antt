use Rattle.std.proofs.Common.{◌≡◌, ◌⊎◌, inl, inr, length, get_or, sym}
use Rattle.std.proofs.lemmas.List.{take_rest}
use Rattle.ild_text.proofs.Behind.{other_byte, passes, none_from_test, some_from_test}
use Rattle.ild_text.proofs.mark.pass.Goals.{then-is_empty-via-then-is_empty, then-is_empty-via-else-is_empty+then-rest-byte}
use Rattle.ild_text.proofs.mark.pass.Goals as goal

pub returns-then-is_empty : goal.returns-then-is_empty
returns-then-is_empty c =
    let unlike : (length c.args.rest.now ≡ 0) ⊎ (get_or c.args.rest.now 0 0 ≡ c.in_ok-byte.byte → ⊥) =
    elim c.then-is_empty.branch [
      | then-is_empty-via-then-is_empty w ↦ inl (none_from_test (length c.args.rest.now) _ c.is_empty.ensures w.if-is_empty.true)
      | then-is_empty-via-else-is_empty+then-rest-byte w ↦ inr w.if-rest-byte.true
    ] in
    other_byte c.args.left.now c.args.rest.now c.in_ok-byte.byte c.requires (sym c.in_ok-byte.ensures) unlike

pub returns : goal.returns
returns c =
    rw (take_rest c.args.left.now 2, take_rest c.args.rest.now 1) (
    passes c.args.left.now c.args.rest.now c.in_ok-byte.byte c.requires (sym c.in_ok-byte.ensures) (some_from_test (length c.args.rest.now) _ c.is_empty.ensures c.if-is_empty.false) c.if-rest-byte.false
    )
