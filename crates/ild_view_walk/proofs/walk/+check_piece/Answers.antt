use Rattle.std.proofs.Common.{List, IfSome, Some, Ok, sym, ◌∙◌, subst, arith}
use Rattle.ild_schema.specs.declared.row.Row.{Row}
use Rattle.ild_typed.specs.Schema.{IsSchema}
use Rattle.ild_view_walk.specs.inside.Inside.{IsOpenInside}
use Rattle.ild_layer_parts.specs.PassedOver.{IsPieceOf}
use Rattle.ild_view_walk.specs.inside.Opens.{IsOpening, OpensPiece}
use Rattle.ild_layer_parts.specs.Parts.{LeadsOn, SplitsOff}
use Rattle.ild_layer_parts.specs.Ready.{IsPartReady}
use Rattle.ild_layer_parts.proofs.Showing.{null_checks, plain_shows}
use Rattle.ild_view_walk.proofs.Walking.{opened_begins, past_nothing, past_part, refused_by_itself, at_refused, walk_ends}
use Rattle.ild_view_walk.proofs.Telling.{refused_place}
use Rattle.ild_view_walk.proofs.walk.+check_piece.Goals as goal

pub returns-then-is_null_there-clause-checks : goal.returns-then-is_null_there-clause-checks
returns-then-is_null_there-clause-checks m c = λ t stands tree.
    null_checks c.args.acc.now c.args.room c.args.slot t tree (sym (c.is_null_there.ensures c.args.acc.now t stands) ∙ c.if-is_null_there.true)

pub returns-in-Err-clause-checks : goal.returns-in-Err-clause-checks
returns-in-Err-clause-checks m c = λ t stands tree.
    let rows : List Row = c.args.acc.now in
    let schema : IsSchema rows = record { table = c.recall.ensures.table; accepted = c.recall.ensures.accepted } in
    c.own_refusal.ensures.faults rows c.args.room t
    (refused_by_itself rows schema c.args.room c.args.slot c.requires.within t c.in-Err.stop (sym (c.is_null_there.ensures rows t stands) ∙ c.if-is_null_there.false) (λ d is. c.in-Err.ensures.opens d t stands is))

pub returns-in_default-clause-checks : goal.returns-in_default-clause-checks
returns-in_default-clause-checks m c = λ t stands tree.
    let rows : List Row = c.args.acc.now in
    let schema : IsSchema rows = record { table = c.recall.ensures.table; accepted = c.recall.ensures.accepted } in
    plain_shows rows schema c.recall.ensures.legible c.args.room c.args.slot c.requires.within t tree
    (λ d is. subst (λ o. OpensPiece rows c.args.room d t (Ok o)) c.in_default.is (c.in-Ok.ensures.opens d t stands is))

pub behind_leaves-parts-requires : goal.behind_leaves-parts-requires
behind_leaves-parts-requires m c = (subst (λ o. IsOpening c.args.acc.now c.args.room (Ok o)) c.in-Some.is c.in-Ok.ensures.ready).0

pub loop-part-init : goal.loop-part-init
loop-part-init m c =
    let rows : List Row = c.args.acc.now in
    let schema : IsSchema rows = record { table = c.recall.ensures.table; accepted = c.recall.ensures.accepted } in
    let ready : IsOpening rows c.args.room (Ok (Some c.in-Some.opening)) = subst (λ o. IsOpening rows c.args.room (Ok o)) c.in-Some.is c.in-Ok.ensures.ready in (
      c.behind_leaves-parts.ensures.ready,
      ready.1,
      λ t stands tree. past_nothing rows c.args.room c.args.slot t c.in-Some.opening.room c.in-Some.opening.parts
          (opened_begins rows schema c.args.room c.args.slot c.requires.within t c.in-Some.opening
          (λ d is. subst (λ o. OpensPiece rows c.args.room d t (Ok o)) c.in-Some.is (c.in-Ok.ensures.opens d t stands is))) schema tree c.behind_leaves-parts.result
          (λ ps h. c.behind_leaves-parts.ensures.passes ps h),
      c.behind_leaves-parts.ensures.inside c.args.slot.ty.0 c.args.piece.now
          (subst (λ o. IsOpenInside rows c.args.slot.ty.0 c.args.piece.now (Ok o)) c.in-Some.is c.in-Ok.ensures.inside),
    )

pub check_piece-requires : goal.check_piece-requires
check_piece-requires m c =
    let rows : List Row = c.args.acc.now in
    let both = c.in-Some-split_first.ensures.ready rows c.loop-part.invariant.0 in
    let ready = subst (IsPartReady rows) c.in-Some-part.is both.0 in
    (omega (arith, c.loop-part.invariant.1), (ready.within, (ready.numbered, ready.inlined)))

pub returns-in-Err-check_piece-clause-checks : goal.returns-in-Err-check_piece-clause-checks
returns-in-Err-check_piece-clause-checks m c = λ t stands tree.
    let rows : List Row = c.args.acc.now in
    let schema : IsSchema rows = record { table = c.recall.ensures.table; accepted = c.recall.ensures.accepted } in
    let left = c.in-Some.opening.room in
    at_refused rows c.args.room c.args.slot t left c.loop-part.parts (c.loop-part.invariant.2 t stands tree) schema tree c.in-Some-part.part c.in-Some-split_first.behind
    (λ ps h. subst (λ o. SplitsOff rows ps o c.in-Some-split_first.behind) c.in-Some-part.is (c.in-Some-split_first.ensures.step rows ps h))
    (sym (c.is_null_there.ensures rows t stands) ∙ c.if-is_null_there.false) c.loop-part.invariant.1 c.in-Err-check_piece.fault c.part_refusal.result
    (λ u a b. c.in-Err-check_piece.ensures.checks u a b) (λ p sp f. c.part_refusal.ensures.faults rows left p sp f)

pub loop-part-preserved-in_default-check_piece : goal.loop-part-preserved-in_default-check_piece
loop-part-preserved-in_default-check_piece m c =
    let rows : List Row = c.args.acc.now in
    let schema : IsSchema rows = record { table = c.recall.ensures.table; accepted = c.recall.ensures.accepted } in
    let both = c.in-Some-split_first.ensures.ready rows c.loop-part.invariant.0 in (
      both.1,
      c.loop-part.invariant.1,
      λ t stands tree. past_part rows c.args.room c.args.slot t c.in-Some.opening.room c.loop-part.parts (c.loop-part.invariant.2 t stands tree) schema tree c.in-Some-part.part c.in-Some-split_first.behind
          (λ ps h. subst (λ o. SplitsOff rows ps o c.in-Some-split_first.behind) c.in-Some-part.is (c.in-Some-split_first.ensures.step rows ps h))
          (λ u a b. c.in_default-check_piece.ensures.checks u a b),
      (c.in-Some-split_first.ensures.inside rows c.args.slot.ty.0 c.args.piece.now c.loop-part.invariant.3).1,
    )

pub loop-part-preserved : goal.loop-part-preserved
loop-part-preserved m c =
    let rows : List Row = c.args.acc.now in
    let schema : IsSchema rows = record { table = c.recall.ensures.table; accepted = c.recall.ensures.accepted } in
    let both = c.in-Some-split_first.ensures.ready rows c.loop-part.invariant.0 in (
      both.1,
      c.loop-part.invariant.1,
      λ t stands tree. past_nothing rows c.args.room c.args.slot t c.in-Some.opening.room c.loop-part.parts (c.loop-part.invariant.2 t stands tree) schema tree c.in-Some-split_first.behind
          (λ ps h. subst (λ o. SplitsOff rows ps o c.in-Some-split_first.behind) c.in_default-part.is (c.in-Some-split_first.ensures.step rows ps h)),
      (c.in-Some-split_first.ensures.inside rows c.args.slot.ty.0 c.args.piece.now c.loop-part.invariant.3).1,
    )

pub returns-clause-checks : goal.returns-clause-checks
returns-clause-checks m c = λ t stands tree.
    let rows : List Row = c.args.acc.now in
    let schema : IsSchema rows = record { table = c.recall.ensures.table; accepted = c.recall.ensures.accepted } in
    walk_ends rows c.args.room c.args.slot t c.in-Some.opening.room c.loop-part.parts (c.loop-part.invariant.2 t stands tree) schema c.recall.ensures.legible tree c.loop-part.invariant.1
    (λ ps h. c.in_default-split_first.ensures.step rows ps h)

pub returns-in-Err-clause-place : goal.returns-in-Err-clause-place
returns-in-Err-clause-place m c = λ t stands tree.
    let rows : List Row = c.args.acc.now in
    let schema : IsSchema rows = record { table = c.recall.ensures.table; accepted = c.recall.ensures.accepted } in
    c.own_refusal.ensures.place rows c.args.room t c.args.piece.now schema
    (refused_by_itself rows schema c.args.room c.args.slot c.requires.within t c.in-Err.stop (sym (c.is_null_there.ensures rows t stands) ∙ c.if-is_null_there.false) (λ d is. c.in-Err.ensures.opens d t stands is))

pub returns-in-Err-check_piece-clause-place : goal.returns-in-Err-check_piece-clause-place
returns-in-Err-check_piece-clause-place m c = λ t stands tree.
    let rows : List Row = c.args.acc.now in
    let schema : IsSchema rows = record { table = c.recall.ensures.table; accepted = c.recall.ensures.accepted } in
    let inside = (c.in-Some-split_first.ensures.inside rows c.args.slot.ty.0 c.args.piece.now c.loop-part.invariant.3).0 in
    refused_place rows c.args.room c.args.slot t c.in-Some.opening.room c.loop-part.parts (c.loop-part.invariant.2 t stands tree) schema tree c.in-Some-part.part c.in-Some-split_first.behind
    (λ ps h. subst (λ o. SplitsOff rows ps o c.in-Some-split_first.behind) c.in-Some-part.is (c.in-Some-split_first.ensures.step rows ps h))
    (sym (c.is_null_there.ensures rows t stands) ∙ c.if-is_null_there.false) c.loop-part.invariant.1 c.args.piece.now stands c.requires.inlined
    (subst (λ o. IfSome o (IsPieceOf rows c.args.slot.ty.0 c.args.piece.now)) c.in-Some-part.is inside) c.way.result (λ ps h k. c.way.ensures rows ps h k)
    (λ ps h. subst (λ o. LeadsOn rows c.loop-part.parts o ps) c.in-Some-part.is (c.in-Some-split_first.ensures.way rows ps h)) c.place_of.result c.place_of.ensures
    c.in-Err-check_piece.fault c.part_refusal.result (λ u a b. c.in-Err-check_piece.ensures.checks u a b) (λ u a b. c.in-Err-check_piece.ensures.place u a b) c.part_refusal.ensures.place
