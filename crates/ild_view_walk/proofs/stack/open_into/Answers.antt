use Rattle.std.proofs.Common.{◌∙◌, List, Some, Ok, Err, sym, subst, lit≤}
use Rattle.ild_schema.specs.declared.row.Row.{Row}
use Rattle.ild_typed.specs.Schema.{IsSchema}
use Rattle.ild_view_walk.specs.inside.Opens.{IsOpening, OpensPiece}
use Rattle.ild_view_walk.proofs.Stacking.{bare_replaces, null_replaces, parts_replace, refused_never}
use Rattle.ild_view_walk.proofs.stack.open_into.Goals as goal

pub returns-then-is_null_there-clause-spreads : goal.returns-then-is_null_there-clause-spreads
returns-then-is_null_there-clause-spreads c = λ p spotted plain.
    let rows : List Row = c.args.acc.now in
    let schema : IsSchema rows = record { table = c.recall.ensures.table; accepted = c.recall.ensures.accepted } in
    null_replaces rows schema c.recall.ensures.legible c.args.part p spotted plain c.requires.within c.args.todo.now.items (sym (c.is_null_there.ensures rows p.tree spotted.stands) ∙ c.if-is_null_there.true)

pub returns-in-Ok-None-clause-spreads : goal.returns-in-Ok-None-clause-spreads
returns-in-Ok-None-clause-spreads c = λ p spotted plain.
    let rows : List Row = c.args.acc.now in
    let schema : IsSchema rows = record { table = c.recall.ensures.table; accepted = c.recall.ensures.accepted } in
    bare_replaces rows schema c.recall.ensures.legible c.args.part p spotted plain c.requires.within c.args.todo.now.items 4294967295
    (λ d is. subst (λ o. OpensPiece rows 4294967295 d p.tree (Ok o)) c.in-Ok-None.field-0-is (c.in-Ok-None.ensures.opens d p.tree spotted.stands is))

pub returns-in_ok-push_parts-in-Ok-Some-clause-ready : goal.returns-in_ok-push_parts-in-Ok-Some-clause-ready
returns-in_ok-push_parts-in-Ok-Some-clause-ready c =
    let rows : List Row = c.args.acc.now in
    let ready : IsOpening rows 4294967295 (Ok (Some c.in-Ok-Some.opening)) = subst (λ o. IsOpening rows 4294967295 (Ok o)) c.in-Ok-Some.field-0-is c.in-Ok-Some.ensures.ready in
    c.in_ok-push_parts-in-Ok-Some.ensures.ready rows ready.0

pub returns-in_ok-push_parts-in-Ok-Some-clause-spreads : goal.returns-in_ok-push_parts-in-Ok-Some-clause-spreads
returns-in_ok-push_parts-in-Ok-Some-clause-spreads c = λ p spotted plain.
    let rows : List Row = c.args.acc.now in
    let schema : IsSchema rows = record { table = c.recall.ensures.table; accepted = c.recall.ensures.accepted } in
    let ready : IsOpening rows 4294967295 (Ok (Some c.in-Ok-Some.opening)) = subst (λ o. IsOpening rows 4294967295 (Ok o)) c.in-Ok-Some.field-0-is c.in-Ok-Some.ensures.ready in
    parts_replace rows schema c.recall.ensures.legible c.args.part p spotted plain c.requires.within c.args.todo.now.items 4294967295 (lit≤ tt)
    (sym (c.is_null_there.ensures rows p.tree spotted.stands) ∙ c.if-is_null_there.false) c.in-Ok-Some.opening
    (λ d is. subst (λ o. OpensPiece rows 4294967295 d p.tree (Ok o)) c.in-Ok-Some.field-0-is (c.in-Ok-Some.ensures.opens d p.tree spotted.stands is)) ready.1 c.push_parts.new.todo.items
    (λ ps left. c.in_ok-push_parts-in-Ok-Some.ensures.adds rows ps left ready.0)

pub returns-in-Err-Why-clause-spreads : goal.returns-in-Err-Why-clause-spreads
returns-in-Err-Why-clause-spreads c = λ p spotted plain.
    let rows : List Row = c.args.acc.now in
    let schema : IsSchema rows = record { table = c.recall.ensures.table; accepted = c.recall.ensures.accepted } in
    refused_never rows schema c.recall.ensures.legible c.args.part p spotted plain c.requires.within c.args.todo.now.items 4294967295 (lit≤ tt)
    (sym (c.is_null_there.ensures rows p.tree spotted.stands) ∙ c.if-is_null_there.false) c.in-Err-Why.field-0-0
    (λ d is. subst (λ o. OpensPiece rows 4294967295 d p.tree (Err o)) c.in-Err-Why.field-0-is (c.in-Err-Why.ensures.opens d p.tree spotted.stands is))
