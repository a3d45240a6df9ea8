use Rattle.std.proofs.Common.{◌-◌, ℕ, List, ◌∷◌, sym, ◌∙◌, ap}
use Rattle.ild_view.specs.View.{slot_of, table_of}
use Rattle.ild_path_room.specs.Room.{room_left}
use Rattle.ild_path_room.proofs.Telling.{none_behind, none_left, some_behind, way_ends, way_goes, way_stops, way_tells}
use Rattle.ild_path_room.proofs.room.room_at.Goals as goal

pub returns-then-is_empty : goal.returns-then-is_empty
returns-then-is_empty c = λ f s ss h is e last free.
    let v = c.args.root.now in
    let first = c.in-Some.ensures.cases.0 ∙ ap (λ (x : List ℕ). x ∷ c.in-Some.behind.now) (sym c.as_str.ensures.same) in
    let none = none_behind c.in-Some.behind.now c.is_empty.result c.is_empty.ensures c.if-is_empty.true in
    way_tells (table_of v) h (room_left (table_of v) c.args.limit (slot_of v, f) c.args.segments.now) c.loop-segment.view c.loop-segment.room c.as_str.result.now c.in-Some.behind.now c.loop-segment.left.now
    c.last_room.result first none free c.last_room.ensures (c.loop-segment.invariant f s ss h is e last)

pub returns-in_default-part : goal.returns-in_default-part
returns-in_default-part c = λ f s ss h is e last free key.
    let v = c.args.root.now in
    let first = c.in-Some.ensures.cases.0 ∙ ap (λ (x : List ℕ). x ∷ c.in-Some.behind.now) (sym c.as_str-in-Some.ensures.same) in
    let some = some_behind c.in-Some.behind.now c.is_empty.result c.is_empty.ensures c.if-is_empty.false in
    absurd (way_stops (table_of v) h (room_left (table_of v) c.args.limit (slot_of v, f) c.args.segments.now) c.loop-segment.view c.loop-segment.room c.as_str-in-Some.result.now c.in-Some.behind.now c.loop-segment.left.now
    first some c.in_default-part.ensures (c.loop-segment.invariant f s ss h is e last))

pub loop-segment-preserved : goal.loop-segment-preserved
loop-segment-preserved c = λ f s ss h is e last.
    let v = c.args.root.now in
    let first = c.in-Some.ensures.cases.0 ∙ ap (λ (x : List ℕ). x ∷ c.in-Some.behind.now) (sym c.as_str-in-Some.ensures.same) in
    let some = some_behind c.in-Some.behind.now c.is_empty.result c.is_empty.ensures c.if-is_empty.false in
    let less = c.saturating_sub-room.ensures ∙ ap (λ n. c.loop-segment.room - n) c.levels.ensures in
    way_goes (table_of v) h (room_left (table_of v) c.args.limit (slot_of v, f) c.args.segments.now) c.loop-segment.view c.loop-segment.room c.as_str-in-Some.result.now c.in-Some.behind.now c.loop-segment.left.now
    first some c.in-Some-part.part c.saturating_sub-room.result less c.in-Some-part.ensures (c.loop-segment.invariant f s ss h is e last)

pub returns : goal.returns
returns c = λ f s ss h is e last free key.
    let v = c.args.root.now in
    absurd (way_ends (table_of v) h (room_left (table_of v) c.args.limit (slot_of v, f) c.args.segments.now) c.loop-segment.view c.loop-segment.room c.loop-segment.left.now
    (none_left c.loop-segment.left.now c.in_default.ensures.cases) (c.loop-segment.invariant f s ss h is e last))
