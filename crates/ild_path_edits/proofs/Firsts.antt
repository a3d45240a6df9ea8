-- The first of hole, delimiter and depth, along the path of a change.
use Rattle.std.proofs.Common.{Option, Some, None}
use Rattle.std.specs.Prelude.{◌↔◌}
use Rattle.ild_script.specs.declared.reply.No.{No}
use Rattle.ild_script.specs.declared.reply.No.TheVariants as N
use Rattle.ild_typed.specs.Judged.{is_hole, breaks}
use Rattle.ild_typed.specs.OfType.{OfType}
use Rattle.ild_path_edits.specs.Along.{IsFirst}
use Rattle.ild_path_edits.specs.AlongLaws.{FirstAlong}
use Rattle.ild_path_edits.proofs.Depth.{depth_along}
use Rattle.ild_path_edits.proofs.LayerTesting.{judged_along}

first_from : (A B C X Y Z : Type 0) → (A ↔ X) → (B ↔ Y) → (C ↔ Z) → (o : Option No) → IsFirst A B C o → IsFirst X Y Z o
first_from A B C X Y Z a b c (Some N.Hole) h = λ x. h (a.1 x)
first_from A B C X Y Z a b c (Some N.Delimiter) h = (a.0 h.0, λ y. h.1 (b.1 y))
first_from A B C X Y Z a b c (Some N.Depth) h = (a.0 h.0, b.0 h.1, λ z. h.2 (c.1 z))
first_from A B C X Y Z a b c (Some refusal) h = absurd h
first_from A B C X Y Z a b c None h = (a.0 h.0, b.0 h.1, c.0 h.2)

pub first_along : FirstAlong
first_along rows is_key schema keys f l typed room p s ss o none last =
    let is : OfType rows p.0 p.1 = (room, none.2) in
    let a = judged_along rows is_key is_hole schema keys f l typed p s ss is none.0 last in
    let b = judged_along rows is_key (breaks rows) schema keys f l typed p s ss is none.1 last in
    let c = depth_along rows is_key schema keys f l typed room p s ss none.2 last in
    (first_from _ _ _ _ _ _ a b c o, first_from _ _ _ _ _ _ (a.1, a.0) (b.1, b.0) (c.1, c.0) o)
