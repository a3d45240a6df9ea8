use Rattle.std.proofs.Common.{arith, ◌≡◌, ◌<◌, ap, sym, subst, ◌∙◌, List, get_or, length, Some}
use Rattle.std.specs.Prelude.{slice_get}
use Rattle.ild_data.proofs.Gets.{got_at}
use Rattle.ild_schema.specs.Copies.{base}
use Rattle.ild_schema.specs.declared.def.Member.{Member}
use Rattle.ild_schema.specs.declared.row.Row.{Row}
use Rattle.ild_layer_parts.specs.declared.part.Part.{Part}
use Rattle.ild_layer_parts.specs.Ready.{IsReady}
use Rattle.ild_view_walk.proofs.Finding.{member_inlined, member_low, under_one, union_deep, union_opens, union_part}
use Rattle.ild_view_walk.proofs.Inside.{member_piece}
use Rattle.ild_view_walk.proofs.union.open_union.Goals as goal

pub returns-in_default-clause-opens : goal.returns-in_default-clause-opens
returns-in_default-clause-opens c = λ t stands.
    let x = c.in-Ok.ensures.answer t stands in
    union_deep c.args.acc.now c.recall.ensures.legible c.args.ty.0 c.args.room c.args.def.now c.requires.known c.args.piece.now t stands c.in-Ok.found.0 x.0 x.2
    (under_one c.args.room c.in_default.ensures)

got : (c : goal.After-value_part) → slice_get c.args.def.now.members c.in-Ok.found.0 ≡ Some c.index-as_slice-number.result
got c =
    let is : c.index-as_slice-number.result ≡ get_or c.args.def.now.members c.in-Ok.found.0 c.index-as_slice-number.result =
    c.index-as_slice-number.is ∙ ap (λ (ms : List Member). get_or ms c.in-Ok.found.0 c.index-as_slice-number.result) c.as_slice.ensures in
    got_at c.args.def.now.members c.in-Ok.found.0 c.index-as_slice-number.result (union_part c.args.acc.now (base c.args.acc.now c.args.ty.0) c.in-Ok.found.0 c.args.def.now c.requires.known c.in-Ok.ensures.within) is

pub returns-clause-opens : goal.returns-clause-opens
returns-clause-opens c = λ t stands.
    let x = c.in-Ok.ensures.answer t stands in
    union_opens c.args.acc.now c.recall.ensures.legible c.args.ty.0 c.args.room c.args.def.now c.requires.known c.args.piece.now t stands c.in-Ok.found.0 x.0 x.2
    c.in-Some.room c.index-as_slice-number.result c.value_part.result c.in-Ok.found.1 c.way_of.result (omega (arith, c.in-Some.ensures)) (got c) x.1 c.way_of.ensures c.value_part.ensures

pub returns-clause-ready : goal.returns-clause-ready
returns-clause-ready c =
    let rows : List Row = c.args.acc.now in
    let m : Member = c.index-as_slice-number.result in
    let less : c.in-Some.room < c.args.room = omega (arith, c.in-Some.ensures) in (
      subst (IsReady rows) (sym c.value_part.ensures) (record {
        within = member_low (length rows) c.args.def.now.members c.in-Ok.found.0 m c.requires.parts.1 (got c);
        numbered = c.in-Ok.ensures.numbered;
        inlined = member_inlined rows c.recall.ensures.legible c.args.ty.0 c.args.def.now c.requires.known c.args.piece.now c.in-Ok.found.1 c.requires.plain c.in-Ok.ensures.passed c.in-Ok.found.0 m (got c);
      }),
      less,
    )

pub returns-clause-inside : goal.returns-clause-inside
returns-clause-inside c =
    member_piece c.args.acc.now c.args.ty.0 c.args.piece.now c.value_part.result c.in-Ok.found.1 (ap (λ (x : Part). x.piece) c.value_part.ensures) c.requires.plain c.in-Ok.ensures.inlined
    c.in-Ok.ensures.passed
