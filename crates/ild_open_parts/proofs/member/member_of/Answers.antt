use Rattle.std.proofs.Common.{◌≡◌, List, get_or, length, Some, refl, ◌∙◌, ap}
use Rattle.std.specs.Prelude.{slice_get}
use Rattle.std.proofs.Math.Logic.{∥∥₁_elim}
use Rattle.std.proofs.Props.{props}
use Rattle.ild_schema.specs.Copies.{base}
use Rattle.ild_schema.specs.declared.def.Member.{Member}
use Rattle.ild_schema.specs.declared.def.TypeDef.TheVariants as D
use Rattle.ild_schema.specs.declared.row.Row.{Row}
use Rattle.ild_typed.specs.Schema.{IsSchema}
use Rattle.ild_view_walk.proofs.Finding.{member_inlined, member_low, union_part}
use Rattle.ild_open_parts.proofs.Membering.{got, shows_member}
use Rattle.ild_open_parts.proofs.Typing.{never_refused}
use Rattle.ild_open_parts.proofs.member.member_of.Goals as goal

pub unreachable-requires : goal.unreachable-requires
unreachable-requires c =
    ∥∥₁_elim c.requires.layered (hlevel props)
    (λ x. never_refused c.args.acc.now c.recall.ensures.legible c.args.ty.0 (D.Union c.args.def.now) c.args.piece.now c.requires.known x c.in-Err.field-0 (c.in-Err.ensures.answer x.tree x.stands))

pub returns : goal.returns
returns c =
    let rows : List Row = c.args.acc.now in
    let schema : IsSchema rows = record { table = c.recall.ensures.table; accepted = c.recall.ensures.accepted } in
    let q : Member = c.index-as_slice-number.result in
    let is : q ≡ get_or c.args.def.now.members c.in-Ok.found.0 q = c.index-as_slice-number.is ∙ ap (λ (ms : List Member). get_or ms c.in-Ok.found.0 q) c.as_slice.ensures in
    let there : slice_get c.args.def.now.members c.in-Ok.found.0 ≡ Some q = got c.args.def.now.members c.args.def.now.members c.in-Ok.found.0 q refl
    (union_part rows (base rows c.args.ty.0) c.in-Ok.found.0 c.args.def.now c.requires.known c.in-Ok.ensures.within) is in
    record {
      within = member_low (length rows) c.args.def.now.members c.in-Ok.found.0 q c.requires.parts.1 there;
      numbered = c.in-Ok.ensures.numbered;
      inlined = member_inlined rows c.recall.ensures.legible c.args.ty.0 c.args.def.now c.requires.known c.args.piece.now c.in-Ok.found.1 c.requires.plain c.in-Ok.ensures.passed c.in-Ok.found.0 q there;
      same = λ t k member d stands there' made. shows_member rows schema c.args.ty c.args.def.now c.requires.known t c.in-Ok.found.0 c.in-Ok.found.1 q there (c.in-Ok.ensures.answer t stands) k member d there' made;
    }
