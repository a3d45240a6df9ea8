use Rattle.std.proofs.Common.{◌≡◌, ◌<◌, length, Some, ap, subst, sym, arith}
use Rattle.ild_schema.specs.Indexed.{InKeyOrder}
use Rattle.ild_schema.specs.Parts.{part_names}
use Rattle.ild_schema.specs.Table.{def_at}
use Rattle.ild_schema.proofs.Finding.{found_named, parts_at, parts_count}
use Rattle.ild_schema.proofs.schema.Schema.part_named.Goals as goal

pub index-index-requires : goal.index-index-requires
index-index-requires c = omega (arith, c.requires, ap length c.self.view_is, parts_count c.self.inside.rows.items c.self.inside.parts.items c.self.invariant.indexed)

pub part_with-requires : goal.part_with-requires
part_with-requires c =
    let within : c.args.ty.0 < length c.self.inside.rows.items = omega (arith, c.requires, ap length c.self.view_is) in
    let at = parts_at c.self.inside.rows.items c.self.inside.parts.items c.args.ty.0 c.index.result.now c.index-index.result.now c.self.invariant.indexed within c.index.ensures c.index-index.ensures in
    subst (InKeyOrder (part_names c.index.result.now.def)) (sym c.deref.ensures.value) at.finds.named

pub returns-clause-same : goal.returns-clause-same
returns-clause-same c =
    let within : c.args.ty.0 < length c.self.inside.rows.items = omega (arith, c.requires, ap length c.self.view_is) in
    let at = parts_at c.self.inside.rows.items c.self.inside.parts.items c.args.ty.0 c.index.result.now c.index-index.result.now c.self.invariant.indexed within c.index.ensures c.index-index.ensures in
    let here : def_at c.args.self.now c.args.ty.0 ≡ Some c.index.result.now.def = subst (λ rows. def_at rows c.args.ty.0 ≡ Some c.index.result.now.def) c.self.view_is at.def in
    (found_named c.args.self.now c.args.ty.0 c.index.result.now.def c.args.name.now c.part_with.result here c.part_with.ensures).same

pub returns-clause-within : goal.returns-clause-within
returns-clause-within c =
    let within : c.args.ty.0 < length c.self.inside.rows.items = omega (arith, c.requires, ap length c.self.view_is) in
    let at = parts_at c.self.inside.rows.items c.self.inside.parts.items c.args.ty.0 c.index.result.now c.index-index.result.now c.self.invariant.indexed within c.index.ensures c.index-index.ensures in
    let here : def_at c.args.self.now c.args.ty.0 ≡ Some c.index.result.now.def = subst (λ rows. def_at rows c.args.ty.0 ≡ Some c.index.result.now.def) c.self.view_is at.def in
    (found_named c.args.self.now c.args.ty.0 c.index.result.now.def c.args.name.now c.part_with.result here c.part_with.ensures).within
