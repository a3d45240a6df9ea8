use Rattle.std.proofs.Common.{◌<◌, length, ap, subst, sym, arith}
use Rattle.std.specs.Option.{IfSome}
use Rattle.ild_schema.specs.Indexed.{InKeyOrder}
use Rattle.ild_schema.specs.Parts.{part_texts}
use Rattle.ild_schema.specs.Table.{def_at}
use Rattle.ild_schema.proofs.Finding.{order_at, parts_count}
use Rattle.ild_schema.proofs.schema.Schema.in_key_order.Goals as goal

pub index-requires : goal.index-requires
index-requires c = omega (arith, c.requires, ap length c.self.view_is, parts_count c.self.inside.rows.items c.self.inside.parts.items c.self.invariant.indexed)

pub returns : goal.returns
returns c =
    let within : c.args.ty.0 < length c.self.inside.rows.items = omega (arith, c.requires, ap length c.self.view_is) in
    let order = order_at c.self.inside.rows.items c.self.inside.parts.items c.args.ty.0 c.index.result.now c.self.invariant.indexed within c.index.ensures in
    subst (λ rows. IfSome (def_at rows c.args.ty.0) (λ def. InKeyOrder (part_texts def) c.deref.result.now)) c.self.view_is
    (subst (λ ns. IfSome (def_at c.self.inside.rows.items c.args.ty.0) (λ def. InKeyOrder (part_texts def) ns)) (sym c.deref.ensures.value) order)
