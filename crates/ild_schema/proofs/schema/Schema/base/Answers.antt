use Rattle.std.proofs.Common.{Some, None, subst}
use Rattle.ild_schema.specs.Ends.{HasEnds}
use Rattle.ild_schema.specs.Table.{IsTable}
use Rattle.ild_schema.proofs.Keeping.{EndsAt, ends_at, end_read}
use Rattle.ild_schema.proofs.schema.Schema.base.Goals as goal

pub returns-in-Some : goal.returns-in-Some
returns-in-Some c =
    let table : IsTable c.args.self.now = subst IsTable c.self.view_is c.self.invariant.table in
    let kept : HasEnds c.args.self.now c.self.inside.ends.items = subst (λ rows. HasEnds rows c.self.inside.ends.items) c.self.view_is c.self.invariant.ended in
    let at : EndsAt c.args.self.now c.args.ty.0 c.in-Some.end.0 = ends_at c.args.self.now c.args.ty.0 c.in-Some.end.0 table c.requires (end_read c.args.self.now c.self.inside.ends.items c.args.ty.0 c.index.result.now (Some c.in-Some.end) kept c.requires c.index.ensures c.in-Some.is) in
    record { same = at.same; within = at.within; reached = at.reached; end = at.end }

pub returns-in-None : goal.returns-in-None
returns-in-None c =
    let table : IsTable c.args.self.now = subst IsTable c.self.view_is c.self.invariant.table in
    let kept : HasEnds c.args.self.now c.self.inside.ends.items = subst (λ rows. HasEnds rows c.self.inside.ends.items) c.self.view_is c.self.invariant.ended in
    let at : EndsAt c.args.self.now c.args.ty.0 c.args.ty.0 = ends_at c.args.self.now c.args.ty.0 c.args.ty.0 table c.requires (end_read c.args.self.now c.self.inside.ends.items c.args.ty.0 c.index.result.now None kept c.requires c.index.ensures c.in-None.is) in
    record { same = at.same; within = at.within; reached = at.reached; end = at.end }
