use Rattle.std.proofs.Common.{rules, ◌≡◌, sym, subst}
use Rattle.ild_schema.specs.Accept.{IsAccepted}
use Rattle.ild_schema.specs.Table.{IsTable}
use Rattle.ild_named_type.specs.Root.{named_rows}
use Rattle.ild_named_type.proofs.Entering.{table_more, accepted_more}
use Rattle.ild_named_type.proofs.table.named_schema.Goals as goal

pub with_names-requires-clause-table : goal.with_names-requires-clause-table
with_names-requires-clause-table c =
    let e : c.push.new.self.items ≡ named_rows c.args.acc c.args.ty = search rules in
    subst IsTable (sym e) (table_more c.args.acc c.args.ty c.recall.ensures.table c.requires.room c.requires.within)

pub of-requires : goal.of-requires
of-requires c =
    let e : c.in_ok-schema.schema ≡ named_rows c.args.acc c.args.ty = search rules in
    subst IsAccepted (sym e) (accepted_more c.args.acc c.args.ty c.recall.ensures.table c.recall.ensures.accepted)
