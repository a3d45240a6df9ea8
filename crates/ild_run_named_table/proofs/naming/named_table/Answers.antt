use Rattle.ild_run_named_table.proofs.Tables.{few_rows, not_described, not_typed}
use Rattle.ild_run_named_table.proofs.naming.named_table.Goals as goal

pub returns-in-Err-clause-names : goal.returns-in-Err-clause-names
returns-in-Err-clause-names g c = not_described c.args.id.now.0 (g.K.Store.moment c.args.store.now) (g.K.Store.moment c.describe.new.store) c.in-Err.fault c.in-Err.ensures

pub returns-in-Err-type_of-clause-names : goal.returns-in-Err-type_of-clause-names
returns-in-Err-type_of-clause-names g c =
    not_typed c.args.id.now.0 (g.K.Store.moment c.args.store.now) (g.K.Store.moment c.describe.new.store) c.in-Ok.described c.in-Ok.ensures c.in-Err-type_of.fault c.in-Err-type_of.ensures.types

pub named_schema-requires-clause-room : goal.named_schema-requires-clause-room
named_schema-requires-clause-room g c = few_rows c.in-Ok.described.source c.in-Ok-type_of.typed.0 c.in-Ok-type_of.ensures.types.schema
