use Rattle.std.proofs.Common.{◌≡◌, List}
use Rattle.ild_compile.specs.Compile.{Compiles, table, faulty}
use Rattle.ild_schema.specs.declared.row.Row.{Row}
use Rattle.ild_generator.specs.Schema.{source, generator_rows}
use Rattle.ild_generator.proofs.Compiled.{same_rows, not_faulty}
use Rattle.ild_generator.proofs.table.schema.Goals as goal

pub unreachable-requires : goal.unreachable-requires
unreachable-requires c = not_faulty c.one_verdict.ensures c.schema_is_its_text.ensures c.in-Err-Fault.field-0-0 (rw c.in-Err-Fault.field-0-is at c.in-Err-Fault.ensures)

pub returns-in-Ok : goal.returns-in-Ok
returns-in-Ok c = same_rows c.one_verdict.ensures c.schema_is_its_text.ensures c.in-Ok.schema c.in-Ok.ensures
