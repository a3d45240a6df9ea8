use Rattle.std.proofs.Common.{◌-◌, []}
use Rattle.ild_data.specs.Data.{Members}
use Rattle.ild_cbor.specs.inside.Row.{IsEntryRow}
use Rattle.ild_cbor.proofs.Searches.{Left}
use Rattle.ild_cbor.proofs.search.value_from.Given as goal

abbrev pub invariant-loop : goal.invariant-loop
invariant-loop l = (ms : Members) → IsEntryRow l.entries l.n ms [] → Left l.entries l.rest l.key (l.n - l.counter) ms
