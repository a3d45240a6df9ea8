use Rattle.ild_cbor.proofs.Spans.{entries_lem}
use Rattle.ild_cbor.proofs.laws.entries_are_parts.Goals as goal

pub returns : goal.returns
returns c = entries_lem
