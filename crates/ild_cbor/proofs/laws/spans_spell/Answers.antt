use Rattle.ild_cbor.proofs.Spans.{spans_lem}
use Rattle.ild_cbor.proofs.laws.spans_spell.Goals as goal

pub returns : goal.returns
returns c = spans_lem
