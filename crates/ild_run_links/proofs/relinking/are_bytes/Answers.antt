use Rattle.std.proofs.Common.{arith}
use Rattle.ild_data.proofs.Bytes.{AreBytes-from_places}
use Rattle.ild_run_links.proofs.relinking.are_bytes.Goals as goal

pub returns : goal.returns
returns c = AreBytes-from_places c.args.bytes.now (λ i. omega (arith, c.type_inv.bytes i))
