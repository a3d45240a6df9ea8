use Rattle.std.proofs.Common.{refl, arith}
use Rattle.ild_data.proofs.Bytes.{AreBytes-from_places}
use Rattle.ild_cbor.proofs.Blocks.{block_taken, root_spells}
use Rattle.ild_cbor.proofs.block.known_root.Goals as goal

pub invariant_of-result-clause-stands : goal.invariant_of-result-clause-stands
invariant_of-result-clause-stands c =
    let b = block_taken c.args.bytes.now (AreBytes-from_places c.args.bytes.now (λ i. omega (arith, c.type_inv.bytes i))) c.requires in
    ∣ record { of = b.0; spells = root_spells c.args.bytes.now b.0 b.1 } ∣₁

pub returns : goal.returns
returns c = λ d h. record { stands = root_spells c.args.bytes.now d h; block_is = refl; start_is = refl }
