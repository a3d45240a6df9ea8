use Rattle.std.proofs.Common.{refl, sym, arith}
use Rattle.ild_data.proofs.Bytes.{AreBytes-from_places}
use Rattle.ild_cbor.proofs.Blocks.{block_taken, block_again, root_spells}
use Rattle.ild_cbor.proofs.block.check.Goals as goal

pub invariant_of-result-clause-stands : goal.invariant_of-result-clause-stands
invariant_of-result-clause-stands c =
    let b = block_taken c.args.bytes.now (AreBytes-from_places c.args.bytes.now (λ i. omega (arith, c.type_inv.bytes i))) (sym c.in-None.ensures) in
    ∣ record { of = b.0; spells = root_spells c.args.bytes.now b.0 b.1 } ∣₁

pub returns-in-Some-clause-only : goal.returns-in-Some-clause-only
returns-in-Some-clause-only c = λ d h. let none = block_again c.args.bytes.now d h in let some = c.fault.ensures in absurd cc

pub returns-in-None-clause-found : goal.returns-in-None-clause-found
returns-in-None-clause-found c =
    let b = block_taken c.args.bytes.now (AreBytes-from_places c.args.bytes.now (λ i. omega (arith, c.type_inv.bytes i))) (sym c.in-None.ensures) in
    (b.0, b.1, record { stands = root_spells c.args.bytes.now b.0 b.1; block_is = refl; start_is = refl })

pub returns-in-None-clause-only : goal.returns-in-None-clause-only
returns-in-None-clause-only c = λ d h. (refl, record { stands = root_spells c.args.bytes.now d h; block_is = refl; start_is = refl })
