use Rattle.std.proofs.Common.{ap, ◌∙◌, arith}
use Rattle.std.proofs.lemmas.List.{take_all}
use Rattle.ild_data.specs.ByteOrder.{without}
use Rattle.ild_hamt.specs.Ends.{hashes_of}
use Rattle.ild_hamt.proofs.Hashed.{hash-more}
use Rattle.ild_hamt.proofs.hashing.bucket_hashes.Goals as goal

pub loop-i-preserved : goal.loop-i-preserved
loop-i-preserved g c = λ es has.
    hash-more g.H.KeyHash.hash_of c.args.key.now es c.loop-i.hashes.items c.add_hash.new.hashes.items c.loop-i.i (omega (arith, c.loop-i-test.true, c.len-i-end.ensures es has)) (c.loop-i.invariant es has) (c.in_ok-add_hash.ensures es has)

pub returns : goal.returns
returns g c = λ es has.
    c.loop-i.invariant es has
    ∙ ap (λ xs. hashes_of g.H.KeyHash.hash_of (without c.args.key.now xs)) (take_all c.loop-i.i es (omega (arith, c.loop-i-test.false, c.len-i-end.ensures es has)))
