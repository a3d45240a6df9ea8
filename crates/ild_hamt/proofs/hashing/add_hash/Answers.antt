use Rattle.std.proofs.Common.{sym, ◌∙◌}
use Rattle.std.specs.Prelude.{slice_get}
use Rattle.std.specs.Cmp.Lexicographic.{same_text, other_text}
use Rattle.ild_hamt.proofs.Hashed.{hash-same, hash-apart, hash-none}
use Rattle.ild_hamt.proofs.hashing.add_hash.Goals as goal

pub returns-then-eq : goal.returns-then-eq
returns-then-eq g c = λ es has.
    hash-same g.H.KeyHash.hash_of c.args.bucket es c.args.i (slice_get es c.args.i) c.in-Some.other c.in-Some.field-0-1 c.args.key.now c.args.hashes.now.items (c.in-Some.ensures es has)
    (same_text c.in-Some.other.now c.args.key.now (sym c.if-eq.true ∙ c.eq.ensures))

pub returns-else-eq : goal.returns-else-eq
returns-else-eq g c = λ es has.
    hash-apart c.push_hash.result g.H.KeyHash.hash_of c.args.bucket es c.args.i (slice_get es c.args.i) c.in-Some.other c.in-Some.field-0-1 c.args.key.now c.args.hashes.now.items c.push_hash.new.hashes.items (c.in-Some.ensures es has)
    (other_text c.in-Some.other.now c.args.key.now (sym c.if-eq.false ∙ c.eq.ensures)) c.push_hash.ensures

pub returns-in-None : goal.returns-in-None
returns-in-None g c = λ es has. hash-none g.H.KeyHash.hash_of c.args.bucket es c.args.i (slice_get es c.args.i) c.args.key.now c.args.hashes.now.items (c.in-None.ensures es has)
