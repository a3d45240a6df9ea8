use Rattle.std.proofs.Common.{sym, ◌∙◌}
use Rattle.std.specs.Prelude.{slice_get}
use Rattle.std.proofs.Math.Logic.{∥∥₁_elim}
use Rattle.std.proofs.Props.{props}
use Rattle.std.specs.Cmp.Lexicographic.{same_text, other_text}
use Rattle.ild_hamt_climb.proofs.Nested.{value-low}
use Rattle.ild_hamt_climb.proofs.PutEach.{other-same, other-apart}
use Rattle.ild_hamt_climb.proofs.gathering.put_other.Goals as goal

pub put-requires : goal.put-requires
put-requires c = λ t stands. ∥∥₁_elim c.requires (hlevel props) (λ b. value-low c.args.bucket b c.args.i c.in-Some.other c.in-Some.value t (c.in-Some.ensures b.es b.has) stands)

pub returns-then-eq : goal.returns-then-eq
returns-then-eq c = λ es has.
    other-same c.args.bucket es c.args.i (slice_get es c.args.i) c.in-Some.other c.in-Some.value c.args.key.now c.args.rows.now (c.in-Some.ensures es has)
    (same_text c.in-Some.other.now c.args.key.now (sym c.if-eq.true ∙ c.eq.ensures))

pub returns-else-eq : goal.returns-else-eq
returns-else-eq c = λ es has.
    other-apart c.put.result c.args.bucket es c.args.i (slice_get es c.args.i) c.in-Some.other c.in-Some.value c.args.key.now c.args.rows.now c.put.new.self (c.in-Some.ensures es has)
    (other_text c.in-Some.other.now c.args.key.now (sym c.if-eq.false ∙ c.eq.ensures)) c.put.ensures.ok
