use Rattle.std.proofs.Common.{◌-◌, sym, ◌∙◌, ap, subst, List, Ok, ◌≡◌}
use Rattle.std.proofs.lemmas.Result.{err_from_is_err_and}
use Rattle.ild_parse.specs.declared.error.ParseErr.{ParseErr}
use Rattle.ild_parse.specs.inside.Seen.{stream_of}
use Rattle.ild_parse_grammar.proofs.Stream.{most}
use Rattle.ild_parse.specs.inside.Seen.{Fails}
use Rattle.ild_parse_grammar.proofs.Read.{many_at}
use Rattle.ild_parse.specs.inside.Ends.{ends_by}
use Rattle.ild_parse.proofs.Many.{with_front, many_starts, many_goes, many_fails, many_done, many_too_few}
use Rattle.ild_parse.proofs.rule.parts.Goals as goal

pub loop-init : goal.loop-init
loop-init g c =
    subst (λ (front : List g.row.P.Denot). with_front front (many_at g.P.Rule.reading (ends_by c.args.ending) (c.most-end.result - 0) (stream_of c.args.input)) ≡ many_at g.P.Rule.reading (ends_by c.args.ending) (most (stream_of c.args.input)) (stream_of c.args.input)) (sym c.new-parts.ensures.items)
    (many_starts g.P.Rule.reading (ends_by c.args.ending) c.most-end.result (most (stream_of c.args.input)) (stream_of c.args.input) c.most-end.ensures)

pub loop-preserved : goal.loop-preserved
loop-preserved g c =
    let total = many_at g.P.Rule.reading (ends_by c.args.ending) (most (stream_of c.args.input)) (stream_of c.args.input) in
    rw c.in_ok-push.ensures.items (many_goes g.P.Rule.reading (ends_by c.args.ending) c.loop.parts.items c.most-end.result c.loop.counter (stream_of c.loop.rest) (stream_of c.in_ok-part.after) c.in_ok-part.part total c.loop-test.true (sym c.if-ends.ensures) c.in_ok-part.ensures c.loop.invariant)

pub returns-then-ends : goal.returns-then-ends
returns-then-ends g c =
    let total = many_at g.P.Rule.reading (ends_by c.args.ending) (most (stream_of c.args.input)) (stream_of c.args.input) in
    many_done g.P.Rule.reading (ends_by c.args.ending) c.loop.parts.items c.most-end.result c.loop.counter (stream_of c.loop.rest) total c.loop-test.true (sym c.if-ends.ensures) c.loop.invariant
    ∙ ap (λ (xs : List g.row.P.Denot). Ok (xs, stream_of c.loop.rest)) (sym c.from_vec.ensures)

pub returns-in_err-part : goal.returns-in_err-part
returns-in_err-part g c =
    let total = many_at g.P.Rule.reading (ends_by c.args.ending) (most (stream_of c.args.input)) (stream_of c.args.input) in
    let p = err_from_is_err_and c.from_residual.result c.from_residual.ensures.1 in
    rw (p.1, p.2) (many_fails g.P.Rule.reading (ends_by c.args.ending) c.in_err-part.field-0.0 c.loop.parts.items c.most-end.result c.loop.counter (stream_of c.loop.rest) total c.loop-test.true (sym c.if-ends.ensures) c.in_err-part.ensures c.loop.invariant)

pub returns : goal.returns
returns g c =
    let total = many_at g.P.Rule.reading (ends_by c.args.ending) (most (stream_of c.args.input)) (stream_of c.args.input) in
    subst (λ (e : ParseErr). Fails e total) (sym c.fault.ensures) (many_too_few g.P.Rule.reading (ends_by c.args.ending) c.loop.parts.items c.most-end.result c.loop.counter (stream_of c.loop.rest) total c.loop-test.false c.loop.invariant)
