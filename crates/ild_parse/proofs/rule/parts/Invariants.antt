use Rattle.std.proofs.Common.{◌≡◌, ◌-◌}
use Rattle.ild_parse.specs.inside.Seen.{stream_of}
use Rattle.ild_parse_grammar.proofs.Stream.{most}
use Rattle.ild_parse_grammar.proofs.Read.{many_at}
use Rattle.ild_parse.specs.inside.Ends.{ends_by}
use Rattle.ild_parse.proofs.Many.{with_front}
use Rattle.ild_parse.proofs.rule.parts.Given as goal

-- what is read behind the parts so far is what is read in all
abbrev pub invariant-loop : goal.invariant-loop
invariant-loop g l =
    with_front l.parts.items (many_at g.P.Rule.reading (ends_by l.fn.ending) (l.end - l.counter) (stream_of l.rest)) ≡ many_at g.P.Rule.reading (ends_by l.fn.ending) (most (stream_of l.fn.input)) (stream_of l.fn.input)
