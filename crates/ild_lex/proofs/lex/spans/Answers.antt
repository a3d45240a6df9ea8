use Rattle.std.proofs.Common.{refl, []}
use Rattle.ild_lex.specs.Lex.{all_read}
use Rattle.ild_lex.proofs.Slices.{spans_from}
use Rattle.ild_lex.proofs.lex.spans.Goals as goal

pub returns : goal.returns
returns c = spans_from c.args.src.now [] c.args.src.now c.args.tokens.now all_read refl c.requires c.utf8.src
