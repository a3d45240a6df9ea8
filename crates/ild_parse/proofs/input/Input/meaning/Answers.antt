use Rattle.std.proofs.Math.Logic.{∥∥₁_map}
use Rattle.ild_parse.proofs.Values.{inside_utf8}
use Rattle.ild_parse.proofs.input.Input.meaning.Goals as goal

pub unescaped-requires : goal.unescaped-requires
unescaped-requires c = rw c.inside.ensures (∥∥₁_map c.args.self.spans (λ spans. inside_utf8 c.args.self.src.now c.args.self.rest.now spans c.requires))
