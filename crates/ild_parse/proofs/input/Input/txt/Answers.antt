use Rattle.std.proofs.Math.Logic.{∥∥₁_map}
use Rattle.ild_parse.proofs.Values.{text_utf8}
use Rattle.ild_parse.proofs.input.Input.txt.Goals as goal

pub txt_of-requires : goal.txt_of-requires
txt_of-requires c = rw c.bytes.ensures (∥∥₁_map c.args.self.spans (λ spans. text_utf8 c.args.self.src.now c.args.self.rest.now spans))
