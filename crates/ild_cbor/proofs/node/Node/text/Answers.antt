use Rattle.std.proofs.Common.{true}
use Rattle.std.specs.Str.{is_utf8}
use Rattle.std.proofs.Math.Logic.{∥∥₁_elim}
use Rattle.std.proofs.Math.Bool.{Bool-set}
use Rattle.std.proofs.lemmas.Str.{is_utf8-from_IsUtf8, IsUtf8-from_is_utf8}
use Rattle.ild_cbor.proofs.Insides.{start_utf8}
use Rattle.ild_cbor.proofs.node.Node.text.Goals as goal

pub known_text-requires : goal.known_text-requires
known_text-requires c =
    IsUtf8-from_is_utf8 c.in-Some.bytes.now (∥∥₁_elim c.args.self.now.stands (Bool-set (is_utf8 c.in-Some.bytes.now) true)
    (λ s. let h = s.spells in is_utf8-from_IsUtf8 c.in-Some.bytes.now (start_utf8 c.start-start.result s.of c.in-Some.bytes.now h.within.tree (c.start-start.ensures s.of h) c.in-Some.ensures)))
