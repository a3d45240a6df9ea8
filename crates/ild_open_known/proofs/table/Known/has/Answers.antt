use Rattle.std.proofs.Common.{sym, ◌∙◌}
use Rattle.std.specs.Cmp.Lexicographic.{same_text}
use Rattle.std.specs.Map.{values_of}
use Rattle.ild_open_known.proofs.Adding.{is_known}
use Rattle.ild_open_known.proofs.table.Known.has.Goals as goal

pub returns-then-covers : goal.returns-then-covers
returns-then-covers c = λ same.
    is_known (values_of c.args.self.now.roots.entries) c.in-Some.root.now c.in-Some.ensures.member c.args.read_as c.args.bytes.now (c.covers.ensures c.if-covers.true)
    (sym c.as_slice.ensures.same ∙ same_text c.as_slice.result.now c.args.bytes.now (sym same ∙ c.eq.ensures))
