use Rattle.std.proofs.Common.{subst}
use Rattle.std.specs.List.{AllByRecursion}
use Rattle.ild_schema.specs.Made.{MadeMember}
use Rattle.ild_schema.specs.declared.def.TypeDef.TheVariants as D
use Rattle.ild_beneath_read.proofs.Choosing.{inline_structs}
use Rattle.ild_beneath_read.proofs.member.open_union.Goals as goal

pub inline-requires-clause-structs : goal.inline-requires-clause-structs
inline-requires-clause-structs c =
    inline_structs c.args.acc.now c.in-Inline.key c.args.def.now.members
    (subst (λ f. AllByRecursion (MadeMember c.args.acc.now f) c.args.def.now.members) c.in-Inline.is (c.recall.ensures.legible.made c.args.base.0 (D.Union c.args.def.now) c.requires.known))
