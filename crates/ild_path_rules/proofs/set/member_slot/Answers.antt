use Rattle.std.proofs.Common.{ap}
use Rattle.std.specs.Prelude.{option_map}
use Rattle.ild_schema.specs.Slots.{plainly}
use Rattle.ild_schema.specs.declared.def.Member.{Member}
use Rattle.ild_path_rules.proofs.set.member_slot.Goals as goal

pub returns-in-Some : goal.returns-in-Some
returns-in-Some c = λ known. ap (option_map (λ (m : Member). plainly m.ty)) (c.in-Some.ensures known)

pub returns-in-None : goal.returns-in-None
returns-in-None c = λ known. ap (option_map (λ (m : Member). plainly m.ty)) (c.in-None.ensures known)
