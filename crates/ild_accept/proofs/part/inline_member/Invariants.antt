use Rattle.std.proofs.Common.{◌≡◌, ◌&&◌, not, drop}
use Rattle.ild_schema.specs.Kinds.{meant}
use Rattle.ild_schema.specs.Places.{first_place}
use Rattle.ild_schema.specs.Rules.{is_inline, is_map_struct}
use Rattle.ild_accept.proofs.part.inline_member.Given as goal

abbrev pub invariant-loop-member : goal.invariant-loop-member
invariant-loop-member l = first_place (λ m. is_inline l.def.form && not (is_map_struct (meant l.schema m.ty.0))) (λ x. x.at) (drop l.member-index l.def.members) ≡ first_place (λ m. is_inline l.def.form && not (is_map_struct (meant l.schema m.ty.0))) (λ x. x.at) l.def.members
