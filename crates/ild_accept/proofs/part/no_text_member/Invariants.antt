use Rattle.std.proofs.Common.{◌≡◌, ◌&&◌, not, drop}
use Rattle.ild_schema.specs.Kinds.{has_text_form}
use Rattle.ild_schema.specs.Places.{first_place}
use Rattle.ild_schema.specs.Rules.{is_text_union}
use Rattle.ild_accept.proofs.part.no_text_member.Given as goal

abbrev pub invariant-loop-member : goal.invariant-loop-member
invariant-loop-member l = first_place (λ m. is_text_union l.def.form && not (has_text_form l.schema m.ty.0)) (λ x. x.at) (drop l.member-index l.def.members) ≡ first_place (λ m. is_text_union l.def.form && not (has_text_form l.schema m.ty.0)) (λ x. x.at) l.def.members
