use Rattle.std.proofs.Common.{◌∙◌, sym, true, false}
use Rattle.ild_schema.specs.Value.{optionals_list}
use Rattle.ild_schema.specs.ValueSeen.{value_of}
use Rattle.ild_build_leaf.proofs.Turns.{kept_or_not, no_kept}
use Rattle.ild_build_leaf.proofs.order.kept_at.Goals as goal

pub returns-in_default : goal.returns-in_default
returns-in_default c = sym (no_kept c.args.field.now (optionals_list c.args.vals.now) c.args.place (sym c.in_default.ensures))

pub returns-then-is_left_out : goal.returns-then-is_left_out
returns-then-is_left_out c =
    sym (kept_or_not c.args.field.now (optionals_list c.args.vals.now) c.args.place (value_of c.in-Some.val.now) true (sym c.in-Some.ensures) (sym c.is_left_out.ensures ∙ c.if-is_left_out.true))

pub returns-else-is_left_out : goal.returns-else-is_left_out
returns-else-is_left_out c =
    sym (kept_or_not c.args.field.now (optionals_list c.args.vals.now) c.args.place (value_of c.in-Some.val.now) false (sym c.in-Some.ensures) (sym c.is_left_out.ensures ∙ c.if-is_left_out.false))
