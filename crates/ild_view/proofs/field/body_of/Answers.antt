use Rattle.ild_view.proofs.Implying.{held_there, implicit_embodied, implicit_left, null_there}
use Rattle.ild_view.proofs.field.body_of.Goals as goal

pub returns-in-Some-clause-embodies : goal.returns-in-Some-clause-embodies
returns-in-Some-clause-embodies c = λ rows o is. implicit_embodied rows c.args.field.now o c.args.part _ c.in-Implicit.is c.in-Some.is is

pub returns-in-Some-clause-left_out : goal.returns-in-Some-clause-left_out
returns-in-Some-clause-left_out c = λ rows d is. implicit_left rows c.args.field.now d c.args.part c.in-Implicit.is is

pub returns-in-Null-clause-left_out : goal.returns-in-Null-clause-left_out
returns-in-Null-clause-left_out c = λ rows d is. null_there rows c.args.field.now d c.args.part _ c.in-Null.is is

pub returns-in-Held-clause-left_out : goal.returns-in-Held-clause-left_out
returns-in-Held-clause-left_out c = λ rows d is. held_there rows c.args.field.now d c.args.part _ c.in-Held.is is
