use Rattle.std.proofs.Common.{◌∙◌, ap}
use Rattle.std.specs.Prelude.{option_and_then}
use Rattle.ild_path_rules.specs.Form.{left_out}
use Rattle.ild_path_rules.proofs.insert.field_left_out.Goals as goal

pub returns-in-Some : goal.returns-in-Some
returns-in-Some c = λ known. c.slot_if.ensures ∙ ap (option_and_then (left_out c.args.there)) (c.in-Some.ensures known)

pub returns-in-None : goal.returns-in-None
returns-in-None c = λ known. ap (option_and_then (left_out c.args.there)) (c.in-None.ensures known)
