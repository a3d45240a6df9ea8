use Rattle.std.proofs.Common.{[]}
use Rattle.ild_path_last.proofs.Comings.{none_written, written_new}
use Rattle.ild_path_last.proofs.new.is_written.Goals as goal

pub returns-in-Some : goal.returns-in-Some
returns-in-Some c = λ d h. written_new c.args.field.now _ c.in-Some.node d c.is_implicit.result c.in-Some.is h (c.is_implicit.ensures [])

pub returns-in-None : goal.returns-in-None
returns-in-None c = λ d h. none_written c.args.field.now _ d c.in-None.is h
