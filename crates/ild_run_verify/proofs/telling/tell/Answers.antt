use Rattle.ild_inclusion.specs.declared.answer.Answer.TheVariants as A
use Rattle.ild_run_verify.specs.Line.{absent}
use Rattle.ild_run_verify.proofs.Lines.{tells_line}
use Rattle.ild_run_verify.proofs.telling.tell.Goals as goal

pub returns-in-Here : goal.returns-in-Here
returns-in-Here g c = rw c.in-Here.is c.tell_part.ensures

pub returns-in-Absent : goal.returns-in-Absent
returns-in-Absent g c = rw c.in-Absent.is (tells_line (A.Absent c.in-Absent.field-0) absent (g.W.Sink.output c.args.out.now) c.write_text.result (g.W.Sink.output c.write_text.new.out) tt c.write_text.ensures)
