use Rattle.std.proofs.Common.{Some, None, refl}
use Rattle.ild_data.specs.Seen.{data_of}
use Rattle.ild_data.specs.Spell.{spell}
use Rattle.ild_inclusion.specs.declared.answer.Answer.TheVariants as A
use Rattle.ild_run_verify.specs.Line.{part}
use Rattle.ild_run_verify.proofs.Lines.{tells_line}
use Rattle.ild_run_verify.proofs.telling.tell_part.Goals as goal

pub returns-in-Ok : goal.returns-in-Ok
returns-in-Ok g c =
    let d = data_of c.args.tree.now in
    tells_line (A.Here (spell d)) (part (Some c.in-Ok.json)) (g.W.Sink.output c.args.out.now) c.write_line.result (g.W.Sink.output c.write_line.new.out)
    (record { tree = d; is = c.well_formed-2.ensures; spelled = refl; printed = c.in-Ok.ensures.ok }) c.write_line.ensures

pub returns-in-Err-Reserved : goal.returns-in-Err-Reserved
returns-in-Err-Reserved g c =
    let d = data_of c.args.tree.now in
    tells_line (A.Here (spell d)) (part None) (g.W.Sink.output c.args.out.now) c.write_line-in-Err-Reserved.result (g.W.Sink.output c.write_line-in-Err-Reserved.new.out)
    (record { tree = d; is = c.well_formed-2.ensures; spelled = refl; printed = c.in-Err-Reserved.ensures.reserved c.in-Err-Reserved.field-0-is }) c.write_line-in-Err-Reserved.ensures
