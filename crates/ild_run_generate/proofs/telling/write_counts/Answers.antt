use Rattle.ild_run_generate.proofs.Lines.{cut_first, cut_second, cut_third, cut_fourth}
use Rattle.ild_run_generate.proofs.telling.write_counts.Goals as goal

pub returns-in-Err-clause-err : goal.returns-in-Err-clause-err
returns-in-Err-clause-err g c = cut_first c.args.summary.now (g.W.Sink.output c.args.out.now).written (g.W.Sink.output c.write_count.new.out).written c.in-Err.ensures.err

pub returns-in-Err-write_count-clause-err : goal.returns-in-Err-write_count-clause-err
returns-in-Err-write_count-clause-err g c =
    cut_second c.args.summary.now (g.W.Sink.output c.args.out.now).written (g.W.Sink.output c.write_count.new.out).written (g.W.Sink.output c.write_count-2.new.out).written c.in_default.ensures.ok c.in-Err-write_count.ensures.err

pub returns-in-Err-write_count-2-clause-err : goal.returns-in-Err-write_count-2-clause-err
returns-in-Err-write_count-2-clause-err g c =
    cut_third c.args.summary.now (g.W.Sink.output c.args.out.now).written (g.W.Sink.output c.write_count.new.out).written (g.W.Sink.output c.write_count-2.new.out).written (g.W.Sink.output c.write_count-3.new.out).written
    c.in_default.ensures.ok c.in_default-write_count.ensures.ok c.in-Err-write_count-2.ensures.err

pub returns-clause-err : goal.returns-clause-err
returns-clause-err g c =
    cut_fourth c.args.summary.now (g.W.Sink.output c.args.out.now).written (g.W.Sink.output c.write_count.new.out).written (g.W.Sink.output c.write_count-2.new.out).written (g.W.Sink.output c.write_count-3.new.out).written
    (g.W.Sink.output c.write_count-4.new.out).written c.in_default.ensures.ok c.in_default-write_count.ensures.ok c.in_default-write_count-2.ensures.ok c.write_count-4.result c.write_count-4.ensures.err
