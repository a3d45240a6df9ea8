use Rattle.ild_run_generate.proofs.Lines.{cut_counts}
use Rattle.ild_run_generate.proofs.telling.write_summary.Goals as goal

pub returns-in_err-write_counts-clause-err : goal.returns-in_err-write_counts-clause-err
returns-in_err-write_counts-clause-err g c =
    cut_counts c.args.summary.now (g.W.Sink.output c.args.out.now).written (g.W.Sink.output c.write_counts.new.out).written c.from_residual.result c.in_err-write_counts.ensures.err
