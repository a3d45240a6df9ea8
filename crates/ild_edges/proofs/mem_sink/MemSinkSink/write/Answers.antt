use Rattle.std.proofs.Common.{Some, ap, arith}
use Rattle.ild_edges.proofs.Written.{writes_none}
use Rattle.ild_edges.proofs.mem_sink.MemSinkSink.write.Goals as goal

pub returns-in_err-extend_from_slice-clause-writes : goal.returns-in_err-extend_from_slice-clause-writes
returns-in_err-extend_from_slice-clause-writes c = writes_none _ _ c.args.piece.now c.from_residual.result c.from_residual.ensures.1 (ap Some c.in_err-extend_from_slice.ensures.items) (omega arith)
