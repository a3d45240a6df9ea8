-- A sink in memory, as contracts see it.
use Rattle.std.specs.Prelude.{ℕ, List, [], ◌++◌, Some, Result, Ok, Err}
use Rattle.ild_edges.specs.Count.{bumped}
use Rattle.ild_edges.specs.Sink.{Output}
use Rattle.ild_edges.specs.declared.error.EdgeErr.{EdgeErr}
use Rattle.ild_edges.specs.declared.error.EdgeErr.TheVariants.{Failed, Memory}
use Rattle.ild_edges.specs.declared.mem_sink.MemSink.{MemSink}

-- The bytes that were written; the numbers of the writes that fail, from 1 on; and the counts.
pub record SinkState : Type 0 where
  pub bytes : List ℕ
  pub fails : List ℕ
  pub writes : ℕ
  pub faults : ℕ

-- what contracts see of a sink in memory
abbrev pub sink_state : MemSink → SinkState
sink_state m = record { bytes = m.bytes.items; fails = m.fails.items; writes = m.writes; faults = m.faults }

-- a sink with nothing written, and every count at 0
abbrev pub new_sink : List ℕ → SinkState
new_sink fails = record { bytes = []; fails = fails; writes = 0; faults = 0 }

abbrev pub output_of : SinkState → Output
output_of m = record { written = Some m.bytes; faults = m.faults }

-- what a write leaves: a failing one appends nothing
abbrev pub after_write : SinkState → List ℕ → Result (Unit {0}) EdgeErr → SinkState
after_write m piece (Ok _) = record m { bytes = m.bytes ++ piece; writes = bumped m.writes }
after_write m piece (Err Failed) = record m { writes = bumped m.writes; faults = bumped m.faults }
after_write m piece (Err Memory) = record m { writes = bumped m.writes }
