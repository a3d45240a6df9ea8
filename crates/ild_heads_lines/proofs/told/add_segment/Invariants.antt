use Rattle.std.proofs.Common.{◌≡◌, ◌++◌, take}
use Rattle.ild_script.specs.Laws.{segment_text}
use Rattle.ild_heads_lines.proofs.told.add_segment.Given as goal

abbrev pub invariant-loop-byte : goal.invariant-loop-byte
invariant-loop-byte l = l.line.items ≡ l.fn.line.items ++ segment_text (take l.byte-index l.text)
