use Rattle.ild_schema.specs.Indexed.{labels}
use Rattle.ild_schema.proofs.Finding.{Upto}
use Rattle.ild_schema.proofs.by_text.in_key_order.Given as goal

abbrev pub invariant-loop-part : goal.invariant-loop-part
invariant-loop-part l = Upto (labels l.label l.def) l.part l.numbers.items
