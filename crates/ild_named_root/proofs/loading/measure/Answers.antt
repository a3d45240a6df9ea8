use Rattle.std.proofs.Common.{sym, subst}
use Rattle.std.specs.Prelude.{Err}
use Rattle.ild_named_root.specs.declared.fault.NameFault.{NameFault}
use Rattle.ild_named_root.specs.inside.Loading.{Measures}
use Rattle.ild_named_root.proofs.Reading.{measure_answer}
use Rattle.ild_named_root.proofs.loading.measure.Goals as goal

pub returns-in-Err-clause-measures : goal.returns-in-Err-clause-measures
returns-in-Err-clause-measures c = λ t block.
    subst (λ (e : NameFault). Measures c.args.acc.now c.args.ty t (Err e)) (sym c.measured.ensures)
    (measure_answer c.args.acc.now c.recall.ensures.legible c.args.ty t c.in-Err.fault (c.in-Err.ensures.checks t (c.known_root.ensures t block).stands))
