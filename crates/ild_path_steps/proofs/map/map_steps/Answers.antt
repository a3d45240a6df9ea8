use Rattle.std.proofs.Common.{sym}
use Rattle.ild_path_steps.proofs.Standing.{entry_leads, pair_leads}
use Rattle.ild_path_steps.proofs.map.map_steps.Goals as goal

pub returns-in-Map-clause-leads : goal.returns-in-Map-clause-leads
returns-in-Map-clause-leads c = λ rows es t x stands made there. entry_leads rows c.args.piece.now es t x c.args.segment.now c.args.form.now (sym c.in-Map.is) made there

pub returns-in-ListPairs-clause-leads : goal.returns-in-ListPairs-clause-leads
returns-in-ListPairs-clause-leads c = λ rows es t x stands made there.
    pair_leads rows c.args.piece.now es t x c.args.segment.now c.args.form.now c.pair_steps.result (sym c.in-ListPairs.is) stands made there (c.pair_steps.ensures rows)
