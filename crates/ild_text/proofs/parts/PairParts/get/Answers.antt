use Rattle.std.proofs.Common.{◌∙◌}
use Rattle.ild_text.proofs.Keyed.{pair_there, no_pair_there}
use Rattle.ild_text.proofs.parts.PairParts.get.Goals as goal

pub returns-in_err-part_at : goal.returns-in_err-part_at
returns-in_err-part_at c =
    let s = c.args.self.now in
    rw c.from_residual.ensures (no_pair_there s.inner.now s.entry.now s.text.now c.args.i c.in_err-part_at.ensures)

pub returns : goal.returns
returns c =
    let s = c.args.self.now in
    c.halves.ensures ∙ pair_there s.inner.now s.entry.now s.text.now _ c.args.i s.inner_some s.keyed c.in_ok-part_at.ensures
