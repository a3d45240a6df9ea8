use Rattle.ild_typed_splits.proofs.Cutting.{cuts_are_splits, cuts_are_pairs}
use Rattle.ild_typed_splits.proofs.laws.cuts_are_splits.Goals as goal

pub returns : goal.returns
returns c = record { parts = cuts_are_splits; pairs = cuts_are_pairs }
