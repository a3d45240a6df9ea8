use Rattle.std.proofs.Common.{List, ℕ, subst}
use Rattle.ild_data.specs.Data.{Data}
use Rattle.ild_bulk.specs.Build.{HasShortTrie}
use Rattle.ild_hamt_samples.proofs.entries.built.Goals as goal

pub returns-in-Ok : goal.returns-in-Ok
returns-in-Ok g c = subst (λ (es : List (List ℕ × Data)). HasShortTrie g.H.KeyHash.hash_of c.args.shape es c.in-Ok.root) c.in_ok-rows.ensures c.in-Ok.ensures.built.0
