use Rattle.std.proofs.Common.{ℕ, List, map, not, ap, ◌∙◌}
use Rattle.std.specs.Borrow.{Bor}
use Rattle.std.specs.List.{list_any}
use Rattle.ild_data.specs.Key.{same_text}
use Rattle.ild_layer_pairs.proofs.Keyed.{texts_known, texts_more}
use Rattle.ild_layer_pairs.proofs.keys.is_new.Goals as goal

pub returns-in-Ok-clause-known : goal.returns-in-Ok-clause-known
returns-in-Ok-clause-known c = c.in-Ok.ensures.added ∙ ap not (texts_known c.args.key c.args.seen.now.keys)

pub returns-in-Ok-clause-more : goal.returns-in-Ok-clause-more
returns-in-Ok-clause-more c = λ q.
    ap (λ (ks : List (Bor (List ℕ))). list_any (same_text q) (map (λ (k : Bor (List ℕ)). k.now) ks)) c.in-Ok.ensures.keys ∙ texts_more q c.args.key c.args.seen.now.keys
