use Rattle.std.proofs.Common.{Bor, List, ℕ, option_map}
use Rattle.ild_path_text.proofs.Changes.{pair_placed}
use Rattle.ild_path_text.proofs.pair.with_pair.Goals as goal

pub returns : goal.returns
returns c = λ ps same.
    pair_placed c.args.inner.now c.args.entry.now c.args.key.now c.args.new.now ps c.args.place c.before-2.result _ _ _ (option_map {T = Bor (List ℕ)} {U = List ℕ} (λ t. t.now) c.args.left) (option_map {T = Bor (List ℕ)} {U = List ℕ} (λ t. t.now) c.in_ok-rest.rest) c.requires same
    c.in_ok-rest.ensures.front c.in_ok-rest.ensures.back (c.before-2.ensures c.args.entry.now) c.in_ok-add_pair.ensures c.in_ok-add_rest.ensures
