use Rattle.std.proofs.Common.{Bor, List, ℕ, option_map}
use Rattle.ild_path_text.specs.Left.{parts_left}
use Rattle.ild_path_text.proofs.Drafts.{part_goes, none_goes}
use Rattle.ild_path_text.proofs.pair.without_pair.Goals as goal

pub returns-in_default : goal.returns-in_default
returns-in_default c = none_goes c.args.entry.now (parts_left c.args.entry.now (option_map {T = Bor (List ℕ)} {U = List ℕ} (λ t. t.now) c.args.left)) c.args.place _ c.in_ok-rest.ensures.front (rw c.in_default.is at c.in_ok-rest.ensures.back)

pub returns : goal.returns
returns c =
    part_goes c.args.entry.now (parts_left c.args.entry.now (option_map {T = Bor (List ℕ)} {U = List ℕ} (λ t. t.now) c.args.left)) c.args.place _ c.first.result.0.now _ _ (option_map {T = Bor (List ℕ)} {U = List ℕ} (λ t. t.now) c.first.result.1) c.requires
    c.in_ok-rest.ensures.front (rw c.in-Some.is at c.in_ok-rest.ensures.back) c.first.ensures c.in_ok-add_rest.ensures
