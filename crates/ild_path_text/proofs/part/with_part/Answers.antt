use Rattle.std.proofs.Common.{Bor, List, ℕ, option_map}
use Rattle.ild_text.specs.Cut.{cut}
use Rattle.ild_path_text.proofs.Drafts.{part_set, part_stays}
use Rattle.ild_path_text.proofs.part.with_part.Goals as goal

pub returns-in_default : goal.returns-in_default
returns-in_default c = part_stays c.args.delimiter.now (cut c.args.delimiter.now c.args.text.now) c.args.place _ c.args.new.now c.in_ok-rest.ensures.front (rw c.in_default.is at c.in_ok-rest.ensures.back)

pub returns : goal.returns
returns c =
    part_set c.args.delimiter.now (cut c.args.delimiter.now c.args.text.now) c.args.place _ c.first.result.0.now c.args.new.now _ _ _ (option_map {T = Bor (List ℕ)} {U = List ℕ} (λ t. t.now) c.first.result.1) c.requires
    c.in_ok-rest.ensures.front (rw c.in-Some.is at c.in_ok-rest.ensures.back) c.first.ensures c.in_ok-add_part.ensures c.in_ok-add_rest.ensures
