use Rattle.std.proofs.Common.{Bor, List, ℕ, option_map}
use Rattle.ild_path_text.proofs.Changes.{value_placed, value_there, value_stays}
use Rattle.ild_path_text.proofs.pair.with_value.Goals as goal

pub returns-in_default : goal.returns-in_default
returns-in_default c = λ ps same all. value_stays c.args.inner.now c.args.entry.now c.args.new.now ps c.args.place _ (option_map {T = Bor (List ℕ)} {U = List ℕ} (λ t. t.now) c.args.left) same c.in_ok-rest.ensures.front (rw c.in_default.is at c.in_ok-rest.ensures.back)

pub returns-in_default-halves : goal.returns-in_default-halves
returns-in_default-halves c = λ ps same all.
    absurd (value_there c.args.inner.now c.args.entry.now ps c.args.place c.first.result.0.now (option_map {T = Bor (List ℕ)} {U = List ℕ} (λ t. t.now) c.args.left) _ (option_map {T = Bor (List ℕ)} {U = List ℕ} (λ t. t.now) c.first.result.1) c.requires.inner_some same all
    (rw c.in-Some.is at c.in_ok-rest.ensures.back) c.first.ensures (rw c.in_default-halves.is at c.halves.ensures))

pub returns : goal.returns
returns c = λ ps same all.
    value_placed c.args.inner.now c.args.entry.now c.args.new.now c.in-Some-halves.key.now _ ps c.args.place _ c.first.result.0.now _ _ (option_map {T = Bor (List ℕ)} {U = List ℕ} (λ t. t.now) c.args.left) _ (option_map {T = Bor (List ℕ)} {U = List ℕ} (λ t. t.now) c.first.result.1) c.requires.inner_some c.requires.entry_some same all
    c.in_ok-rest.ensures.front (rw c.in-Some.is at c.in_ok-rest.ensures.back) c.first.ensures c.in-Some-halves.ensures c.in_ok-add_pair.ensures c.in_ok-add_rest.ensures
