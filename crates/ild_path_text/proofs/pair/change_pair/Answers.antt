use Rattle.std.proofs.Common.{◌≡◌, Bor, List, ℕ, length, option_map, arith, ◌∙◌}
use Rattle.std.specs.Prelude.{remove}
use Rattle.ild_path_text.specs.Left.{parts_left}
use Rattle.ild_path_text.proofs.Changes.{given, set_done, insert_done, insert_refused, delete_done, remove_length, remove_none}
use Rattle.ild_path_text.proofs.pair.change_pair.Goals.{then-place-count, else-place-count}
use Rattle.ild_path_text.proofs.pair.change_pair.Goals as goal

pub returns-in_ok-out-in-Set : goal.returns-in_ok-out-in-Set
returns-in_ok-out-in-Set c = λ ps is.
    let left = (option_map {T = Bor (List ℕ)} {U = List ℕ} (λ t. t.now) c.entries-left.result) in
    let g = given c.pairs_are_pairs.ensures c.args.inner.now c.args.entry.now c.args.text.now ps left c.requires.inner_some c.requires.entry_some (c.entries-left.ensures c.args.entry.now) is in
    rw c.in-Set.is (
    set_done c.args.inner.now c.args.entry.now _ c.in-Set.new.now c.count_left-count.result c.in-Set.place _ ps left c.requires.inner_some g
    c.in_ok-out-in-Set.ensures c.count_left-count.ensures.counted c.joined_text.ensures
    )

pub returns-then-not-branch : goal.returns-then-not-branch
returns-then-not-branch c = λ ps is.
    let left = (option_map {T = Bor (List ℕ)} {U = List ℕ} (λ t. t.now) c.entries-left.result) in
    let g = given c.pairs_are_pairs.ensures c.args.inner.now c.args.entry.now c.args.text.now ps left c.requires.inner_some c.requires.entry_some (c.entries-left.ensures c.args.entry.now) is in
    rw c.in-Insert.is (
    insert_refused c.args.inner.now c.args.entry.now c.in-Insert.key.now c.in-Insert.new.now c.in-Insert.place ps left g
    (λ v. c.in_ok-ends_at_delimiter-in-Insert.ensures v ∙ c.if-not-branch.true)
    )

pub returns-in_ok-out-in-Insert : goal.returns-in_ok-out-in-Insert
returns-in_ok-out-in-Insert c = λ ps is.
    let left = (option_map {T = Bor (List ℕ)} {U = List ℕ} (λ t. t.now) c.entries-left.result) in
    let g = given c.pairs_are_pairs.ensures c.args.inner.now c.args.entry.now c.args.text.now ps left c.requires.inner_some c.requires.entry_some (c.entries-left.ensures c.args.entry.now) is in
    rw c.in-Insert.is (
    insert_done c.args.inner.now c.args.entry.now _ c.in-Insert.key.now c.in-Insert.new.now c.count_left-count.result c.in-Insert.place _ ps left g
    (λ v. c.in_ok-ends_at_delimiter-in-Insert.ensures v ∙ c.if-not-branch.false)
    c.in_ok-out-in-Insert.ensures c.count_left-count.ensures.counted c.joined_text-in-Insert.ensures
    )

pub returns-after-place-count : goal.returns-after-place-count
returns-after-place-count c = λ ps is.
    let left = (option_map {T = Bor (List ℕ)} {U = List ℕ} (λ t. t.now) c.entries-left.result) in
    let es = parts_left c.args.entry.now left in
    let g = given c.pairs_are_pairs.ensures c.args.inner.now c.args.entry.now c.args.text.now ps left c.requires.inner_some c.requires.entry_some (c.entries-left.ensures c.args.entry.now) is in
    let all = c.count_left-count.ensures.counted in
    let less : length (remove es c.in-Delete.place) ≡ c.if-place-count.fewer =
    elim c.if-place-count.branch [
      | then-place-count w ↦ omega (arith, remove_length es c.in-Delete.place (omega (arith, w.if-place-count.true, all)), all, w.fewer-is)
      | else-place-count w ↦ omega (arith, remove_none es c.in-Delete.place (omega (arith, w.if-place-count.false, all)), all, w.fewer-is)
    ] in
    rw c.in-Delete.is (
    delete_done c.args.inner.now c.args.entry.now _ c.count_left-count.result c.if-place-count.fewer c.in-Delete.place _ ps left g
    c.in_ok-out-in-Delete.ensures all less c.joined_text-in-Delete.ensures
    )
