use Rattle.std.proofs.Common.{sym, ◌∙◌, ap, ◌++◌}
use Rattle.ild_path_pairs.specs.Pairs.{borrowed_text, text_pair_if}
use Rattle.ild_path_pairs.proofs.Texts.{becomes, comes, goes, stays}
use Rattle.ild_path_pairs.proofs.change.pair_change.Goals as goal

pub returns-in-true-None : goal.returns-in-true-None
returns-in-true-None c = λ front behind old placed there.
    goes c.args.seat.place c.args.key.now front behind placed old (sym c.in-true-None.is-0 ∙ there) ∙ ap (λ o. front ++ (text_pair_if c.args.key.now (borrowed_text o) ++ behind)) (sym c.in-true-None.is-1)

pub returns-in-true-Some : goal.returns-in-true-Some
returns-in-true-Some c = λ front behind old placed there.
    becomes c.args.seat.place c.args.key.now front behind placed c.in-true-Some.new.now old (sym c.in-true-Some.is-0 ∙ there) ∙ ap (λ o. front ++ (text_pair_if c.args.key.now (borrowed_text o) ++ behind)) (sym c.in-true-Some.is-1)

pub returns-in-false-Some : goal.returns-in-false-Some
returns-in-false-Some c = λ front behind old placed there.
    comes c.args.seat.place c.args.key.now front behind placed c.in-false-Some.new.now old (sym c.in-false-Some.is-0 ∙ there) ∙ ap (λ o. front ++ (text_pair_if c.args.key.now (borrowed_text o) ++ behind)) (sym c.in-false-Some.is-1)

pub returns-in-false-None : goal.returns-in-false-None
returns-in-false-None c = λ front behind old placed there.
    stays c.args.seat.place c.args.key.now front behind placed old (sym c.in-false-None.is-0 ∙ there) ∙ ap (λ o. front ++ (text_pair_if c.args.key.now (borrowed_text o) ++ behind)) (sym c.in-false-None.is-1)
