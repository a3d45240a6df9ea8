use Rattle.std.proofs.Common.{sym, ◌∙◌, ap}
use Rattle.ild_data.specs.Key.{value_at}
use Rattle.ild_path_changes.specs.Pairs.{at_pair}
use Rattle.ild_typed.specs.Strings.{listpairs}
use Rattle.ild_path_steps.proofs.Pairing.{pairs_in}
use Rattle.ild_path_last.proofs.seat.key_pair_change.Goals as goal

pub returns-in-Some : goal.returns-in-Some
returns-in-Some c = λ rows es d x u stands after shown.
    let seat = c.key_seat-seat.ensures es (pairs_in es c.in-Some.items (c.in-Some.ensures rows (listpairs es) stands)) in
    ap (λ n. at_pair n c.args.key.now (value_at c.args.key.now es) d) (sym seat.place_is) ∙ c.pair_change.ensures _ d x u seat.there_is after shown
