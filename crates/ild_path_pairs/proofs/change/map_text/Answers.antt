use Rattle.std.specs.Prelude.{option_map}
use Rattle.ild_data.specs.Data as T
use Rattle.ild_path_pairs.proofs.Placing.{map_told}
use Rattle.ild_path_pairs.proofs.change.map_text.Goals as goal
use Rattle.ild_path_pairs.specs.Pairs.{borrowed_text}
use Rattle.ild_text.specs.Parts.{pairs_in}

pub returns-in-Some : goal.returns-in-Some
returns-in-Some c = λ es was.
    let j = c.args.joined.now in
    map_told j.inner.now j.entry.now j.text.now c.key_seat.result c.with_pair.result c.args.key.now es (pairs_in c.in-Some.split) (c.in-Some.ensures es was) c.key_seat.ensures.place c.key_seat.ensures.there (option_map T.text (borrowed_text c.args.new)) c.with_pair.ensures was
