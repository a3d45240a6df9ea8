use Rattle.std.proofs.Common.{Some, None, sym, ◌∙◌, ap}
use Rattle.std.specs.Prelude.{Ok, option_map}
use Rattle.ild_data.specs.Data as T
use Rattle.ild_path_pairs.proofs.Texts.{as_data, told}
use Rattle.ild_path_pairs.proofs.change.with_pair.Goals as goal
use Rattle.ild_path_pairs.specs.Pairs.{borrowed_text}
use Rattle.ild_path_text.specs.Changed.{changed}
use Rattle.ild_typed.specs.Texts.{join_pairs}

pub returns-in-Some : goal.returns-in-Some
returns-in-Some c = λ front behind old placed there was.
    let j = c.args.joined.now in
    told j.inner.now j.entry.now j.text.now c.args.key.now front behind old was c.args.seat.place c.args.seat.there (borrowed_text c.args.new) (Some c.in-Some.change) c.change_pair.result placed there c.in-Some.ensures
    (λ ps h. as_data (join_pairs j.inner.now j.entry.now (changed c.in-Some.change ps)) c.change_pair.result (c.change_pair.ensures ps h))

pub returns-in_ok-text-in-None : goal.returns-in_ok-text-in-None
returns-in_ok-text-in-None c = λ front behind old placed there was.
    let j = c.args.joined.now in
    told j.inner.now j.entry.now j.text.now c.args.key.now front behind old was c.args.seat.place c.args.seat.there (borrowed_text c.args.new) None (Ok (Some c.in_ok-text-in-None.text)) placed there c.in-None.ensures
    (λ ps h. ap (λ t. Some (T.text t)) c.in_ok-text-in-None.ensures ∙ ap (option_map T.text) (sym h))
