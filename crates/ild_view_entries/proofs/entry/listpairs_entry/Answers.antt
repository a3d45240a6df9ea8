use Rattle.std.proofs.Common.{List, map, subst}
use Rattle.ild_cbor.specs.Steps.{HasItems}
use Rattle.ild_data.specs.Data as T
use Rattle.ild_data.specs.Data.{Data}
use Rattle.ild_data.specs.Key.{value_at}
use Rattle.ild_data.proofs.Lists.{items_list-items_of}
use Rattle.ild_typed.specs.Strings.{listpairs, pair_data}
use Rattle.ild_view_entries.proofs.entry.listpairs_entry.Goals as goal

pub returns-in-Some-clause-found : goal.returns-in-Some-clause-found
returns-in-Some-clause-found c = λ rows es stands.
    let left = subst (λ (ds : List Data). HasItems c.in-Some.items (T.items_of ds)) (items_list-items_of (map pair_data es)) (c.in-Some.ensures rows (listpairs es) stands) in
    c.piece_of.ensures.found rows (value_at c.args.key.now es) (c.pair_value.ensures es left)
