use Rattle.std.proofs.Common.{List, map, subst}
use Rattle.ild_cbor.specs.Steps.{HasItems}
use Rattle.ild_data.specs.Data as T
use Rattle.ild_data.specs.Data.{Data}
use Rattle.ild_data.proofs.Lists.{items_list-items_of}
use Rattle.ild_typed.specs.Strings.{listpairs, pair_data}
use Rattle.ild_view_entries.proofs.entries.listpairs_entries.Goals as goal

pub returns-in-Some : goal.returns-in-Some
returns-in-Some c = λ rows es stands.
    subst (λ (ds : List Data). HasItems c.in-Some.items (T.items_of ds)) (items_list-items_of (map pair_data es)) (c.in-Some.ensures rows (listpairs es) stands)
