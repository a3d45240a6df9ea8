-- A path has one walk, since one value stands under an id.
use Rattle.std.proofs.Common.{ℕ, List, arith}
use Rattle.ild_edges.specs.Store.{block_at}
use Rattle.ild_links.proofs.OneWalk.{one_walk}
use Rattle.ild_links.specs.Laws.{OneStands}
use Rattle.ild_links.specs.Trees.{first_tree}
use Rattle.ild_links.specs.declared.following.TheConstants.{MOST_LINKS}
use Rattle.ild_links_lines.specs.Laws.{WalksAreOne}
use Rattle.ild_links_lines.specs.Lines.{trees_from}
use Rattle.ild_run_links.proofs.Standing.{stands_under}
use Rattle.ild_run_links.specs.Trees.{Setting as Reading, Storable, trees}
use Rattle.ild_typed.proofs.TreeKept.{one_stands}
use Rattle.ild_typed.specs.Schema.{IsSchema}
use Rattle.ild_typed.specs.Stands.{IsFrame, bare}

bare_frame : IsFrame bare
bare_frame = record { less = omega arith; apart = λ c d same. same; fits = λ d tree. tree; blocks = tt }

one_value : (r : Reading) (held : List (List ℕ)) → IsSchema r.rows → OneStands (Storable r) (trees r) held
one_value r held schema = λ t v w left right. one_stands bare bare_frame (block_at held) r.hash r.rows schema t.ty t.id v w (stands_under r held t v left) (stands_under r held t w right)

pub walks_are_one : WalksAreOne
walks_are_one = λ w schema held v path x y left right.
    one_walk (Storable (trees_from w v)) (trees (trees_from w v)) held path (one_value (trees_from w v) held schema) MOST_LINKS (first_tree (trees (trees_from w v))) v 0 x y left right
