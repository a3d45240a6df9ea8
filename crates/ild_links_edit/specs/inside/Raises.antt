-- What carrying a new root up through the trees over a store answers.
use Rattle.std.specs.Prelude.{◌≡◌, ℕ, List, Some, Result, Ok, Err}
use Rattle.ild_data.specs.declared.id.BlockId.{BlockId}
use Rattle.ild_edges.specs.Count.{Rose}
use Rattle.ild_edges.specs.Store.{Moment, Later}
use Rattle.ild_links.specs.Carries.{Carries, HasWalk}
use Rattle.ild_links.specs.declared.error.TreeErr.{TreeErr}
use Rattle.ild_links.specs.declared.hop.Hop.{Hop}
use Rattle.ild_links_walk.specs.inside.Refusals.{tree_refusal}
use Rattle.ild_run_links.specs.Moments.{with_lacks}
use Rattle.ild_run_links.specs.Trees.{Setting as Reading, Storable, trees}
use Rattle.ild_script.specs.declared.reply.No.{No}
use Rattle.ild_script.specs.declared.reply.No.TheVariants as N

-- where the store tells what it holds, these are the hops of a walk of the path
abbrev pub WalkIsKnown : Reading → List (List ℕ) → List Hop → Moment → Type 0
WalkIsKnown r path hops m = (held : List (List ℕ)) → m.blocks ≡ Some held → ∥ HasWalk (Storable r) (trees r) held path hops ∥₁

-- the answer, as a line is refused
abbrev pub refused_as : Result BlockId TreeErr → Result BlockId No
refused_as (Ok root) = Ok root
refused_as (Err err) = Err (tree_refusal err)

-- As the trees answer it, which count those that are lacking beside the store.
pub record Raises (r : Reading) (path : List (List ℕ)) (hops : List Hop) (new : List ℕ) (m : Moment) (result : Result BlockId No) (n : Moment) : Type 0 where
  pub later : Later m n
  pub failed : result ≡ Err N.Store → Rose m.faults n.faults
  pub answer : Result BlockId TreeErr
  pub is : result ≡ refused_as answer
  pub before : ℕ
  pub lacks : ℕ
  pub carries : Carries (Storable r) (trees r) (with_lacks m before) path hops new answer (with_lacks n lacks)
