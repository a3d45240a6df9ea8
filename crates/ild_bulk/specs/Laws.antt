-- Laws of the blocks that a build puts.
use Rattle.std.specs.Prelude.{◌≡◌, ℕ, Bool, List, [], length}
use Rattle.std.specs.List.{list_all}
use Rattle.ild_data.specs.Data.{Data}
use Rattle.ild_data.specs.declared.hamt_shape.HamtShape.{HamtShape}
use Rattle.ild_data.specs.TrieBlocks.{nodes_beneath}
use Rattle.ild_bulk.specs.Planned.{planned}
use Rattle.ild_bulk.specs.Children.{Follows}

-- the blocks in the order of the plan are those of the nodes beneath: as many, and what holds of all of the ones holds of all of the others
pub record SameBlocks (h : List ℕ → List ℕ) (p : HamtShape) (left depth : ℕ) (es : List (List ℕ × Data)) : Type 0 where
  pub many : length (planned h p left depth es) ≡ length (nodes_beneath h p left depth es)
  pub all : (q : List ℕ → Bool) → list_all q (planned h p left depth es) ≡ list_all q (nodes_beneath h p left depth es)

abbrev pub PlanIsOfNodes : Type 0
PlanIsOfNodes = (h : List ℕ → List ℕ) (p : HamtShape) (left depth : ℕ) (es : List (List ℕ × Data)) → SameBlocks h p left depth es

-- in the order of the plan each block stands behind its children
abbrev pub ChildrenFirst : Type 0
ChildrenFirst = (h : List ℕ → List ℕ) (p : HamtShape) (left depth : ℕ) (es : List (List ℕ × Data)) → Follows [] (planned h p left depth es)
