-- The places that a walk has met: ids with the kinds of their places, each once.
use Rattle.std.specs.Prelude.{◌≡◌, List, ◌++◌, Contains}
use Rattle.std.specs.List.{AllByRecursion}
use Rattle.ild_beneath.specs.Children.{Child}

-- places came behind those that were, and all of these children are among them
pub record Grows (children old new : List Child) : Type 0 where
  pub more : List Child
  pub is : new ≡ old ++ more
  pub among : AllByRecursion (Contains children) more
  pub all : AllByRecursion (Contains new) children
