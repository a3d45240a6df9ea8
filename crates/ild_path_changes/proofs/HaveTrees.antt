-- The representation of a value of a type is a tree.
use Rattle.std.proofs.Common.{◌≡◌, List, Some, subst}
use Rattle.ild_data.specs.Data.{Data}
use Rattle.ild_data.specs.Tree.{IsTree}
use Rattle.ild_schema.specs.declared.number.Slot.{Slot}
use Rattle.ild_schema.specs.declared.row.Row.{Row}
use Rattle.ild_schema.specs.Value.{Value}
use Rattle.ild_typed.specs.Composed.{Hamts}
use Rattle.ild_typed.specs.Represented.{represented}
use Rattle.ild_schema.specs.Spelled.{IsSpelled}
use Rattle.ild_typed.proofs.TreeValues.{alone_tree, whole_tree}
use Rattle.ild_typed.specs.OfType.{OfType}
use Rattle.ild_path_changes.specs.LiftLaws.{AreHamts, of_fronts, of_values}

abbrev pub HasTrees : Hamts → List Row → Type 0
HasTrees hamts rows = (slot : Slot) (v : Value) (t : Data) → OfType rows slot v → represented hamts rows slot v ≡ Some t → IsTree t

pub has_trees : (hamts : Hamts) (rows : List Row) → AreHamts hamts → IsSpelled rows → HasTrees hamts rows
has_trees hamts rows (of_fronts is) spelled slot v t typed e = (alone_tree rows spelled typed.0 slot v t typed.1 (subst (λ a. represented a rows slot v ≡ Some t) is e)).tree
has_trees hamts rows (of_values h is) spelled slot v t typed e = (whole_tree h rows spelled typed.0 slot v t typed.1 (subst (λ a. represented a rows slot v ≡ Some t) is e)).tree
