-- Where a path stops at a HAMT.
use Rattle.std.specs.Borrow.{Bor}
use Rattle.std.specs.List.{IsFirstAndRest}
use Rattle.std.specs.Option.{MatchOption}
use Rattle.std.proofs.Common.{◌≡◌, ℕ, List, length, Option, Some, None}
use Rattle.ild_data.specs.Data.{Data}
use Rattle.ild_data.specs.declared.hamt_shape.HamtShape.{HamtShape}
use Rattle.ild_node_slots.specs.declared.view.NodeView.{NodeView}
use Rattle.ild_path_inward.specs.Levels.{KeyIs}
use Rattle.ild_path_inward.proofs.Halting.{none_left}
use Rattle.ild_view.specs.Roots.{RootIs}

split_is : (t : Data) (left : List (List ℕ)) (r : Option (Bor (List ℕ) × Bor (List (List ℕ)))) → MatchOption r (length left ≡ 0) (λ p. IsFirstAndRest left p.0.now p.1.now) → KeyIs (Some t) left r
split_is t left None none = none_left left none
split_is t left (Some p) e = e.0

pub key_is : (q : Option HamtShape) (o : Option Data) (left : List (List ℕ)) (r : Option (Bor (List ℕ) × Bor (List (List ℕ)))) (n : NodeView) → RootIs q o (Some n) → MatchOption r (length left ≡ 0) (λ p. IsFirstAndRest left p.0.now p.1.now) → KeyIs o left r
key_is q None left r n root split = absurd root
key_is q (Some t) left r n root split = split_is t left r split
