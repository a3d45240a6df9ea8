-- What is left behind a token is a part of what was left.
use Rattle.std.proofs.Common.{List, [], ◌∷◌, drop}
use Rattle.std.specs.List.{AllByRecursion}

-- what is true of all is true of what stands behind the first
pub AllByRecursion-tail : {X : Type 0} (P : X → Type 0) (xs : List X) → AllByRecursion P xs → AllByRecursion P (drop 1 xs)
AllByRecursion-tail P [] h = tt
AllByRecursion-tail P (x ∷ xs) h = h.1
