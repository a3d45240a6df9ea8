-- A name stands for one of the types that there are.
use Rattle.std.proofs.Common.{ℕ, suc, ◌+◌, ◌<◌, ◌≤◌, Bool, true, false, cond, List, [], ◌∷◌, Option, Some, None, length, bytes_eq, arith}
use Rattle.std.specs.List.{position_from}
use Rattle.std.specs.Option.{option_or, unwrap_or}
use Rattle.ild_schema.specs.Names.{is_named, number_named}
use Rattle.ild_schema.specs.Prelude.{prelude}
use Rattle.ild_resolve.specs.Events.{Event, declares, begins, types_in}
use Rattle.ild_resolve.specs.Names.{number_declared, number_of}

abbrev IsBelow : ℕ → Option ℕ → Type 0
IsBelow count n = unwrap_or n 0 < count

one_of_both : (count : ℕ) (b : Bool) (m n : Option ℕ) → IsBelow count m → IsBelow count n → IsBelow count (cond b m n)
one_of_both count true m n h k = h
one_of_both count false m n h k = k

first_of_both : (count : ℕ) (m n : Option ℕ) → IsBelow count m → IsBelow count n → IsBelow count (option_or m n)
first_of_both count None n h k = k
first_of_both count (Some m) n h k = h

position_below : {X : Type 0} (t : X → Bool) (count i : ℕ) (xs : List X) → i + length xs ≤ count → 0 < count → IsBelow count (position_from t i xs)
position_below t count i [] h some = some
position_below t count i (x ∷ xs) h some =
    one_of_both count (t x) (Some i) (position_from t (i + 1) xs) (omega arith) (position_below t count (i + 1) xs (omega arith) some)

declared_below : (name : List ℕ) (count n : ℕ) (es : List Event) → n + types_in es ≤ count → 0 < count → IsBelow count (number_declared name n es)
declared_below name count n [] h some = some
declared_below name count n (declares t ∷ es) h some =
    one_of_both count (bytes_eq name t.name) (Some n) (number_declared name (suc n) es) (omega arith) (declared_below name count (suc n) es (omega arith) some)
declared_below name count n (begins at ∷ es) h some = declared_below name count (suc n) es (omega arith) some
declared_below name count n (e ∷ es) h some = declared_below name count n es h some

pub number_below : (es : List Event) (count : ℕ) → 8 + types_in es ≤ count → (name : List ℕ) → unwrap_or (number_of name es) 0 < count
number_below es count h name =
    first_of_both count (number_named name prelude) (number_declared name 8 es) (position_below (is_named name) count 0 prelude (omega arith) (omega arith)) (declared_below name count 8 es h (omega arith))
