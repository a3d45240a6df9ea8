-- Orders that are known by a test, and numbers at places of a list.
use Rattle.std.proofs.Common.{◌≡◌, ℕ, zero, suc, ◌+◌, ◌<◌, List, [], ◌∷◌, length, take, get_or, true, refl, arith, add-one}
use Rattle.std.specs.List.{AllByRecursion}
use Rattle.std.specs.Ordering.{is_lt}
use Rattle.std.specs.declared.cmp.Ordering.{Ordering}
use Rattle.std.specs.declared.cmp.Ordering.TheVariants.{Less, Equal, Greater}

pub less_is : (o : Ordering) → is_lt o ≡ true → o ≡ Less
less_is Less h = refl
less_is Equal h = absurd cc
less_is Greater h = absurd cc

all_next : (P : ℕ → Type 0) (ns : List ℕ) (i : ℕ) → i < length ns → P (get_or ns i 0) → AllByRecursion P (take i ns) → AllByRecursion P (take (suc i) ns)
all_next P [] i low here all = absurd (omega (arith, low))
all_next P (n ∷ ns) zero low here all = (here, tt)
all_next P (n ∷ ns) (suc i) low here all = (all.0, all_next P ns i (omega (arith, low)) here all.1)

pub all_more : (P : ℕ → Type 0) (ns : List ℕ) (i : ℕ) → i < length ns → P (get_or ns i 0) → AllByRecursion P (take i ns) → AllByRecursion P (take (i + 1) ns)
all_more P ns i low here all = rw add-one (all_next P ns i low here all)
