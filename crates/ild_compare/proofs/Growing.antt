-- The list of the places that a walk has met, as it grows.
use Rattle.std.proofs.Common.{◌≡◌, ℕ, zero, suc, ◌+◌, ◌<◌, List, [], ◌∷◌, ◌++◌, length, map, get_or, Some, sym, ap, ◌∙◌, subst, arith}
use Rattle.std.specs.Prelude.{Contains, slice_get}
use Rattle.std.specs.List.{AllByRecursion}
use Rattle.std.proofs.lemmas.List.{append-nil, append_assoc}
use Rattle.std.proofs.lemmas.List.Elements.{Contains-append_left, Contains-append_right}
use Rattle.std.proofs.lemmas.Option.{none-some, same_Some}
use Rattle.ild_data.proofs.AllOf.{contains_first, all_append}
use Rattle.ild_beneath.specs.Children.{Child}
use Rattle.ild_dirty.specs.Beneath.{child_seen}
use Rattle.ild_dirty.specs.declared.beneath.Child.{Child as Spot}
use Rattle.ild_typed.proofs.Rooms.{all_more}
use Rattle.ild_compare.specs.inside.Spots.{Grows}

-- what was there is there
pub still_contains : (old more : List Child) (c : Child) → Contains old c → Contains (old ++ more) c
still_contains old more c has = Contains-append_left old more c has

pub still_all : (old more cs : List Child) → AllByRecursion (Contains old) cs → AllByRecursion (Contains (old ++ more)) cs
still_all old more cs all = all_more (Contains old) (Contains (old ++ more)) (λ c has. still_contains old more c has) cs all

pub grows_none : (old : List Child) → Grows [] old old
grows_none old = record { more = []; is = sym (append-nil old); among = tt; all = tt }

-- one that is there already, and one that isn't
pub grows_there : (old : List Child) (c : Child) → Contains old c → Grows (c ∷ []) old old
grows_there old c has = record { more = []; is = sym (append-nil old); among = tt; all = (has, tt) }

pub grows_new : (old new : List Child) (c : Child) → new ≡ old ++ c ∷ [] → Grows (c ∷ []) old new
grows_new old new c is = record {
  more = c ∷ [];
  is = is;
  among = (contains_first c [], tt);
  all = (subst (λ xs. Contains xs c) (sym is) (Contains-append_right old (c ∷ []) c (contains_first c [])), tt);
}

-- one after another
pub grows_then : (cs ds old mid new : List Child) → Grows cs old mid → Grows ds mid new → Grows (cs ++ ds) old new
grows_then cs ds old mid new a b = record {
  more = a.more ++ b.more;
  is = b.is ∙ ap (λ xs. xs ++ b.more) a.is ∙ append_assoc old a.more b.more;
  among = all_append (Contains (cs ++ ds)) a.more b.more
      (all_more (Contains cs) (Contains (cs ++ ds)) (λ c has. Contains-append_left cs ds c has) a.more a.among)
      (all_more (Contains ds) (Contains (cs ++ ds)) (λ c has. Contains-append_right cs ds c has) b.more b.among);
  all = all_append (Contains new) cs ds (subst (λ xs. AllByRecursion (Contains xs) cs) (sym b.is) (still_all mid b.more cs a.all)) b.all;
}

-- what a look-up in a list of places found
pub contains_got : (xs : List Spot) (i : ℕ) (x y : Spot) → Some x ≡ slice_get xs i → child_seen x ≡ child_seen y → Contains (map child_seen xs) (child_seen y)
contains_got [] i x y e same = absurd (none-some x (sym e))
contains_got (z ∷ zs) zero x y e same = (zero, omega arith, ap child_seen (sym (same_Some x z e)) ∙ same)
contains_got (z ∷ zs) (suc i) x y e same = Contains-append_right (child_seen z ∷ []) (map child_seen zs) (child_seen y) (contains_got zs i x y e same)

-- what stands at a place of it
pub seen_at : (xs : List Spot) (i : ℕ) (x : Spot) → i < length xs → x ≡ get_or xs i x → (i < length (map child_seen xs)) × (child_seen x ≡ get_or (map child_seen xs) i (child_seen x))
seen_at [] i x lt e = absurd (omega (arith, lt))
seen_at (z ∷ zs) zero x lt e = (omega arith, ap child_seen e)
seen_at (z ∷ zs) (suc i) x lt e = let y = seen_at zs i x (omega (arith, lt)) e in (let less = y.0 in omega (arith, less), y.1)
