-- The places of a whole value.
use Rattle.std.proofs.Common.{◌⊎◌, inl, inr, ⊎_elim, ℕ, List, [], ◌++◌, sym, subst}
use Rattle.std.specs.Prelude.{Contains}
use Rattle.std.specs.List.{AllByRecursion}
use Rattle.std.proofs.lemmas.List.Elements.{Contains-append_left, Contains-append_right}
use Rattle.ild_data.proofs.AllOf.{all_append, contains_more}
use Rattle.ild_data.specs.Spell.{spell, id_of}
use Rattle.ild_schema.specs.Slots.{plainly}
use Rattle.ild_typed.proofs.Rooms.{all_more}
use Rattle.ild_typed_places.specs.Places.{Place, Places, nowhere, place, joined, each_place, leaves, places_in}
use Rattle.ild_typed_places.proofs.Linked.{each_joined}
use Rattle.ild_typed_places.proofs.Listing.{all_one}
use Rattle.ild_path_passed.specs.Laws.{ValuesPass}
use Rattle.ild_path_passed.proofs.Joined.{both_each}

module _ (given : List (List ℕ)) (b : List ℕ) (ps ls : Places) where
  abbrev Was : Places
  Was = place b (joined ps ls) nowhere

  abbrev IsPassed : Place → Type 0
  IsPassed x = Contains given (id_of x.0) ⊎ Contains (each_place Was) x

  beneath : (x : Place) → Contains (each_place (joined ps ls)) x → Contains (each_place Was) x
  beneath x here = contains_more (b, joined ps ls) (each_place (joined ps ls) ++ []) x (Contains-append_left (each_place (joined ps ls)) [] x here)

  in_value : (x : Place) → Contains (each_place ps) x → Contains (each_place Was) x
  in_value x here = beneath x (subst (λ (xs : List Place). Contains xs x) (sym (each_joined ps ls)) (Contains-append_left (each_place ps) (each_place ls) x here))

  beside : (x : Place) → Contains (each_place ls) x → Contains (each_place Was) x
  beside x here = beneath x (subst (λ (xs : List Place). Contains xs x) (sym (each_joined ps ls)) (Contains-append_right (each_place ps) (each_place ls) x here))

  pub whole_passed : (c : List ℕ) (qs : Places) → Contains given (id_of c) → AllByRecursion (λ x. Contains given (id_of x.0) ⊎ Contains (each_place ps) x) (each_place qs)
      → AllByRecursion (λ x. Contains given (id_of x.0) ⊎ Contains (each_place Was) x) (each_place (place c (joined qs ls) nowhere))
  whole_passed c qs root all = (
    inl root,
    all_append IsPassed (each_place (joined qs ls)) []
        (both_each IsPassed qs ls
        (all_more (λ x. Contains given (id_of x.0) ⊎ Contains (each_place ps) x) IsPassed (λ x. ⊎_elim (λ y. inl y) (λ y. inr (in_value x y))) (each_place qs) all)
        (all_more (Contains (each_place ls)) IsPassed (λ x here. inr (beside x here)) (each_place ls) (all_one (each_place ls)))) tt,
  )

pub values_are_passed : ValuesPass
values_are_passed = λ f h rows n v c t u given root all.
    whole_passed given (spell (f.wrap t)) (places_in h rows (plainly n) v) (leaves f.beside) (spell (f.wrap u)) (places_in h rows (plainly n) c) root all
