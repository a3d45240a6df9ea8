-- Places of which each is so.
use Rattle.std.proofs.Common.{◌≡◌, ℕ, List, [], ◌∷◌, Option, Some, None, refl, sym, subst}
use Rattle.std.specs.Prelude.{Contains}
use Rattle.std.specs.List.{AllByRecursion}
use Rattle.ild_data.proofs.AllOf.{all_append, all_split, all_contained}
use Rattle.ild_data.specs.Data.{Data}
use Rattle.ild_data.specs.Spell.{spell}
use Rattle.ild_typed.proofs.Rooms.{all_more}
use Rattle.ild_typed_places.specs.Parts.{LieIn}
use Rattle.ild_typed_places.specs.Places.{Place, Places, joined, places_over, each_place, node_place, down_from}
use Rattle.ild_typed_places.proofs.Joining.{All, down_each}
use Rattle.ild_typed_places.proofs.Linked.{each_joined}
use Rattle.ild_typed_places.proofs.Listing.{all_one}

module _ (Q : Place → Type 0) where
  abbrev pub Each : Places → Type 0
  Each ps = AllByRecursion Q (each_place ps)

  pub both_each : (ps qs : Places) → Each ps → Each qs → Each (joined ps qs)
  both_each ps qs a b = subst (AllByRecursion Q) (sym (each_joined ps qs)) (all_append Q (each_place ps) (each_place qs) a b)

  pub each_both : (ps qs : Places) → Each (joined ps qs) → Each ps × Each qs
  each_both ps qs all = all_split Q (each_place ps) (each_place qs) (subst (AllByRecursion Q) (each_joined ps qs) all)

  pub over_each : {X : Type 0} (f : X → Places) (xs : List X) → AllByRecursion (λ x. Each (f x)) xs → Each (places_over f xs)
  over_each f [] all = tt
  over_each f (x ∷ xs) all = both_each (f x) (places_over f xs) all.0 (over_each f xs all.1)

  pub each_over : {X : Type 0} (f : X → Places) (xs : List X) → Each (places_over f xs) → AllByRecursion (λ x. Each (f x)) xs
  each_over f [] all = tt
  each_over f (x ∷ xs) all = let parts = each_both (f x) (places_over f xs) all in (parts.0, each_over f xs parts.1)

  pub of_node : (o : Option Data) (ps : Places) → Each (node_place o ps) → Each ps
  of_node None ps all = all
  of_node (Some n) ps all = (all_split Q (each_place ps) [] all.1).0

  pub to_node : (o : Option Data) (ps : Places) → ((n : Data) → o ≡ Some n → Q (spell n, ps)) → Each ps → Each (node_place o ps)
  to_node None ps f all = all
  to_node (Some n) ps f all = (f n refl, all_append Q (each_place ps) [] all tt)

  -- those that lie in others
  pub lying : (ps qs : Places) → LieIn ps qs → Each qs → Each ps
  lying ps qs lie all = all_more (Contains (each_place ps)) Q (λ x here. all_contained Q (each_place qs) x all (lie x here)) (each_place ps) (all_one (each_place ps))

  -- where it follows from the block
  pub by_blocks : (P : List ℕ → Type 0) → ((b : List ℕ) (ps : Places) → P b → Q (b, ps)) → (ps : Places) → All P ps → Each ps
  by_blocks P f ps all = all_more (λ (x : Place). AllByRecursion P (down_from x)) Q (λ x down. f x.0 x.1 down.0) (each_place ps) (down_each P ps all)
