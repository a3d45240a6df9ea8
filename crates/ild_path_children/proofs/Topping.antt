-- The blocks at the top of places, and places among others.
use Rattle.std.proofs.Common.{ℕ, zero, suc, List, [], ◌∷◌, refl, sym, subst, arith}
use Rattle.std.specs.Prelude.{Contains}
use Rattle.std.specs.List.{AllByRecursion}
use Rattle.std.proofs.lemmas.List.Elements.{Contains-append_left, Contains-append_right}
use Rattle.ild_data.proofs.AllOf.{all_split}
use Rattle.ild_typed.proofs.Rooms.{all_more}
use Rattle.ild_typed_places.specs.Parts.{LieIn}
use Rattle.ild_typed_places.specs.Places.{Place, Places, nowhere, place, each_place, joined, places_over, blocks_in, tops}
use Rattle.ild_typed_places.proofs.Joining.{All}
use Rattle.ild_typed_places.proofs.Linked.{each_joined}
use Rattle.ild_path_children.specs.Ways.{HasPlace}

module _ (P : List ℕ → Type 0) where
  abbrev pub Tops : Places → Type 0
  Tops ps = AllByRecursion P (tops ps)

  both_tops : (ps qs : Places) → Tops ps → Tops qs → Tops (joined ps qs)
  both_tops nowhere qs a b = b
  both_tops (place x beneath ps) qs a b = (a.0, both_tops ps qs a.1 b)

  pub over_tops : {X : Type 0} (f : X → Places) (xs : List X) → AllByRecursion (λ x. Tops (f x)) xs → Tops (places_over f xs)
  over_tops f [] all = tt
  over_tops f (x ∷ xs) all = both_tops (f x) (places_over f xs) all.0 (over_tops f xs all.1)

  pub all_tops : (ps : Places) → All P ps → Tops ps
  all_tops nowhere all = tt
  all_tops (place b beneath ps) all = (all.0, all_tops ps (all_split P (blocks_in beneath) (blocks_in ps) all.1).1)

pub place_more : (home : Places) (P Q : List ℕ → Type 0) (b : List ℕ) → ((c : List ℕ) → P c → Q c) → HasPlace home P b → HasPlace home Q b
place_more home P Q b f x = record { at = x.at; among = x.among; is = x.is; children = all_more P Q f (tops x.at.1) x.children }

-- ---- places among others

lie_left : (ps qs : Places) → LieIn ps (joined ps qs)
lie_left ps qs x here = subst (λ (l : List Place). Contains l x) (sym (each_joined ps qs)) (Contains-append_left (each_place ps) (each_place qs) x here)

lie_right : (ps qs rs : Places) → LieIn rs qs → LieIn rs (joined ps qs)
lie_right ps qs rs lie x here = subst (λ (l : List Place). Contains l x) (sym (each_joined ps qs)) (Contains-append_right (each_place ps) (each_place qs) x (lie x here))

pub each_lies : {X : Type 0} (f : X → Places) (xs : List X) → AllByRecursion (λ x. LieIn (f x) (places_over f xs)) xs
each_lies f [] = tt
each_lies f (x ∷ xs) =
    (lie_left (f x) (places_over f xs), all_more (λ y. LieIn (f y) (places_over f xs)) (λ y. LieIn (f y) (joined (f x) (places_over f xs))) (λ y lie. lie_right (f x) (places_over f xs) (f y) lie) xs (each_lies f xs))

pub at_top : (b : List ℕ) (ps home : Places) → LieIn (place b ps nowhere) home → Contains (each_place home) (b, ps)
at_top b ps home lie = lie (b, ps) (zero, omega arith, refl)

pub beneath_top : (b : List ℕ) (ps home : Places) → LieIn (place b ps nowhere) home → LieIn ps home
beneath_top b ps home lie q here = lie q (let more = Contains-append_left (each_place ps) [] q here in (suc more.0, (let lt = more.1 in omega (arith, lt)), more.2))
