-- Puts of blocks that stand behind their children leave each block that came with its children held.
use Rattle.std.proofs.Common.{◌≡◌, inl, inr, ⊎_elim, ℕ, zero, suc, ◌+◌, List, [], ◌∷◌, ◌++◌, take, Some, sym, ◌∙◌, subst, arith}
use Rattle.std.specs.Prelude.{Contains}
use Rattle.ild_edges.specs.Gained.{AreHeld}
use Rattle.ild_edges.specs.Among.{IsIn}
use Rattle.ild_edges.proofs.Among.{IsIn-of}
use Rattle.ild_bulk.specs.Putting.{StopsAfter}
use Rattle.ild_bulk.proofs.Childs.{held_among}
use Rattle.ild_bulk.proofs.Puts.{told-map}
use Rattle.ild_data.specs.Spell.{id_of}
use Rattle.ild_edges.specs.Store.{block_at}
use Rattle.ild_typed.proofs.Rooms.{all_more}
use Rattle.ild_typed_places.specs.Places.{Places, tops}
use Rattle.ild_bulk_places.specs.Following.{HasPlaceOver, FollowsIn}
use Rattle.ild_bulk_places.specs.Leaving.{HasPlaceHeld, AddsPlaced, PutsLeavePlaces}

pushed : (bs now : List (List ℕ)) (b : List ℕ) → AreHeld bs now → block_at now (id_of b) ≡ Some b → AreHeld (bs ++ b ∷ []) now
pushed [] now b held is = (is, tt)
pushed (c ∷ bs) now b held is = (held.0, pushed bs now b held.1 is)

module _ (ps : Places) (now : List (List ℕ)) where
  there : (before : List (List ℕ)) (b c : List ℕ) → AreHeld before now → b ≡ c → HasPlaceOver ps before c → HasPlaceHeld ps now b
  there before b c held same x = record {
    at = x.at;
    among = x.among;
    is = x.is ∙ sym same;
    children = all_more (Contains before) (λ d. block_at now (id_of d) ≡ Some d) (λ d is. held_among before now d held (IsIn-of d before is)) (tops x.at.1) x.children;
  }

  -- each of the first blocks, of which all but the last are held
  first_placed : (k : ℕ) (before bs : List (List ℕ)) (b : List ℕ) → FollowsIn ps before bs → AreHeld before now → AreHeld (take k bs) now → IsIn b (take (suc k) bs) → HasPlaceHeld ps now b
  first_placed k before [] b follows done held is = absurd is
  first_placed zero before (c ∷ bs) b follows done held is = ⊎_elim (λ here. there before b c done here follows.0) (λ none. absurd none) is
  first_placed (suc k) before (c ∷ bs) b follows done held is =
      ⊎_elim (λ here. there before b c done here follows.0) (λ more. first_placed k (before ++ c ∷ []) bs b follows.1 (pushed before now c done held.0) held.1 more) is

next_is : (k : ℕ) → k + 1 ≡ suc k
next_is k = omega arith

pub puts_leave : PutsLeavePlaces
puts_leave ps m n bs r follows puts =
    told-map m.blocks n.blocks (StopsAfter bs puts.stops.0) (AddsPlaced ps)
    (λ was now stops id b held. ⊎_elim (λ before. inl before)
    (λ among. inr (first_placed ps now puts.stops.0 [] bs b follows tt stops.held (subst (λ (n : ℕ). IsIn b (take n bs)) (next_is puts.stops.0) (IsIn-of b (take (puts.stops.0 + 1) bs) among))))
    (stops.adds id b held)) puts.stops.1
