-- The places that a walk reaches among a batch's own blocks, and an order of them in which children stand first.
use Rattle.std.specs.Prelude.{◌≡◌, ◌⊎◌, ℕ, ◌+◌, ◌<◌, ◌≤◌, List, [], ◌∷◌, ◌++◌, length, get_or, map, filter_map, Bool, true, false, ◌&&◌, ◌||◌, nat_eq, Some, if◌then◌else◌}
use Rattle.std.specs.List.{list_all}
use Rattle.std.specs.Option.{option_map_or}
use Rattle.ild_data.specs.Spell.{id_of}
use Rattle.ild_edges.specs.Among.{IsIn}
use Rattle.ild_dirty.specs.Own.{index_at}
use Rattle.ild_dirty.specs.Beneath.{Place, HasPlace, IsTreeAt, AgreesWith, blocks_in}

-- one of the batch's own blocks, by its number
abbrev pub own_block : List (List ℕ) → ℕ → List ℕ
own_block own i = get_or own i []

-- this place of one of the batch's own blocks is that of one of the children
pub record IsOneOf (own : List (List ℕ)) (cs : List (List ℕ × ℕ)) (s : ℕ × ℕ) : Type 0 where
  pub child : List ℕ × ℕ
  pub among : IsIn child cs
  pub found : index_at own child.0 ≡ Some s.0
  pub kind : child.1 ≡ s.1

-- of these children those that are the batch's own are among the places
abbrev pub Leads : List (List ℕ) → List (List ℕ × ℕ) → List (ℕ × ℕ) → Type 0
Leads own cs spots = (s : ℕ × ℕ) → IsOneOf own cs s → IsIn s spots

-- places came behind those that were, all of these children
pub record Grows (own : List (List ℕ)) (cs : List (List ℕ × ℕ)) (old new : List (ℕ × ℕ)) : Type 0 where
  pub more : List (ℕ × ℕ)
  pub is : new ≡ old ++ more
  pub leads : Leads own cs new
  pub only : (s : ℕ × ℕ) → IsIn s more → IsOneOf own cs s

abbrev pub same_spot : ℕ × ℕ → ℕ × ℕ → Bool
same_spot s t = nat_eq s.0 t.0 && nat_eq s.1 t.1

-- what a set has is among these places
abbrev pub AreSeen : (ℕ × ℕ → Bool) → List (ℕ × ℕ) → Type 0
AreSeen has spots = (s : ℕ × ℕ) → has s ≡ true → IsIn s spots

-- places came behind those that were, all of these children, and what the set has is among them
abbrev pub Gathers : List (List ℕ) → List (List ℕ × ℕ) → List (ℕ × ℕ) → (ℕ × ℕ → Bool) → List (ℕ × ℕ) → Type 0
Gathers own cs old seen new = AreSeen seen new × Grows own cs old new

-- the children of each of these places lead on
abbrev pub LeadOn : List (List ℕ) → (ℕ → List ℕ → List (List ℕ × ℕ)) → List (ℕ × ℕ) → List (ℕ × ℕ) → Type 0
LeadOn own children passed spots = (s : ℕ × ℕ) → IsIn s passed → Leads own (children s.1 (own_block own s.0)) spots

-- the numbers of those of these children that are the batch's own
abbrev pub own_numbers : List (List ℕ) → List (List ℕ × ℕ) → List ℕ
own_numbers own cs = filter_map (λ c. index_at own c.0) cs

-- the numbers of the children of a block at its place
abbrev pub numbers_of : List (List ℕ) → (ℕ → List ℕ → List (List ℕ × ℕ)) → ℕ × ℕ → List ℕ
numbers_of own children s = own_numbers own (children s.1 (own_block own s.0))

-- these numbers are noted of each place
abbrev pub AreBelow : List (List ℕ) → (ℕ → List ℕ → List (List ℕ × ℕ)) → List (ℕ × ℕ) → List (List ℕ) → Type 0
AreBelow own children spots below = below ≡ map (numbers_of own children) spots

-- each of these places is one of the tree
abbrev pub ArePlaces : List (List ℕ) → Place → List (ℕ × ℕ) → Type 0
ArePlaces own t spots = (s : ℕ × ℕ) → IsIn s spots → HasPlace t (own_block own s.0) s.1

-- one of the batch's own blocks by its number, which its id leads to
pub record IsOwn (own : List (List ℕ)) (i : ℕ) : Type 0 where
  pub within : i < length own
  pub found : index_at own (id_of (own_block own i)) ≡ Some i

-- each of these places is that of one of the batch's own blocks
abbrev pub AreInside : List (List ℕ) → List (ℕ × ℕ) → Type 0
AreInside own spots = (s : ℕ × ℕ) → IsIn s spots → IsOwn own s.0

-- all places of the batch's own blocks that are reached from an id
pub record AreReached (own : List (List ℕ)) (children : ℕ → List ℕ → List (List ℕ × ℕ)) (id : List ℕ) (kind : ℕ) (spots : List (ℕ × ℕ)) : Type 0 where
  pub rooted : Leads own ((id, kind) ∷ []) spots
  pub closed : LeadOn own children spots spots
  pub inside : AreInside own spots
  pub sound : (t : Place) → IsTreeAt children id kind t → AgreesWith own (blocks_in t) → ArePlaces own t spots

-- ---- the order

abbrev pub is_in : ℕ → List ℕ → Bool
is_in j [] = false
is_in j (i ∷ is) = nat_eq i j || is_in j is

-- a child is no block of the batch's own, or one of these
abbrev pub is_done : List (List ℕ) → List ℕ → List ℕ × ℕ → Bool
is_done own order c = option_map_or (λ j. is_in j order) (index_at own c.0) true

abbrev pub are_done : List (List ℕ) → List ℕ → List (List ℕ × ℕ) → Bool
are_done own order [] = true
are_done own order (c ∷ cs) = is_done own order c && are_done own order cs

-- at this place all children of the block are
abbrev pub is_ready : List (List ℕ) → (ℕ → List ℕ → List (List ℕ × ℕ)) → List ℕ → ℕ × ℕ → Bool
is_ready own children order s = are_done own order (children s.1 (own_block own s.0))

-- a block is ready at one of the places at which it is reached
pub record HasReady (own : List (List ℕ)) (children : ℕ → List ℕ → List (List ℕ × ℕ)) (spots : List (ℕ × ℕ)) (before : List ℕ) (i : ℕ) : Type 0 where
  pub kind : ℕ
  pub reached : IsIn (i, kind) spots
  pub ready : is_ready own children before (i, kind) ≡ true

-- each block stands once, and behind its children at one of its places
abbrev pub Follows : List (List ℕ) → (ℕ → List ℕ → List (List ℕ × ℕ)) → List (ℕ × ℕ) → List ℕ → List ℕ → Type 0
Follows own children spots before [] = Unit {0}
Follows own children spots before (i ∷ is) = (is_in i before ≡ false) × HasReady own children spots before i × Follows own children spots (before ++ i ∷ []) is

-- none of these places can be next
abbrev pub AreStuck : List (List ℕ) → (ℕ → List ℕ → List (List ℕ × ℕ)) → List ℕ → List (ℕ × ℕ) → Type 0
AreStuck own children order spots = (s : ℕ × ℕ) → IsIn s spots → (is_in s.0 order ≡ true) ⊎ (is_ready own children order s ≡ false)

-- these blocks are all marked
abbrev pub are_marked : List Bool → List ℕ → Bool
are_marked marks is = list_all (λ i. get_or marks i false) is

-- how many are not marked
abbrev pub unmarked : List Bool → ℕ
unmarked [] = 0
unmarked (b ∷ bs) = (if b then 0 else 1) + unmarked bs

-- marks of what stands in an order
pub record AreMarks (own : List (List ℕ)) (order : List ℕ) (marks : List Bool) : Type 0 where
  pub are : (j : ℕ) → get_or marks j false ≡ is_in j order
  pub len : length marks ≡ length own
  pub count : unmarked marks + length order ≡ length own

-- an order so far, with its marks
pub record IsSoFar (own : List (List ℕ)) (children : ℕ → List ℕ → List (List ℕ × ℕ)) (spots : List (ℕ × ℕ)) (order : List ℕ) (marks : List Bool) : Type 0 where
  pub inside : AreInside own spots
  pub marked : AreMarks own order marks
  pub follows : Follows own children spots [] order

-- what one pass over the places leaves
pub record PassesSpots (own : List (List ℕ)) (children : ℕ → List ℕ → List (List ℕ × ℕ)) (spots : List (ℕ × ℕ)) (old : List ℕ) (more : Bool) (new : List ℕ) (marks : List Bool) : Type 0 where
  pub so_far : IsSoFar own children spots new marks
  pub grown : length old ≤ length new
  pub longer : more ≡ true → length old < length new
  pub stuck : more ≡ false → AreStuck own children new spots

-- what one pass leaves where these numbers are noted of the places
abbrev pub Passes : List (ℕ × ℕ) → List (List ℕ) → List ℕ → List Bool → Bool → List ℕ → List Bool → Type 0
Passes spots below old was more new marks = (own : List (List ℕ)) (children : ℕ → List ℕ → List (List ℕ × ℕ)) → AreBelow own children spots below → IsSoFar own children spots old was → PassesSpots own children spots old more new marks

-- an order of the blocks that are reached, with children first
pub record IsPlan (own : List (List ℕ)) (children : ℕ → List ℕ → List (List ℕ × ℕ)) (id : List ℕ) (kind : ℕ) (order : List ℕ) : Type 0 where
  pub spots : List (ℕ × ℕ)
  pub reached : AreReached own children id kind spots
  pub follows : Follows own children spots [] order
  pub stuck : AreStuck own children order spots
  pub most : length order ≤ length own
