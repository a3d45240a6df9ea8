-- The blocks on a key's way in a HAMT of which the key's entry is put or goes, with the children that they have at their places.
use Rattle.std.specs.Prelude.{◌≡◌, ◌⊎◌, ℕ, List, [], ◌∷◌, reverse, Some, Result, Contains}
use Rattle.std.specs.FinMap.{put as insert}
use Rattle.std.specs.List.{AllByRecursion}
use Rattle.ild_data.specs.ByteOrder.{bytewise, without as remove}
use Rattle.ild_data.specs.Data.{Data}
use Rattle.ild_data.specs.Key.{put, without}
use Rattle.ild_data.specs.Spell.{id_of}
use Rattle.ild_data.specs.TrieShape.{trie_levels}
use Rattle.ild_edges.specs.Store.{Moment, block_at}
use Rattle.ild_edges.specs.Told.{BothTold}
use Rattle.ild_schema.specs.declared.number.Slot.{Slot}
use Rattle.ild_schema.specs.declared.row.Row.{Row}
use Rattle.ild_schema.specs.Value.{Value, Pairs, map, pairs_of, pairs_list}
use Rattle.ild_node_slots.specs.declared.fault.HamtFault.{HamtFault}
use Rattle.ild_hamt_trie.specs.Way.{way}
use Rattle.ild_typed.specs.Hamt.{whole}
use Rattle.ild_typed.specs.Represented.{represented}
use Rattle.ild_typed_places.specs.Places.{Place, Places, each_place, tops, places_in, children_at}
use Rattle.ild_edges.specs.Among.{IsIn}
use Rattle.ild_bulk.specs.Putting.{PutsAll}
use Rattle.ild_open_held.specs.Held.{IsHeld}
use Rattle.ild_path_nodes.specs.NodeLaws.{IsHamt}
use Rattle.ild_path_held.specs.Hamts.{IsTrieIn}
use Rattle.ild_script_session.specs.Step.{IsWhole}

-- the block stands at one of the places, where its children are all so
pub record HasPlace (home : Places) (so : List ℕ → Type 0) (b : List ℕ) : Type 0 where
  pub at : Place
  pub among : Contains (each_place home) at
  pub is : at.0 ≡ b
  pub children : AllByRecursion so (tops at.1)

-- the first of these blocks
abbrev pub IsNext : List ℕ → List (List ℕ) → Type 0
IsNext c [] = ⊥
IsNext c (b ∷ bs) = b ≡ c

-- a block is held, or the first of these
abbrev pub IsNear : List (List ℕ) → List (List ℕ) → List ℕ → Type 0
IsNear held bs c = (block_at held (id_of c) ≡ Some c) ⊎ IsNext c bs

-- each block of a way stands at a place whose children are held, or are the next on the way
abbrev pub WayIn : Places → List (List ℕ) → List (List ℕ) → Type 0
WayIn home held [] = Unit {0}
WayIn home held (w ∷ ws) = HasPlace home (IsNear held ws) w × WayIn home held ws

-- So is the way of a key at which a value is put. The map before and the value are held.
abbrev pub WaysArePut : Type 0
WaysArePut =
    (h : List ℕ → List ℕ) (rows : List Row) (was : List (List ℕ)) (before less : ℕ) (s elem : Slot)
    (t d x : Data) (ps : Pairs) (es : List (List ℕ × Data)) (k : List ℕ) (w : Value) → (is : IsHamt rows s elem)
    → IsHeld (block_at was) h rows before s t (map ps) → IsTrieIn h is.3 rows was elem ps t es
    → IsHeld (block_at was) h rows less elem d w → represented (whole h) rows s (map (pairs_of (put k w (pairs_list ps)))) ≡ Some x
    → WayIn (places_in h rows s (map (pairs_of (put k w (pairs_list ps))))) was (way h is.3 k (trie_levels is.3) 0 (insert bytewise k d es))

-- and that of a key whose entry goes
abbrev pub WaysAreCut : Type 0
WaysAreCut =
    (h : List ℕ → List ℕ) (rows : List Row) (was : List (List ℕ)) (before : ℕ) (s elem : Slot) (t x : Data) (ps : Pairs) (es : List (List ℕ × Data)) (k : List ℕ) → (is : IsHamt rows s elem)
    → IsHeld (block_at was) h rows before s t (map ps) → IsTrieIn h is.3 rows was elem ps t es → represented (whole h) rows s (map (pairs_of (without k (pairs_list ps)))) ≡ Some x
    → WayIn (places_in h rows s (map (pairs_of (without k (pairs_list ps))))) was (way h is.3 k (trie_levels is.3) 0 (remove k es))

-- each block that is held now was held, or is one of these, and has its children held at one of its places
abbrev pub AddsPlaced : Places → List (List ℕ) → List (List ℕ) → List (List ℕ) → Type 0
AddsPlaced home bs was now = (id b : List ℕ) → block_at now id ≡ Some b → (block_at was id ≡ Some b) ⊎ (IsIn b bs × IsWhole now (children_at home b))

-- what puts of such a way leave, from the bottom up
abbrev pub PutsLeaveWays : Type 0
PutsLeaveWays =
    (home : Places) (was ws : List (List ℕ)) (m n : Moment) (r : Result (Unit {0}) HamtFault) → m.blocks ≡ Some was → WayIn home was ws → PutsAll m (reverse ws) r n
    → BothTold m.blocks n.blocks (AddsPlaced home (reverse ws))
