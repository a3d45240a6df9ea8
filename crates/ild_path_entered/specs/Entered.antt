-- A HAMT on the way of a path, and the entry at its key (IPLD Schemas, "Advanced Data Layouts").
use Rattle.std.specs.Prelude.{◌≡◌, ℕ, true, List, [], ◌∷◌, ◌++◌, Some}
use Rattle.ild_data.specs.Key.{put, without, value_at}
use Rattle.ild_schema.specs.declared.number.Slot.{Slot}
use Rattle.ild_schema.specs.declared.row.Row.{Row}
use Rattle.ild_schema.specs.Value.{Value, Pairs, map, pairs_of, pairs_list}
use Rattle.ild_typed.specs.At.{InSlot, at}
use Rattle.ild_typed_fronts.specs.Front.{in_one_block}
use Rattle.ild_path_nodes.specs.NodeLaws.{IsHamt}

-- the path leads in one block to a HAMT of these pairs
pub record IsEntered (rows : List Row) (p : InSlot) (path : List (List ℕ)) (slot elem : Slot) (ps : Pairs) : Type 0 where
  pub inside : in_one_block rows p path ≡ true
  pub at : at rows p path ≡ Some (slot, map ps)
  pub hamt : IsHamt rows slot elem

-- the map with an entry put, and without one
abbrev pub with_entry : List ℕ → Value → Pairs → Value
with_entry k w ps = map (pairs_of (put k w (pairs_list ps)))

abbrev pub without_entry : List ℕ → Pairs → Value
without_entry k ps = map (pairs_of (without k (pairs_list ps)))

-- ---- HAMTs one in the value of another's entry: for each the path to it in its block and its key, and what stands at the last key

abbrev pub PassesHamts : List Row → InSlot → List (List (List ℕ) × List ℕ) → InSlot → Type 0
PassesHamts rows p [] q = p ≡ q
PassesHamts rows p (g ∷ gs) q = (slot : Slot) × (elem : Slot) × (ps : Pairs) × (w : Value) × IsEntered rows p g.0 slot elem ps × (value_at g.1 (pairs_list ps) ≡ Some w) × PassesHamts rows (elem, w) gs q

-- the path through them
abbrev pub path_through : List (List (List ℕ) × List ℕ) → List (List ℕ)
path_through [] = []
path_through (g ∷ gs) = g.0 ++ (g.1 ∷ path_through gs)
