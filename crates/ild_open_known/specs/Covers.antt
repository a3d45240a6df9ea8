-- What is found sound in a room is sound in each greater one.
use Rattle.std.specs.Prelude.{◌≡◌, ℕ, ◌≤◌, List, Contains}
use Rattle.ild_open_known.specs.declared.kind.ReadAs.{ReadAs}
use Rattle.ild_open_known.specs.declared.table.Spot.{Spot}

-- the same keys, values and shape, in no less room
pub record Covers (known asked : ReadAs) : Type 0 where
  pub key : known.key ≡ asked.key
  pub value : known.value ≡ asked.value
  pub shape : known.shape ≡ asked.shape
  pub room : known.room ≤ asked.room

-- among these roots is one with these bytes, read as the same in no greater room
pub record IsKnown (roots : List (ReadAs × List ℕ)) (asked : ReadAs) (bytes : List ℕ) : Type 0 where
  pub kind : ReadAs
  pub has : Contains roots (kind, bytes)
  pub covers : Covers kind asked

-- it is the node of this id at the end of this way
pub record IsSpot (s : Spot) (id way : List ℕ) : Type 0 where
  pub id_is : s.id.0 ≡ id
  pub way_is : s.way ≡ way

-- among these nodes is the one of this id at the end of this way, in a HAMT that was read as the same in no greater room
pub record IsKnownNode (nodes : List (ReadAs × List ℕ × List ℕ)) (asked : ReadAs) (id way : List ℕ) : Type 0 where
  pub kind : ReadAs
  pub has : Contains nodes (kind, id, way)
  pub covers : Covers kind asked
