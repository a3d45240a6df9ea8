-- The value at a key, sought among the spellings of entries.
use Rattle.std.specs.Prelude.{◌≡◌, ℕ, ◌≤◌, List, ◌++◌, Option, Some, None}
use Rattle.ild_data.specs.Data.{Data, Members, members_list, depth, members_depth}
use Rattle.ild_data.specs.Spell.{spell}
use Rattle.ild_data.specs.Tree.{IsTree}
use Rattle.ild_data.specs.Key.{value_at}
use Rattle.ild_cbor.specs.Span.{values_before, key_index}

-- the bytes begin with what stands before the value at the key, and then with value
pub record CutsValue (s value key : List ℕ) (ms : Members) : Type 0 where
  pub of : Data
  pub is : value_at key (members_list ms) ≡ Some of
  pub before : s ≡ values_before (key_index key ms) ms ++ value
  pub after : List ℕ
  pub behind : value ≡ spell of ++ after
  pub tree : IsTree of
  pub nested : depth of ≤ members_depth ms

abbrev pub CutsAtKey : List ℕ → Option (List ℕ) → List ℕ → Members → Type 0
CutsAtKey s None key ms = value_at key (members_list ms) ≡ None
CutsAtKey s (Some value) key ms = CutsValue s value key ms
