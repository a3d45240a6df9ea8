-- Bytes that begin with the spellings of some trees.
use Rattle.std.specs.Prelude.{ℕ, ◌≡◌, ◌<◌, ◌^◌, List, ◌++◌, length}
use Rattle.ild_data.specs.Data.{Items, items_list, Members, members_list}
use Rattle.ild_data.specs.Spell.{spell_items, spell_members}
use Rattle.ild_data.specs.Tree.{AreTrees, AreEntries}

-- b is the spellings of these n trees, one after another, and then rest
pub record IsRow (b : List ℕ) (n : ℕ) (ds : Items) (rest : List ℕ) : Type 0 where
  pub is : b ≡ spell_items ds ++ rest
  pub count : length (items_list ds) ≡ n
  pub trees : AreTrees ds
  pub short : length b < 2 ^ 64

-- b is the spellings of these n entries, and then rest
pub record IsEntryRow (b : List ℕ) (n : ℕ) (ms : Members) (rest : List ℕ) : Type 0 where
  pub is : b ≡ spell_members ms ++ rest
  pub count : length (members_list ms) ≡ n
  pub entries : AreEntries ms
  pub short : length b < 2 ^ 64
