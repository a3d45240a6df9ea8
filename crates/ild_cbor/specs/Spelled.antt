-- Parts of a block that are the spelling of a tree, of the items of a list, or of the entries of a map.
use Rattle.std.specs.Prelude.{◌≡◌, ℕ, ◌+◌, ◌≤◌, ◌<◌, List, length, ◌++◌}
use Rattle.ild_data.specs.Data.{Data, Items, Members, items_list, items_depth, members_list, members_depth}
use Rattle.ild_data.specs.Spell.{spell, spell_items, spell_members}
use Rattle.ild_data.specs.Tree.{AreTrees, AreEntries}
use Rattle.ild_data.specs.Limits.{IsWithin, deepest, longest_block}

-- the block has this piece from one place on
pub record Holds (block : List ℕ) (from : ℕ) (piece : List ℕ) : Type 0 where
  pub before : List ℕ
  pub after : List ℕ
  pub is : block ≡ before ++ (piece ++ after)
  pub place : length before ≡ from

-- the bytes of the block from one place up to another are the spelling of this tree
pub record Spells (block : List ℕ) (from to : ℕ) (t : Data) : Type 0 where
  pub holds : Holds block from (spell t)
  pub end : from + length (spell t) ≡ to
  pub within : IsWithin t

pub record SpellsSome (block : List ℕ) (from to : ℕ) : Type 0 where
  pub of : Data
  pub spells : Spells block from to of

-- from this place on stand the spellings of these items, which are n
pub record SpellsItems (block : List ℕ) (from n : ℕ) (ds : Items) : Type 0 where
  pub holds : Holds block from (spell_items ds)
  pub count : length (items_list ds) ≡ n
  pub trees : AreTrees ds
  pub nested : items_depth ds < deepest
  pub sized : length (spell_items ds) ≤ longest_block

pub record SpellsSomeItems (block : List ℕ) (from n : ℕ) : Type 0 where
  pub of : Items
  pub spells : SpellsItems block from n of

-- from this place on stand the spellings of these entries, which are n
pub record SpellsMembers (block : List ℕ) (from n : ℕ) (ms : Members) : Type 0 where
  pub holds : Holds block from (spell_members ms)
  pub count : length (members_list ms) ≡ n
  pub entries : AreEntries ms
  pub nested : members_depth ms < deepest
  pub sized : length (spell_members ms) ≤ longest_block

pub record SpellsSomeMembers (block : List ℕ) (from n : ℕ) : Type 0 where
  pub of : Members
  pub spells : SpellsMembers block from n of
