-- A key of a HAMT in a block, and the view of the innermost block.
use Rattle.std.specs.Prelude.{◌≡◌, ℕ, IsUtf8, List, Some, true}
use Rattle.ild_data.specs.Data.{Data}
use Rattle.ild_data.specs.Trie.{TrieSlot}
use Rattle.ild_schema.specs.declared.number.Slot.{Slot}
use Rattle.ild_schema.specs.declared.row.Row.{Row}
use Rattle.ild_schema.specs.Value.{Pairs, map}
use Rattle.ild_typed.specs.At.{InSlot}
use Rattle.ild_typed.specs.Hamt.{whole}
use Rattle.ild_typed.specs.Node.{IsRoot}
use Rattle.ild_typed.specs.Represented.{represented}
use Rattle.ild_view.specs.Safe.{is_safe}
use Rattle.ild_view.specs.View.{slot_of, table_of}
use Rattle.ild_view.specs.Whole.{IsWholeView}
use Rattle.ild_view.specs.declared.view.View.{View}
use Rattle.ild_hamt.specs.Descending.{IsTrailOf}
use Rattle.ild_hamt.specs.declared.trail.Trail.{Trail}
use Rattle.ild_path_held.specs.Hamts.{IsTrieIn}
use Rattle.ild_path_entered.specs.Entered.{IsEntered}
use Rattle.ild_path_entry.specs.Entry.{data_in, slot_in, table_in}
use Rattle.ild_path_entry.specs.declared.entry.Entry.{Entry}

-- the path leads in the block to a HAMT of these entries, all of whose nodes are held; the trail is that of the key
pub record IsKeyIn (h : List ℕ → List ℕ) (rows : List Row) (was : List (List ℕ)) (q : InSlot) (front : List (List ℕ)) (k : List ℕ) (found : Trail) : Type 0 where
  pub slot : Slot
  pub elem : Slot
  pub ps : Pairs
  pub es : List (List ℕ × Data)
  pub root : Data
  pub entered : IsEntered rows q front slot elem ps
  pub data_is : represented (whole h) rows slot (map ps) ≡ Some root
  pub trie : IsTrieIn h entered.hamt.3 rows was elem ps root es
  pub utf8 : IsUtf8 k
  pub trail : (slots : List TrieSlot) → IsRoot entered.hamt.3 slots root → IsTrailOf h entered.hamt.3 k slots es found

-- the view of the block of an entry's value
pub record IsViewOfEntry (e : Entry) (view : View) : Type 0 where
  pub table : table_of view ≡ table_in e
  pub slot : slot_of view ≡ slot_in e
  pub safe : is_safe (table_of view) (slot_of view) ≡ true
  pub whole : IsWholeView view (data_in e)
