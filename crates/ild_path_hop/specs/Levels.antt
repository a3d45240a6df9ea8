-- One level of a path: a value in a block whose HAMTs are held, and an entry of one of them that is set.
use Rattle.std.specs.Prelude.{◌≡◌, ℕ, ◌+◌, ◌≤◌, Bool, true, IsUtf8, List, [], ◌∷◌, length, Some, Result, Ok, Err, is_some}
use Rattle.std.specs.FinMap.{put as insert}
use Rattle.ild_data.specs.ByteOrder.{bytewise, without as remove}
use Rattle.ild_data.specs.Data.{Data}
use Rattle.ild_data.specs.Key.{value_at}
use Rattle.ild_data.specs.Limits.{longest_block}
use Rattle.ild_data.specs.Spell.{spell}
use Rattle.ild_data.specs.Trie.{TrieSlot}
use Rattle.ild_data.specs.TrieShape.{trie_levels}
use Rattle.ild_data.specs.declared.hamt_shape.HamtShape.{HamtShape}
use Rattle.ild_edges.specs.Count.{Rose}
use Rattle.ild_edges.specs.Gained.{Clashes}
use Rattle.ild_edges.specs.Store.{Moment, Later, block_at}
use Rattle.ild_edges.specs.Told.{IfTold, BothTold}
use Rattle.ild_schema.specs.declared.number.Slot.{Slot}
use Rattle.ild_schema.specs.declared.row.Row.{Row}
use Rattle.ild_schema.specs.Value.{Value, Pairs, hamt, map, pairs_list}
use Rattle.ild_node_slots.specs.declared.fault.HamtFault.{HamtFault}
use Rattle.ild_node_slots.specs.declared.fault.HamtFault.TheVariants as F
use Rattle.ild_hamt_trie.specs.Way.{way}
use Rattle.ild_typed.specs.Blocks.{nodes}
use Rattle.ild_typed.specs.Fits.{Fits}
use Rattle.ild_typed.specs.Hamt.{whole}
use Rattle.ild_typed.specs.Node.{IsRoot}
use Rattle.ild_typed.specs.OfType.{TestsKeys}
use Rattle.ild_typed.specs.Represented.{represented}
use Rattle.ild_typed.specs.Schema.{IsSchema}
use Rattle.ild_view.specs.View.{IsView, slot_of, table_of}
use Rattle.ild_view.specs.declared.view.View.{View}
use Rattle.ild_bulk.specs.Build.{any_long}
use Rattle.ild_edges.specs.Among.{IsIn}
pub use Rattle.ild_path_block.specs.Edits.{IsRootView}
use Rattle.ild_hamt.specs.Descending.{IsTrailOf}
use Rattle.ild_hamt.specs.Given.{GivesWay}
use Rattle.ild_hamt.specs.declared.trail.Trail.{Trail}
use Rattle.ild_open_held.specs.Held.{IsHeld}
use Rattle.ild_path_edits.specs.Stop.{stopped}
use Rattle.ild_path_within.specs.Within.{with_part}
use Rattle.ild_typed_fronts.specs.Front.{front}
use Rattle.ild_path_held.specs.Hamts.{IsTrieIn}
use Rattle.ild_path_entered.specs.Entered.{IsEntered, with_entry, without_entry}
use Rattle.ild_path_entered.specs.EnteredLaws.{fits_key}
use Rattle.ild_path_reroot.specs.Reroots.{AddsNodes}
use Rattle.ild_path_sizes.specs.Long.{IsDataOfPart}

-- the view is that of the block of v, which has the data t and is held
pub record IsLevel (h : List ℕ → List ℕ) (is_key : ℕ → List ℕ → Bool) (was : List (List ℕ)) (room : ℕ) (v : Value) (t : Data) (view : View) : Type 0 where
  pub schema : IsSchema (table_of view)
  pub keys : TestsKeys (table_of view) is_key
  pub held : IsHeld (block_at was) h (table_of view) room (slot_of view) t v
  pub root : IsRootView view (front h (table_of view) (slot_of view) v) t

-- the path leads from a front of the view to a HAMT, of which it has the root
pub record LeadsToHamt (view : View) (path : List (List ℕ)) : Type 0 where
  pub front : Value
  pub is : IsView view front
  pub slot : Slot
  pub tree : Data
  pub leads : stopped (table_of view) (slot_of view, front) path ≡ record { part = (slot, hamt tree); left = [] }

-- v with the entry set
abbrev pub with_set : List Row → Slot → Value → List (List ℕ) → Pairs → List ℕ → Value → Value
with_set rows s v path ps k w = with_part rows (s, v) path (with_entry k w ps)

-- the path leads to a HAMT, whose entry at the key is set to a value that is held; the whole has the data u then
pub record IsSetThere (h : List ℕ → List ℕ) (is_key : ℕ → List ℕ → Bool) (was : List (List ℕ)) (room : ℕ)
    (v : Value) (view : View) (path : List (List ℕ)) (slot elem : Slot) (ps : Pairs) (es : List (List ℕ × Data))
    (k : List ℕ) (w : Value) (d u : Data) (found : Trail) : Type 0 where
  pub entered : IsEntered (table_of view) (slot_of view, v) path slot elem ps
  pub root : Data
  pub data_is : represented (whole h) (table_of view) slot (map ps) ≡ Some root
  pub trie : IsTrieIn h entered.hamt.3 (table_of view) was elem ps root es
  pub trail : (slots : List TrieSlot) → IsRoot entered.hamt.3 slots root → IsTrailOf h entered.hamt.3 k slots es found
  pub utf8 : IsUtf8 k
  pub key : fits_key is_key (table_of view) slot ps k ≡ true
  pub less : ℕ
  pub new : IsHeld (block_at was) h (table_of view) less elem d w
  pub fits : Fits (table_of view) room (slot_of view) (with_set (table_of view) (slot_of view) v path ps k w)
  pub tree : represented (whole h) (table_of view) (slot_of view) (with_set (table_of view) (slot_of view) v path ps k w) ≡ Some u

-- v without the entry
abbrev pub with_cut : List Row → Slot → Value → List (List ℕ) → Pairs → List ℕ → Value
with_cut rows s v path ps k = with_part rows (s, v) path (without_entry k ps)

-- the path leads to a HAMT, whose entry at the key goes; the whole has the data u then
pub record IsCutThere (h : List ℕ → List ℕ) (is_key : ℕ → List ℕ → Bool) (was : List (List ℕ)) (room : ℕ)
    (v : Value) (view : View) (path : List (List ℕ)) (slot elem : Slot) (ps : Pairs) (es : List (List ℕ × Data))
    (k : List ℕ) (u : Data) (found : Trail) : Type 0 where
  pub entered : IsEntered (table_of view) (slot_of view, v) path slot elem ps
  pub root : Data
  pub data_is : represented (whole h) (table_of view) slot (map ps) ≡ Some root
  pub trie : IsTrieIn h entered.hamt.3 (table_of view) was elem ps root es
  pub trail : (slots : List TrieSlot) → IsRoot entered.hamt.3 slots root → IsTrailOf h entered.hamt.3 k slots es found
  pub utf8 : IsUtf8 k
  pub there : is_some (value_at k (pairs_list ps)) ≡ true
  pub fits : Fits (table_of view) room (slot_of view) (with_cut (table_of view) (slot_of view) v path ps k)
  pub tree : represented (whole h) (table_of view) (slot_of view) (with_cut (table_of view) (slot_of view) v path ps k) ≡ Some u

-- ---- the answer: the block of the new value, which is held but for this block; or why not. x are the data of the HAMT then
abbrev pub LevelAnswer : (List ℕ → List ℕ) → List Row → ℕ → Slot → Value → Data → Data → Moment → Result (List ℕ) HamtFault → Moment → Type 0
LevelAnswer h rows room s c u x m (Ok b) n = (b ≡ spell u) × (length b ≤ longest_block) × IfTold n.blocks (λ now. IsHeld (block_at now) h rows room s u c)
LevelAnswer h rows room s c u x m (Err F.Size) n = any_long (spell u ∷ spell x ∷ nodes h rows s c) ≡ true
LevelAnswer h rows room s c u x m (Err F.Store) n = Rose m.faults n.faults
LevelAnswer h rows room s c u x m (Err (F.Clash id kept new)) n = IsIn new (nodes h rows s c) × (length new ≤ longest_block) × Clashes n id.0 kept new
LevelAnswer h rows room s c u x m (Err F.Memory) n = Unit {0}
LevelAnswer h rows room s c u x m (Err e) n = ⊥

pub record SetsLevel (h : List ℕ → List ℕ) (p : HamtShape) (rows : List Row) (room : ℕ) (s : Slot) (c : Value) (u : Data)
    (k : List ℕ) (es : List (List ℕ × Data)) (m : Moment) (result : Result (List ℕ) HamtFault) (n : Moment) : Type 0 where
  pub hamt : Data
  pub part : IsDataOfPart h rows (s, c) hamt
  pub answer : LevelAnswer h rows room s c u hamt m result n
  pub later : Later m n
  pub adds : BothTold m.blocks n.blocks (AddsNodes h rows s c)
  pub puts : n.puts ≤ m.puts + length (way h p k (trie_levels p) 0 es)
  pub given : GivesWay h p k es result n

abbrev pub SetsEntry : (List ℕ → List ℕ) → HamtShape → ℕ → Value → List (List ℕ) → Pairs → List (List ℕ × Data)
    → List ℕ → Value → Data → Data → View → Moment → Result (List ℕ) HamtFault → Moment → Type 0
SetsEntry h p room v path ps es k w d u view m result n =
    SetsLevel h p (table_of view) room (slot_of view) (with_set (table_of view) (slot_of view) v path ps k w) u k (insert bytewise k d es) m result n

abbrev pub CutsEntry : (List ℕ → List ℕ) → HamtShape → ℕ → Value → List (List ℕ) → Pairs → List (List ℕ × Data) → List ℕ → Data → View → Moment → Result (List ℕ) HamtFault → Moment → Type 0
CutsEntry h p room v path ps es k u view m result n =
    SetsLevel h p (table_of view) room (slot_of view) (with_cut (table_of view) (slot_of view) v path ps k) u k (remove k es) m result n
