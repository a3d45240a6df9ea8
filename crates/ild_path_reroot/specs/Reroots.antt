-- A HAMT of which one entry is put or goes: the data of its root then, and what a store holds (IPLD HashMap).
use Rattle.std.specs.Prelude.{◌≡◌, ◌⊎◌, ℕ, ◌+◌, ◌≤◌, ◌<◌, true, IsUtf8, List, ◌∷◌, length, Some, Result, Ok, Err, is_some}
use Rattle.std.specs.FinMap.{put as insert}
use Rattle.ild_data.specs.ByteOrder.{bytewise, without as remove}
use Rattle.ild_data.specs.Data.{Data}
use Rattle.ild_data.specs.Key.{value_at}
use Rattle.ild_data.specs.Limits.{longest_block}
use Rattle.ild_data.specs.Spell.{spell}
use Rattle.ild_data.specs.Trie.{TrieSlot}
use Rattle.ild_data.specs.TrieShape.{trie_levels}
use Rattle.ild_data.specs.declared.hamt_shape.HamtShape.{HamtShape}
use Rattle.ild_edges.specs.Count.{Rose}
use Rattle.ild_edges.specs.Gained.{Clashes}
use Rattle.ild_edges.specs.Store.{Moment, Later, block_at}
use Rattle.ild_edges.specs.Told.{IfTold, BothTold}
use Rattle.ild_schema.specs.declared.number.Slot.{Slot}
use Rattle.ild_schema.specs.declared.row.Row.{Row}
use Rattle.ild_schema.specs.Value.{Value, Pairs, hamt, map, pairs_list}
use Rattle.ild_node_slots.specs.declared.fault.HamtFault.{HamtFault}
use Rattle.ild_node_slots.specs.declared.fault.HamtFault.TheVariants as F
use Rattle.ild_hamt_trie.specs.Way.{way}
use Rattle.ild_typed.specs.Blocks.{nodes}
use Rattle.ild_typed.specs.Fits.{Fits}
use Rattle.ild_typed.specs.Hamt.{whole}
use Rattle.ild_typed.specs.Node.{IsRoot}
use Rattle.ild_typed.specs.Represented.{represented}
use Rattle.ild_typed.specs.Schema.{IsSchema}
use Rattle.ild_typed_places.specs.Places.{children_of}
use Rattle.ild_script_session.specs.Step.{IsWhole}
use Rattle.ild_bulk.specs.Build.{any_long}
use Rattle.ild_edges.specs.Among.{IsIn}
use Rattle.ild_hamt.specs.Descending.{IsTrailOf}
use Rattle.ild_hamt.specs.Given.{GivesWay}
use Rattle.ild_hamt.specs.declared.trail.Trail.{Trail}
use Rattle.ild_open_held.specs.Held.{IsHeld}
use Rattle.ild_view.specs.View.{IsView}
use Rattle.ild_view.specs.declared.view.View.{View}
use Rattle.ild_path_nodes.specs.NodeLaws.{IsHamt}
use Rattle.ild_path_held.specs.Hamts.{IsTrieIn}
use Rattle.ild_path_entered.specs.Entered.{with_entry, without_entry}

-- the block is these bytes, which are refused where they are too many
abbrev pub MakesRoot : List ℕ → Result (List ℕ) HamtFault → Type 0
MakesRoot bytes (Ok b) = (b ≡ bytes) × (length b ≤ longest_block)
MakesRoot bytes (Err F.Size) = longest_block < length bytes
MakesRoot bytes (Err F.Memory) = Unit {0}
MakesRoot bytes (Err e) = ⊥

-- the view is that of a HAMT, of which it has the root
pub record IsHamtView (view : View) : Type 0 where
  pub tree : Data
  pub is : IsView view (hamt tree)

-- what the writing of a block may answer in place of it
abbrev pub IsWritingFault : HamtFault → Type 0
IsWritingFault F.Size = Unit {0}
IsWritingFault F.Memory = Unit {0}
IsWritingFault e = ⊥

-- the map of these pairs is held, as the HAMT of these entries with the root t; the trail is that of a key in it
pub record IsHamtHeld (h : List ℕ → List ℕ) (rows : List Row) (was : List (List ℕ)) (s elem : Slot) (t : Data) (ps : Pairs) (es : List (List ℕ × Data)) (k : List ℕ) (found : Trail) : Type 0 where
  pub schema : IsSchema rows
  pub hamt : IsHamt rows s elem
  pub before : ℕ
  pub held : IsHeld (block_at was) h rows before s t (map ps)
  pub trie : IsTrieIn h hamt.3 rows was elem ps t es
  pub utf8 : IsUtf8 k
  pub trail : (slots : List TrieSlot) → IsRoot hamt.3 slots t → IsTrailOf h hamt.3 k slots es found

-- a held value with the data d comes to the key, and the map has the data x then
pub record IsPut (h : List ℕ → List ℕ) (rows : List Row) (was : List (List ℕ)) (s elem : Slot) (room : ℕ) (ps : Pairs) (k : List ℕ) (w : Value) (d x : Data) : Type 0 where
  pub less : ℕ
  pub held : IsHeld (block_at was) h rows less elem d w
  pub fits : Fits rows room s (with_entry k w ps)
  pub tree : represented (whole h) rows s (with_entry k w ps) ≡ Some x

-- the entry at the key goes, and the map has the data x then
pub record IsCut (h : List ℕ → List ℕ) (rows : List Row) (s : Slot) (room : ℕ) (ps : Pairs) (k : List ℕ) (x : Data) : Type 0 where
  pub there : is_some (value_at k (pairs_list ps)) ≡ true
  pub fits : Fits rows room s (without_entry k ps)
  pub tree : represented (whole h) rows s (without_entry k ps) ≡ Some x

-- ---- the answer

-- The root map is that of v, which is held then; or the root map or a node is too long for a block; or the store failed, or holds
-- other bytes under a node's id; or memory is wanting.
abbrev pub EditAnswer : (List ℕ → List ℕ) → List Row → ℕ → Slot → Value → Data → Moment → Result (List ℕ) HamtFault → Moment → Type 0
EditAnswer h rows room s v x m (Ok b) n = (b ≡ spell x) × (length b ≤ longest_block) × IfTold n.blocks (λ now. IsHeld (block_at now) h rows room s x v)
EditAnswer h rows room s v x m (Err F.Size) n = any_long (spell x ∷ nodes h rows s v) ≡ true
EditAnswer h rows room s v x m (Err F.Store) n = Rose m.faults n.faults
EditAnswer h rows room s v x m (Err (F.Clash id kept new)) n = IsIn new (nodes h rows s v) × (length new ≤ longest_block) × Clashes n id.0 kept new
EditAnswer h rows room s v x m (Err F.Memory) n = Unit {0}
EditAnswer h rows room s v x m (Err e) n = ⊥

-- a block that came is a node of v, no longer than a block may be, and at one of the places where it stands in v its children are all held
pub record NodeCame (h : List ℕ → List ℕ) (rows : List Row) (s : Slot) (v : Value) (now : List (List ℕ)) (b : List ℕ) : Type 0 where
  pub among : IsIn b (nodes h rows s v)
  pub short : length b ≤ longest_block
  pub whole : IsWhole now (children_of h rows (s, v) b)

-- each block that is held now was held, or came as such a node
pub record AddsNodes (h : List ℕ → List ℕ) (rows : List Row) (s : Slot) (v : Value) (was now : List (List ℕ)) : Type 0 where
  pub came : (id b : List ℕ) → block_at now id ≡ Some b → (block_at was id ≡ Some b) ⊎ NodeCame h rows s v now b

-- the HAMT of a shape becomes v, by puts of no more blocks than it has on the way of the key, each of which was put where it did
pub record EditsHamt (h : List ℕ → List ℕ) (p : HamtShape) (rows : List Row) (s : Slot) (room : ℕ) (k : List ℕ)
    (es : List (List ℕ × Data)) (v : Value) (x : Data) (m : Moment) (result : Result (List ℕ) HamtFault) (n : Moment) : Type 0 where
  pub answer : EditAnswer h rows room s v x m result n
  pub later : Later m n
  pub adds : BothTold m.blocks n.blocks (AddsNodes h rows s v)
  pub puts : n.puts ≤ m.puts + length (way h p k (trie_levels p) 0 es)
  pub given : GivesWay h p k es result n

abbrev pub Puts : (List ℕ → List ℕ) → HamtShape → List Row → Slot → ℕ → Pairs → List (List ℕ × Data) → List ℕ → Value → Data → Data → Moment → Result (List ℕ) HamtFault → Moment → Type 0
Puts h p rows s room ps es k w d x m result n = EditsHamt h p rows s room k (insert bytewise k d es) (with_entry k w ps) x m result n

abbrev pub Cuts : (List ℕ → List ℕ) → HamtShape → List Row → Slot → ℕ → Pairs → List (List ℕ × Data) → List ℕ → Data → Moment → Result (List ℕ) HamtFault → Moment → Type 0
Cuts h p rows s room ps es k x m result n = EditsHamt h p rows s room k (remove k es) (without_entry k ps) x m result n
