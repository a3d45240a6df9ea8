-- What is read of a HAMT: the rows of its root, and what stands in each row.
use Rattle.std.specs.Prelude.{◌≡◌, ◌⊎◌, ℕ, ◌+◌, ◌≤◌, Bool, List, length, map, Some, Result, Ok, Err, Contains}
use Rattle.std.specs.Global.{Vec}
use Rattle.std.specs.List.{All, AllByRecursion}
use Rattle.ild_cbor.specs.Block.{IsBlockOf}
use Rattle.ild_cbor.specs.Nodes.{HasData}
use Rattle.ild_cbor.specs.declared.node.Node.{Node}
use Rattle.ild_cbor.specs.declared.piece.Piece.{Piece}
use Rattle.ild_cbor.specs.declared.why.BlockWhy.{BlockWhy}
use Rattle.ild_cbor.specs.declared.why.BlockWhy.TheVariants as B
use Rattle.ild_cbor.specs.declared.why.Why.{Why}
use Rattle.ild_data.specs.Data.{Data}
use Rattle.ild_data.specs.Limits.{IsWithin, deepest}
use Rattle.ild_data.specs.Tree.{IsTree}
use Rattle.ild_data.specs.Trie.{TrieSlot}
use Rattle.ild_data.specs.declared.id.BlockId.{BlockId}
use Rattle.ild_data.specs.declared.hamt_shape.HamtShape.{HamtShape}
use Rattle.ild_edges.specs.Store.{Moment, block_at}
use Rattle.ild_node_slots.specs.Form.{AreTexts}
use Rattle.ild_node_slots.specs.declared.fault.HamtFault.{HamtFault}
use Rattle.ild_node_slots.specs.declared.fault.HamtFault.TheVariants as H
use Rattle.ild_layer_piece.specs.Pieces.{StandsFor}
use Rattle.ild_schema.specs.Clear.{IsSafe}
use Rattle.ild_schema.specs.Slots.{form_of}
use Rattle.ild_schema.specs.Value as V
use Rattle.ild_schema.specs.Value.{Value, pairs_of}
use Rattle.ild_schema.specs.ValueSeen.{value_of}
use Rattle.ild_schema.specs.declared.def.MapForm.TheVariants as MF
use Rattle.ild_schema.specs.declared.def.TypeDef.TheVariants as D
use Rattle.ild_schema.specs.declared.number.Slot.{Slot}
use Rattle.ild_schema.specs.declared.number.TypeNo.{TypeNo}
use Rattle.ild_schema.specs.declared.row.Row.{Row}
use Rattle.ild_schema.specs.declared.val.Val.{Val}
use Rattle.ild_typed.specs.Node.{IsRoot}
use Rattle.ild_bulk_walker.specs.Checked.{row_pair, spelled_pair}
use Rattle.ild_bulk_walker.specs.Standing.{IsWrongOnTree, StandsThere}
use Rattle.ild_bulk_walker.specs.declared.row.Row.{Row as Listed}
use Rattle.ild_view_walk.specs.declared.fault.ViewErr.{ViewErr}
use Rattle.ild_view_walk.specs.declared.fault.ViewErr.TheVariants as E
use Rattle.ild_open_held.specs.Entries.{IsRootOf, KeyFits, beneath}
use Rattle.ild_open_held.specs.Laws.{IsFronted}
use Rattle.ild_open_held.specs.Splits.{PartsHaveValues, HasFront, entry_parts, entry_values, nodes_in}
use Rattle.ild_open_rows.specs.Rooted.{AreRows}
use Rattle.ild_open_parts.specs.Broken.{IsWrongPart}
use Rattle.ild_open_parts.specs.Reads.{BrokenPart, FromBlocks, HasValues, NoValues, OnlyReads, Reads, Stops}
use Rattle.ild_open_parts.specs.declared.fault.OpenFault.{OpenFault}
use Rattle.ild_open_parts.specs.declared.fault.OpenFault.TheVariants as F

-- ---- the rows of a root

-- the fault of a walk, as that of a reader
abbrev pub told_fault : HamtFault → OpenFault
told_fault (H.Block id why) = F.Block id why
told_fault H.Store = F.Store
told_fault e = F.Memory

-- the root splits into no entries that are held
abbrev pub NoRoot : (List ℕ → List ℕ) → HamtShape → Data → Moment → Type 0
NoRoot h p t m = (held : List (List ℕ)) (fs : List (List ℕ × Data)) → m.blocks ≡ Some held → AreTexts fs → IsRootOf (block_at held) h p t fs → ⊥

-- the data are a tree, the root in the block `at`, and each row stands in its block
abbrev pub RowsStand : HamtShape → List ℕ → Data → Moment → List Listed → Type 0
RowsStand p at t m rows = (slots : List TrieSlot) × IsTree t × IsRoot p slots t × All (StandsThere p m.blocks slots at) rows

-- they are one, and something is wrong with a block on its tree
abbrev pub BrokenTree : (List ℕ → List ℕ) → HamtShape → List ℕ → Data → Moment → Moment → List ℕ → BlockWhy → Type 0
BrokenTree h p at t m n id why = (slots : List TrieSlot) × IsRoot p slots t × IsWrongOnTree h p m.blocks slots at m.lacks n.lacks id why

abbrev pub RowsAnswer : (List ℕ → List ℕ) → HamtShape → List ℕ → Data → Moment → Result (Vec Listed) OpenFault → Moment → Type 0
RowsAnswer h p at t m (Ok rows) n = RowsStand p at t m rows.items × FromBlocks n (λ held. AreRows h p held t rows.items)
RowsAnswer h p at t m (Err e) n = Stops (NoRoot h p t m) (BrokenTree h p at t m n) m e n

-- the rows of the HAMT whose root these data are
pub record ListsRows (h : List ℕ → List ℕ) (p : HamtShape) (at : List ℕ) (t : Data) (m : Moment) (result : Result (Vec Listed) OpenFault) (n : Moment) : Type 0 where
  pub answer : RowsAnswer h p at t m result n
  pub only : OnlyReads m n
  pub gets : (held : List (List ℕ)) (fs : List (List ℕ × Data)) → m.blocks ≡ Some held → AreTexts fs → IsRootOf (block_at held) h p t fs → n.gets ≤ m.gets + length (beneath h p fs)

abbrev pub ListsRoot : (List ℕ → List ℕ) → HamtShape → List ℕ → Piece → Moment → Result (Vec Listed) OpenFault → Moment → Type 0
ListsRoot h p at piece m r n = (rows : List Row) (t : Data) → StandsFor rows piece t → ListsRows h p at t m r n

-- ---- one row

-- the row spells data within the limits of a block
pub record IsSpelledRow (row : Listed) : Type 0 where
  pub tree : Data
  pub is : IsBlockOf row.value tree

-- the refusal of a key or of a value that stands in a block
abbrev pub part_fault : BlockId → ViewErr → OpenFault
part_fault id (E.Shape ty why at) = F.Block id (B.Shape why)
part_fault id E.Memory = F.Memory

module _ (rows : List Row) (room : ℕ) (key : TypeNo) (value : Slot) (row : Listed) where
  -- the node is the value that the row spells; it has a front, and the key fits
  pub record IsItemOf (item : Node) : Type 0 where
    pub tree : Data
    pub spelled : IsBlockOf row.value tree
    pub stands : HasData item tree
    pub keyed : KeyFits rows room key (row.key, tree)
    pub front : HasFront rows room (value, tree)

  pub record IsWrongRow (why : BlockWhy) : Type 0 where
    pub tree : Data
    pub spelled : IsBlockOf row.value tree
    pub cause : Why
    pub told_is : why ≡ B.Shape cause
    pub wrong : IsWrongPart rows room key value row.key tree cause

  abbrev pub RowAnswer : Result Node OpenFault → Type 0
  RowAnswer (Ok item) = IsItemOf item
  RowAnswer (Err (F.Block id why)) = (id ≡ row.block) × IsWrongRow why
  RowAnswer (Err F.Store) = ⊥
  RowAnswer (Err F.Memory) = Unit {0}

-- ---- all rows in turn

-- the rows spell the entries
pub record AreSpelled (es : List (List ℕ × Data)) (listed : List Listed) : Type 0 where
  pub made : map spelled_pair es ≡ map row_pair listed
  pub trees : AllByRecursion (λ e. IsTree e.1) es

-- something is wrong in the value that a row spells, which stands in the block of the row
pub record HasBroken (h : List ℕ → List ℕ) (rows : List Row) (room : ℕ) (u : Slot) (row : Listed) (m n : Moment) (id : List ℕ) (why : BlockWhy) : Type 0 where
  pub tree : Data
  pub spelled : IsBlockOf row.value tree
  pub wrong : BrokenPart h row.block.0 rows room (u, tree) m n id why

module _ (h : List ℕ → List ℕ) (rows : List Row) (room : ℕ) (keep : Bool) (key : TypeNo) (u : Slot) (listed : List Listed) where
  abbrev pub map_made : List (List ℕ × Data) → List Value → Value
  map_made es vs = V.map (pairs_of (entry_values es vs))

  -- no keys that fit and values that are held
  abbrev pub NoEntries : Moment → Type 0
  NoEntries m = (es : List (List ℕ × Data)) → AreSpelled es listed → AllByRecursion (KeyFits rows room key) es → NoValues h rows room (entry_parts u es) m

  -- values for the entries follow, and those that are to be kept make the map
  abbrev pub EntriesHeld : List (List ℕ × Data) → Val → Moment → Type 0
  EntriesHeld es val n = FromBlocks n (λ held. HasValues h rows room (entry_parts u es) keep held (λ vs. value_of val ≡ map_made es vs))

  -- something is wrong with the entry of a row, or in its value
  abbrev pub BrokenRows : Moment → Moment → List ℕ → BlockWhy → Type 0
  BrokenRows m n id why = (row : Listed) × Contains listed row × (((id ≡ row.block.0) × IsWrongRow rows room key u row why) ⊎ HasBroken h rows room u row m n id why)

  -- the entries that the rows spell, whose keys fit, were read; no others are spelled so, as these are within the limits
  pub record EntriesRead (val : Val) (n : Moment) : Type 0 where
    pub entries : List (List ℕ × Data)
    pub spelled : AreSpelled entries listed
    pub within : AllByRecursion (λ e. IsWithin e.1) entries
    pub keys : AllByRecursion (KeyFits rows room key) entries
    pub held : EntriesHeld entries val n

  abbrev pub EntriesAnswer : Moment → Result Val OpenFault → Moment → Type 0
  EntriesAnswer m (Ok val) n = EntriesRead val n
  EntriesAnswer m (Err e) n = Stops (NoEntries m) (BrokenRows m n) m e n

  -- the entries that the rows spell were read, and the map is made of their values
  pub record ReadsRows (m : Moment) (result : Result Val OpenFault) (n : Moment) : Type 0 where
    pub answer : EntriesAnswer m result n
    pub only : OnlyReads m n
    pub gets : (es : List (List ℕ × Data)) → AreSpelled es listed → (held : List (List ℕ)) (vs : List Value) → m.blocks ≡ Some held → PartsHaveValues (block_at held) h rows room (entry_parts u es) vs
        → n.gets ≤ m.gets + nodes_in h rows (entry_parts u es) vs

-- where null isn't among the values that may be null otherwise
abbrev pub ReadsListed : (List ℕ → List ℕ) → List Row → ℕ → Bool → TypeNo → Slot → List Listed → Moment → Result Val OpenFault → Moment → Type 0
ReadsListed h rows room keep key u listed m r n = IsSafe rows u → ReadsRows h rows room keep key u listed m r n

-- ---- the whole

-- the value of a slot whose data are the root of a HAMT
abbrev pub ReadsHamt : (List ℕ → List ℕ) → HamtShape → List ℕ → List Row → ℕ → Bool → TypeNo → Slot → Piece → Moment → Result Val OpenFault → Moment → Type 0
ReadsHamt h p at rows room keep key value piece m r n =
    (s : Slot) (t : Data) (key_at place whole : ℕ) → StandsFor rows piece t → form_of rows s ≡ Some (D.Map key key_at value place (MF.Hamt p)) → whole ≡ room + 5 → whole ≤ deepest
    → IsFronted rows whole s t → Reads h at rows whole (s, t) keep m r n
