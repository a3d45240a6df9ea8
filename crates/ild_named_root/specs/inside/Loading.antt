-- What is read of a document's value before its blocks are written.
use Rattle.std.specs.Prelude.{ℕ, ◌+◌, ◌≤◌, false, List, length, Result, Ok, Err, IfErr}
use Rattle.ild_cbor.specs.Block.{IsBlockOf}
use Rattle.ild_data.specs.Data.{Data}
use Rattle.ild_data.specs.Spell.{id_of}
use Rattle.ild_edges.specs.Count.{Rose}
use Rattle.ild_edges.specs.Gained.{FromBlocks, OnlyReads}
use Rattle.ild_edges.specs.Store.{Moment}
use Rattle.ild_open_held.specs.Splits.{HasFront, Part}
use Rattle.ild_open_parts.specs.Reads.{Reads}
use Rattle.ild_open_parts.specs.declared.fault.OpenFault.{OpenFault}
use Rattle.ild_schema.specs.Slots.{plainly}
use Rattle.ild_schema.specs.declared.number.TypeNo.{TypeNo}
use Rattle.ild_schema.specs.declared.row.Row.{Row}
use Rattle.ild_schema.specs.declared.val.Val.{Val}
use Rattle.ild_typed.specs.Blocks.{nodes}
use Rattle.ild_view_walk.specs.declared.fault.ViewErr.{ViewErr}
use Rattle.ild_view_walk.specs.declared.fault.ViewErr.TheVariants as E
use Rattle.ild_named_root.specs.Names.{AreDocData, Failed, HasBeneath, HasRoom, IsBroken, IsDeep, OfStanding}
use Rattle.ild_named_root.specs.declared.fault.NameFault.{NameFault}
use Rattle.ild_named_root.specs.declared.fault.NameFault.TheVariants as F

-- the block has a front in a room
pub record HasDocFront (rows : List Row) (room : ℕ) (ty : TypeNo) (b : List ℕ) : Type 0 where
  pub tree : Data
  pub block : IsBlockOf b tree
  pub front : HasFront rows room (plainly ty, tree)

-- ---- the block by itself

abbrev pub measured : ViewErr → NameFault
measured (E.Shape type why at) = F.Depth
measured E.Memory = F.Memory

abbrev pub IsMeasuringFault : NameFault → Type 0
IsMeasuringFault F.Depth = Unit {0}
IsMeasuringFault F.Memory = Unit {0}
IsMeasuringFault e = ⊥

-- data have a front of 95 levels, or nest deeper
abbrev pub Measures : List Row → TypeNo → Data → Result (Unit {0}) NameFault → Type 0
Measures rows ty t (Ok u) = HasFront rows 95 (plainly ty, t)
Measures rows ty t (Err F.Depth) = HasFront rows 95 (plainly ty, t) → ⊥
Measures rows ty t (Err e) = Unit {0}

-- ---- with its HAMTs

-- data are read, and nothing of the value is kept
abbrev pub ReadsOver : (List ℕ → List ℕ) → List ℕ → List Row → ℕ → Part → Moment → Result (Unit {0}) OpenFault → Moment → Type 0
ReadsOver h at rows room p m (Ok u) n = (val : Val) × Reads h at rows room p false m (Ok val) n
ReadsOver h at rows room p m (Err e) n = Reads h at rows room p false m (Err e) n

-- what is read of a block's data in a room
abbrev pub ReadsDoc : (List ℕ → List ℕ) → List Row → ℕ → TypeNo → List ℕ → Moment → Result (Unit {0}) OpenFault → Moment → Type 0
ReadsDoc h rows room ty b m r n = (t : Data) → IsBlockOf b t → HasFront rows room (plainly ty, t) → ReadsOver h (id_of b) rows room (plainly ty, t) m r n

module _ (h : List ℕ → List ℕ) (rows : List Row) (ty : TypeNo) (b : List ℕ) where
  -- read in all the room of a bare root
  abbrev pub DeeperAnswer : Data → Moment → NameFault → Moment → Type 0
  DeeperAnswer t m F.Depth n = Unit {0}
  DeeperAnswer t m (F.Block id why) n = IsBroken h rows ty b t m id.0 why n
  DeeperAnswer t m F.Store n = Rose m.faults n.faults
  DeeperAnswer t m F.Memory n = Unit {0}
  DeeperAnswer t m e n = ⊥

  pub record ReadsDeeper (m : Moment) (fault : NameFault) (n : Moment) : Type 0 where
    pub only : OnlyReads m n
    pub failed : Failed m fault n
    pub each : (t : Data) → AreDocData rows ty b t → DeeperAnswer t m fault n

  -- in the room that is left
  abbrev pub BeneathAnswer : Data → Moment → Result (Unit {0}) NameFault → Moment → Type 0
  BeneathAnswer t m (Ok u) n = FromBlocks n (HasBeneath h rows ty t)
  BeneathAnswer t m (Err F.Depth) n = IsDeep h rows ty b t m n
  BeneathAnswer t m (Err (F.Block id why)) n = IsBroken h rows ty b t m id.0 why n
  BeneathAnswer t m (Err F.Store) n = Rose m.faults n.faults
  BeneathAnswer t m (Err F.Memory) n = Unit {0}
  BeneathAnswer t m (Err e) n = ⊥

  pub record LoadsBeneath (m : Moment) (result : Result (Unit {0}) NameFault) (n : Moment) : Type 0 where
    pub only : OnlyReads m n
    pub failed : IfErr result (λ e. Failed m e n)
    pub each : (t : Data) → AreDocData rows ty b t → BeneathAnswer t m result n
    pub gets : OfStanding h rows ty b m (λ held v. HasRoom rows ty v → n.gets ≤ m.gets + length (nodes h rows (plainly ty) v))
