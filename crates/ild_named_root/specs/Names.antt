-- What giving a value a root that names its schema answers, and what it leaves of the store.
use Rattle.std.specs.Prelude.{◌≡◌, ◌⊎◌, ℕ, ◌+◌, ◌<◌, ◌≤◌, List, [], ◌∷◌, length, Some, Result, Ok, Err, IfErr}
use Rattle.std.specs.List.{AllByRecursion}
use Rattle.ild_cbor.specs.Block.{IsBlockOf}
use Rattle.ild_cbor.specs.declared.why.BlockWhy.{BlockWhy}
use Rattle.ild_data.specs.Data.{Data}
use Rattle.ild_data.specs.Limits.{longest_block}
use Rattle.ild_data.specs.Spell.{id_of, spell}
use Rattle.ild_data.specs.declared.id.BlockId.{BlockId}
use Rattle.ild_edges.specs.Among.{IsIn}
use Rattle.ild_edges.specs.Count.{Rose}
use Rattle.ild_edges.specs.Gained.{AddsOnly, Clashes, FromBlocks, Holds, OnlyReads}
use Rattle.ild_edges.specs.Store.{Moment, Later, block_at}
use Rattle.ild_edges.specs.Told.{BothTold}
use Rattle.ild_named.specs.Named.{AreNaming, named, named_data, schema_block}
use Rattle.ild_open.specs.Opened.{StandsInBlock}
use Rattle.ild_open_held.specs.Held.{IsHeld}
use Rattle.ild_open_held.specs.Splits.{HasFront}
use Rattle.ild_open_parts.specs.Reads.{BrokenPart}
use Rattle.ild_schema.specs.Slots.{plainly}
use Rattle.ild_schema.specs.Value.{Value}
use Rattle.ild_schema.specs.declared.number.TypeNo.{TypeNo}
use Rattle.ild_schema.specs.declared.row.Row.{Row}
use Rattle.ild_typed.specs.Blocks.{nodes}
use Rattle.ild_typed.specs.Fits.{Fits}
use Rattle.ild_typed.specs.Stands.{Stands, root_id}
use Rattle.ild_named_root.specs.declared.fault.NameFault.{NameFault}
use Rattle.ild_named_root.specs.declared.fault.NameFault.TheVariants as F

-- the root over these data
abbrev pub root_block : List ℕ → List ℕ → Data → List ℕ
root_block name source t = spell (named_data name (id_of (schema_block source)) t)

-- the blocks that come, the schema's first
abbrev pub new_blocks : List ℕ → List ℕ → Data → List (List ℕ)
new_blocks name source t = schema_block source ∷ root_block name source t ∷ []

-- the root came only behind the schema's block
abbrev pub InOrder : List ℕ → List ℕ → Data → List (List ℕ) → List (List ℕ) → Type 0
InOrder name source t was now =
    block_at now (id_of (root_block name source t)) ≡ Some (root_block name source t)
    → (block_at was (id_of (root_block name source t)) ≡ Some (root_block name source t)) ⊎ (block_at now (id_of (schema_block source)) ≡ Some (schema_block source))

-- the store is told as failing only where it failed
abbrev pub Failed : Moment → NameFault → Moment → Type 0
Failed m F.Store n = Rose m.faults n.faults
Failed m e n = Unit {0}

-- ---- a document's data

-- these data of a type are the tree of the block
pub record AreDocData (rows : List Row) (ty : TypeNo) (b : List ℕ) (t : Data) : Type 0 where
  pub block : IsBlockOf b t
  pub front : HasFront rows 96 (plainly ty, t)

-- the value nests at most 95 levels
abbrev pub HasRoom : List Row → TypeNo → Value → Type 0
HasRoom rows ty v = Fits rows 95 (plainly ty) v

-- a value of the data is held that does
abbrev pub HasBeneath : (List ℕ → List ℕ) → List Row → TypeNo → Data → List (List ℕ) → Type 0
HasBeneath h rows ty t held = (v : Value) × IsHeld (block_at held) h rows 95 (plainly ty) t v

-- so it was found, as follows from the blocks that gets gave until some moment
pub record WasRead (h : List ℕ → List ℕ) (rows : List Row) (ty : TypeNo) (t : Data) (m n : Moment) : Type 0 where
  pub moment : Moment
  pub reads : OnlyReads m moment
  pub later : Later moment n
  pub beneath : FromBlocks moment (HasBeneath h rows ty t)

module _ (h : List ℕ → List ℕ) (rows : List Row) (ty : TypeNo) (b : List ℕ) where
  -- what is said of the value that stands as this block, where the store tells what it holds
  abbrev pub OfStanding : Moment → (List (List ℕ) → Value → Type 0) → Type 0
  OfStanding m Said = (held : List (List ℕ)) (v : Value) → m.blocks ≡ Some held → StandsInBlock h rows ty (id_of b) held b v → Said held v

  -- until some moment a block was refused, where room for 95 levels was left to the data
  pub record WasRefused (t : Data) (m n : Moment) : Type 0 where
    pub moment : Moment
    pub reads : OnlyReads m moment
    pub later : Later moment n
    pub at : List ℕ
    pub why : BlockWhy
    pub broken : BrokenPart h (id_of b) rows 95 (plainly ty, t) m moment at why

  -- the value nests deeper: the block by itself does, or a block of its HAMTs was refused
  pub record IsDeep (t : Data) (m n : Moment) : Type 0 where
    pub none : OfStanding m (λ held v. HasRoom rows ty v → ⊥)
    pub deeper : (HasFront rows 95 (plainly ty, t) → ⊥) ⊎ WasRefused t m n

  -- no value stands as this block, and a block of its HAMTs is refused for a cause that holds
  pub record IsBroken (t : Data) (m : Moment) (id : List ℕ) (why : BlockWhy) (n : Moment) : Type 0 where
    pub none : OfStanding m (λ held v. ⊥)
    pub broken : BrokenPart h (id_of b) rows 96 (plainly ty, t) m n id why

  -- ---- the answer

  module _ (name source : List ℕ) where
    -- one of the two blocks is longer than a block may be, and the value nests at most 95 levels
    pub record IsLong (t : Data) (m n : Moment) : Type 0 where
      pub read : WasRead h rows ty t m n
      pub room : OfStanding m (λ held v. HasRoom rows ty v)
      pub long : (longest_block < length (schema_block source)) ⊎ (longest_block < length (root_block name source t))

    -- neither is, and the value nests at most 95 levels
    pub record AreFit (t : Data) (m n : Moment) : Type 0 where
      pub read : WasRead h rows ty t m n
      pub room : OfStanding m (λ held v. HasRoom rows ty v)
      pub short : AllByRecursion (λ block. length block ≤ longest_block) (new_blocks name source t)

    -- other bytes are kept under the id of one of them
    pub record HasClash (t : Data) (m : Moment) (id kept new : List ℕ) (n : Moment) : Type 0 where
      pub fit : AreFit t m n
      pub among : IsIn new (new_blocks name source t)
      pub clash : Clashes n id kept new

    -- both are held, and a value that stood stands beneath the root
    pub record HasNamed (t : Data) (m : Moment) (id : List ℕ) (n : Moment) : Type 0 where
      pub fit : AreFit t m n
      pub naming : AreNaming name source
      pub root : id ≡ root_id (named name source) t
      pub held : Holds n (new_blocks name source t)
      pub stands : OfStanding m (λ held v. (now : List (List ℕ)) → n.blocks ≡ Some now → Stands (named name source) (block_at now) h rows ty id v)

    abbrev pub NameAnswer : Data → Moment → Result BlockId NameFault → Moment → Type 0
    NameAnswer t m (Ok id) n = HasNamed t m id.0 n
    NameAnswer t m (Err F.Depth) n = IsDeep t m n
    NameAnswer t m (Err F.Size) n = IsLong t m n
    NameAnswer t m (Err F.Store) n = Rose m.faults n.faults
    NameAnswer t m (Err (F.Clash id kept new)) n = HasClash t m id.0 kept new n
    NameAnswer t m (Err (F.Block id why)) n = IsBroken t m id.0 why n
    NameAnswer t m (Err F.Memory) n = Unit {0}

    -- of the data of the document's block
    pub record NamesData (t : Data) (m : Moment) (result : Result BlockId NameFault) (n : Moment) : Type 0 where
      pub answer : NameAnswer t m result n
      pub adds : AddsOnly m n (new_blocks name source t)
      pub order : BothTold m.blocks n.blocks (InOrder name source t)

    -- a value is given such a root: no more gets than it has nodes of HAMTs, unless it nests too deep, and two puts at most
    pub record Names (m : Moment) (result : Result BlockId NameFault) (n : Moment) : Type 0 where
      pub each : (t : Data) → AreDocData rows ty b t → NamesData t m result n
      pub later : Later m n
      pub failed : IfErr result (λ e. Failed m e n)
      pub gets : OfStanding m (λ held v. HasRoom rows ty v → n.gets ≤ m.gets + length (nodes h rows (plainly ty) v))
      pub puts : n.puts ≤ m.puts + 2
