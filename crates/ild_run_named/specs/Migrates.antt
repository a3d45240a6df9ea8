-- What giving the value under a bare root one that names its schema answers, and what it leaves of the store.
use Rattle.std.specs.Prelude.{◌≡◌, ◌⊎◌, ℕ, ◌+◌, ◌<◌, ◌≤◌, List, [], ◌∷◌, length, Some, Result, Ok, Err}
use Rattle.std.specs.List.{AllByRecursion}
use Rattle.ild_cbor.specs.declared.why.BlockWhy.{BlockWhy}
use Rattle.ild_data.specs.Bytes.{AreBytes}
use Rattle.ild_data.specs.Data.{Data}
use Rattle.ild_data.specs.Limits.{longest_block}
use Rattle.ild_data.specs.Spell.{id_of}
use Rattle.ild_data.specs.declared.id.BlockId.{BlockId}
use Rattle.ild_edges.specs.Among.{IsIn}
use Rattle.ild_edges.specs.Collide.{Collide}
use Rattle.ild_edges.specs.Count.{Rose}
use Rattle.ild_edges.specs.Gained.{AddsOnly, FromBlocks, Holds, OnlyReads}
use Rattle.ild_edges.specs.Store.{Moment, Later, block_at}
use Rattle.ild_edges.specs.Told.{BothTold}
use Rattle.ild_named.specs.Named.{named, schema_block}
use Rattle.ild_named_root.specs.Names.{HasRoom, InOrder, Names, new_blocks, root_block}
use Rattle.ild_named_root.specs.declared.fault.NameFault.{NameFault}
use Rattle.ild_named_root.specs.declared.fault.NameFault.TheVariants as N
use Rattle.ild_open.specs.Broken.{IsRefused}
use Rattle.ild_open.specs.Opened.{NoneStands, StandsInBlock}
use Rattle.ild_schema.specs.Value.{Value}
use Rattle.ild_schema.specs.declared.number.TypeNo.{TypeNo}
use Rattle.ild_schema.specs.declared.row.Row.{Row}
use Rattle.ild_typed.specs.Stands.{Stands, bare, root_id}
use Rattle.ild_run_named.specs.declared.migrating.MigrateFault.{MigrateFault}
use Rattle.ild_run_named.specs.declared.migrating.MigrateFault.TheVariants as F

-- one of the two blocks over these data is longer than a block may be
abbrev pub IsTooLong : List ℕ → List ℕ → Data → Type 0
IsTooLong name source d = (longest_block < length (schema_block source)) ⊎ (longest_block < length (root_block name source d))

-- the value, with these data, nests at most 95 levels, and neither block is
pub record IsMovable (rows : List Row) (ty : TypeNo) (name source : List ℕ) (v : Value) (d : Data) : Type 0 where
  pub room : HasRoom rows ty v
  pub short : AllByRecursion (λ block. length block ≤ longest_block) (new_blocks name source d)

module _ (h : List ℕ → List ℕ) (rows : List Row) (ty : TypeNo) (root name source : List ℕ) where
  -- ---- of a value that stands under the bare root, where the store tells what it holds

  -- it stands beneath the new root, whose block is the one over its data
  pub record IsMoved (v : Value) (d : Data) (id : List ℕ) (n : Moment) : Type 0 where
    pub movable : IsMovable rows ty name source v d
    pub root_is : id ≡ root_id (named name source) d
    pub stands : (now : List (List ℕ)) → n.blocks ≡ Some now → Stands (named name source) (block_at now) h rows ty id v

  -- the block with this id, one of the two over its data, collides with one that is held
  pub record HasCollision (d : Data) (id : List ℕ) (n : Moment) : Type 0 where
    pub kept : List ℕ
    pub new : List ℕ
    pub among : IsIn new (new_blocks name source d)
    pub held : Holds n (kept ∷ [])
    pub collide : Collide kept new
    pub id_is : id ≡ id_of new

  -- it stands beneath the new root, or it nests too deep; or else one of the two blocks is too long, or other bytes are kept under its id
  abbrev pub OfValue : Moment → (held : List (List ℕ)) (v : Value) → Stands bare (block_at held) h rows ty root v → Result BlockId MigrateFault → Moment → Type 0
  OfValue m held v st (Ok id) n = IsMoved v st.tree id.0 n
  OfValue m held v st (Err F.Depth) n = HasRoom rows ty v → ⊥
  OfValue m held v st (Err F.Size) n = HasRoom rows ty v × IsTooLong name source st.tree
  OfValue m held v st (Err (F.Block id why)) n = ⊥
  OfValue m held v st (Err F.Store) n = Unit {0}
  OfValue m held v st (Err (F.Clash id)) n = IsMovable rows ty name source v st.tree × HasCollision st.tree id.0 n
  OfValue m held v st (Err F.Memory) n = Unit {0}

  pub record IsOfValue (m : Moment) (held : List (List ℕ)) (v : Value) (st : Stands bare (block_at held) h rows ty root v) (result : Result BlockId MigrateFault) (n : Moment) : Type 0 where
    pub answer : OfValue m held v st result n
    pub adds : AddsOnly m n (new_blocks name source st.tree)
    pub order : BothTold m.blocks n.blocks (InOrder name source st.tree)

  -- ---- over every store

  -- a value was opened in this block, as follows from blocks that gets gave; and then the block was given this answer
  pub record WasOpened (m : Moment) (result : Result BlockId NameFault) (n : Moment) : Type 0 where
    pub moment : Moment
    pub block : List ℕ
    pub root_is : id_of block ≡ root
    pub reads : OnlyReads m moment
    pub opened : FromBlocks moment (λ held. (v : Value) × StandsInBlock h rows ty root held block v)
    pub names : Names h rows ty block name source moment result n

  -- no value was, and a block is refused for a cause that holds, by gets alone
  pub record NotOpened (m : Moment) (at : List ℕ) (why : BlockWhy) (n : Moment) : Type 0 where
    pub none : NoneStands h rows ty root m
    pub refused : IsRefused h rows m.blocks m.lacks n.lacks ty root at why
    pub reads : OnlyReads m n

  abbrev pub MigrateAnswer : Moment → Result BlockId MigrateFault → Moment → Type 0
  MigrateAnswer m (Ok id) n = WasOpened m (Ok id) n
  MigrateAnswer m (Err F.Depth) n = WasOpened m (Err N.Depth) n
  MigrateAnswer m (Err F.Size) n = WasOpened m (Err N.Size) n
  MigrateAnswer m (Err (F.Block id why)) n = NotOpened m id.0 why n ⊎ WasOpened m (Err (N.Block id why)) n
  MigrateAnswer m (Err F.Store) n = Rose m.faults n.faults
  MigrateAnswer m (Err (F.Clash id)) n = (kept new : List ℕ) × AreBytes kept × AreBytes new × WasOpened m (Err (N.Clash id kept new)) n
  MigrateAnswer m (Err F.Memory) n = Unit {0}

  -- a value is migrated
  pub record Migrates (m : Moment) (result : Result BlockId MigrateFault) (n : Moment) : Type 0 where
    pub answer : MigrateAnswer m result n
    pub value : (held : List (List ℕ)) (v : Value) → m.blocks ≡ Some held → (st : Stands bare (block_at held) h rows ty root v) → IsOfValue m held v st result n
    pub later : Later m n
    pub puts : n.puts ≤ m.puts + 2
