-- What showing the value under a block id answers, and what it leaves of the store (IPLD Schemas, "type-level representation"; DAG-JSON).
use Rattle.std.specs.Prelude.{◌≡◌, ℕ, ◌+◌, ◌≤◌, List, length, Option, Some, None, Result, Ok, Err}
use Rattle.ild_cbor.specs.declared.why.BlockWhy.{BlockWhy}
use Rattle.ild_edges.specs.Gained.{FromBlocks}
use Rattle.ild_edges.specs.Count.{Rose}
use Rattle.ild_edges.specs.Store.{Moment, block_at}
use Rattle.ild_json.specs.Printing.{json_text}
use Rattle.ild_schema.specs.Slots.{plainly}
use Rattle.ild_schema.specs.Value.{Value}
use Rattle.ild_schema.specs.declared.number.TypeNo.{TypeNo}
use Rattle.ild_schema.specs.declared.row.Row.{Row}
use Rattle.ild_typed.specs.Shown.{shown}
use Rattle.ild_typed.specs.Stands.{bare, blocks_of, Stands}
use Rattle.ild_open_parts.specs.Reads.{OnlyReads}
use Rattle.ild_open.specs.Broken.{IsRefused}
use Rattle.ild_open.specs.Opened.{NoneStands}
use Rattle.ild_run_show.specs.declared.fault.ShowFault.{ShowFault}
use Rattle.ild_run_show.specs.declared.fault.ShowFault.TheVariants as F

-- this value stands under the id, as follows from the blocks that gets gave, whatever the store does beside
abbrev pub IsOpened : (List ℕ → List ℕ) → List Row → TypeNo → List ℕ → Moment → Value → Type 0
IsOpened h rows n id k v = FromBlocks k (λ held. Stands bare (block_at held) h rows n id v)

-- no value stands under the id, where the store tells what it holds; and the block under this one is refused for a cause that holds
pub record NotOpened (h : List ℕ → List ℕ) (rows : List Row) (n : TypeNo) (id : List ℕ) (m : Moment) (at : List ℕ) (why : BlockWhy) (k : Moment) : Type 0 where
  pub none : NoneStands h rows n id m
  pub refused : IsRefused h rows m.blocks m.lacks k.lacks n id at why

-- a value stands under the id, and its shown form has this JSON, or none
pub record HasShown (h : List ℕ → List ℕ) (rows : List Row) (n : TypeNo) (id : List ℕ) (k : Moment) (json : Option (List ℕ)) : Type 0 where
  pub value : Value
  pub opened : IsOpened h rows n id k value
  pub printed : json_text (shown rows (plainly n) value) ≡ json

abbrev pub ShowAnswer : (List ℕ → List ℕ) → List Row → TypeNo → List ℕ → Moment → Result (List ℕ) ShowFault → Moment → Type 0
ShowAnswer h rows n id m (Ok json) k = HasShown h rows n id k (Some json)
ShowAnswer h rows n id m (Err F.Reserved) k = HasShown h rows n id k None
ShowAnswer h rows n id m (Err (F.Block at why)) k = NotOpened h rows n id m at.0 why k
ShowAnswer h rows n id m (Err F.Store) k = Rose m.faults k.faults
ShowAnswer h rows n id m (Err F.Memory) k = Unit {0}

-- no more gets than the value has blocks that stands under the id, where the store tells what it holds
abbrev pub GetsItsBlocks : (List ℕ → List ℕ) → List Row → TypeNo → List ℕ → Moment → Moment → Type 0
GetsItsBlocks h rows n id m k =
    (held : List (List ℕ)) (v : Value) → m.blocks ≡ Some held → (st : Stands bare (block_at held) h rows n id v) → k.gets ≤ m.gets + length (blocks_of bare h rows n v st.tree)

-- a value is shown: by gets alone, no more of them than the value that stands there has blocks
pub record Shows (h : List ℕ → List ℕ) (rows : List Row) (n : TypeNo) (id : List ℕ) (m : Moment) (result : Result (List ℕ) ShowFault) (k : Moment) : Type 0 where
  pub answer : ShowAnswer h rows n id m result k
  pub reads : OnlyReads m k
  pub gets : GetsItsBlocks h rows n id m k
