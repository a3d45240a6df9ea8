-- What making a proof answers, and what it leaves of the store: the JSON of its blocks, which say what stands at the path; or why there is none.
use Rattle.std.specs.Prelude.{◌≡◌, ℕ, ◌+◌, ◌≤◌, List, length, Some, Result, Ok, Err}
use Rattle.ild_cbor.specs.declared.why.BlockWhy.{BlockWhy}
use Rattle.ild_edges.specs.Count.{Rose}
use Rattle.ild_edges.specs.Gained.{OnlyReads}
use Rattle.ild_edges.specs.Store.{Moment, block_at}
use Rattle.ild_inclusion.specs.Says.{BlocksSay}
use Rattle.ild_inclusion.specs.declared.answer.Answer.{Answer}
use Rattle.ild_inclusion_prove.specs.Proves.{ProvesOf}
use Rattle.ild_json.specs.Printing.{json_text}
use Rattle.ild_open.specs.Broken.{IsRefused}
use Rattle.ild_open.specs.Opened.{NoneStands}
use Rattle.ild_path_inward.specs.Levels.{met_on}
use Rattle.ild_run_verify.specs.Proof.{IsProof, blocks_data}
use Rattle.ild_schema.specs.Slots.{plainly}
use Rattle.ild_schema.specs.Value.{Value}
use Rattle.ild_schema.specs.declared.number.TypeNo.{TypeNo}
use Rattle.ild_schema.specs.declared.row.Row.{Row}
use Rattle.ild_typed.specs.Stands.{bare, blocks_of, Stands}
use Rattle.ild_run_prove.specs.declared.fault.ProveFault.{ProveFault}
use Rattle.ild_run_prove.specs.declared.fault.ProveFault.TheVariants as F

-- the text is the JSON of the list of the blocks, which is read back
pub record Prints (blocks : List (List ℕ)) (json : List ℕ) : Type 0 where
  pub printed : json_text (blocks_data blocks) ≡ Some json
  pub read : IsProof json blocks

module _ (h : List ℕ → List ℕ) (rows : List Row) (n : TypeNo) (id : List ℕ) (path : List (List ℕ)) where
  -- The JSON of a list of blocks, which are read back of it. They say something of the path; and what they say a value answers that stands under the
  -- id in a store that tells what it holds.
  pub record HasProof (m : Moment) (json : List ℕ) : Type 0 where
    pub blocks : List (List ℕ)
    pub prints : Prints blocks json
    pub says : ∥ ((a : Answer) × BlocksSay h rows n id path blocks a) ∥₁
    pub held : (held : List (List ℕ)) (v : Value) → m.blocks ≡ Some held → Stands bare (block_at held) h rows n id v → ProvesOf h rows n id v path blocks

  -- no value stands under the id, where the store tells what it holds; and the block under this one is refused for a cause that holds
  pub record NotProved (m : Moment) (at : List ℕ) (why : BlockWhy) (k : Moment) : Type 0 where
    pub none : NoneStands h rows n id m
    pub refused : ∥ IsRefused h rows m.blocks m.lacks k.lacks n id at why ∥₁

  abbrev pub ProveAnswer : Moment → Result (List ℕ) ProveFault → Moment → Type 0
  ProveAnswer m (Ok json) k = HasProof m json
  ProveAnswer m (Err (F.Block at why)) k = NotProved m at.0 why k
  ProveAnswer m (Err F.Store) k = Rose m.faults k.faults
  ProveAnswer m (Err F.Memory) k = Unit {0}

  -- a proof is made: by gets alone, no more of them than opening the value and the nodes on the path's way take
  pub record ProvesPath (m : Moment) (result : Result (List ℕ) ProveFault) (k : Moment) : Type 0 where
    pub answer : ProveAnswer m result k
    pub reads : OnlyReads m k
    pub gets : (held : List (List ℕ)) (v : Value) → m.blocks ≡ Some held → (st : Stands bare (block_at held) h rows n id v)
        → k.gets ≤ m.gets + length (blocks_of bare h rows n v st.tree) + met_on h rows (plainly n, v) path
