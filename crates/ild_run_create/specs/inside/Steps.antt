-- What each step on the way from bytes to a block answers.
use Rattle.std.specs.Prelude.{◌≡◌, ◌⊎◌, ℕ, ◌<◌, List, Result, Ok, Err}
use Rattle.ild_build.specs.declared.judgement.Judged.{Judged}
use Rattle.ild_build.specs.declared.judgement.Judged.TheVariants as J
use Rattle.ild_data.specs.Data.{Data}
use Rattle.ild_data.specs.Spell.{spell}
use Rattle.ild_json.specs.declared.error.JsonErr.{JsonErr}
use Rattle.ild_json.specs.declared.error.JsonErr.TheVariants as JE
use Rattle.ild_schema.specs.declared.number.TypeNo.{TypeNo}
use Rattle.ild_schema.specs.declared.row.Row.{Row}
use Rattle.ild_schema.specs.Value.{Value}
use Rattle.ild_schema.specs.Slots.{plainly}
use Rattle.ild_edges.specs.Count.{Rose}
use Rattle.ild_edges.specs.Store.{Moment, Later}
use Rattle.ild_script_session.specs.declared.putting.PutFault.{PutFault}
use Rattle.ild_script_session.specs.declared.putting.PutFault.TheVariants as P
use Rattle.ild_typed.specs.Blocks.{nodes}
use Rattle.ild_typed.specs.Stands.{bare, Storable}
use Rattle.ild_edges.specs.Told.{BothTold}
use Rattle.ild_bulk_places.specs.Leaving.{AddsPlaced}
use Rattle.ild_typed_places.specs.Places.{places_in}
use Rattle.ild_build_blocks.specs.Builds.{Holds, CollidesUnder, PutsSome}
use Rattle.ild_build_blocks.specs.declared.fault.BuildFault.{BuildFault}
use Rattle.ild_build_blocks.specs.declared.fault.BuildFault.TheVariants as B
use Rattle.ild_value.specs.declared.fault.ShownErr.{ShownErr}
use Rattle.ild_value.specs.declared.fault.ShownErr.TheVariants as SE
use Rattle.ild_run_create.specs.Refuses.{ValueHas, turn, IsFirst}
use Rattle.ild_run_create.specs.declared.fault.Refusal.{Refusal}
use Rattle.ild_run_create.specs.declared.fault.Refusal.TheVariants as R
use Rattle.ild_run_create.specs.declared.fault.CreateFault.{CreateFault}
use Rattle.ild_run_create.specs.declared.fault.CreateFault.TheVariants as F

-- ---- the fault that a step's refusal is

abbrev pub json_fault : JsonErr → CreateFault
json_fault JE.Syntax = F.Refused R.Json
json_fault JE.Number = F.Refused R.Json
json_fault JE.Reserved = F.Refused R.Json
json_fault JE.Bytes = F.Refused R.Json
json_fault JE.Cid = F.Refused R.Json
json_fault JE.Memory = F.Memory

abbrev pub shown_fault : ShownErr → CreateFault
shown_fault (SE.Mismatch ty rule) = F.Refused R.Mismatch
shown_fault SE.Memory = F.Memory

abbrev pub judged_refusal : Judged → Refusal
judged_refusal J.Hole = R.Hole
judged_refusal J.Delimiter = R.Delimiter
judged_refusal J.Depth = R.Depth

-- ---- a value

abbrev pub built_fault : BuildFault → CreateFault
built_fault B.Exhausted = F.Refused R.Exhausted
built_fault B.Size = F.Refused R.Size
built_fault B.Store = F.Store
built_fault (B.Clash id kept new) = F.Clash id
built_fault B.Memory = F.Memory

abbrev pub put_fault : PutFault → CreateFault
put_fault P.Failed = F.Store
put_fault (P.Clash id) = F.Clash id
put_fault P.Memory = F.Memory

-- ---- a value

-- the first cause that a value has
pub record IsFirstOf (h : List ℕ → List ℕ) (rows : List Row) (n : TypeNo) (v : Value) (r : Refusal) : Type 0 where
  pub cause : ValueHas h rows n v r
  pub first : (q : Refusal) → turn q < turn r → ValueHas h rows n v q → ⊥

-- what the steps up to a value answer in its place
abbrev pub Stops : (List ℕ → List ℕ) → List Row → TypeNo → List ℕ → CreateFault → Type 0
Stops h rows n b (F.Refused r) = IsFirst h rows n b r
Stops h rows n b F.Store = ⊥
Stops h rows n b (F.Clash id) = ⊥
Stops h rows n b F.Memory = Unit {0}

-- ---- the block of a value, the blocks of whose nodes are put

-- a value that a store can hold, and that nothing was asked of the store but to keep blocks of its nodes
pub record TriesNodes (h : List ℕ → List ℕ) (rows : List Row) (n : TypeNo) (v : Value) (m k : Moment) : Type 0 where
  pub tree : Data
  pub storable : Storable bare h rows n v tree
  pub steps : PutsSome m (nodes h rows (plainly n) v) k
  pub children : BothTold m.blocks k.blocks (AddsPlaced (places_in h rows (plainly n) v))

-- a block that is held collides with one of these, under this id
pub record CollidesAt (m : Moment) (blocks : List (List ℕ)) (id : List ℕ) : Type 0 where
  pub kept : List ℕ
  pub new : List ℕ
  pub is : CollidesUnder m blocks id kept new

abbrev pub BlockAnswer : (List ℕ → List ℕ) → List Row → TypeNo → Value → Moment → Result (List ℕ) CreateFault → Moment → Type 0
BlockAnswer h rows n v m (Ok block) k = (tries : TriesNodes h rows n v m k) × (block ≡ spell tries.tree) × Holds k (nodes h rows (plainly n) v)
BlockAnswer h rows n v m (Err (F.Refused r)) k = IsFirstOf h rows n v r × (k ≡ m)
BlockAnswer h rows n v m (Err F.Store) k = Rose m.faults k.faults × TriesNodes h rows n v m k
BlockAnswer h rows n v m (Err (F.Clash id)) k = CollidesAt k (nodes h rows (plainly n) v) id.0 × TriesNodes h rows n v m k
BlockAnswer h rows n v m (Err F.Memory) k = (k ≡ m) ⊎ TriesNodes h rows n v m k

pub record HasBlock (h : List ℕ → List ℕ) (rows : List Row) (n : TypeNo) (v : Value) (m : Moment) (result : Result (List ℕ) CreateFault) (k : Moment) : Type 0 where
  pub answer : BlockAnswer h rows n v m result k
  pub later : Later m k
