-- What an edit of a value makes of a store: outside a batch, where the store tells what it holds.
use Rattle.std.specs.Prelude.{◌≡◌, ◌⊎◌, ℕ, ◌+◌, ◌≤◌, false, IsUtf8, List, Bool, Some, Result, Ok, Err}
use Rattle.std.specs.List.{AllByRecursion}
use Rattle.ild_edges.specs.Gained.{AreIdsGiven}
use Rattle.ild_build_blocks.specs.declared.fault.BuildFault.{BuildFault}
use Rattle.ild_build_blocks.specs.declared.fault.BuildFault.TheVariants as B
use Rattle.ild_cbor.specs.Block.{IsBlockOf}
use Rattle.ild_data.specs.Data.{Data}
use Rattle.ild_data.specs.Spell.{spell}
use Rattle.ild_edges.specs.Count.{Rose}
use Rattle.ild_edges.specs.Told.{IfTold}
use Rattle.ild_open_held.specs.Held.{IsHeld}
use Rattle.ild_edges.specs.Store.{Moment, Later, block_at}
use Rattle.ild_schema.specs.declared.number.Slot.{Slot}
use Rattle.ild_schema.specs.declared.number.TypeNo.{TypeNo}
use Rattle.ild_schema.specs.declared.row.Row.{Row}
use Rattle.ild_schema.specs.Slots.{plainly}
use Rattle.ild_schema.specs.Value.{Value}
use Rattle.ild_schema.specs.ValueSeen.{value_of}
use Rattle.ild_schema.specs.declared.val.Val.{Val}
use Rattle.ild_script.specs.declared.reply.No.{No}
use Rattle.ild_script.specs.declared.reply.No.TheVariants as N
use Rattle.ild_script_meaning.specs.Ask.{to_edit}
use Rattle.ild_script_meaning.specs.Lines.{due, read_json, new_nodes}
use Rattle.ild_script_session.specs.Session.{Due, idle}
use Rattle.ild_script_session.specs.Step.{Gains, HasCause, Holds}
use Rattle.ild_typed.specs.Blocks.{nodes}
use Rattle.ild_typed.specs.Fits.{Front}
use Rattle.ild_typed.specs.Judged.{exhausts}
use Rattle.ild_typed.specs.OfType.{TestsKeys}
use Rattle.ild_typed.specs.Stands.{Storable, bare, blocks_of}
use Rattle.ild_path_edits.specs.Edit.{Edit, set_at, ins_at, del_at, change, new_part}
use Rattle.ild_path_edits.specs.Judged.{Tests, AreTests, edited}
use Rattle.ild_path_judged.specs.Place.{bringing}
use Rattle.ild_path_around.specs.Telling.{verb_of}
use Rattle.ild_path_around.specs.Telling.{IsPlaceIn}
use Rattle.ild_path_place.specs.Tells.{room_in, slot_in, table_at, type_at}
use Rattle.ild_path_place.specs.declared.place.Place.{Place}
use Rattle.ild_path_place.specs.declared.verb.Verb.TheVariants as V
use Rattle.ild_path_room.specs.Room.{Coming, by_set, by_insert}
use Rattle.ild_path.specs.declared.fault.EditFault.{EditFault}
use Rattle.ild_path.specs.declared.fault.EditFault.TheVariants as F
use Rattle.ild_run_standing.specs.Answers.{PassesOn}
use Rattle.ild_run_edit.specs.inside.Judges.{IsFreeChange}

-- the part that a json text means in a slot, whichever test of keys is asked; or why it means none
abbrev pub PartAnswer : List Row → Slot → List ℕ → Result Val No → Type 0
PartAnswer rows slot json (Ok v) = (is_key : ℕ → List ℕ → Bool) → TestsKeys rows is_key → new_part rows is_key read_json (Some slot) json ≡ Ok (value_of v)
PartAnswer rows slot json (Err N.Json) = (is_key : ℕ → List ℕ → Bool) → TestsKeys rows is_key → new_part rows is_key read_json (Some slot) json ≡ Err N.Json
PartAnswer rows slot json (Err N.Mismatch) = (is_key : ℕ → List ℕ → Bool) → TestsKeys rows is_key → new_part rows is_key read_json (Some slot) json ≡ Err N.Mismatch
PartAnswer rows slot json (Err N.Memory) = Unit {0}
PartAnswer rows slot json (Err refusal) = ⊥

-- the edit of a line that brings a part
abbrev pub line_by : Coming → List (List ℕ) → List ℕ → Edit (List ℕ)
line_by by_set path json = set_at path json
line_by by_insert path json = ins_at path json

-- what such a line is due on the value
abbrev pub due_of : (List ℕ → List ℕ) → List Row → Tests → TypeNo → Value → Edit (List ℕ) → Due Value
due_of h rows t n v e = due (record { frame = bare; hash = h; rows = rows; tests = t; ty = n }) (to_edit e) (idle v)

abbrev pub edited_by : (List ℕ → List ℕ) → List Row → Tests → TypeNo → Value → Edit (List ℕ) → Result Value No
edited_by h rows t n v e = edited bare h rows t read_json n v e

-- the root block of the changed value, whose blocks are held; or its refusal, or one for a cause that is there
pub record IsNewRoot (h : List ℕ → List ℕ) (rows : List Row) (t : Tests) (n : TypeNo) (v : Value) (e : Edit (List ℕ)) (b : List ℕ) (k : Moment) : Type 0 where
  pub value : Value
  pub tree : Data
  pub edited : edited_by h rows t n v e ≡ Ok value
  pub storable : Storable bare h rows n value tree
  pub spelled : b ≡ spell tree
  pub holds : Holds k (blocks_of bare h rows n value tree)
  pub passed : IfTold k.given (λ now. PassesOn (record { frame = bare; hash = h; rows = rows; tests = t; ty = n }) now v value)

abbrev pub MoveAnswer : (List ℕ → List ℕ) → List Row → Tests → TypeNo → Value → Edit (List ℕ) → Moment → Result (List ℕ) No → Moment → Type 0
MoveAnswer h rows t n v e m (Ok b) k = IsNewRoot h rows t n v e b k
MoveAnswer h rows t n v e m (Err refusal) k = (edited_by h rows t n v e ≡ Err refusal) ⊎ HasCause m (due_of h rows t n v e).adds refusal k

-- no more came, by no more puts, than the line may add
pub record Moves (h : List ℕ → List ℕ) (rows : List Row) (t : Tests) (n : TypeNo) (v : Value) (e : Edit (List ℕ)) (m : Moment) (result : Result (List ℕ) No) (k : Moment) : Type 0 where
  pub answer : MoveAnswer h rows t n v e m result k
  pub gains : Gains m (due_of h rows t n v e) k
  pub still : (due_of h rows t n v e).puts ≡ 0 → k.blocks ≡ m.blocks
  pub gets : k.gets ≤ m.gets
  pub puts : k.puts ≤ m.puts + (due_of h rows t n v e).puts

-- a place in a value that can be held, over a store that tells these blocks
pub record IsIn (h : List ℕ → List ℕ) (place : Place) (t : Tests) (v : Value) (path : List (List ℕ)) (m : Moment) : Type 0 where
  pub was : List (List ℕ)
  pub told : m.blocks ≡ Some was
  pub tests : AreTests (table_at place) t
  pub tree : Data
  pub storable : Storable bare h (table_at place) (type_at place) v tree
  pub texts : AllByRecursion IsUtf8 path

pub record IsComing (h : List ℕ → List ℕ) (place : Place) (t : Tests) (v : Value) (how : Coming) (path : List (List ℕ)) (m : Moment) : Type 0 where
  pub at : IsIn h place t v path m
  pub is : IsPlaceIn h (table_at place) at.was (plainly (type_at place), v) path (verb_of how) place

pub record IsGoing (h : List ℕ → List ℕ) (place : Place) (t : Tests) (v : Value) (path : List (List ℕ)) (m : Moment) : Type 0 where
  pub at : IsIn h place t v path m
  pub is : IsPlaceIn h (table_at place) at.was (plainly (type_at place), v) path V.Del place

-- a fault of the store is told where it failed, over every store; a block is never blamed
abbrev pub Fails : Moment → Result (List ℕ) No → Moment → Type 0
Fails m (Err N.Store) k = Rose m.faults k.faults
Fails m (Err N.Line) k = ⊥
Fails m (Err N.Reserved) k = ⊥
Fails m (Err N.Batch) k = ⊥
Fails m (Err N.Block) k = ⊥
Fails m result k = Unit {0}

-- Over every store: what was held is held. From a place in a value that can be held: what is due.
pub record ComesTo (h : List ℕ → List ℕ) (place : Place) (json : List ℕ) (m : Moment) (result : Result (List ℕ) No) (k : Moment) : Type 0 where
  pub later : Later m k
  pub fails : Fails m result k
  pub moves : (t : Tests) (v : Value) (how : Coming) (path : List (List ℕ)) → IsComing h place t v how path m → Moves h (table_at place) t (type_at place) v (line_by how path json) m result k

pub record GoesFrom (h : List ℕ → List ℕ) (place : Place) (m : Moment) (result : Result (List ℕ) No) (k : Moment) : Type 0 where
  pub later : Later m k
  pub fails : Fails m result k
  pub moves : (t : Tests) (v : Value) (path : List (List ℕ)) → IsGoing h place t v path m → Moves h (table_at place) t (type_at place) v (del_at path) m result k

-- the part is free by itself, and so is the changed value
pub record IsLet (h : List ℕ → List ℕ) (place : Place) (t : Tests) (v w : Value) (how : Coming) (path : List (List ℕ)) (json : List ℕ) (m : Moment) : Type 0 where
  pub coming : IsComing h place t v how path m
  pub part : new_part (table_at place) t.is_key read_json (Some (slot_in place)) json ≡ Ok w
  pub value : Value
  pub made : change (table_at place) t.is_key (plainly (type_at place), v) (bringing how path w) ≡ Ok value
  pub free : IsFreeChange h (table_at place) place w (plainly (type_at place), v) value

-- the part is built and put at its place
pub record PutsPart (h : List ℕ → List ℕ) (place : Place) (w : Value) (json : List ℕ) (m : Moment) (result : Result (List ℕ) No) (k : Moment) : Type 0 where
  pub later : Later m k
  pub fails : Fails m result k
  pub moves : (t : Tests) (v : Value) (how : Coming) (path : List (List ℕ)) → IsLet h place t v w how path json m → Moves h (table_at place) t (type_at place) v (line_by how path json) m result k

-- ---- faults of edits at a place, as refusals

abbrev pub done_fault : EditFault → No
done_fault F.Exhausted = N.Exhausted
done_fault F.NoKey = N.Path
done_fault F.Size = N.Size
done_fault F.Store = N.Store
done_fault (F.Clash id kept new) = N.Clash
done_fault F.Memory = N.Memory

abbrev pub done_as : Result (List ℕ) EditFault → Result (List ℕ) No
done_as (Ok b) = Ok b
done_as (Err fault) = Err (done_fault fault)

-- ---- the block of a part, before it comes to its place

abbrev pub built_fault : BuildFault → No
built_fault B.Exhausted = N.Exhausted
built_fault B.Size = N.Size
built_fault B.Store = N.Store
built_fault (B.Clash id kept new) = N.Clash
built_fault B.Memory = N.Memory

abbrev pub built_as : Result (List ℕ) BuildFault → Result (List ℕ) No
built_as (Ok b) = Ok b
built_as (Err fault) = Err (built_fault fault)

-- the block is that of data that have a front of the slot in the room
pub record IsPartBlock (place : Place) (b : List ℕ) : Type 0 where
  pub tree : Data
  pub block : IsBlockOf b tree
  pub room : ℕ
  pub room_is : room_in place ≡ Some room
  pub front : Value
  pub fits : Front (table_at place) room (slot_in place) front tree

-- the part's data, whose nodes are held; what came is due
pub record BuiltPart (h : List ℕ → List ℕ) (place : Place) (t : Tests) (v w : Value) (e : Edit (List ℕ)) (m : Moment) (b : List ℕ) (k : Moment) : Type 0 where
  pub tree : Data
  pub block : IsBlockOf b tree
  pub room : ℕ
  pub room_is : room_in place ≡ Some room
  pub held : IfTold k.blocks (λ now. IsHeld (block_at now) h (table_at place) room (slot_in place) tree w)
  pub given : IfTold k.given (AreIdsGiven (nodes h (table_at place) (slot_in place) w))
  pub full : exhausts h (table_at place) (slot_in place) w ≡ false
  pub gains : Gains m (due_of h (table_at place) t (type_at place) v e) k
  pub gets : k.gets ≤ m.gets
  pub puts : k.puts ≤ m.puts + new_nodes (record { frame = bare; hash = h; rows = table_at place; tests = t; ty = type_at place }) v e

abbrev pub BuildsAnswer : (List ℕ → List ℕ) → Place → Tests → Value → Value → Edit (List ℕ) → Moment → Result (List ℕ) No → Moment → Type 0
BuildsAnswer h place t v w e m (Ok b) k = BuiltPart h place t v w e m b k
BuildsAnswer h place t v w e m (Err refusal) k = Moves h (table_at place) t (type_at place) v e m (Err refusal) k

pub record BuildsPart (h : List ℕ → List ℕ) (place : Place) (w : Value) (json : List ℕ) (m : Moment) (result : Result (List ℕ) No) (k : Moment) : Type 0 where
  pub later : Later m k
  pub fails : Fails m result k
  pub builds : (t : Tests) (v : Value) (how : Coming) (path : List (List ℕ)) → IsLet h place t v w how path json m → BuildsAnswer h place t v w (line_by how path json) m result k
