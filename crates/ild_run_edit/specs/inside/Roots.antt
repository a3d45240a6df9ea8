-- What an edit of a document makes: its new root block.
use Rattle.std.specs.Prelude.{◌≡◌, ℕ, ◌+◌, ◌≤◌, List, Some, Result, Ok, Err}
use Rattle.ild_data.specs.Spell.{id_of}
use Rattle.ild_edges.specs.Count.{Rose}
use Rattle.ild_edges.specs.Store.{Moment, Later, block_at}
use Rattle.ild_open_parts.specs.Reads.{OnlyReads}
use Rattle.ild_schema.specs.declared.number.TypeNo.{TypeNo}
use Rattle.ild_schema.specs.declared.row.Row.{Row}
use Rattle.ild_schema.specs.Slots.{plainly}
use Rattle.ild_schema.specs.Value.{Value}
use Rattle.ild_script.specs.declared.reply.No.{No}
use Rattle.ild_script.specs.declared.reply.No.TheVariants as N
use Rattle.ild_script_meaning.specs.Costs.{blocks_met}
use Rattle.ild_script_session.specs.Step.{Gains}
use Rattle.ild_typed.specs.At.{InSlot}
use Rattle.ild_typed.specs.Stands.{Stands, bare}
use Rattle.ild_path_edits.specs.Edit.{Edit}
use Rattle.ild_path_edits.specs.Judged.{Tests, AreTests}
use Rattle.ild_path_place.specs.Parts.{verb_in}
use Rattle.ild_path_place.specs.Tells.{IsPlaceOf}
use Rattle.ild_path_around.specs.Telling.{refusal_at}
use Rattle.ild_path_around.specs.Telling.{IsPlaceIn}
use Rattle.ild_path_place.specs.declared.fault.PathFault.{PathFault}
use Rattle.ild_path_place.specs.declared.fault.PathFault.TheVariants as F
use Rattle.ild_path_place.specs.declared.place.Place.{Place}
use Rattle.ild_path_place.specs.declared.verb.Verb.{Verb}
use Rattle.ild_run_edit.specs.inside.Moves.{Fails, MoveAnswer, due_of}
use Rattle.ild_run_standing.specs.Blame.{IsBroken}
use Rattle.ild_run_standing.specs.Standing.{IsHeldAt}
use Rattle.ild_view_doc.specs.Docs.{table_in, type_in, block_in}
use Rattle.ild_view_doc.specs.declared.doc.Doc.{Doc}

abbrev pub no_place : PathFault → No
no_place (F.Path k) = N.Path
no_place F.Mismatch = N.Mismatch
no_place (F.Block id why) = N.Block
no_place F.Store = N.Store
no_place F.Memory = N.Memory

-- the place of an edit, or why there is none
abbrev pub FindAnswer : (List ℕ → List ℕ) → List Row → List (List ℕ) → InSlot → List (List ℕ) → Verb → Moment → Result Place No → Moment → Type 0
FindAnswer h rows was p path verb m (Ok place) n = IsPlaceIn h rows was p path verb place
FindAnswer h rows was p path verb m (Err N.Path) n = refusal_at rows p path verb ≡ Some N.Path
FindAnswer h rows was p path verb m (Err N.Mismatch) n = refusal_at rows p path verb ≡ Some N.Mismatch
FindAnswer h rows was p path verb m (Err N.Store) n = Rose m.faults n.faults
FindAnswer h rows was p path verb m (Err N.Memory) n = Unit {0}
FindAnswer h rows was p path verb m (Err refusal) n = ⊥

pub record FindsIn (h : List ℕ → List ℕ) (rows : List Row) (was : List (List ℕ)) (p : InSlot) (path : List (List ℕ)) (verb : Verb) (m : Moment) (result : Result Place No) (n : Moment) : Type 0 where
  pub answer : FindAnswer h rows was p path verb m result n
  pub gets : n.gets + 1 ≤ m.gets + blocks_met h rows p path

abbrev pub IsInDoc : Doc → Result Place No → Type 0
IsInDoc d (Ok place) = IsPlaceOf (table_in d) (type_in d) place
IsInDoc d (Err refusal) = Unit {0}

-- and one for what is asked
abbrev pub IsFor : Verb → Result Place No → Type 0
IsFor verb (Ok place) = verb_in place ≡ verb
IsFor verb (Err refusal) = Unit {0}

-- a fault of the store, and a block that is blamed, over every store; a line is not refused so, nothing is printed, and nothing put
abbrev pub FindFails : (List ℕ → List ℕ) → Doc → Moment → Result Place No → Moment → Type 0
FindFails h d m (Err N.Store) n = Rose m.faults n.faults
FindFails h d m (Err N.Block) n = IsBroken h d m.blocks m.lacks n.lacks
FindFails h d m (Err N.Line) n = ⊥
FindFails h d m (Err N.Reserved) n = ⊥
FindFails h d m (Err N.Batch) n = ⊥
FindFails h d m (Err N.Clash) n = ⊥
FindFails h d m result n = Unit {0}

pub record PlaceIsFound (h : List ℕ → List ℕ) (d : Doc) (verb : Verb) (path : List (List ℕ)) (m : Moment) (result : Result Place No) (n : Moment) : Type 0 where
  pub only : OnlyReads m n
  pub of : IsInDoc d result
  pub done : IsFor verb result
  pub fails : FindFails h d m result n
  pub stands : (held : List (List ℕ)) (v : Value) → m.blocks ≡ Some held → block_at held (id_of (block_in d)) ≡ Some (block_in d)
      → Stands bare (block_at held) h (table_in d) (type_in d) (id_of (block_in d)) v → FindsIn h (table_in d) held (plainly (type_in d), v) path verb m result n

-- as a line that asks for the edit is due
pub record RootIsMade (h : List ℕ → List ℕ) (rows : List Row) (t : Tests) (n : TypeNo) (v : Value) (e : Edit (List ℕ)) (m : Moment) (result : Result (List ℕ) No) (k : Moment) : Type 0 where
  pub answer : MoveAnswer h rows t n v e m result k
  pub gains : Gains m (due_of h rows t n v e) k
  pub still : (due_of h rows t n v e).puts ≡ 0 → k.blocks ≡ m.blocks
  pub gets : k.gets ≤ m.gets + (due_of h rows t n v e).gets
  pub puts : k.puts ≤ m.puts + (due_of h rows t n v e).puts

-- the same of the edit
abbrev pub RootFails : (List ℕ → List ℕ) → Doc → Moment → Result (List ℕ) No → Moment → Type 0
RootFails h d m (Err N.Block) k = IsBroken h d m.blocks m.lacks k.lacks
RootFails h d m result k = Fails m result k

pub record MakesRoot (h : List ℕ → List ℕ) (d : Doc) (e : Edit (List ℕ)) (m : Moment) (result : Result (List ℕ) No) (k : Moment) : Type 0 where
  pub later : Later m k
  pub fails : RootFails h d m result k
  pub makes : (t : Tests) (v : Value) → AreTests (table_in d) t → IsHeldAt h d t m v → RootIsMade h (table_in d) t (type_in d) v e m result k
