-- Where a document stands: at the value whose root block it is, over a store that tells what it holds.
use Rattle.std.specs.Prelude.{◌≡◌, ◌≢◌, ℕ, ◌≤◌, List, length, Option, Some, None}
use Rattle.ild_data.specs.Data.{Data}
use Rattle.ild_data.specs.Spell.{spell, id_of}
use Rattle.ild_edges.specs.Store.{Moment}
use Rattle.ild_schema.specs.Value.{Value}
use Rattle.ild_typed.specs.Stands.{Storable, bare}
use Rattle.ild_path_edits.specs.Judged.{Tests, AreTests}
use Rattle.ild_script_session.specs.Session.{State, Stage, Meaning, resting}
use Rattle.ild_script_session.specs.Step.{Carries}
use Rattle.ild_script_meaning.specs.Lines.{Setting, typed_lines}
use Rattle.ild_script_batch.specs.Inside.{batching}
use Rattle.ild_view_doc.specs.Docs.{table_in, type_in, block_in}
use Rattle.ild_view_doc.specs.declared.doc.Doc.{Doc}

-- The block is the root block of the value. That the store holds what is beneath it is said by `Carries`, so this stays where the store changes.
pub record DocIsAt (h : List ℕ → List ℕ) (d : Doc) (m : Moment) (v : Value) : Type 0 where
  pub told : m.blocks ≢ None
  pub tree : Data
  pub storable : Storable bare h (table_in d) (type_in d) v tree
  pub block : block_in d ≡ spell tree

-- what the lines of a document's session are about
abbrev pub setting_of : (List ℕ → List ℕ) → Doc → Tests → Setting
setting_of h d tests = record { frame = bare; hash = h; rows = table_in d; tests = tests; ty = type_in d }

-- the store holds the value at which the document stands
pub record IsHeldAt (h : List ℕ → List ℕ) (d : Doc) (tests : Tests) (m : Moment) (v : Value) : Type 0 where
  pub at : DocIsAt h d m v
  pub carries : Carries (typed_lines (setting_of h d tests)) m (resting v)

-- ---- inside a batch and outside

-- The block is the root block of the value, whatever a store holds.
pub record IsOf (h : List ℕ → List ℕ) (d : Doc) (v : Value) : Type 0 where
  pub tree : Data
  pub storable : Storable bare h (table_in d) (type_in d) v tree
  pub block : block_in d ≡ spell tree

-- the document at the begin of a batch is one of the same type
pub record IsBegin (h : List ℕ → List ℕ) (d b : Doc) (kept : Value) : Type 0 where
  pub same : (table_in b ≡ table_in d) × (type_in b ≡ type_in d)
  pub of : IsOf h b kept

abbrev pub IsBegun : (List ℕ → List ℕ) → Doc → Option Doc → Option Value → Type 0
IsBegun h d None None = Unit {0}
IsBegun h d None (Some kept) = ⊥
IsBegun h d (Some b) None = ⊥
IsBegun h d (Some b) (Some kept) = IsBegin h d b kept

-- The session of a document, which inside a batch has the document at its begin, is at this state of values of its type, whatever a store
-- holds.
pub record IsAtState (d : Doc) (begun : Option Doc) (M : Meaning Value) (s : State Value) : Type 0 where
  pub tests : Tests
  pub are : AreTests (table_in d) tests
  pub means : M ≡ typed_lines (setting_of id_of d tests)
  pub value : IsOf id_of d s.value
  pub batch : IsBegun id_of d begun s.begun

-- Inside a batch with these blocks of its own: store and batch hold the value together, the store the one at the begin, and there are no
-- more blocks than puts are owed.
pub record IsInBatch (h : List ℕ → List ℕ) (d b : Doc) (own : List (List ℕ)) (tests : Tests) (m : Moment) (s : Stage Value) : Type 0 where
  pub value : Value
  pub kept : Value
  pub owed : ℕ
  pub at : DocIsAt h d m value
  pub begin : IsBegin h d b kept
  pub most : length own ≤ owed
  pub is : s ≡ batching value kept owed own
  pub carries : Carries (typed_lines (setting_of h d tests)) m (batching value kept owed own)

-- outside any batch
pub record IsOutside (h : List ℕ → List ℕ) (d : Doc) (tests : Tests) (m : Moment) (s : Stage Value) : Type 0 where
  pub value : Value
  pub held : IsHeldAt h d tests m value
  pub rests : s ≡ resting value

abbrev pub StandsSo : (List ℕ → List ℕ) → Doc → Option Doc → List (List ℕ) → Tests → Moment → Stage Value → Type 0
StandsSo h d None own tests m s = IsOutside h d tests m s
StandsSo h d (Some b) own tests m s = IsInBatch h d b own tests m s

-- The session stands at this stage over a store, where lines mean what they mean on values of the document's type.
pub record StandsAt (d : Doc) (begun : Option Doc) (own : List (List ℕ)) (m : Moment) (M : Meaning Value) (s : Stage Value) : Type 0 where
  pub tests : Tests
  pub are : AreTests (table_in d) tests
  pub means : M ≡ typed_lines (setting_of id_of d tests)
  pub stands : StandsSo id_of d begun own tests m s
