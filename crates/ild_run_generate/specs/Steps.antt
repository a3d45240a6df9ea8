-- What a step of the generator asks of a document, and what it answers.
use Rattle.std.specs.Prelude.{◌≡◌, ◌⊎◌, ℕ, ◌+◌, pos, List, [], ◌∷◌, Bool, true, false, Some, Result, Ok, Err, if◌then◌else◌}
use Rattle.ild_cbor.specs.declared.why.BlockWhy.{BlockWhy}
use Rattle.ild_data.specs.Data.{integer}
use Rattle.ild_data.specs.Spell.{id_of}
use Rattle.ild_data.specs.declared.id.BlockId.{BlockId}
use Rattle.ild_edges.specs.Count.{Rose}
use Rattle.ild_edges.specs.Store.{Moment, Later}
use Rattle.ild_generator.specs.Generated.{Generated, obeyed, asked_map, blocks_in}
use Rattle.ild_generator.specs.Numbers.{is_deletion, key_of}
use Rattle.ild_generator.specs.Schema.{generator_rows, generator_type}
use Rattle.ild_open.specs.Broken.{IsRefused}
use Rattle.ild_path_edits.specs.Judged.{Tests, AreTests}
use Rattle.ild_run_edit.specs.Naming.{IsTaken}
use Rattle.ild_path_place.specs.declared.verb.Verb.TheVariants as V
use Rattle.ild_run_generate.specs.declared.asking.Asked.{Asked}
use Rattle.ild_run_generate.specs.declared.fault.GenerateFault.{GenerateFault}
use Rattle.ild_run_generate.specs.declared.fault.GenerateFault.TheVariants as F
use Rattle.ild_run_generate.specs.declared.stepping.Outcome.{Outcome}
use Rattle.ild_run_generate.specs.declared.stepping.Outcome.TheVariants as O
use Rattle.ild_run_generate.specs.declared.summary.Counts.{Counts}
use Rattle.ild_run_standing.specs.Blame.{IsBroken}
use Rattle.ild_run_standing.specs.Standing.{IsHeldAt}
use Rattle.ild_schema.specs.declared.number.TypeNo.{TypeNo}
use Rattle.ild_schema.specs.declared.row.Row.{Row}
use Rattle.ild_script.specs.declared.reply.No.{No}
use Rattle.ild_script.specs.declared.reply.No.TheVariants as N
use Rattle.ild_script_meaning.specs.Lines.{read_json}
use Rattle.ild_script_meaning.specs.PlainMap.{as_value, IsPlain}
use Rattle.ild_script_session.specs.Step.{AddsOnly, Collides}
use Rattle.ild_view_doc.specs.Docs.{table_in, type_in, block_in}
use Rattle.ild_view_doc.specs.declared.doc.Doc.{Doc}

-- the edit that a number asks for in step i
pub record IsAsked (x i : ℕ) (a : Asked) : Type 0 where
  pub path : a.path ≡ key_of x ∷ []
  pub verb : a.verb ≡ (if is_deletion x then V.Del else V.Set)
  pub json : is_deletion x ≡ false → read_json a.json ≡ Some (integer (pos i))

-- a document of the generator's type
pub record IsOfGenerator (d : Doc) : Type 0 where
  pub table : table_in d ≡ generator_rows
  pub type : type_in d ≡ generator_type

-- the counts as the fold has them
abbrev pub counts_of : Generated → Counts
counts_of s = record { sets = s.sets; dels = s.dels; absent = s.absent }

-- after a step that deletes a key, or sets one
abbrev pub one_more : Bool → Counts → Counts
one_more true c = record { sets = c.sets; dels = c.dels + 1; absent = c.absent }
one_more false c = record { sets = c.sets + 1; dels = c.dels; absent = c.absent }

-- where its place isn't there
abbrev pub one_absent : Bool → Counts → Counts
one_absent true c = record { sets = c.sets; dels = c.dels; absent = c.absent + 1 }
one_absent false c = c

-- what a refusal of a step's edit comes to: a place that isn't there, an edit that is left undone, or a fault
abbrev pub outcome_of : No → Outcome
outcome_of N.Path = O.Absent
outcome_of N.Block = O.Block
outcome_of N.Store = O.Store
outcome_of N.Clash = O.Clash
outcome_of N.Memory = O.Memory
outcome_of refusal = O.Left

-- the cause of a fault, where the store tells what it holds and these blocks may come
abbrev pub Causes : List (List ℕ) → GenerateFault → Moment → Type 0
Causes new (F.Block id why) n = ⊥
Causes new F.Store n = Unit {0}
Causes new (F.Clash id) n = Collides n new
Causes new F.Memory n = Unit {0}

abbrev pub StepAnswer : Tests → ℕ → Generated → Doc → Result Counts GenerateFault → Moment → Type 0
StepAnswer tests i s new (Ok c) n = (c ≡ counts_of (obeyed i s)) × IsHeldAt id_of new tests n (as_value (obeyed i s).entries)
StepAnswer tests i s new (Err f) n = Causes (blocks_in (asked_map i s)) f n

pub record StepTold (tests : Tests) (i : ℕ) (s : Generated) (m : Moment) (new : Doc) (result : Result Counts GenerateFault) (n : Moment) : Type 0 where
  pub answer : StepAnswer tests i s new result n
  pub adds : AddsOnly m n (blocks_in (asked_map i s))

-- Why a block is told between two moments, over every store, of a document of this table and type: it is refused where the root is opened; or
-- it is the root, since an edit met a broken block, which an opening doesn't meet any more.
pub record TellsBlock (rows : List Row) (ty : TypeNo) (m n : Moment) (id : List ℕ) (why : BlockWhy) : Type 0 where
  pub doc : Doc
  pub table : table_in doc ≡ rows
  pub type : type_in doc ≡ ty
  pub from : Moment
  pub to : Moment
  pub after : Later m from
  pub before : Later to n
  pub cause : IsRefused id_of rows from.blocks from.lacks to.lacks ty (id_of (block_in doc)) id why ⊎ ((id ≡ id_of (block_in doc)) × IsBroken id_of doc from.blocks from.lacks to.lacks)

-- one step, in which x is the number and c the counts before: of every store, and from where the document stands
pub record TakesStep (old new : Doc) (x i : ℕ) (c : Counts) (m : Moment) (result : Result Counts GenerateFault) (n : Moment) : Type 0 where
  pub later : Later m n
  pub table : table_in new ≡ table_in old
  pub type : type_in new ≡ type_in old
  pub failed : result ≡ Err F.Store → Rose m.faults n.faults
  pub clashed : (id : BlockId) → result ≡ Err (F.Clash id) → IsTaken n id.0
  pub blamed : (id : BlockId) (why : BlockWhy) → result ≡ Err (F.Block id why) → TellsBlock (table_in old) (type_in old) m n id.0 why
  pub told : (tests : Tests) (s : Generated) → AreTests generator_rows tests → IsOfGenerator old → IsPlain s.entries → s.number ≡ x → counts_of s ≡ c
      → IsHeldAt id_of old tests m (as_value s.entries) → StepTold tests i s m new result n
