-- The tree in which a walk across links ends, and the segments that are left there.
use Rattle.std.specs.Prelude.{◌≡◌, ℕ, ◌+◌, ◌≤◌, List, [], ◌∷◌, length, drop, Option, Some, None, IfOk, Result, Ok, Err}
use Rattle.ild_data.specs.Spell.{id_of}
use Rattle.ild_edges.specs.Count.{Rose}
use Rattle.ild_edges.specs.Gained.{OnlyReads}
use Rattle.ild_edges.specs.Store.{Moment, block_at}
use Rattle.ild_links.specs.declared.hop.Hop.{Hop}
use Rattle.ild_path_edits.specs.Judged.{Tests}
use Rattle.ild_run_standing.specs.Standing.{IsHeldAt}
use Rattle.ild_schema.specs.Value.{Value}
use Rattle.ild_schema.specs.declared.row.Row.{Row}
use Rattle.ild_script.specs.declared.reply.No.{No}
use Rattle.ild_script.specs.declared.reply.No.TheVariants as N
use Rattle.ild_script_meaning.specs.Lines.{Setting, value_blocks}
use Rattle.ild_typed.specs.Stands.{Stands, bare}
use Rattle.ild_view_doc.specs.Docs.{block_in, table_in, type_in}
use Rattle.ild_view_doc.specs.declared.doc.Doc.{Doc}

-- the last of one hop and these
abbrev pub last_hop : Hop → List Hop → Hop
last_hop h [] = h
last_hop h (k ∷ hs) = last_hop k hs

-- of more hops than one
abbrev pub crossed : List Hop → Option Hop
crossed [] = None
crossed (h ∷ []) = None
crossed (h ∷ k ∷ hs) = Some (last_hop k hs)

-- what lines are about in the tree of a hop, under a bare root
abbrev pub setting_at : (List ℕ → List ℕ) → List Row → Tests → Hop → Setting
setting_at h rows tests hop = record { frame = bare; hash = h; rows = rows; tests = tests; ty = hop.ty }

-- over each store: that it failed is told only where it did, and of other refusals there are these alone
abbrev pub OpenCause : Moment → Result (Doc × List (List ℕ)) No → Moment → Type 0
OpenCause m (Ok r) n = Unit {0}
OpenCause m (Err N.Block) n = Unit {0}
OpenCause m (Err N.Store) n = Rose m.faults n.faults
OpenCause m (Err N.Memory) n = Unit {0}
OpenCause m (Err refusal) n = ⊥

-- the root block of the hop's tree, and the segments that are left there
pub record IsLast (rows : List Row) (hop : Hop) (path : List (List ℕ)) (r : Doc × List (List ℕ)) : Type 0 where
  pub table : table_in r.0 ≡ rows
  pub type : type_in r.0 ≡ hop.ty
  pub root : id_of (block_in r.0) ≡ hop.id.0
  pub rest : r.1 ≡ drop hop.from path

-- where this value stands for the hop's tree: the document stands at it, and a block isn't refused
abbrev pub OpenedAt : (List ℕ → List ℕ) → Tests → Value → Result (Doc × List (List ℕ)) No → Moment → Type 0
OpenedAt h tests v (Ok r) n = IsHeldAt h r.0 tests n v
OpenedAt h tests v (Err N.Block) n = ⊥
OpenedAt h tests v (Err refusal) n = Unit {0}

-- by gets alone, of no more blocks than the value has
pub record OpensValue (h : List ℕ → List ℕ) (rows : List Row) (tests : Tests) (hop : Hop) (v : Value) (m : Moment) (result : Result (Doc × List (List ℕ)) No) (n : Moment) : Type 0 where
  pub at : OpenedAt h tests v result n
  pub gets : n.gets ≤ m.gets + length (value_blocks (setting_at h rows tests hop) v)

pub record OpensLast (h : List ℕ → List ℕ) (rows : List Row) (hop : Hop) (path : List (List ℕ)) (m : Moment) (result : Result (Doc × List (List ℕ)) No) (n : Moment) : Type 0 where
  pub done : IfOk result (IsLast rows hop path)
  pub cause : OpenCause m result n
  pub only : OnlyReads m n
  pub told : (tests : Tests) (held : List (List ℕ)) (v : Value) → m.blocks ≡ Some held → Stands bare (block_at held) h rows hop.ty hop.id.0 v → OpensValue h rows tests hop v m result n
