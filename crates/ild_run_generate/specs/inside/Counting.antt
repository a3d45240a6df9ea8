-- What reading a document's map back from its root answers.
use Rattle.std.specs.Prelude.{◌≡◌, ◌⊎◌, ℕ, List, length, Result, Ok, Err}
use Rattle.ild_cbor.specs.declared.why.BlockWhy.{BlockWhy}
use Rattle.ild_data.specs.Spell.{id_of}
use Rattle.ild_data.specs.declared.id.BlockId.{BlockId}
use Rattle.ild_edges.specs.Count.{Rose}
use Rattle.ild_edges.specs.Store.{Moment}
use Rattle.ild_open.specs.Broken.{IsRefused}
use Rattle.ild_open_parts.specs.Reads.{OnlyReads}
use Rattle.ild_path_edits.specs.Judged.{Tests}
use Rattle.ild_run_generate.specs.declared.fault.GenerateFault.{GenerateFault}
use Rattle.ild_run_generate.specs.declared.fault.GenerateFault.TheVariants as F
use Rattle.ild_run_standing.specs.Standing.{IsHeldAt}
use Rattle.ild_schema.specs.Value.{Value, map, pairs_list}
use Rattle.ild_view_doc.specs.Docs.{table_in, type_in, block_in}
use Rattle.ild_view_doc.specs.declared.doc.Doc.{Doc}

abbrev pub count_in : Value → ℕ
count_in (map ps) = length (pairs_list ps)
count_in v = 0

-- from where the document stands: the number of entries, and no block is at fault
abbrev pub CountIs : Value → Result ℕ GenerateFault → Type 0
CountIs v (Ok count) = count ≡ count_in v
CountIs v (Err (F.Block id why)) = ⊥
CountIs v (Err (F.Clash id)) = ⊥
CountIs v (Err f) = Unit {0}

-- a block is refused where the document's root is opened
abbrev pub RefusesBlock : Doc → Moment → List ℕ → BlockWhy → Moment → Type 0
RefusesBlock d m id why n = IsRefused id_of (table_in d) m.blocks m.lacks n.lacks (type_in d) (id_of (block_in d)) id why

pub record CountsEntries (d : Doc) (m : Moment) (result : Result ℕ GenerateFault) (n : Moment) : Type 0 where
  pub reads : OnlyReads m n
  pub failed : result ≡ Err F.Store → Rose m.faults n.faults
  pub unclashed : (id : BlockId) → result ≡ Err (F.Clash id) → ⊥
  pub refused : (id : BlockId) (why : BlockWhy) → result ≡ Err (F.Block id why) → RefusesBlock d m id.0 why n
  pub told : (tests : Tests) (v : Value) → IsHeldAt id_of d tests m v → CountIs v result

-- the block that is refused, or the root
pub record Lacks (d : Doc) (m : Moment) (f : GenerateFault) (n : Moment) : Type 0 where
  pub reads : OnlyReads m n
  pub failed : f ≡ F.Store → Rose m.faults n.faults
  pub unclashed : (id : BlockId) → f ≡ F.Clash id → ⊥
  pub refused : (id : BlockId) (why : BlockWhy) → f ≡ F.Block id why → RefusesBlock d m id.0 why n ⊎ (id.0 ≡ id_of (block_in d))
