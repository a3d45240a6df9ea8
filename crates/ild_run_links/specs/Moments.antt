-- A store at a moment, as the trees over it show it.
use Rattle.std.specs.Prelude.{◌≡◌, ℕ, ◌+◌, ◌*◌, ◌-◌, ◌^◌, min, List, Some}
use Rattle.ild_data.specs.Spell.{id_of}
use Rattle.ild_edges.specs.Store.{Moment, block_at}
use Rattle.ild_schema.specs.Value.{Value}
use Rattle.ild_typed.specs.Stands.{Stands, bare}
use Rattle.ild_view_doc.specs.Docs.{block_in, table_in, type_in}
use Rattle.ild_view_doc.specs.declared.doc.Doc.{Doc}

-- with a count of the trees that were found lacking, which stands in one number with the store's own count of lacks, so that neither hides the other
abbrev pub with_lacks : Moment → ℕ → Moment
with_lacks m lacks = record m { lacks = m.lacks * 2 ^ 64 + min lacks (2 ^ 64 - 1) }

-- a value stands under the id of a document's block
pub record HasStanding (h : List ℕ → List ℕ) (d : Doc) (held : List (List ℕ)) : Type 0 where
  pub value : Value
  pub stands : Stands bare (block_at held) h (table_in d) (type_in d) (id_of (block_in d)) value

-- where the store tells what it holds, it holds the document's block, and a value stands under its id
abbrev pub HoldsBlock : Doc → Moment → Type 0
HoldsBlock d m = (held : List (List ℕ)) → m.blocks ≡ Some held → block_at held (id_of (block_in d)) ≡ Some (block_in d)

abbrev pub HoldsValue : (List ℕ → List ℕ) → Doc → Moment → Type 0
HoldsValue h d m = (held : List (List ℕ)) → m.blocks ≡ Some held → ∥ HasStanding h d held ∥₁
