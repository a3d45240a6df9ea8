-- Why a block is blamed, and why one clashes, over every store.
use Rattle.std.specs.Prelude.{ℕ, List, Option}
use Rattle.ild_cbor.specs.declared.why.BlockWhy.{BlockWhy}
use Rattle.ild_data.specs.Limits.{deepest}
use Rattle.ild_data.specs.Spell.{id_of}
use Rattle.ild_edges.specs.Gained.{Collides}
use Rattle.ild_edges.specs.Store.{Moment}
use Rattle.ild_open_parts.specs.Broken.{HasBrokenBlock}
use Rattle.ild_schema.specs.Slots.{plainly}
use Rattle.ild_schema.specs.Value.{Value}
use Rattle.ild_view_doc.specs.Block.{IsRootBlock}
use Rattle.ild_view_doc.specs.Docs.{block_in, table_in, type_in}
use Rattle.ild_view_doc.specs.declared.doc.Doc.{Doc}

-- A block is broken of those that hang on the document's. Each on the way there stands under its own id, beginning with the document's; and
-- the last one lacks, which was counted, or it isn't what has to stand there.
pub record HasBroken (h : List ℕ → List ℕ) (d : Doc) (told : Option (List (List ℕ))) (before now : ℕ) : Type 0 where
  pub front : Value
  pub root : IsRootBlock (table_in d) (type_in d) (block_in d) front
  pub id : List ℕ
  pub why : BlockWhy
  pub broken : HasBrokenBlock h (table_in d) told before now (id_of (block_in d)) deepest (plainly (type_in d)) root.tree id why

-- so it is with some front of the document, which has one
abbrev pub IsBroken : (List ℕ → List ℕ) → Doc → Option (List (List ℕ)) → ℕ → ℕ → Type 0
IsBroken h d told before now = ∥ HasBroken h d told before now ∥₁

-- a block that is held collides with one that isn't
abbrev pub HasClash : Moment → Type 0
HasClash m = (blocks : List (List ℕ)) × Collides m blocks
