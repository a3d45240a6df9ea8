-- The places of a document's value are those that a walk meets by what its blocks tell of their children.
use Rattle.std.specs.Prelude.{ℕ, List}
use Rattle.ild_beneath.specs.Children.{children_of}
use Rattle.ild_run_commit.specs.Places.{HaveTrees}
use Rattle.ild_typed.specs.Schema.{IsSchema}
use Rattle.ild_view_doc.specs.Docs.{table_in, type_in}
use Rattle.ild_view_doc.specs.declared.doc.Doc.{Doc}

-- from the kind of a root's place on
abbrev pub TreesStand : Type 0
TreesStand = (h : List ℕ → List ℕ) (d : Doc) → IsSchema (table_in d) → HaveTrees h d 0 (children_of (table_in d) (type_in d))
