-- The places of a document's value, as a walk meets them: from the root block on, by the kinds of places.
use Rattle.std.specs.Prelude.{◌≡◌, ℕ, List}
use Rattle.ild_data.specs.Data.{Data}
use Rattle.ild_dirty.specs.Beneath as B
use Rattle.ild_dirty.specs.Beneath.{IsTreeAt}
use Rattle.ild_schema.specs.Value.{Value}
use Rattle.ild_typed.specs.Stands.{Storable, bare, root_id}
use Rattle.ild_typed_places.specs.Places.{nowhere, value_places}
use Rattle.ild_script_batch.specs.Commits.{put_before}
use Rattle.ild_view_doc.specs.Docs.{table_in, type_in}
use Rattle.ild_view_doc.specs.declared.doc.Doc.{Doc}

-- the tree of places that stands under the root, by the children of blocks, is that of the value
pub record HasTree (h : List ℕ → List ℕ) (d : Doc) (kind : ℕ) (children : ℕ → List ℕ → List (List ℕ × ℕ)) (v : Value) (t : Data) : Type 0 where
  pub home : B.Place
  pub stands : IsTreeAt children (root_id bare t) kind home
  pub places : put_before home nowhere ≡ value_places bare h (table_in d) (type_in d) v t

-- so of each value of the document's type
abbrev pub HaveTrees : (List ℕ → List ℕ) → Doc → ℕ → (ℕ → List ℕ → List (List ℕ × ℕ)) → Type 0
HaveTrees h d kind children = (v : Value) (t : Data) → Storable bare h (table_in d) (type_in d) v t → HasTree h d kind children v t
