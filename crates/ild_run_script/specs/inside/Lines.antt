-- Lines that are answered from a document on.
use Rattle.std.specs.Prelude.{◌≡◌, ℕ, List, [], Bool, Option, None}
use Rattle.ild_edges.specs.Store.{Moment}
use Rattle.ild_script_session.specs.Lines.{LinesDone, LinesCut}
use Rattle.ild_view_doc.specs.Docs.{table_in, type_in}
use Rattle.ild_view_doc.specs.declared.doc.Doc.{Doc}
use Rattle.ild_run_document.specs.Document.{begun_in, doc_in, own_in}
use Rattle.ild_run_document.specs.Passes.{Passes}
use Rattle.ild_run_document.specs.declared.document.Document.{Document}
use Rattle.ild_run_standing.specs.Standing.{StandsAt}

-- from outside any batch on these lines were answered, and their replies written; some document, inside a batch or outside, of the same type stands then where they led
pub record DocDone (d : Doc) (m : Moment) (lines : List (List ℕ)) (n : Moment) (was now : Option (List ℕ)) (refused : Bool) : Type 0 where
  pub from : Document
  pub is : doc_in from ≡ d
  pub out : begun_in from ≡ None
  pub after : Document
  pub table : table_in (doc_in after) ≡ table_in d
  pub type : type_in (doc_in after) ≡ type_in d
  pub done : LinesDone (StandsAt d None [] m) (StandsAt (doc_in after) (begun_in after) (own_in after) n) Passes from after m lines n was now refused

-- the first of these lines were answered, and a front of their replies written
pub record DocCut (d : Doc) (m : Moment) (lines : List (List ℕ)) (n : Moment) (was now : Option (List ℕ)) : Type 0 where
  pub from : Document
  pub is : doc_in from ≡ d
  pub out : begun_in from ≡ None
  pub after : Document
  pub table : table_in (doc_in after) ≡ table_in d
  pub type : type_in (doc_in after) ≡ type_in d
  pub done : LinesCut (StandsAt d None [] m) (StandsAt (doc_in after) (begun_in after) (own_in after) n) Passes from after m lines n was now
