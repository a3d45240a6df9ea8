-- The document of a session, and the one at the begin of its batch.
use Rattle.std.specs.Prelude.{ℕ, List, Option}
use Rattle.ild_view_doc.specs.declared.doc.Doc.{Doc}
use Rattle.ild_run_document.specs.Begins.{doc_of}
use Rattle.ild_run_document.specs.declared.document.Document.{Document}

abbrev pub doc_in : Document → Doc
doc_in d = d.doc

abbrev pub begun_in : Document → Option Doc
begun_in d = doc_of d.begun

abbrev pub own_in : Document → List (List ℕ)
own_in d = d.own
