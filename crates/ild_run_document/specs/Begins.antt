-- The document at the begin of a batch.
use Rattle.std.specs.Prelude.{Option, option_map}
use Rattle.ild_view_doc.specs.declared.doc.Doc.{Doc}
use Rattle.ild_run_document.specs.declared.begun.Begun.{Begun}

abbrev pub doc_of : Option Begun → Option Doc
doc_of b = option_map (λ x. x.doc) b
