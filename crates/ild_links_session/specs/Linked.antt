-- The session within one that looks across links.
use Rattle.ild_links_session.specs.declared.linked.LinkedDocument.{LinkedDocument}
use Rattle.ild_run_document.specs.declared.document.Document.{Document}

abbrev pub inner_in : LinkedDocument → Document
inner_in d = d.inner
