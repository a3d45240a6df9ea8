use Rattle.ild_run_document.specs.Document.{begun_in, doc_in}
use Rattle.ild_run_document.proofs.Sessions.{alike_of}
use Rattle.ild_run_document.proofs.document.Document.obey.Goals as goal

pub obey-requires : goal.obey-requires
obey-requires g c = alike_of (doc_in c.args.self.now) (begun_in c.args.self.now) c.args.self.now.alike
