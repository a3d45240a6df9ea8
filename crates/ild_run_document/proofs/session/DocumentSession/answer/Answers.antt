use Rattle.ild_run_document.specs.Document.{begun_in, doc_in, own_in}
use Rattle.ild_run_document.proofs.Sessions.{alike_of, document_passes, document_stood}
use Rattle.ild_run_document.proofs.session.DocumentSession.answer.Goals as goal

pub answer_line-requires : goal.answer_line-requires
answer_line-requires g c = alike_of (doc_in c.args.self.now) (begun_in c.args.self.now) c.args.self.now.alike

pub returns-clause-passed : goal.returns-clause-passed
returns-clause-passed g c = document_passes c.args.self.now _ (g.K.Store.moment c.args.store.now) (g.K.Store.moment c.answer_line.new.store) c.args.line.now c.answer_line.result c.answer_line.ensures.turns

pub returns-clause-stood : goal.returns-clause-stood
returns-clause-stood g c = document_stood (doc_in c.args.self.now) (begun_in c.args.self.now) (own_in c.args.self.now) (g.K.Store.moment c.args.store.now)
