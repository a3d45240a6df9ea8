use Rattle.std.proofs.Common.{Some}
use Rattle.ild_links_session.proofs.Lining.{command_line, memory_line, read_line, ready_linked}
use Rattle.ild_links_session.proofs.session.LinkedDocumentSession.answer.Goals as goal

pub returns-in-Ok-Some-clause-stays : goal.returns-in-Ok-Some-clause-stays
returns-in-Ok-Some-clause-stays g c =
    ready_linked c.args.self.now.inner c.obey_linked.new.inner _ (g.K.Store.moment c.args.store.now) (Some c.obey_linked.result) (g.K.Store.moment c.obey_linked.new.store) c.obey_linked.ensures c.requires

pub returns-in-Ok-Some-clause-passed : goal.returns-in-Ok-Some-clause-passed
returns-in-Ok-Some-clause-passed g c =
    command_line c.args.self.now.inner c.obey_linked.new.inner (g.K.Store.moment c.args.store.now) c.args.line.now c.obey_linked.result (g.K.Store.moment c.obey_linked.new.store) _
    (read_line c.args.line.now c.in-Ok-Some.read (rw c.in-Ok-Some.field-0-is at c.in-Ok-Some.ensures)) c.obey_linked.ensures

pub returns-in-Err-Memory-clause-passed : goal.returns-in-Err-Memory-clause-passed
returns-in-Err-Memory-clause-passed g c = memory_line c.stages_stay.ensures c.args.self.now.inner (g.K.Store.moment c.args.store.now) c.args.line.now (rw c.in-Err-Memory.field-0-is at c.in-Err-Memory.ensures)
