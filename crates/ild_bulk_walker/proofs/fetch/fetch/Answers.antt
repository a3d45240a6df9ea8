use Rattle.ild_bulk_walker.proofs.Stepping.{fetched}
use Rattle.ild_bulk_walker.proofs.fetch.fetch.Goals as goal

pub returns-in-Ok-Some : goal.returns-in-Ok-Some
returns-in-Ok-Some g c =
    fetched c.args.shape (g.K.Store.moment c.args.store.now) (g.K.Store.moment c.get.new.self) c.args.id.now.0 c.in-Ok-Some.block c.steps_of.result
    c.steps_of.ensures
    (rw c.in-Ok-Some.field-0-is at c.in-Ok-Some.ensures)
