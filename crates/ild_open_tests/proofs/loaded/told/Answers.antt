use Rattle.ild_open.proofs.Shallow.{root_is_shallow}
use Rattle.ild_open_tests.proofs.loaded.told.Goals as goal

pub load-requires-clause-shallow : goal.load-requires-clause-shallow
load-requires-clause-shallow c =
    root_is_shallow c.args.doc.now c.view-view.result c.args.doc.now.stands c.view-view.ensures.table c.view-view.ensures.slot c.view-view.ensures.front
