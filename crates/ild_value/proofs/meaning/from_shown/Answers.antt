use Rattle.ild_data.specs.Seen.{data_of}
use Rattle.ild_schema.specs.ValueSeen.{value_of}
use Rattle.ild_value_meaning.specs.MeantLaws.{IsMeantTyped}
use Rattle.ild_value.specs.Readings.{Means, IsRefused, MeansNone}
use Rattle.ild_value.specs.inside.Parts.{IsReadAs}
use Rattle.ild_value.proofs.Exact.{typed, none_meant, if_err, read_means}
use Rattle.ild_value_shown.proofs.Picked.{if_ok}
use Rattle.ild_value.proofs.meaning.from_shown.Goals as goal

pub returns-clause-ok : goal.returns-clause-ok
returns-clause-ok c =
    if_ok (λ v. IsReadAs c.args.acc.now c.args.slot (data_of c.args.tree) (value_of v)) (λ v. Means c.args.acc.now c.args.slot (data_of c.args.tree) (value_of v))
    (λ v m. read_means c.args.acc.now c.args.slot (data_of c.args.tree) (value_of v) m) c.tree_value.result c.tree_value.ensures.ok

pub returns-clause-typed : goal.returns-clause-typed
returns-clause-typed c =
    if_ok (λ v. IsReadAs c.args.acc.now c.args.slot (data_of c.args.tree) (value_of v)) (λ v. IsMeantTyped c.args.acc.now c.args.slot (value_of v))
    (λ v m. typed c.args.acc.now (record { table = c.recall.ensures.table; accepted = c.recall.ensures.accepted }) c.args.slot (data_of c.args.tree) (value_of v) c.well_formed-2.ensures
    (read_means c.args.acc.now c.args.slot (data_of c.args.tree) (value_of v) m))
    c.tree_value.result c.tree_value.ensures.ok

pub returns-clause-none : goal.returns-clause-none
returns-clause-none c =
    if_err (λ e. IsRefused c.args.acc.now c.args.slot (data_of c.args.tree) e) (λ e. MeansNone c.args.acc.now c.args.slot (data_of c.args.tree) e)
    (λ e r. none_meant c.args.acc.now (record { table = c.recall.ensures.table; accepted = c.recall.ensures.accepted }) c.args.slot (data_of c.args.tree) e c.well_formed-2.ensures r)
    c.tree_value.result c.tree_value.ensures.err
