use Rattle.std.proofs.Common.{option_map}
use Rattle.ild_path_inward.proofs.Inwarding.{can_go}
use Rattle.ild_run_links.proofs.Inner.{link_there}
use Rattle.ild_run_links.specs.inside.Ends.{named}
use Rattle.ild_view.specs.View.{table_of}
use Rattle.ild_run_links.proofs.behind.link_behind.Goals as goal

pub returns-in-Some-clause-told : goal.returns-in-Some-clause-told
returns-in-Some-clause-told c = λ h was room q holder t on inside there.
    let go = can_go h (table_of c.args.root.now) was room q t c.args.root.now c.args.hops.now on c.in-Some.hop.now c.in-Some.ensures.value c.view.result c.view.ensures.table c.view.ensures.slot c.view.ensures.front in
    link_there h (table_of c.args.root.now) was room q holder t c.view.result go c.args.front.now (option_map named c.link_within.result) inside there c.link_within.ensures.same

pub returns-in-None-clause-told : goal.returns-in-None-clause-told
returns-in-None-clause-told c = λ h was room q holder t on inside there.
    link_there h (table_of c.args.root.now) was room q holder t c.args.root.now (record { schema = on.schema; low = on.low; held = on.held; stands = on.top c.in-None.ensures.value }) c.args.front.now
    (option_map named c.link_within-in-None.result) inside there c.link_within-in-None.ensures.same
