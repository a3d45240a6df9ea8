use Rattle.std.proofs.Common.{◌∷◌}
use Rattle.ild_resolve.specs.Events.{uses, reference_events, map_form_events}
use Rattle.ild_resolve.proofs.Counting.{counts_before, form_free, form_none}
use Rattle.ild_resolve.proofs.count.body.Goals as goal

pub returns-in-Map : goal.returns-in-Map
returns-in-Map c =
    let m = c.in-Map.m in
    let new = c.reference-in-Map.new.types in
    rw c.in-Map.is (counts_before c.args.types.now new (uses m.key ∷ reference_events m.value) (map_form_events m.form) c.reference-in-Map.result (form_free new m.form) (form_none m.form) c.reference-in-Map.ensures)
