use Rattle.std.proofs.Common.{◌≡◌, Some, sym, ap, ◌∙◌}
use Rattle.std.specs.Prelude.{option_map}
use Rattle.std.specs.List.{slice_get}
use Rattle.ild_dirty.proofs.Indexed.{id_noted, lent_at}
use Rattle.ild_dirty.proofs.own.OwnBlocks.id.Goals as goal

pub returns-in-Some : goal.returns-in-Some
returns-in-Some c =
    let lent : Some c.in-Some.id.now ≡ slice_get c.deref.result.now c.args.i = ap (option_map (λ b. b.now)) (sym c.in-Some.is) ∙ lent_at c.get.result c.deref.result.now c.args.i c.get.ensures.lookup.3 in
    id_noted c.args.self.now c.self.inside.ids.items c.args.i c.in-Some.id.now (rw (sym c.self.view_is) c.self.invariant.1) (lent ∙ ap (λ xs. slice_get xs c.args.i) c.deref.ensures.value)
