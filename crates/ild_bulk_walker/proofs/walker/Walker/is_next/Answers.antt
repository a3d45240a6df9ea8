use Rattle.std.proofs.Common.{Some, sym, ap, ◌∙◌}
use Rattle.ild_bulk_walker.specs.Steps.{entry_key, entry_value}
use Rattle.ild_bulk_walker.specs.declared.step.Step.TheVariants.{Give, Enter, Leave}
use Rattle.ild_bulk_walker.proofs.Nexting.{gives-misfit, gives-leave, not-enter}
use Rattle.ild_bulk_walker.proofs.Walking.{next-todo}
use Rattle.ild_bulk_walker.proofs.walker.Walker.is_next.Goals as goal

pub returns-then-fits : goal.returns-then-fits
returns-then-fits g c =
    let e = c.in-Some-Give.entry in
    let n = next-todo c.args.self.now.steps.items c.deref.result.now (Give e) c.deref.ensures.value (sym c.in-Some-Give.ensures.value ∙ ap Some c.in-Some-Give.field-0-is) in
    record { next = record { key = entry_key e; value = entry_value e; index = e.index; rest = n.0; is = n.1 }; fit = sym c.fits-fits.ensures ∙ c.if-fits.true }

pub returns-else-fits : goal.returns-else-fits
returns-else-fits g c =
    let e = c.in-Some-Give.entry in
    let n = next-todo c.args.self.now.steps.items c.deref.result.now (Give e) c.deref.ensures.value (sym c.in-Some-Give.ensures.value ∙ ap Some c.in-Some-Give.field-0-is) in
    gives-misfit c.args.self.now.shape g.H.KeyHash.hash_of c.args.self.now (entry_key e) (entry_value e) e.index n.0 c.fault.result n.1 (sym c.fits-fits.ensures ∙ c.if-fits.false) c.fault.ensures.trie c.fault.ensures.here

pub returns-in-Some-Leave : goal.returns-in-Some-Leave
returns-in-Some-Leave g c =
    let n = next-todo c.args.self.now.steps.items c.deref.result.now (Leave c.in-Some-Leave.field-0-0) c.deref.ensures.value (sym c.in-Some-Leave.ensures.value ∙ ap Some c.in-Some-Leave.field-0-is) in
    gives-leave c.args.self.now.shape g.H.KeyHash.hash_of c.args.self.now c.in-Some-Leave.field-0-0 n.0 c.fault-in-Some-Leave.result n.1 c.requires.ready c.fault-in-Some-Leave.ensures.trie c.fault-in-Some-Leave.ensures.here

pub returns-in-Some-Enter : goal.returns-in-Some-Enter
returns-in-Some-Enter g c =
    let child = c.in-Some-Enter.field-0-0 in
    let n = next-todo c.args.self.now.steps.items c.deref.result.now (Enter child) c.deref.ensures.value (sym c.in-Some-Enter.ensures.value ∙ ap Some c.in-Some-Enter.field-0-is) in
    absurd (not-enter c.args.self.now child.id.0 child.index n.0 n.1 c.requires.ready)
