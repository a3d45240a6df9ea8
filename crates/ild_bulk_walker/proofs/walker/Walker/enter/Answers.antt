use Rattle.std.proofs.Common.{◌<◌, suc, length, arith}
use Rattle.std.proofs.lemmas.List.{length-map}
use Rattle.std.proofs.lemmas.Result.{err_from_is_err_and}
use Rattle.ild_data.specs.TrieShape.{trie_levels}
use Rattle.ild_bulk_walker.specs.Ahead.{walker_path}
use Rattle.ild_bulk_walker.specs.declared.step.Child.{Child}
use Rattle.ild_bulk_walker.proofs.Walking.{enter-stopped, enter-done, enter-deep, enter-longer}
use Rattle.ild_bulk_walker.proofs.walker.Walker.enter.Goals as goal

pub returns-in_err-steps-clause-enters : goal.returns-in_err-steps-clause-enters
returns-in_err-steps-clause-enters g c =
    let p = err_from_is_err_and c.from_residual.result c.from_residual.ensures.1 in
    let short : suc (length (walker_path c.args.self.now)) < trie_levels c.args.self.now.shape = omega (arith, length-map c.args.self.now.path.items (λ (d : Child). d.index)) in
    rw (p.1, p.2) (enter-stopped c.args.self.now.shape (g.K.Store.moment c.args.store.now) (g.K.Store.moment c.fetch.new.store) c.args.self.now c.args.child c.in_err-steps.field-0.0 c.requires.next short c.in_err-steps.ensures)

pub returns-clause-enters : goal.returns-clause-enters
returns-clause-enters g c =
    let short : suc (length (walker_path c.args.self.now)) < trie_levels c.args.self.now.shape = omega (arith, length-map c.args.self.now.path.items (λ (d : Child). d.index)) in
    enter-done c.args.self.now.shape (g.K.Store.moment c.args.store.now) (g.K.Store.moment c.fetch.new.store) c.args.self.now c.open.new.self c.args.child c.in_ok-steps.steps c.open.result c.requires.next short c.in_ok-steps.ensures c.open.ensures.opens

pub returns-clause-longer : goal.returns-clause-longer
returns-clause-longer g c = enter-longer c.args.self.now c.open.new.self c.args.child c.in_ok-steps.steps c.open.result c.open.ensures.opens

pub returns-then-not-has_level-clause-enters : goal.returns-then-not-has_level-clause-enters
returns-then-not-has_level-clause-enters g c =
    enter-deep c.args.self.now.shape (g.K.Store.moment c.args.store.now) c.args.self.now c.args.child c.fault.result c.requires.next c.requires.short (let deep = c.has_level.ensures.no c.if-not-has_level.true in omega (arith, deep, c.len.ensures)) c.fault.ensures.trie c.fault.ensures.here
