use Rattle.std.proofs.Common.{sym, ap, Some, ◌∙◌, arith}
use Rattle.ild_dirty.proofs.Batching.{gets_own, gets_beneath}
use Rattle.ild_dirty.proofs.batch.BatchStore.get.Goals as goal

pub returns-in_ok-copy-in-Some-clause-gets : goal.returns-in_ok-copy-in-Some-clause-gets
returns-in_ok-copy-in-Some-clause-gets g c = gets_own (c.args.self.now.store.ghost_name, c.args.self.now.own.ghost_name) (g.K.Store.moment c.args.self.now.store.now) c.args.self.now.own.now c.args.self.now.gets c.saturating_add-self.result c.args.self.now.puts c.args.id.now.0 c.in_ok-copy-in-Some.field-0
    c.saturating_add-self.ensures (omega (arith, c.saturating_add-self.ensures)) (sym c.in-Some.ensures ∙ ap Some (sym c.in_ok-copy-in-Some.ensures))

pub returns-in-None-clause-gets : goal.returns-in-None-clause-gets
returns-in-None-clause-gets g c = gets_beneath (c.args.self.now.store.ghost_name, c.args.self.now.own.ghost_name) (g.K.Store.moment c.args.self.now.store.now) (g.K.Store.moment c.get-in-None.new.self) c.args.self.now.own.now c.args.self.now.gets c.saturating_add-self.result c.args.self.now.puts c.args.id.now.0 c.get-in-None.result
    c.saturating_add-self.ensures (omega (arith, c.saturating_add-self.ensures)) (sym c.in-None.ensures) c.get-in-None.ensures
