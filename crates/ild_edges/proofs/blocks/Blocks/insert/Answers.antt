use Rattle.std.proofs.Common.{Some, sym, ◌∙◌, ap}
use Rattle.std.specs.Prelude.{All}
use Rattle.ild_data.specs.Spell.{id_of}
use Rattle.ild_edges.specs.Own.{IsOwn}
use Rattle.ild_edges.proofs.Rows.{own_after, Adds-row}
use Rattle.ild_edges.proofs.blocks.Blocks.insert.Goals as goal

pub invariant_of-self : goal.invariant_of-self
invariant_of-self c = record { own = own_after c.insert.result c.args.self.now.rows.entries c.insert.new.self.entries c.args.id.now.0 c.in_ok-block.block (c.requires.own ∙ ap id_of (sym c.in_ok-block.ensures)) c.args.self.now.own c.insert.ensures.entries c.insert.ensures.err }

pub returns-clause-ok : goal.returns-clause-ok
returns-clause-ok c =
    let own : All IsOwn c.insert.new.self.entries = own_after c.insert.result c.args.self.now.rows.entries c.insert.new.self.entries c.args.id.now.0 c.in_ok-block.block (c.requires.own ∙ ap id_of (sym c.in_ok-block.ensures)) c.args.self.now.own c.insert.ensures.entries c.insert.ensures.err in
    Adds-row c.args.self.now.rows.entries c.insert.new.self.entries c.args.id.now.0 c.args.block.now c.requires.own c.args.self.now.own own (c.in_ok-insert.ensures.updates.1 ∙ ap Some c.in_ok-block.ensures) c.in_ok-insert.ensures.updates.2
