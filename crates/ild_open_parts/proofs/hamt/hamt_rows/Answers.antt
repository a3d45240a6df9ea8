use Rattle.std.proofs.Common.{sym, subst}
use Rattle.std.specs.Prelude.{Err}
use Rattle.std.proofs.Math.Logic.{∥∥₁_elim, ∥∥₁_map}
use Rattle.std.proofs.Props.{props}
use Rattle.std.proofs.lemmas.Bool.{false≢true}
use Rattle.ild_open_parts.specs.Hamts.{ListsRows}
use Rattle.ild_open_parts.proofs.Hamting.{rows_listed, rows_stop, walk_reads}
use Rattle.ild_open_parts.proofs.Limited.{rows_spelled}
use Rattle.ild_open_parts.proofs.hamt.hamt_rows.Goals as goal

pub unreachable-requires : goal.unreachable-requires
unreachable-requires g c = ∥∥₁_elim c.requires.root (hlevel props) (λ x. false≢true (c.in-Err.ensures.only x.slots x.tree x.stands x.is).0)

pub walk_fault-requires : goal.walk_fault-requires
walk_fault-requires g c = walk_reads g.H.KeyHash.hash_of c.args.shape _ _ c.in-Err-walk.fault (∥∥₁_map c.args.root.now.stands (λ some.
    let x = c.in-Ok.ensures.found some.of some.spells in
    (x.0, (c.in-Err-walk.ensures c.args.shape x.0 x.2).answer)))

pub returns-in-Ok-walk-clause-rows : goal.returns-in-Ok-walk-clause-rows
returns-in-Ok-walk-clause-rows g c = λ rows t stands.
    let x = c.in-Ok.ensures.found t stands in
    rows_listed g.H.KeyHash.hash_of c.args.shape t x.0 c.args.at.0 _ _ stands.within.tree x.1 c.in-Ok-walk.rows (c.in-Ok-walk.ensures c.args.shape x.0 x.2)

pub returns-in-Err-walk-clause-rows : goal.returns-in-Err-walk-clause-rows
returns-in-Err-walk-clause-rows g c = λ rows t stands.
    let x = c.in-Ok.ensures.found t stands in
    subst (λ e. ListsRows g.H.KeyHash.hash_of c.args.shape c.args.at.0 t (g.K.Store.moment c.args.store.now) (Err e) (g.K.Store.moment c.walk.new.store)) (sym c.walk_fault.ensures)
    (rows_stop g.H.KeyHash.hash_of c.args.shape t x.0 c.args.at.0 _ _ stands.within.tree x.1 c.in-Err-walk.fault (c.in-Err-walk.ensures c.args.shape x.0 x.2))

pub returns-in-Ok-walk-clause-spelled : goal.returns-in-Ok-walk-clause-spelled
returns-in-Ok-walk-clause-spelled g c =
    ∥∥₁_map c.args.root.now.stands (λ some.
    let x = c.in-Ok.ensures.found some.of some.spells in
    rows_spelled c.args.shape _ x.0 some.of x.1 some.spells.within c.args.at.0 c.in-Ok-walk.rows.items (c.in-Ok-walk.ensures c.args.shape x.0 x.2).stand)
