use Rattle.std.proofs.Common.{◌-◌, arith}
use Rattle.std.proofs.lemmas.List.{length-map}
use Rattle.std.proofs.lemmas.Result.{err_from_is_err_and}
use Rattle.ild_data.specs.TrieShape.{trie_levels}
use Rattle.ild_node.specs.Keyed.{keyed_rows, keyed_seen}
use Rattle.ild_bulk.proofs.Building.{slot-stop}
use Rattle.ild_bulk.proofs.plan.plan_keyed.Goals as goal

pub returns-in_err-plan_rows-clause-plans : goal.returns-in_err-plan_rows-clause-plans
returns-in_err-plan_rows-clause-plans c = λ h all.
    let p = err_from_is_err_and c.from_residual-in_err-plan_rows.result c.from_residual-in_err-plan_rows.ensures.1 in
    rw (p.1, p.2) (slot-stop h c.args.shape (trie_levels c.args.shape - c.args.depth) c.args.depth (keyed_rows c.args.rows.now) c.in_err-plan_rows.field-0.0 c.args.blocks.now.items c.plan_rows.new.blocks.items c.plan_rows.new.blocks.items
    (omega (arith, length-map c.args.rows.now keyed_seen)) (c.in_err-plan_rows.ensures h all))
