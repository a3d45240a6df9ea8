use Rattle.std.proofs.Common.{length, ◌∙◌, sym, subst, ◌<◌, arith}
use Rattle.ild_data.specs.declared.hamt_shape.HamtShape.{HamtShape}
use Rattle.std.specs.Prelude.{Ok, Err}
use Rattle.std.proofs.lemmas.Result.{err_from_is_err_and}
use Rattle.ild_data.specs.TrieShape.{trie_levels}
use Rattle.ild_bulk_walker.specs.Ahead.{walker_path}
use Rattle.ild_bulk_walker.proofs.Nexting.{enters-more}
use Rattle.ild_bulk_walker.proofs.Shaped.{enters-at}
use Rattle.ild_bulk_walker.proofs.walker.Walker.enter_all.Goals as goal

pub loop-child-preserved : goal.loop-child-preserved
loop-child-preserved g c = (
  enters-more c.args.self.now.shape (length (walker_path c.loop-child.self)) 1 (length (walker_path c.enter.new.self)) _ (g.K.Store.moment c.loop-child.store) _ _ c.loop-child.self _ (Ok tt) (omega (arith, c.in_ok-enter.ensures.longer)) c.loop-child.invariant.0 (enters-at c.loop-child.invariant.1 c.in_ok-enter.ensures.enters),
  c.in_ok-enter.ensures.shape ∙ c.loop-child.invariant.1,
)

pub returns-in_err-enter-clause-enters : goal.returns-in_err-enter-clause-enters
returns-in_err-enter-clause-enters g c =
    let p = err_from_is_err_and c.from_residual.result c.from_residual.ensures.1 in
    let short = c.loop-child.invariant.0.short in
    rw (p.1, p.2) (enters-more c.args.self.now.shape (length (walker_path c.loop-child.self)) 1 (trie_levels c.args.self.now.shape) _ (g.K.Store.moment c.loop-child.store) _ _ c.loop-child.self _ (Err c.in_err-enter.field-0.0) (omega arith) c.loop-child.invariant.0 (enters-at c.loop-child.invariant.1 c.in_err-enter.ensures.enters))

pub returns-in_err-enter-clause-shape : goal.returns-in_err-enter-clause-shape
returns-in_err-enter-clause-shape g c = c.in_err-enter.ensures.shape ∙ c.loop-child.invariant.1

pub enter-requires-clause-short : goal.enter-requires-clause-short
enter-requires-clause-short g c =
    subst (λ (q : HamtShape). length (walker_path c.loop-child.self) < trie_levels q) (sym c.loop-child.invariant.1) c.loop-child.invariant.0.short
