use Rattle.std.proofs.Common.{ap, length, arith}
use Rattle.std.proofs.lemmas.Result.{err_from_is_err_and}
use Rattle.ild_resolve.proofs.DeclsLeft.{decls_left-room, decls_left-wrong, decls_left-next}
use Rattle.ild_resolve.proofs.table.push_decls.Goals as goal

pub push_decl-requires : goal.push_decl-requires
push_decl-requires c =
    let left = rw c.in-Some.ensures.steps.0 at c.loop-decl.invariant.2 in
    record { small = decls_left-room _ _ _ _ _ _ left }

pub returns-in_err-push_decl-clause-words : goal.returns-in_err-push_decl-clause-words
returns-in_err-push_decl-clause-words c =
    let left = rw c.in-Some.ensures.steps.0 at c.loop-decl.invariant.2 in
    let p = err_from_is_err_and c.from_residual.result c.from_residual.ensures.1 in
    rw (p.1, p.2) (decls_left-wrong _ _ _ _ _ _ left _ c.in_err-push_decl.ensures.words)

pub loop-decl-preserved : goal.loop-decl-preserved
loop-decl-preserved c =
    let left = rw c.in-Some.ensures.steps.0 at c.loop-decl.invariant.2 in
    let count = ap length c.in-Some.ensures.steps.0 in
    (tt, tt, decls_left-next _ _ _ _ _ _ left _ c.in_ok-push_decl.ensures.words c.in_ok-push_decl.ensures.rows, omega (arith, count, c.in-Some.ensures.steps.1, c.loop-decl.invariant.3))
