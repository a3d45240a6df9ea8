use Rattle.std.proofs.Common.{◌≡◌, ◌+◌, ◌++◌, length, take, drop, sym, subst, arith}
use Rattle.std.proofs.lemmas.List.{take_at}
use Rattle.ild_schema.specs.Ends.{IsEnded}
use Rattle.ild_schema.proofs.Keeping.{Kept, kept_more}
use Rattle.ild_schema.proofs.ends.ends_of.Goals as goal

-- the slice that was lent is the whole vector
pub loop-n-preserved : goal.loop-n-preserved
loop-n-preserved c =
    let ends = c.keep_end.new.ends in
    let rest = drop (length ends) c.loop-n.ends.items in
    let whole : take c.loop-n.ends.len (ends ++ rest) ≡ ends = take_at ends rest c.loop-n.ends.len (omega arith) in
    subst (λ xs. Kept c.args.rows.now (c.loop-n.n + 1) xs) (sym whole)
    (kept_more c.args.rows.now c.loop-n.n c.loop-n.ends.items ends c.loop-n.invariant c.keep_end.ensures.ends c.keep_end.ensures.here
    (λ n h. c.keep_end.ensures.stays n (subst (λ xs. IsEnded c.args.rows.now xs n) (sym c.deref_mut.ensures.value) h)))
