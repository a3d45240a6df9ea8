use Rattle.std.proofs.Common.{ℕ, map, take, sym, subst, List, arith}
use Rattle.std.proofs.lemmas.List.{take_all}
use Rattle.ild_data.specs.Data.{Data}
use Rattle.ild_data.specs.Seen.{pair_of}
use Rattle.ild_data.proofs.Lists.{taken_more}
use Rattle.ild_data.proofs.Rising.{AreParts, AreParts-push, AreEntries-rising}
use Rattle.ild_data.proofs.tree.Entries.from_vec.Goals as goal

pub loop-pair-preserved : goal.loop-pair-preserved
loop-pair-preserved c =
    let xs = c.deref-pair-items.result.now in
    let i = c.loop-pair.pair-index in
    let p = c.pair-item.result in
    let more = taken_more pair_of xs i p c.loop-pair-test.true c.pair-item.is in
    subst (λ (ms : List (List ℕ × Data)). AreParts ms) (sym more) (AreParts-push (map pair_of (take i xs)) (pair_of p) c.loop-pair.invariant c.as_str-text.ensures.utf8 c.well_formed-in-loop-pair.ensures)

pub invariant_of-result : goal.invariant_of-result
invariant_of-result c =
    let xs = c.deref-pair-items.result.now in
    let i = c.loop-pair.pair-index in
    let whole = take_all i xs (omega (arith, c.loop-pair-test.false)) in
    AreEntries-rising _ (rw (← c.deref-pair-items.ensures.value, ← whole) c.loop-pair.invariant) c.requires
