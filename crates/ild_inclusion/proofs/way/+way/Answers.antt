use Rattle.std.proofs.Common.{◌+◌, ℕ, List, None, Err, refl, subst, arith}
use Rattle.ild_inclusion.specs.Given.{EndGiven, WrongGiven}
use Rattle.ild_inclusion.specs.Way.{OnWay}
use Rattle.ild_inclusion.specs.declared.end.End.{End}
use Rattle.ild_inclusion.specs.declared.fault.Reject.TheVariants as R
use Rattle.ild_inclusion.proofs.Ways.{at_index, goes_beneath, slot_bucket, slot_child, slot_empty, stops_beneath, value_given, way_bucket, way_empty, way_last, way_next}
use Rattle.ild_inclusion.proofs.way.+way.Goals as goal

pub returns-then-not-has_level : goal.returns-then-not-has_level
returns-then-not-has_level t c = λ slots has.
    way_last c.args.shape c.args.hash.now c.args.key.now (EndGiven (Err (R.Shape c.args.at))) (WrongGiven {X = End} (Err (R.Shape c.args.at))) c.args.depth c.args.at slots c.args.left.now c.in-Child.id.0
    (at_index c.args.shape slots c.args.hash.now c.args.depth c.index_of.result _ c.index_of.ensures.index (slot_child c.args.node slots c.index_of.result c.in-Child.id _ (c.in-Child.ensures c.args.shape slots has)))
    (λ lt. let last = c.has_level.ensures.no c.if-not-has_level.true in omega (arith, last, lt)) refl

pub returns-in-Empty : goal.returns-in-Empty
returns-in-Empty t c = λ slots has.
    way_empty c.args.shape c.args.hash.now c.args.key.now (EndGiven c.ended_in.result) (WrongGiven c.ended_in.result) c.args.depth c.args.at slots c.args.left.now
    (at_index c.args.shape slots c.args.hash.now c.args.depth c.index_of.result _ c.index_of.ensures.index (slot_empty c.args.node slots c.index_of.result _ (c.in-Empty.ensures c.args.shape slots has)))
    (c.ended_in.ensures None tt)

pub returns-in-Bucket : goal.returns-in-Bucket
returns-in-Bucket t c = λ slots has.
    let b = slot_bucket c.args.node slots c.index_of.result c.in-Bucket.bucket _ (c.in-Bucket.ensures c.args.shape slots has) in
    way_bucket c.args.shape c.args.hash.now c.args.key.now (EndGiven c.ended_in-in-Bucket.result) (WrongGiven c.ended_in-in-Bucket.result) c.args.depth c.args.at slots c.args.left.now b.entries
    (at_index c.args.shape slots c.args.hash.now c.args.depth c.index_of.result _ c.index_of.ensures.index b.is)
    (c.ended_in-in-Bucket.ensures _ (value_given _ b.entries c.args.key.now _ c.find.result (c.find.ensures b.entries b.has)))

pub returns-in-Ok : goal.returns-in-Ok
returns-in-Ok t c = λ slots has.
    way_next c.args.shape c.args.hash.now c.args.key.now (EndGiven c.find_end.result) (WrongGiven c.find_end.result) c.args.depth c.args.at slots c.args.left.now c.in-Child.id.0
    (at_index c.args.shape slots c.args.hash.now c.args.depth c.index_of.result _ c.index_of.ensures.index (slot_child c.args.node slots c.index_of.result c.in-Child.id _ (c.in-Child.ensures c.args.shape slots has)))
    (let more = c.has_level.ensures.yes c.if-not-has_level.false in omega (arith, more))
    (goes_beneath c.args.shape c.args.hash.now c.args.key.now c.find_end.result (c.args.depth + 1) c.args.at c.in-Child.id.0 c.args.left.now c.in-Ok.beneath c.in-Ok.ensures
    (λ below cs given. subst (λ (xs : List (List ℕ)). OnWay c.args.shape c.args.hash.now c.args.key.now (EndGiven c.find_end.result) (WrongGiven c.find_end.result) (c.args.depth + 1) (c.args.at + 1) below xs) given.1 (c.find_end.ensures below given.0)))

pub returns-in-Err : goal.returns-in-Err
returns-in-Err t c = λ slots has.
    way_next c.args.shape c.args.hash.now c.args.key.now (EndGiven (Err c.in-Err.reject)) (WrongGiven {X = End} (Err c.in-Err.reject)) c.args.depth c.args.at slots c.args.left.now c.in-Child.id.0
    (at_index c.args.shape slots c.args.hash.now c.args.depth c.index_of.result _ c.index_of.ensures.index (slot_child c.args.node slots c.index_of.result c.in-Child.id _ (c.in-Child.ensures c.args.shape slots has)))
    (let more = c.has_level.ensures.yes c.if-not-has_level.false in omega (arith, more))
    (stops_beneath c.args.shape c.args.hash.now c.args.key.now (c.args.depth + 1) c.args.at c.in-Child.id.0 c.args.left.now c.in-Err.reject c.in-Err.ensures)
