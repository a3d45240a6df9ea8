use Rattle.std.proofs.Common.{Ok, ◌∙◌, ◌+◌, ap, sym, length}
use Rattle.std.specs.FinMap.{find}
use Rattle.ild_data.specs.ByteOrder.{bytewise}
use Rattle.std.proofs.lemmas.Result.{err_from_is_err_and}
use Rattle.ild_hamt_trie.specs.Way.{along}
use Rattle.ild_hamt.specs.Descending.{trail_blocks}
use Rattle.ild_hamt.proofs.Fulling.{end-read, not-empty, not-child}
use Rattle.ild_hamt.proofs.Leaving.{others-bucket, bucket-found, bucket-missing, none-found}
use Rattle.ild_hamt.proofs.Planned.{along-read, along-others, along-found, along-missing, empty-entries, child-entries}
use Rattle.ild_hamt.proofs.trail.Trail.rest.Goals as goal

pub returns-in_ok-rows_without-in-Some-clause-trie : goal.returns-in_ok-rows_without-in-Some-clause-trie
returns-in_ok-rows_without-in-Some-clause-trie c = λ h k slots es from.
    let is = end-read c.args.self.now.shape h c.args.root k slots es c.args.self.now c.deref.result.now _ from.has from.trail c.deref.ensures.value c.end_slot.ensures.shows in (
      bucket-found c.args.self.now.shape h k c.as_str.result.now slots es c.args.self.now c.in-Bucket.bucket c.in-Some.field-0 from.trail (c.as_str.ensures.same ∙ from.trail.key) (rw c.in-Bucket.is at is) c.in-Some.ensures,
      others-bucket {E = Unit {0}} c.args.self.now.shape (Ok c.in_ok-rows_without-in-Some.field-0) h k c.as_str-in-Some.result.now slots es c.args.self.now c.in-Bucket.bucket from.trail (c.as_str-in-Some.ensures.same ∙ from.trail.key) (rw c.in-Bucket.is at is) c.in_ok-rows_without-in-Some.ensures,
    )

pub returns-in_err-rows_without-in-Some-clause-trie : goal.returns-in_err-rows_without-in-Some-clause-trie
returns-in_err-rows_without-in-Some-clause-trie c = λ h k slots es from.
    let is = end-read c.args.self.now.shape h c.args.root k slots es c.args.self.now c.deref.result.now _ from.has from.trail c.deref.ensures.value c.end_slot.ensures.shows in
    let p = err_from_is_err_and c.from_residual.result c.from_residual.ensures.1 in
    rw p.1 (bucket-found c.args.self.now.shape h k c.as_str.result.now slots es c.args.self.now c.in-Bucket.bucket c.in-Some.field-0 from.trail (c.as_str.ensures.same ∙ from.trail.key) (rw c.in-Bucket.is at is) c.in-Some.ensures)

pub returns-in-None-clause-trie : goal.returns-in-None-clause-trie
returns-in-None-clause-trie c = λ h k slots es from.
    let is = end-read c.args.self.now.shape h c.args.root k slots es c.args.self.now c.deref.result.now _ from.has from.trail c.deref.ensures.value c.end_slot.ensures.shows in
    bucket-missing c.args.self.now.shape h k c.as_str.result.now slots es c.args.self.now c.in-Bucket.bucket from.trail (c.as_str.ensures.same ∙ from.trail.key) (rw c.in-Bucket.is at is) c.in-None.ensures

pub returns-in-Empty-clause-trie : goal.returns-in-Empty-clause-trie
returns-in-Empty-clause-trie c = λ h k slots es from.
    let is = end-read c.args.self.now.shape h c.args.root k slots es c.args.self.now c.deref.result.now _ from.has from.trail c.deref.ensures.value c.end_slot.ensures.shows in
    let gs = along h c.args.self.now.shape k (length (trail_blocks c.args.self.now) + 1) 0 es in
    none-found k gs (not-empty c.args.self.now.shape.bucket gs from.trail.ends (rw c.in-Empty.is at is))

pub returns-in-Child-clause-trie : goal.returns-in-Child-clause-trie
returns-in-Child-clause-trie c = λ h k slots es from.
    let is = end-read c.args.self.now.shape h c.args.root k slots es c.args.self.now c.deref.result.now _ from.has from.trail c.deref.ensures.value c.end_slot.ensures.shows in
    let gs = along h c.args.self.now.shape k (length (trail_blocks c.args.self.now) + 1) 0 es in
    none-found k gs (not-child c.args.self.now.shape.bucket gs c.in-Child.field-0 from.trail.ends (rw c.in-Child.is at is))

pub rows_without-requires : goal.rows_without-requires
rows_without-requires c = c.in-Bucket.ensures.known

pub returns-in_ok-rows_without-in-Some-clause-at_end : goal.returns-in_ok-rows_without-in-Some-clause-at_end
returns-in_ok-rows_without-in-Some-clause-at_end c = λ h k slots last leads.
    let is = along-read c.args.self.now.shape c.args.root c.args.self.now h k slots last c.deref.result.now _ leads c.deref.ensures.value c.end_slot.ensures.shows in (
      along-found k c.as_str.result.now c.in-Bucket.bucket c.in-Some.field-0 _ (c.as_str.ensures.same ∙ leads.trail.key) (rw c.in-Bucket.is at is) c.in-Some.ensures,
      along-others {E = Unit {0}} c.args.self.now.shape (Ok c.in_ok-rows_without-in-Some.field-0) c.args.root c.args.self.now h k c.as_str-in-Some.result.now slots last c.in-Bucket.bucket leads (c.as_str-in-Some.ensures.same ∙ leads.trail.key) (rw c.in-Bucket.is at is) c.in_ok-rows_without-in-Some.ensures,
    )

pub returns-in_err-rows_without-in-Some-clause-at_end : goal.returns-in_err-rows_without-in-Some-clause-at_end
returns-in_err-rows_without-in-Some-clause-at_end c = λ h k slots last leads.
    let is = along-read c.args.self.now.shape c.args.root c.args.self.now h k slots last c.deref.result.now _ leads c.deref.ensures.value c.end_slot.ensures.shows in
    let p = err_from_is_err_and c.from_residual.result c.from_residual.ensures.1 in
    rw p.1 (along-found k c.as_str.result.now c.in-Bucket.bucket c.in-Some.field-0 _ (c.as_str.ensures.same ∙ leads.trail.key) (rw c.in-Bucket.is at is) c.in-Some.ensures)

pub returns-in-None-clause-at_end : goal.returns-in-None-clause-at_end
returns-in-None-clause-at_end c = λ h k slots last leads.
    let is = along-read c.args.self.now.shape c.args.root c.args.self.now h k slots last c.deref.result.now _ leads c.deref.ensures.value c.end_slot.ensures.shows in
    along-missing k c.as_str.result.now c.in-Bucket.bucket _ (c.as_str.ensures.same ∙ leads.trail.key) (rw c.in-Bucket.is at is) c.in-None.ensures

pub returns-in-Empty-clause-at_end : goal.returns-in-Empty-clause-at_end
returns-in-Empty-clause-at_end c = λ h k slots last leads.
    let is = along-read c.args.self.now.shape c.args.root c.args.self.now h k slots last c.deref.result.now _ leads c.deref.ensures.value c.end_slot.ensures.shows in
    ap (find bytewise k) (sym (empty-entries _ (rw c.in-Empty.is at is)))

pub returns-in-Child-clause-at_end : goal.returns-in-Child-clause-at_end
returns-in-Child-clause-at_end c = λ h k slots last leads.
    let is = along-read c.args.self.now.shape c.args.root c.args.self.now h k slots last c.deref.result.now _ leads c.deref.ensures.value c.end_slot.ensures.shows in
    ap (find bytewise k) (sym (child-entries _ c.in-Child.field-0 (rw c.in-Child.is at is)))
