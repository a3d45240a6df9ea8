use Rattle.std.proofs.Common.{◌∙◌, ◌+◌, ap, length}
use Rattle.ild_data.specs.ByteOrder.{without}
use Rattle.ild_hamt_trie.specs.Way.{along}
use Rattle.ild_hamt.specs.Descending.{trail_blocks}
use Rattle.ild_hamt.proofs.Fulling.{end-read, not-empty, not-child}
use Rattle.ild_hamt.proofs.Leaving.{others-bucket, none-without}
use Rattle.ild_hamt.proofs.Planned.{along-read, along-others, empty-entries, child-entries}
use Rattle.ild_hamt.proofs.trail.Trail.others.Goals as goal

pub returns-in-Bucket-clause-trie : goal.returns-in-Bucket-clause-trie
returns-in-Bucket-clause-trie c = λ h k slots es from.
    let is = end-read c.args.self.now.shape h c.args.root k slots es c.args.self.now c.deref.result.now _ from.has from.trail c.deref.ensures.value c.end_slot.ensures.shows in
    others-bucket c.args.self.now.shape c.rows_without.result h k c.as_str.result.now slots es c.args.self.now c.in-Bucket.bucket from.trail (c.as_str.ensures.same ∙ from.trail.key) (rw c.in-Bucket.is at is) c.rows_without.ensures

pub returns-in-Empty-clause-trie : goal.returns-in-Empty-clause-trie
returns-in-Empty-clause-trie c = λ h k slots es from.
    let is = end-read c.args.self.now.shape h c.args.root k slots es c.args.self.now c.deref.result.now _ from.has from.trail c.deref.ensures.value c.end_slot.ensures.shows in
    let gs = along h c.args.self.now.shape k (length (trail_blocks c.args.self.now) + 1) 0 es in
    c.new.ensures ∙ none-without k gs (not-empty c.args.self.now.shape.bucket gs from.trail.ends (rw c.in-Empty.is at is))

pub returns-in-Child-clause-trie : goal.returns-in-Child-clause-trie
returns-in-Child-clause-trie c = λ h k slots es from.
    let is = end-read c.args.self.now.shape h c.args.root k slots es c.args.self.now c.deref.result.now _ from.has from.trail c.deref.ensures.value c.end_slot.ensures.shows in
    let gs = along h c.args.self.now.shape k (length (trail_blocks c.args.self.now) + 1) 0 es in
    c.new-in-Child.ensures ∙ none-without k gs (not-child c.args.self.now.shape.bucket gs c.in-Child.field-0 from.trail.ends (rw c.in-Child.is at is))

pub rows_without-requires : goal.rows_without-requires
rows_without-requires c = c.in-Bucket.ensures.known

pub returns-in-Bucket-clause-at_end : goal.returns-in-Bucket-clause-at_end
returns-in-Bucket-clause-at_end c = λ h k slots last leads.
    let is = along-read c.args.self.now.shape c.args.root c.args.self.now h k slots last c.deref.result.now _ leads c.deref.ensures.value c.end_slot.ensures.shows in
    along-others c.args.self.now.shape c.rows_without.result c.args.root c.args.self.now h k c.as_str.result.now slots last c.in-Bucket.bucket leads (c.as_str.ensures.same ∙ leads.trail.key) (rw c.in-Bucket.is at is) c.rows_without.ensures

pub returns-in-Empty-clause-at_end : goal.returns-in-Empty-clause-at_end
returns-in-Empty-clause-at_end c = λ h k slots last leads.
    let is = along-read c.args.self.now.shape c.args.root c.args.self.now h k slots last c.deref.result.now _ leads c.deref.ensures.value c.end_slot.ensures.shows in
    c.new.ensures ∙ ap (without k) (empty-entries _ (rw c.in-Empty.is at is))

pub returns-in-Child-clause-at_end : goal.returns-in-Child-clause-at_end
returns-in-Child-clause-at_end c = λ h k slots last leads.
    let is = along-read c.args.self.now.shape c.args.root c.args.self.now h k slots last c.deref.result.now _ leads c.deref.ensures.value c.end_slot.ensures.shows in
    c.new-in-Child.ensures ∙ ap (without k) (child-entries _ c.in-Child.field-0 (rw c.in-Child.is at is))
