use Rattle.std.proofs.Common.{ℕ, List, ◌∙◌, length, sym, subst}
use Rattle.ild_data.specs.declared.hamt_shape.HamtShape.{HamtShape}
use Rattle.ild_node_slots.specs.Views.{HasSlots}
use Rattle.ild_hamt.specs.Descending.{IsTrailOf, trail_blocks}
use Rattle.ild_hamt.specs.Found.{FoundInNode}
use Rattle.ild_hamt.proofs.Found.{finds_bucket, finds_child, finds_empty}
use Rattle.ild_hamt.proofs.Fulling.{end-read, found-bucket, found-empty, found-child}
use Rattle.ild_hamt.proofs.Planned.{along-read}
use Rattle.ild_hamt.proofs.trail.Trail.found.Goals as goal

pub returns-in-Bucket-clause-trie : goal.returns-in-Bucket-clause-trie
returns-in-Bucket-clause-trie c = λ h p k slots es has same.
    let trail = subst (λ (q : HamtShape). IsTrailOf h q k slots es c.args.self.now) (sym same.shape) same in
    let is = end-read c.args.self.now.shape h c.args.root k slots es c.args.self.now c.deref.result.now _ (subst (λ (q : HamtShape). HasSlots q c.args.root slots) (sym same.shape) has) trail c.deref.ensures.value c.end_slot.ensures.shows in
    found-bucket h c.args.self.now.shape k c.as_str.result.now slots es c.args.self.now c.in-Bucket.bucket _ trail (c.as_str.ensures.same ∙ trail.key) (rw c.in-Bucket.is at is) c.find.ensures

pub returns-in-Empty-clause-trie : goal.returns-in-Empty-clause-trie
returns-in-Empty-clause-trie c = λ h p k slots es has same.
    let trail = subst (λ (q : HamtShape). IsTrailOf h q k slots es c.args.self.now) (sym same.shape) same in
    let is = end-read c.args.self.now.shape h c.args.root k slots es c.args.self.now c.deref.result.now _ (subst (λ (q : HamtShape). HasSlots q c.args.root slots) (sym same.shape) has) trail c.deref.ensures.value c.end_slot.ensures.shows in
    found-empty h c.args.self.now.shape k slots es c.args.self.now trail (rw c.in-Empty.is at is)

pub returns-in-Child-clause-trie : goal.returns-in-Child-clause-trie
returns-in-Child-clause-trie c = λ h p k slots es has same.
    let trail = subst (λ (q : HamtShape). IsTrailOf h q k slots es c.args.self.now) (sym same.shape) same in
    let is = end-read c.args.self.now.shape h c.args.root k slots es c.args.self.now c.deref.result.now _ (subst (λ (q : HamtShape). HasSlots q c.args.root slots) (sym same.shape) has) trail c.deref.ensures.value c.end_slot.ensures.shows in
    found-child h c.args.self.now.shape k slots es c.args.self.now c.in-Child.field-0 trail (rw c.in-Child.is at is)

pub returns-in-Bucket-clause-at_end : goal.returns-in-Bucket-clause-at_end
returns-in-Bucket-clause-at_end c = λ h k slots last leads.
    let is = along-read c.args.self.now.shape c.args.root c.args.self.now h k slots last c.deref.result.now _ leads c.deref.ensures.value c.end_slot.ensures.shows in
    let depth = length (trail_blocks c.args.self.now) in
    subst (λ (key : List ℕ). FoundInNode c.args.self.now.shape (h k) depth key last c.find.result) (c.as_str.ensures.same ∙ leads.trail.key)
    (finds_bucket c.args.self.now.shape (h k) depth c.as_str.result.now last c.in-Bucket.bucket _ (rw c.in-Bucket.is at is) c.find.ensures)

pub returns-in-Empty-clause-at_end : goal.returns-in-Empty-clause-at_end
returns-in-Empty-clause-at_end c = λ h k slots last leads.
    let is = along-read c.args.self.now.shape c.args.root c.args.self.now h k slots last c.deref.result.now _ leads c.deref.ensures.value c.end_slot.ensures.shows in
    finds_empty c.args.self.now.shape (h k) (length (trail_blocks c.args.self.now)) k last (rw c.in-Empty.is at is)

pub returns-in-Child-clause-at_end : goal.returns-in-Child-clause-at_end
returns-in-Child-clause-at_end c = λ h k slots last leads.
    let is = along-read c.args.self.now.shape c.args.root c.args.self.now h k slots last c.deref.result.now _ leads c.deref.ensures.value c.end_slot.ensures.shows in
    finds_child c.args.self.now.shape (h k) (length (trail_blocks c.args.self.now)) k last c.in-Child.field-0 (rw c.in-Child.is at is)
