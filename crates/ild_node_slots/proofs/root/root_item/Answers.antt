use Rattle.std.proofs.Common.{refl, sym, ◌∙◌}
use Rattle.std.proofs.lemmas.Bool.{false≢true}
use Rattle.ild_typed.specs.Hamt.{root_map}
use Rattle.ild_node_slots.proofs.Rooting.{root-found, no-more}
use Rattle.ild_node_slots.proofs.root.root_item.Goals as goal

pub returns-in_err-entries-clause-only : goal.returns-in_err-entries-clause-only
returns-in_err-entries-clause-only c = λ d h. absurd (c.in_err-entries.ensures (root_map c.args.shape d) h)

pub returns-in_err-item-clause-only : goal.returns-in_err-item-clause-only
returns-in_err-item-clause-only c = λ d h.
    let e0 = (c.in_ok-entries.ensures (root_map c.args.shape d) h).left in
    absurd (c.in_err-item.ensures _ e0 refl)

pub returns-in_err-hash-clause-only : goal.returns-in_err-hash-clause-only
returns-in_err-hash-clause-only c = λ d h.
    let e0 = (c.in_ok-entries.ensures (root_map c.args.shape d) h).left in
    let e1 = (c.in_ok-item.ensures _ e0).left in
    absurd (c.in_err-hash.ensures _ e1 refl)

pub returns-in_err-bucket-clause-only : goal.returns-in_err-bucket-clause-only
returns-in_err-bucket-clause-only c = λ d h.
    let e0 = (c.in_ok-entries.ensures (root_map c.args.shape d) h).left in
    let e1 = (c.in_ok-item.ensures _ e0).left in
    let e2 = (c.in_ok-hash.ensures _ e1).left in
    absurd (c.in_err-bucket.ensures _ e2 refl)

pub returns-then-is_some-clause-only : goal.returns-then-is_some-clause-only
returns-then-is_some-clause-only c = λ d h.
    let e0 = (c.in_ok-entries.ensures (root_map c.args.shape d) h).left in
    let e1 = (c.in_ok-item.ensures _ e0).left in
    let e2 = (c.in_ok-hash.ensures _ e1).left in
    let e3 = (c.in_ok-bucket.ensures _ e2).left in
    absurd (no-more c.next_at-3.new.entries c.next.new.self c.next.result (c.next.ensures.steps _ e3) (sym c.is_some.ensures ∙ c.if-is_some.true))

pub returns-then-not-is_int-clause-only : goal.returns-then-not-is_int-clause-only
returns-then-not-is_int-clause-only c = λ d h.
    let e0 = (c.in_ok-entries.ensures (root_map c.args.shape d) h).left in
    let e1 = (c.in_ok-item.ensures _ e0).left in
    let hash = (c.in_ok-hash.ensures _ e1).stands in
    absurd (false≢true (sym c.if-not-is_int.true ∙ (c.is_int.ensures _ hash).1 refl))

pub returns-then-not-is_int-2-clause-only : goal.returns-then-not-is_int-2-clause-only
returns-then-not-is_int-2-clause-only c = λ d h.
    let e0 = (c.in_ok-entries.ensures (root_map c.args.shape d) h).left in
    let e1 = (c.in_ok-item.ensures _ e0).left in
    let e2 = (c.in_ok-hash.ensures _ e1).left in
    let bucket = (c.in_ok-bucket.ensures _ e2).stands in
    absurd (false≢true (sym c.if-not-is_int-2.true ∙ (c.is_int-2.ensures _ bucket).1 refl))

pub returns-clause-found : goal.returns-clause-found
returns-clause-found c = λ t h.
    root-found c.args.shape t c.args.node.now _ _ _ _ _ c.in_ok-item.item c.in_ok-hash.hash c.in_ok-bucket.bucket c.next.result (c.in_ok-entries.ensures t h) c.in_ok-item.ensures c.in_ok-hash.ensures
    c.in_ok-bucket.ensures c.next.ensures.steps (sym c.is_some.ensures ∙ c.if-is_some.false) (λ d s. (c.is_int.ensures d s).0 c.if-not-is_int.false) (λ d s. (c.is_int-2.ensures d s).0 c.if-not-is_int-2.false)
