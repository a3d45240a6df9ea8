use Rattle.std.proofs.Common.{◌+◌, refl, sym, ap, ◌∙◌, arith}
use Rattle.std.proofs.lemmas.List.Elements.{All-nil, All-push, All-same}
use Rattle.std.proofs.lemmas.Result.{err_from_is_err_and}
use Rattle.ild_hamt_trie.proofs.Levels.{levels-many}
use Rattle.ild_node_slots.proofs.Shapes.{levels_some}
use Rattle.ild_hamt_climb.specs.NodeBytes.{IsNodeBytes}
use Rattle.ild_hamt.proofs.Going.{going-stopped, going-beyond, going-more, going-full, going-unnamed, going-done, going-start, room-next, stands-at}
use Rattle.ild_hamt.proofs.descending.descend_in.Goals as goal

pub returns-in_err-reached : goal.returns-in_err-reached
returns-in_err-reached g c = λ slots has.
    let p = err_from_is_err_and c.from_residual.result c.from_residual.ensures.1 in
    let inv = rw c.in-Some.is at c.loop-next.invariant in
    rw (p.1, p.2) (going-stopped g.H.KeyHash.hash_of c.args.shape c.args.key.now c.hash-hash.result slots _ _ c.loop-next.depth _ _ _ _ c.args.shape.wide
    (c.hash-hash.ensures ∙ ap g.H.KeyHash.hash_of c.as_bytes.ensures.value) (inv.3 slots has) (inv.2 refl) c.in_err-reached.ensures.fetched)

pub returns-then-is_beyond : goal.returns-then-is_beyond
returns-then-is_beyond g c = λ slots has.
    let inv = rw c.in-Some.is at c.loop-next.invariant in
    going-beyond g.H.KeyHash.hash_of c.args.shape c.args.key.now c.hash-hash.result slots _ _ c.loop-next.depth c.in-Some.id _ _ _ _ (c.loop-next.depth + 1) c.args.shape.wide
    (c.hash-hash.ensures ∙ ap g.H.KeyHash.hash_of c.as_bytes.ensures.value) (inv.3 slots has) c.in_ok-reached.ensures.fetched refl (inv.2 refl) c.in_ok-reached.ensures.child
    (sym c.is_beyond.ensures ∙ c.if-is_beyond.true)

pub loop-next-preserved : goal.loop-next-preserved
loop-next-preserved g c =
    let inv = rw c.in-Some.is at c.loop-next.invariant in (
      All-same (IsNodeBytes c.args.shape) c.push.new.self.items _ c.in_ok-push.ensures.items (All-push (IsNodeBytes c.args.shape) c.loop-next.blocks.items _ inv.0 c.in_ok-reached.ensures.known),
      inv.2 refl,
      room-next c.args.shape _ (c.loop-next.depth + 1) (sym c.is_beyond.ensures ∙ c.if-is_beyond.false),
      λ slots has.
          going-more c.args.shape c.hash-hash.result slots _ _ c.loop-next.depth _ _ _ _ c.push.new.self.items (c.loop-next.depth + 1) _ (inv.3 slots has) c.in_ok-reached.ensures.fetched refl
          (inv.2 refl) c.in_ok-reached.ensures.child c.in_ok-push.ensures.items,
    )

pub returns-in_err-push : goal.returns-in_err-push
returns-in_err-push g c = λ slots has.
    let p = err_from_is_err_and c.from_residual-in_err-push.result c.from_residual-in_err-push.ensures.1 in
    let inv = rw c.in-Some.is at c.loop-next.invariant in
    rw (p.1, p.2) (going-full g.H.KeyHash.hash_of c.args.shape c.args.key.now c.hash-hash.result slots _ _ c.loop-next.depth _ _ _ _ c.args.shape.wide
    (c.hash-hash.ensures ∙ ap g.H.KeyHash.hash_of c.as_bytes.ensures.value) (inv.3 slots has) (inv.2 refl) c.in_ok-reached.ensures.fetched)

pub returns-in_err-key : goal.returns-in_err-key
returns-in_err-key g c = λ slots has.
    let p = err_from_is_err_and c.from_residual-in_err-key.result c.from_residual-in_err-key.ensures.1 in
    let inv = rw c.in_default.is at c.loop-next.invariant in
    rw (p.1, p.2) (going-unnamed g.H.KeyHash.hash_of c.args.shape c.args.key.now c.hash-hash.result slots _ _ c.loop-next.depth _ c.args.shape.wide
    (c.hash-hash.ensures ∙ ap g.H.KeyHash.hash_of c.as_bytes.ensures.value) (inv.3 slots has))

pub returns-in_err-others : goal.returns-in_err-others
returns-in_err-others g c = λ slots has.
    let p = err_from_is_err_and c.from_residual-in_err-others.result c.from_residual-in_err-others.ensures.1 in
    let inv = rw c.in_default.is at c.loop-next.invariant in
    rw (p.1, p.2) (going-unnamed g.H.KeyHash.hash_of c.args.shape c.args.key.now c.hash-hash.result slots _ _ c.loop-next.depth _ c.args.shape.wide
    (c.hash-hash.ensures ∙ ap g.H.KeyHash.hash_of c.as_bytes.ensures.value) (inv.3 slots has))

pub returns : goal.returns
returns g c = λ slots has.
    let inv = rw c.in_default.is at c.loop-next.invariant in
    going-done g.H.KeyHash.hash_of c.args.shape c.args.key.now c.hash-hash.result slots _ c.loop-next.depth _ _ c.end_slot-slot.result c.args.shape.wide
    (c.hash-hash.ensures ∙ ap g.H.KeyHash.hash_of c.as_bytes.ensures.value) (inv.3 slots has) refl c.in_ok-key.ensures refl refl
    (stands-at c.args.shape c.args.root c.end_slot-slot.result c.hash-hash.result c.loop-next.depth slots c.deref.result.now _ c.deref.ensures.value has c.end_slot-slot.ensures.shows) (λ y at. c.is_full-exhausted.ensures g.H.KeyHash.hash_of y at (c.deref-2.ensures.value ∙ c.in_ok-others.ensures y at)) (λ y at. c.in_ok-others.ensures y at)

pub reach-requires : goal.reach-requires
reach-requires g c = let inv = rw c.in-Some.is at c.loop-next.invariant in inv.2 refl

pub is_beyond-requires : goal.is_beyond-requires
is_beyond-requires g c = let inv = rw c.in-Some.is at c.loop-next.invariant in inv.2 refl

pub loop-next-init : goal.loop-next-init
loop-next-init g c = (
  All-same (IsNodeBytes c.args.shape) _ _ c.new-blocks.ensures.items (All-nil (IsNodeBytes c.args.shape)),
  let many = levels-many c.args.shape in omega (arith, many),
  λ some. let many = levels-many c.args.shape in omega (arith, many),
  λ slots has. going-start c.args.shape c.hash-hash.result slots _ _ 0 _ (levels_some c.args.shape) c.new-blocks.ensures.items refl (c.child_at-next.ensures slots has),
)
