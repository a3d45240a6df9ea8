use Rattle.std.proofs.Common.{List, ℕ, subst}
use Rattle.std.specs.Prelude.{IsUtf8}
use Rattle.std.specs.FinMap.{put}
use Rattle.ild_data.specs.ByteOrder.{bytewise}
use Rattle.ild_hamt.proofs.After.{holds-after, sound-put}
use Rattle.ild_hamt.proofs.Giving.{way-given}
use Rattle.ild_hamt_climb.proofs.Differing.{differs-put}
use Rattle.ild_hamt.proofs.Shaped.{sets-at, edits-at}
use Rattle.ild_hamt.proofs.trail.Trail.set.Goals as goal

pub returns-clause-held : goal.returns-clause-held
returns-clause-held g c = λ p k v slots es from stands room.
    holds-after p g.H.KeyHash.hash_of k c.args.root slots es (put bytewise k v es) _ _ c.set_way.result from.has from.trail.root (differs-put k v es from.trail.root.order)
    (sound-put k v es (subst (λ (x : List ℕ). IsUtf8 x) from.trail.key c.as_str-text.ensures.utf8) (record { tree = stands.within.tree; nested = c.requires v stands }))
    (sets-at g.H.KeyHash.hash_of p c.args.root c.args.self k _ _ _ v slots es (λ f some. c.set_way.ensures.sets g.H.KeyHash.hash_of k v slots es f stands some) from room)

pub returns-clause-sets : goal.returns-clause-sets
returns-clause-sets g c = λ p k v slots es from stands room.
    sets-at g.H.KeyHash.hash_of p c.args.root c.args.self k _ _ _ v slots es (λ f some. c.set_way.ensures.sets g.H.KeyHash.hash_of k v slots es f stands some) from room

pub returns-clause-edits : goal.returns-clause-edits
returns-clause-edits g c = λ p k v slots last leads stands.
    edits-at g.H.KeyHash.hash_of p c.args.root c.args.self k _ _ _ slots last (λ l. c.set_way.ensures.edits g.H.KeyHash.hash_of k v slots last l stands) leads

pub returns-clause-gives : goal.returns-clause-gives
returns-clause-gives g c = λ p k v slots es from stands room.
    way-given p g.H.KeyHash.hash_of k (put bytewise k v es) _ _ c.set_way.result (sets-at g.H.KeyHash.hash_of p c.args.root c.args.self k _ _ _ v slots es (λ f some. c.set_way.ensures.sets g.H.KeyHash.hash_of k v slots es f stands some) from room)
