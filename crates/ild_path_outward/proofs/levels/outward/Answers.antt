use Rattle.std.proofs.Common.{◌≡◌, List, [], rules, sym, subst}
use Rattle.std.proofs.Math.Logic.{∥∥₁_map}
use Rattle.ild_path_hops.proofs.Linking.{linked_fewer}
use Rattle.ild_path_hops.specs.Hops.{front_of}
use Rattle.ild_path_hops.specs.Links.{RootBehind}
use Rattle.ild_path_hops.specs.declared.hop.Hop.{Hop}
use Rattle.std.proofs.lemmas.Result.{err_from_is_err_and}
use Rattle.ild_path_outward.proofs.Carrying.{caused_later, finish, start, step_done, step_failed, stepped}
use Rattle.ild_edges.proofs.Later.{Later-refl, Later-trans}
use Rattle.ild_path_outward.proofs.levels.outward.Goals as goal

pub loop-hop-init : goal.loop-hop-init
loop-hop-init g c = (
  search rules,
  Later-refl _,
  c.requires,
  λ is_key was room v w t u told x.
      start g.H.KeyHash.hash_of is_key was room v w t u c.args.root.now c.args.hops.items c.args.new (g.K.Store.moment c.args.store.now) told x,
)

pub returns-in_err-block-clause-carries : goal.returns-in_err-block-clause-carries
returns-in_err-block-clause-carries g c = λ is_key was room v w t u told x.
    let y = rw c.in-Some.ensures.items at (c.loop-hop.invariant.3 is_key was room v w t u told x) in
    let p = err_from_is_err_and c.from_residual.result c.from_residual.ensures.1 in
    let z = stepped g.H.KeyHash.hash_of is_key was room v w t u c.args.root.now c.args.hops.items c.args.new (g.K.Store.moment c.args.store.now) told x c.pop.new.self.items c.in-Some.hop c.loop-hop.block (g.K.Store.moment c.loop-hop.store) y
    (g.K.Store.moment c.set_in.new.store) _ c.deref.result.now c.deref.ensures.value c.in_err-block.ensures.root c.in_err-block.ensures.below in
    rw (p.1, p.2) (step_failed g.H.KeyHash.hash_of is_key was room v w t u c.args.root.now c.args.hops.items c.args.new (g.K.Store.moment c.args.store.now) told x c.pop.new.self.items c.in-Some.hop c.loop-hop.block (g.K.Store.moment c.loop-hop.store) y
    (g.K.Store.moment c.set_in.new.store) c.in_err-block.field-0.0 z)

pub loop-hop-preserved : goal.loop-hop-preserved
loop-hop-preserved g c = (
  search rules,
  Later-trans _ _ _ c.loop-hop.invariant.1 c.in_ok-block.ensures.caused.later,
  ∥∥₁_map c.loop-hop.invariant.2 (linked_fewer c.args.root.now c.loop-hop.hops.items c.pop.new.self.items c.in-Some.hop c.in-Some.ensures.items),
  λ is_key was room v w t u told x.
      let y = rw c.in-Some.ensures.items at (c.loop-hop.invariant.3 is_key was room v w t u told x) in
      let z = stepped g.H.KeyHash.hash_of is_key was room v w t u c.args.root.now c.args.hops.items c.args.new (g.K.Store.moment c.args.store.now) told x c.pop.new.self.items c.in-Some.hop c.loop-hop.block (g.K.Store.moment c.loop-hop.store) y
      (g.K.Store.moment c.set_in.new.store) _ c.deref.result.now c.deref.ensures.value c.in_ok-block.ensures.root c.in_ok-block.ensures.below in
      step_done g.H.KeyHash.hash_of is_key was room v w t u c.args.root.now c.args.hops.items c.args.new (g.K.Store.moment c.args.store.now) told x c.pop.new.self.items c.in-Some.hop c.loop-hop.block (g.K.Store.moment c.loop-hop.store) y
      (g.K.Store.moment c.set_in.new.store) c.in_ok-block.block z,
)

pub returns-clause-carries : goal.returns-clause-carries
returns-clause-carries g c = λ is_key was room v w t u told x.
    let none : c.loop-hop.hops.items ≡ [] = search rules in
    finish g.H.KeyHash.hash_of is_key was room v w t u c.args.root.now c.args.hops.items c.args.new (g.K.Store.moment c.args.store.now) told x c.loop-hop.block (g.K.Store.moment c.loop-hop.store)
    (rw none at (c.loop-hop.invariant.3 is_key was room v w t u told x))

pub returns-in_err-block-clause-caused : goal.returns-in_err-block-clause-caused
returns-in_err-block-clause-caused g c =
    let p = err_from_is_err_and c.from_residual.result c.from_residual.ensures.1 in
    rw (p.1, p.2) (caused_later _ _ _ c.in_err-block.field-0.0 c.loop-hop.invariant.1 c.in_err-block.ensures.caused)

pub returns-clause-caused : goal.returns-clause-caused
returns-clause-caused g c = record { cause = tt; later = c.loop-hop.invariant.1 }

pub set_in-requires-clause-leads : goal.set_in-requires-clause-leads
set_in-requires-clause-leads g c =
    ∥∥₁_map c.loop-hop.invariant.2 (λ x.
    subst (λ (hs : List Hop). RootBehind c.args.root.now hs (front_of c.in-Some.hop)) (sym c.deref.ensures.value) (x.each c.pop.new.self.items [] c.in-Some.hop c.in-Some.ensures.items))

pub set_in-requires-clause-room : goal.set_in-requires-clause-room
set_in-requires-clause-room g c = c.in-Some.hop.nests
