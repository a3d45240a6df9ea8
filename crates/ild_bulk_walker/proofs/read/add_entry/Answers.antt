use Rattle.std.proofs.Common.{◌≡◌, List, ℕ, length, refl, subst, arith, rules}
use Rattle.ild_bulk_walker.specs.inside.Told.{Lies}
use Rattle.ild_bulk_walker.proofs.Lying.{key-piece, value-there, fits-in, text-at, tree-at}
use Rattle.ild_bulk_walker.proofs.Stepping.{entry-pushed}
use Rattle.ild_bulk_walker.proofs.read.add_entry.Goals as goal

pub invariant_of-entry : goal.invariant_of-entry
invariant_of-entry c =
    let b = c.in_ok-held.held.value in
    let same : c.args.held.now.value ≡ b = search rules in
    let d = c.requires.of in
    let l = subst (λ (x : List ℕ). Lies x c.args.key.now c.args.value d) same c.requires.lies in
    let at = c.span-middle.result.0 in
    let size = c.span-middle.ensures.size d l.stands in
    record {
      order = omega arith;
      rise = omega arith;
      within = fits-in b c.args.key.now c.args.value d at c.span-middle.result.1 l c.span-middle.ensures.start size;
      text = text-at b c.args.key.now c.args.value d at (length c.args.key.now) l c.span-middle.ensures.start refl;
      tree = tree-at b c.args.key.now c.args.value d at c.span-middle.result.1 l c.span-middle.ensures.start size;
    }

pub returns : goal.returns
returns c = λ d lies.
    let b = c.in_ok-held.held.value in
    let same : c.args.held.now.value ≡ b = search rules in
    let l = subst (λ (x : List ℕ). Lies x c.args.key.now c.args.value d) same lies in
    let at = c.span-middle.result.0 in
    let size = c.span-middle.ensures.size d l.stands in
    entry-pushed c.args.index c.args.steps.now.items c.push.new.self.items _ (c.args.key.now, d) c.in_ok-push.ensures.items
    (key-piece b c.args.key.now c.args.value d at (length c.args.key.now) l c.span-middle.ensures.start refl)
    (value-there b c.args.key.now c.args.value d at c.span-middle.result.1 l c.span-middle.ensures.start size) refl
