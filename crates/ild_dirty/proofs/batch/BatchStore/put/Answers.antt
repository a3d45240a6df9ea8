use Rattle.std.proofs.Common.{◌≡◌, ◌≢◌, List, ℕ, [], ◌∷◌, ◌++◌, sym, ap, subst, Some, None, ◌∙◌, arith}
use Rattle.std.specs.Cmp.Lexicographic.{same_text as texts_same, other_text}
use Rattle.ild_edges.specs.Store.{block_at, Gets}
use Rattle.std.proofs.Common.{Ok}
use Rattle.ild_dirty.proofs.Batching.{puts_own, puts_other_own, puts_other_beneath, puts_lacking, puts_held}
use Rattle.ild_dirty.proofs.batch.BatchStore.put.Goals as goal

pub returns-then-eq-clause-puts : goal.returns-then-eq-clause-puts
returns-then-eq-clause-puts g c =
    let same : c.in-Some.block.now ≡ c.args.bytes.now = sym c.as_slice.ensures.same ∙ texts_same c.as_slice.result.now c.args.bytes.now c.if-eq.ensures in
    puts_own (c.args.self.now.store.ghost_name, c.args.self.now.own.ghost_name) (g.K.Store.moment c.args.self.now.store.now) c.args.self.now.own.now c.args.self.now.gets c.args.self.now.puts c.saturating_add-self.result c.args.bytes.now
    c.saturating_add-self.ensures (omega (arith, c.saturating_add-self.ensures)) (ap (block_at c.args.self.now.own.now) (sym c.requires) ∙ sym c.in-Some.ensures ∙ ap Some same)

pub returns-in_ok-copy-clause-puts : goal.returns-in_ok-copy-clause-puts
returns-in_ok-copy-clause-puts g c =
    let apart : c.in_ok-copy.field-0 ≢ c.args.bytes.now = rw (c.in_ok-copy.ensures, ← c.as_slice.ensures.same) (other_text c.as_slice.result.now c.args.bytes.now c.if-eq.ensures) in
    puts_other_own (c.args.self.now.store.ghost_name, c.args.self.now.own.ghost_name) (g.K.Store.moment c.args.self.now.store.now) c.args.self.now.own.now c.args.self.now.gets c.args.self.now.puts c.saturating_add-self.result c.args.bytes.now c.in_ok-copy.field-0
    c.saturating_add-self.ensures (omega (arith, c.saturating_add-self.ensures)) (ap (block_at c.args.self.now.own.now) (sym c.requires) ∙ sym c.in-Some.ensures ∙ ap Some (sym c.in_ok-copy.ensures)) apart

pub returns-clause-puts : goal.returns-clause-puts
returns-clause-puts g c =
    let gets : Gets (g.K.Store.moment c.args.self.now.store.now) c.args.id.now.0 (Ok None) (g.K.Store.moment c.get-2.new.self) = rw c.in_default-2.is at c.in_ok-block.ensures in
    puts_lacking (c.args.self.now.store.ghost_name, c.args.self.now.own.ghost_name) (g.K.Store.moment c.args.self.now.store.now) (g.K.Store.moment c.get-2.new.self) c.args.self.now.own.now c.push-2.new.self c.args.self.now.gets c.args.self.now.puts c.saturating_add-self.result c.args.bytes.now c.args.id.now.0
    c.saturating_add-self.ensures (omega (arith, c.saturating_add-self.ensures)) c.requires (sym c.in_default.ensures) (c.in_ok-push-2.ensures.ok ∙ ap (λ x. c.args.self.now.own.now ++ x ∷ []) c.in_ok-of.ensures) gets

pub returns-then-eq-2-clause-puts : goal.returns-then-eq-2-clause-puts
returns-then-eq-2-clause-puts g c =
    let same : c.in-Some-2.block ≡ c.args.bytes.now = sym c.as_slice-in-Some-2.ensures.same ∙ texts_same c.as_slice-in-Some-2.result.now c.args.bytes.now c.if-eq-2.ensures in
    let gets : Gets (g.K.Store.moment c.args.self.now.store.now) c.args.id.now.0 (Ok (Some c.in-Some-2.block)) (g.K.Store.moment c.get-2.new.self) = rw c.in-Some-2.is at c.in_ok-block.ensures in
    puts_held (c.args.self.now.store.ghost_name, c.args.self.now.own.ghost_name) (g.K.Store.moment c.args.self.now.store.now) (g.K.Store.moment c.get-2.new.self) c.args.self.now.own.now c.push.new.self c.args.self.now.gets c.args.self.now.puts c.saturating_add-self.result c.args.bytes.now c.args.id.now.0 c.in-Some-2.block
    c.saturating_add-self.ensures (omega (arith, c.saturating_add-self.ensures)) c.requires (sym c.in_default.ensures) same c.in_ok-push.ensures.ok gets

pub returns-in-Some-2-clause-puts : goal.returns-in-Some-2-clause-puts
returns-in-Some-2-clause-puts g c =
    let apart : c.in-Some-2.block ≢ c.args.bytes.now = rw (← c.as_slice-in-Some-2.ensures.same) (other_text c.as_slice-in-Some-2.result.now c.args.bytes.now c.if-eq-2.ensures) in
    let gets : Gets (g.K.Store.moment c.args.self.now.store.now) c.args.id.now.0 (Ok (Some c.in-Some-2.block)) (g.K.Store.moment c.get-2.new.self) = rw c.in-Some-2.is at c.in_ok-block.ensures in
    puts_other_beneath (c.args.self.now.store.ghost_name, c.args.self.now.own.ghost_name) (g.K.Store.moment c.args.self.now.store.now) (g.K.Store.moment c.get-2.new.self) c.args.self.now.own.now c.args.self.now.gets c.args.self.now.puts c.saturating_add-self.result c.args.bytes.now c.in-Some-2.block
    c.saturating_add-self.ensures (omega (arith, c.saturating_add-self.ensures)) (ap (block_at c.args.self.now.own.now) (sym c.requires) ∙ sym c.in_default.ensures)
    (subst (λ (i : List ℕ). Gets (g.K.Store.moment c.args.self.now.store.now) i (Ok (Some c.in-Some-2.block)) (g.K.Store.moment c.get-2.new.self)) c.requires gets) apart
