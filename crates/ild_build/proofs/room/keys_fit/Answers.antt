use Rattle.std.proofs.Common.{◌≡◌, ℕ, List, ap, refl, sym, ◌∙◌, subst, arith, length, true, false}
use Rattle.ild_data.specs.Data as T
use Rattle.ild_schema.specs.Slots.{plainly}
use Rattle.ild_schema.specs.Table.{IsWithin}
use Rattle.ild_schema.specs.Value.{Value, pairs_list}
use Rattle.ild_schema.specs.ValueSeen.{value_of}
use Rattle.ild_typed.specs.Fits.{Fits}
use Rattle.ild_typed.specs.Layers.{RepresentsSome}
use Rattle.ild_typed.specs.OfType.{OfType}
use Rattle.ild_build.proofs.EachKey.{AllBefore, a_key, before_next, before_none, keys_all}
use Rattle.ild_build.proofs.room.keys_fit.Goals as goal
use Rattle.ild_build.proofs.room.keys_fit.Goals.{in-Some+in_ok-fit-in-Map-Map+else-not-fit, in_default-get}

pub is_leaf-requires : goal.is_leaf-requires
is_leaf-requires c = (subst (IsWithin (length c.args.acc.now)) c.in-Map-Map.is-0 c.requires).1 0 0 (omega arith)

pub fits_text-requires : goal.fits_text-requires
fits_text-requires c = (subst (IsWithin (length c.args.acc.now)) c.in-Map-Map.is-0 c.requires).1 0 0 (omega arith)

pub returns-then-is_leaf : goal.returns-then-is_leaf
returns-then-is_leaf c = λ typed.
    let h = c.in-Map-Map in
    let rows = c.args.acc.now in
    let ps = pairs_list h.pairs in
    let leaf = c.is_leaf.ensures c.if-is_leaf.true in
    let each : AllBefore (λ p. RepresentsSome (OfType rows) rows (plainly h.key) (T.text p.0) → RepresentsSome (Fits rows c.args.room) rows (plainly h.key) (T.text p.0)) ps (length ps) = λ j p less at x. (x.0, (leaf x.0).room c.args.room x.1, x.2) in
    ((λ e. keys_all (Fits rows c.args.room) (OfType rows) rows c.args.def.now (value_of c.args.val.now) h.key h.key_at-0 h.value-0 h.at-0 h.form-0 h.pairs (length ps) h.is-0 (ap value_of h.is-1) (omega arith) each typed), (λ k. refl))

pub returns-then-not-fit : goal.returns-then-not-fit
returns-then-not-fit c = λ typed.
    let h = c.in-Map-Map in
    let rows = c.args.acc.now in
    let P = Fits rows c.args.room in (
      (λ e. absurd (false_true e)),
      (λ k. sym c.if-not-fit.true ∙ c.in_ok-fit-in-Map-Map.ensures.1 (subst (λ t. RepresentsSome P rows (plainly h.key) (T.text t)) (sym c.as_str.ensures.same)
          (a_key P rows c.args.def.now (value_of c.args.val.now) h.key h.key_at-0 h.value-0 h.at-0 h.form-0 h.pairs c.loop-i.i (c.in-Some.pair.now.0, value_of c.in-Some.pair.now.1) h.is-0 (ap value_of h.is-1) (sym c.in-Some.ensures) k))),
    )
  where
    false_true : false ≡ true → ⊥
    false_true e = absurd cc

pub loop-i-preserved : goal.loop-i-preserved
loop-i-preserved c =
    let h = c.in-Map-Map in
    let rows = c.args.acc.now in
    let Q : List ℕ × Value → Type 0 = λ p. RepresentsSome (OfType rows) rows (plainly h.key) (T.text p.0) → RepresentsSome (Fits rows c.args.room) rows (plainly h.key) (T.text p.0) in
    elim c.match-get.branch [
      | in-Some+in_ok-fit-in-Map-Map+else-not-fit w ↦ before_next Q (pairs_list h.pairs) c.loop-i.i (w.in-Some.pair.now.0, value_of w.in-Some.pair.now.1) (sym w.in-Some.ensures)
          (λ x. subst (λ t. RepresentsSome (Fits rows c.args.room) rows (plainly h.key) (T.text t)) w.as_str.ensures.same (w.in_ok-fit-in-Map-Map.ensures.0 w.if-not-fit.false)) c.loop-i.invariant
      | in_default-get w ↦ before_none Q (pairs_list h.pairs) c.loop-i.i (sym w.in_default-get.ensures) c.loop-i.invariant
    ]

pub returns-after-loop-i : goal.returns-after-loop-i
returns-after-loop-i c = λ typed.
    let h = c.in-Map-Map in
    let rows = c.args.acc.now in
    ((λ e. keys_all (Fits rows c.args.room) (OfType rows) rows c.args.def.now (value_of c.args.val.now) h.key h.key_at-0 h.value-0 h.at-0 h.form-0 h.pairs c.loop-i.i h.is-0 (ap value_of h.is-1) (omega arith) c.loop-i.invariant typed), (λ k. refl))
