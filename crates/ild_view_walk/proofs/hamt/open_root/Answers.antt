use Rattle.std.proofs.Common.{◌≡◌, ◌≤◌, Err, refl, ap, sym, ◌∙◌, arith}
use Rattle.ild_cbor.specs.Scalar.{kind_of}
use Rattle.ild_cbor.specs.declared.kind.Kind.TheVariants as K
use Rattle.ild_cbor.specs.declared.why.Why.TheVariants as Y
use Rattle.ild_view_walk.proofs.Rooted.{err_same, false_true, hamt_opens, root_refused}
use Rattle.ild_view_walk.proofs.hamt.open_root.Goals as goal

pub returns-in-Ok-clause-opens : goal.returns-in-Ok-clause-opens
returns-in-Ok-clause-opens c = λ rows key_at at t stands.
    let map : kind_of t ≡ K.Map = sym (c.kind.ensures t stands) ∙ c.in-Map.is in
    let x = c.in-Ok.ensures.found t stands in
    hamt_opens rows c.args.room c.in-Some.room c.args.shape c.args.key key_at c.args.value at t map (omega (arith, c.in-Some.ensures)) x.0 x.1 c.of.result (c.of.ensures.has c.args.shape x.0 x.2)

pub returns-in-Err-clause-opens : goal.returns-in-Err-clause-opens
returns-in-Err-clause-opens c = λ rows key_at at t stands.
    let map : kind_of t ≡ K.Map = sym (c.kind.ensures t stands) ∙ c.in-Map.is in
    let enough : 5 ≤ c.args.room = omega (arith, c.in-Some.ensures) in
    let hash = c.in-Err.ensures.hash t stands in
    let size = c.in-Err.ensures.size t stands in
    root_refused c.args.room c.args.shape c.args.key key_at c.args.value at t map enough c.in-Err.why c.in-Err.ensures.err
    (λ (e : Y.HashAlg ≡ c.in-Err.why). hash.0 (ap Err (sym e)), λ h. err_same (Err c.in-Err.why) c.in-Err.why Y.HashAlg refl (hash.1 h))
    (λ (e : Y.BucketSize ≡ c.in-Err.why). size.0 (ap Err (sym e)), λ h. err_same (Err c.in-Err.why) c.in-Err.why Y.BucketSize refl (size.1 h))
    (λ slots root. false_true (c.in-Err.ensures.only slots t stands root).0)
