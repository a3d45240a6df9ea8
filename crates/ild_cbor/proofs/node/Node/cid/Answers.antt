use Rattle.std.proofs.Common.{◌≡◌, List, ℕ, true, Some, ap, sym, subst, ◌∙◌, arith}
use Rattle.std.proofs.Math.Logic.{∥∥₁_elim}
use Rattle.std.proofs.Math.Bool.{Bool-set}
use Rattle.ild_data.specs.CidRead.{is_cid}
use Rattle.ild_cbor.specs.Scalar.{link_of}
use Rattle.ild_cbor.proofs.Insides.{link_if, link_form, behind_first, not_empty}
use Rattle.ild_cbor.proofs.node.Node.cid.Goals as goal

pub returns-in-empty-clause-same : goal.returns-in-empty-clause-same
returns-in-empty-clause-same c = λ t h.
    let l = link_if c.args.self.now c.start-start.result c.of.result.rest.now t h (c.start-start.ensures t h) (omega arith) (λ major m x lt e. (c.of.ensures.start major m x lt e).rest_is) in
    absurd (not_empty c.of.result.rest.now l.cid l.string_is (omega arith))

pub returns-in-len1-up-clause-same : goal.returns-in-len1-up-clause-same
returns-in-len1-up-clause-same c = λ t h.
    let l = link_if c.args.self.now c.start-start.result c.of.result.rest.now t h (c.start-start.ensures t h) (omega arith) (λ major m x lt e. (c.of.ensures.start major m x lt e).rest_is) in
    ap Some (behind_first c.of.result.rest.now l.cid l.string_is) ∙ ap link_of (sym l.is)

pub returns-in-len1-up-clause-form : goal.returns-in-len1-up-clause-form
returns-in-len1-up-clause-form c =
    ∥∥₁_elim c.args.self.now.stands (Bool-set _ true)
    (λ s.
    let h = s.spells in
    let w = h.within in
    let l = link_if c.args.self.now c.start-start.result c.of.result.rest.now s.of h (c.start-start.ensures s.of h) (omega arith) (λ major m x lt e. (c.of.ensures.start major m x lt e).rest_is) in
    subst (λ (x : List ℕ). is_cid x ≡ true) (sym (behind_first c.of.result.rest.now l.cid l.string_is)) (link_form s.of l.cid w.tree l.is))
