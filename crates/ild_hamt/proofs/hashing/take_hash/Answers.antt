use Rattle.std.proofs.Common.{sym, ap, ◌∙◌}
use Rattle.std.specs.Cmp.Lexicographic.{same_text, other_text}
use Rattle.ild_node.specs.Rows.{row_seen}
use Rattle.ild_hamt.proofs.Hashed.{take-same, took-other, took-none}
use Rattle.ild_hamt.proofs.hashing.take_hash.Goals as goal

pub returns-then-eq : goal.returns-then-eq
returns-then-eq c = λ h es hashed left.
    let same = same_text c.as_str.result.now c.args.key.now (sym c.if-eq.true ∙ c.eq.ensures) in
    (hashed ∙ ap h (sym same ∙ c.as_str.ensures.same), left ∙ take-same h c.args.key.now (row_seen c.args.row.now) es (sym c.as_str.ensures.same ∙ same))

pub returns-in-Some : goal.returns-in-Some
returns-in-Some c = λ h es hashed left.
    took-other h c.args.key.now (row_seen c.args.row.now) es c.in-Some.first.now c.args.left.now c.in-Some.rest.now
    (λ same. other_text c.as_str.result.now c.args.key.now (sym c.if-eq.false ∙ c.eq.ensures) (c.as_str.ensures.same ∙ same)) left c.in-Some.ensures.cases.0

pub returns-in-None : goal.returns-in-None
returns-in-None c = λ h es hashed left.
    absurd (took-none h c.args.key.now (row_seen c.args.row.now) es c.args.left.now
    (λ same. other_text c.as_str.result.now c.args.key.now (sym c.if-eq.false ∙ c.eq.ensures) (c.as_str.ensures.same ∙ same)) left c.in-None.ensures.cases)
