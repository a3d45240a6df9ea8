use Rattle.std.proofs.Common.{◌≡◌, sym, ◌∙◌, false, true}
use Rattle.ild_build.proofs.judgement.judge.Goals as goal

pub returns-then-has_hole : goal.returns-then-has_hole
returns-then-has_hole c = sym c.has_hole.ensures ∙ c.if-has_hole.true

pub returns-then-branch : goal.returns-then-branch
returns-then-branch c =
    let free = sym c.has_hole.ensures ∙ c.if-has_hole.false in
    (free, sym (c.in_ok-breaks_delimiter.ensures c.requires.typed free) ∙ c.if-branch.true)

pub returns-then-not-fit : goal.returns-then-not-fit
returns-then-not-fit c =
    let free = sym c.has_hole.ensures ∙ c.if-has_hole.false in (
      free,
      sym (c.in_ok-breaks_delimiter.ensures c.requires.typed free) ∙ c.if-branch.false,
      (λ h. absurd (apart (sym c.if-not-fit.true ∙ (c.in_ok-fit.ensures (c.requires.typed.0, c.requires.typed.1)).1 h))),
    )
  where
    apart : false ≡ true → ⊥
    apart e = absurd cc

pub returns : goal.returns
returns c =
    let free = sym c.has_hole.ensures ∙ c.if-has_hole.false in
    (free, sym (c.in_ok-breaks_delimiter.ensures c.requires.typed free) ∙ c.if-branch.false, (c.in_ok-fit.ensures (c.requires.typed.0, c.requires.typed.1)).0 c.if-not-fit.false)
