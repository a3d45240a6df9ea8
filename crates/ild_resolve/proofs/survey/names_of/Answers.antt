use Rattle.std.proofs.Common.{◌≡◌, ◌<◌, ◌++◌, ℕ, length, get_or, arith, ap, sym, ◌∙◌}
use Rattle.ild_resolve.specs.Names.{declared_name}
use Rattle.ild_resolve.proofs.NamesLeft.{names_before}
use Rattle.ild_resolve.proofs.survey.names_of.Goals as goal

pub loop-decl-preserved : goal.loop-decl-preserved
loop-decl-preserved c =
    let decls = c.args.ast.now.decls in
    let i : ℕ = c.loop-decl.decl-index in
    let item = c.decl-item.result in
    let within : i < length decls = grind (arith, c.loop-decl-test.true, c.as_slice-decl-items.ensures) in
    let here : item ≡ get_or decls i item = grind (arith, c.decl-item.is, c.as_slice-decl-items.ensures) in
    c.in_ok-push_name.ensures ∙ ap (λ names. names ++ declared_name item) c.loop-decl.invariant ∙ sym (names_before decls i item within here)
