use Rattle.std.proofs.Common.{◌≡◌, ◌<◌, ℕ, length, get_or, arith, ap, sym, subst, ◌+◌, inr}
use Rattle.std.proofs.lemmas.Result.{err_from_is_err_and}
use Rattle.ild_resolve.specs.inside.Numbers.{number_in}
use Rattle.ild_resolve.proofs.NamesLeft.{NamesLeft, name_next, name_passed, name_kept}
use Rattle.ild_resolve.proofs.Surveying.{survey_type, survey_advanced, survey_stop, surveyed_same}
use Rattle.ild_resolve.proofs.survey.survey.Goals as goal
use Rattle.ild_resolve.proofs.survey.survey.Goals.{in-Type+in_ok-begin-in-Type+in_ok-declare-in-Type+in_ok-body-in-Type, in-Advanced}

pub name_at-name-requires : goal.name_at-name-requires
name_at-name-requires c =
    let decls = c.args.ast.now.decls in
    let i : ℕ = c.loop-decl.decl-index in
    let item = c.decl-item.result in
    let within : i < length decls = grind (arith, c.loop-decl-test.true, c.as_slice-decl-items.ensures) in
    let here : item ≡ get_or decls i item = grind (arith, c.decl-item.is, c.as_slice-decl-items.ensures) in
    (name_next c.args.names.now decls c.loop-decl.declared i item within here c.loop-decl.invariant.1 c.in-Type.d c.in-Type.is).within

pub declare-requires : goal.declare-requires
declare-requires c =
    let decls = c.args.ast.now.decls in
    let i : ℕ = c.loop-decl.decl-index in
    let item = c.decl-item.result in
    let within : i < length decls = grind (arith, c.loop-decl-test.true, c.as_slice-decl-items.ensures) in
    let here : item ≡ get_or decls i item = grind (arith, c.decl-item.is, c.as_slice-decl-items.ensures) in
    let stands = (name_next c.args.names.now decls c.loop-decl.declared i item within here c.loop-decl.invariant.1 c.in-Type.d c.in-Type.is).here in
    let found = c.name_at-name.ensures in
    cc

pub returns-in_err-body-in-Type-clause-fault : goal.returns-in_err-body-in-Type-clause-fault
returns-in_err-body-in-Type-clause-fault c =
    let p = err_from_is_err_and c.from_residual-in_err-body-in-Type.result c.from_residual-in_err-body-in-Type.ensures.1 in
    let decls = c.args.ast.now.decls in
    let i : ℕ = c.loop-decl.decl-index in
    let item = c.decl-item.result in
    let within : i < length decls = grind (arith, c.loop-decl-test.true, c.as_slice-decl-items.ensures) in
    let here : item ≡ get_or decls i item = grind (arith, c.decl-item.is, c.as_slice-decl-items.ensures) in
    rw (p.1, p.2)
    (inr (survey_stop decls c.loop-decl.types c.begin.new.types i item c.in-Type.d c.in_err-body-in-Type.field-0.0 within here c.in-Type.is
    c.loop-decl.invariant.0.limits c.in_ok-begin-in-Type.ensures.counted c.in_err-body-in-Type.ensures))

pub loop-decl-preserved : goal.loop-decl-preserved
loop-decl-preserved c =
    let decls = c.args.ast.now.decls in
    let names = c.args.names.now in
    let i : ℕ = c.loop-decl.decl-index in
    let item = c.decl-item.result in
    let within : i < length decls = grind (arith, c.loop-decl-test.true, c.as_slice-decl-items.ensures) in
    let here : item ≡ get_or decls i item = grind (arith, c.decl-item.is, c.as_slice-decl-items.ensures) in
    elim c.match-decl.branch [
      | in-Type+in_ok-begin-in-Type+in_ok-declare-in-Type+in_ok-body-in-Type w ↦ (
        surveyed_same decls (λ q. number_in w.declare.new.numbers q) _ w.body.new.types c.match-decl.types w.declare.new.again c.match-decl.again (i + 1)
            (λ q. ap (λ m. number_in m q) w.numbers-is) w.types-is w.again-is
            (survey_type decls (λ q. number_in c.loop-decl.numbers q) (λ q. number_in w.declare.new.numbers q) c.loop-decl.types w.begin.new.types w.body.new.types
            c.loop-decl.again w.declare.new.again i item w.in-Type.d within here w.in-Type.is c.loop-decl.invariant.0
            w.in_ok-begin-in-Type.ensures.counted w.in_ok-body-in-Type.ensures w.in_ok-declare-in-Type.ensures.again w.in_ok-declare-in-Type.ensures.numbers),
        subst (λ n. NamesLeft names decls n (i + 1)) (sym w.declared-is) (name_passed names decls c.loop-decl.declared i item within here c.loop-decl.invariant.1 w.in-Type.d w.in-Type.is),
      )
      | in-Advanced w ↦ (
        surveyed_same decls (λ q. number_in c.loop-decl.numbers q) _ c.loop-decl.types c.match-decl.types c.loop-decl.again c.match-decl.again (i + 1)
            (λ q. ap (λ m. number_in m q) w.numbers-is) w.types-is w.again-is
            (survey_advanced decls (λ q. number_in c.loop-decl.numbers q) c.loop-decl.types c.loop-decl.again i item w.in-Advanced.field-0 within here w.in-Advanced.is c.loop-decl.invariant.0),
        subst (λ n. NamesLeft names decls n (i + 1)) (sym w.declared-is) (name_kept names decls c.loop-decl.declared i item within here c.loop-decl.invariant.1 w.in-Advanced.field-0 w.in-Advanced.is),
      )
    ]
