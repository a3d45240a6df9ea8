use Rattle.std.proofs.Common.{◌≡◌, Some, arith, sym, ap, ◌∙◌}
use Rattle.ild_schema.specs.declared.row.Row.{Row}
use Rattle.ild_schema.specs.Rows.{def_at}
use Rattle.ild_schema.proofs.Keeping.{kept_end, going_on, going_ends, not_so_long, row_read, within_read}
use Rattle.ild_schema.proofs.ends.end_from.Goals as goal

pub returns-in-Some : goal.returns-in-Some
returns-in-Some c = record { same = kept_end c.args.rows.now c.args.ends.now c.args.from.0 c.loop.counter c.loop.at.0 c.in-Some.end c.requires.ends c.loop.invariant c.in-Some.is }

pub returns-in_default-def : goal.returns-in_default-def
returns-in_default-def c =
    let row = c.index-rows-at.result in
    let here : def_at c.args.rows.now c.loop.at.0 ≡ Some row.def = row_read c.args.rows.now c.loop.at.0 row c.loop.invariant.within c.index-rows-at.is in
    record { same = going_ends c.args.rows.now c.args.from.0 c.loop.counter c.loop.at.0 row.def c.loop.invariant here (λ target h. c.in_default-def.not-Copy target (ap (λ (r : Row). r.def) (sym c.index-rows-at.is) ∙ h)) }

pub loop-preserved : goal.loop-preserved
loop-preserved c =
    let row = c.index-rows-at.result in
    let here : def_at c.args.rows.now c.loop.at.0 ≡ Some row.def = row_read c.args.rows.now c.loop.at.0 row c.loop.invariant.within c.index-rows-at.is in
    going_on c.args.rows.now c.args.from.0 c.loop.counter c.loop.at.0 row.def c.in-Copy.target c.requires.table c.loop.invariant here (within_read c.args.rows.now c.loop.at.0 row c.requires.table c.loop.invariant.within c.index-rows-at.is) (ap (λ (r : Row). r.def) c.index-rows-at.is ∙ c.in-Copy.is)

pub returns : goal.returns
returns c = record { same = absurd (not_so_long c.args.rows.now c.args.from.0 c.loop.at.0 c.loop.counter c.requires.table c.requires.within (omega (arith, c.loop-test.false)) c.loop.invariant.leads_here) }
