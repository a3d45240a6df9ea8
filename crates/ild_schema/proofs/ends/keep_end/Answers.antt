use Rattle.std.proofs.Common.{◌≡◌, Some, sym, ap, ◌∙◌}
use Rattle.ild_schema.specs.declared.row.Row.{Row}
use Rattle.ild_schema.specs.Rows.{def_at}
use Rattle.ild_schema.proofs.Keeping.{keeping_goes, keeping_stops, ended_kept, ended_itself, row_read, within_read}
use Rattle.ild_schema.proofs.ends.keep_end.Goals as goal

pub returns-then-is_some-clause-here : goal.returns-then-is_some-clause-here
returns-then-is_some-clause-here c =
    keeping_stops c.args.rows.now c.args.ends.now c.args.from.0 c.loop.counter c.loop.at.0 c.loop.ends c.loop.invariant (ended_kept c.args.rows.now c.loop.ends c.loop.at.0 c.loop.invariant.kept (sym c.is_some.ensures ∙ c.if-is_some.true))

pub returns-in_default : goal.returns-in_default
returns-in_default c =
    let row = c.index-rows-at.result in
    let here : def_at c.args.rows.now c.loop.at.0 ≡ Some row.def = row_read c.args.rows.now c.loop.at.0 row c.loop.invariant.going.within c.index-rows-at.is in
    record {
      ends = c.loop.invariant.kept;
      here = keeping_stops c.args.rows.now c.args.ends.now c.args.from.0 c.loop.counter c.loop.at.0 c.loop.ends c.loop.invariant
          (ended_itself c.args.rows.now c.loop.ends c.loop.at.0 row.def (sym c.is_some.ensures ∙ c.if-is_some.false) here (λ target h. c.in_default.not-Copy target (ap (λ (r : Row). r.def) (sym c.index-rows-at.is) ∙ h)));
      stays = c.loop.invariant.stays;
    }

pub loop-preserved : goal.loop-preserved
loop-preserved c =
    let row = c.index-rows-at.result in
    let here : def_at c.args.rows.now c.loop.at.0 ≡ Some row.def = row_read c.args.rows.now c.loop.at.0 row c.loop.invariant.going.within c.index-rows-at.is in
    keeping_goes c.args.rows.now c.args.ends.now c.args.from.0 c.loop.counter c.loop.at.0 c.loop.ends row.def c.in-Copy.target c.args.end c.requires.table c.requires.end c.loop.invariant here
    (within_read c.args.rows.now c.loop.at.0 row c.requires.table c.loop.invariant.going.within c.index-rows-at.is) (ap (λ (r : Row). r.def) c.index-rows-at.is ∙ c.in-Copy.is)
