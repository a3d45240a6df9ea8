use Rattle.std.proofs.Common.{◌≡◌, Some, rules, None, ◌∙◌, ap, ◌-◌, drop}
use Rattle.std.specs.Prelude.{option_and_then, slice_index, nat_lt, if◌then◌else◌}
use Rattle.std.proofs.lemmas.List.{take_rest}
use Rattle.ild_data.specs.Decimal.{natural_of}
use Rattle.ild_resolve.proofs.Layouts.{below_hundred}
use Rattle.ild_resolve.proofs.layout.sized_shape.Goals as goal

pub returns : goal.returns
returns c =
    let made : c.number_of.result ≡ Some c.in_ok-number_of.field-0 = search rules in
    let digits = c.number_of.ensures ∙ ap (λ ds. option_and_then (λ n. if nat_lt n 100 then Some n else None) (natural_of ds)) (take_rest c.args.name.now 9) in
    rw (c.shape_at.ensures, c.digit.ensures) (below_hundred (slice_index c.args.name.now 6 - 48) (natural_of (drop 9 c.args.name.now)) c.number_of.result c.in_ok-number_of.field-0 digits made)
