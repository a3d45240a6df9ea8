use Rattle.std.proofs.Common.{arith}
use Rattle.ild_resolve.specs.inside.Numbers.{number_in}
use Rattle.ild_resolve.specs.Events.{reference_events, map_form_events}
use Rattle.ild_resolve.proofs.Counts.{types_in-append}
use Rattle.ild_resolve.proofs.Words.{enum_members-right}
use Rattle.ild_resolve.proofs.body.def_of.Goals as goal

pub map_def-requires : goal.map_def-requires
map_def-requires c =
    let small = rw c.in-Map.is at c.requires.small in
    let both = types_in-append (reference_events c.in-Map.map.value) (map_form_events c.in-Map.map.form) in
    record { small = omega (arith, small, both) }

pub returns-in_ok-enum_def-in-Enum-clause-words : goal.returns-in_ok-enum_def-in-Enum-clause-words
returns-in_ok-enum_def-in-Enum-clause-words c = rw c.in-Enum.is (enum_members-right (number_in c.args.numbers.now) 0 c.in-Enum.body.members)
