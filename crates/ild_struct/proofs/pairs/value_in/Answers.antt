use Rattle.std.proofs.Common.{sym, ◌∙◌}
use Rattle.ild_typed.specs.Strings.{pair_data}
use Rattle.ild_layer_fields.proofs.Pairing.{value_there, value_other, value_none}
use Rattle.ild_struct.proofs.pairs.value_in.Goals as goal

pub returns-then-eq : goal.returns-then-eq
returns-then-eq c = λ e stands.
    value_there c.args.key.now e c.in-Entry.name c.in-Entry.value (c.in-Entry.ensures (pair_data e) stands) (sym c.eq.ensures ∙ c.if-eq.true)

pub returns-else-eq : goal.returns-else-eq
returns-else-eq c = λ e stands.
    value_other c.args.key.now e c.in-Entry.name c.in-Entry.value (c.in-Entry.ensures (pair_data e) stands) (sym c.eq.ensures ∙ c.if-eq.false)

pub returns-in-Odd : goal.returns-in-Odd
returns-in-Odd c = λ e stands. value_none c.args.key.now e c.of.result (c.of.ensures (pair_data e) stands) c.in-Odd.is
