use Rattle.std.proofs.Common.{◌≡◌, sym, ◌∙◌, rules}
use denote.Enum.Bare.{same_true}
use Rattle.ild_cbor.specs.contracts.kind.Kind.{the_type}
use Rattle.ild_layer_parts.proofs.Showing.{null_checks}
use Rattle.ild_layer_parts.proofs.leaf.is_leaf.Goals as goal

pub returns-then-eq : goal.returns-then-eq
returns-then-eq c = λ e t stands tree room.
    let same : c.kind.result ≡ c.in-Some.wanted = same_true the_type (search rules) _ _ (sym c.if-eq.ensures) in
    c.in-Some.ensures t (sym (c.kind.ensures c.args.acc.now t stands) ∙ same) tree room

pub returns-else-eq : goal.returns-else-eq
returns-else-eq c = λ e t stands tree room.
    null_checks c.args.acc.now room c.args.slot t tree (sym (c.is_null_there.ensures c.args.acc.now t stands) ∙ e)
