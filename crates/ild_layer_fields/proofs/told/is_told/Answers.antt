use Rattle.std.proofs.Common.{◌≡◌, Some, sym, ◌∙◌, ap, rules}
use denote.Enum.Bare.{same_true}
use Rattle.ild_cbor.specs.contracts.kind.Kind.{the_type}
use Rattle.ild_schema.specs.Table.{def_at}
use Rattle.ild_layer_fields.proofs.told.is_told.Goals as goal

pub returns-in-Some : goal.returns-in-Some
returns-in-Some c = λ e d kind.
    let same : c.in-Some.wanted ≡ c.args.kind = same_true the_type (search rules) _ _ (sym c.eq.ensures ∙ e) in
    record {
      type = c.def.result.now;
      is = ap (def_at c.args.acc.now) (sym c.base.ensures.same) ∙ c.def.ensures.same;
      kind = sym c.scalar_kind.ensures ∙ c.in-Some.is ∙ ap Some (same ∙ sym kind);
    }
