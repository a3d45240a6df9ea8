use Rattle.std.proofs.Common.{None, refl, subst, sym, ◌∙◌}
use Rattle.std.specs.Prelude.{Ok}
use Rattle.ild_path_marked.specs.Tells.{Tells}
use Rattle.ild_path_marked.proofs.Prefixing.{hex_data, no_hex_data}
use Rattle.ild_path_marked.proofs.prefixed.behind_hex.Goals as goal

pub returns-then-is_hex : goal.returns-then-is_hex
returns-then-is_hex c =
    subst (λ o. Tells o c.bytes_of.result) (hex_data c.args.name.now c.as_bytes-prefix.result.now c.args.rest.now c.as_bytes-prefix.ensures.value (sym c.is_hex.ensures ∙ c.if-is_hex.true)) c.bytes_of.ensures

pub returns-else-is_hex : goal.returns-else-is_hex
returns-else-is_hex c =
    subst (λ o. Tells o (Ok None)) (no_hex_data c.args.name.now c.as_bytes-prefix.result.now c.args.rest.now c.as_bytes-prefix.ensures.value (sym c.is_hex.ensures ∙ c.if-is_hex.false)) refl
