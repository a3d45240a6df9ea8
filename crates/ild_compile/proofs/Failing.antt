-- The rule that fails for a table, told of its bytes.
use Rattle.std.proofs.Common.{◌≡◌, ℕ, List, Some, sym, ap, inl, inr}
use Rattle.ild_schema.specs.declared.number.TypeNo.{TypeNo}
use Rattle.ild_schema.specs.declared.row.Row.{Row}
use Rattle.ild_schema.specs.declared.rule.Rule.{Rule}
use Rattle.ild_schema.specs.Accept.{Fault}
use Rattle.ild_accept.specs.Judged.{IsFaultOf}
use Rattle.ild_accept.specs.declared.error.AcceptErr.TheVariants as A
use Rattle.ild_compile.specs.Compile.{HasTable, FailsRule}

pub fails : (src : List ℕ) (rows : List Row) (rule : Rule) (ty : TypeNo) (at : ℕ) → HasTable src rows → IsFaultOf rows (A.Fault rule ty at) → FailsRule src rule at
fails src rows rule ty at table (inl e) = absurd cc
fails src rows rule ty at table (inr h) =
    let told : Some (record { rule = rule; ty = ty.0; at = at }) ≡ Some h.0 = h.1 in
    let one : record { rule = rule; ty = ty.0; at = at } ≡ h.0 = cc in
    record {
      rows = rows;
      table = table;
      fault = h.0;
      first = h.2;
      same_rule = ap (λ (f : Fault). f.rule) (sym one);
      same_place = ap (λ (f : Fault). f.at) (sym one);
    }
