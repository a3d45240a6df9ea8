-- The elements of a list nest no deeper than the list's own height.
use Rattle.std.proofs.Common.{◌≡◌, ◌≤◌, ℕ, zero, suc, Some, slice_get, subst, arith}
use Rattle.std.proofs.lemmas.Option.{same_Some, none-some}
use Rattle.ild_schema.specs.Value as V
use Rattle.ild_schema.specs.Value.{Value, Values, height, values_height, values_list}

pub value_height : (vs : Values) (i : ℕ) (v : Value) → slice_get (values_list vs) i ≡ Some v → height v ≤ values_height vs
value_height V.no_values i v e = absurd (none-some v e)
value_height (V.value w vs) zero v e = subst (λ x. height x ≤ values_height (V.value w vs)) (same_Some w v e) (omega arith)
value_height (V.value w vs) (suc i) v e = omega (arith, value_height vs i v e)
