-- The parts of a value nest no deeper than all of them together.
use Rattle.std.proofs.Common.{◌≡◌, ℕ, zero, suc, ◌≤◌, List, Option, Some, None, ap, arith}
use Rattle.std.specs.Prelude.{slice_get}
use Rattle.std.proofs.lemmas.Option.{same_Some, none-some}
use Rattle.ild_schema.specs.Value.{Value, height, values_height, pairs_height, optionals_height, values_list, pairs_list, optionals_list, Values, no_values, value, Pairs, no_pairs, pair, Optionals, no_optionals, absent, present}

abbrev pub field_height : Option Value → ℕ
field_height None = 0
field_height (Some v) = height v

pub element_height : (vs : Values) (i : ℕ) (v : Value) → slice_get (values_list vs) i ≡ Some v → height v ≤ values_height vs
element_height no_values i v e = absurd (none-some v e)
element_height (value w vs) zero v e = let h = ap height (same_Some w v e) in omega arith
element_height (value w vs) (suc i) v e = let h = element_height vs i v e in omega arith

pub entry_height : (ps : Pairs) (i : ℕ) (p : List ℕ × Value) → slice_get (pairs_list ps) i ≡ Some p → height p.1 ≤ pairs_height ps
entry_height no_pairs i p e = absurd (none-some p e)
entry_height (pair k w ps) zero p e = let h = ap (λ (q : List ℕ × Value). height q.1) (same_Some (k, w) p e) in omega arith
entry_height (pair k w ps) (suc i) p e = let h = entry_height ps i p e in omega arith

pub optional_height : (os : Optionals) (i : ℕ) (o : Option Value) → slice_get (optionals_list os) i ≡ Some o → field_height o ≤ optionals_height os
optional_height no_optionals i o e = absurd (none-some o e)
optional_height (absent os) zero o e = let h = ap field_height (same_Some None o e) in omega arith
optional_height (absent os) (suc i) o e = let h = optional_height os i o e in omega arith
optional_height (present v os) zero o e = let h = ap field_height (same_Some (Some v) o e) in omega arith
optional_height (present v os) (suc i) o e = let h = optional_height os i o e in omega arith
