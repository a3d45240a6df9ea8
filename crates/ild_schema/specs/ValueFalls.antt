-- The parts of a value nest less deep than it does.
use Rattle.std.specs.Prelude.{◌≤◌, ℕ, List, [], ◌∷◌, Option, Some, None, map}
use Rattle.std.proofs.Common.{arith}
use denote.Param.Weighed.{most}
use Rattle.ild_schema.specs.Value.{height, values_height, pairs_height, optionals_height, values_of, pairs_of, optionals_of}
use Rattle.ild_schema.specs.ValueSeen.{value_of, pair_of, optional_of}
use Rattle.ild_schema.specs.declared.val.Val.{Val}
use Rattle.ild_schema.specs.declared.val.Val.TheVariants as V
use Rattle.ild_schema.specs.declared.val.ValFields.TheDeep.{deep-Val}
use Rattle.ild_schema.specs.declared.val.ValFields.TheShapes.{weighed-ValFields-fields-at-1, weighed-ValPairs-pairs-at-2}

pub deep-Val-le : (v : Val) → deep-Val v ≤ height (value_of v)
deep-Val-le (V.List vs) = omega arith
deep-Val-le (V.Map ps) = omega arith
deep-Val-le (V.Struct os) = omega arith
deep-Val-le (V.Union n v) = omega arith
deep-Val-le v = omega arith

pub most_le-values : (vs : List Val) → most deep-Val vs ≤ values_height (values_of (map value_of vs))
most_le-values [] = omega arith
most_le-values (v ∷ vs) = omega (arith, deep-Val-le v, most_le-values vs)

pub most_le-pairs : (ps : List (List ℕ × Val)) → most (λ p. weighed-ValPairs-pairs-at-2.weight Val deep-Val p) ps ≤ pairs_height (pairs_of (map pair_of ps))
most_le-pairs [] = omega arith
most_le-pairs (p ∷ ps) = omega (arith, deep-Val-le p.1, most_le-pairs ps)

pub most_le-optionals : (os : List (Option Val)) → most (λ o. weighed-ValFields-fields-at-1.weight Val deep-Val o) os ≤ optionals_height (optionals_of (map optional_of os))
most_le-optionals [] = omega arith
most_le-optionals (None ∷ os) = omega (arith, most_le-optionals os)
most_le-optionals (Some v ∷ os) = omega (arith, deep-Val-le v, most_le-optionals os)
