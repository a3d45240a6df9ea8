-- The first cause why the items of a list are no pairs of a map (IPLD Schemas, "listpairs").
use Rattle.std.specs.Prelude.{◌≡◌, Bool, true, false, not, List, Option, Some, None}
use Rattle.std.specs.List.{list_any}
use Rattle.ild_data.specs.Data.{Data}
use Rattle.ild_cbor.specs.declared.why.Why.{Why}
use Rattle.ild_cbor.specs.declared.why.Why.TheVariants as Y
use Rattle.ild_typed.specs.Named.{has_twice, is_pair, is_two, pair_names}

abbrev pub is_odd : Data → Bool
is_odd d = not (is_pair d)

abbrev pub is_miscounted : Data → Bool
is_miscounted d = not (is_two d)

abbrev pub cause_of : Bool → Bool → Option Why
cause_of true repeated = Some Y.Count
cause_of false true = Some Y.Repeat
cause_of false false = None

abbrev pub IsJudged : List Data → Option Why → Type 0
IsJudged ds None = (list_any is_odd ds ≡ false) × (list_any is_miscounted ds ≡ false) × (has_twice (pair_names ds) ≡ false)
IsJudged ds (Some Y.Kind) = list_any is_odd ds ≡ true
IsJudged ds (Some Y.Count) = (list_any is_odd ds ≡ false) × (list_any is_miscounted ds ≡ true)
IsJudged ds (Some Y.Repeat) = (list_any is_odd ds ≡ false) × (list_any is_miscounted ds ≡ false) × (has_twice (pair_names ds) ≡ true)
IsJudged ds (Some w) = ⊥
