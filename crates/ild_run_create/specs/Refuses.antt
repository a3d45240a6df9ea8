-- Why bytes make no value that a store can hold: seven causes, each a fact by itself, and the first of them.
use Rattle.std.specs.Prelude.{◌≡◌, ℕ, ◌<◌, true, List, Ok, Err}
use Rattle.ild_data.specs.Data.{Data}
use Rattle.ild_data.specs.Limits.{deepest}
use Rattle.ild_json.specs.Reading.{json_read}
use Rattle.ild_json.specs.declared.error.JsonErr.{JsonErr}
use Rattle.ild_schema.specs.declared.number.TypeNo.{TypeNo}
use Rattle.ild_schema.specs.declared.row.Row.{Row}
use Rattle.ild_schema.specs.Slots.{plainly}
use Rattle.ild_schema.specs.Value.{Value}
use Rattle.ild_typed.specs.Fits.{Fits}
use Rattle.ild_typed.specs.Judged.{has_hole, breaks_delimiter, exhausts, IsTooLong}
use Rattle.ild_value.specs.Readings.{MeansNothing}
use Rattle.ild_run_create.specs.Given.{IsGivenAs}
use Rattle.ild_run_create.specs.declared.fault.Refusal.{Refusal}
use Rattle.ild_run_create.specs.declared.fault.Refusal.TheVariants as R

-- ---- of a value

abbrev pub ValueHas : (List ℕ → List ℕ) → List Row → TypeNo → Value → Refusal → Type 0
ValueHas h rows n v R.Json = ⊥
ValueHas h rows n v R.Mismatch = ⊥
ValueHas h rows n v R.Hole = has_hole rows (plainly n) v ≡ true
ValueHas h rows n v R.Delimiter = breaks_delimiter rows (plainly n) v ≡ true
ValueHas h rows n v R.Depth = Fits rows deepest (plainly n) v → ⊥
ValueHas h rows n v R.Exhausted = exhausts h rows (plainly n) v ≡ true
ValueHas h rows n v R.Size = IsTooLong h rows (plainly n) v

-- ---- of bytes

-- they are the DAG-JSON of data that mean no value of the type
pub record MeanNothing (rows : List Row) (n : TypeNo) (b : List ℕ) : Type 0 where
  pub tree : Data
  pub json : json_read b ≡ Ok tree
  pub none : MeansNothing rows (plainly n) tree

-- the value as which they are given has this cause
pub record GiveOne (h : List ℕ → List ℕ) (rows : List Row) (n : TypeNo) (b : List ℕ) (r : Refusal) : Type 0 where
  pub value : Value
  pub given : IsGivenAs rows n b value
  pub cause : ValueHas h rows n value r

abbrev pub Refuses : (List ℕ → List ℕ) → List Row → TypeNo → List ℕ → Refusal → Type 0
Refuses h rows n b R.Json = (e : JsonErr) × (json_read b ≡ Err e)
Refuses h rows n b R.Mismatch = MeanNothing rows n b
Refuses h rows n b R.Hole = GiveOne h rows n b R.Hole
Refuses h rows n b R.Delimiter = GiveOne h rows n b R.Delimiter
Refuses h rows n b R.Depth = GiveOne h rows n b R.Depth
Refuses h rows n b R.Exhausted = GiveOne h rows n b R.Exhausted
Refuses h rows n b R.Size = GiveOne h rows n b R.Size

-- ---- the first

-- the order in which they are told
abbrev pub turn : Refusal → ℕ
turn R.Json = 1
turn R.Mismatch = 2
turn R.Hole = 3
turn R.Delimiter = 4
turn R.Depth = 5
turn R.Exhausted = 6
turn R.Size = 7

pub record IsFirst (h : List ℕ → List ℕ) (rows : List Row) (n : TypeNo) (b : List ℕ) (r : Refusal) : Type 0 where
  pub cause : Refuses h rows n b r
  pub first : (q : Refusal) → turn q < turn r → Refuses h rows n b q → ⊥
