-- What reading data in a slot tells: the value that they mean, or a rule that a part of them breaks, by each test of keys.
use Rattle.std.specs.Prelude.{◌≡◌, ℕ, Bool, List, Some}
use Rattle.ild_data.specs.Data.{Data}
use Rattle.ild_schema.specs.declared.def.TypeDef.TheVariants as T
use Rattle.ild_schema.specs.declared.def.MapForm.{MapForm}
use Rattle.ild_schema.specs.declared.def.UnitForm.{UnitForm}
use Rattle.ild_schema.specs.declared.number.Slot.{Slot}
use Rattle.ild_schema.specs.declared.number.TypeNo.{TypeNo}
use Rattle.ild_schema.specs.declared.row.Row.{Row}
use Rattle.ild_schema.specs.Slots.{form_of}
use Rattle.ild_schema.specs.Value.{Value}
use Rattle.ild_typed.specs.OfType.{TestsKeys}
use Rattle.ild_value_meaning.specs.Meant.{Meant}
use Rattle.ild_value_meaning.specs.Mismatch as M
use Rattle.ild_value_meaning.specs.Mismatch.{IsMismatch}
use Rattle.ild_value.specs.declared.fault.ShownErr.{ShownErr}
use Rattle.ild_value.specs.declared.fault.ShownErr.TheVariants as E
use Rattle.ild_value.specs.declared.fault.ShownRule.{ShownRule}
use Rattle.ild_value.specs.declared.fault.ShownRule.TheVariants as R

-- the rule that is told
abbrev pub rule_of : ShownRule → M.Rule
rule_of R.Kind = M.Kind
rule_of R.Name = M.Name
rule_of R.Missing = M.Missing
rule_of R.Member = M.Member
rule_of R.Key = M.Key

-- the data mean this value
pub record Means (rows : List Row) (slot : Slot) (t : Data) (v : Value) : Type 0 where
  pub meant : (is_key : ℕ → List ℕ → Bool) → TestsKeys rows is_key → Meant rows is_key slot t v

-- a part of them breaks this rule at this type
pub record Breaks (rows : List Row) (slot : Slot) (t : Data) (ty : TypeNo) (rule : M.Rule) : Type 0 where
  pub told : (is_key : ℕ → List ℕ → Bool) → TestsKeys rows is_key → IsMismatch rows is_key slot t ty rule

abbrev pub IsRefused : List Row → Slot → Data → ShownErr → Type 0
IsRefused rows slot t (E.Mismatch ty rule) = Breaks rows slot t ty (rule_of rule)
IsRefused rows slot t E.Memory = Unit {0}

-- where a rule is told, they mean no value at all
pub record MeansNothing (rows : List Row) (slot : Slot) (t : Data) : Type 0 where
  pub none : (is_key : ℕ → List ℕ → Bool) → TestsKeys rows is_key → (v : Value) → Meant rows is_key slot t v → ⊥

abbrev pub MeansNone : List Row → Slot → Data → ShownErr → Type 0
MeansNone rows slot t (E.Mismatch ty rule) = MeansNothing rows slot t
MeansNone rows slot t E.Memory = Unit {0}

-- the slot's type is a list with such elements
pub record IsListOf (rows : List Row) (slot elem : Slot) : Type 0 where
  pub place : ℕ
  pub form : form_of rows slot ≡ Some (T.List elem place)

-- it is a map from such keys to such values
pub record IsMapOf (rows : List Row) (slot : Slot) (key : TypeNo) (elem : Slot) : Type 0 where
  pub key_at : ℕ
  pub place : ℕ
  pub kind : MapForm
  pub form : form_of rows slot ≡ Some (T.Map key key_at elem place kind)

-- it is a unit
pub record IsUnit (rows : List Row) (slot : Slot) : Type 0 where
  pub kind : UnitForm
  pub form : form_of rows slot ≡ Some (T.Unit kind)
