-- The text that represents a value, where a text does (IPLD Schemas, "stringjoin", "stringpairs", "stringprefix").
use Rattle.std.specs.Prelude.{◌≡◌, ℕ, Bool, true, false, List, ◌++◌, Option, Some, None, option_and_then}
use Rattle.ild_schema.specs.declared.number.Slot.{Slot}
use Rattle.ild_schema.specs.declared.def.TypeDef.{TypeDef}
use Rattle.ild_schema.specs.declared.def.TypeDef.TheVariants as D
use Rattle.ild_schema.specs.declared.def.MapForm.{MapForm}
use Rattle.ild_schema.specs.declared.def.MapForm.TheVariants as MF
use Rattle.ild_schema.specs.declared.def.StructForm.{StructForm}
use Rattle.ild_schema.specs.declared.def.StructForm.TheVariants as S
use Rattle.ild_schema.specs.declared.row.Row.{Row}
use Rattle.ild_schema.specs.Value as V
use Rattle.ild_schema.specs.Value.{Value}
use Rattle.ild_typed.specs.Hamt.{alone}
use Rattle.ild_typed.specs.Represented.{represented}
use Rattle.ild_typed.specs.Strings.{text_in}

-- parts of texts have no HAMT inside, so no hash is needed
abbrev pub text_rep : List Row → Slot → Value → Option (List ℕ)
text_rep rows s v = option_and_then text_in (represented alone rows s v)

-- a text that was appended
pub record Appended (made : Option (List ℕ)) (old new : List ℕ) : Type 0 where
  pub text : List ℕ
  pub is : made ≡ Some text
  pub out : new ≡ old ++ text

-- the text is appended, or there is none
abbrev pub TextAnswer : Option (List ℕ) → List ℕ → List ℕ → Bool → Type 0
TextAnswer made old new true = Appended made old new
TextAnswer made old new false = made ≡ None

-- ---- layers that stand as texts with delimiters

abbrev pub is_text_struct : StructForm → Bool
is_text_struct (S.StringPairs inner entry) = true
is_text_struct (S.StringJoin delim) = true
is_text_struct form = false

abbrev pub is_text_map : MapForm → Bool
is_text_map (MF.StringPairs inner entry) = true
is_text_map form = false

abbrev pub is_text_layer : TypeDef → Value → Bool
is_text_layer (D.Struct s) (V.struct os) = is_text_struct s.form
is_text_layer (D.Map key key_at value at form) (V.map ps) = is_text_map form
is_text_layer d v = false
