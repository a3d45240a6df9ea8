-- What acceptance says of delimiters, as far as texts are to be split at them.
use Rattle.std.specs.Prelude.{◌≡◌, ℕ, List, [], ◌∷◌, Some}
use Rattle.ild_schema.specs.declared.def.TypeDef.{TypeDef}
use Rattle.ild_schema.specs.declared.def.TypeDef.TheVariants as D
use Rattle.ild_schema.specs.declared.def.MapForm.{MapForm}
use Rattle.ild_schema.specs.declared.def.MapForm.TheVariants as MF
use Rattle.ild_schema.specs.declared.def.StructForm.{StructForm}
use Rattle.ild_schema.specs.declared.def.StructForm.TheVariants as S
use Rattle.ild_schema.specs.declared.def.Field.{Field}
use Rattle.ild_schema.specs.declared.row.Row.{Row}
use Rattle.ild_schema.specs.Clear.{IsGiven}
use Rattle.ild_schema.specs.Table.{def_at}

-- the delimiters of texts are given, and a joined struct has a field
abbrev pub HasDelims : StructForm → List Field → Type 0
HasDelims (S.StringPairs inner entry) fs = IsGiven entry
HasDelims (S.StringJoin delim) [] = ⊥
HasDelims (S.StringJoin delim) (f ∷ fs) = IsGiven delim
HasDelims form fs = Unit {0}

abbrev pub MapDelims : MapForm → Type 0
MapDelims (MF.StringPairs inner entry) = IsGiven entry
MapDelims form = Unit {0}

abbrev pub Delims : TypeDef → Type 0
Delims (D.Map key key_at value at form) = MapDelims form
Delims (D.Struct s) = HasDelims s.form s.fields
Delims d = Unit {0}

abbrev pub AllDelims : List Row → Type 0
AllDelims rows = (n : ℕ) (d : TypeDef) → def_at rows n ≡ Some d → Delims d
