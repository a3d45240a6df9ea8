-- Whether a segment may be a key of a HAMT.
use Rattle.std.specs.Prelude.{◌≡◌, ◌<◌, ◌||◌, ℕ, Bool, IsUtf8, List, length, Option, Some, None}
use Rattle.ild_schema.specs.declared.def.TypeDef.{TypeDef}
use Rattle.ild_schema.specs.declared.def.TypeDef.TheVariants as T
use Rattle.ild_schema.specs.declared.number.TypeNo.{TypeNo}
use Rattle.ild_schema.specs.declared.row.Row.{Row}
use Rattle.ild_typed.specs.OfType.{TestsKeys}

-- the type of a map's keys
abbrev pub key_in : Option TypeDef → Option TypeNo
key_in (Some (T.Map key key_at value place form)) = Some key
key_in d = None

abbrev pub IsKeyType : List Row → Option TypeDef → Option TypeNo → Type 0
IsKeyType rows d (Some key) = (key_in d ≡ Some key) × (key.0 < length rows)
IsKeyType rows d None = key_in d ≡ None

-- a key that is there, or a text of the type of keys
abbrev pub FitsAs : List Row → Option TypeDef → Bool → List ℕ → Bool → Type 0
FitsAs rows d there s b = (key : TypeNo) (is_key : ℕ → List ℕ → Bool) → key_in d ≡ Some key → TestsKeys rows is_key → IsUtf8 s → b ≡ (there || is_key key.0 s)
