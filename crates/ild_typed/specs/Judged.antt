-- Why a value of a type has no representation: what is asked of each layer in turn.
use Rattle.std.specs.Prelude.{◌≡◌, ℕ, ◌<◌, Bool, true, false, is_none, List, ◌∷◌, length, Contains, Option, Some, None, option_and_then}
use Rattle.ild_data.specs.Data.{Data}
use Rattle.ild_data.specs.Limits.{longest_block}
use Rattle.ild_data.specs.Spell.{spell}
use Rattle.ild_schema.specs.declared.number.Slot.{Slot}
use Rattle.ild_schema.specs.declared.def.TypeDef.{TypeDef}
use Rattle.ild_schema.specs.declared.def.TypeDef.TheVariants as D
use Rattle.ild_schema.specs.declared.def.MapForm.{MapForm}
use Rattle.ild_schema.specs.declared.def.MapForm.TheVariants as MF
use Rattle.ild_schema.specs.declared.def.StructForm.{StructForm}
use Rattle.ild_schema.specs.declared.def.StructForm.TheVariants as S
use Rattle.ild_schema.specs.declared.def.Field.{Field}
use Rattle.ild_schema.specs.declared.row.Row.{Row}
use Rattle.ild_schema.specs.Value as V
use Rattle.ild_schema.specs.Value.{Value, Values, Pairs, Optionals}
use Rattle.ild_typed.specs.Blocks.{nodes}
use Rattle.ild_typed.specs.Texts.{join, join_pairs}
use Rattle.ild_typed.specs.Fields.{field_entries, all_items}
use Rattle.ild_typed.specs.Strings.{texts_in, text_pairs}
use Rattle.ild_data.specs.Trie.{trie}
use Rattle.ild_typed.specs.Hamt.{whole, alone}
use Rattle.ild_typed.specs.Represented.{represented, represented_pairs, represented_fields}
use Rattle.ild_typed.specs.EachLayer.{some_layer}

-- ---- a hole: an absent field of a tuple before a present one

abbrev pub some_present : Optionals → Bool
some_present V.no_optionals = false
some_present (V.absent os) = some_present os
some_present (V.present v os) = true

abbrev pub hole_in : Optionals → Bool
hole_in V.no_optionals = false
hole_in (V.absent os) = some_present os
hole_in (V.present v os) = hole_in os

abbrev pub tuple_hole : StructForm → Optionals → Bool
tuple_hole S.Tuple os = hole_in os
tuple_hole form os = false

abbrev pub is_hole : Option TypeDef → Value → Bool
is_hole (Some (D.Struct s)) (V.struct os) = tuple_hole s.form os
is_hole d v = false

abbrev pub has_hole : List Row → Slot → Value → Bool
has_hole = some_layer is_hole

-- ---- a delimiter that stands elsewhere than at the joints of its text

-- whether parts that are there cannot be joined
abbrev pub is_refused : {A : Type 0} → (A → Option (List ℕ)) → Option A → Bool
is_refused f None = false
is_refused f (Some a) = is_none (f a)

abbrev pub struct_breaks : StructForm → List Field → Option (List (Option Data)) → Bool
struct_breaks (S.StringPairs inner entry) fs o = is_refused (join_pairs inner entry) (option_and_then text_pairs (option_and_then (field_entries fs) o))
struct_breaks (S.StringJoin delim) fs o = is_refused (join delim) (option_and_then texts_in (option_and_then (all_items fs) o))
struct_breaks form fs o = false

abbrev pub map_breaks : MapForm → Option (List (List ℕ × Data)) → Bool
map_breaks (MF.StringPairs inner entry) o = is_refused (join_pairs inner entry) (option_and_then text_pairs o)
map_breaks form o = false

-- parts of texts have no HAMT inside, so no hash is needed
abbrev pub breaks : List Row → Option TypeDef → Value → Bool
breaks rows (Some (D.Struct s)) (V.struct os) = struct_breaks s.form s.fields (represented_fields alone rows s.fields os)
breaks rows (Some (D.Map key key_at value at form)) (V.map ps) = map_breaks form (represented_pairs alone rows value ps)
breaks rows d v = false

abbrev pub breaks_delimiter : List Row → Slot → Value → Bool
breaks_delimiter rows = some_layer (breaks rows) rows

-- ---- entries without a trie

abbrev pub map_exhausts : (List ℕ → List ℕ) → MapForm → Option (List (List ℕ × Data)) → Bool
map_exhausts h (MF.Hamt p) (Some es) = is_none (trie h p es 0)
map_exhausts h form o = false

abbrev pub is_exhausted : (List ℕ → List ℕ) → List Row → Option TypeDef → Value → Bool
is_exhausted h rows (Some (D.Map key key_at value at form)) (V.map ps) = map_exhausts h form (represented_pairs (whole h) rows value ps)
is_exhausted h rows d v = false

abbrev pub exhausts : (List ℕ → List ℕ) → List Row → Slot → Value → Bool
exhausts h rows = some_layer (is_exhausted h rows) rows

-- ---- a block that is too long

-- the value has a representation, and one of its blocks is longer than a block may be
pub record IsTooLong (h : List ℕ → List ℕ) (rows : List Row) (slot : Slot) (v : Value) : Type 0 where
  pub tree : Data
  pub represented : represented (whole h) rows slot v ≡ Some tree
  pub block : List ℕ
  pub among : Contains (spell tree ∷ nodes h rows slot v) block
  pub long : longest_block < length block
