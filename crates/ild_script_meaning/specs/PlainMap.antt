-- A plain map from texts to integers as a typed value: its table, its values and its states.
use Rattle.std.specs.Prelude.{◌≡◌, ◌≢◌, ℕ, ℤ, List, [], ◌∷◌, ◌++◌, map, IsUtf8, option_map}
use Rattle.std.specs.List.{AllByRecursion}
use Rattle.ild_data.specs.Integer.{IsInt}
use Rattle.ild_data.specs.Key.{Rises}
use Rattle.ild_json.specs.Law.{MeansTree}
use Rattle.ild_schema.specs.declared.def.TypeDef.{TypeDef}
use Rattle.ild_schema.specs.declared.def.TypeDef.TheVariants as D
use Rattle.ild_schema.specs.declared.def.MapForm.TheVariants as MF
use Rattle.ild_schema.specs.declared.row.Row.{Row}
use Rattle.ild_schema.specs.declared.row.Origin.TheVariants as O
use Rattle.ild_schema.specs.Prelude.{prelude, number}
use Rattle.ild_schema.specs.Slots.{plainly}
use Rattle.ild_schema.specs.Value as V
use Rattle.ild_schema.specs.Value.{pairs_of}
use Rattle.ild_script.specs.Line.{Reading, blank, command, outside}
use Rattle.ild_script.specs.declared.word.Word.{Word}
use Rattle.ild_script.specs.declared.word.Word.TheVariants as W
use Rattle.ild_typed.specs.Stands.{bare}
use Rattle.ild_path_edits.specs.Judged.{Tests}
use Rattle.ild_script_meaning.specs.PlainValue as P
use Rattle.ild_script_session.specs.Session.{State, Due}
use Rattle.ild_script_meaning.specs.Lines.{Setting}

-- the table of a schema whose one type is a map from String to Int: the type's name, and the places of the type, its key and its value
abbrev pub map_type : ℕ → ℕ → TypeDef
map_type key_at value_at = D.Map (number 7) key_at (plainly (number 3)) value_at MF.Map

abbrev pub plain_rows : List ℕ → ℕ → ℕ → ℕ → List Row
plain_rows name at key_at value_at = prelude ++ record { def = map_type key_at value_at; name = name; at = at; origin = O.Declared } ∷ []

-- values and states
abbrev pub int_entry : List ℕ × ℤ → List ℕ × V.Value
int_entry e = (e.0, V.integer e.1)

abbrev pub as_value : P.Value → V.Value
as_value v = V.map (pairs_of (map int_entry v))

abbrev pub as_state : State P.Value → State V.Value
as_state s = record { value = as_value s.value; begun = option_map as_value s.begun }

-- a value whose keys rise, of texts and integers
pub record IsPlain (v : P.Value) : Type 0 where
  pub rises : Rises v
  pub each : AllByRecursion (λ e. IsUtf8 e.0 × IsInt e.1) v

-- the setting of its lines, over bare roots
abbrev pub plain_setting : (List ℕ → List ℕ) → List Row → Tests → Setting
plain_setting hash rows tests = record { frame = bare; hash = hash; rows = rows; tests = tests; ty = number 8 }

-- ---- the lines that a plain map knows: of a path that is not the root's

abbrev pub IsBelowRoot : List (List ℕ) → Type 0
IsBelowRoot path = path ≢ []

abbrev pub IsKnownBy : Word → List (List ℕ) → List ℕ → Type 0
IsKnownBy W.Get path json = IsBelowRoot path
IsKnownBy W.Set path json = IsBelowRoot path × MeansTree json
IsKnownBy W.Del path json = IsBelowRoot path
IsKnownBy W.Root path json = Unit {0}
IsKnownBy verb path json = ⊥

abbrev pub IsKnown : Reading → Type 0
IsKnown blank = Unit {0}
IsKnown (command c) = IsKnownBy c.verb c.path c.json
IsKnown outside = Unit {0}

-- the same reply, the same value, the same blocks
pub record SameDue (p : Due P.Value) (d : Due V.Value) : Type 0 where
  pub reply : d.reply ≡ p.reply
  pub next : d.next ≡ as_state p.next
  pub adds : d.adds ≡ p.adds
