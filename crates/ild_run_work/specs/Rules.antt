-- What the lines of sessions go by: the rows of a schema, and the type of the values; and the values that stand under roots.
use Rattle.std.specs.Prelude.{◌≡◌, ℕ, List, Some}
use Rattle.ild_data.specs.Spell.{id_of}
use Rattle.ild_edges.specs.Store.{Moment, block_at}
use Rattle.ild_path_edits.specs.Judged.{Tests}
use Rattle.ild_schema.specs.Value.{Value}
use Rattle.ild_schema.specs.declared.number.TypeNo.{TypeNo}
use Rattle.ild_schema.specs.declared.row.Row.{Row}
use Rattle.ild_script_meaning.specs.Lines.{Setting}
use Rattle.ild_typed.specs.Stands.{Stands, bare}

pub record Rules : Type 0 where
  pub rows : List Row
  pub ty : TypeNo

abbrev pub rules_of : List Row → TypeNo → Rules
rules_of rows ty = record { rows = rows; ty = ty }

-- values of the type under bare roots, where keys are hashed by sha2-256
abbrev pub setting_by : Rules → Tests → Setting
setting_by rules tests = record { frame = bare; hash = id_of; rows = rules.rows; tests = tests; ty = rules.ty }

-- the value stands under the root among these blocks
abbrev pub StandsAmong : Rules → List (List ℕ) → List ℕ → Value → Type 0
StandsAmong rules held root v = Stands bare (block_at held) id_of rules.rows rules.ty root v

-- and in a store, where that tells what it holds
pub record StandsIn (rules : Rules) (m : Moment) (root : List ℕ) (v : Value) : Type 0 where
  pub there : (held : List (List ℕ)) → m.blocks ≡ Some held → StandsAmong rules held root v

-- what the roots of a store go by: these rules, and the reference by which the store is held
pub record RootRules : Type 0 where
  pub rules : Rules
  pub store : ℕ
