-- The laws of the generator: its steps as edits of the value of the schema's type.
use Rattle.std.specs.Prelude.{◌≡◌, ℕ, ℤ, pos, ◌<◌, ◌≤◌, ◌^◌, IsUtf8, List, [], ◌∷◌, Contains, false, Some, Result, Ok, Err, is_some, if◌then◌else◌}
use Rattle.ild_data.specs.Data.{integer}
use Rattle.ild_data.specs.Key.{put, value_at, without}
use Rattle.ild_data.specs.Spell.{id_of}
use Rattle.ild_path_edits.specs.Edit.{Edit, set_at, del_at}
use Rattle.ild_path_edits.specs.Judged.{Tests, AreTests, unless_judged}
use Rattle.ild_script_meaning.specs.PlainValue.{Value as Entries}
use Rattle.ild_schema.specs.Value.{Value}
use Rattle.ild_script.specs.declared.reply.No.{No}
use Rattle.ild_script.specs.declared.reply.No.TheVariants as N
use Rattle.ild_script_meaning.specs.Lines.{Setting, changed, read_json, edit_blocks}
use Rattle.ild_script_meaning.specs.PlainMap.{as_value, IsPlain}
use Rattle.ild_typed.specs.Stands.{bare}
use Rattle.ild_generator.specs.Generated.{Generated, generated, refusal, asked_map, blocks_in}
use Rattle.ild_generator.specs.Numbers.{is_deletion, key_of}
use Rattle.ild_generator.specs.Schema.{generator_rows, generator_type}

abbrev pub setting_with : Tests → Setting
setting_with tests = record { frame = bare; hash = id_of; rows = generator_rows; tests = tests; ty = generator_type }

-- the edit of a step, where this json text is that of its number
abbrev pub step_edit : ℕ → List ℕ → Edit (List ℕ)
step_edit x json = if is_deletion x then del_at (key_of x ∷ []) else set_at (key_of x ∷ []) json

-- what it makes
abbrev pub judged_map : Entries → Result Value No
judged_map es = unless_judged (as_value es) (refusal es)

abbrev pub step_makes : ℕ → Generated → Result Value No
step_makes i s =
    if is_deletion s.number then (if is_some (value_at (key_of s.number) s.entries) then judged_map (without (key_of s.number) s.entries) else Err N.Path)
    else judged_map (put (key_of s.number) (pos i) s.entries)

abbrev pub StepsAreEdits : Type 0
StepsAreEdits = (tests : Tests) → AreTests generator_rows tests → (s : Generated) → IsPlain s.entries
    → (i : ℕ) → i < 2 ^ 64 → (json : List ℕ) → (is_deletion s.number ≡ false → read_json json ≡ Some (integer (pos i)))
    → changed (setting_with tests) (as_value s.entries) (step_edit s.number json) ≡ step_makes i s

-- and what blocks may come: those of the map that the step asks for
abbrev pub StepsAddBlocks : Type 0
StepsAddBlocks = (tests : Tests) → AreTests generator_rows tests → (s : Generated) → IsPlain s.entries
    → (i : ℕ) → i < 2 ^ 64 → (json : List ℕ) → (is_deletion s.number ≡ false → read_json json ≡ Some (integer (pos i)))
    → (b : List ℕ) → Contains (edit_blocks (setting_with tests) (as_value s.entries) (step_edit s.number json) (step_makes i s)) b → Contains (blocks_in (asked_map i s)) b

-- keys rise, and are texts
abbrev pub EntriesArePlain : Type 0
EntriesArePlain = (seed i : ℕ) → i ≤ 2 ^ 64 → IsPlain (generated seed i).entries
