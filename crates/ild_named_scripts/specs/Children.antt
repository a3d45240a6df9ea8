-- The children of the blocks that a line may add to a value under a root that names its schema, and to the struct that this root is.
use Rattle.std.specs.Prelude.{◌≡◌, ◌≢◌, ℕ, ◌<◌, not, List, length, map}
use Rattle.std.specs.List.{filter}
use Rattle.ild_data.specs.Key.{same_text}
use Rattle.ild_data.specs.Spell.{id_of}
use Rattle.ild_schema.specs.declared.number.TypeNo.{TypeNo}
use Rattle.ild_schema.specs.declared.row.Row.{Row}
use Rattle.ild_schema.specs.Table.{IsTable}
use Rattle.ild_schema.specs.Value.{Value}
use Rattle.ild_path_edits.specs.Judged.{Tests, AreTests}
use Rattle.ild_script_session.specs.Session.{State}
use Rattle.ild_script_meaning.specs.Lines.{line_due}
use Rattle.ild_named.specs.Named.{AreNaming, schema_block}
use Rattle.ild_named_lines.specs.Beneath.{line_beneath}
use Rattle.ild_named_replies.specs.Lines.{rooted_state}
use Rattle.ild_named_replies.specs.Replies.{on_struct, under_name}
use Rattle.ild_named_scripts.specs.Tests.{struct_tests}

-- ids but for this one
abbrev pub but_for : List ℕ → List (List ℕ) → List (List ℕ)
but_for id ids = filter (λ i. not (same_text id i)) ids

-- At each place of a block its children are the same, but for the schema's text, which is a child of the root.
abbrev pub LinesLeadAlike : Type 0
LinesLeadAlike =
    (h : List ℕ → List ℕ) (rows : List Row) (n : TypeNo) → IsTable rows → n.0 < length rows → (tests : Tests) → AreTests rows tests
    → (name source : List ℕ) → AreNaming name source → (line : List ℕ) (s : State Value) (b : List ℕ) → b ≢ schema_block source
    → map (but_for (id_of (schema_block source))) ((line_due (under_name h rows tests n name source) s line).children b)
    ≡ map (but_for (id_of (schema_block source))) ((line_due (on_struct h rows (struct_tests rows n tests) n) (rooted_state name source s) (line_beneath line)).children b)
