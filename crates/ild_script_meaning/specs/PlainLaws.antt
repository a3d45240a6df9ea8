-- The law that the lines of a plain map mean as those of a typed value, as far as a plain map knows them.
use Rattle.std.specs.Prelude.{ℕ, List}
use Rattle.ild_script.specs.Line.{reads}
use Rattle.ild_path_edits.specs.Judged.{Tests, AreTests}
use Rattle.ild_script_meaning.specs.PlainLines as P
use Rattle.ild_script_meaning.specs.PlainValue as PV
use Rattle.ild_script_session.specs.Session.{idle}
use Rattle.ild_script_meaning.specs.Lines.{line_due}
use Rattle.ild_script_meaning.specs.PlainMap.{plain_rows, as_value, IsPlain, plain_setting, IsKnown, SameDue}

abbrev pub SaysPlainMap : Type 0
SaysPlainMap =
    (name : List ℕ) (at key_at value_at : ℕ) (hash : List ℕ → List ℕ) (tests : Tests) → AreTests (plain_rows name at key_at value_at) tests
    → (v : PV.Value) → IsPlain v → (line : List ℕ) → IsKnown (reads line)
    → SameDue (P.line_due (idle v) line) (line_due (plain_setting hash (plain_rows name at key_at value_at) tests) (idle (as_value v)) line)
