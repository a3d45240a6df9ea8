-- What lines reply on a value under a root that names its schema, and on the struct that this root is.
use Rattle.std.specs.Prelude.{◌≡◌, ℕ, ◌<◌, codes, List, ◌∷◌, length}
use Rattle.ild_schema.specs.declared.number.TypeNo.{TypeNo}
use Rattle.ild_schema.specs.declared.row.Row.{Row}
use Rattle.ild_schema.specs.Table.{IsTable}
use Rattle.ild_schema.specs.Value.{Value}
use Rattle.ild_path_edits.specs.Judged.{Tests}
use Rattle.ild_typed.specs.Stands.{bare}
use Rattle.ild_named.specs.Named.{named}
use Rattle.ild_named_type.specs.Root.{named_rows, root_type}
use Rattle.ild_named_law.specs.Law.{rooted}
use Rattle.ild_script_meaning.specs.Ask.{Tell}
use Rattle.ild_script_meaning.specs.Lines.{Setting, read_reply, root_reply}

-- lines about a value under a root that names its schema
abbrev pub under_name : (List ℕ → List ℕ) → List Row → Tests → TypeNo → List ℕ → List ℕ → Setting
under_name h rows tests n name source = record { frame = named name source; hash = h; rows = rows; tests = tests; ty = n }

-- and about the struct
abbrev pub on_struct : (List ℕ → List ℕ) → List Row → Tests → TypeNo → Setting
on_struct h rows tests n = record { frame = bare; hash = h; rows = named_rows rows n; tests = tests; ty = root_type rows }

abbrev pub ReadsAreAlike : Type 0
ReadsAreAlike =
    (h : List ℕ → List ℕ) (rows : List Row) (n : TypeNo) → IsTable rows → n.0 < length rows → (tests others : Tests) (name source : List ℕ) (tell : Tell) (path : List (List ℕ)) (v : Value)
    → read_reply (on_struct h rows others n) tell (codes "value" ∷ path) (rooted name source v) ≡ read_reply (under_name h rows tests n name source) tell path v

abbrev pub RootsAreTold : Type 0
RootsAreTold =
    (h : List ℕ → List ℕ) (rows : List Row) (n : TypeNo) → IsTable rows → n.0 < length rows → (tests others : Tests) (name source : List ℕ) (v : Value)
    → root_reply (on_struct h rows others n) (rooted name source v) ≡ root_reply (under_name h rows tests n name source) v
