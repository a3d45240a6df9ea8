-- What each step on the way from a root to its value's text answers.
use Rattle.std.specs.Prelude.{◌≡◌, ℕ, List, Option, Some, None, Result, Ok, Err}
use Rattle.ild_edges.specs.Gained.{FromBlocks}
use Rattle.ild_edges.specs.Store.{Moment}
use Rattle.ild_json.specs.Printing.{json_text}
use Rattle.ild_open_named.specs.Opened.{Opens, StandsInNamed}
use Rattle.ild_open_parts.specs.declared.fault.OpenFault.{OpenFault}
use Rattle.ild_open_parts.specs.declared.fault.OpenFault.TheVariants as O
use Rattle.ild_run_show.specs.declared.fault.ShowFault.{ShowFault}
use Rattle.ild_run_show.specs.declared.fault.ShowFault.TheVariants as F
use Rattle.ild_schema.specs.Slots.{plainly}
use Rattle.ild_schema.specs.Value.{Value}
use Rattle.ild_schema.specs.declared.number.TypeNo.{TypeNo}
use Rattle.ild_schema.specs.declared.row.Row.{Row}
use Rattle.ild_typed.specs.Shown.{shown}

abbrev pub open_fault : OpenFault → ShowFault
open_fault (O.Block id why) = F.Block id why
open_fault O.Store = F.Store
open_fault O.Memory = F.Memory

-- ---- the value

-- beneath the root it has this JSON, or none
pub record IsShown (h : List ℕ → List ℕ) (rows : List Row) (ty : TypeNo) (id : List ℕ) (k : Moment) (json : Option (List ℕ)) : Type 0 where
  pub value : Value
  pub block : List ℕ
  pub opened : FromBlocks k (λ held. StandsInNamed h rows ty id held block value)
  pub printed : json_text (shown rows (plainly ty) value) ≡ json

-- an answer of a type's opening, of which a value's JSON is the end
abbrev pub ValueShows : (List ℕ → List ℕ) → List Row → TypeNo → List ℕ → Moment → Result (List ℕ) ShowFault → Moment → Type 0
ValueShows h rows ty id m (Ok json) k = Opens {A = List ℕ} (λ text. IsShown h rows ty id k (Some text)) h rows ty id m (Ok json) k
ValueShows h rows ty id m (Err F.Reserved) k = Opens {A = Unit {0}} (λ u. IsShown h rows ty id k None) h rows ty id m (Ok tt) k
ValueShows h rows ty id m (Err (F.Block at why)) k = Opens {A = Unit {0}} (λ u. ⊥) h rows ty id m (Err (O.Block at why)) k
ValueShows h rows ty id m (Err F.Store) k = Opens {A = Unit {0}} (λ u. ⊥) h rows ty id m (Err O.Store) k
ValueShows h rows ty id m (Err F.Memory) k = Opens {A = Unit {0}} (λ u. ⊥) h rows ty id m (Err O.Memory) k
