-- Laws of lines whose paths cross typed links.
use Rattle.std.specs.Prelude.{◌≡◌, ℕ, Bool, List, Some}
use Rattle.ild_links.specs.Walk.{Walked}
use Rattle.ild_links_lines.specs.Lines.{WalksFrom, walk_due}
use Rattle.ild_schema.specs.Value.{Value}
use Rattle.ild_script.specs.declared.reply.No.{No}
use Rattle.ild_script.specs.declared.reply.Reply.TheVariants as R
use Rattle.ild_script_meaning.specs.Ask.{Ask}
use Rattle.ild_script_meaning.specs.Lines.{Setting}
use Rattle.ild_script_session.specs.Session.{State}
use Rattle.ild_typed.specs.Schema.{IsSchema}

-- a path has one walk at most over the same blocks, since one value at most stands under an id
abbrev pub WalksAreOne : Type 0
WalksAreOne =
    (w : Setting) → IsSchema w.rows → (held : List (List ℕ)) (v : Value) (path : List (List ℕ)) (x y : Walked Value) → WalksFrom w held v path x → WalksFrom w held v path y → x ≡ y

-- a line that is refused leaves the state
abbrev pub RefusedLeaveState : Type 0
RefusedLeaveState =
    (w : Setting) (inside : Bool) (s : State Value) (a : Ask) (path : List (List ℕ)) (any : ℕ) (walked : Walked Value) (refusal : No)
    → (walk_due w inside s a path any walked).reply ≡ Some (R.No refusal) → (walk_due w inside s a path any walked).next ≡ s
