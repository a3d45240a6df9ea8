-- One line of a script whose paths cross typed links, over a store: answered as its walk says, or refused for a cause that is there.
use Rattle.std.specs.Prelude.{◌≡◌, ℕ, List, Option, Some, None}
use Rattle.ild_edges.specs.Store.{Moment, Later}
use Rattle.ild_links.specs.Walk.{Walked}
use Rattle.ild_links_lines.specs.Lines.{WalksFrom, due_along, path_in}
use Rattle.ild_schema.specs.Value.{Value}
use Rattle.ild_script.specs.Line.{reads}
use Rattle.ild_script.specs.declared.reply.Reply.{Reply}
use Rattle.ild_script_meaning.specs.Ask.{Ask, asked}
use Rattle.ild_script_meaning.specs.Lines.{Setting, due, typed_lines}
use Rattle.ild_script_session.specs.Batch.{together}
use Rattle.ild_script_session.specs.Session.{Due, Stage}
use Rattle.ild_script_session.specs.Step.{Carries, Replies}

module _ (w : Setting) (m : Moment) (s : Stage Value) (a : Ask) (reply : Option Reply) (n : Moment) (t : Stage Value) where
  abbrev pub RepliesAs : Due Value → Type 0
  RepliesAs d = Replies (typed_lines w) m s d reply n t

  -- along each walk of its path in what the store and the batch hold together, of which there is one
  abbrev pub RepliesAlong : List (List ℕ) → Type 0
  RepliesAlong path =
      (held : List (List ℕ)) (walked : Walked Value) → (together m s).blocks ≡ Some held → WalksFrom w held s.state.value path walked → (any : ℕ) × RepliesAs (due_along w s.state a path any walked)

  -- a line without a path asks for what it asks on the value alone
  abbrev pub RepliesTo : Option (List (List ℕ)) → Type 0
  RepliesTo None = RepliesAs (due w a s.state)
  RepliesTo (Some path) = RepliesAlong path

-- What was held is held, a line that is due no reply has none, and where the value is carried, the line is answered so.
pub record StepAcross (w : Setting) (m : Moment) (s : Stage Value) (line : List ℕ) (reply : Option Reply) (n : Moment) (t : Stage Value) : Type 0 where
  pub later : Later m n
  pub speaks : (due w (asked (reads line)) s.state).reply ≡ None → reply ≡ None
  pub replies : Carries (typed_lines w) m s → RepliesTo w m s (asked (reads line)) reply n t (path_in (asked (reads line)))
