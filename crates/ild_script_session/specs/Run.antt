-- A script: its lines in order, each from the stage and the moment that the one before left.
use Rattle.std.specs.Prelude.{◌≡◌, ℕ, ◌+◌, List, [], ◌∷◌, Option}
use Rattle.std.specs.List.{flat_map, cons_option}
use Rattle.ild_edges.specs.Store.{Moment}
use Rattle.ild_script.specs.declared.reply.Reply.{Reply}
use Rattle.ild_script.specs.Reply.{reply_text}
use Rattle.ild_script_session.specs.Batch.{due_at, puts_at}
use Rattle.ild_script_session.specs.Session.{Stage, Meaning}
use Rattle.ild_script_session.specs.Step.{Step}

abbrev pub Run : {V : Type 0} → Meaning V → Moment → Stage V → List (List ℕ) → List Reply → Moment → Stage V → Type 0
Run M m s [] replies n t = (replies ≡ []) × (t ≡ s) × (n ≡ m)
Run {V} M m s (l ∷ ls) replies n t =
    (reply : Option Reply) × (u : Stage V) × (k : Moment) × (more : List Reply) × Step M m s l reply k u × (replies ≡ cons_option reply more) × Run M k u ls more n t

-- the text of a run: its replies in order
abbrev pub texts : List Reply → List ℕ
texts = flat_map reply_text

-- how many gets, and how many puts, the lines of a run make at most
abbrev pub most_gets : {V : Type 0} (M : Meaning V) (m : Moment) (s : Stage V) (lines : List (List ℕ)) (replies : List Reply) (n : Moment) (t : Stage V) → Run M m s lines replies n t → ℕ
most_gets M m s [] replies n t run = 0
most_gets M m s (l ∷ ls) replies n t run = (due_at M m s l).gets + most_gets M run.2 run.1 ls run.3 n t run.6

abbrev pub most_puts : {V : Type 0} (M : Meaning V) (m : Moment) (s : Stage V) (lines : List (List ℕ)) (replies : List Reply) (n : Moment) (t : Stage V) → Run M m s lines replies n t → ℕ
most_puts M m s [] replies n t run = 0
most_puts M m s (l ∷ ls) replies n t run = puts_at s (due_at M m s l) + most_puts M run.2 run.1 ls run.3 n t run.6
