-- What answering lines leaves, one at a time and all of a script.
use Rattle.std.specs.Prelude.{◌≡◌, ℕ, ◌+◌, List, [], ◌++◌, length, Bool, Option, Some, None}
use Rattle.std.specs.List.{list_any, cons_option}
use denote.Ref.{Bor}
use Rattle.ild_edges.specs.Sink.{Appends, AppendsFront}
use Rattle.ild_edges.specs.Store.{Moment, Later}
use Rattle.ild_script.specs.declared.reply.Reply.{Reply}
use Rattle.ild_script.specs.Line.{lines_of}
use Rattle.ild_script.specs.Reply.{reply_text, is_no}
use Rattle.ild_script_session.specs.Session.{Stage, Meaning}
use Rattle.ild_script_session.specs.Run.{texts}
use Rattle.ild_script_session.specs.Stands.{IsAnswered, AreAnswered, Leads, Ran}

-- the lines that are left of a script
abbrev pub lines_left : Option (Bor (List ℕ)) → List (List ℕ)
lines_left None = []
lines_left (Some b) = lines_of b.now

abbrev pub bytes_left : Option (Bor (List ℕ)) → ℕ
bytes_left None = 0
bytes_left (Some b) = length b.now + 1

-- Of which meanings and at which stages the session stood, and stands, is what `Stood` and `Stands` say; what a line leaves by its reply,
-- from a session to the one that goes on, is what `Passes` says.
module _ {V S : Type 0} (Stood Stands : Meaning V → Stage V → Type 0) (Passes : S → Moment → List ℕ → Option Reply → Moment → S → Type 0) (a b : S) where
  -- a line was answered, and its reply written
  pub record LineDone (m : Moment) (line : List ℕ) (n : Moment) (was now : Option (List ℕ)) (refused : Bool) : Type 0 where
    pub reply : Option Reply
    pub answered : IsAnswered m line reply n
    pub passed : Passes a m line reply n b
    pub leads : (M : Meaning V) (s : Stage V) → Stood M s → Leads M (Stands M) m s line reply n
    pub written : Appends was now (texts (cons_option reply []))
    pub refused_is : refused ≡ list_any is_no (cons_option reply [])

  -- a line was answered, and a front of its reply written
  pub record LineCut (m : Moment) (line : List ℕ) (n : Moment) (was now : Option (List ℕ)) : Type 0 where
    pub reply : Reply
    pub answered : IsAnswered m line (Some reply) n
    pub passed : Passes a m line (Some reply) n b
    pub leads : (M : Meaning V) (s : Stage V) → Stood M s → Leads M (Stands M) m s line (Some reply) n
    pub written : AppendsFront was now (reply_text reply)

  -- these lines were answered, and their replies written
  pub record LinesDone (m : Moment) (lines : List (List ℕ)) (n : Moment) (was now : Option (List ℕ)) (refused : Bool) : Type 0 where
    pub replies : List Reply
    pub answered : AreAnswered Passes a m lines replies n b
    pub ran : (M : Meaning V) (s : Stage V) → Stood M s → Ran M (Stands M) m s lines replies n
    pub later : Later m n
    pub written : Appends was now (texts replies)
    pub refused_is : refused ≡ list_any is_no replies

  -- the first of these lines were answered, and a front of their replies written
  pub record LinesCut (m : Moment) (lines : List (List ℕ)) (n : Moment) (was now : Option (List ℕ)) : Type 0 where
    pub first : List (List ℕ)
    pub rest : List (List ℕ)
    pub split : lines ≡ first ++ rest
    pub replies : List Reply
    pub answered : AreAnswered Passes a m first replies n b
    pub ran : (M : Meaning V) (s : Stage V) → Stood M s → Ran M (Stands M) m s first replies n
    pub later : Later m n
    pub written : AppendsFront was now (texts replies)

-- ---- the same where what `Stood` and `Stands` say goes by what the store holds, at each of the two moments

abbrev pub AnswersLine : {V S : Type 0} (Stood Stands : Moment → Meaning V → Stage V → Type 0) (Passes : S → Moment → List ℕ → Option Reply → Moment → S → Type 0) → S → S
    → Moment → List ℕ → Moment → Option (List ℕ) → Option (List ℕ) → Bool → Type 0
AnswersLine Stood Stands Passes a b m line n was now refused = LineDone (Stood m) (Stands n) Passes a b m line n was now refused

abbrev pub CutsLine : {V S : Type 0} (Stood Stands : Moment → Meaning V → Stage V → Type 0) (Passes : S → Moment → List ℕ → Option Reply → Moment → S → Type 0) → S → S
    → Moment → List ℕ → Moment → Option (List ℕ) → Option (List ℕ) → Type 0
CutsLine Stood Stands Passes a b m line n was now = LineCut (Stood m) (Stands n) Passes a b m line n was now

abbrev pub AnswersLines : {V S : Type 0} (Stood Stands : Moment → Meaning V → Stage V → Type 0) (Passes : S → Moment → List ℕ → Option Reply → Moment → S → Type 0) → S → S
    → Moment → List (List ℕ) → Moment → Option (List ℕ) → Option (List ℕ) → Bool → Type 0
AnswersLines Stood Stands Passes a b m lines n was now refused = LinesDone (Stood m) (Stands n) Passes a b m lines n was now refused

abbrev pub CutsLines : {V S : Type 0} (Stood Stands : Moment → Meaning V → Stage V → Type 0) (Passes : S → Moment → List ℕ → Option Reply → Moment → S → Type 0) → S → S
    → Moment → List (List ℕ) → Moment → Option (List ℕ) → Option (List ℕ) → Type 0
CutsLines Stood Stands Passes a b m lines n was now = LinesCut (Stood m) (Stands n) Passes a b m lines n was now
