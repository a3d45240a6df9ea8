-- Lines in order: each is answered alike, and leaves a state from which the next one is.
use Rattle.std.proofs.Common.{◌≡◌, ℕ, List, [], ◌∷◌, map, Option, refl, sym, ap, ◌∙◌, subst, inl, inr}
use Rattle.std.specs.Prelude.{IsSome}
use Rattle.ild_schema.specs.Value.{Value}
use Rattle.ild_script.specs.Line.{lines_of}
use Rattle.ild_script.specs.declared.reply.Reply.{Reply}
use Rattle.ild_script_session.specs.Plain.{PlainRun, PlainStep}
use Rattle.ild_script_session.specs.Session.{State}
use Rattle.ild_script_meaning.specs.Lines.{Setting, line_due}
use Rattle.ild_named_lines.specs.Beneath.{line_beneath}
use Rattle.ild_named_lines.proofs.Scripts.{scripts_of_lines}
use Rattle.ild_named_replies.specs.Lines.{AreAnsweredAlike, rooted_state}
use Rattle.ild_named_replies.specs.Replies.{on_struct, under_name}
use Rattle.ild_named_scripts.specs.Scripts.{RunAlike, ScriptsAreAnsweredAlike}
use Rattle.ild_named_scripts.specs.Tests.{struct_tests}
use Rattle.ild_named_scripts.proofs.Rooms.{line_alike}

module _ (name source : List ℕ) (struct own : Setting) (alike : (line : List ℕ) (s : State Value) → AreAnsweredAlike name source (line_due struct (rooted_state name source s) (line_beneath line)) (line_due own s line)) where
  abbrev over : State Value → State Value
  over s = rooted_state name source s

  abbrev StructRun : State Value → List (List ℕ) → List Reply → State Value → Type 0
  StructRun s lines replies t = PlainRun (line_due struct) s lines replies t

  abbrev OwnRun : State Value → List (List ℕ) → List Reply → State Value → Type 0
  OwnRun s lines replies t = PlainRun (line_due own) s lines replies t

  -- ---- one line

  step_own : (line : List ℕ) (s : State Value) (reply : Option Reply) (t : State Value) → PlainStep (line_due struct (over s) (line_beneath line)) (over s) reply t
      → (u : State Value) × PlainStep (line_due own s line) s reply u × (t ≡ over u)
  step_own line s reply t (inl due) = let same = alike line s in ((line_due own s line).next, inl (due.0 ∙ same.reply, refl), due.1 ∙ same.next)
  step_own line s reply t (inr memory) = let same = alike line s in (s, inr (subst IsSome same.reply memory.0, memory.1, refl), memory.2)

  step_struct : (line : List ℕ) (s : State Value) (reply : Option Reply) (u : State Value) → PlainStep (line_due own s line) s reply u → PlainStep (line_due struct (over s) (line_beneath line)) (over s) reply (over u)
  step_struct line s reply u (inl due) = let same = alike line s in inl (due.0 ∙ sym same.reply, ap over due.1 ∙ sym same.next)
  step_struct line s reply u (inr memory) = let same = alike line s in inr (subst IsSome (sym same.reply) memory.0, memory.1, ap over memory.2)

  -- ---- lines

  run_own : (lines : List (List ℕ)) (s : State Value) (replies : List Reply) (t : State Value) → StructRun (over s) (map line_beneath lines) replies t → (u : State Value) × OwnRun s lines replies u × (t ≡ over u)
  run_own [] s replies t run = (s, (run.0, refl), run.1)
  run_own (l ∷ ls) s replies t (reply, mid, more, step, is, rest) =
      let first = step_own l s reply mid step in
      let others = run_own ls first.0 more t (subst (λ (z : State Value). StructRun z (map line_beneath ls) more t) first.2 rest) in
      (others.0, (reply, first.0, more, first.1, is, others.1), others.2)

  run_struct : (lines : List (List ℕ)) (s : State Value) (replies : List Reply) (u : State Value) → OwnRun s lines replies u → StructRun (over s) (map line_beneath lines) replies (over u)
  run_struct [] s replies u run = (run.0, ap over run.1)
  run_struct (l ∷ ls) s replies u (reply, mid, more, step, is, rest) = (reply, over mid, more, step_struct l s reply mid step, is, run_struct ls mid more u rest)

  pub runs_alike : (script : List ℕ) (s : State Value) → RunAlike name source struct own script s
  runs_alike script s = record {
    own_of = λ replies t run. run_own (lines_of script) s replies t (subst (λ (ls : List (List ℕ)). StructRun (over s) ls replies t) (scripts_of_lines script) run);
    struct_of = λ replies u run. subst (λ (ls : List (List ℕ)). StructRun (over s) ls replies (over u)) (sym (scripts_of_lines script)) (run_struct (lines_of script) s replies u run);
  }

pub scripts_alike : ScriptsAreAnsweredAlike
scripts_alike h rows n table low tests are name source naming script s =
    runs_alike name source (on_struct h rows (struct_tests rows n tests) n) (under_name h rows tests n name source) (λ line s. line_alike h rows n table low tests are name source naming line s) script s
