-- The blocks that the lines of a script may put, and whether one of them may begin a batch.
use Rattle.std.proofs.Common.{◌≡◌, ◌⊎◌, ℕ, List, [], ◌∷◌, map, Option, Some, None, refl, sym, subst, inl, inr}
use Rattle.std.specs.Prelude.{Contains, IsSome, option_map}
use Rattle.std.proofs.lemmas.List.Elements.{Contains-append_cases, Contains-append_left}
use Rattle.ild_data.proofs.AllOf.{all_contained}
use Rattle.ild_schema.specs.Value.{Value}
use Rattle.ild_script.specs.Line.{lines_of}
use Rattle.ild_script_session.specs.Plain.{MayBegin, MayPut}
use Rattle.ild_script_session.specs.Session.{State}
use Rattle.ild_script_meaning.specs.Lines.{Setting, line_due}
use Rattle.ild_named.specs.Named.{schema_block}
use Rattle.ild_named_lines.specs.Beneath.{line_beneath, script_beneath}
use Rattle.ild_named_lines.proofs.Scripts.{scripts_of_lines}
use Rattle.ild_named_law.specs.Law.{rooted}
use Rattle.ild_named_replies.specs.Lines.{AreAnsweredAlike, rooted_state}
use Rattle.ild_named_replies.specs.Replies.{on_struct, under_name}
use Rattle.ild_named_scripts.specs.Adds.{AreWith, MayAlike, ScriptsMayAlike}
use Rattle.ild_named_scripts.specs.Tests.{struct_tests}
use Rattle.ild_named_scripts.proofs.Adding.{adds_alike}
use Rattle.ild_named_scripts.proofs.Rooms.{line_alike}

-- ---- blocks with one more

with_own : (one b : List ℕ) (bs cs : List (List ℕ)) → AreWith one bs cs → Contains bs b → Contains cs b
with_own one b bs cs (inl same) has = subst (λ (xs : List (List ℕ)). Contains xs b) (sym same) has
with_own one b bs cs (inr same) has = subst (λ (xs : List (List ℕ)). Contains xs b) (sym same) (Contains-append_left bs (one ∷ []) b has)

with_more : (one b : List ℕ) (bs cs : List (List ℕ)) → AreWith one bs cs → Contains cs b → Contains bs b ⊎ (b ≡ one)
with_more one b bs cs (inl same) has = inl (subst (λ (xs : List (List ℕ)). Contains xs b) same has)
with_more one b bs cs (inr same) has = by (Contains-append_cases bs (one ∷ []) b (subst (λ (xs : List (List ℕ)). Contains xs b) same has))
  where
    by : Contains bs b ⊎ Contains (one ∷ []) b → Contains bs b ⊎ (b ≡ one)
    by (inl first) = inl first
    by (inr last) = inr (all_contained (λ (x : List ℕ). x ≡ one) (one ∷ []) b (refl, tt) last)

-- ---- a batch that is begun

begun_struct : (name source : List ℕ) (o : Option Value) → IsSome o → IsSome (option_map (rooted name source) o)
begun_struct name source None some = some
begun_struct name source (Some v) some = some

begun_own : (name source : List ℕ) (o : Option Value) → IsSome (option_map (rooted name source) o) → IsSome o
begun_own name source None some = some
begun_own name source (Some v) some = some

module _ (name source : List ℕ) (struct own : Setting)
    (alike : (line : List ℕ) (s : State Value) → AreAnsweredAlike name source (line_due struct (rooted_state name source s) (line_beneath line)) (line_due own s line))
    (with_text : (line : List ℕ) (s : State Value) → AreWith (schema_block source) (line_due struct (rooted_state name source s) (line_beneath line)).adds (line_due own s line).adds) where
  abbrev over : State Value → State Value
  over s = rooted_state name source s

  abbrev Puts : State Value → List (List ℕ) → List ℕ → Type 0
  Puts s lines b = MayPut (line_due own) s lines b

  abbrev StructPuts : State Value → List (List ℕ) → List ℕ → Type 0
  StructPuts s lines b = MayPut (line_due struct) s (map line_beneath lines) b

  abbrev Begins : State Value → List (List ℕ) → Type 0
  Begins s lines = MayBegin (line_due own) s lines

  abbrev StructBegins : State Value → List (List ℕ) → Type 0
  StructBegins s lines = MayBegin (line_due struct) s (map line_beneath lines)

  next_same : (line : List ℕ) (s : State Value) → (line_due struct (over s) (line_beneath line)).next ≡ over (line_due own s line).next
  next_same line s = (alike line s).next

  puts_own : (lines : List (List ℕ)) (s : State Value) (b : List ℕ) → StructPuts (over s) lines b → Puts s lines b
  puts_own [] s b may = may
  puts_own (l ∷ ls) s b (inl adds) = inl (with_own (schema_block source) b (line_due struct (over s) (line_beneath l)).adds (line_due own s l).adds (with_text l s) adds)
  puts_own (l ∷ ls) s b (inr (inl may)) =
      inr (inl (puts_own ls (line_due own s l).next b (subst (λ (t : State Value). StructPuts t ls b) (next_same l s) may)))
  puts_own (l ∷ ls) s b (inr (inr may)) = inr (inr (puts_own ls s b may))

  abbrev Either : State Value → List (List ℕ) → List ℕ → Type 0
  Either s lines b = StructPuts (over s) lines b ⊎ (b ≡ schema_block source)

  puts_more : (lines : List (List ℕ)) (s : State Value) (b : List ℕ) → Puts s lines b → Either s lines b
  puts_more [] s b may = absurd may
  puts_more (l ∷ ls) s b (inl adds) = by (with_more (schema_block source) b (line_due struct (over s) (line_beneath l)).adds (line_due own s l).adds (with_text l s) adds)
    where
      by : Contains (line_due struct (over s) (line_beneath l)).adds b ⊎ (b ≡ schema_block source) → Either s (l ∷ ls) b
      by (inl has) = inl (inl has)
      by (inr same) = inr same
  puts_more (l ∷ ls) s b (inr (inl may)) = by (puts_more ls (line_due own s l).next b may)
    where
      by : Either (line_due own s l).next ls b → Either s (l ∷ ls) b
      by (inl has) = inl (inr (inl (subst (λ (t : State Value). StructPuts t ls b) (sym (next_same l s)) has)))
      by (inr same) = inr same
  puts_more (l ∷ ls) s b (inr (inr may)) = by (puts_more ls s b may)
    where
      by : Either s ls b → Either s (l ∷ ls) b
      by (inl has) = inl (inr (inr has))
      by (inr same) = inr same

  begins_own : (lines : List (List ℕ)) (s : State Value) → StructBegins (over s) lines → Begins s lines
  begins_own [] s may = may
  begins_own (l ∷ ls) s (inl begun) =
      inl (begun_own name source (line_due own s l).next.begun (subst (λ (t : State Value). IsSome t.begun) (next_same l s) begun))
  begins_own (l ∷ ls) s (inr (inl may)) =
      inr (inl (begins_own ls (line_due own s l).next (subst (λ (t : State Value). StructBegins t ls) (next_same l s) may)))
  begins_own (l ∷ ls) s (inr (inr may)) = inr (inr (begins_own ls s may))

  begins_struct : (lines : List (List ℕ)) (s : State Value) → Begins s lines → StructBegins (over s) lines
  begins_struct [] s may = may
  begins_struct (l ∷ ls) s (inl begun) =
      inl (subst (λ (t : State Value). IsSome t.begun) (sym (next_same l s)) (begun_struct name source (line_due own s l).next.begun begun))
  begins_struct (l ∷ ls) s (inr (inl may)) =
      inr (inl (subst (λ (t : State Value). StructBegins t ls) (sym (next_same l s)) (begins_struct ls (line_due own s l).next may)))
  begins_struct (l ∷ ls) s (inr (inr may)) = inr (inr (begins_struct ls s may))

  -- ---- of the script

  module _ (script : List ℕ) (s : State Value) where
    lines_same : lines_of (script_beneath script) ≡ map line_beneath (lines_of script)
    lines_same = scripts_of_lines script

    moved : (b : List ℕ) → Either s (lines_of script) b → MayPut (line_due struct) (over s) (lines_of (script_beneath script)) b ⊎ (b ≡ schema_block source)
    moved b (inl may) = inl (subst (λ (ls : List (List ℕ)). MayPut (line_due struct) (over s) ls b) (sym lines_same) may)
    moved b (inr same) = inr same

    pub script_may : MayAlike name source struct own script s
    script_may = record {
      puts = λ b may. puts_own (lines_of script) s b (subst (λ (ls : List (List ℕ)). MayPut (line_due struct) (over s) ls b) lines_same may);
      more = λ b may. moved b (puts_more (lines_of script) s b may);
      begins = (
        (λ may. begins_own (lines_of script) s (subst (λ (ls : List (List ℕ)). MayBegin (line_due struct) (over s) ls) lines_same may)),
        (λ may. subst (λ (ls : List (List ℕ)). MayBegin (line_due struct) (over s) ls) (sym lines_same) (begins_struct (lines_of script) s may)),
      );
    }

pub may_alike : ScriptsMayAlike
may_alike h rows n table low tests are name source naming script s =
    script_may name source (on_struct h rows (struct_tests rows n tests) n) (under_name h rows tests n name source)
    (λ line s. line_alike h rows n table low tests are name source naming line s) (λ line s. adds_alike h rows n table low tests are name source naming line s) script s
