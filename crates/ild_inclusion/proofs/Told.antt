-- What is found gives the answer that is written out of it.
use Rattle.std.proofs.Common.{◌≡◌, ℕ, List, Result, Ok, Err, sym, ap, ◌∙◌, subst}
use Rattle.std.proofs.lemmas.Option.{same_Some}
use Rattle.ild_data.specs.Spell.{spell}
use Rattle.ild_schema.specs.Value.{Value}
use Rattle.ild_schema.specs.declared.number.TypeNo.{TypeNo}
use Rattle.ild_schema.specs.declared.row.Row.{Row}
use Rattle.ild_view.specs.View.{IsView, slot_of, table_of}
use Rattle.ild_view.specs.declared.view.View.{View}
use Rattle.ild_inclusion.specs.Given.{Gives, HasMemory}
use Rattle.ild_inclusion.specs.Says.{Outcome, Walks}
use Rattle.ild_inclusion.specs.Verifies.{result_of}
use Rattle.ild_inclusion.specs.inside.Found.{IsFound, FoundGives}
use Rattle.ild_inclusion.specs.inside.Shown.{IsShown}
use Rattle.ild_inclusion.specs.declared.answer.Answer.{Answer}
use Rattle.ild_inclusion.specs.declared.answer.Answer.TheVariants as A
use Rattle.ild_inclusion.specs.declared.answer.Part.{Part}
use Rattle.ild_inclusion.specs.declared.fault.VerifyErr.{VerifyErr}
use Rattle.ild_inclusion.specs.declared.fault.VerifyErr.TheVariants as V
use Rattle.ild_inclusion.specs.declared.found.Found.{Found}
use Rattle.ild_inclusion.specs.declared.found.Found.TheVariants as N
use Rattle.ild_inclusion.proofs.Mapping.{walks_map}

-- memory is wanting for a part where it is for the answer
pub memory_of : (result : Result Part VerifyErr) → HasMemory (result_of result) → HasMemory result
memory_of (Ok x) memory = λ e. absurd cc
memory_of (Err e) memory = λ is. memory (let same : e ≡ V.Memory = cc in ap Err same)

module _ (h : List ℕ → List ℕ) (rows : List Row) (n : TypeNo) (id : List ℕ) (path blocks own : List (List ℕ)) (same : blocks ≡ own) where
  by_own : (Is : Outcome → Type 0) → Walks h rows n id path Is blocks → Walks h rows n id path Is own
  by_own Is w = subst (λ (bs : List (List ℕ)). Walks h rows n id path Is bs) same w

  pub walk_found : (x : Found) (result : Result Answer VerifyErr) → ((a : Answer) → IsFound x a → result ≡ Ok a) → (HasMemory {X = Found} (Ok x) → Walks h rows n id path (FoundGives (Ok x)) blocks) → Walks h rows n id path (Gives result) own
  walk_found x result told w = walks_map (Gives result) (FoundGives (Ok x)) by h rows n id path own (by_own (FoundGives (Ok x)) (w (λ e. absurd cc))) where
    by : (o : Outcome) → FoundGives (Ok x) o → Gives result o
    by (Ok a) found = told a found
    by (Err r) found = absurd found

  pub walk_refused : (e : VerifyErr) → HasMemory {X = Answer} (Err e) → (HasMemory {X = Found} (Err e) → Walks h rows n id path (FoundGives (Err e)) blocks) → Walks h rows n id path (Gives (Err e)) own
  walk_refused e memory w = walks_map (Gives (Err e)) (FoundGives (Err e)) by h rows n id path own (by_own (FoundGives (Err e)) (w (λ is. memory (let same : e ≡ V.Memory = cc in ap Err same)))) where
    by : (o : Outcome) → FoundGives (Err e) o → Gives (Err e) o
    by (Ok a) found = absurd found
    by (Err r) found = ap Err found

-- the spelling at a view is that of the part for which the view was found
pub one_spelling : (v : View) (own : List ℕ) → ((f : Value) → IsView v f → IsShown (table_of v) (slot_of v) f own) → (a : Answer) → IsFound (N.Here v) a → ◌≡◌ {A = Result Answer VerifyErr} (Ok (A.Here own)) (Ok a)
one_spelling v own all (A.Absent k) found = absurd found
one_spelling v own all (A.Here b) found =
    let mine = all found.value found.view in
    let same : mine.tree ≡ found.shown.tree = same_Some mine.tree found.shown.tree (sym mine.shown ∙ found.shown.shown) in
    ap (λ (x : List ℕ). Ok (A.Here x)) (mine.spelled ∙ ap spell same ∙ sym found.shown.spelled)
