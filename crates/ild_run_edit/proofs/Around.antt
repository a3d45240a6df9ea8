-- What a place tells of the texts around a part.
use Rattle.std.proofs.Common.{◌≡◌, ℕ, List, Bool, Option, ap, subst, ◌∙◌}
use Rattle.std.specs.Borrow.{Bor}
use Rattle.std.specs.Prelude.{IfOk, Result, Ok, Err, option_map}
use Rattle.std.specs.declared.alloc.AllocError.{AllocError}
use Rattle.ild_build.specs.IsJudged.{IsJudged}
use Rattle.ild_build.specs.TextRep.{text_rep}
use Rattle.ild_build.specs.declared.judgement.Judged.{Judged}
use Rattle.ild_schema.specs.Clear.{IsSafe}
use Rattle.ild_schema.specs.declared.number.Slot.{Slot}
use Rattle.ild_schema.specs.declared.row.Row.{Row}
use Rattle.ild_schema.specs.Value.{Value}
use Rattle.ild_path_around.specs.Around.{TellsComing}
use Rattle.ild_path_place.specs.Tells.{slot_in, table_at}
use Rattle.ild_path_place.specs.declared.place.Place.{Place}
use Rattle.ild_run_edit.specs.inside.Judges.{TellsAround}

pub tells_around : (place : Place) (w : Value) (o : Option (Bor (List ℕ))) (r : Result Bool AllocError) → IsSafe (table_at place) (slot_in place) → option_map (λ t. t.now) o ≡ text_rep (table_at place) (slot_in place) w → TellsComing place o r
    → IfOk r (TellsAround place w)
tells_around place w o (Err e) safe text t = tt
tells_around place w o (Ok b) safe text t = λ h rows was p how path c is_key is keys texts of_type free same made.
    t h rows was p how path w c is_key is.is is.rooted keys texts (subst (λ rows. IsSafe rows (slot_in place)) same safe) of_type free (text ∙ ap (λ rows. text_rep rows (slot_in place) w) same) made

-- ---- by other names of the same

pub text_as : (rows other : List Row) (slot same : Slot) (w : Value) (made : Option (List ℕ)) → rows ≡ other → slot ≡ same → made ≡ text_rep rows slot w → made ≡ text_rep other same w
text_as rows other slot same w made e f is = is ∙ ap (λ rows. text_rep rows slot w) e ∙ ap (λ slot. text_rep other slot w) f

pub judged_as : (rows other : List Row) (n m : ℕ) (slot same : Slot) (w : Value) (j : Option Judged) → rows ≡ other → n ≡ m → slot ≡ same → IsJudged rows n slot w j → IsJudged other m same w j
judged_as rows other n m slot same w j e f g a = subst (λ rows. IsJudged rows m same w j) e (subst (λ n. IsJudged rows n same w j) f (subst (λ slot. IsJudged rows n slot w j) g a))
