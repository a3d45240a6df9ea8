-- The part that a json text means.
use Rattle.std.proofs.Common.{◌≡◌, ℕ, List, Bool, true, Option, Some, None, refl, ap, subst, ◌∙◌}
use Rattle.std.specs.Prelude.{Result, Ok, Err}
use Rattle.std.specs.Result.{result_ok}
use Rattle.ild_data.specs.Data.{Data}
use Rattle.ild_json.specs.Reading.{json_read}
use Rattle.ild_schema.specs.Clear.{IsSafe}
use Rattle.ild_schema.specs.Value.{Value}
use Rattle.ild_schema.specs.declared.number.Slot.{Slot}
use Rattle.ild_schema.specs.declared.row.Row.{Row}
use Rattle.ild_schema.specs.declared.val.Val.{Val}
use Rattle.ild_script.specs.declared.reply.No.{No}
use Rattle.ild_script.specs.declared.reply.No.TheVariants as N
use Rattle.ild_script_meaning.specs.Lines.{read_json}
use Rattle.ild_typed.specs.OfType.{TestsKeys}
use Rattle.ild_typed.specs.Schema.{IsSchema}
use Rattle.ild_typed.specs.Typed.{Typed}
use Rattle.ild_view.proofs.Opening.{safe_is}
use Rattle.ild_view.specs.Safe.{is_safe}
use Rattle.ild_value.specs.Readings.{Means, MeansNothing}
use Rattle.ild_value_meaning.specs.MeantRead.{meant}
use Rattle.ild_value_meaning.proofs.Meanings.{meant_is_read}
use Rattle.ild_value_meaning.proofs.Reading.{read_is_meant}
use Rattle.ild_path_edits.specs.Edit.{meant_or, read_or, new_part}
use Rattle.ild_run_edit.specs.inside.Moves.{PartAnswer}

pub none_meant : (rows : List Row) (slot : Slot) (json : List ℕ) (d : Data) → json_read json ≡ Ok d → MeansNothing rows slot d
    → (is_key : ℕ → List ℕ → Bool) → TestsKeys rows is_key → new_part rows is_key read_json (Some slot) json ≡ Err N.Mismatch
none_meant rows slot json d e none is_key keys = ap (λ r. read_or (meant rows is_key slot) (result_ok r)) e ∙ by (meant rows is_key slot d) refl where
  by : (o : Option Value) → meant rows is_key slot d ≡ o → meant_or (meant rows is_key slot d) ≡ Err N.Mismatch
  by None f = ap meant_or f
  by (Some v) f = absurd (none.none is_key keys v (read_is_meant rows is_key slot d v f))

pub part_meant : (rows : List Row) → IsSchema rows → (slot : Slot) (json : List ℕ) (d : Data) (v : Value) → json_read json ≡ Ok d → Means rows slot d v
    → (is_key : ℕ → List ℕ → Bool) → TestsKeys rows is_key → new_part rows is_key read_json (Some slot) json ≡ Ok v
part_meant rows schema slot json d v e means is_key keys =
    ap (λ r. read_or (meant rows is_key slot) (result_ok r)) e ∙ ap meant_or (meant_is_read rows is_key schema slot d v (means.meant is_key keys))

pub part_as : (rows other : List Row) (slot same : Slot) (json : List ℕ) (r : Result Val No) → rows ≡ other → slot ≡ same → PartAnswer rows slot json r → PartAnswer other same json r
part_as rows other slot same json r e f a = subst (λ rows. PartAnswer rows same json r) e (subst (λ slot. PartAnswer rows slot json r) f a)

pub typed_as : (rows other : List Row) (slot same : Slot) (w : Value) → rows ≡ other → slot ≡ same → Typed rows slot w → Typed other same w
typed_as rows other slot same w e f a = subst (λ rows. Typed rows same w) e (subst (λ slot. Typed rows slot w) f a)

pub typed_as_place : (rows other : List Row) (slot : Slot) (w : Value) → rows ≡ other → Typed rows slot w → Typed other slot w
typed_as_place rows other slot w e a = subst (λ rows. Typed rows slot w) e a

pub safe_here : (rows : List Row) (slot same : Slot) → slot ≡ same → is_safe rows slot ≡ true → IsSafe rows same
safe_here rows slot same e safe = safe_is rows same (subst (λ s. is_safe rows s ≡ true) e safe)
