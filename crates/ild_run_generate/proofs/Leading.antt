-- Where an edit leads: what its answer says of a value, of which it makes r.
use Rattle.std.proofs.Common.{◌≡◌, ◌⊎◌, ℕ, List, Some, None, Result, Ok, Err, inl, inr, refl, sym, ap, ◌∙◌, subst}
use Rattle.ild_data.specs.Spell.{id_of}
use Rattle.ild_edges.specs.Store.{Moment}
use Rattle.ild_generator.specs.Laws.{setting_with}
use Rattle.ild_generator.specs.Schema.{generator_rows}
use Rattle.ild_path_edits.specs.Edit.{Edit}
use Rattle.ild_path_edits.specs.Judged.{Tests}
use Rattle.ild_run_edit.specs.Edits.{reply_of}
use Rattle.ild_run_generate.specs.Steps.{IsOfGenerator}
use Rattle.ild_run_standing.specs.Answers.{LeadsOn}
use Rattle.ild_run_standing.specs.Standing.{IsHeldAt, setting_of}
use Rattle.ild_schema.specs.Value.{Value}
use Rattle.ild_schema.specs.declared.number.TypeNo.{TypeNo}
use Rattle.ild_schema.specs.declared.row.Row.{Row}
use Rattle.ild_script.specs.declared.reply.No.{No}
use Rattle.ild_script_meaning.specs.Ask.{to_edit}
use Rattle.ild_script_meaning.specs.Lines.{Setting, changed, due, edit_blocks, edit_due, edit_reply, edit_next, typed_lines}
use Rattle.ild_script_session.specs.Session.{State, idle, resting}
use Rattle.ild_script_session.specs.Step.{AddsOnly, Carries, HasCause, IsExcused, Replies}
use Rattle.ild_typed.specs.Stands.{bare}
use Rattle.ild_view_doc.specs.Docs.{type_in}
use Rattle.ild_view_doc.specs.declared.doc.Doc.{Doc}

-- the setting of a document of the generator's type
abbrev setting_on : List Row → TypeNo → Tests → Setting
setting_on rows ty tests = record { frame = bare; hash = id_of; rows = rows; tests = tests; ty = ty }

pub same_setting : (d : Doc) → IsOfGenerator d → (tests : Tests) → setting_of id_of d tests ≡ setting_with tests
same_setting d of tests = ap (λ r. setting_on r (type_in d) tests) of.table ∙ ap (λ t. setting_on generator_rows t tests) of.type

module _ (tests : Tests) (e : Edit (List ℕ)) (v : Value) (m n : Moment) (new : Doc) where
  abbrev w : Setting
  w = setting_with tests

  -- done, it stands at what the edit makes; refused, it stays, and that is what the edit makes, or the refusal has its cause
  abbrev pub LedBy : Result Value No → Result (Unit {0}) No → Type 0
  LedBy r (Ok done) = (c : Value) × (r ≡ Ok c) × IsHeldAt id_of new tests n c
  LedBy r (Err refusal) = IsHeldAt id_of new tests n v × ((r ≡ Err refusal) ⊎ HasCause m (edit_blocks w v e r) refusal n)

  abbrev Answered : Result Value No → Result (Unit {0}) No → Value → Type 0
  Answered r answer next = ((Some (reply_of answer new) ≡ Some (edit_reply w r None)) × (idle next ≡ edit_next (idle v) r)) ⊎ (IsExcused m (edit_blocks w v e r) (Some (reply_of answer new)) n n × (idle next ≡ idle v))

  at_value : (next c : Value) → idle next ≡ idle c → IsHeldAt id_of new tests n next → IsHeldAt id_of new tests n c
  at_value next c same held = subst (λ (x : Value). IsHeldAt id_of new tests n x) (ap (λ (s : State Value). s.value) same) held

  one_cause : (r : Result Value No) (refusal : No) → HasCause m (edit_blocks w v e r) refusal n ⊎ HasCause m (edit_blocks w v e r) refusal n → HasCause m (edit_blocks w v e r) refusal n
  one_cause r refusal (inl cause) = cause
  one_cause r refusal (inr cause) = cause

  led_by : (r : Result Value No) (answer : Result (Unit {0}) No) (next : Value) → IsHeldAt id_of new tests n next → Answered r answer next → LedBy r answer
  led_by (Ok c) (Ok done) next held (inl due) = (c, refl, at_value next c due.1 held)
  led_by (Err x) (Ok done) next held (inl due) = absurd (let is = due.0 in cc)
  led_by r (Ok done) next held (inr excused) = absurd excused.0
  led_by (Ok c) (Err refusal) next held (inl due) = absurd (let is = due.0 in cc)
  led_by (Err x) (Err refusal) next held (inl due) = (at_value next v due.1 held, inl (let is = due.0 in cc))
  led_by r (Err refusal) next held (inr excused) = (at_value next v excused.1 held, inr (one_cause r refusal excused.0))

  pub led : (r : Result Value No) (answer : Result (Unit {0}) No) → changed w v e ≡ r → IsOfGenerator new → Carries (typed_lines w) m (resting v) → LeadsOn id_of w new (to_edit e) m v (Some (reply_of answer new)) n
      → LedBy r answer × AddsOnly m n (edit_blocks w v e r)
  led r answer makes of carries leads =
      let replies : Replies (typed_lines w) m (resting v) (edit_due w (idle v) e r) (Some (reply_of answer new)) n (resting leads.next) =
      subst (λ (x : Result Value No). Replies (typed_lines w) m (resting v) (edit_due w (idle v) e x) (Some (reply_of answer new)) n (resting leads.next)) makes leads.replies in
      let held : IsHeldAt id_of new tests n leads.next =
      record { at = leads.at; carries = subst (λ (x : Setting). Carries (typed_lines x) n (resting leads.next)) (sym (same_setting new of tests)) (replies.carries carries) } in
      (led_by r answer leads.next held replies.answered, replies.stored.adds)
