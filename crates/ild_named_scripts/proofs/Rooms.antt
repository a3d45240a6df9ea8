-- By these tests an edit is judged alike, whatever the value.
use Rattle.std.proofs.Common.{◌≡◌, ℕ, ◌<◌, suc, List, length, Bool, true, false, cond, Option, Some, refl, ap, sym, ◌∙◌, subst, arith}
use Rattle.std.specs.Prelude.{◌&&◌, IsSomeAnd, IsUtf8}
use Rattle.std.proofs.lemmas.Bool.{le-ltb}
use Rattle.ild_data.specs.Bytes.{AreBytes}
use Rattle.ild_data.specs.Cid.{IsCid}
use Rattle.ild_data.specs.Spell.{cid_of, id_of}
use Rattle.ild_schema.specs.declared.number.Slot.{Slot}
use Rattle.ild_schema.specs.declared.number.TypeNo.{TypeNo}
use Rattle.ild_schema.specs.declared.def.TypeDef.{TypeDef}
use Rattle.ild_schema.specs.declared.def.TypeDef.TheVariants as D
use Rattle.ild_schema.specs.declared.row.Row.{Row}
use Rattle.ild_schema.specs.Prelude.{number}
use Rattle.ild_schema.specs.Slots.{form_of, plainly}
use Rattle.ild_schema.specs.Table.{IsTable}
use Rattle.ild_schema.specs.Value as V
use Rattle.ild_schema.specs.Value.{Value}
use Rattle.ild_typed.specs.Fits.{FitsPast, Fits, FormFits}
use Rattle.ild_typed.proofs.Utf8Texts.{id_fits}
use Rattle.ild_path_edits.specs.Edit.{Edit}
use Rattle.ild_path_edits.specs.Judged.{Tests, AreTests}
use Rattle.ild_script_session.specs.Session.{State}
use Rattle.ild_script_meaning.specs.Lines.{changed, line_due, read_json}
use Rattle.ild_named.specs.Named.{AreNaming, schema_block}
use Rattle.ild_named_lines.specs.Beneath.{line_beneath}
use Rattle.ild_named_type.specs.Root.{root_type}
use Rattle.ild_named_law.specs.Law.{rooted}
use Rattle.ild_named_law.proofs.Known.{link_meant, text_meant}
use Rattle.ild_named_replies.specs.Edits.{AreTestsOfBoth, edit_beneath, rooted_or}
use Rattle.ild_named_replies.specs.Lines.{AreAnsweredAlike, rooted_state}
use Rattle.ild_named_replies.specs.Replies.{on_struct, under_name}
use Rattle.ild_named_replies.proofs.Answering.{line_told}
use Rattle.ild_named_replies.proofs.Editing.{edits_by}
use Rattle.ild_named_scripts.specs.Tests.{struct_fits, struct_tests}
use Rattle.ild_named_scripts.proofs.Testing.{tested}

and_true : (b : Bool) → (b && true) ≡ b
and_true true = refl
and_true false = refl

text_fits : (rows : List Row) (room : ℕ) (s : Slot) (t : List ℕ) → form_of rows s ≡ Some D.Text → IsUtf8 t → Fits rows (suc room) s (V.text t)
unfolding FitsPast
text_fits rows room s t form utf8 = subst (λ (o : Option TypeDef). IsSomeAnd o (FormFits rows (suc room) (FitsPast rows room) (V.text t))) (sym form) (omega arith, utf8)

link_fits : (rows : List Row) (room : ℕ) (s : Slot) (t : List ℕ) → form_of rows s ≡ Some (D.Link (number 0)) → IsCid t × AreBytes t → Fits rows (suc room) s (V.link t)
unfolding FitsPast
link_fits rows room s t form cid = subst (λ (o : Option TypeDef). IsSomeAnd o (FormFits rows (suc room) (FitsPast rows room) (V.link t))) (sym form) (omega arith, cid)

module _ (h : List ℕ → List ℕ) (rows : List Row) (n : TypeNo) (table : IsTable rows) (low : n.0 < length rows) (tests : Tests) (are : AreTests rows tests) (name source : List ℕ) (naming : AreNaming name source) where
  abbrev others : Tests
  others = struct_tests rows n tests

  pub both : AreTestsOfBoth rows n tests others
  both = record { own = are; longer = tested rows n table low tests are }

  name_there : tests.fits 95 (plainly (number 7)) (V.text name) ≡ true
  name_there = let fits : Fits rows 95 (plainly (number 7)) (V.text name) = text_fits rows 94 (plainly (number 7)) name (text_meant rows table) naming.name_text in (are.rooms 95 (plainly (number 7)) (V.text name) (95, fits)).1 fits

  abbrev cid : List ℕ
  cid = cid_of (id_of (schema_block source))

  link_there : tests.fits 95 (plainly (number 4)) (V.link cid) ≡ true
  link_there =
      let fits : Fits rows 95 (plainly (number 4)) (V.link cid) = link_fits rows 94 (plainly (number 4)) cid (link_meant rows table) (id_fits (schema_block source)) in
      (are.rooms 95 (plainly (number 4)) (V.link cid) (95, fits)).1 fits

  rooms_one : (v : Value) → others.fits 96 (plainly (root_type rows)) (rooted name source v) ≡ tests.fits 95 (plainly n) v
  rooms_one v =
      let whole = rooted name source v in
      ap (λ (b : Bool). cond b (tests.fits 96 (plainly (root_type rows)) whole) (struct_fits tests n 96 (plainly (root_type rows)) whole)) (le-ltb (length rows) (length rows) (omega arith))
      ∙ ap (λ (b : Bool). b && (tests.fits 95 (plainly n) v && tests.fits 95 (plainly (number 4)) (V.link cid))) name_there
      ∙ ap (λ (b : Bool). tests.fits 95 (plainly n) v && b) link_there ∙ and_true (tests.fits 95 (plainly n) v)

  pub edited_alike : (s : State Value) (e : Edit (List ℕ))
      → changed (on_struct h rows others n) (rooted name source s.value) (edit_beneath e) ≡ rooted_or name source (changed (under_name h rows tests n name source) s.value e)
  edited_alike s e = edits_by h rows n table low tests others both name source naming read_json s.value e (λ c is. rooms_one c)

  pub line_alike : (line : List ℕ) (s : State Value) → AreAnsweredAlike name source (line_due (on_struct h rows others n) (rooted_state name source s) (line_beneath line)) (line_due (under_name h rows tests n name source) s line)
  line_alike line s = line_told h rows n table low tests others name source line s (λ e is. edited_alike s e)
