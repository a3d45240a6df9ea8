-- Documents of one type have the same lines.
use Rattle.std.proofs.Common.{◌≡◌, ℕ, List, [], refl, sym, ap, ◌∙◌, subst}
use Rattle.std.specs.Option.{option_map_or}
use Rattle.ild_data.specs.Data as D
use Rattle.ild_data.specs.Spell.{id_of}
use Rattle.ild_edges.specs.Store.{Moment}
use Rattle.ild_json.specs.Printing.{json_text}
use Rattle.ild_schema.specs.Value.{Value}
use Rattle.ild_schema.specs.declared.number.TypeNo.{TypeNo}
use Rattle.ild_schema.specs.declared.row.Row.{Row}
use Rattle.ild_script.specs.declared.reply.Reply.TheVariants as R
use Rattle.ild_typed.specs.Stands.{Storable, bare, root_id}
use Rattle.ild_path_edits.specs.Judged.{Tests, AreTests}
use Rattle.ild_script_session.specs.Session.{Meaning, Stage}
use Rattle.ild_script_session.specs.Step.{Carries}
use Rattle.ild_script_meaning.specs.Lines.{Setting, printed, root_reply, typed_lines}
use Rattle.ild_view_doc.specs.Docs.{table_in, type_in, block_in}
use Rattle.ild_view_doc.specs.declared.doc.Doc.{Doc}
use Rattle.ild_run_standing.specs.Standing.{DocIsAt, IsBegin, IsOf, setting_of}
use Rattle.ild_run_document.specs.Null.{null_text}

pub settings : (h : List ℕ → List ℕ) (old new : Doc) (tests : Tests) → table_in new ≡ table_in old → type_in new ≡ type_in old → setting_of h old tests ≡ setting_of h new tests
settings h old new tests table type = λ i. record { frame = bare; hash = h; rows = sym table i; tests = tests; ty = sym type i }

pub tests_on : (old new : Doc) (tests : Tests) → table_in new ≡ table_in old → AreTests (table_in old) tests → AreTests (table_in new) tests
tests_on old new tests table are = subst (λ (rows : List Row). AreTests rows tests) (sym table) are

pub means_on : (h : List ℕ → List ℕ) (old new : Doc) (tests : Tests) (M : Meaning Value) → table_in new ≡ table_in old → type_in new ≡ type_in old → M ≡ typed_lines (setting_of h old tests) → M ≡ typed_lines (setting_of h new tests)
means_on h old new tests M table type is = is ∙ ap (λ (w : Setting). typed_lines w) (settings h old new tests table type)

pub carries_on : (h : List ℕ → List ℕ) (old new : Doc) (tests : Tests) (m : Moment) (s : Stage Value) → table_in new ≡ table_in old → type_in new ≡ type_in old → Carries (typed_lines (setting_of h old tests)) m s → Carries (typed_lines (setting_of h new tests)) m s
carries_on h old new tests m s table type c = subst (λ (w : Setting). Carries (typed_lines w) m s) (settings h old new tests table type) c

pub storable_on : (h : List ℕ → List ℕ) (old new : Doc) (v : Value) (t : D.Data) → table_in new ≡ table_in old → type_in new ≡ type_in old → Storable bare h (table_in old) (type_in old) v t → Storable bare h (table_in new) (type_in new) v t
storable_on h old new v t table type s =
    subst (λ (n : TypeNo). Storable bare h (table_in new) n v t) (sym type) (subst (λ (rows : List Row). Storable bare h rows (type_in old) v t) (sym table) s)

pub of_at : (h : List ℕ → List ℕ) (d : Doc) (m : Moment) (v : Value) → DocIsAt h d m v → IsOf h d v
of_at h d m v x = record { tree = x.tree; storable = x.storable; block = x.block }

-- the same block of the same type is of the same value
pub of_same : (h : List ℕ → List ℕ) (old new : Doc) (v : Value) → table_in new ≡ table_in old → type_in new ≡ type_in old → block_in new ≡ block_in old → IsOf h old v → IsOf h new v
of_same h old new v table type block x = record { tree = x.tree; storable = storable_on h old new v x.tree table type x.storable; block = block ∙ x.block }

pub begin_on : (h : List ℕ → List ℕ) (old new b : Doc) (kept : Value) → table_in new ≡ table_in old → type_in new ≡ type_in old → IsBegin h old b kept → IsBegin h new b kept
begin_on h old new b kept table type x = record { same = (x.same.0 ∙ sym table, x.same.1 ∙ sym type); of = x.of }

pub root_is : (h : List ℕ → List ℕ) (d : Doc) (tests : Tests) (m : Moment) (v : Value) → DocIsAt h d m v → root_reply (setting_of h d tests) v ≡ R.Root (record { 0 = id_of (block_in d) })
root_is h d tests m v x = ap (λ o. R.Root (record { 0 = option_map_or (root_id bare) o [] })) x.storable.tree ∙ ap (λ b. R.Root (record { 0 = id_of b })) (sym x.block)

pub null_is : printed D.null ≡ R.Ok null_text
unfolding json_text
null_is = refl
