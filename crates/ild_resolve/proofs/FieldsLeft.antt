-- Fields, one after the other: what was made of those before, and what is left.
use Rattle.std.proofs.Common.{◌≡◌, ◌⊎◌, ℕ, suc, ◌+◌, ◌≤◌, List, [], ◌∷◌, ◌++◌, Option, Some, None, length, length-append, refl, ap, sym, ◌∙◌, arith}
use Rattle.ild_parse_grammar.specs.declared.ast.Field.{Field as AstField}
use Rattle.ild_schema.specs.declared.def.Field.{Field}
use Rattle.ild_schema.specs.declared.row.Row.{Row}
use Rattle.ild_resolve.specs.Events.{reference_events, each_events, field_events, types_in}
use Rattle.ild_resolve.specs.Faults.{first_wrong}
use Rattle.ild_resolve.specs.Rows.{reference_rows, field, fields, field_rows}
use Rattle.ild_resolve.specs.declared.error.ResolveErr.{ResolveErr}
use Rattle.ild_resolve.specs.declared.error.ResolveErr.TheVariants as E
use Rattle.ild_resolve.proofs.Counts.{reference_count}
use Rattle.ild_resolve.proofs.PartsLeft.{PartsLeft, PartFirst, part-room, part-wrong, part-next, made-next}

pub record FieldsLeft (numbers : List ℕ → Option ℕ) (before : List Row) (all : List AstField) (rows : List Row) (made : List Field) (left : List AstField) : Type 0 where
  pub parts : PartsLeft numbers (each_events field_events 0 all) (before ++ field_rows numbers (length before) all) rows (each_events field_events (length made) left) (field_rows numbers (length rows) left)
  pub same : fields numbers (length before) all ≡ made ++ fields numbers (length rows) left

module _ (numbers : List ℕ → Option ℕ) (before : List Row) (all : List AstField) (rows : List Row) (made : List Field) (f : AstField) (left : List AstField) (h : FieldsLeft numbers before all rows made (f ∷ left)) where
  abbrev pub its : List Row
  its = reference_rows numbers (length rows) f.value

  field_first : (count n : ℕ) → count ≡ suc (length made) → n ≡ length rows + length its
      → PartFirst numbers (reference_events f.value) its (each_events field_events (length made) (f ∷ left)) (each_events field_events count left) (field_rows numbers (length rows) (f ∷ left)) (field_rows numbers n left)
  field_first count n counted size = record {
    words = ap (λ k. first_wrong numbers (reference_events f.value ++ each_events field_events k left)) (sym counted);
    types = ap (λ k. types_in (reference_events f.value ++ each_events field_events k left)) (sym counted);
    rows = ap (λ k. its ++ field_rows numbers k left) (sym size);
    count = reference_count numbers (length rows) f.value;
  }

  -- the next field has room for its inline types
  pub fields_left-room : length rows + types_in (reference_events f.value) ≤ 65543
  fields_left-room = part-room _ _ _ _ _ _ _ _ _ _ h.parts (field_first _ _ refl refl)

  pub fields_left-wrong : (e : ResolveErr) → (e ≡ E.Memory) ⊎ (first_wrong numbers (reference_events f.value) ≡ Some e) → (e ≡ E.Memory) ⊎ (first_wrong numbers (each_events field_events 0 all) ≡ Some e)
  fields_left-wrong e wrong = part-wrong _ _ _ _ _ _ _ _ _ _ h.parts (field_first _ _ refl refl) e wrong

  pub fields_left-next : (more : List Row) (added : List Field) → first_wrong numbers (reference_events f.value) ≡ None → more ≡ rows ++ its → added ≡ made ++ field numbers (length rows) f ∷ []
      → FieldsLeft numbers before all more added left
  fields_left-next more added right rows_is made_is =
      let count : length added ≡ suc (length made) = ap length made_is ∙ length-append made (field numbers (length rows) f ∷ []) ∙ omega arith in
      let size : length more ≡ length rows + length its = ap length rows_is ∙ length-append rows _ in
      record {
        parts = part-next _ _ _ _ _ _ _ _ _ _ h.parts (field_first (length added) (length more) count size) more right rows_is;
        same = made-next _ _ _ _ _ (h.same ∙ ap (λ n. made ++ field numbers (length rows) f ∷ fields numbers n left) (sym size)) made_is;
      }
