-- What a table of a schema and the longer one say: of String, of Link, and alike of the schema's own types.
use Rattle.std.proofs.Common.{◌≡◌, ℕ, zero, suc, ◌<◌, ◌≤◌, List, [], ◌∷◌, Some, None, length, take, refl, ap, sym, ◌∙◌, subst, arith}
use Rattle.std.specs.Prelude.{option_map, slice_get}
use Rattle.std.proofs.lemmas.List.{length-take}
use Rattle.std.proofs.lemmas.List.Elements.{recursion_from_All}
use Rattle.ild_data.proofs.AllOf.{all_at}
use Rattle.ild_data.proofs.Options.{map_some}
use Rattle.ild_schema.specs.declared.number.TypeNo.{TypeNo}
use Rattle.ild_schema.specs.declared.def.TypeDef.{TypeDef}
use Rattle.ild_schema.specs.declared.def.TypeDef.TheVariants as D
use Rattle.ild_schema.specs.declared.row.Row.{Row}
use Rattle.ild_schema.specs.Copies.{base, target_in}
use Rattle.ild_schema.specs.Kinds.{meant}
use Rattle.ild_schema.specs.Prelude.{number, prelude}
use Rattle.ild_schema.specs.Table.{IsTable, IsWithin, def_at}
use Rattle.ild_named_type.specs.Root.{named_rows, root_row}
use Rattle.ild_named_type.proofs.Looking.{meant_same, stays_there}
use Rattle.ild_named_law.proofs.Alike.{AreAlike}

taken_at : {X : Type 0} (k i : ℕ) (xs : List X) → i < k → slice_get (take k xs) i ≡ slice_get xs i
taken_at zero i xs low = absurd (omega (arith, low))
taken_at (suc k) zero [] low = refl
taken_at (suc k) (suc i) [] low = refl
taken_at (suc k) zero (x ∷ xs) low = refl
taken_at (suc k) (suc i) (x ∷ xs) low = taken_at k i xs (omega (arith, low))

module _ (rows : List Row) (table : IsTable rows) where
  prelude_def : (i : ℕ) → i < 8 → def_at rows i ≡ def_at prelude i
  prelude_def i low = ap (λ o. option_map (λ r. r.def) o) (sym (taken_at 8 i rows low) ∙ ap (λ rs. slice_get rs i) table.prelude_first)

  prelude_meant : (i : ℕ) (d : TypeDef) → i < 8 → def_at prelude i ≡ Some d → target_in (Some d) ≡ None → meant rows i ≡ Some d
  prelude_meant i d low e end =
      let here : def_at rows i ≡ Some d = prelude_def i low ∙ e in
      let same : base rows i ≡ i = stays_there rows (length rows) i (ap target_in here ∙ end) in
      ap (λ k. def_at rows k) same ∙ here

  pub text_meant : meant rows 7 ≡ Some D.Text
  text_meant = prelude_meant 7 D.Text (omega arith) refl refl

  pub link_meant : meant rows 4 ≡ Some (D.Link (number 0))
  link_meant = prelude_meant 4 (D.Link (number 0)) (omega arith) refl refl

  pub eight_there : 8 ≤ length rows
  eight_there = let eight : length (take 8 rows) ≡ 8 = ap length table.prelude_first in omega (arith, length-take 8 rows, eight)

  def_within : (k : ℕ) (d : TypeDef) → def_at rows k ≡ Some d → IsWithin (length rows) d
  def_within k d e =
      let r = map_some (λ (r : Row). r.def) (slice_get rows k) d e in
      subst (IsWithin (length rows)) r.2 (all_at (λ r. IsWithin (length rows) r.def) rows k r.0 (recursion_from_All (λ r. IsWithin (length rows) r.def) rows table.within) r.1)

  pub alike_longer : (n : TypeNo) → AreAlike (length rows) (named_rows rows n) rows
  alike_longer n = record {
    same = meant_same rows (root_row n ∷ []) table.within table.none_circular;
    within = λ i d low e. def_within (base rows i) d e;
  }
