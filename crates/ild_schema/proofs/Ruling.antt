-- The rules, none of which fails for a type of an accepted table.
use Rattle.std.proofs.Common.{◌≡◌, ℕ, zero, suc, List, [], ◌∷◌, Option, Some, None, refl, sym, ap, ◌∙◌}
use Rattle.std.specs.List.{slice_get}
use Rattle.std.specs.Option.{option_map}
use Rattle.ild_data.proofs.Options.{map_none}
use Rattle.ild_schema.specs.declared.def.TypeDef.{TypeDef}
use Rattle.ild_schema.specs.declared.row.Row.{Row}
use Rattle.ild_schema.specs.declared.rule.Rule.{Rule}
use Rattle.ild_schema.specs.declared.rule.Rule.TheVariants as R
use Rattle.ild_schema.specs.Accept.{fails_at, type_fault, first_failing}
use Rattle.ild_schema.specs.Clashes.{name_fault}
use Rattle.ild_schema.specs.Delimiters.{delim_fault}
use Rattle.ild_schema.specs.Prefixes.{prefix_fault}
use Rattle.ild_schema.specs.Rules.{null_fault, kind_fault, text_fault, optional_fault, implicit_fault, inline_fault, key_fault, strategy_fault}
use Rattle.ild_schema.specs.Table.{def_at}
use Rattle.ild_schema.proofs.Passing.{first_none, next_none}

-- no rule fails for a type at a place
pub record Passes (rows : List Row) (at : ℕ) (d : TypeDef) : Type 0 where
  pub null : null_fault rows d ≡ None
  pub kind : kind_fault rows d ≡ None
  pub prefix : prefix_fault d ≡ None
  pub delim : delim_fault at d ≡ None
  pub text : text_fault rows d ≡ None
  pub optional : optional_fault d ≡ None
  pub implicit : implicit_fault rows d ≡ None
  pub name : name_fault rows at d ≡ None
  pub inline : inline_fault rows d ≡ None
  pub key : key_fault rows d ≡ None
  pub strategy : strategy_fault at d ≡ None

untold : (rule : Rule) (place : Option ℕ) → fails_at rule place ≡ None → place ≡ None
untold rule place h = map_none (λ at. (rule, at)) place h

type_passes : (rows : List Row) (at : ℕ) (d : TypeDef) → type_fault rows at d ≡ None → Passes rows at d
type_passes rows at d h =
    let h1 = next_none (fails_at R.NullClash (null_fault rows d)) _ h in
    let h2 = next_none (fails_at R.KindClash (kind_fault rows d)) _ h1 in
    let h3 = next_none (fails_at R.PrefixClash (prefix_fault d)) _ h2 in
    let h4 = next_none (fails_at R.Delim (delim_fault at d)) _ h3 in
    let h5 = next_none (fails_at R.NotText (text_fault rows d)) _ h4 in
    let h6 = next_none (fails_at R.OptionalPlace (optional_fault d)) _ h5 in
    let h7 = next_none (fails_at R.Implicit (implicit_fault rows d)) _ h6 in
    let h8 = next_none (fails_at R.NameClash (name_fault rows at d)) _ h7 in
    let h9 = next_none (fails_at R.InlineMember (inline_fault rows d)) _ h8 in
    let h10 = next_none (fails_at R.MapKey (key_fault rows d)) (fails_at R.Strategy (strategy_fault at d)) h9 in
    record {
      null = untold R.NullClash (null_fault rows d) (first_none (fails_at R.NullClash (null_fault rows d)) _ h);
      kind = untold R.KindClash (kind_fault rows d) (first_none (fails_at R.KindClash (kind_fault rows d)) _ h1);
      prefix = untold R.PrefixClash (prefix_fault d) (first_none (fails_at R.PrefixClash (prefix_fault d)) _ h2);
      delim = untold R.Delim (delim_fault at d) (first_none (fails_at R.Delim (delim_fault at d)) _ h3);
      text = untold R.NotText (text_fault rows d) (first_none (fails_at R.NotText (text_fault rows d)) _ h4);
      optional = untold R.OptionalPlace (optional_fault d) (first_none (fails_at R.OptionalPlace (optional_fault d)) _ h5);
      implicit = untold R.Implicit (implicit_fault rows d) (first_none (fails_at R.Implicit (implicit_fault rows d)) _ h6);
      name = untold R.NameClash (name_fault rows at d) (first_none (fails_at R.NameClash (name_fault rows at d)) _ h7);
      inline = untold R.InlineMember (inline_fault rows d) (first_none (fails_at R.InlineMember (inline_fault rows d)) _ h8);
      key = untold R.MapKey (key_fault rows d) (first_none (fails_at R.MapKey (key_fault rows d)) _ h9);
      strategy = untold R.Strategy (strategy_fault at d) h10;
    }

row_passes : (rows : List Row) (n : ℕ) (rs : List Row) → first_failing rows n rs ≡ None → (i : ℕ) (r : Row) → slice_get rs i ≡ Some r → type_fault rows r.at r.def ≡ None
row_passes rows n [] h i r e = absurd cc
row_passes rows n (x ∷ rs) h zero r e =
    let same : x ≡ r = cc in
    ap (λ y. type_fault rows y.at y.def) (sym same)
    ∙ map_none (λ f. record { rule = f.0; ty = n; at = f.1 }) (type_fault rows x.at x.def) (first_none (option_map (λ f. record { rule = f.0; ty = n; at = f.1 }) (type_fault rows x.at x.def)) (first_failing rows (suc n) rs) h)
row_passes rows n (x ∷ rs) h (suc i) r e =
    row_passes rows (suc n) rs (next_none (option_map (λ f. record { rule = f.0; ty = n; at = f.1 }) (type_fault rows x.at x.def)) (first_failing rows (suc n) rs) h) i r e

-- each type of a table for which none is told
pub def_passes : (rows : List Row) → first_failing rows 0 rows ≡ None → (n : ℕ) (d : TypeDef) → def_at rows n ≡ Some d → (at : ℕ) × Passes rows at d
def_passes rows h n d e = by (slice_get rows n) refl e
  where
    by : (o : Option Row) → slice_get rows n ≡ o → option_map (λ r. r.def) o ≡ Some d → (at : ℕ) × Passes rows at d
    by None s e = absurd cc
    by (Some r) s e =
        let same : r.def ≡ d = cc in
        (r.at, type_passes rows r.at d (ap (type_fault rows r.at) (sym same) ∙ row_passes rows 0 rows h n r s))
