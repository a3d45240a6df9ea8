-- The list of the kinds of all types.
use Rattle.std.proofs.Common.{◌≡◌, ℕ, ◌+◌, List, [], ◌∷◌, ◌++◌, Option, Some, None, take, map, refl, ap, ◌∙◌}
use Rattle.std.specs.List.{slice_get}
use Rattle.std.specs.Option.{option_map}
use Rattle.std.proofs.lemmas.List.{map_more}
use Rattle.std.proofs.lemmas.Option.{get_or_from_slice_get, slice_get_within}
use Rattle.ild_schema.specs.declared.def.TypeDef.{TypeDef}
use Rattle.ild_schema.specs.declared.row.Row.{Row}
use Rattle.ild_schema.specs.Kinds.{def_kinds}
use Rattle.ild_schema.specs.Table.{def_at}

-- the kinds of one type more
pub kinds_more : (rows : List Row) (n : ℕ) (def : TypeDef) → def_at rows n ≡ Some def
    → map (λ r. def_kinds r.def) (take (n + 1) rows) ≡ map (λ r. def_kinds r.def) (take n rows) ++ def_kinds def ∷ []
kinds_more rows n def d = by (slice_get rows n) refl d
  where
    by : (o : Option Row) → slice_get rows n ≡ o → option_map (λ r. r.def) o ≡ Some def
        → map (λ r. def_kinds r.def) (take (n + 1) rows) ≡ map (λ r. def_kinds r.def) (take n rows) ++ def_kinds def ∷ []
    by None e d = absurd cc
    by (Some r) e d =
        let same : r.def ≡ def = cc in
        map_more (λ r. def_kinds r.def) rows n r (slice_get_within rows n r e)
        ∙ ap (λ (s : Row). map (λ r. def_kinds r.def) (take n rows) ++ def_kinds s.def ∷ []) (get_or_from_slice_get rows n r r e)
        ∙ ap (λ d. map (λ r. def_kinds r.def) (take n rows) ++ def_kinds d ∷ []) same
