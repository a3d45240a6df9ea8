-- The look-ups of a table, and those of the table with rows behind it, at the numbers of its own types: they are the same.
use Rattle.std.proofs.Common.{◌≡◌, ℕ, zero, suc, ◌+◌, ◌<◌, List, ◌++◌, Option, Some, None, length, length-append, refl, ap, ◌∙◌, arith}
use Rattle.std.specs.Prelude.{option_map, slice_get}
use Rattle.std.specs.List.{All}
use Rattle.std.specs.Option.{option_map_or, option_and_then}
use Rattle.std.proofs.lemmas.List.Elements.{recursion_from_All}
use Rattle.ild_data.proofs.AllOf.{all_at}
use Rattle.ild_schema.specs.declared.row.Row.{Row}
use Rattle.ild_schema.specs.Copies.{target_in, followed, base, leads, NoneIsCircular}
use Rattle.ild_schema.specs.Kinds.{meant}
use Rattle.ild_schema.specs.Table.{IsWithin, def_at, name_at}
use Rattle.ild_schema.proofs.Circles.{followed_reached}
use Rattle.ild_schema.proofs.Ending.{base_ends, leads_within, target_below}
use Rattle.ild_named_type.proofs.Behind.{got_before}

-- the target of a copy is in the table
target_low : (rows : List Row) (n t : ℕ) → All (λ r. IsWithin (length rows) r.def) rows → target_in (def_at rows n) ≡ Some t → t < length rows
target_low rows n t within h = by (slice_get rows n) refl h
  where
    by : (o : Option Row) → slice_get rows n ≡ o → target_in (option_map (λ r. r.def) o) ≡ Some t → t < length rows
    by None e h = absurd (cc)
    by (Some r) e h =
        target_below (length rows) r.def t (all_at (λ r. IsWithin (length rows) r.def) rows n r (recursion_from_All (λ r. IsWithin (length rows) r.def) rows within) e) h

-- more steps lead on from no type that is no copy
pub stays_there : (rows : List Row) (j n : ℕ) → target_in (def_at rows n) ≡ None → followed rows j n ≡ n
stays_there rows zero n end = refl
stays_there rows (suc j) n end = ap (λ o. option_map_or (λ t. followed rows j t) o n) end

followed_stays : (rows : List Row) (k j n : ℕ) → target_in (def_at rows (followed rows k n)) ≡ None → followed rows (k + j) n ≡ followed rows k n
followed_stays rows zero j n end = let e : zero + j ≡ j = omega arith in ap (λ i. followed rows i n) e ∙ stays_there rows j n end
followed_stays rows (suc k) j n end =
    let e : suc k + j ≡ suc (k + j) = omega arith in
    ap (λ i. followed rows i n) e ∙ by (target_in (def_at rows n)) (λ t. followed_stays rows k j t) end
  where
    by : (o : Option ℕ) → ((t : ℕ) → target_in (def_at rows (followed rows k t)) ≡ None → followed rows (k + j) t ≡ followed rows k t)
        → target_in (def_at rows (option_map_or (λ t. followed rows k t) o n)) ≡ None → option_map_or (λ t. followed rows (k + j) t) o n ≡ option_map_or (λ t. followed rows k t) o n
    by None h end = refl
    by (Some t) h end = h t end

module _ (rows more : List Row) where
  pub def_same : (n : ℕ) → n < length rows → def_at (rows ++ more) n ≡ def_at rows n
  def_same n low = ap (λ o. option_map (λ r. r.def) o) (got_before rows more n low)

  pub name_same : (n : ℕ) → n < length rows → name_at (rows ++ more) n ≡ name_at rows n
  name_same n low = ap (λ o. option_map (λ r. r.name) o) (got_before rows more n low)

  target_same : (n : ℕ) → n < length rows → target_in (def_at (rows ++ more) n) ≡ target_in (def_at rows n)
  target_same n low = ap target_in (def_same n low)

  module _ (within : All (λ r. IsWithin (length rows) r.def) rows) where
    followed_same : (k n : ℕ) → n < length rows → followed (rows ++ more) k n ≡ followed rows k n
    followed_same zero n low = refl
    followed_same (suc k) n low =
        ap (λ o. option_map_or (λ t. followed (rows ++ more) k t) o n) (target_same n low) ∙ by (target_in (def_at rows n)) refl (λ t. followed_same k t)
      where
        by : (o : Option ℕ) → target_in (def_at rows n) ≡ o → ((t : ℕ) → t < length rows → followed (rows ++ more) k t ≡ followed rows k t)
            → option_map_or (λ t. followed (rows ++ more) k t) o n ≡ option_map_or (λ t. followed rows k t) o n
        by None e h = refl
        by (Some t) e h = h t (target_low rows n t within e)

    pub leads_before : (k n : ℕ) → n < length rows → leads (rows ++ more) k n ≡ leads rows k n
    leads_before zero n low = refl
    leads_before (suc k) n low =
        ap (λ o. option_and_then (λ t. leads (rows ++ more) k t) o) (target_same n low) ∙ by (target_in (def_at rows n)) refl (λ t. leads_before k t)
      where
        by : (o : Option ℕ) → target_in (def_at rows n) ≡ o → ((t : ℕ) → t < length rows → leads (rows ++ more) k t ≡ leads rows k t)
            → option_and_then (λ t. leads (rows ++ more) k t) o ≡ option_and_then (λ t. leads rows k t) o
        by None e h = refl
        by (Some t) e h = h t (target_low rows n t within e)

    pub base_within : (n : ℕ) → n < length rows → base rows n < length rows
    base_within n low = let way = followed_reached rows (length rows) n in leads_within rows way.0 n (base rows n) within low way.1

    module _ (none : NoneIsCircular rows) where
      pub base_same : (n : ℕ) → n < length rows → base (rows ++ more) n ≡ base rows n
      base_same n low =
          followed_same (length (rows ++ more)) n low ∙ ap (λ k. followed rows k n) (length-append rows more)
          ∙ followed_stays rows (length rows) (length more) n (base_ends rows n within low none)

      pub meant_same : (n : ℕ) → n < length rows → meant (rows ++ more) n ≡ meant rows n
      meant_same n low = ap (λ k. def_at (rows ++ more) k) (base_same n low) ∙ def_same (base rows n) (base_within n low)
