-- Where the copies of a table end.
use Rattle.std.proofs.Common.{◌≡◌, ℕ, zero, suc, ◌<◌, List, Option, Some, None, length, refl, ap, sym, ◌∙◌, subst, inl, inr, arith, lit<}
use Rattle.std.specs.List.{All, slice_get}
use Rattle.std.specs.Option.{option_and_then, option_map}
use Rattle.std.proofs.lemmas.Option.{slice_get_within, get_or_from_slice_get}
use Rattle.ild_schema.specs.declared.def.TypeDef.{TypeDef}
use Rattle.ild_schema.specs.declared.def.TypeDef.TheVariants as D
use Rattle.ild_schema.specs.declared.row.Row.{Row}
use Rattle.ild_schema.specs.Copies.{target_of, target_in, leads, NoneIsCircular, base}
use Rattle.ild_schema.specs.Table.{IsTable, IsWithin, def_at}
use Rattle.ild_schema.proofs.Circles.{circular_after, followed_or, followed_reached}

-- the target of a type of a table is in the table
pub target_below : (count : ℕ) (d : TypeDef) (t : ℕ) → IsWithin count d → target_of d ≡ Some t → t < count
target_below count (D.Copy target) t within h =
    let low : target.0 < count = within.1 0 0 (lit< tt) in
    let same : target.0 ≡ t = cc in
    omega (arith, low, same)
target_below count d t within h = absurd (cc)

target_within : (rows : List Row) (n t : ℕ) → All (λ r. IsWithin (length rows) r.def) rows → target_in (def_at rows n) ≡ Some t → t < length rows
target_within rows n t within h = by (slice_get rows n) refl h
  where
    by : (o : Option Row) → slice_get rows n ≡ o → target_in (option_map (λ r. r.def) o) ≡ Some t → t < length rows
    by None e h = absurd (cc)
    by (Some r) e h =
        let P : Row → Type 0 = λ r. IsWithin (length rows) r.def in
        target_below (length rows) r.def t (subst P (get_or_from_slice_get rows n r r e) (within n r (slice_get_within rows n r e))) h

-- what a type of a table leads to is in the table
pub leads_within : (rows : List Row) (k n m : ℕ) → All (λ r. IsWithin (length rows) r.def) rows → n < length rows → leads rows k n ≡ Some m → m < length rows
leads_within rows zero n m within here h = let same : n ≡ m = cc in omega (arith, same, here)
leads_within rows (suc k) n m within here h = by (target_in (def_at rows n)) refl (λ t. leads_within rows k t m within) h
  where
    by : (o : Option ℕ) → target_in (def_at rows n) ≡ o → ((t : ℕ) → t < length rows → leads rows k t ≡ Some m → m < length rows) → option_and_then (λ t. leads rows k t) o ≡ Some m → m < length rows
    by None e rest h = absurd (cc)
    by (Some t) e rest h = rest t (target_within rows n t within e) h

-- where no type is a copy of itself, each leads to a type that is no copy
pub base_ends : (rows : List Row) (n : ℕ) → All (λ r. IsWithin (length rows) r.def) rows → n < length rows → NoneIsCircular rows → target_in (def_at rows (base rows n)) ≡ None
base_ends rows n within here none = elim (followed_or rows (length rows) n) [
  | inl ends ↦ ends
  | inr goes ↦ absurd (none (base rows n) (circular_after rows (length rows) n (base rows n) (omega arith) (λ i v low h. leads_within rows i n v within here h) goes))
]

-- what is found for a type: the type to which it leads
pub base_reached : (rows : List Row) (n m : ℕ) → m ≡ base rows n → (k : ℕ) × (leads rows k n ≡ Some m)
base_reached rows n m e = let way = followed_reached rows (length rows) n in (way.0, way.1 ∙ ap Some (sym e))

pub base_no_copy : (rows : List Row) (n m : ℕ) → m ≡ base rows n → IsTable rows → n < length rows → NoneIsCircular rows → target_in (def_at rows m) ≡ None
base_no_copy rows n m e table here none = ap (λ k. target_in (def_at rows k)) e ∙ base_ends rows n table.within here none
