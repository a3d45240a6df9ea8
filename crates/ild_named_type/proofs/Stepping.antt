-- Steps from type to type in a table and in the table with the struct behind it: none leads from its own types to the struct, and none
-- from the struct.
use Rattle.std.proofs.Common.{◌≡◌, ℕ, zero, suc, ◌<◌, ◌≤◌, inl, inr, List, [], ◌∷◌, ◌++◌, Option, Some, None, length, refl, ap, sym, ◌∙◌, subst, arith}
use Rattle.std.specs.Prelude.{Contains, option_and_then, option_map, slice_get}
use Rattle.std.specs.List.{All, AllByRecursion}
use Rattle.std.proofs.lemmas.Bool.{cases_lt}
use Rattle.std.proofs.lemmas.List.Elements.{recursion_from_All}
use Rattle.ild_data.proofs.AllOf.{all_contained, all_at}
use Rattle.ild_schema.specs.declared.number.TypeNo.{TypeNo}
use Rattle.ild_schema.specs.declared.def.TypeDef.{TypeDef}
use Rattle.ild_schema.specs.declared.def.TypeDef.TheVariants as D
use Rattle.ild_schema.specs.declared.def.StructForm.{StructForm}
use Rattle.ild_schema.specs.declared.def.StructForm.TheVariants as S
use Rattle.ild_schema.specs.declared.def.UnionForm.{UnionForm}
use Rattle.ild_schema.specs.declared.def.UnionForm.TheVariants as U
use Rattle.ild_schema.specs.declared.def.Field.{Field}
use Rattle.ild_schema.specs.declared.def.Member.{Member}
use Rattle.ild_schema.specs.declared.row.Row.{Row}
use Rattle.ild_schema.specs.Copies.{target_in, leads, NoneIsCircular}
use Rattle.ild_schema.specs.Cycles.{struct_steps, union_steps, steps_of, steps_in, steps_at, Reaches, NoneIsCyclic}
use Rattle.ild_schema.specs.Table.{IsWithin, def_at, numbers_of}
use Rattle.ild_named_type.specs.Root.{named_rows, root_def, root_row}
use Rattle.ild_named_type.proofs.Behind.{got_behind}
use Rattle.ild_named_type.proofs.Looking.{def_same, leads_before}

-- what is said of the struct, and of no type, is said from the end of the table on
pub behind_is : {A : Type 0} (rows : List Row) (n : TypeNo) (f : Option TypeDef → A) (a : A) → f (Some (root_def n)) ≡ a → f None ≡ a → (i : ℕ) → length rows ≤ i → f (def_at (named_rows rows n) i) ≡ a
behind_is rows n f a struct none i high = elim (got_behind rows (root_row n) i high) [
  | inl there ↦ ap (λ o. f (option_map (λ r. r.def) o)) there ∙ struct
  | inr past ↦ ap (λ o. f (option_map (λ r. r.def) o)) past ∙ none
]

-- ---- copies

pub none_circular : (rows : List Row) (n : TypeNo) → All (λ r. IsWithin (length rows) r.def) rows → NoneIsCircular rows → NoneIsCircular (named_rows rows n)
none_circular rows n within none i round = elim (cases_lt i (length rows)) [
  | inl low ↦ none i (round.0, sym (leads_before rows (root_row n ∷ []) within (suc round.0) i low) ∙ round.1)
  | inr high ↦
      let ends : target_in (def_at (named_rows rows n) i) ≡ None = behind_is rows n target_in None refl refl i high in
      let wrong : None ≡ Some i = sym (ap (λ o. option_and_then (λ t. leads (named_rows rows n) round.0 t) o) ends) ∙ round.1 in
      absurd (cc)
]

-- ---- representations

union_within : (count : ℕ) (form : UnionForm) (ms : List Member) → AllByRecursion (λ n. n < count) (numbers_of (D.Union (record { members = ms; form = form }))) → AllByRecursion (λ n. n < count) (union_steps form ms)
union_within count U.Kinded ms low = low
union_within count form ms low = tt

struct_within : (count : ℕ) (form : StructForm) (fs : List Field) → AllByRecursion (λ n. n < count) (numbers_of (D.Struct (record { fields = fs; form = form }))) → AllByRecursion (λ n. n < count) (struct_steps form fs)
struct_within count (S.StringJoin join) (f ∷ []) low = (low.0, tt)
struct_within count (S.StringJoin join) (f ∷ g ∷ fs) low = tt
struct_within count (S.StringJoin join) [] low = tt
struct_within count form fs low = tt

steps_within : (count : ℕ) (d : TypeDef) → AllByRecursion (λ n. n < count) (numbers_of d) → AllByRecursion (λ n. n < count) (steps_of d)
steps_within count (D.Copy target) low = low
steps_within count (D.Union u) low = union_within count u.form u.members low
steps_within count (D.Struct s) low = struct_within count s.form s.fields low
steps_within count d low = tt

module _ (rows : List Row) (within : All (λ r. IsWithin (length rows) r.def) rows) where
  steps_low : (n : ℕ) → AllByRecursion (λ t. t < length rows) (steps_at rows n)
  steps_low n = by (slice_get rows n) refl
    where
      by : (o : Option Row) → slice_get rows n ≡ o → AllByRecursion (λ t. t < length rows) (steps_in (option_map (λ r. r.def) o))
      by None e = tt
      by (Some r) e =
          let here : IsWithin (length rows) r.def = all_at (λ r. IsWithin (length rows) r.def) rows n r (recursion_from_All (λ r. IsWithin (length rows) r.def) rows within) e in
          steps_within (length rows) r.def (recursion_from_All (λ n. n < length rows) (numbers_of r.def) here.1)

  reaches_before : (more : List Row) (k n m : ℕ) → n < length rows → Reaches (rows ++ more) k n m → Reaches rows k n m
  reaches_before more zero n m low way = way
  reaches_before more (suc k) n m low way =
      let next : Contains (steps_at rows n) way.0 = subst (λ o. Contains (steps_in o) way.0) (def_same rows more n low) way.1 in
      let there : way.0 < length rows = all_contained (λ t. t < length rows) (steps_at rows n) way.0 (steps_low n) next in
      (way.0, next, reaches_before more k way.0 m there way.2)

  pub none_cyclic : (n : TypeNo) → NoneIsCyclic rows → NoneIsCyclic (named_rows rows n)
  none_cyclic n none i round = elim (cases_lt i (length rows)) [
    | inl low ↦ none i (round.0, reaches_before (root_row n ∷ []) (suc round.0) i i low round.1)
    | inr high ↦
        let none : steps_at (named_rows rows n) i ≡ [] = behind_is rows n steps_in [] refl refl i high in
        let there : Contains [] round.1.0 = subst (λ ts. Contains ts round.1.0) none round.1.1 in
        let less = there.1 in
        absurd (omega (arith, less))
  ]
