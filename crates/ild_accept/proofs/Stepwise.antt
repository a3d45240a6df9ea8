-- The steps of the types of a table.
use Rattle.std.proofs.Common.{◌≡◌, ℕ, zero, suc, ◌<◌, ◌≤◌, List, [], ◌∷◌, Some, None, length, refl, sym, ap, ◌∙◌, subst, arith, inl, inr}
use Rattle.std.specs.Prelude.{map}
use Rattle.std.specs.List.{All, Contains, slice_get}
use Rattle.std.specs.Option.{option_map}
use Rattle.std.proofs.lemmas.Bool.{cases_lt}
use Rattle.ild_schema.specs.declared.def.TypeDef.{TypeDef}
use Rattle.ild_schema.specs.declared.def.TypeDef.TheVariants as D
use Rattle.ild_schema.specs.declared.def.StructForm.{StructForm}
use Rattle.ild_schema.specs.declared.def.StructForm.TheVariants as S
use Rattle.ild_schema.specs.declared.def.UnionForm.{UnionForm}
use Rattle.ild_schema.specs.declared.def.UnionForm.TheVariants as U
use Rattle.ild_schema.specs.declared.def.Field.{Field}
use Rattle.ild_schema.specs.declared.def.Member.{Member}
use Rattle.ild_schema.specs.declared.row.Row.{Row}
use Rattle.ild_schema.specs.Cycles.{struct_steps, union_steps, steps_of, steps_in, steps_at, Reaches, IsCyclic}
use Rattle.ild_schema.specs.Table.{IsWithin, def_at}

none_within : (count : ℕ) → All (λ n. n < count) []
none_within count k d h = absurd (omega arith)

struct_within : (count : ℕ) (form : StructForm) (fs : List Field) → All (λ n. n < count) (map (λ f. f.slot.ty.0) fs) → All (λ n. n < count) (struct_steps form fs)
struct_within count (S.StringJoin join) (f ∷ []) h = h
struct_within count form fs h = none_within count

union_within : (count : ℕ) (form : UnionForm) (ms : List Member) → All (λ n. n < count) (map (λ m. m.ty.0) ms) → All (λ n. n < count) (union_steps form ms)
union_within count U.Kinded ms h = h
union_within count form ms h = none_within count

pub steps_within : (count : ℕ) (def : TypeDef) → IsWithin count def → All (λ n. n < count) (steps_of def)
steps_within count (D.Copy target) h = h.1
steps_within count (D.Union u) h = union_within count u.form u.members h.1
steps_within count (D.Struct s) h = struct_within count s.form s.fields h.1
steps_within count def h = none_within count

pub steps_found : (rows : List Row) (n : ℕ) (def : TypeDef) (steps : List ℕ) → def_at rows n ≡ Some def → steps ≡ steps_of def → steps ≡ steps_at rows n
steps_found rows n def steps d e = e ∙ ap steps_in (sym d)

past : {A : Type 0} (xs : List A) (n : ℕ) → length xs ≤ n → slice_get xs n ≡ None
past [] n h = refl
past (x ∷ xs) zero h = absurd (omega arith)
past (x ∷ xs) (suc n) h = past xs n (omega arith)

pub steps_past : (rows : List Row) (n : ℕ) → length rows ≤ n → steps_at rows n ≡ []
steps_past rows n h = ap (λ o. steps_in (option_map (λ r. r.def) o)) (past rows n h)

-- a type with a step is in the table
pub cyclic_within : (rows : List Row) (n : ℕ) → IsCyclic rows n → n < length rows
cyclic_within rows n h = elim (cases_lt n (length rows)) [
  | inl within ↦ within
  | inr beyond ↦
      let none : Contains [] h.1.0 = let P : List ℕ → Type 0 = λ xs. Contains xs h.1.0 in subst P (steps_past rows n beyond) h.1.1 in
      absurd (omega (arith, none.1))
]

-- one step more
pub reach_more : (rows : List Row) (k a b t : ℕ) → Reaches rows k a b → Contains (steps_at rows b) t → Reaches rows (suc k) a t
reach_more rows zero a b t r c = let P : ℕ → Type 0 = λ n. Contains (steps_at rows n) t in (t, subst P (sym r) c, refl)
reach_more rows (suc k) a b t r c = (r.0, r.1, reach_more rows k r.0 b t r.2 c)
