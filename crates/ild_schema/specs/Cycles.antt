-- Types that are represented as themselves.
use Rattle.std.specs.Prelude.{◌≡◌, ℕ, zero, suc, ◌<◌, List, [], ◌∷◌, Option, Some, None, map, Contains}
use Rattle.ild_schema.specs.declared.def.TypeDef.{TypeDef}
use Rattle.ild_schema.specs.declared.def.TypeDef.TheVariants as D
use Rattle.ild_schema.specs.declared.def.StructForm.{StructForm}
use Rattle.ild_schema.specs.declared.def.StructForm.TheVariants as S
use Rattle.ild_schema.specs.declared.def.UnionForm.{UnionForm}
use Rattle.ild_schema.specs.declared.def.UnionForm.TheVariants as U
use Rattle.ild_schema.specs.declared.def.Field.{Field}
use Rattle.ild_schema.specs.declared.def.Member.{Member}
use Rattle.ild_schema.specs.declared.row.Row.{Row}
use Rattle.ild_schema.specs.Table.{def_at}

-- the type of the one field of a join
abbrev pub struct_steps : StructForm → List Field → List ℕ
struct_steps (S.StringJoin join) (f ∷ []) = f.slot.ty.0 ∷ []
struct_steps form fs = []

abbrev pub union_steps : UnionForm → List Member → List ℕ
union_steps U.Kinded ms = map (λ m. m.ty.0) ms
union_steps form ms = []

-- the types as one of which alone a type may be represented
abbrev pub steps_of : TypeDef → List ℕ
steps_of (D.Copy target) = target.0 ∷ []
steps_of (D.Union u) = union_steps u.form u.members
steps_of (D.Struct s) = struct_steps s.form s.fields
steps_of def = []

abbrev pub steps_in : Option TypeDef → List ℕ
steps_in None = []
steps_in (Some def) = steps_of def

abbrev pub steps_at : List Row → ℕ → List ℕ
steps_at rows n = steps_in (def_at rows n)

-- so many steps lead from a type to another
abbrev pub Reaches : List Row → ℕ → ℕ → ℕ → Type 0
Reaches rows zero n m = n ≡ m
Reaches rows (suc k) n m = (t : ℕ) × Contains (steps_at rows n) t × Reaches rows k t m

-- a type that reaches itself by one step or more
abbrev pub IsCyclic : List Row → ℕ → Type 0
IsCyclic rows n = (k : ℕ) × Reaches rows (suc k) n n

abbrev pub NoneIsCyclic : List Row → Type 0
NoneIsCyclic rows = (n : ℕ) → IsCyclic rows n → ⊥

abbrev pub FirstIsCyclic : List Row → ℕ → Type 0
FirstIsCyclic rows n = IsCyclic rows n × ((m : ℕ) → m < n → IsCyclic rows m → ⊥)
