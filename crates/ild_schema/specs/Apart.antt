-- What acceptance says of the names by which a value's parts are shown: no two fields, and no two members, have one name.
use Rattle.std.specs.Prelude.{◌≡◌, ℕ, List, Some, slice_get}
use Rattle.ild_schema.specs.declared.def.TypeDef.{TypeDef}
use Rattle.ild_schema.specs.declared.def.TypeDef.TheVariants as D
use Rattle.ild_schema.specs.declared.row.Row.{Row}
use Rattle.ild_schema.specs.Table.{def_at}

-- each stands at one place by its name
abbrev pub AreApart : {A : Type 0} → (A → List ℕ) → List A → Type 0
AreApart {A} name xs = (i j : ℕ) (a b : A) → slice_get xs i ≡ Some a → slice_get xs j ≡ Some b → name a ≡ name b → i ≡ j

abbrev pub ApartType : TypeDef → Type 0
ApartType (D.Struct s) = AreApart (λ f. f.name) s.fields
ApartType (D.Union u) = AreApart (λ m. m.name) u.members
ApartType (D.Enum e) = AreApart (λ m. m.name) e.members
ApartType d = Unit {0}

abbrev pub AreNamedApart : List Row → Type 0
AreNamedApart rows = (n : ℕ) (d : TypeDef) → def_at rows n ≡ Some d → ApartType d
