-- The slots of parts are in the table.
use Rattle.std.proofs.Common.{◌≡◌, ℕ, zero, suc, ◌<◌, List, [], ◌∷◌, map, Some, slice_get, subst, arith}
use Rattle.std.specs.List.{All}
use Rattle.std.proofs.lemmas.Option.{same_Some, none-some}
use Rattle.ild_schema.specs.declared.def.TypeDef.TheVariants as D
use Rattle.ild_schema.specs.declared.def.StructDef.{StructDef}
use Rattle.ild_schema.specs.declared.def.UnionDef.{UnionDef}
use Rattle.ild_schema.specs.declared.def.Field.{Field}
use Rattle.ild_schema.specs.declared.def.Member.{Member}
use Rattle.ild_schema.specs.Table.{IsWithin}

-- the number of one of many parts
number_low : {A : Type 0} (f : A → ℕ) (count : ℕ) (xs : List A) → All (λ n. n < count) (map f xs) → (i : ℕ) (x : A) → slice_get xs i ≡ Some x → f x < count
number_low f count [] all i x e = absurd (none-some x e)
number_low f count (y ∷ xs) all zero x e = subst (λ z. f z < count) (same_Some y x e) (all 0 0 (omega arith))
number_low f count (y ∷ xs) all (suc i) x e = number_low f count xs (λ k d h. all (suc k) d (omega (arith, h))) i x e

pub field_low : (count : ℕ) (s : StructDef) (i : ℕ) (f : Field) → slice_get s.fields i ≡ Some f → IsWithin count (D.Struct s) → f.slot.ty.0 < count
field_low count s i f e within = number_low (λ (g : Field). g.slot.ty.0) count s.fields within.1 i f e

pub member_low : (count : ℕ) (u : UnionDef) (i : ℕ) (m : Member) → slice_get u.members i ≡ Some m → IsWithin count (D.Union u) → m.ty.0 < count
member_low count u i m e within = number_low (λ (n : Member). n.ty.0) count u.members within.1 i m e
