-- What is a copy, and what is none.
use Rattle.std.proofs.Common.{◌≡◌, ℕ, zero, suc, ◌<◌, List, None, refl, ap, subst, lit<}
use Rattle.std.specs.Option.{option_map_or}
use Rattle.ild_schema.specs.declared.number.TypeNo.{TypeNo}
use Rattle.ild_schema.specs.declared.def.TypeDef.{TypeDef}
use Rattle.ild_schema.specs.declared.def.TypeDef.TheVariants as D
use Rattle.ild_schema.specs.declared.row.Row.{Row}
use Rattle.ild_schema.specs.Copies.{target_of, target_in, followed}
use Rattle.ild_schema.specs.Table.{IsWithin, def_at}

pub followed_ends : (rows : List Row) (k n : ℕ) → target_in (def_at rows n) ≡ None → followed rows k n ≡ n
followed_ends rows zero n h = refl
followed_ends rows (suc k) n h = ap (λ o. option_map_or (λ t. followed rows k t) o n) h

pub not_copy : (d : TypeDef) → ((target : TypeNo) → d ≡ D.Copy target → ⊥) → target_of d ≡ None
not_copy (D.Copy target) h = absurd (h target refl)
not_copy d h = refl

pub copy_within : (count : ℕ) (d : TypeDef) (target : TypeNo) → IsWithin count d → d ≡ D.Copy target → target.0 < count
copy_within count d target h e = let P : TypeDef → Type 0 = λ d. IsWithin count d in (subst P e h).1 0 0 (lit< tt)
