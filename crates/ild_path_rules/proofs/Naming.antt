-- The first part with a name, by its number.
use Rattle.std.proofs.Common.{◌≡◌, ◌+◌, ◌<◌, ◌≤◌, ℕ, zero, suc, length, get_or, List, [], ◌∷◌, Bool, true, false, cond, Option, Some, None, option_map, refl, ◌∙◌, ap, arith}
use Rattle.std.specs.Prelude.{bytes_eq, option_and_then, slice_get}
use Rattle.std.specs.List.{find, position_from}
use Rattle.ild_path_rules.specs.Form.{field_named, member_called}
use Rattle.ild_schema.specs.Parts.{part_named}
use Rattle.ild_schema.specs.declared.def.StructDef.{StructDef}
use Rattle.ild_schema.specs.declared.def.TypeDef.{TypeDef}
use Rattle.ild_schema.specs.declared.def.TypeDef.TheVariants as D
use Rattle.ild_schema.specs.declared.def.UnionDef.{UnionDef}

-- ---- a part at its place

pub at_place : {X : Type 0} (xs : List X) (n : ℕ) (x : X) → n < length xs → x ≡ get_or xs n x → Some x ≡ slice_get xs n
at_place [] n x less is = absurd (omega (arith, less))
at_place (y ∷ ys) zero x less is = ap Some is
at_place (y ∷ ys) (suc n) x less is = at_place ys n x (omega (arith, less)) is

pub past_all : {X : Type 0} (xs : List X) (n : ℕ) → length xs ≤ n → None ≡ slice_get xs n
past_all [] n past = refl
past_all (y ∷ ys) zero past = absurd (omega (arith, past))
past_all (y ∷ ys) (suc n) past = past_all ys n (omega (arith, past))

-- ---- the first with a name

module _ {X : Type 0} (p : X → Bool) where
  shifted : (i : ℕ) (xs : List X) → position_from p (i + 1) xs ≡ option_map suc (position_from p i xs)
  shifted i [] = refl
  shifted i (x ∷ xs) = by (p x) (shifted (i + 1) xs) where
    by : (b : Bool) → position_from p (i + 1 + 1) xs ≡ option_map suc (position_from p (i + 1) xs) → cond b (Some (i + 1)) (position_from p (i + 1 + 1) xs) ≡ option_map suc (cond b (Some i) (position_from p (i + 1) xs))
    by true h = let one : i + 1 ≡ suc i = omega arith in ap Some one
    by false h = h

  behind : (x : X) (xs : List X) (o : Option ℕ) → option_and_then (slice_get (x ∷ xs)) (option_map suc o) ≡ option_and_then (slice_get xs) o
  behind x xs None = refl
  behind x xs (Some n) = refl

  pub found_first : (xs : List X) → option_and_then (slice_get xs) (position_from p 0 xs) ≡ find p xs
  found_first [] = refl
  found_first (x ∷ xs) = by (p x) (found_first xs) where
    by : (b : Bool) → option_and_then (slice_get xs) (position_from p 0 xs) ≡ find p xs → option_and_then (slice_get (x ∷ xs)) (cond b (Some 0) (position_from p 1 xs)) ≡ cond b (Some x) (find p xs)
    by true h = refl
    by false h = ap (option_and_then (slice_get (x ∷ xs))) (shifted 0 xs) ∙ behind x xs (position_from p 0 xs) ∙ h

module _ (name : List ℕ) (d : Option TypeDef) (n : Option ℕ) (numbered : n ≡ option_and_then (part_named name) d) where
  pub field_found : (def : StructDef) → d ≡ Some (D.Struct def) → option_and_then (slice_get def.fields) n ≡ field_named name def.fields
  field_found def is = ap (option_and_then (slice_get def.fields)) (numbered ∙ ap (option_and_then (part_named name)) is) ∙ found_first (λ f. bytes_eq name f.name) def.fields

  pub member_found : (def : UnionDef) → d ≡ Some (D.Union def) → option_and_then (slice_get def.members) n ≡ member_called name def.members
  member_found def is = ap (option_and_then (slice_get def.members)) (numbered ∙ ap (option_and_then (part_named name)) is) ∙ found_first (λ m. bytes_eq name m.name) def.members
