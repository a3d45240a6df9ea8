-- The names of layouts.
use Rattle.std.proofs.Common.{◌≡◌, ℕ, ◌≤◌, ◌<◌, ◌^◌, ◌&&◌, Bool, true, false, cond, Option, Some, None, refl, sym, ◌∙◌, ap, arith}
use Rattle.std.specs.Prelude.{nat_le, nat_lt, option_and_then, MatchOption, if◌then◌else◌}
use Rattle.std.proofs.lemmas.Bool.{and_from, le-leb, le-ltb, lt-ltb, ltb-false}
use Rattle.std.proofs.lemmas.Option.{same_Some, none-some}
use Rattle.ild_data.specs.declared.hamt_shape.HamtShape.{HamtShape}
use Rattle.ild_data.specs.TrieShape.{is_shape}
use Rattle.ild_data.proofs.HamtShapes.{same-shape}
use Rattle.ild_resolve.specs.Layouts.{shape_if, shape_at}

-- a number of 64 bits that is told of digits, below 100 or not, and none
pub told-small : (o : Option ℕ) (n : ℕ) → Some n ≡ option_and_then (λ n. if nat_lt n (2 ^ 64) then Some n else None) o → n < 100 → Some n ≡ option_and_then (λ n. if nat_lt n 100 then Some n else None) o
told-small None n e small = absurd (none-some n (sym e))
told-small (Some m) n e small = by (nat_lt m (2 ^ 64)) e where
  by : (b : Bool) → Some n ≡ cond b (Some m) None → Some n ≡ cond (nat_lt m 100) (Some m) None
  by true h = let same : n ≡ m = same_Some n m h in rw (lt-ltb m 100 (omega (arith, small, same))) h
  by false h = absurd (none-some n (sym h))

pub told-large : (o : Option ℕ) (n : ℕ) → Some n ≡ option_and_then (λ n. if nat_lt n (2 ^ 64) then Some n else None) o → 100 ≤ n → None ≡ option_and_then (λ n. if nat_lt n 100 then Some n else None) o
told-large None n e large = refl
told-large (Some m) n e large = by (nat_lt m (2 ^ 64)) e where
  by : (b : Bool) → Some n ≡ cond b (Some m) None → None ≡ cond (nat_lt m 100) (Some m) None
  by true h = let same : n ≡ m = same_Some n m h in rw (le-ltb m 100 (omega (arith, large, same))) refl
  by false h = absurd (none-some n (sym h))

pub told-none : (o : Option ℕ) → None ≡ option_and_then (λ n. if nat_lt n (2 ^ 64) then Some n else None) o → None ≡ option_and_then (λ n. if nat_lt n 100 then Some n else None) o
told-none None e = refl
told-none (Some m) e = by (nat_lt m (2 ^ 64)) refl e where
  by : (b : Bool) → nat_lt m (2 ^ 64) ≡ b → None ≡ cond b (Some m) None → None ≡ cond (nat_lt m 100) (Some m) None
  by true is h = absurd (none-some m h)
  by false is h = let large : 2 ^ 64 ≤ m = ltb-false m (2 ^ 64) is in rw (le-ltb m 100 (omega (arith, large))) refl

-- a shape of these numbers is the one, and there is none where they are no shape's
shape-none : (width bucket : ℕ) (b : Bool) (is : is_shape width bucket ≡ b) → is_shape width bucket ≡ false → shape_if width bucket b is ≡ None
shape-none width bucket false is h = refl
shape-none width bucket true is h = let no : true ≡ false = sym is ∙ h in absurd cc

shape-some : (p : HamtShape) (width bucket : ℕ) (b : Bool) (is : is_shape width bucket ≡ b) → is_shape width bucket ≡ true → p.width ≡ width → p.bucket ≡ bucket → Some p ≡ shape_if width bucket b is
shape-some p width bucket false is h w s = let no : true ≡ false = sym h ∙ is in absurd cc
shape-some p width bucket true is h w s = ap Some (same-shape p _ w s)

is-shape : (p : HamtShape) → is_shape p.width p.bucket ≡ true
is-shape p =
    and_from (nat_le 3 p.width && nat_le p.width 8) (nat_le 1 p.bucket && nat_le p.bucket 16)
    (and_from (nat_le 3 p.width) (nat_le p.width 8) (le-leb 3 p.width p.wide) (le-leb p.width 8 p.narrow))
    (and_from (nat_le 1 p.bucket) (nat_le p.bucket 16) (le-leb 1 p.bucket p.filled) (le-leb p.bucket 16 p.small))

pub shape-made : (width bucket : ℕ) (r : Option HamtShape) → MatchOption r (is_shape width bucket ≡ false) (λ p. (p.width ≡ width) × (p.bucket ≡ bucket)) → r ≡ shape_at width bucket
shape-made width bucket None h = sym (shape-none width bucket (is_shape width bucket) refl h)
shape-made width bucket (Some p) h =
    shape-some p width bucket (is_shape width bucket) refl (sym (ap (λ w. is_shape w p.bucket) h.0 ∙ ap (λ b. is_shape width b) h.1) ∙ is-shape p) h.0 h.1

-- no bucket takes so many as 100
pub below_hundred : (width : ℕ) (o r : Option ℕ) (n : ℕ) → r ≡ option_and_then (λ n. if nat_lt n 100 then Some n else None) o → r ≡ Some n → shape_at width n ≡ option_and_then (shape_at width) o
below_hundred width None r n e is = absurd (none-some n (sym e ∙ is))
below_hundred width (Some m) r n e is = by (nat_lt m 100) (sym e ∙ is) where
  by : (b : Bool) → cond b (Some m) None ≡ Some n → shape_at width n ≡ shape_at width m
  by true h = ap (shape_at width) (sym (same_Some m n h))
  by false h = absurd (none-some n h)
