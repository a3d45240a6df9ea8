-- What a turn of a loop over the fields of a struct meets.
use Rattle.std.proofs.Common.{◌≡◌, ◌⊎◌, inl, inr, ⊎_elim, ℕ, zero, suc, ◌+◌, ◌≤◌, List, [], ◌∷◌, length, drop, Bool, true, false, cond, Option, Some, None, slice_get, refl, sym, ap, ◌∙◌, add-one}
use Rattle.std.specs.Prelude.{option_and_then}
use Rattle.std.specs.Option.{unwrap_or}
use Rattle.std.proofs.lemmas.Option.{none-some}
use Rattle.ild_data.proofs.Gets.{drop_at, drop_past}
use Rattle.ild_schema.specs.declared.def.Field.{Field}
use Rattle.ild_schema.specs.Value.{Value}
use Rattle.ild_build.specs.LeftOut.{is_left_out}
use Rattle.ild_build.specs.PartAt.{field_at}
use Rattle.ild_build.proofs.Turns.{value_got}
use Rattle.ild_build_leaf.specs.Kept.{count_present, count_written, kept_at}

pub some_next : (os : List (Option Value)) (i : ℕ) (v : Value) → field_at os i ≡ Some v → drop i os ≡ Some v ∷ drop (i + 1) os
some_next os i v e = drop_at os i (Some v) (value_got os i v e)

-- no value, or past the last
none_from : (os : List (Option Value)) (i : ℕ) → field_at os i ≡ None → (drop i os ≡ None ∷ drop (suc i) os) ⊎ ((drop i os ≡ []) × (drop (suc i) os ≡ []))
none_from [] zero e = inr (refl, refl)
none_from [] (suc i) e = inr (refl, refl)
none_from (None ∷ os) zero e = inl refl
none_from (Some v ∷ os) zero e = absurd (none-some v (sym e))
none_from (o ∷ os) (suc i) e = none_from os i e

-- ---- a value that is kept

unless : (b : Bool) (v : Value) → cond b None (Some v) ≡ None → b ≡ true
unless true v e = refl
unless false v e = absurd (none-some v (sym e))

only : (b : Bool) (v w : Value) → cond b None (Some v) ≡ Some w → (v ≡ w) × (b ≡ false)
only true v w e = absurd (none-some w e)
only false v w e = (ap (λ o. unwrap_or o v) e, refl)

-- it is there, and not left out
pub record IsKept (f : Field) (os : List (Option Value)) (i : ℕ) (v : Value) : Type 0 where
  pub there : field_at os i ≡ Some v
  pub stays : is_left_out f.implicit v ≡ false

pub kept_is : (f : Field) (os : List (Option Value)) (i : ℕ) (v : Value) → kept_at f os i ≡ Some v → IsKept f os i v
kept_is f os i v e = by (field_at os i) refl e
  where
    by : (o : Option Value) → field_at os i ≡ o → option_and_then (λ w. cond (is_left_out f.implicit w) None (Some w)) o ≡ Some v → IsKept f os i v
    by None there h = absurd (none-some v h)
    by (Some w) there h = let x = only (is_left_out f.implicit w) w v h in record { there = there ∙ ap Some x.0; stays = ap (is_left_out f.implicit) (sym x.0) ∙ x.1 }

-- it is left out
pub record IsLeft (f : Field) (os : List (Option Value)) (i : ℕ) : Type 0 where
  pub value : Value
  pub there : field_at os i ≡ Some value
  pub left : is_left_out f.implicit value ≡ true

pub kept_none : (f : Field) (os : List (Option Value)) (i : ℕ) → kept_at f os i ≡ None → (field_at os i ≡ None) ⊎ IsLeft f os i
kept_none f os i e = by (field_at os i) refl e
  where
    by : (o : Option Value) → field_at os i ≡ o → option_and_then (λ w. cond (is_left_out f.implicit w) None (Some w)) o ≡ None → (field_at os i ≡ None) ⊎ IsLeft f os i
    by None there h = inl there
    by (Some w) there h = inr (record { value = w; there = there; left = unless (is_left_out f.implicit w) w h })

pub no_kept : (f : Field) (os : List (Option Value)) (i : ℕ) → field_at os i ≡ None → kept_at f os i ≡ None
no_kept f os i e = ap (λ o. option_and_then (λ w. cond (is_left_out f.implicit w) None (Some w)) o) e

pub kept_or_not : (f : Field) (os : List (Option Value)) (i : ℕ) (v : Value) (b : Bool) → field_at os i ≡ Some v → is_left_out f.implicit v ≡ b → kept_at f os i ≡ cond b None (Some v)
kept_or_not f os i v b there is = ap (λ o. option_and_then (λ w. cond (is_left_out f.implicit w) None (Some w)) o) there ∙ ap (λ c. cond c None (Some v)) is

-- what passes over fields without a value
module _ {A : Type 0} (over : List Field → List (Option Value) → A) (skips : (f : Field) (fs : List Field) (os : List (Option Value)) → over (f ∷ fs) (None ∷ os) ≡ over fs os)
    (ends : (f : Field) (fs : List Field) → over (f ∷ fs) [] ≡ over fs []) where
  pub over_none : (fs : List Field) (os : List (Option Value)) (i : ℕ) (f : Field) → slice_get fs i ≡ Some f → field_at os i ≡ None → over (drop i fs) (drop i os) ≡ over (drop (i + 1) fs) (drop (i + 1) os)
  over_none fs os i f at none = ap (λ xs. over xs (drop i os)) (drop_at fs i f at) ∙ by (none_from os i none) ∙ ap (λ n. over (drop (i + 1) fs) (drop n os)) (sym (add-one i))
    where
      by : (drop i os ≡ None ∷ drop (suc i) os) ⊎ ((drop i os ≡ []) × (drop (suc i) os ≡ [])) → over (f ∷ drop (i + 1) fs) (drop i os) ≡ over (drop (i + 1) fs) (drop (suc i) os)
      by (inl e) = ap (over (f ∷ drop (i + 1) fs)) e ∙ skips f (drop (i + 1) fs) (drop (suc i) os)
      by (inr e) = ap (over (f ∷ drop (i + 1) fs)) e.0 ∙ ends f (drop (i + 1) fs) ∙ ap (over (drop (i + 1) fs)) (sym e.1)

  pub over_some : (fs : List Field) (os : List (Option Value)) (i : ℕ) (f : Field) (v : Value) → slice_get fs i ≡ Some f → field_at os i ≡ Some v → over (drop i fs) (drop i os) ≡ over (f ∷ drop (i + 1) fs) (Some v ∷ drop (i + 1) os)
  over_some fs os i f v at there = ap (λ xs. over xs (drop i os)) (drop_at fs i f at) ∙ ap (over (f ∷ drop (i + 1) fs)) (some_next os i v there)

-- ---- counts

pub present_some : (os : List (Option Value)) (i : ℕ) (v : Value) → field_at os i ≡ Some v → count_present (drop i os) ≡ suc (count_present (drop (i + 1) os))
present_some os i v e = ap count_present (some_next os i v e)

pub present_none : (os : List (Option Value)) (i : ℕ) → field_at os i ≡ None → count_present (drop i os) ≡ count_present (drop (i + 1) os)
present_none os i e = by (none_from os i e) ∙ ap (λ n. count_present (drop n os)) (sym (add-one i))
  where
    by : (drop i os ≡ None ∷ drop (suc i) os) ⊎ ((drop i os ≡ []) × (drop (suc i) os ≡ [])) → count_present (drop i os) ≡ count_present (drop (suc i) os)
    by (inl h) = ap count_present h
    by (inr h) = ap count_present h.0 ∙ ap count_present (sym h.1)

pub present_end : (os : List (Option Value)) (i : ℕ) → length os ≤ i → count_present (drop i os) ≡ 0
present_end os i h = ap count_present (drop_past os i h)

written_ends : (f : Field) (fs : List Field) → count_written (f ∷ fs) [] ≡ count_written fs []
written_ends f [] = refl
written_ends f (g ∷ fs) = refl

written_some : (fs : List Field) (os : List (Option Value)) (i : ℕ) (f : Field) (v : Value) (b : Bool) → slice_get fs i ≡ Some f → field_at os i ≡ Some v → is_left_out f.implicit v ≡ b
    → count_written (drop i fs) (drop i os) ≡ cond b (count_written (drop (i + 1) fs) (drop (i + 1) os)) (suc (count_written (drop (i + 1) fs) (drop (i + 1) os)))
written_some fs os i f v b at there is =
    over_some count_written (λ g gs ps. refl) written_ends fs os i f v at there
    ∙ ap (λ c. cond c (count_written (drop (i + 1) fs) (drop (i + 1) os)) (suc (count_written (drop (i + 1) fs) (drop (i + 1) os)))) is

written_none : (fs : List Field) (os : List (Option Value)) (i : ℕ) (f : Field) → slice_get fs i ≡ Some f → field_at os i ≡ None → count_written (drop i fs) (drop i os) ≡ count_written (drop (i + 1) fs) (drop (i + 1) os)
written_none = over_none count_written (λ g gs ps. refl) written_ends

pub written_kept : (fs : List Field) (os : List (Option Value)) (i : ℕ) (f : Field) (v : Value) → slice_get fs i ≡ Some f → kept_at f os i ≡ Some v → count_written (drop i fs) (drop i os) ≡ suc (count_written (drop (i + 1) fs) (drop (i + 1) os))
written_kept fs os i f v at e = let x = kept_is f os i v e in written_some fs os i f v false at x.there x.stays

pub written_passed : (fs : List Field) (os : List (Option Value)) (i : ℕ) (f : Field) → slice_get fs i ≡ Some f → kept_at f os i ≡ None → count_written (drop i fs) (drop i os) ≡ count_written (drop (i + 1) fs) (drop (i + 1) os)
written_passed fs os i f at e = ⊎_elim (λ n. written_none fs os i f at n) (λ x. written_some fs os i f x.value true at x.there x.left) (kept_none f os i e)

pub written_end : (fs : List Field) (os : List (Option Value)) (i : ℕ) → length fs ≤ i → count_written (drop i fs) (drop i os) ≡ 0
written_end fs os i h = ap (λ xs. count_written xs (drop i os)) (drop_past fs i h)
