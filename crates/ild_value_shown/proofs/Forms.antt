-- The shown form of parts, as plain lists.
use Rattle.std.proofs.Common.{◌≡◌, ℕ, zero, suc, ◌+◌, ◌<◌, ◌≤◌, subst, List, [], ◌∷◌, ◌++◌, length, take, drop, slice_get, map, Option, Some, None, refl, sym, ap, ◌∙◌, arith, add-one, length-append}
use Rattle.std.specs.Prelude.{option_and_then}
use Rattle.std.proofs.lemmas.List.{map-append}
use Rattle.std.proofs.lemmas.Option.{same_Some, none-some}
use Rattle.ild_data.specs.Data.{Data, item, items_of}
use Rattle.ild_schema.specs.declared.def.Field.{Field}
use Rattle.ild_schema.specs.declared.number.Slot.{Slot}
use Rattle.ild_schema.specs.declared.row.Row.{Row}
use Rattle.ild_schema.specs.Value.{Value, height, optionals_height, Values, no_values, value, values_list, Pairs, no_pairs, pair, pairs_list, Optionals, no_optionals, absent, present, optionals_list}
use Rattle.ild_typed.specs.Shown.{shown, shown_values, shown_pairs, shown_fields}
use Rattle.std.specs.List.{All}
use Rattle.std.proofs.lemmas.List.Elements.{All-nil, All-cons, All-head, All-tail}
use Rattle.ild_schema.specs.declared.def.TypeDef.{TypeDef}
use Rattle.ild_schema.specs.declared.def.TypeDef.TheVariants as T
use Rattle.ild_schema.specs.declared.def.StructDef.{StructDef}
use Rattle.ild_schema.specs.Table.{IsWithin}
use Rattle.ild_typed.specs.Slots.{fields_of}
use Rattle.ild_value_shown.proofs.Fronts.{take_next, take_past}
use Rattle.ild_value_shown.proofs.Heights.{optional_height}

-- ---- a list that is made of another, part by part

pub made_more : {A B : Type 0} (f : A → B) (xs : List A) (ys zs : List B) (n : ℕ) (x : A) (y : B) → ys ≡ map f (take (length ys) xs) → n ≡ length ys → Some x ≡ slice_get xs n → y ≡ f x → zs ≡ ys ++ y ∷ [] → zs ≡ map f (take (length zs) xs)
made_more f xs ys zs n x y front at there same more =
    let count : length zs ≡ length ys + 1 = ap length more ∙ length-append ys (y ∷ []) in
    let next = take_next xs (length ys) x (ap (slice_get xs) (sym at) ∙ sym there) in
    more ∙ ap (λ z. ys ++ z ∷ []) same ∙ ap (λ ws. ws ++ f x ∷ []) front ∙ sym (map-append f (take (length ys) xs) (x ∷ [])) ∙ ap (map f) (sym next) ∙ ap (λ m. map f (take m xs)) (sym (count ∙ add-one (length ys)))

pub made_all : {A B : Type 0} (f : A → B) (xs : List A) (ys : List B) (n : ℕ) → ys ≡ map f (take (length ys) xs) → n ≡ length ys → None ≡ slice_get xs n → ys ≡ map f xs
made_all f xs ys n front at past = front ∙ ap (map f) (take_past xs (length ys) (ap (slice_get xs) (sym at) ∙ sym past))

abbrev pub shown_pair : List Row → Slot → List ℕ × Value → List ℕ × Data
shown_pair rows u p = (p.0, shown rows u p.1)

pub values_shown : (rows : List Row) (u : Slot) (vs : Values) → shown_values rows u vs ≡ items_of (map (λ v. shown rows u v) (values_list vs))
values_shown rows u no_values = refl
values_shown rows u (value v vs) = ap (item (shown rows u v)) (values_shown rows u vs)

pub pairs_shown : (rows : List Row) (u : Slot) (ps : Pairs) → shown_pairs rows u ps ≡ map (shown_pair rows u) (pairs_list ps)
pairs_shown rows u no_pairs = refl
pairs_shown rows u (pair k v ps) = ap (λ ds. (k, shown rows u v) ∷ ds) (pairs_shown rows u ps)

-- ---- the fields that are present

abbrev pub present_shown : List Row → List Field → List (Option Value) → List (List ℕ × Data)
present_shown rows [] os = []
present_shown rows (f ∷ fs) [] = []
present_shown rows (f ∷ fs) (None ∷ os) = present_shown rows fs os
present_shown rows (f ∷ fs) (Some v ∷ os) = (f.name, shown rows f.slot v) ∷ present_shown rows fs os

pub none_shown : (rows : List Row) (fs : List Field) → present_shown rows fs [] ≡ []
none_shown rows [] = refl
none_shown rows (f ∷ fs) = refl

pub fields_shown : (rows : List Row) (fs : List Field) (os : Optionals) → shown_fields rows fs os ≡ present_shown rows fs (optionals_list os)
fields_shown rows [] no_optionals = refl
fields_shown rows [] (absent os) = refl
fields_shown rows [] (present v os) = refl
fields_shown rows (f ∷ fs) no_optionals = refl
fields_shown rows (f ∷ fs) (absent os) = fields_shown rows fs os
fields_shown rows (f ∷ fs) (present v os) = ap (λ ds. (f.name, shown rows f.slot v) ∷ ds) (fields_shown rows fs os)

drop_none : {A : Type 0} (xs : List A) (i : ℕ) → xs ≡ [] → drop i xs ≡ []
drop_none [] zero e = refl
drop_none [] (suc i) e = refl
drop_none (x ∷ xs) i e = absurd cc

abbrev held : Option (Option Value) → Option Value
held o = option_and_then (λ p. p) o

here_shown : (rows : List Row) (g f : Field) (o : Option Value) (v : Value) (ds : List (List ℕ × Data)) (fs : List Field) (os : List (Option Value)) → g ≡ f → o ≡ Some v → ds ≡ present_shown rows fs os
    → present_shown rows (g ∷ fs) (o ∷ os) ≡ (f.name, shown rows f.slot v) ∷ ds
here_shown rows g f None v ds fs os same h e = absurd (none-some v h)
here_shown rows g f (Some w) v ds fs os same h e = let is = same_Some w v h in (λ i. ((same i).name, shown rows (same i).slot (is i)) ∷ sym e i)

pub present_next : (rows : List Row) (fs : List Field) (os : List (Option Value)) (i : ℕ) (f : Field) (v : Value) → slice_get fs i ≡ Some f → Some v ≡ held (slice_get os i)
    → present_shown rows (drop i fs) (drop i os) ≡ (f.name, shown rows f.slot v) ∷ present_shown rows (drop (suc i) fs) (drop (suc i) os)
present_next rows [] os i f v e h = absurd (none-some f e)
present_next rows (g ∷ fs) [] i f v e h = absurd (none-some v (sym h))
present_next rows (g ∷ fs) (o ∷ os) zero f v e h = here_shown rows g f o v (present_shown rows fs os) fs os (same_Some g f e) (sym h) refl
present_next rows (g ∷ fs) (o ∷ os) (suc i) f v e h = present_next rows fs os i f v e h

gone_shown : (rows : List Row) (g : Field) (o : Option Value) (fs : List Field) (os : List (Option Value)) → None ≡ o → present_shown rows (g ∷ fs) (o ∷ os) ≡ present_shown rows fs os
gone_shown rows g None fs os h = refl
gone_shown rows g (Some w) fs os h = absurd (none-some w h)

pub absent_next : (rows : List Row) (fs : List Field) (os : List (Option Value)) (i : ℕ) → None ≡ held (slice_get os i) → present_shown rows (drop i fs) (drop i os) ≡ present_shown rows (drop (suc i) fs) (drop (suc i) os)
absent_next rows fs [] i h = ap (present_shown rows (drop i fs)) (drop_none [] i refl) ∙ none_shown rows (drop i fs) ∙ sym (none_shown rows (drop (suc i) fs)) ∙ ap (present_shown rows (drop (suc i) fs)) (sym (drop_none [] (suc i) refl))
absent_next rows [] (o ∷ os) i h = ap (λ gs. present_shown rows gs (drop i (o ∷ os))) (drop_none [] i refl) ∙ sym (ap (λ gs. present_shown rows gs (drop (suc i) (o ∷ os))) (drop_none [] (suc i) refl))
absent_next rows (g ∷ fs) (o ∷ os) zero h = gone_shown rows g o fs os h
absent_next rows (g ∷ fs) (o ∷ os) (suc i) h = absent_next rows fs os i h

pub made_none : {A B : Type 0} (f : A → B) (xs : List A) (ys : List B) → ys ≡ [] → ys ≡ map f (take (length ys) xs)
made_none f xs [] e = refl
made_none f xs (y ∷ ys) e = absurd cc

pub field_height : (os : Optionals) (i : ℕ) (v : Value) → Some v ≡ held (slice_get (optionals_list os) i) → height v ≤ optionals_height os
field_height os i v h = by (slice_get (optionals_list os) i) refl h
  where
    by : (o : Option (Option Value)) → slice_get (optionals_list os) i ≡ o → Some v ≡ held o → height v ≤ optionals_height os
    by None e h = absurd (none-some v (sym h))
    by (Some None) e h = absurd (none-some v (sym h))
    by (Some (Some w)) e h = let a = optional_height os i (Some w) e in let b = ap height (same_Some v w h) in omega arith

-- ---- the fields of a struct

all_unmap : {A : Type 0} (f : A → ℕ) (count : ℕ) (xs : List A) → All (λ n. n < count) (map f xs) → All (λ x. f x < count) xs
all_unmap f count [] all = All-nil (λ x. f x < count)
all_unmap f count (x ∷ xs) all =
    All-cons (λ x. f x < count) x xs (All-head (λ n. n < count) (f x) (map f xs) all) (all_unmap f count xs (All-tail (λ n. n < count) (f x) (map f xs) all))

pub fields_low : (count : ℕ) (d : TypeDef) (s : StructDef) (xs : List Field) → IsWithin count d → d ≡ T.Struct s → xs ≡ s.fields → All (λ f. f.slot.ty.0 < count) xs
fields_low count d s xs within is same =
    subst (λ (ys : List Field). All (λ (f : Field). f.slot.ty.0 < count) ys) (sym same) (all_unmap (λ (f : Field). f.slot.ty.0) count s.fields ((subst (IsWithin count) is within).1))

pub fields_are : (o : Option TypeDef) (d : TypeDef) (s : StructDef) (xs : List Field) → o ≡ Some d → d ≡ T.Struct s → xs ≡ s.fields → xs ≡ fields_of o
fields_are o d s xs there is same = same ∙ sym (ap fields_of (there ∙ ap Some is))
