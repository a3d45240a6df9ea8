-- Options that are there, and functions whose results tell their arguments.
use Rattle.std.proofs.Common.{◌≡◌, List, [], ◌∷◌, ◌++◌, length, Bool, true, false, cond, Option, Some, None, option_map, refl, sym, ◌∙◌, ap, arith}
use Rattle.std.specs.Prelude.{option_and_then}
use Rattle.std.proofs.lemmas.Option.{same_Some, none-some}
use Rattle.ild_data.specs.Data.{Data}
use Rattle.ild_typed.specs.Tells.{Tells}

-- what stands behind an option that is there
pub record From {A B : Type 0} (f : A → Option B) (o : Option A) (b : B) : Type 0 where
  pub item : A
  pub there : o ≡ Some item
  pub made : f item ≡ Some b

pub then_from : {A B : Type 0} (f : A → Option B) (o : Option A) (b : B) → option_and_then f o ≡ Some b → From f o b
then_from f None b e = absurd (none-some b e)
then_from f (Some a) b e = record { item = a; there = refl; made = e }

pub map_from : {A B : Type 0} (f : A → B) (o : Option A) (b : B) → option_map f o ≡ Some b → From (λ a. Some (f a)) o b
map_from f None b e = absurd (none-some b e)
map_from f (Some a) b e = record { item = a; there = refl; made = e }

pub true_from : {A : Type 0} (c : Bool) (a b : A) → cond c (Some a) None ≡ Some b → (c ≡ true) × (a ≡ b)
true_from true a b e = (refl, same_Some a b e)
true_from false a b e = absurd (none-some b e)

pub if_from : {A : Type 0} (c : Bool) (o : Option A) (b : A) → cond c o None ≡ Some b → (c ≡ true) × (o ≡ Some b)
if_from true o b e = (refl, e)
if_from false o b e = absurd (none-some b e)

-- a function that tells, behind one of which what is there tells
pub tells_then : {A B : Type 0} (g : A → Option B) (f : B → Option Data) → Tells f
    → ((a b : A) (c : B) → g a ≡ Some c → g b ≡ Some c → a ≡ b) → Tells (λ a. option_and_then f (g a))
tells_then g f tells first a b t e k =
    let x = then_from f (g a) t e in
    let y = then_from f (g b) t k in
    first a b x.item x.there (y.there ∙ ap Some (tells y.item x.item t y.made x.made))

pub tells_map : {A B : Type 0} (g : A → Option B) (f : B → Data) → ((x y : B) → f x ≡ f y → x ≡ y)
    → ((a b : A) (c : B) → g a ≡ Some c → g b ≡ Some c → a ≡ b) → Tells (λ a. option_map f (g a))
tells_map g f tells first a b t e k =
    let x = map_from f (g a) t e in
    let y = map_from f (g b) t k in
    first a b x.item x.there (y.there ∙ ap Some (tells y.item x.item (same_Some (f y.item) (f x.item) (y.made ∙ sym x.made))))

-- fronts of one length
pub fronts_same : {A : Type 0} (p q x y : List A) → length p ≡ length q → p ++ x ≡ q ++ y → (p ≡ q) × (x ≡ y)
fronts_same [] [] x y n e = (refl, e)
fronts_same [] (b ∷ q) x y n e = absurd (omega (arith, n))
fronts_same (a ∷ p) [] x y n e = absurd (omega (arith, n))
fronts_same (a ∷ p) (b ∷ q) x y n e =
    let first : a ≡ b = ap (head_or a) e in
    let rest = fronts_same p q x y (omega (arith, n)) (ap tail_of e) in
    (λ i. first i ∷ rest.0 i, rest.1)
  where
    head_or : {A : Type 0} → A → List A → A
    head_or d [] = d
    head_or d (a ∷ xs) = a

    tail_of : {A : Type 0} → List A → List A
    tail_of [] = []
    tail_of (a ∷ xs) = xs

pub behind_front : {A : Type 0} (p x y : List A) → p ++ x ≡ p ++ y → x ≡ y
behind_front p x y e = (fronts_same p p x y refl e).1
