-- Data of which no cause holds, and how a test of a list is known element by element.
use Rattle.std.proofs.Common.{◌≡◌, ℕ, zero, suc, List, [], ◌∷◌, Bool, true, false, cond, ◌||◌, not, Option, Some, None, refl, sym, ◌∙◌, ap}
use Rattle.std.specs.Prelude.{slice_get}
use Rattle.std.specs.List.{list_any, AllByRecursion}
use Rattle.std.proofs.lemmas.Option.{none-some}
use Rattle.std.proofs.lemmas.Bool.{or_parts, or_from}
use Rattle.ild_data.specs.Data.{Data}
use Rattle.ild_schema.specs.declared.def.TypeDef.{TypeDef}
use Rattle.ild_typed.specs.Why as W
use Rattle.ild_typed.specs.Why.{Why, in_order, first_that}
use Rattle.ild_typed.specs.Causes.{is_cause, why_of}

pub record Clean (d : TypeDef) (t : Data) : Type 0 where
  pub kind : is_cause d t W.Kind ≡ false
  pub name : is_cause d t W.Name ≡ false
  pub missing : is_cause d t W.Missing ≡ false
  pub count : is_cause d t W.Count ≡ false
  pub order : is_cause d t W.Order ≡ false
  pub repeat : is_cause d t W.Repeat ≡ false
  pub implicit : is_cause d t W.Implicit ≡ false
  pub delimiter : is_cause d t W.Delimiter ≡ false
  pub prefix : is_cause d t W.Prefix ≡ false
  pub member : is_cause d t W.Member ≡ false

none_then : (b : Bool) (w : Why) (o : Option Why) → cond b (Some w) o ≡ None → (b ≡ false) × (o ≡ None)
none_then true w o e = absurd (none-some w (sym e))
none_then false w o e = (refl, e)

pub all_false : (holds : Why → Bool) (ws : List Why) → first_that holds ws ≡ None → AllByRecursion (λ w. holds w ≡ false) ws
all_false holds [] e = tt
all_false holds (w ∷ ws) e = let x = none_then (holds w) w (first_that holds ws) e in (x.0, all_false holds ws x.1)

pub false_all : (holds : Why → Bool) (ws : List Why) → AllByRecursion (λ w. holds w ≡ false) ws → first_that holds ws ≡ None
false_all holds [] all = refl
false_all holds (w ∷ ws) all = ap (λ b. cond b (Some w) (first_that holds ws)) all.0 ∙ false_all holds ws all.1

pub clean_of : (d : TypeDef) (t : Data) → why_of d t ≡ None → Clean d t
clean_of d t e =
    let x = all_false (is_cause d t) in_order e in
    record {
      kind = x.0;
      name = x.1.0;
      missing = x.1.1.0;
      count = x.1.1.1.0;
      order = x.1.1.1.1.0;
      repeat = x.1.1.1.1.1.0;
      implicit = x.1.1.1.1.1.1.0;
      delimiter = x.1.1.1.1.1.1.1.0;
      prefix = x.1.1.1.1.1.1.1.1.0;
      member = x.1.1.1.1.1.1.1.1.1.0;
    }

pub none_of : (d : TypeDef) (t : Data) → Clean d t → why_of d t ≡ None
none_of d t c =
    false_all (is_cause d t) in_order
    (c.kind, (c.name, (c.missing, (c.count, (c.order, (c.repeat, (c.implicit, (c.delimiter, (c.prefix, (c.member, tt))))))))))

-- ---- Bools

pub not_false : (b : Bool) → not b ≡ false → b ≡ true
not_false true e = refl
not_false false e = absurd cc

pub not_true : (b : Bool) → b ≡ true → not b ≡ false
not_true true e = refl
not_true false e = absurd cc

pub or_rest : (a b : Bool) → (a || b) ≡ true → a ≡ false → b ≡ true
or_rest true b e k = absurd cc
or_rest false b e k = e

pub never : true ≡ false → ⊥
never e = absurd cc

pub kind_fine : (b c : Bool) → b ≡ true → c ≡ false → (not b || c) ≡ false
kind_fine true c e k = k
kind_fine false c e k = absurd cc

-- ---- tests of lists

pub none_pass : {A : Type 0} (p : A → Bool) (xs : List A) → list_any p xs ≡ false → AllByRecursion (λ x. p x ≡ false) xs
none_pass p [] e = tt
none_pass p (x ∷ xs) e = let y = or_parts (p x) (list_any p xs) e in (y.0, none_pass p xs y.1)

pub pass_none : {A : Type 0} (p : A → Bool) (xs : List A) → AllByRecursion (λ x. p x ≡ false) xs → list_any p xs ≡ false
pass_none p [] all = refl
pass_none p (x ∷ xs) all = or_from (p x) (list_any p xs) all.0 (pass_none p xs all.1)

pub record Found {A : Type 0} (p : A → Bool) (xs : List A) : Type 0 where
  pub place : ℕ
  pub one : A
  pub there : slice_get xs place ≡ Some one
  pub passes : p one ≡ true

pub found : {A : Type 0} (p : A → Bool) (xs : List A) → list_any p xs ≡ true → Found p xs
found p [] e = absurd cc
found p (x ∷ xs) e = by (p x) refl (λ is. found p xs (or_rest (p x) (list_any p xs) e is)) where
  by : (b : Bool) → p x ≡ b → (p x ≡ false → Found p xs) → Found p (x ∷ xs)
  by true is more = record { place = zero; one = x; there = refl; passes = is }
  by false is more =
      let rest = more is in
      record { place = suc rest.place; one = rest.one; there = rest.there; passes = rest.passes }
