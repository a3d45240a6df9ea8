-- What is written in turns: what stands in the buffer, in front of what is still to come.
use Rattle.std.proofs.Common.{◌≡◌, ℕ, zero, suc, ◌<◌, List, [], ◌∷◌, ◌++◌, length, Option, Some, None, option_map, slice_get, Result, Ok, Err, refl, sym, ap, ◌∙◌, arith, append_assoc, append-nil}
use Rattle.std.specs.Prelude.{IsErr, OnOk, OnErr}
use Rattle.std.proofs.lemmas.Option.{same_Some, none-some}
use Rattle.ild_emit.specs.Grown.{IsGrown}
use Rattle.ild_emit.proofs.Growing.{grown_same, grown_then}
use Rattle.ild_typed.proofs.Basics.{map_from}
use Rattle.ild_build_pass.specs.inside.Made.{both}
use Rattle.ild_build_leaf.specs.Wrote.{Wrote}

pub grown_on : (old mid new : List ℕ) → IsGrown old mid → IsGrown mid new → IsGrown old new
grown_on old mid new a b = grown_then old mid new a.more a.is b

pub on_err : {T E : Type 0} (r : Result T E) (P Q : Type 0) → (P → Q) → OnErr r P → OnErr r Q
on_err (Ok x) P Q f h = tt
on_err (Err e) P Q f h = f h

-- what a call leaves that failed
pub unchanged : {T E : Type 0} (r : Result T E) (old new : List ℕ) → OnErr r (new ≡ old) → OnErr r (IsGrown old new)
unchanged r old new = on_err r (new ≡ old) (IsGrown old new) (grown_same old new)

pub failed_then : {T E : Type 0} (r : Result T E) (old mid new xs : List ℕ) → mid ≡ old ++ xs → OnErr r (IsGrown mid new) → OnErr r (IsGrown old new)
failed_then r old mid new xs e = on_err r (IsGrown mid new) (IsGrown old new) (grown_then old mid new xs e)

pub failed_on : {T E : Type 0} (r : Result T E) (old mid new : List ℕ) → IsGrown old mid → OnErr r (IsGrown mid new) → OnErr r (IsGrown old new)
failed_on r old mid new g = on_err r (IsGrown mid new) (IsGrown old new) (grown_on old mid new g)

-- with others in front, and more behind
pub grown_around : (old one two three xs ys : List ℕ) → one ≡ old ++ xs → IsGrown one two → three ≡ two ++ ys → IsGrown old three
grown_around old one two three xs ys e g f = grown_on old two three (grown_then old one two xs e g) (record { more = ys; is = f })

pub no_ok : {T E : Type 0} (r : Result T E) (P : Type 0) → IsErr r → OnOk r P
no_ok (Ok x) P h = absurd cc
no_ok (Err e) P h = tt

pub always_ok : {T E : Type 0} (r : Result T E) (Q : Type 0) → Q → OnOk r Q
always_ok (Ok x) Q q = q
always_ok (Err e) Q q = tt

-- ---- one behind another

pub wrote_behind : (b : Option (List ℕ)) (old mid new p : List ℕ) → mid ≡ old ++ p → Wrote b mid new → Wrote (option_map (λ t. p ++ t) b) old new
wrote_behind b old mid new p e w = record {
  grown = grown_then old mid new p e w.grown;
  spelled = λ s is.
      let x = map_from (λ t. p ++ t) b s is in
      w.spelled x.item x.there ∙ ap (λ y. y ++ x.item) e ∙ append_assoc old p x.item ∙ ap (λ y. old ++ y) (same_Some (p ++ x.item) s x.made);
}

pub wrote_before : (b : Option (List ℕ)) (old mid new p : List ℕ) → new ≡ mid ++ p → Wrote b old mid → Wrote (option_map (λ t. t ++ p) b) old new
wrote_before b old mid new p e w = record {
  grown = record { more = w.grown.more ++ p; is = e ∙ ap (λ y. y ++ p) w.grown.is ∙ append_assoc old w.grown.more p };
  spelled = λ s is.
      let x = map_from (λ t. t ++ p) b s is in
      e ∙ ap (λ y. y ++ p) (w.spelled x.item x.there) ∙ append_assoc old x.item p ∙ ap (λ y. old ++ y) (same_Some (x.item ++ p) s x.made);
}

-- where less is to be written
pub wrote_from : (a b : Option (List ℕ)) (old new : List ℕ) → ((s : List ℕ) → a ≡ Some s → b ≡ Some s) → Wrote b old new → Wrote a old new
wrote_from a b old new h w = record { grown = w.grown; spelled = λ s e. w.spelled s (h s e) }

pub wrote_same : (a b : Option (List ℕ)) (old new : List ℕ) → a ≡ b → Wrote b old new → Wrote a old new
wrote_same a b old new e w = record { grown = w.grown; spelled = λ s is. w.spelled s (sym e ∙ is) }

pub wrote_none : (a : Option (List ℕ)) (old : List ℕ) → a ≡ None → Wrote a old old
wrote_none a old e = record { grown = record { more = []; is = sym (append-nil old) }; spelled = λ s is. absurd (none-some s (sym e ∙ is)) }

-- ---- in turns

pub record Ahead (rest : Option (List ℕ)) (old now s : List ℕ) : Type 0 where
  pub more : List ℕ
  pub is : rest ≡ Some more
  pub there : old ++ s ≡ now ++ more

pub record ToGo (whole rest : Option (List ℕ)) (old now : List ℕ) : Type 0 where
  pub grown : IsGrown old now
  pub ahead : (s : List ℕ) → whole ≡ Some s → Ahead rest old now s

pub starts : (rest : Option (List ℕ)) (old now p : List ℕ) → now ≡ old ++ p → ToGo (option_map (λ t. p ++ t) rest) rest old now
starts rest old now p e = record {
  grown = record { more = p; is = e };
  ahead = λ s is.
      let x = map_from (λ t. p ++ t) rest s is in
      record { more = x.item; is = x.there; there = ap (λ y. old ++ y) (sym (same_Some (p ++ x.item) s x.made)) ∙ sym (append_assoc old p x.item) ∙ ap (λ y. y ++ x.item) (sym e) };
}

pub record Both (part next : Option (List ℕ)) (s : List ℕ) : Type 0 where
  pub first : List ℕ
  pub second : List ℕ
  pub one : part ≡ Some first
  pub two : next ≡ Some second
  pub all : first ++ second ≡ s

pub both_from : (part next : Option (List ℕ)) (s : List ℕ) → both part next ≡ Some s → Both part next s
both_from None next s e = absurd (none-some s e)
both_from (Some a) None s e = absurd (none-some s e)
both_from (Some a) (Some b) s e = record { first = a; second = b; one = refl; two = refl; all = same_Some (a ++ b) s e }

pub goes : (whole rest part next : Option (List ℕ)) (old now new : List ℕ) → rest ≡ both part next → Wrote part now new → ToGo whole rest old now → ToGo whole next old new
goes whole rest part next old now new e w g = record {
  grown = grown_on old now new g.grown w.grown;
  ahead = λ s is.
      let a = g.ahead s is in
      let b = both_from part next a.more (sym e ∙ a.is) in
      record { more = b.second; is = b.two; there = a.there ∙ ap (λ y. now ++ y) (sym b.all) ∙ sym (append_assoc now b.first b.second) ∙ ap (λ y. y ++ b.second) (sym (w.spelled b.first b.one)) };
}

pub skips : (whole rest next : Option (List ℕ)) (old now : List ℕ) → rest ≡ next → ToGo whole rest old now → ToGo whole next old now
skips whole rest next old now e g = record {
  grown = g.grown;
  ahead = λ s is.
      let a = g.ahead s is in
      record { more = a.more; is = sym e ∙ a.is; there = a.there };
}

pub ends : (whole rest : Option (List ℕ)) (old now : List ℕ) → rest ≡ Some [] → ToGo whole rest old now → Wrote whole old now
ends whole rest old now e g = record {
  grown = g.grown;
  spelled = λ s is.
      let a = g.ahead s is in
      sym (a.there ∙ ap (λ y. now ++ y) (same_Some a.more [] (sym a.is ∙ e)) ∙ append-nil now);
}

pub none_past : {A : Type 0} (xs : List A) (i : ℕ) → slice_get xs i ≡ None → i < length xs → ⊥
none_past [] i e h = omega (arith, h)
none_past (x ∷ xs) zero e h = none-some x (sym e)
none_past (x ∷ xs) (suc i) e h = none_past xs i e (omega (arith, h))

pub wrote_is : (a : Option (List ℕ)) (old new s : List ℕ) → a ≡ Some s → new ≡ old ++ s → Wrote a old new
wrote_is a old new s e is = record { grown = record { more = s; is = is }; spelled = λ t h. is ∙ ap (λ x. old ++ x) (same_Some s t (sym e ∙ h)) }
