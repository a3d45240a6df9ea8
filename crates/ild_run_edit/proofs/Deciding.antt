-- The first refusal that a place and a judged part tell is that of the changed value.
use Rattle.std.proofs.Common.{cond, ◌≡◌, ℕ, Bool, true, false, ◌||◌, Option, Some, None, refl, sym, ◌∙◌, subst}
use Rattle.std.specs.Prelude.{◌↔◌, is_none, unwrap_or}
use Rattle.std.proofs.lemmas.Option.{none-some}
use Rattle.std.proofs.lemmas.Bool.{or_left, or_right, or_from}
use Rattle.ild_build.specs.declared.judgement.Judged.{Judged}
use Rattle.ild_build.specs.declared.judgement.Judged.TheVariants as J
use Rattle.ild_script.specs.declared.reply.No.{No}
use Rattle.ild_script.specs.declared.reply.No.TheVariants as N
use Rattle.ild_run_edit.specs.inside.Judges.{first_told}

-- how the part is judged: hw that it has a hole, bw that it breaks a delimiter, FW that it fits in a room
abbrev pub Judges : Bool → Bool → (ℕ → Type 0) → ℕ → Option Judged → Type 0
Judges hw bw FW m (Some J.Hole) = hw ≡ true
Judges hw bw FW m (Some J.Delimiter) = (hw ≡ false) × (bw ≡ true)
Judges hw bw FW m (Some J.Depth) = (hw ≡ false) × (bw ≡ false) × (FW m → ⊥)
Judges hw bw FW m None = (hw ≡ false) × (bw ≡ false) × FW m

abbrev pub FitsIt : (ℕ → Type 0) → Option ℕ → Type 0
FitsIt FW None = ⊥
FitsIt FW (Some n) = FW n

-- what is so of the changed value, by the refusal
abbrev pub Outcome : Bool → Bool → Type 0 → Bool → Bool → Option No → Type 0
Outcome hc bc FC ec ew (Some N.Hole) = hc ≡ true
Outcome hc bc FC ec ew (Some N.Delimiter) = (hc ≡ false) × (bc ≡ true)
Outcome hc bc FC ec ew (Some N.Depth) = (hc ≡ false) × (bc ≡ false) × (FC → ⊥)
Outcome hc bc FC ec ew (Some N.Exhausted) = (hc ≡ false) × (bc ≡ false) × FC × (ec ≡ true)
Outcome hc bc FC ec ew (Some other) = ⊥
Outcome hc bc FC ec ew None = (hc ≡ false) × (bc ≡ false) × FC × (ec ≡ ew)

full_true : (ew ea ec full : Bool) → ec ≡ (ew || ea) → (ew ≡ false → full ≡ ea) → full ≡ true → ec ≡ true
full_true true ea ec full e t f = e
full_true false ea ec full e t f = e ∙ sym (t refl) ∙ f

full_same : (ew ea ec full : Bool) → ec ≡ (ew || ea) → (ew ≡ false → full ≡ ea) → full ≡ false → ec ≡ ew
full_same true ea ec full e t f = e
full_same false ea ec full e t f = e ∙ sym (t refl) ∙ f

module _ (hw bw hc bc ha b : Bool) (FW : ℕ → Type 0) (FC : Type 0) (ec ew ea full : Bool) (room : Option ℕ)
    (hole : hc ≡ (hw || ha)) (delim : bw ≡ true → bc ≡ true) (around : bw ≡ false → b ≡ bc) (depth : FC ↔ FitsIt FW room) (exhausted : ec ≡ (ew || ea)) (told : hw ≡ false → bw ≡ false → ew ≡ false → full ≡ ea) where
  -- the part fits
  fitting : hw ≡ false → bw ≡ false → hc ≡ false → bc ≡ false → (r : Option ℕ) → room ≡ r → FW (unwrap_or r 96) → (f : Bool) → full ≡ f → Outcome hc bc FC ec ew (cond (is_none r || false) (Some N.Depth) (cond f (Some N.Exhausted) None))
  fitting k l whole free None e fit f g = (whole, free, λ x. subst (FitsIt FW) e (depth.0 x))
  fitting k l whole free (Some n) e fit true g = (whole, free, depth.1 (subst (FitsIt FW) (sym e) fit), full_true ew ea ec full exhausted (told k l) g)
  fitting k l whole free (Some n) e fit false g = (whole, free, depth.1 (subst (FitsIt FW) (sym e) fit), full_same ew ea ec full exhausted (told k l) g)

  deep : hc ≡ false → bc ≡ false → (r : Option ℕ) → room ≡ r → (FW (unwrap_or r 96) → ⊥) → (f : Bool) → Outcome hc bc FC ec ew (cond (is_none r || true) (Some N.Depth) (cond f (Some N.Exhausted) None))
  deep whole free None e unless f = (whole, free, λ x. subst (FitsIt FW) e (depth.0 x))
  deep whole free (Some n) e unless f = (whole, free, λ x. unless (subst (FitsIt FW) e (depth.0 x)))

  none_there : hw ≡ false → ha ≡ false → hc ≡ false
  none_there p q = hole ∙ or_from hw ha p q

  pub decided : (j : Option Judged) → Judges hw bw FW (unwrap_or room 96) j → (a : Bool) → ha ≡ a → (x : Bool) → b ≡ x → (f : Bool) → full ≡ f → Outcome hc bc FC ec ew (first_told true a j x room f)
  decided (Some J.Hole) k true e x g f l = hole ∙ or_left hw ha k
  decided (Some J.Hole) k false e x g f l = hole ∙ or_left hw ha k
  decided (Some J.Delimiter) k true e x g f l = hole ∙ or_right hw ha e
  decided (Some J.Delimiter) k false e x g f l = (none_there k.0 e, delim k.1)
  decided (Some J.Depth) k true e x g f l = hole ∙ or_right hw ha e
  decided (Some J.Depth) k false e true g f l = (none_there k.0 e, sym (around k.1) ∙ g)
  decided (Some J.Depth) k false e false g f l = deep (none_there k.0 e) (sym (around k.1) ∙ g) room refl k.2 f
  decided None k true e x g f l = hole ∙ or_right hw ha e
  decided None k false e true g f l = (none_there k.0 e, sym (around k.1) ∙ g)
  decided None k false e false g f l = fitting k.0 k.1 (none_there k.0 e) (sym (around k.1) ∙ g) room refl k.2 f l

-- where nothing is told, the part by itself is free
module _ (hw bw : Bool) (FW : ℕ → Type 0) where
  abbrev pub FreePart : Option ℕ → Type 0
  FreePart room = (hw ≡ false) × (bw ≡ false) × ((n : ℕ) × (room ≡ Some n) × FW n)

  pub undecided : (key a x f : Bool) (j : Option Judged) (room : Option ℕ) → Judges hw bw FW (unwrap_or room 96) j → first_told key a j x room f ≡ None → FreePart room
  undecided false a x f j room k e = absurd (none-some _ (sym e))
  undecided true true x f j room k e = absurd (none-some _ (sym e))
  undecided true false x f (Some J.Hole) room k e = absurd (none-some _ (sym e))
  undecided true false x f (Some J.Delimiter) room k e = absurd (none-some _ (sym e))
  undecided true false true f (Some J.Depth) room k e = absurd (none-some _ (sym e))
  undecided true false false f (Some J.Depth) None k e = absurd (none-some _ (sym e))
  undecided true false false f (Some J.Depth) (Some n) k e = absurd (none-some _ (sym e))
  undecided true false true f None room k e = absurd (none-some _ (sym e))
  undecided true false false f None None k e = absurd (none-some _ (sym e))
  undecided true false false f None (Some n) k e = (k.0, k.1, (n, refl, k.2))
