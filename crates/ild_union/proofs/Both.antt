-- The entries of an envelope, by its first three: one under each of two keys, or the first cause why they are others.
use Rattle.std.proofs.Common.{◌≡◌, ℕ, Bool, true, false, cond, not, ◌||◌, ◌&&◌, List, [], ◌∷◌, Some, None, refl, sym, ◌∙◌, ap, subst, inl, inr}
use Rattle.std.specs.Prelude.{is_none}
use Rattle.std.specs.Cmp.Lexicographic.{same_text as text_same}
use Rattle.std.specs.Borrow.{Bor}
use Rattle.std.proofs.lemmas.Bool.{and_parts}
use Rattle.ild_typed.proofs.Rising.{not_itself}
use Rattle.ild_data.specs.Data.{Data}
use Rattle.ild_data.specs.Key.{same_text, Rises}
use Rattle.ild_data.proofs.Rising.{key_cmp_total}
use Rattle.ild_cbor.specs.declared.node.Node.{Node}
use Rattle.ild_cbor.specs.Nodes.{HasData}
use Rattle.ild_layer_piece.specs.declared.walk.MapEntries.{MapEntries}
use Rattle.ild_layer_piece.specs.Entries.{EntriesGive, HasLeft}
use Rattle.ild_layer_piece.proofs.Walking.{first_left, none_left}
use Rattle.ild_union.specs.inside.Envelope.{AreBoth, is_one, has_stranger, lacks_one}

-- ---- tests that exclude one another

pub not_both : (a b c : List ℕ) → (a ≡ b → ⊥) → (same_text a c && same_text b c) ≡ false
not_both a b c apart = by (same_text a c) (same_text b c) refl refl where
  by : (x y : Bool) → x ≡ same_text a c → y ≡ same_text b c → (x && y) ≡ false
  by true true p q = absurd (apart (text_same a c p ∙ sym (text_same b c q)))
  by true false p q = refl
  by false y p q = refl

pub not_two : (key k l : List ℕ) → (k ≡ l → ⊥) → (same_text key k && same_text key l) ≡ false
not_two key k l apart = by (same_text key k) (same_text key l) refl refl where
  by : (x y : Bool) → x ≡ same_text key k → y ≡ same_text key l → (x && y) ≡ false
  by true true p q = absurd (apart (sym (text_same key k p) ∙ text_same key l q))
  by true false p q = refl
  by false y p q = refl

-- three are never of two
three : (a b c d e f r : Bool) → (a && c) ≡ false → (a && e) ≡ false → (c && e) ≡ false → (b && d) ≡ false → (b && f) ≡ false → (d && f) ≡ false
    → (not (a || b) || (not (c || d) || (not (e || f) || r))) ≡ true
three false false c d e f r p q s t u v = refl
three true b true d e f r p q s t u v = absurd cc
three true b false false e f r p q s t u v = refl
three true b false true true f r p q s t u v = absurd cc
three true b false true false true r p q s t u v = absurd cc
three true b false true false false r p q s t u v = refl
three false true c true e f r p q s t u v = absurd cc
three false true false false e f r p q s t u v = refl
three false true true false e true r p q s t u v = absurd cc
three false true true false true false r p q s t u v = absurd cc
three false true true false false false r p q s t u v = refl

-- two that are both but not in an order are in the other
two : (a b c d : Bool) → (a && c) ≡ false → (b && d) ≡ false → (a && d) ≡ false → (b && c) ≡ false → (not (a || b) || (not (c || d) || false)) ≡ true
two false false c d p q r s = refl
two true b true d p q r s = absurd cc
two true b false true p q r s = absurd cc
two true b false false p q r s = refl
two false true true d p q r s = absurd cc
two false true false true p q r s = absurd cc
two false true false false p q r s = refl

lacks : (a b : Bool) (d : Data) → (a && b) ≡ false → (is_none (cond a (Some d) None) || is_none (cond b (Some d) None)) ≡ true
lacks true true d p = absurd cc
lacks true false d p = refl
lacks false b d p = refl

-- ---- the entries

module _ (key content : List ℕ) where
  pub none_there : (es : List (List ℕ × Data)) → es ≡ [] → (has_stranger key content es ≡ false) × (lacks_one key content es ≡ true)
  none_there es is = (ap (has_stranger key content) is, ap (lacks_one key content) is)

  pub one_there : (es : List (List ℕ × Data)) (k : List ℕ) (d : Data) → (key ≡ content → ⊥) → es ≡ (k, d) ∷ [] → is_one key content k ≡ true
      → (has_stranger key content es ≡ false) × (lacks_one key content es ≡ true)
  one_there es k d apart is one =
      (ap (has_stranger key content) is ∙ ap (λ b. not b || false) one, ap (lacks_one key content) is ∙ lacks (same_text key k) (same_text content k) d (not_both key content k apart))

  pub stranger_there : (es rest : List (List ℕ × Data)) (k : List ℕ) (d : Data) → es ≡ (k, d) ∷ rest → is_one key content k ≡ false → has_stranger key content es ≡ true
  stranger_there es rest k d is other = ap (has_stranger key content) is ∙ ap (λ b. not b || has_stranger key content rest) other

  pub three_there : (es rest : List (List ℕ × Data)) (k l m : List ℕ) (d e f : Data) → Rises es → es ≡ (k, d) ∷ (l, e) ∷ (m, f) ∷ rest → has_stranger key content es ≡ true
  three_there es rest k l m d e f up is =
      let h : Rises ((k, d) ∷ (l, e) ∷ (m, f) ∷ rest) = subst Rises is up in
      let kl : k ≡ l → ⊥ = not_itself k l h.0 in
      let lm : l ≡ m → ⊥ = not_itself l m h.1.0 in
      let km : k ≡ m → ⊥ = not_itself k m (key_cmp_total.trans k l m h.0 h.1.0) in
      ap (has_stranger key content) is
      ∙ three (same_text key k) (same_text content k) (same_text key l) (same_text content l) (same_text key m) (same_text content m) (has_stranger key content rest)
      (not_two key k l kl) (not_two key k m km) (not_two key l m lm) (not_two content k l kl) (not_two content k m km) (not_two content l m lm)

  pub two_there : (es : List (List ℕ × Data)) (k l : List ℕ) (d e : Data) → Rises es → es ≡ (k, d) ∷ (l, e) ∷ [] → (same_text key k && same_text content l) ≡ false → (same_text content k && same_text key l) ≡ false
      → has_stranger key content es ≡ true
  two_there es k l d e up is one other =
      let h : Rises ((k, d) ∷ (l, e) ∷ []) = subst Rises is up in
      let kl : k ≡ l → ⊥ = not_itself k l h.0 in
      ap (has_stranger key content) is ∙ two (same_text key k) (same_text content k) (same_text key l) (same_text content l) (not_two key k l kl) (not_two content k l kl) one other

  pub first_order : (es : List (List ℕ × Data)) (k l : List ℕ) (d e : Data) → es ≡ (k, d) ∷ (l, e) ∷ [] → (same_text key k && same_text content l) ≡ true → AreBoth key content d e es
  first_order es k l d e is both =
      let x = and_parts (same_text key k) (same_text content l) both in
      inl (is ∙ ap (λ a. (a, d) ∷ (l, e) ∷ []) (sym (text_same key k (sym x.0))) ∙ ap (λ a. (key, d) ∷ (a, e) ∷ []) (sym (text_same content l (sym x.1))))

  pub other_order : (es : List (List ℕ × Data)) (k l : List ℕ) (d e : Data) → es ≡ (k, d) ∷ (l, e) ∷ [] → (same_text content k && same_text key l) ≡ true → AreBoth key content e d es
  other_order es k l d e is both =
      let x = and_parts (same_text content k) (same_text key l) both in
      inr (is ∙ ap (λ a. (a, d) ∷ (l, e) ∷ []) (sym (text_same content k (sym x.0))) ∙ ap (λ a. (content, d) ∷ (a, e) ∷ []) (sym (text_same key l (sym x.1))))

-- ---- the first two entries

pub record TwoLeft (x y : Bor (List ℕ) × Node) (after : MapEntries) (es : List (List ℕ × Data)) : Type 0 where
  pub one : Data
  pub two : Data
  pub rest : List (List ℕ × Data)
  pub is : es ≡ (x.0.now, one) ∷ (y.0.now, two) ∷ rest
  pub first : HasData x.1 one
  pub second : HasData y.1 two
  pub left : HasLeft after rest

pub two_left : (s next after : MapEntries) (x y : Bor (List ℕ) × Node) (es : List (List ℕ × Data)) → EntriesGive s (Some x) next → EntriesGive next (Some y) after → HasLeft s es → TwoLeft x y after es
two_left s next after x y es gives more left =
    let a = first_left s next x es gives left in
    let b = first_left next after y a.rest more a.left in
    record { one = a.value; two = b.value; rest = b.rest; is = a.is ∙ ap (λ r. (x.0.now, a.value) ∷ r) b.is; first = a.stands; second = b.stands; left = b.left }

-- where no third is left
pub only_two : (x y : Bor (List ℕ) × Node) (after last : MapEntries) (es : List (List ℕ × Data)) → (h : TwoLeft x y after es) → EntriesGive after None last → es ≡ (x.0.now, h.one) ∷ (y.0.now, h.two) ∷ []
only_two x y after last es h gives = h.is ∙ ap (λ r. (x.0.now, h.one) ∷ (y.0.now, h.two) ∷ r) (none_left after last h.rest gives h.left)
