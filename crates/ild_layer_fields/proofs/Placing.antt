-- Names by the places of their fields: what is found of the places is what is asked of the names.
use Rattle.std.proofs.Common.{◌≡◌, ℕ, zero, suc, ◌+◌, ◌≤◌, ◌<◌, List, [], ◌∷◌, length, map, get_or, Bool, true, false, cond, ◌||◌, ◌&&◌, not, Option, Some, refl, sym, ◌∙◌, ap, arith}
use Rattle.std.specs.Prelude.{nat_eq, slice_get, bytes_eq, unwrap_or, option_and_then}
use Rattle.std.specs.List.{list_any, position_from}
use Rattle.std.specs.Cmp.Lexicographic.{same_text as text_same}
use Rattle.std.proofs.lemmas.Option.{same_Some, none-some}
use Rattle.std.proofs.lemmas.Bool.{eq-eqb, eqb-true, or_parts}
use Rattle.ild_typed.proofs.CleanFields.{apart_names, needless_apart}
use Rattle.ild_data.proofs.AllOf.{all_at}
use Rattle.ild_data.specs.Data.{Data}
use Rattle.ild_data.specs.Key.{same_text}
use Rattle.ild_schema.specs.declared.def.Field.{Field}
use Rattle.ild_schema.specs.declared.def.StructDef.{StructDef}
use Rattle.ild_schema.specs.declared.def.TypeDef.{TypeDef}
use Rattle.ild_schema.specs.declared.def.TypeDef.TheVariants as D
use Rattle.ild_schema.specs.Marks.{field_text}
use Rattle.ild_schema.specs.Parts.{part_spelled}
use Rattle.ild_schema.specs.Clear.{AreNamesApart}
use Rattle.ild_typed.specs.Fields.{is_implicit}
use Rattle.ild_typed.specs.Named.{is_among, has_twice}
use Rattle.ild_typed.specs.StructWhy.{is_name_of, has_stranger, place_of, is_needless}
use Rattle.ild_typed.proofs.Cleans.{never}
use Rattle.ild_typed.proofs.Entries.{same_text_self}
use Rattle.ild_layer_fields.specs.Notes.{stands_twice, is_strange, implicit_at}

same_false : (a b : Bool) → (a ≡ true → b ≡ true) → (b ≡ true → a ≡ true) → a ≡ b
same_false true b h k = sym (h refl)
same_false false true h k = k refl
same_false false false h k = refl

eq_suc : (m n : ℕ) → nat_eq (suc m) (suc n) ≡ nat_eq m n
eq_suc m n = same_false (nat_eq (suc m) (suc n)) (nat_eq m n)
    (λ e. eq-eqb m n (omega (arith, eqb-true (suc m) (suc n) e)))
    (λ e. eq-eqb (suc m) (suc n) (omega (arith, eqb-true m n e)))

eq_turn : (m n : ℕ) → nat_eq m n ≡ nat_eq n m
eq_turn m n = same_false (nat_eq m n) (nat_eq n m) (λ e. eq-eqb n m (sym (eqb-true m n e))) (λ e. eq-eqb m n (sym (eqb-true n m e)))

zero_suc : (n : ℕ) → nat_eq zero (suc n) ≡ false
zero_suc n = by (nat_eq zero (suc n)) refl where
  by : (b : Bool) → nat_eq zero (suc n) ≡ b → b ≡ false
  by true is = absurd (omega (arith, eqb-true zero (suc n) is))
  by false is = refl

pub text_turn : (a b : List ℕ) → same_text a b ≡ same_text b a
text_turn a b = same_false (same_text a b) (same_text b a)
    (λ e. ap (same_text b) (text_same a b (sym e)) ∙ same_text_self b)
    (λ e. ap (same_text a) (text_same b a (sym e)) ∙ same_text_self a)

-- ---- a name's place

pub place_within : (fs : List Field) (k : List ℕ) → place_of fs k ≤ length fs
place_within [] k = omega arith
place_within (f ∷ fs) k = by (is_name_of k f) (place_within fs k) where
  by : (b : Bool) → place_of fs k ≤ length fs → cond b zero (suc (place_of fs k)) ≤ suc (length fs)
  by true le = omega arith
  by false le = omega arith

strange_place : (fs : List Field) (k : List ℕ) → not (list_any (is_name_of k) fs) ≡ nat_eq (place_of fs k) (length fs)
strange_place [] k = sym (eq-eqb 0 0 refl)
strange_place (f ∷ fs) k = by (is_name_of k f) (strange_place fs k) where
  by : (b : Bool) → not (list_any (is_name_of k) fs) ≡ nat_eq (place_of fs k) (length fs) → not (b || list_any (is_name_of k) fs) ≡ nat_eq (cond b zero (suc (place_of fs k))) (suc (length fs))
  by true rest = sym (zero_suc (length fs))
  by false rest = rest ∙ sym (eq_suc (place_of fs k) (length fs))

-- the place at which a name is looked up
look_place : (fs : List Field) (k : List ℕ) (m : ℕ) → unwrap_or (position_from (λ f. bytes_eq k (field_text f)) m fs) (m + length fs) ≡ m + place_of fs k
look_place [] k m = refl
look_place (f ∷ fs) k m =
    ap (λ b. unwrap_or (cond b (Some m) (position_from (λ g. bytes_eq k (field_text g)) (m + 1) fs)) (m + suc (length fs))) (text_turn k (field_text f))
    ∙ by (is_name_of k f) (look_place fs k (m + 1))
  where
    by : (b : Bool) → unwrap_or (position_from (λ g. bytes_eq k (field_text g)) (m + 1) fs) (m + 1 + length fs) ≡ m + 1 + place_of fs k → unwrap_or (cond b (Some m) (position_from (λ g. bytes_eq k (field_text g)) (m + 1) fs)) (m + suc (length fs)) ≡ m + cond b zero (suc (place_of fs k))
    by true rest = omega arith
    by false rest =
        let at : m + suc (length fs) ≡ m + 1 + length fs = omega arith in
        let there : m + 1 + place_of fs k ≡ m + suc (place_of fs k) = omega arith in
        ap (unwrap_or (position_from (λ g. bytes_eq k (field_text g)) (m + 1) fs)) at ∙ rest ∙ there

pub looked_place : (fs : List Field) (k : List ℕ) → unwrap_or (position_from (λ f. bytes_eq k (field_text f)) 0 fs) (length fs) ≡ place_of fs k
looked_place fs k =
    let zero_more : 0 + length fs ≡ length fs = omega arith in
    let more : 0 + place_of fs k ≡ place_of fs k = omega arith in
    ap (unwrap_or (position_from (λ f. bytes_eq k (field_text f)) 0 fs)) (sym zero_more) ∙ look_place fs k 0 ∙ more

-- as the table looks it up
pub spelled_place : (o : Option TypeDef) (s : StructDef) (k : List ℕ) (r : Option ℕ) → r ≡ option_and_then (part_spelled k) o → o ≡ Some (D.Struct s) → unwrap_or r (length s.fields) ≡ place_of s.fields k
spelled_place o s k r is def = ap (λ q. unwrap_or q (length s.fields)) (is ∙ ap (option_and_then (part_spelled k)) def) ∙ looked_place s.fields k

other_field : (f g : Field) (k : List ℕ) → (field_text f ≡ field_text g → ⊥) → is_name_of k f ≡ true → same_text (field_text g) k ≡ false
other_field f g k apart is = by (same_text (field_text g) k) refl where
  by : (b : Bool) → same_text (field_text g) k ≡ b → b ≡ false
  by true same = absurd (apart (text_same (field_text f) k (sym is) ∙ sym (text_same (field_text g) k (sym same))))
  by false same = refl

-- a name is that of the field at its place
pub name_at : (fs : List Field) (i : ℕ) (f : Field) (k : List ℕ) → AreNamesApart fs → slice_get fs i ≡ Some f → nat_eq i (place_of fs k) ≡ same_text (field_text f) k
name_at [] i f k apart at = absurd (none-some f at)
name_at (g ∷ fs) zero f k apart at = by (is_name_of k g) refl where
  by : (b : Bool) → is_name_of k g ≡ b → nat_eq zero (cond b zero (suc (place_of fs k))) ≡ same_text (field_text f) k
  by true is = eq-eqb 0 0 refl ∙ sym (ap (λ (h : Field). same_text (field_text h) k) (sym (same_Some g f at)) ∙ is)
  by false is = zero_suc (place_of fs k) ∙ sym (ap (λ (h : Field). same_text (field_text h) k) (sym (same_Some g f at)) ∙ is)
name_at (g ∷ fs) (suc i) f k apart at = by (is_name_of k g) refl (name_at fs i f k apart.1 at) where
  by : (b : Bool) → is_name_of k g ≡ b → nat_eq i (place_of fs k) ≡ same_text (field_text f) k → nat_eq (suc i) (cond b zero (suc (place_of fs k))) ≡ same_text (field_text f) k
  by true is rest = eq_turn (suc i) zero ∙ zero_suc i ∙ sym (other_field g f k (all_at (λ h. field_text g ≡ field_text h → ⊥) fs i f apart.0 at) is)
  by false is rest = eq_suc i (place_of fs k) ∙ rest

-- names of one place are one name
one_name : (fs : List Field) (k l : List ℕ) → not (list_any (is_name_of k) fs) ≡ false → place_of fs l ≡ place_of fs k → k ≡ l
one_name [] k l known same = absurd (never known)
one_name (f ∷ fs) k l known same = by (one_name fs k l) (is_name_of k f) refl (is_name_of l f) refl known same where
  by : (not (list_any (is_name_of k) fs) ≡ false → place_of fs l ≡ place_of fs k → k ≡ l) → (a : Bool) → is_name_of k f ≡ a → (b : Bool) → is_name_of l f ≡ b → not (a || list_any (is_name_of k) fs) ≡ false
      → cond b zero (suc (place_of fs l)) ≡ cond a zero (suc (place_of fs k)) → k ≡ l
  by rest true is true at h e = sym (text_same (field_text f) k (sym is)) ∙ text_same (field_text f) l (sym at)
  by rest true is false at h e = absurd (omega arith)
  by rest false is true at h e = absurd (omega arith)
  by rest false is false at h e = rest h (omega arith)

-- ---- what is found of names

pub strangers_placed : (fs : List Field) (ks : List (List ℕ)) → has_stranger fs ks ≡ is_strange (length fs) (map (place_of fs) ks)
strangers_placed fs [] = refl
strangers_placed fs (k ∷ ks) =
    ap (λ b. b || has_stranger fs ks) (strange_place fs k) ∙ ap (λ b. nat_eq (place_of fs k) (length fs) || b) (strangers_placed fs ks)

pub among_placed : (fs : List Field) (i : ℕ) (f : Field) (ks : List (List ℕ)) → AreNamesApart fs → slice_get fs i ≡ Some f
    → list_any (λ n. nat_eq i n) (map (place_of fs) ks) ≡ is_among (field_text f) ks
among_placed fs i f [] apart at = refl
among_placed fs i f (k ∷ ks) apart at =
    ap (λ b. b || list_any (λ n. nat_eq i n) (map (place_of fs) ks)) (name_at fs i f k apart at) ∙ ap (λ b. same_text (field_text f) k || b) (among_placed fs i f ks apart at)

place_again : (fs : List Field) (k : List ℕ) (ls : List (List ℕ)) → not (list_any (is_name_of k) fs) ≡ false
    → is_among k ls ≡ list_any (λ m. nat_eq m (place_of fs k)) (map (place_of fs) ls)
place_again fs k [] known = refl
place_again fs k (l ∷ ls) known =
    let one : same_text k l ≡ nat_eq (place_of fs l) (place_of fs k) =
    same_false (same_text k l) (nat_eq (place_of fs l) (place_of fs k))
    (λ e. eq-eqb (place_of fs l) (place_of fs k) (ap (place_of fs) (sym (text_same k l (sym e)))))
    (λ e. ap (same_text k) (sym (one_name fs k l known (eqb-true (place_of fs l) (place_of fs k) e))) ∙ same_text_self k) in
    ap (λ b. b || is_among k ls) one ∙ ap (λ b. nat_eq (place_of fs l) (place_of fs k) || b) (place_again fs k ls known)

pub twice_placed : (fs : List Field) (ks : List (List ℕ)) → has_stranger fs ks ≡ false → has_twice ks ≡ stands_twice (map (place_of fs) ks)
twice_placed fs [] known = refl
twice_placed fs (k ∷ ks) known =
    let x = or_parts (not (list_any (is_name_of k) fs)) (has_stranger fs ks) known in
    ap (λ b. b || has_twice ks) (place_again fs k ks x.0)
    ∙ ap (λ b. list_any (λ m. nat_eq m (place_of fs k)) (map (place_of fs) ks) || b) (twice_placed fs ks x.1)

pub needless_placed : (fs : List Field) (k : List ℕ) (d : Data) → AreNamesApart fs → is_needless fs (k, d) ≡ implicit_at fs (place_of fs k) d
needless_placed [] k d apart = refl
needless_placed (f ∷ fs) k d apart = by (is_name_of k f) refl (needless_placed fs k d apart.1) where
  or_nothing : (a : Bool) → (a || false) ≡ a
  or_nothing true = refl
  or_nothing false = refl

  by : (b : Bool) → is_name_of k f ≡ b → is_needless fs (k, d) ≡ implicit_at fs (place_of fs k) d → ((b && is_implicit f.implicit d) || is_needless fs (k, d)) ≡ implicit_at (f ∷ fs) (cond b zero (suc (place_of fs k))) d
  by true is rest =
      ap (λ c. is_implicit f.implicit d || c) (needless_apart k d fs (apart_names f k (text_same (field_text f) k (sym is)) fs apart.0))
      ∙ or_nothing (is_implicit f.implicit d)
  by false is rest = rest

pub get_at : (fs : List Field) (i : ℕ) (d : Field) → i < length fs → slice_get fs i ≡ Some (get_or fs i d)
get_at [] i d less = absurd (omega arith)
get_at (f ∷ fs) zero d less = refl
get_at (f ∷ fs) (suc i) d less = get_at fs i d (omega arith)

pub implicit_there : (fs : List Field) (n : ℕ) (f : Field) (d : Data) → n < length fs → f ≡ get_or fs n f → implicit_at fs n d ≡ is_implicit f.implicit d
implicit_there [] n f d less at = absurd (omega arith)
implicit_there (g ∷ fs) zero f d less at = ap (λ (h : Field). is_implicit h.implicit d) (sym at)
implicit_there (g ∷ fs) (suc n) f d less at = implicit_there fs n f d (omega arith) at

pub implicit_none : (fs : List Field) (n : ℕ) (d : Data) → length fs ≤ n → implicit_at fs n d ≡ false
implicit_none [] n d past = refl
implicit_none (g ∷ fs) zero d past = absurd (omega arith)
implicit_none (g ∷ fs) (suc n) d past = implicit_none fs n d (omega arith)

-- a guess
pub guessed : (fs : List Field) (i : ℕ) (f : Field) (k : List ℕ) → i < length fs → f ≡ get_or fs i f → same_text (field_text f) k ≡ true → AreNamesApart fs → i ≡ place_of fs k
guessed fs i f k less is same apart = eqb-true i (place_of fs k) (name_at fs i f k apart (get_at fs i f less ∙ ap Some (sym is)) ∙ same)
