-- No spelling begins another, and two trees have two spellings.
use Rattle.std.proofs.Common.{ltb, cond, ◌≡◌, ℕ, ◌+◌, ◌^◌, ◌<◌, true, false, List, [], ◌∷◌, ◌++◌, length, length-append, append_assoc, append-nil, refl, sym, ap, subst, ◌∙◌, arith}
use Rattle.std.specs.Prelude.{◌==◌, ℤ, pos, negsuc, Bool}
use Rattle.ild_data.specs.Data.{Data, null, boolean, integer, text, bytes, list, map, link, Items, no_items, item, Members, no_members, member, items_list, members_list}
use Rattle.ild_data.specs.Spell.{head, spell, spell_text, spell_bytes, spell_items, spell_members}
use Rattle.ild_data.specs.Tree.{IsTree, AreTrees, AreEntries}
use Rattle.ild_data.specs.Shape.{major_of, argument_of, string_of, parts_of}
use Rattle.ild_data.specs.Spellings.{OneSpelling, OneMeaning}
use Rattle.ild_data.proofs.Shapes.{spell_shape, argument_small, keys_and_values-spell}
use Rattle.ild_data.proofs.Heads.{others_of, same_string, one_head}

-- a string with its head
same_piece : (major : ℕ) (s t x y : List ℕ) → length s < 2 ^ 64 → length t < 2 ^ 64 → (head major (length s) ++ s) ++ x ≡ (head major (length t) ++ t) ++ y → (s ≡ t) × (x ≡ y)
same_piece major s t x y small short same =
    let e : head major (length s) ++ (s ++ x) ≡ head major (length t) ++ (t ++ y) = sym (append_assoc (head major (length s)) s x) ∙ same ∙ append_assoc (head major (length t)) t y in
    let h = one_head major major (length s) (length t) (s ++ x) (t ++ y) small short e in
    same_string s t x y h.argument h.rest

-- what stands behind the head of a tree, in front of some bytes
abbrev body_of : Data → List ℕ → List ℕ
body_of t x = string_of t ++ (spell_items (parts_of t) ++ x)

-- two spellings in front of some bytes begin with one head
record SameShape (d e : Data) (x y : List ℕ) : Type 0 where
  pub major : major_of d ≡ major_of e
  pub argument : argument_of d ≡ argument_of e
  pub body : body_of d x ≡ body_of e y

shaped : (t : Data) (x : List ℕ) → spell t ++ x ≡ head (major_of t) (argument_of t) ++ body_of t x
shaped t x =
    ap (λ (s : List ℕ). s ++ x) (spell_shape t) ∙ append_assoc (head (major_of t) (argument_of t)) (string_of t ++ spell_items (parts_of t)) x
    ∙ ap (λ (s : List ℕ). head (major_of t) (argument_of t) ++ s) (append_assoc (string_of t) (spell_items (parts_of t)) x)

same_shape : (d e : Data) (x y : List ℕ) → IsTree d → IsTree e → length (spell d) < 2 ^ 64 → length (spell e) < 2 ^ 64 → spell d ++ x ≡ spell e ++ y → SameShape d e x y
same_shape d e x y p q small short same =
    let h = one_head (major_of d) (major_of e) (argument_of d) (argument_of e) (body_of d x) (body_of e y) (argument_small d p small) (argument_small e q short) (sym (shaped d x) ∙ same ∙ shaped e y) in
    record { major = h.major; argument = h.argument; body = h.rest }

-- the number of a tree's constructor, which the head tells
abbrev sort : Data → ℕ
sort null = 0
sort (boolean b) = 1
sort (integer n) = 2
sort (bytes s) = 3
sort (text s) = 4
sort (list ds) = 5
sort (map ms) = 6
sort (link s) = 7

abbrev told : ℕ → ℕ → ℕ
told major n = cond (ltb major 2) 2 (cond (ltb major 7) (major + 1) (cond (n == 22) 0 1))

sort_told : (t : Data) → told (major_of t) (argument_of t) ≡ sort t
sort_told null = refl
sort_told (boolean true) = refl
sort_told (boolean false) = refl
sort_told (integer (pos n)) = refl
sort_told (integer (negsuc n)) = refl
sort_told (bytes s) = refl
sort_told (text s) = refl
sort_told (list ds) = refl
sort_told (map ms) = refl
sort_told (link s) = refl

-- trees of one constructor
abbrev Alike : Data → Data → Type 0
Alike null null = Unit {0}
Alike (boolean a) (boolean b) = Unit {0}
Alike (integer n) (integer m) = Unit {0}
Alike (bytes s) (bytes t) = Unit {0}
Alike (text s) (text t) = Unit {0}
Alike (list ds) (list es) = Unit {0}
Alike (map ms) (map ns) = Unit {0}
Alike (link s) (link t) = Unit {0}
Alike d e = ⊥

alike_by : (d e : Data) → sort d ≡ sort e → Alike d e
alike_by null null same = tt
alike_by (boolean a) (boolean b) same = tt
alike_by (integer n) (integer m) same = tt
alike_by (bytes s) (bytes t) same = tt
alike_by (text s) (text t) same = tt
alike_by (list ds) (list es) same = tt
alike_by (map ms) (map ns) same = tt
alike_by (link s) (link t) same = tt
alike_by d e same = absurd cc

alike : (d e : Data) (x y : List ℕ) → SameShape d e x y → Alike d e
alike d e x y h = alike_by d e (sym (sort_told d) ∙ ap (λ (k : ℕ). told k (argument_of d)) h.major ∙ ap (told (major_of e)) h.argument ∙ sort_told e)

boolean_told : (b : Bool) → (argument_of (boolean b) == 21) ≡ b
boolean_told true = refl
boolean_told false = refl

same_boolean : (a b : Bool) → argument_of (boolean a) ≡ argument_of (boolean b) → a ≡ b
same_boolean a b same = sym (boolean_told a) ∙ ap (λ (k : ℕ). k == 21) same ∙ boolean_told b

abbrev integer_by : ℕ → ℕ → ℤ
integer_by major n = cond (major == 0) (pos n) (negsuc n)

integer_told : (n : ℤ) → integer_by (major_of (integer n)) (argument_of (integer n)) ≡ n
integer_told (pos n) = refl
integer_told (negsuc n) = refl

same_integer : (n m : ℤ) → major_of (integer n) ≡ major_of (integer m) → argument_of (integer n) ≡ argument_of (integer m) → n ≡ m
same_integer n m major argument =
    sym (integer_told n) ∙ ap (λ (k : ℕ). integer_by k (argument_of (integer n))) major ∙ ap (integer_by (major_of (integer m))) argument ∙ integer_told m

same_link : (s t x y : List ℕ) → length s + 1 < 2 ^ 64 → length t + 1 < 2 ^ 64 → (spell_bytes (0 ∷ s) ++ []) ++ x ≡ (spell_bytes (0 ∷ t) ++ []) ++ y → (s ≡ t) × (x ≡ y)
same_link s t x y small short same =
    let e : spell_bytes (0 ∷ s) ++ x ≡ spell_bytes (0 ∷ t) ++ y = ap (λ (u : List ℕ). u ++ x) (sym (append-nil (spell_bytes (0 ∷ s)))) ∙ same ∙ ap (λ (u : List ℕ). u ++ y) (append-nil (spell_bytes (0 ∷ t))) in
    let h = same_piece 2 (0 ∷ s) (0 ∷ t) x y (omega arith) (omega arith) e in
    (ap others_of h.0, h.1)

-- a key, its value and the other entries, in front of some bytes
cut : (k : List ℕ) (d : Data) (ms : Members) (x : List ℕ) → spell_members (member k d ms) ++ x ≡ spell_text k ++ (spell d ++ (spell_members ms ++ x))
cut k d ms x = append_assoc (spell_text k ++ spell d) (spell_members ms) x ∙ append_assoc (spell_text k) (spell d) (spell_members ms ++ x)

mutual
  same_data : (d e : Data) (x y : List ℕ) → IsTree d → IsTree e → length (spell d) < 2 ^ 64 → length (spell e) < 2 ^ 64 → Alike d e → SameShape d e x y → (d ≡ e) × (x ≡ y)
  same_data null null x y p q small short k h = (refl, h.body)
  same_data (boolean a) (boolean b) x y p q small short k h = (ap boolean (same_boolean a b h.argument), h.body)
  same_data (integer n) (integer m) x y p q small short k h = (ap integer (same_integer n m h.major h.argument), h.body)
  same_data (text s) (text t) x y p q small short k h = let r = same_string s t x y h.argument h.body in (ap text r.0, r.1)
  same_data (bytes s) (bytes t) x y p q small short k h = let r = same_string s t x y h.argument h.body in (ap bytes r.0, r.1)
  same_data (list ds) (list es) x y p q small short k h =
      let a = length-append (head 4 (length (items_list ds))) (spell_items ds) in
      let b = length-append (head 4 (length (items_list es))) (spell_items es) in
      let r = same_items ds es x y p q (omega arith) (omega arith) h.argument h.body in
      (ap list r.0, r.1)
  same_data (map ms) (map ns) x y p q small short k h =
      let a = length-append (head 5 (length (members_list ms))) (spell_members ms) in
      let b = length-append (head 5 (length (members_list ns))) (spell_members ns) in
      let r = same_members ms ns x y p q (omega arith) (omega arith) h.argument (ap (λ (s : List ℕ). s ++ x) (keys_and_values-spell ms) ∙ h.body ∙ ap (λ (s : List ℕ). s ++ y) (sym (keys_and_values-spell ns))) in
      (ap map r.0, r.1)
  same_data (link s) (link t) x y p q small short k h =
      let a = length-append (head 2 (length (0 ∷ s))) (0 ∷ s) in
      let b = length-append (head 2 (length (0 ∷ t))) (0 ∷ t) in
      let r = same_link s t x y (omega arith) (omega arith) h.body in
      (ap link r.0, r.1)
  same_data d e x y p q small short k h = absurd k

  same_items : (ds es : Items) (x y : List ℕ) → AreTrees ds → AreTrees es → length (spell_items ds) < 2 ^ 64 → length (spell_items es) < 2 ^ 64 → length (items_list ds) ≡ length (items_list es) → spell_items ds ++ x ≡ spell_items es ++ y → (ds ≡ es) × (x ≡ y)
  same_items no_items no_items x y p q small short count same = (refl, same)
  same_items no_items (item e es) x y p q small short count same = absurd (omega arith)
  same_items (item d ds) no_items x y p q small short count same = absurd (omega arith)
  same_items (item d ds) (item e es) x y p q small short count same =
      let a = length-append (spell d) (spell_items ds) in
      let b = length-append (spell e) (spell_items es) in
      let whole : spell d ++ (spell_items ds ++ x) ≡ spell e ++ (spell_items es ++ y) = sym (append_assoc (spell d) (spell_items ds) x) ∙ same ∙ append_assoc (spell e) (spell_items es) y in
      let shape = same_shape d e (spell_items ds ++ x) (spell_items es ++ y) p.0 q.0 (omega arith) (omega arith) whole in
      let first = same_data d e (spell_items ds ++ x) (spell_items es ++ y) p.0 q.0 (omega arith) (omega arith) (alike d e (spell_items ds ++ x) (spell_items es ++ y) shape) shape in
      let others = same_items ds es x y p.1 q.1 (omega arith) (omega arith) (omega arith) first.1 in
      (λ i. item (first.0 i) (others.0 i), others.1)

  same_members : (ms ns : Members) (x y : List ℕ) → AreEntries ms → AreEntries ns → length (spell_members ms) < 2 ^ 64 → length (spell_members ns) < 2 ^ 64 → length (members_list ms) ≡ length (members_list ns) → spell_members ms ++ x ≡ spell_members ns ++ y → (ms ≡ ns) × (x ≡ y)
  same_members no_members no_members x y p q small short count same = (refl, same)
  same_members no_members (member l e ns) x y p q small short count same = absurd (omega arith)
  same_members (member k d ms) no_members x y p q small short count same = absurd (omega arith)
  same_members (member k d ms) (member l e ns) x y p q small short count same =
      let a = length-append (spell_text k ++ spell d) (spell_members ms) in
      let b = length-append (spell_text l ++ spell e) (spell_members ns) in
      let c = length-append (spell_text k) (spell d) in
      let f = length-append (spell_text l) (spell e) in
      let g = length-append (head 3 (length k)) k in
      let h = length-append (head 3 (length l)) l in
      let whole : spell_text k ++ (spell d ++ (spell_members ms ++ x)) ≡ spell_text l ++ (spell e ++ (spell_members ns ++ y)) = sym (cut k d ms x) ∙ same ∙ cut l e ns y in
      let key = same_piece 3 k l (spell d ++ (spell_members ms ++ x)) (spell e ++ (spell_members ns ++ y)) (omega arith) (omega arith) whole in
      let shape = same_shape d e (spell_members ms ++ x) (spell_members ns ++ y) p.1 q.1 (omega arith) (omega arith) key.1 in
      let first = same_data d e (spell_members ms ++ x) (spell_members ns ++ y) p.1 q.1 (omega arith) (omega arith) (alike d e (spell_members ms ++ x) (spell_members ns ++ y) shape) shape in
      let others = same_members ms ns x y p.3 q.3 (omega arith) (omega arith) (omega arith) first.1 in
      (λ i. member (key.0 i) (first.0 i) (others.0 i), others.1)

pub one_spelling : OneSpelling
one_spelling d e x y p q small short same = let shape = same_shape d e x y p q small short same in same_data d e x y p q small short (alike d e x y shape) shape

pub one_meaning : OneMeaning
one_meaning d e p q small same = (one_spelling d e [] [] p q small (subst (λ (s : List ℕ). length s < 2 ^ 64) same small) (ap (λ (s : List ℕ). s ++ []) same)).0
