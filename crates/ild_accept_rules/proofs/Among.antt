-- Parts that are told apart by their names and texts from those before them.
use Rattle.std.proofs.Common.{◌≡◌, ℕ, zero, suc, ℤ, ◌+◌, ◌<◌, ◌≤◌, ◌==◌, Bool, true, false, cond, ◌&&◌, ◌||◌, List, [], ◌∷◌, Option, Some, None, is_some, length, take, get_or, refl, sym, ap, ◌∙◌, arith}
use Rattle.std.specs.Prelude.{bytes_eq, Decides}
use Rattle.std.specs.List.{list_any, position_from}
use Rattle.std.specs.Option.{option_map_or, option_and_then}
use Rattle.std.specs.Bool.{one_answer}
use Rattle.std.proofs.lemmas.List.Folds.{list_any-append}
use Rattle.std.proofs.lemmas.Bool.{lt-ltb}
use Rattle.std.proofs.lemmas.Bool.Decides.{Decides-eqb}
use Rattle.ild_schema.specs.declared.def.EnumDef.{EnumDef}
use Rattle.ild_schema.specs.declared.def.EnumForm.TheVariants as E
use Rattle.ild_schema.specs.declared.def.EnumMember.{EnumMember}
use Rattle.ild_schema.specs.declared.def.Field.{Field}
use Rattle.ild_schema.specs.declared.def.Member.{Member}
use Rattle.ild_schema.specs.declared.def.StructDef.{StructDef}
use Rattle.ild_schema.specs.declared.def.TypeDef.TheVariants as D
use Rattle.ild_schema.specs.declared.def.UnionDef.{UnionDef}
use Rattle.ild_schema.specs.declared.def.UnionForm.{UnionForm}
use Rattle.ild_schema.specs.declared.def.UnionForm.TheVariants as U
use Rattle.ild_schema.specs.declared.row.Row.{Row}
use Rattle.ild_schema.specs.Clashes.{is_field_again, is_value_again, is_member_again, are_equal, are_same, discriminant_of, has_field, is_key_taken}
use Rattle.ild_schema.specs.Marks.{mark_text, field_text, is_marked, is_valued, member_text, member_integer}
use Rattle.ild_schema.specs.Parts.{is_text, part_named, part_spelled}
use Rattle.ild_schema.specs.Table.{def_at}
use Rattle.ild_accept_rules.specs.inside.Seen.{first_named, first_spelled, is_before, is_one, is_seen}
use Rattle.ild_accept_rules.proofs.Stepping.{take_here}
use Rattle.ild_accept_rules.proofs.Texts.{bytes_eq_back, bytes_same, texts_same, texts_differ}

-- ---- the first part with a text, and the parts before one

not_before : {A : Type 0} (p : A → Bool) (xs : List A) (k n : ℕ) → n ≤ k → is_before n (position_from p k xs) ≡ false
not_before p [] k n h = refl
not_before p (x ∷ xs) k n h = by (p x) (not_before p xs (k + 1) n (omega (arith, h)))
  where
    by : (b : Bool) → is_before n (position_from p (k + 1) xs) ≡ false → is_before n (cond b (Some k) (position_from p (k + 1) xs)) ≡ false
    by true g = grind (arith, h)
    by false g = g

before_from : {A : Type 0} (p : A → Bool) (xs : List A) (k i n : ℕ) → n ≡ k + i → is_before n (position_from p k xs) ≡ list_any p (take i xs)
before_from p [] k zero n e = refl
before_from p [] k (suc i) n e = refl
before_from p (x ∷ xs) k zero n e = not_before p (x ∷ xs) k n (omega (arith, e))
before_from p (x ∷ xs) k (suc i) n e = by (p x) (before_from p xs (k + 1) i n (omega (arith, e)))
  where
    by : (b : Bool) → is_before n (position_from p (k + 1) xs) ≡ list_any p (take i xs) → is_before n (cond b (Some k) (position_from p (k + 1) xs)) ≡ b || list_any p (take i xs)
    by true g = lt-ltb k n (omega (arith, e))
    by false g = g

-- some part before one has a text exactly where the first that has it stands before it
pub before_is : {A : Type 0} (p : A → Bool) (xs : List A) (i : ℕ) → is_before i (position_from p 0 xs) ≡ list_any p (take i xs)
before_is p xs i = before_from p xs 0 i i (omega arith)

-- some part has a text exactly where a first one is found
found_from : {A : Type 0} (p : A → Bool) (xs : List A) (k : ℕ) → is_some (position_from p k xs) ≡ list_any p xs
found_from p [] k = refl
found_from p (x ∷ xs) k = by (p x) (found_from p xs (k + 1))
  where
    by : (b : Bool) → is_some (position_from p (k + 1) xs) ≡ list_any p xs → is_some (cond b (Some k) (position_from p (k + 1) xs)) ≡ b || list_any p xs
    by true g = refl
    by false g = g

-- ---- two names that have one first part

or_true : (b : Bool) → b || true ≡ true
or_true true = refl
or_true false = refl

and_true : (b : Bool) → b && true ≡ b
and_true true = refl
and_true false = refl

and_false : (b : Bool) → b && false ≡ false
and_false true = refl
and_false false = refl

same_one : (k : ℕ) → k == k ≡ true
same_one k = (Decides-eqb k k).1 refl

eq_back : (a b : ℕ) → a == b ≡ b == a
eq_back a b =
    let d : Decides (b == a) (b ≡ a) = Decides-eqb b a in
    one_answer (a == b) (b == a) (Decides-eqb a b) (λ e. sym (d.0 e), λ e. d.1 (sym e))

behind : {A : Type 0} (p : A → Bool) (xs : List A) (k n : ℕ) → k < n → is_one (Some k) (position_from p n xs) ≡ false
behind p [] k n h = refl
behind p (x ∷ xs) k n h = by (p x) (behind p xs k (n + 1) (omega (arith, h)))
  where
    by : (b : Bool) → is_one (Some k) (position_from p (n + 1) xs) ≡ false → is_one (Some k) (cond b (Some n) (position_from p (n + 1) xs)) ≡ false
    by true g = grind (arith, h)
    by false g = g

one_back : (o r : Option ℕ) → is_one o r ≡ is_one r o
one_back None None = refl
one_back None (Some b) = refl
one_back (Some a) None = refl
one_back (Some a) (Some b) = eq_back a b

one_from : {A : Type 0} (text : A → List ℕ) (q t : List ℕ) (xs : List A) (k : ℕ)
    → is_one (position_from (λ o. bytes_eq q (text o)) k xs) (position_from (λ o. bytes_eq t (text o)) k xs) ≡ bytes_eq q t && list_any (λ o. bytes_eq t (text o)) xs
one_from text q t [] k = sym (and_false (bytes_eq q t))
one_from {A} text q t (x ∷ xs) k = by (bytes_eq q (text x)) (bytes_eq t (text x)) refl refl (one_from text q t xs (k + 1))
  where
    at : List ℕ → Option ℕ
    at p = position_from (λ o. bytes_eq p (text o)) (k + 1) xs

    by : (a b : Bool) → bytes_eq q (text x) ≡ a → bytes_eq t (text x) ≡ b → is_one (at q) (at t) ≡ bytes_eq q t && list_any (λ o. bytes_eq t (text o)) xs
        → is_one (cond a (Some k) (at q)) (cond b (Some k) (at t)) ≡ bytes_eq q t && (b || list_any (λ o. bytes_eq t (text o)) xs)
    by true true e f g = same_one k ∙ sym (ap (λ c. c && true) (texts_same q t (text x) e f))
    by true false e f g = behind (λ o. bytes_eq t (text o)) xs k (k + 1) (omega arith) ∙ sym (ap (λ c. c && list_any (λ o. bytes_eq t (text o)) xs) (texts_differ q t (text x) e f))
    by false true e f g = one_back (at q) (Some k) ∙ behind (λ o. bytes_eq q (text o)) xs k (k + 1) (omega arith) ∙ sym (ap (λ c. c && true) (bytes_eq_back q t ∙ texts_differ t q (text x) f e))
    by false false e f g = g

any_here : {A : Type 0} (p : A → Bool) (xs : List A) (i : ℕ) (x : A) → i < length xs → x ≡ get_or xs i x → p x ≡ true → list_any p xs ≡ true
any_here p [] i x within here h = absurd (omega (arith, within))
any_here p (y ∷ ys) zero x within here h = ap (λ z. p z || list_any p ys) (sym here) ∙ ap (λ b. b || list_any p ys) h
any_here p (y ∷ ys) (suc i) x within here h = ap (λ b. p y || b) (any_here p ys i x (omega (arith, within)) here h) ∙ or_true (p y)

-- a name has the first part of another that a part has exactly where they are equal
pub one_is : {A : Type 0} (text : A → List ℕ) (q : List ℕ) (xs : List A) (i : ℕ) (x : A) → i < length xs → x ≡ get_or xs i x
    → is_one (position_from (λ o. bytes_eq q (text o)) 0 xs) (position_from (λ o. bytes_eq (text x) (text o)) 0 xs) ≡ bytes_eq q (text x)
one_is text q xs i x within here =
    one_from text q (text x) xs 0
    ∙ ap (λ b. bytes_eq q (text x) && b) (any_here (λ o. bytes_eq (text x) (text o)) xs i x within here (bytes_same (text x)))
    ∙ and_true (bytes_eq q (text x))

-- ---- what was seen of the parts before one

or_swap : (a b c d : Bool) → (a || b) || (c || d) ≡ (a || c) || (b || d)
or_swap true b c d = refl
or_swap false true true d = refl
or_swap false true false d = refl
or_swap false false true d = refl
or_swap false false false d = refl

and_or : (a b c : Bool) → a && (b || c) ≡ (a && b) || (a && c)
and_or true b c = refl
and_or false b c = refl

-- whether one of two texts is among those of parts of a sort
any_both : {A : Type 0} (ok p r : A → Bool) (xs : List A) → list_any (λ x. ok x && (p x || r x)) xs ≡ list_any (λ x. ok x && p x) xs || list_any (λ x. ok x && r x) xs
any_both ok p r [] = refl
any_both ok p r (x ∷ xs) =
    ap (λ b. b || list_any (λ y. ok y && (p y || r y)) xs) (and_or (ok x) (p x) (r x))
    ∙ ap (λ b. ((ok x && p x) || (ok x && r x)) || b) (any_both ok p r xs)
    ∙ or_swap (ok x && p x) (ok x && r x) (list_any (λ y. ok y && p y) xs) (list_any (λ y. ok y && r y) xs)

any_never : {A : Type 0} (ok : A → Bool) (xs : List A) → list_any (λ x. ok x && false) xs ≡ false
any_never ok [] = refl
any_never ok (x ∷ xs) = ap (λ b. b || list_any (λ y. ok y && false) xs) (and_false (ok x)) ∙ any_never ok xs

any_same : {A : Type 0} (p r : A → Bool) → ((x : A) → p x ≡ r x) → (xs : List A) → list_any p xs ≡ list_any r xs
any_same p r same [] = refl
any_same p r same (x ∷ xs) = ap (λ b. b || list_any p xs) (same x) ∙ ap (λ b. r x || b) (any_same p r same xs)

one_of : (a b : Bool) → cond b true a ≡ a || (b || false)
one_of true true = refl
one_of true false = refl
one_of false true = refl
one_of false false = refl

-- what is among the parts up to one
pub among_next : {Q A : Type 0} (test : Q → A → Bool) (xs : List A) (i : ℕ) (x : A) (old new : Q → Bool) → i < length xs → x ≡ get_or xs i x
    → ((q : Q) → old q ≡ list_any (test q) (take i xs)) → ((q : Q) → new q ≡ cond (test q x) true (old q)) → (q : Q) → new q ≡ list_any (test q) (take (i + 1) xs)
among_next test xs i x old new within here all next q =
    next q ∙ one_of (old q) (test q x) ∙ ap (λ b. b || (test q x || false)) (all q)
    ∙ sym (list_any-append (test q) (take i xs) (x ∷ [])) ∙ ap (list_any (test q)) (sym (take_here xs i x within here))

-- the names of the parts of a sort up to one, each by the first part that has it
pub names_next : {A : Type 0} (name : A → List ℕ) (ok : A → Bool) (first : List ℕ → Option ℕ) (xs : List A) (i : ℕ) (x : A) (old new : List Bool) → i < length xs → x ≡ get_or xs i x
    → ((q : List ℕ) → first q ≡ position_from (λ o. bytes_eq q (name o)) 0 xs) → ((q : List ℕ) → is_seen old (first q) ≡ list_any (λ g. ok g && bytes_eq q (name g)) (take i xs))
    → ((o : Option ℕ) → is_seen new o ≡ cond (ok x && is_one o (first (name x))) true (is_seen old o)) → (q : List ℕ) → is_seen new (first q) ≡ list_any (λ g. ok g && bytes_eq q (name g)) (take (i + 1) xs)
names_next name ok first xs i x old new within here is all next =
    among_next (λ q g. ok g && bytes_eq q (name g)) xs i x (λ q. is_seen old (first q)) (λ q. is_seen new (first q)) within here all (λ q.
    next (first q) ∙ ap (λ b. cond (ok x && b) true (is_seen old (first q))) (
    ap (λ o. is_one o (first (name x))) (is q) ∙ ap (is_one (position_from (λ o. bytes_eq q (name o)) 0 xs)) (is (name x)) ∙ one_is name q xs i x within here
    )
    )

-- a field beside those before it
pub field_judged : (rows : List Row) (n i : ℕ) (s : StructDef) (f : Field) (b : Bool) → def_at rows n ≡ Some (D.Struct s)
    → b ≡ is_before i (first_named rows n f.name) || is_before i (first_spelled rows n (field_text f)) → is_field_again (take i s.fields) f ≡ b
field_judged rows n i s f b def e =
    any_both (λ g. true) (λ g. bytes_eq f.name g.name) (λ g. bytes_eq (field_text f) (field_text g)) (take i s.fields)
    ∙ sym (
    e
    ∙ ap (λ o. is_before i (option_and_then (part_named f.name) o) || is_before i (option_and_then (part_spelled (field_text f)) o)) def
    ∙ ap (λ c. c || is_before i (position_from (λ g. bytes_eq (field_text f) (field_text g)) 0 s.fields)) (before_is (λ g. bytes_eq f.name g.name) s.fields i)
    ∙ ap (λ c. list_any (λ g. bytes_eq f.name g.name) (take i s.fields) || c) (before_is (λ g. bytes_eq (field_text f) (field_text g)) s.fields i)
    )

-- a member of an enum of texts beside those before it
pub text_judged : (rows : List Row) (n i : ℕ) (e : EnumDef) (m : EnumMember) (b : Bool) → def_at rows n ≡ Some (D.Enum e)
    → b ≡ is_before i (first_named rows n m.name) || is_before i (first_spelled rows n (member_text m)) → is_value_again E.Text (take i e.members) m ≡ b
text_judged rows n i e m b def is =
    any_both (λ g. true) (λ g. bytes_eq m.name g.name) (λ g. bytes_eq (member_text m) (member_text g)) (take i e.members)
    ∙ sym (
    is
    ∙ ap (λ o. is_before i (option_and_then (part_named m.name) o) || is_before i (option_and_then (part_spelled (member_text m)) o)) def
    ∙ ap (λ c. c || is_before i (position_from (λ g. bytes_eq (member_text m) (member_text g)) 0 e.members)) (before_is (λ g. bytes_eq m.name g.name) e.members i)
    ∙ ap (λ c. list_any (λ g. bytes_eq m.name g.name) (take i e.members) || c) (before_is (λ g. bytes_eq (member_text m) (member_text g)) e.members i)
    )

-- the integer of a member of an enum beside those of members before it
integer_among : (before : List EnumMember) (numbers : ℤ → Bool) (o : Option ℤ) → ((q : ℤ) → numbers q ≡ list_any (λ g. is_valued E.Int g && are_equal (Some q) (member_integer g)) before)
    → option_map_or numbers o false ≡ list_any (λ g. is_valued E.Int g && are_equal o (member_integer g)) before
integer_among before numbers None told = sym (any_never (is_valued E.Int) before)
integer_among before numbers (Some q) told = told q

-- a member of an enum of integers beside those before it
pub integer_judged : (before : List EnumMember) (m : EnumMember) (names : List ℕ → Bool) (numbers : ℤ → Bool) (b : Bool) → ((q : List ℕ) → names q ≡ list_any (λ g. is_valued E.Int g && bytes_eq q g.name) before)
    → ((q : ℤ) → numbers q ≡ list_any (λ g. is_valued E.Int g && are_equal (Some q) (member_integer g)) before)
    → b ≡ is_valued E.Int m && (names m.name || option_map_or numbers (member_integer m) false) → is_value_again E.Int before m ≡ b
integer_judged before m names numbers b named told e =
    ap (λ c. is_valued E.Int m && c) (
    any_both (is_valued E.Int) (λ g. bytes_eq m.name g.name) (λ g. are_equal (member_integer m) (member_integer g)) before
    ∙ sym (ap (λ c. c || option_map_or numbers (member_integer m) false) (named m.name)
    ∙ ap (λ c. list_any (λ g. is_valued E.Int g && bytes_eq m.name g.name) before || c) (integer_among before numbers (member_integer m) told))
    )
    ∙ sym e

told_here : (text : List ℕ) (o : Option (List ℕ)) → is_text text o ≡ is_some o && are_same (Some text) o
told_here text None = refl
told_here text (Some t) = refl

told_of : (form : UnionForm) (ms : List Member) (i : ℕ) (o : Option (List ℕ)) → ((t : List ℕ) (g : Member) → is_text t (mark_text g.mark) ≡ is_marked form g && are_same (Some t) (discriminant_of form g))
    → option_map_or (λ t. is_before i (position_from (λ g. is_text t (mark_text g.mark)) 0 ms)) o false ≡ list_any (λ g. is_marked form g && are_same o (discriminant_of form g)) (take i ms)
told_of form ms i None is = sym (any_never (is_marked form) (take i ms))
told_of form ms i (Some t) is = before_is (λ g. is_text t (mark_text g.mark)) ms i ∙ any_same (λ g. is_text t (mark_text g.mark)) (λ g. is_marked form g && are_same (Some t) (discriminant_of form g)) (is t) (take i ms)

-- the discriminant of a member of a union beside those of members before it
told_among : (form : UnionForm) (m : Member) (ms : List Member) (i : ℕ)
    → option_map_or (λ t. is_before i (position_from (λ g. is_text t (mark_text g.mark)) 0 ms)) (discriminant_of form m) false ≡ list_any (λ g. is_marked form g && are_same (discriminant_of form m) (discriminant_of form g)) (take i ms)
told_among U.Keyed m ms i = told_of U.Keyed ms i (mark_text m.mark) (λ t g. told_here t (mark_text g.mark))
told_among (U.Envelope d c) m ms i = told_of (U.Envelope d c) ms i (mark_text m.mark) (λ t g. told_here t (mark_text g.mark))
told_among (U.Inline d) m ms i = told_of (U.Inline d) ms i (mark_text m.mark) (λ t g. told_here t (mark_text g.mark))
told_among U.Kinded m ms i = sym (any_never (is_marked U.Kinded) (take i ms))
told_among U.StringPrefix m ms i = sym (any_never (is_marked U.StringPrefix) (take i ms))
told_among U.BytesPrefix m ms i = sym (any_never (is_marked U.BytesPrefix) (take i ms))

-- a member of a union beside those before it
pub member_judged : (rows : List Row) (n i : ℕ) (u : UnionDef) (m : Member) (names : List ℕ → Bool) (b : Bool) → def_at rows n ≡ Some (D.Union u)
    → ((q : List ℕ) → names q ≡ list_any (λ g. is_marked u.form g && bytes_eq q g.name) (take i u.members))
    → b ≡ is_marked u.form m && ((names m.name || option_map_or (λ text. is_before i (first_spelled rows n text)) (discriminant_of u.form m) false) || is_key_taken rows u.form m)
    → is_member_again rows u.form (take i u.members) m ≡ b
member_judged rows n i u m names b def named e =
    let told : option_map_or (λ text. is_before i (first_spelled rows n text)) (discriminant_of u.form m) false
    ≡ list_any (λ g. is_marked u.form g && are_same (discriminant_of u.form m) (discriminant_of u.form g)) (take i u.members) =
    ap (λ o. option_map_or (λ text. is_before i (option_and_then (part_spelled text) o)) (discriminant_of u.form m) false) def ∙ told_among u.form m u.members i in
    ap (λ c. is_marked u.form m && (c || is_key_taken rows u.form m)) (
    any_both (is_marked u.form) (λ g. bytes_eq m.name g.name) (λ g. are_same (discriminant_of u.form m) (discriminant_of u.form g)) (take i u.members)
    ∙ sym (ap (λ c. c || option_map_or (λ text. is_before i (first_spelled rows n text)) (discriminant_of u.form m) false) (named m.name)
    ∙ ap (λ c. list_any (λ g. is_marked u.form g && bytes_eq m.name g.name) (take i u.members) || c) told)
    )
    ∙ sym e

-- a struct has a field of a name in a block exactly where one is found
pub key_found : (rows : List Row) (n : ℕ) (key : List ℕ) (s : StructDef) (found : Option ℕ) → def_at rows n ≡ Some (D.Struct s) → found ≡ first_spelled rows n key → is_some found ≡ has_field key (def_at rows n)
key_found rows n key s found def is =
    ap is_some (is ∙ ap (λ o. option_and_then (part_spelled key) o) def) ∙ found_from (λ f. bytes_eq key (field_text f)) s.fields 0 ∙ sym (ap (has_field key) def)
