-- The data of a struct tell its fields.
use Rattle.std.proofs.Common.{◌≡◌, ℕ, suc, List, [], ◌∷◌, ◌++◌, length, Bool, true, false, cond, Option, Some, None, refl, sym, ◌∙◌, ap}
use Rattle.std.specs.Prelude.{ℤ, pos, negsuc}
use Rattle.std.specs.List.{AllByRecursion}
use Rattle.std.specs.Cmp.Lexicographic.{same_text as text_same, other_text}
use Rattle.std.proofs.lemmas.Option.{same_Some, none-some}
use Rattle.std.proofs.lemmas.Bool.{eqb-true, and_parts}
use Rattle.ild_data.specs.Data as T
use Rattle.ild_data.specs.Data.{Data}
use Rattle.ild_data.specs.Key.{same_text, value_at}
use Rattle.ild_schema.specs.declared.def.Field.{Field}
use Rattle.ild_schema.specs.declared.def.Scalar.{Scalar}
use Rattle.ild_schema.specs.declared.def.Scalar.TheVariants as C
use Rattle.ild_typed.specs.Fields.{same_bool, same_int, is_scalar, is_implicit, entries_of, field_entries, are_absent, tuple_items, all_items}
use Rattle.ild_schema.specs.Marks.{field_text}
use Rattle.ild_schema.specs.Clear.{AreNamesApart, IsRequired, AreClearFields}
use Rattle.ild_typed.proofs.Basics.{map_from, true_from}
use Rattle.ild_typed.proofs.Entries.{value_first}

-- ---- the implicit value

abbrev pub scalar_data : Scalar → Data
scalar_data (C.Bool b) = T.boolean b
scalar_data (C.Int n) = T.integer n
scalar_data (C.Text s) = T.text s

bool_same : (a b : Bool) → same_bool a b ≡ true → a ≡ b
bool_same true b e = sym e
bool_same false true e = absurd cc
bool_same false false e = refl

pub int_same : (a b : ℤ) → same_int a b ≡ true → a ≡ b
int_same (pos m) (pos n) e = ap pos (eqb-true m n e)
int_same (negsuc m) (negsuc n) e = ap negsuc (eqb-true m n e)
int_same (pos m) (negsuc n) e = absurd cc
int_same (negsuc m) (pos n) e = absurd cc

pub scalar_same : (s : Scalar) (d : Data) → is_scalar s d ≡ true → d ≡ scalar_data s
scalar_same (C.Bool a) (T.boolean b) e = ap T.boolean (sym (bool_same a b e))
scalar_same (C.Int a) (T.integer b) e = ap T.integer (sym (int_same a b e))
scalar_same (C.Text a) (T.text b) e = ap T.text (sym (text_same a b (sym e)))
scalar_same s d e = absurd cc

implicit_same : (o : Option Scalar) (d e : Data) → is_implicit o d ≡ true → is_implicit o e ≡ true → d ≡ e
implicit_same None d e h k = absurd cc
implicit_same (Some s) d e h k = scalar_same s d h ∙ sym (scalar_same s e k)

implicit_there : (o : Option Scalar) (d : Data) → o ≡ None → is_implicit o d ≡ true → ⊥
implicit_there None d n h = absurd cc
implicit_there (Some s) d n h = absurd cc

-- ---- one field

abbrev pub written : Field → Option Data → List (List ℕ × Data)
written f None = []
written f (Some d) = entries_of f d

pub record FieldOf (f : Field) (fs : List Field) (o : Option Data) (os : List (Option Data)) (ps : List (List ℕ × Data)) : Type 0 where
  pub rest : List (List ℕ × Data)
  pub later : field_entries fs os ≡ Some rest
  pub is : ps ≡ written f o ++ rest
  pub absent : o ≡ None → f.optional ≡ true

pub field_from : (f : Field) (fs : List Field) (o : Option Data) (os : List (Option Data)) (ps : List (List ℕ × Data)) → field_entries (f ∷ fs) (o ∷ os) ≡ Some ps → FieldOf f fs o os ps
field_from f fs (Some d) os ps e =
    let x = map_from (λ es. entries_of f d ++ es) (field_entries fs os) ps e in
    record { rest = x.item; later = x.there; is = sym (same_Some (entries_of f d ++ x.item) ps x.made); absent = λ k. absurd (none-some d (sym k)) }
field_from f fs None os ps e = by f.optional refl e where
  by : (b : Bool) → b ≡ f.optional → cond b (field_entries fs os) None ≡ Some ps → FieldOf f fs None os ps
  by true is h = record { rest = ps; later = h; is = refl; absent = λ k. sym is }
  by false is h = absurd (none-some ps h)

-- what a look-up at the field's name finds
abbrev pub shown : Field → Option Data → Option Data
shown f None = None
shown f (Some d) = cond (is_implicit f.implicit d) None (Some d)

look_by : (f : Field) (d : Data) (b : Bool) (rest : List (List ℕ × Data)) → value_at (field_text f) rest ≡ None
    → value_at (field_text f) (cond b [] ((field_text f, d) ∷ []) ++ rest) ≡ cond b None (Some d)
look_by f d true rest none = none
look_by f d false rest none = value_first (field_text f) d rest

pub look : (f : Field) (o : Option Data) (rest : List (List ℕ × Data)) → value_at (field_text f) rest ≡ None → value_at (field_text f) (written f o ++ rest) ≡ shown f o
look f None rest none = none
look f (Some d) rest none = look_by f d (is_implicit f.implicit d) rest none

shown_by : (f : Field) (d e : Data) (a b : Bool) → a ≡ is_implicit f.implicit d → b ≡ is_implicit f.implicit e → cond a None (Some d) ≡ cond b None (Some e) → d ≡ e
shown_by f d e true true h k same = implicit_same f.implicit d e (sym h) (sym k)
shown_by f d e true false h k same = absurd (none-some e same)
shown_by f d e false true h k same = absurd (none-some d (sym same))
shown_by f d e false false h k same = same_Some d e same

absent_by : (f : Field) (d : Data) (a : Bool) → IsRequired f → f.optional ≡ true → a ≡ is_implicit f.implicit d → cond a None (Some d) ≡ None → ⊥
absent_by f d true clear opt h same = implicit_there f.implicit d (clear opt) (sym h)
absent_by f d false clear opt h same = none-some d (sym same)

shown_tells : (f : Field) (o p : Option Data) → IsRequired f → (o ≡ None → f.optional ≡ true) → (p ≡ None → f.optional ≡ true) → shown f o ≡ shown f p → o ≡ p
shown_tells f None None clear h k e = refl
shown_tells f None (Some d) clear h k e = absurd (absent_by f d (is_implicit f.implicit d) clear (h refl) refl (sym e))
shown_tells f (Some d) None clear h k e = absurd (absent_by f d (is_implicit f.implicit d) clear (k refl) refl e)
shown_tells f (Some d) (Some c) clear h k e = ap Some (shown_by f d c (is_implicit f.implicit d) (is_implicit f.implicit c) refl refl e)

-- ---- fields by their names

other_name : (q k : List ℕ) (d : Data) (rest : List (List ℕ × Data)) (b : Bool) → (q ≡ k → ⊥) → b ≡ same_text q k → cond b (Some d) (value_at q rest) ≡ value_at q rest
other_name q k d rest true apart is = absurd (apart (text_same q k is))
other_name q k d rest false apart is = refl

past_by : (q : List ℕ) (f : Field) (d : Data) (b : Bool) (rest : List (List ℕ × Data)) → (q ≡ field_text f → ⊥)
    → value_at q (cond b [] ((field_text f, d) ∷ []) ++ rest) ≡ value_at q rest
past_by q f d true rest apart = refl
past_by q f d false rest apart = other_name q (field_text f) d rest (same_text q (field_text f)) apart refl

pub past : (q : List ℕ) (f : Field) (o : Option Data) (rest : List (List ℕ × Data)) → (q ≡ field_text f → ⊥) → value_at q (written f o ++ rest) ≡ value_at q rest
past q f None rest apart = refl
past q f (Some d) rest apart = past_by q f d (is_implicit f.implicit d) rest apart

pub not_there : (q : List ℕ) (fs : List Field) (os : List (Option Data)) (ps : List (List ℕ × Data)) → AllByRecursion (λ g. q ≡ field_text g → ⊥) fs
    → field_entries fs os ≡ Some ps → value_at q ps ≡ None
not_there q [] [] ps apart e = ap (value_at q) (sym (same_Some [] ps e))
not_there q [] (o ∷ os) ps apart e = absurd (none-some ps e)
not_there q (f ∷ fs) [] ps apart e = absurd (none-some ps e)
not_there q (f ∷ fs) (o ∷ os) ps apart e =
    let x = field_from f fs o os ps e in
    ap (value_at q) x.is ∙ past q f o x.rest apart.0 ∙ not_there q fs os x.rest apart.1 x.later

-- the entries by their names tell the fields
pub fields_tell : (fs : List Field) (os us : List (Option Data)) (ps qs : List (List ℕ × Data)) → AreNamesApart fs → AllByRecursion IsRequired fs
    → field_entries fs os ≡ Some ps → field_entries fs us ≡ Some qs → ((q : List ℕ) → value_at q ps ≡ value_at q qs) → os ≡ us
fields_tell [] [] [] ps qs apart clear e k same = refl
fields_tell [] [] (u ∷ us) ps qs apart clear e k same = absurd (none-some qs k)
fields_tell [] (o ∷ os) us ps qs apart clear e k same = absurd (none-some ps e)
fields_tell (f ∷ fs) [] us ps qs apart clear e k same = absurd (none-some ps e)
fields_tell (f ∷ fs) (o ∷ os) [] ps qs apart clear e k same = absurd (none-some qs k)
fields_tell (f ∷ fs) (o ∷ os) (u ∷ us) ps qs apart clear e k same =
    let x = field_from f fs o os ps e in
    let y = field_from f fs u us qs k in
    let name = field_text f in
    let x_none = not_there name fs os x.rest apart.0 x.later in
    let y_none = not_there name fs us y.rest apart.0 y.later in
    let whole : (q : List ℕ) → value_at q (written f o ++ x.rest) ≡ value_at q (written f u ++ y.rest)
    = λ q. ap (value_at q) (sym x.is) ∙ same q ∙ ap (value_at q) y.is in
    let here : shown f o ≡ shown f u = sym (look f o x.rest x_none) ∙ whole name ∙ look f u y.rest y_none in
    let later : (q : List ℕ) → value_at q x.rest ≡ value_at q y.rest
    = λ q. by q (same_text q name) refl x.rest y.rest x_none y_none (λ apart. sym (past q f o x.rest apart) ∙ whole q ∙ past q f u y.rest apart) in
    let first = shown_tells f o u clear.0 x.absent y.absent here in
    let rest = fields_tell fs os us x.rest y.rest apart.1 clear.1 x.later y.later later in
    λ i. first i ∷ rest i
  where
    by : (q : List ℕ) (b : Bool) → b ≡ same_text q (field_text f) → (xs ys : List (List ℕ × Data)) → value_at (field_text f) xs ≡ None → value_at (field_text f) ys ≡ None
        → ((q ≡ field_text f → ⊥) → value_at q xs ≡ value_at q ys) → value_at q xs ≡ value_at q ys
    by q true is xs ys hx hy far =
        let same = text_same q (field_text f) is in
        ap (λ k. value_at k xs) same ∙ hx ∙ sym hy ∙ ap (λ k. value_at k ys) (sym same)
    by q false is xs ys hx hy far = far (other_text q (field_text f) is)

pub entries_tell : (fs : List Field) → AreClearFields fs → (os us : List (Option Data)) (ps : List (List ℕ × Data)) → field_entries fs os ≡ Some ps → field_entries fs us ≡ Some ps → os ≡ us
entries_tell fs clear os us ps e k = fields_tell fs os us ps ps clear.apart clear.required e k (λ q. refl)

-- ---- fields in order

item_tells : {A : Type 0} (a b : A) (xs ys zs : List A) → a ∷ xs ≡ zs → b ∷ ys ≡ zs → (a ≡ b) × (xs ≡ ys)
item_tells {A} a b xs ys zs e k = (ap (head_or a) (e ∙ sym k), ap tail_of (e ∙ sym k)) where
  head_or : A → List A → A
  head_or d [] = d
  head_or d (c ∷ cs) = c

  tail_of : List A → List A
  tail_of [] = []
  tail_of (c ∷ cs) = cs

absent_same : (fs : List Field) (os us : List (Option Data)) → are_absent fs os ≡ true → are_absent fs us ≡ true → os ≡ us
absent_same [] [] [] e k = refl
absent_same [] [] (u ∷ us) e k = absurd cc
absent_same [] (o ∷ os) us e k = absurd cc
absent_same (f ∷ fs) [] us e k = absurd cc
absent_same (f ∷ fs) (o ∷ os) [] e k = absurd cc
absent_same (f ∷ fs) (Some d ∷ os) (u ∷ us) e k = absurd cc
absent_same (f ∷ fs) (None ∷ os) (Some d ∷ us) e k = absurd cc
absent_same (f ∷ fs) (None ∷ os) (None ∷ us) e k =
    ap (λ xs. None ∷ xs) (absent_same fs os us (and_parts f.optional (are_absent fs os) e).1 (and_parts f.optional (are_absent fs us) k).1)

-- a tuple's items tell its fields
pub tuple_tells : (fs : List Field) (os us : List (Option Data)) (ds : List Data) → tuple_items fs os ≡ Some ds → tuple_items fs us ≡ Some ds → os ≡ us
tuple_tells [] [] [] ds e k = refl
tuple_tells [] [] (u ∷ us) ds e k = absurd (none-some ds k)
tuple_tells [] (o ∷ os) us ds e k = absurd (none-some ds e)
tuple_tells (f ∷ fs) [] us ds e k = absurd (none-some ds e)
tuple_tells (f ∷ fs) (o ∷ os) [] ds e k = absurd (none-some ds k)
tuple_tells (f ∷ fs) (Some d ∷ os) (Some c ∷ us) ds e k =
    let x = map_from (λ xs. d ∷ xs) (tuple_items fs os) ds e in
    let y = map_from (λ xs. c ∷ xs) (tuple_items fs us) ds k in
    let z = item_tells d c x.item y.item ds (same_Some (d ∷ x.item) ds x.made) (same_Some (c ∷ y.item) ds y.made) in
    let rest = tuple_tells fs os us x.item x.there (y.there ∙ ap Some (sym z.1)) in
    λ i. Some (z.0 i) ∷ rest i
tuple_tells (f ∷ fs) (Some d ∷ os) (None ∷ us) ds e k =
    let x = map_from (λ xs. d ∷ xs) (tuple_items fs os) ds e in
    let y = true_from (are_absent (f ∷ fs) (None ∷ us)) [] ds k in
    let z : d ∷ x.item ≡ [] = same_Some (d ∷ x.item) ds x.made ∙ sym y.1 in
    absurd cc
tuple_tells (f ∷ fs) (None ∷ os) (Some d ∷ us) ds e k =
    let x = map_from (λ xs. d ∷ xs) (tuple_items fs us) ds k in
    let y = true_from (are_absent (f ∷ fs) (None ∷ os)) [] ds e in
    let z : d ∷ x.item ≡ [] = same_Some (d ∷ x.item) ds x.made ∙ sym y.1 in
    absurd cc
tuple_tells (f ∷ fs) (None ∷ os) (None ∷ us) ds e k =
    absent_same (f ∷ fs) (None ∷ os) (None ∷ us) (true_from (are_absent (f ∷ fs) (None ∷ os)) [] ds e).0 (true_from (are_absent (f ∷ fs) (None ∷ us)) [] ds k).0

-- items of which none is absent tell the fields
pub all_tell : (fs : List Field) (os us : List (Option Data)) (ds : List Data) → all_items fs os ≡ Some ds → all_items fs us ≡ Some ds → os ≡ us
all_tell [] [] [] ds e k = refl
all_tell [] [] (u ∷ us) ds e k = absurd (none-some ds k)
all_tell [] (o ∷ os) us ds e k = absurd (none-some ds e)
all_tell (f ∷ fs) [] us ds e k = absurd (none-some ds e)
all_tell (f ∷ fs) (o ∷ os) [] ds e k = absurd (none-some ds k)
all_tell (f ∷ fs) (None ∷ os) us ds e k = absurd (none-some ds e)
all_tell (f ∷ fs) (Some d ∷ os) (None ∷ us) ds e k = absurd (none-some ds k)
all_tell (f ∷ fs) (Some d ∷ os) (Some c ∷ us) ds e k =
    let x = map_from (λ xs. d ∷ xs) (all_items fs os) ds e in
    let y = map_from (λ xs. c ∷ xs) (all_items fs us) ds k in
    let z = item_tells d c x.item y.item ds (same_Some (d ∷ x.item) ds x.made) (same_Some (c ∷ y.item) ds y.made) in
    let rest = all_tell fs os us x.item x.there (y.there ∙ ap Some (sym z.1)) in
    λ i. Some (z.0 i) ∷ rest i

-- they are as many as the fields
pub all_count : (fs : List Field) (os : List (Option Data)) (ds : List Data) → all_items fs os ≡ Some ds → length ds ≡ length fs
all_count [] [] ds e = ap length (sym (same_Some [] ds e))
all_count [] (o ∷ os) ds e = absurd (none-some ds e)
all_count (f ∷ fs) [] ds e = absurd (none-some ds e)
all_count (f ∷ fs) (None ∷ os) ds e = absurd (none-some ds e)
all_count (f ∷ fs) (Some d ∷ os) ds e =
    let x = map_from (λ xs. d ∷ xs) (all_items fs os) ds e in
    ap length (sym (same_Some (d ∷ x.item) ds x.made)) ∙ ap suc (all_count fs os x.item x.there)
