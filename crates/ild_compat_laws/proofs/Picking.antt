-- What goes with fields is given to the fields of another struct by their names: in any order, in the same order, one by one.
use Rattle.std.proofs.Common.{◌≡◌, ℕ, zero, suc, ◌+◌, ◌⊎◌, inl, inr, Bool, true, false, cond, List, [], ◌∷◌, ◌++◌, map, Option, Some, None, refl, sym, ap, ◌∙◌, subst, arith}
use Rattle.std.specs.Prelude.{bytes_eq, slice_get, option_and_then}
use Rattle.std.specs.List.{AllByRecursion, position_from}
use Rattle.std.specs.Cmp.Lexicographic.{same_text as text_same}
use Rattle.std.proofs.lemmas.Bool.{false≢true}
use Rattle.std.proofs.lemmas.Option.{same_Some, none-some}
use Rattle.std.proofs.lemmas.Slice.Eq.{bytes_eq-Decides}
use Rattle.ild_data.specs.Data.{Data}
use Rattle.ild_data.specs.Key.{same_text, value_at}
use Rattle.ild_schema.specs.declared.def.Field.{Field}
use Rattle.ild_schema.specs.Apart.{AreApart}
use Rattle.ild_typed.specs.Strings.{in_key_order}
use Rattle.ild_typed.proofs.Entries.{value_sorted, same_text_self}
use Rattle.ild_typed.proofs.Rising.{rising_same, rises_sorted}
use Rattle.ild_compat.specs.Fields.{field_place, field_named}
use Rattle.ild_compat_laws.specs.inside.Carried.{IsIn}
use Rattle.ild_compat_laws.proofs.Agreeing.{found_at, texts_same}

-- ---- by a name

abbrev pub pick : {X : Type 0} → List ℕ → List Field → List (Option X) → Option X
pick q [] xs = None
pick q (f ∷ fs) [] = None
pick q (f ∷ fs) (x ∷ xs) = cond (bytes_eq q f.name) x (pick q fs xs)

same_bytes : (a : List ℕ) → bytes_eq a a ≡ true
same_bytes a = (bytes_eq-Decides a a).1 refl

bool_cases : (b : Bool) → (b ≡ true) ⊎ (b ≡ false)
bool_cases true = inl refl
bool_cases false = inr refl

other_bytes : (a b : List ℕ) → (a ≡ b → ⊥) → bytes_eq a b ≡ false
other_bytes a b apart = elim (bool_cases (bytes_eq a b)) [ inl h ↦ absurd (apart (texts_same a b h)) | inr h ↦ h ]

-- each differs from those behind it
abbrev pub Differ : (Field → List ℕ) → List Field → Type 0
Differ key [] = Unit {0}
Differ key (f ∷ fs) = AllByRecursion (λ g. key f ≡ key g → ⊥) fs × Differ key fs

pub all_in : {X : Type 0} (P : X → Type 0) (xs : List X) (x : X) → AllByRecursion P xs → IsIn x xs → P x
all_in P [] x h i = absurd i
all_in P (y ∷ ys) x h (inl e) = subst P e h.0
all_in P (y ∷ ys) x h (inr i) = all_in P ys x h.1 i

pub all_by : {X : Type 0} (P : X → Type 0) (xs : List X) → ((x : X) → IsIn x xs → P x) → AllByRecursion P xs
all_by P [] h = tt
all_by P (x ∷ xs) h = (h x (inl refl), all_by P xs (λ y i. h y (inr i)))

pub differ : (key : Field → List ℕ) (fs : List Field) → AreApart key fs → Differ key fs
differ key [] h = tt
differ key (f ∷ fs) h = (all_by (λ g. key f ≡ key g → ⊥) fs (λ g i e. let r = place fs g i in zero_suc r.0 (h 0 (suc r.0) f g refl r.1 e)), differ key fs (λ i j a b x y e. less i j (h (suc i) (suc j) a b x y e)))
  where
    place : (fs : List Field) (g : Field) → IsIn g fs → (i : ℕ) × (slice_get fs i ≡ Some g)
    place [] g i = absurd i
    place (x ∷ xs) g (inl e) = (0, ap Some e)
    place (x ∷ xs) g (inr i) = let r = place xs g i in (suc r.0, r.1)

    zero_suc : (n : ℕ) → 0 ≡ suc n → ⊥
    zero_suc n e = absurd (omega (arith, e))

    less : (i j : ℕ) → suc i ≡ suc j → i ≡ j
    less i j e = omega (arith, e)

-- ---- a field under its name

none_found : {X : Type 0} (t : X → Bool) (n : ℕ) (xs : List X) (x : X) → position_from t n xs ≡ None → IsIn x xs → t x ≡ true → ⊥
none_found t n [] x e i h = i
none_found t n (y ∷ ys) x e i h = by (t y) refl e (none_found t (n + 1) ys x) i
  where
    by : (b : Bool) → t y ≡ b → cond b (Some n) (position_from t (n + 1) ys) ≡ None → (position_from t (n + 1) ys ≡ None → IsIn x ys → t x ≡ true → ⊥) → IsIn x (y ∷ ys) → ⊥
    by true is f later j = none-some n (sym f)
    by false is f later (inl same) = false≢true (sym is ∙ ap t same ∙ h)
    by false is f later (inr j) = later f j h

place_in : (fs : List Field) (g : Field) → IsIn g fs → (i : ℕ) × (slice_get fs i ≡ Some g)
place_in [] g i = absurd i
place_in (x ∷ xs) g (inl e) = (0, ap Some e)
place_in (x ∷ xs) g (inr i) = let r = place_in xs g i in (suc r.0, r.1)

pub in_place : (fs : List Field) (i : ℕ) (g : Field) → slice_get fs i ≡ Some g → IsIn g fs
in_place [] i g e = absurd (none-some g e)
in_place (x ∷ xs) zero g e = inl (same_Some x g e)
in_place (x ∷ xs) (suc i) g e = inr (in_place xs i g e)

pub record Place (gs : List Field) (g : Field) (q : List ℕ) : Type 0 where
  pub at : ℕ
  pub first : field_place q gs ≡ Some at
  pub there : slice_get gs at ≡ Some g

-- where names are apart, a field is the one of its name
pub own_place : (gs : List Field) (g : Field) (q : List ℕ) → AreApart (λ f. f.name) gs → IsIn g gs → q ≡ g.name → Place gs g q
own_place gs g q apart i e = by (field_place q gs) refl
  where
    by : (o : Option ℕ) → field_place q gs ≡ o → Place gs g q
    by None none = absurd (none_found (λ f. bytes_eq q f.name) 0 gs g none i ((bytes_eq-Decides q g.name).1 e))
    by (Some n) some =
        let r = found_at (λ f. bytes_eq q f.name) gs n some in
        let p = place_in gs g i in
        let same : n ≡ p.0 = apart n p.0 r.item g r.there p.1 (sym (texts_same q r.item.name r.test) ∙ e) in
        record { at = n; first = some; there = ap (slice_get gs) same ∙ p.1 }

pub own_name : (gs : List Field) (g : Field) (q : List ℕ) → AreApart (λ f. f.name) gs → IsIn g gs → q ≡ g.name → field_named q gs ≡ Some g
own_name gs g q apart i e = let p = own_place gs g q apart i e in ap (option_and_then (λ n. slice_get gs n)) p.first ∙ p.there

-- ---- in any order

-- the entries of fields: under a key each, but for what is left out
abbrev pub gathered : (Field → List ℕ) → (Field → Data → Bool) → List Field → List (Option Data) → List (List ℕ × Data)
gathered key out [] xs = []
gathered key out (f ∷ fs) [] = []
gathered key out (f ∷ fs) (None ∷ xs) = gathered key out fs xs
gathered key out (f ∷ fs) (Some x ∷ xs) = cond (out f x) [] ((key f, x) ∷ []) ++ gathered key out fs xs

module _ (key : Field → List ℕ) (out : Field → Data → Bool) where
  abbrev Has : List Field → List (Option Data) → List ℕ → Data → Type 0
  Has [] xs q y = ⊥
  Has (f ∷ fs) [] q y = ⊥
  Has (f ∷ fs) (None ∷ xs) q y = Has fs xs q y
  Has (f ∷ fs) (Some x ∷ xs) q y = ((out f x ≡ false) × (key f ≡ q) × (x ≡ y)) ⊎ Has fs xs q y

  found_has : (fs : List Field) (xs : List (Option Data)) (q : List ℕ) (y : Data) → value_at q (gathered key out fs xs) ≡ Some y → Has fs xs q y
  found_has [] xs q y e = absurd (none-some y e)
  found_has (f ∷ fs) [] q y e = absurd (none-some y e)
  found_has (f ∷ fs) (None ∷ xs) q y e = found_has fs xs q y e
  found_has (f ∷ fs) (Some x ∷ xs) q y e = by (out f x) refl (found_has fs xs q y) e
    where
      at : (c : Bool) → c ≡ same_text q (key f) → out f x ≡ false → (value_at q (gathered key out fs xs) ≡ Some y → Has fs xs q y) → cond c (Some x) (value_at q (gathered key out fs xs)) ≡ Some y → Has (f ∷ fs) (Some x ∷ xs) q y
      at true same is later h = inl (is, sym (text_same q (key f) same), same_Some x y h)
      at false same is later h = inr (later h)

      by : (b : Bool) → out f x ≡ b → (value_at q (gathered key out fs xs) ≡ Some y → Has fs xs q y) → value_at q (cond b [] ((key f, x) ∷ []) ++ gathered key out fs xs) ≡ Some y → Has (f ∷ fs) (Some x ∷ xs) q y
      by true is later h = inr (later h)
      by false is later h = at (same_text q (key f)) refl is later h

  has_key : (k : List ℕ) (fs : List Field) (xs : List (Option Data)) (q : List ℕ) (y : Data) → AllByRecursion (λ g. k ≡ key g → ⊥) fs → k ≡ q → Has fs xs q y → ⊥
  has_key k [] xs q y apart e h = h
  has_key k (f ∷ fs) [] q y apart e h = h
  has_key k (f ∷ fs) (None ∷ xs) q y apart e h = has_key k fs xs q y apart.1 e h
  has_key k (f ∷ fs) (Some x ∷ xs) q y apart e (inl h) = apart.0 (e ∙ sym h.1)
  has_key k (f ∷ fs) (Some x ∷ xs) q y apart e (inr h) = has_key k fs xs q y apart.1 e h

  has_found : (fs : List Field) (xs : List (Option Data)) (q : List ℕ) (y : Data) → Differ key fs → Has fs xs q y → value_at q (gathered key out fs xs) ≡ Some y
  has_found [] xs q y apart h = absurd h
  has_found (f ∷ fs) [] q y apart h = absurd h
  has_found (f ∷ fs) (None ∷ xs) q y apart h = has_found fs xs q y apart.1 h
  has_found (f ∷ fs) (Some x ∷ xs) q y apart (inl h) =
      ap (λ b. value_at q (cond b [] ((key f, x) ∷ []) ++ gathered key out fs xs)) h.0
      ∙ ap (λ b. cond b (Some x) (value_at q (gathered key out fs xs))) (ap (λ k. same_text k (key f)) (sym h.1) ∙ same_text_self (key f)) ∙ ap Some h.2
  has_found (f ∷ fs) (Some x ∷ xs) q y apart (inr h) = by (out f x) (has_found fs xs q y apart.1 h)
    where
      at : (c : Bool) → c ≡ same_text q (key f) → value_at q (gathered key out fs xs) ≡ Some y → cond c (Some x) (value_at q (gathered key out fs xs)) ≡ Some y
      at true same k = absurd (has_key (key f) fs xs q y apart.0 (sym (text_same q (key f) same)) h)
      at false same k = k

      by : (b : Bool) → value_at q (gathered key out fs xs) ≡ Some y → value_at q (cond b [] ((key f, x) ∷ []) ++ gathered key out fs xs) ≡ Some y
      by true k = k
      by false k = at (same_text q (key f)) refl k

  -- the field of an entry
  pub record From (fs : List Field) (xs : List (Option Data)) (q : List ℕ) (y : Data) : Type 0 where
    pub field : Field
    pub there : IsIn field fs
    pub got : pick field.name fs xs ≡ Some y
    pub kept : out field y ≡ false
    pub under : key field ≡ q

  has_from : (fs : List Field) (xs : List (Option Data)) (q : List ℕ) (y : Data) → Differ (λ f. f.name) fs → Has fs xs q y → From fs xs q y
  has_from [] xs q y apart h = absurd h
  has_from (f ∷ fs) [] q y apart h = absurd h
  has_from (f ∷ fs) (None ∷ xs) q y apart h =
      let r = has_from fs xs q y apart.1 h in
      record {
        field = r.field;
        there = inr r.there;
        kept = r.kept;
        under = r.under;
        got = ap (λ b. cond b None (pick r.field.name fs xs)) (other_bytes r.field.name f.name (λ e. all_in (λ g. f.name ≡ g.name → ⊥) fs r.field apart.0 r.there (sym e))) ∙ r.got;
      }
  has_from (f ∷ fs) (Some x ∷ xs) q y apart (inl h) =
      record { field = f; there = inl refl; kept = ap (out f) (sym h.2) ∙ h.0; under = h.1; got = ap (λ b. cond b (Some x) (pick f.name fs xs)) (same_bytes f.name) ∙ ap Some h.2 }
  has_from (f ∷ fs) (Some x ∷ xs) q y apart (inr h) =
      let r = has_from fs xs q y apart.1 h in
      record {
        field = r.field;
        there = inr r.there;
        kept = r.kept;
        under = r.under;
        got = ap (λ b. cond b (Some x) (pick r.field.name fs xs)) (other_bytes r.field.name f.name (λ e. all_in (λ g. f.name ≡ g.name → ⊥) fs r.field apart.0 r.there (sym e))) ∙ r.got;
      }

  -- what is picked for each
  given_has : (P : Field → Option Data) (gs : List Field) (g : Field) (q : List ℕ) (y : Data) → IsIn g gs → P g ≡ Some y → out g y ≡ false → key g ≡ q → Has gs (map P gs) q y
  given_has P [] g q y i got kept under = i
  given_has P (h ∷ gs) g q y i got kept under = by (P h) refl i (given_has P gs g q y)
    where
      by : (o : Option Data) → P h ≡ o → IsIn g (h ∷ gs) → (IsIn g gs → P g ≡ Some y → out g y ≡ false → key g ≡ q → Has gs (map P gs) q y) → Has (h ∷ gs) (o ∷ map P gs) q y
      by None is (inl e) later = absurd (none-some y (sym is ∙ ap P e ∙ got))
      by None is (inr j) later = later j got kept under
      by (Some x) is (inl e) later =
          let same : x ≡ y = same_Some x y (sym is ∙ ap P e ∙ got) in
          inl (ap (λ f. out f x) e ∙ ap (out g) same ∙ kept, ap key e ∙ under, same)
      by (Some x) is (inr j) later = inr (later j got kept under)

  pub record Given (P : Field → Option Data) (gs : List Field) (q : List ℕ) (y : Data) : Type 0 where
    pub field : Field
    pub there : IsIn field gs
    pub got : P field ≡ Some y
    pub kept : out field y ≡ false
    pub under : key field ≡ q

  has_given : (P : Field → Option Data) (gs : List Field) (q : List ℕ) (y : Data) → Has gs (map P gs) q y → Given P gs q y
  has_given P [] q y h = absurd h
  has_given P (g ∷ gs) q y h = by (P g) refl h (has_given P gs q y)
    where
      more : Given P gs q y → Given P (g ∷ gs) q y
      more r = record { field = r.field; there = inr r.there; got = r.got; kept = r.kept; under = r.under }

      by : (o : Option Data) → P g ≡ o → Has (g ∷ gs) (o ∷ map P gs) q y → (Has gs (map P gs) q y → Given P gs q y) → Given P (g ∷ gs) q y
      by None is k later = more (later k)
      by (Some x) is (inl k) later = record { field = g; there = inl refl; got = is ∙ ap Some k.2; kept = ap (out g) (sym k.2) ∙ k.0; under = k.1 }
      by (Some x) is (inr k) later = more (later k)

  pub record Picked (n : List ℕ) (fs : List Field) (xs : List (Option Data)) (y : Data) : Type 0 where
    pub field : Field
    pub there : IsIn field fs
    pub named : n ≡ field.name
    pub has : (q : List ℕ) → out field y ≡ false → key field ≡ q → Has fs xs q y

  picked : (n : List ℕ) (fs : List Field) (xs : List (Option Data)) (y : Data) → pick n fs xs ≡ Some y → Picked n fs xs y
  picked n [] xs y e = absurd (none-some y e)
  picked n (f ∷ fs) [] y e = absurd (none-some y e)
  picked n (f ∷ fs) (x ∷ xs) y e = by (bytes_eq n f.name) refl x (picked n fs xs y) e
    where
      behind : (x : Option Data) (q : List ℕ) → Has fs xs q y → Has (f ∷ fs) (x ∷ xs) q y
      behind None q h = h
      behind (Some z) q h = inr h

      by : (b : Bool) → bytes_eq n f.name ≡ b → (x : Option Data) → (pick n fs xs ≡ Some y → Picked n fs xs y) → cond b x (pick n fs xs) ≡ Some y → Picked n (f ∷ fs) (x ∷ xs) y
      by true is None later h = absurd (none-some y h)
      by true is (Some z) later h =
          let same : z ≡ y = same_Some z y h in
          record { field = f; there = inl refl; named = texts_same n f.name is; has = λ q kept under. inl (ap (out f) same ∙ kept, under, same) }
      by false is x later h = let r = later h in record { field = r.field; there = inr r.there; named = r.named; has = λ q kept under. behind x q (r.has q kept under) }

  -- ---- the look-ups are the same

  abbrev pub Match : List Field → List Field → Type 0
  Match fs gs = (f : Field) → IsIn f fs → (g : Field) × (field_named f.name gs ≡ Some g) × (IsIn g gs) × (f.name ≡ g.name) × (key f ≡ key g) × ((y : Data) → out f y ≡ out g y)

  pub regrouped : (fs gs : List Field) (xs : List (Option Data)) → AreApart (λ f. f.name) fs → AreApart (λ f. f.name) gs → Differ key fs → Differ key gs → Match fs gs
      → in_key_order (gathered key out gs (map (λ g. pick g.name fs xs) gs)) ≡ in_key_order (gathered key out fs xs)
  regrouped fs gs xs apart others key_fs key_gs match =
      rising_same (in_key_order (gathered key out gs (map P gs))) (in_key_order (gathered key out fs xs)) (rises_sorted (gathered key out gs (map P gs))) (rises_sorted (gathered key out fs xs))
      (λ q. value_sorted q (gathered key out gs (map P gs)) ∙ same (value_at q (gathered key out gs (map P gs))) (value_at q (gathered key out fs xs)) (one_way q) (other_way q) ∙ sym (value_sorted q (gathered key out fs xs)))
    where
      P : Field → Option Data
      P g = pick g.name fs xs

      same : (o p : Option Data) → ((y : Data) → o ≡ Some y → p ≡ Some y) → ((y : Data) → p ≡ Some y → o ≡ Some y) → o ≡ p
      same None None f g = refl
      same None (Some y) f g = g y refl
      same (Some x) p f g = sym (f x refl)

      one_way : (q : List ℕ) (y : Data) → value_at q (gathered key out gs (map P gs)) ≡ Some y → value_at q (gathered key out fs xs) ≡ Some y
      one_way q y e =
          let r = has_given P gs q y (found_has gs (map P gs) q y e) in
          let p = picked r.field.name fs xs y r.got in
          let m = match p.field p.there in
          let own : field_named p.field.name gs ≡ Some r.field = own_name gs r.field p.field.name others r.there (sym p.named) in
          let is : m.0 ≡ r.field = same_Some m.0 r.field (sym m.1 ∙ own) in
          has_found fs xs q y key_fs (p.has q (m.5 y ∙ ap (λ z. out z y) is ∙ r.kept) (m.4 ∙ ap key is ∙ r.under))

      other_way : (q : List ℕ) (y : Data) → value_at q (gathered key out fs xs) ≡ Some y → value_at q (gathered key out gs (map P gs)) ≡ Some y
      other_way q y e =
          let r = has_from fs xs q y (differ (λ f. f.name) fs apart) (found_has fs xs q y e) in
          let m = match r.field r.there in
          has_found gs (map P gs) q y key_gs (given_has P gs m.0 q y m.2 (ap (λ n. pick n fs xs) (sym m.3) ∙ r.got) (sym (m.5 y) ∙ r.kept) (sym m.4 ∙ r.under))
