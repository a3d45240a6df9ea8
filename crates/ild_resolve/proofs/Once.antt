-- Where no name is declared again, a name stands for one type.
use Rattle.std.proofs.Common.{◌≡◌, ℕ, ◌+◌, ◌<◌, ◌≤◌, Bool, true, false, cond, List, [], ◌∷◌, ◌++◌, Option, Some, None, length, map, take, get_or, bytes_eq, inl, inr, refl, ap, sym, ◌∙◌, subst, append_assoc, arith}
use Rattle.std.specs.Prelude.{codes}
use Rattle.std.specs.List.{position_from, list_any}
use Rattle.std.proofs.lemmas.Bool.{cases_lt, and_left, and_right, or_parts, false≢true}
use Rattle.std.proofs.lemmas.List.{get_or_append_left, take-append-le, get_or_at, take_at, append-nil, length_push}
use Rattle.std.proofs.lemmas.Option.{cond_some}
use Rattle.ild_schema.specs.Names.{is_open, is_named, number_named}
use Rattle.ild_schema.specs.Prelude.{prelude}
use Rattle.ild_schema.specs.Table.{AreNamedOnce}
use Rattle.ild_schema.specs.declared.row.Row.{Row}
use Rattle.ild_resolve.specs.Events.{Event, declares, begins}
use Rattle.ild_resolve.specs.Faults.{first_again, is_among, taken_names}
use Rattle.ild_resolve.proofs.Opened.{open_name, AreOf}

-- no row in front has the name of this one, if a text can use that
abbrev IsNew : List Row → Row → Type 0
IsNew front r = is_open r.origin ≡ true → number_named r.name front ≡ None

one_more : (rows : List Row) (x : Row) → AreNamedOnce rows → IsNew rows x → AreNamedOnce (rows ++ x ∷ [])
one_more rows x once new n r within = elim (cases_lt n (length rows)) [ inl lt ↦ before lt | inr le ↦ at le ]
  where
    before : n < length rows → IsNew (take n (rows ++ x ∷ [])) (get_or (rows ++ x ∷ []) n r)
    before lt =
        subst (λ y. IsNew (take n (rows ++ x ∷ [])) y) (sym (get_or_append_left rows (x ∷ []) r n lt))
        (subst (λ front. IsNew front (get_or rows n r)) (sym (take-append-le n rows (x ∷ []) (omega arith))) (once n r lt))

    at : length rows ≤ n → IsNew (take n (rows ++ x ∷ [])) (get_or (rows ++ x ∷ []) n r)
    at le =
        let here : length rows ≡ n = omega (arith, within, length_push rows x) in
        subst (λ y. IsNew (take n (rows ++ x ∷ [])) y) (sym (get_or_at rows x [] r n here))
        (subst (λ front. IsNew front x) (sym (take_at rows (x ∷ []) n here)) new)

-- each of the rows is new behind those before it
abbrev AreNew : List Row → List Row → Type 0
AreNew front [] = Unit {0}
AreNew front (r ∷ rows) = IsNew front r × AreNew (front ++ r ∷ []) rows

all_more : (front rows : List Row) → AreNamedOnce front → AreNew front rows → AreNamedOnce (front ++ rows)
all_more front [] once new = subst AreNamedOnce (sym (append-nil front)) once
all_more front (r ∷ rows) once new =
    subst AreNamedOnce (append_assoc front (r ∷ []) rows) (all_more (front ++ r ∷ []) rows (one_more front r once new.0) new.1)

-- ---- the declared types

stays : {X : Type 0} (t : X → Bool) (i : ℕ) (xs : List X) (x : X) → t x ≡ false → position_from t i (xs ++ x ∷ []) ≡ position_from t i xs
stays t i [] x h = ap (λ b. cond b (Some i) None) h
stays t i (y ∷ ys) x h = ap (λ o. cond (t y) (Some i) o) (stays t (i + 1) ys x h)

not_taken : (b : Bool) (at : ℕ) (more : Option ℕ) → cond b (Some at) more ≡ None → (b ≡ false) × (more ≡ None)
not_taken false at more h = (refl, h)
not_taken true at more h = absurd cc

closed : (b : Bool) (name : List ℕ) → cond b (Some name) None ≡ None → b ≡ false
closed false name h = refl
closed true name h = absurd cc

-- each name of these rows is taken
abbrev AreTaken : List Row → List (List ℕ) → Type 0
AreTaken rows taken = (name : List ℕ) → is_among name taken ≡ false → number_named name rows ≡ None

all_new : (es : List Event) (front rows : List Row) (taken : List (List ℕ)) → AreOf es rows → first_again taken es ≡ None → AreTaken front taken → AreNew front rows
all_new [] front [] taken same none known = tt
all_new [] front (r ∷ rows) taken same none known = absurd cc
all_new (declares t ∷ es) front [] taken same none known = absurd cc
all_new (declares t ∷ es) front (r ∷ rows) taken same none known =
    let first : open_name r ≡ Some t.name = cc in
    let later : AreOf es rows = cc in
    let name : r.name ≡ t.name = (cond_some (is_open r.origin) r.name t.name first).1 in
    let fresh = not_taken (is_among t.name taken) t.at (first_again (t.name ∷ taken) es) none in
    let all_known : AreTaken (front ++ r ∷ []) (t.name ∷ taken) = λ other h.
    let both = or_parts (bytes_eq other t.name) (is_among other taken) h in
    stays (is_named other) 0 front r (and_right (is_open r.origin) (bytes_eq other r.name) (ap (λ s. bytes_eq other s) name ∙ both.0)) ∙ known other both.1 in
    (λ opened. ap (λ s. number_named s front) name ∙ known t.name fresh.0, all_new es (front ++ r ∷ []) rows (t.name ∷ taken) later fresh.1 all_known)
all_new (begins at ∷ es) front [] taken same none known = absurd cc
all_new (begins at ∷ es) front (r ∷ rows) taken same none known =
    let first : open_name r ≡ None = cc in
    let later : AreOf es rows = cc in
    let shut : is_open r.origin ≡ false = closed (is_open r.origin) r.name first in
    let all_known : AreTaken (front ++ r ∷ []) taken = λ other h.
    stays (is_named other) 0 front r (and_left (is_open r.origin) (bytes_eq other r.name) shut) ∙ known other h in
    (λ opened. absurd (false≢true (sym shut ∙ opened)), all_new es (front ++ r ∷ []) rows taken later none all_known)
all_new (e ∷ es) front rows taken same none known = all_new es front rows taken same none known

none_named : (name : List ℕ) (i : ℕ) (rows : List Row) → list_any (bytes_eq name) (map (λ r. r.name) rows) ≡ false → position_from (is_named name) i rows ≡ None
none_named name i [] h = refl
none_named name i (r ∷ rows) h =
    let both = or_parts (bytes_eq name r.name) (list_any (bytes_eq name) (map (λ r. r.name) rows)) h in
    ap (λ b. cond b (Some i) (position_from (is_named name) (i + 1) rows)) (and_right (is_open r.origin) (bytes_eq name r.name) both.0) ∙ none_named name (i + 1) rows both.1

prelude_taken : AreTaken prelude taken_names
prelude_taken name h = none_named name 0 prelude (or_parts (bytes_eq name (codes "Float")) (is_among name (map (λ r. r.name) prelude)) h).1

prelude_once : AreNamedOnce prelude
prelude_once =
    all_more [] prelude (λ n r within. absurd (omega arith)) (λ h. refl, (λ h. refl, (λ h. refl, (λ h. refl, (λ h. refl, (λ h. refl, (λ h. refl, (λ h. refl, tt))))))))

pub named_once : (es : List Event) (rows : List Row) → AreOf es rows → first_again taken_names es ≡ None → AreNamedOnce (prelude ++ rows)
named_once es rows same none = all_more prelude rows prelude_once (all_new es prelude rows taken_names same none prelude_taken)
