-- The prefixes that were seen, and the members whose prefixes they are.
use Rattle.std.proofs.Common.{◌≡◌, ℕ, ◌+◌, ◌<◌, Bool, true, false, ◌||◌, List, [], ◌∷◌, ◌++◌, Option, Some, None, length, take, drop, get_or, refl, sym, ap, ◌∙◌}
use Rattle.std.specs.List.{list_any, filter_map, cons_option}
use Rattle.std.specs.Option.{option_map_or}
use Rattle.std.proofs.lemmas.List.Folds.{list_any-append}
use Rattle.ild_schema.specs.declared.def.UnionForm.{UnionForm}
use Rattle.ild_schema.specs.declared.def.Member.{Member}
use Rattle.ild_schema.specs.Delimiters.{is_empty}
use Rattle.ild_schema.specs.Places.{first_beside}
use Rattle.ild_schema.specs.Prefixes.{prefix_of, touch, prefix_fails}
use Rattle.ild_accept_rules.specs.inside.Seen.{with_prefix}
use Rattle.ild_accept_rules.proofs.Stepping.{beside_next, beside_found, take_here}

any_filter : {A B : Type 0} (p : B → Bool) (g : A → Option B) (xs : List A) → list_any p (filter_map g xs) ≡ list_any (λ x. option_map_or p (g x) false) xs
any_filter p g [] = refl
any_filter {B = B} p g (x ∷ xs) = by (g x) (any_filter p g xs)
  where
    by : (o : Option B) → list_any p (filter_map g xs) ≡ list_any (λ x. option_map_or p (g x) false) xs → list_any p (cons_option o (filter_map g xs)) ≡ option_map_or p o false || list_any (λ x. option_map_or p (g x) false) xs
    by None h = h
    by (Some b) h = ap (λ c. p b || c) h

-- the prefixes of a front of the members, and of the next
one_more : (form : UnionForm) (ms : List Member) (m : Member) → with_prefix (filter_map (prefix_of form) ms) (prefix_of form m) ≡ filter_map (prefix_of form) (ms ++ m ∷ [])
one_more form [] m = by (prefix_of form m)
  where
    by : (o : Option (List ℕ)) → with_prefix [] o ≡ cons_option o []
    by None = refl
    by (Some p) = refl
one_more form (n ∷ ms) m = by (prefix_of form n) ∙ ap (cons_option (prefix_of form n)) (one_more form ms m)
  where
    into : (p : List ℕ) (o : Option (List ℕ)) → with_prefix (p ∷ filter_map (prefix_of form) ms) o ≡ p ∷ with_prefix (filter_map (prefix_of form) ms) o
    into p None = refl
    into p (Some q) = refl

    by : (o : Option (List ℕ)) → with_prefix (cons_option o (filter_map (prefix_of form) ms)) (prefix_of form m) ≡ cons_option o (with_prefix (filter_map (prefix_of form) ms) (prefix_of form m))
    by None = refl
    by (Some p) = into p (prefix_of form m)

abbrev judged : List (List ℕ) → Option (List ℕ) → Bool
judged seen o = option_map_or (λ prefix. is_empty prefix || list_any (touch prefix) seen) o false

-- what was seen tells whether a member fails
fails_seen : (form : UnionForm) (before : List Member) (m : Member) → judged (filter_map (prefix_of form) before) (prefix_of form m) ≡ prefix_fails form before m
fails_seen form before m = by (prefix_of form m)
  where
    by : (o : Option (List ℕ)) → judged (filter_map (prefix_of form) before) o ≡ option_map_or (λ prefix. is_empty prefix || list_any (λ o. option_map_or (touch prefix) (prefix_of form o) false) before) o false
    by None = refl
    by (Some p) = ap (λ b. is_empty p || b) (any_filter (touch p) (prefix_of form) before)

-- prefixes are judged alike by those that they touch
judged_alike : (s u : List (List ℕ)) (o : Option (List ℕ)) → ((q : List ℕ) → list_any (touch q) s ≡ list_any (touch q) u) → judged s o ≡ judged u o
judged_alike s u None same = refl
judged_alike s u (Some p) same = ap (λ b. is_empty p || b) (same p)

with_alike : (s u : List (List ℕ)) (o : Option (List ℕ)) (q : List ℕ) → list_any (touch q) s ≡ list_any (touch q) u → list_any (touch q) (with_prefix s o) ≡ list_any (touch q) (with_prefix u o)
with_alike s u None q same = same
with_alike s u (Some p) q same = list_any-append (touch q) s (p ∷ []) ∙ ap (λ b. b || list_any (touch q) (p ∷ [])) same ∙ sym (list_any-append (touch q) u (p ∷ []))

pub prefix_found : (form : UnionForm) (ms : List Member) (i : ℕ) (m : Member) (seen : List (List ℕ)) (b : Bool) (r : Option ℕ) → i < length ms → m ≡ get_or ms i m
    → first_beside (prefix_fails form) (λ n. n.at) (take i ms) (drop i ms) ≡ r → ((q : List ℕ) → list_any (touch q) seen ≡ list_any (touch q) (filter_map (prefix_of form) (take i ms)))
    → b ≡ option_map_or (λ prefix. is_empty prefix || list_any (touch prefix) seen) (prefix_of form m) false → b ≡ true → Some m.at ≡ r
prefix_found form ms i m seen b r within here so_far same answer found =
    beside_found (prefix_fails form) (λ n. n.at) ms i m r within here
    (sym (fails_seen form (take i ms) m) ∙ sym (judged_alike seen (filter_map (prefix_of form) (take i ms)) (prefix_of form m) same) ∙ sym answer ∙ found) so_far

pub prefix_next : (form : UnionForm) (ms : List Member) (i : ℕ) (m : Member) (seen : List (List ℕ)) (b : Bool) (r : Option ℕ) → i < length ms → m ≡ get_or ms i m
    → first_beside (prefix_fails form) (λ n. n.at) (take i ms) (drop i ms) ≡ r → ((q : List ℕ) → list_any (touch q) seen ≡ list_any (touch q) (filter_map (prefix_of form) (take i ms)))
    → b ≡ option_map_or (λ prefix. is_empty prefix || list_any (touch prefix) seen) (prefix_of form m) false → b ≡ false
    → first_beside (prefix_fails form) (λ n. n.at) (take (i + 1) ms) (drop (i + 1) ms) ≡ r
prefix_next form ms i m seen b r within here so_far same answer fine =
    beside_next (prefix_fails form) (λ n. n.at) ms i m r within here
    (sym (fails_seen form (take i ms) m) ∙ sym (judged_alike seen (filter_map (prefix_of form) (take i ms)) (prefix_of form m) same) ∙ sym answer ∙ fine) so_far

pub prefix_seen : (form : UnionForm) (ms : List Member) (i : ℕ) (m : Member) (seen new : List (List ℕ)) → i < length ms → m ≡ get_or ms i m
    → ((q : List ℕ) → list_any (touch q) seen ≡ list_any (touch q) (filter_map (prefix_of form) (take i ms)))
    → ((q : List ℕ) → list_any (touch q) new ≡ list_any (touch q) (with_prefix seen (prefix_of form m)))
    → (q : List ℕ) → list_any (touch q) new ≡ list_any (touch q) (filter_map (prefix_of form) (take (i + 1) ms))
prefix_seen form ms i m seen new within here same grown q =
    grown q ∙ with_alike seen (filter_map (prefix_of form) (take i ms)) (prefix_of form m) q (same q)
    ∙ ap (list_any (touch q)) (one_more form (take i ms) m ∙ ap (filter_map (prefix_of form)) (sym (take_here ms i m within here)))
