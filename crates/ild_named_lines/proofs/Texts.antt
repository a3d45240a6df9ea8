-- A line is a text where the line beneath is one.
use Rattle.std.proofs.Common.{◌≡◌, ℕ, ◌<◌, List, [], ◌∷◌, ◌++◌, Bool, true, false, cond, refl, sym, ap, ◌∙◌, subst, arith}
use Rattle.std.specs.Prelude.{IsUtf8, codes, nat_eq, ◌&&◌}
use Rattle.std.specs.List.{after_first, before_first, starts_with}
use Rattle.std.proofs.lemmas.Bool.{ltb-true, true≢false}
use Rattle.std.proofs.lemmas.Bool.Decides.{nat_tests}
use Rattle.std.proofs.lemmas.List.{append-nil}
use Rattle.std.proofs.lemmas.Str.{IsUtf8-append, IsUtf8-from_ascii, IsUtf8-nil}
use Rattle.std.proofs.lemmas.Str.Ascii.{IsAscii-cons, IsAscii-nil}
use Rattle.ild_data.specs.Key.{same_text}
use Rattle.ild_script.proofs.Utf8.{back_utf8, front_utf8, tail_utf8}
use Rattle.ild_script.specs.Line.{is_space}
use Rattle.ild_named_lines.specs.Beneath.{from_space, line_beneath, path_beneath, rest_beneath}
use Rattle.ild_named_lines.proofs.Cuts.{Lacks, Parts, cut, whole, after_cut, before_cut, before_whole, from_cut, from_whole, has_cut, has_whole, lacks_append, parts_of, same_number}

abbrev pub Spaceless : List ℕ → Type 0
Spaceless bs = Lacks is_space bs

space_is : (b : ℕ) → is_space b ≡ true → b ≡ 32
space_is b e = same_number b 32 (sym e)

-- ---- a line and what stands behind its word, in these words

pub line_spaced : (word rest : List ℕ) → Spaceless word → line_beneath (word ++ (32 ∷ rest)) ≡ word ++ (32 ∷ rest_beneath rest)
line_spaced word rest l =
    let line : List ℕ = word ++ (32 ∷ rest) in
    ap (λ t. cond t (before_first is_space line ++ (32 ∷ rest_beneath (after_first is_space line))) line) (has_cut is_space 32 refl word rest l)
    ∙ ap (λ xs. xs ++ (32 ∷ rest_beneath (after_first is_space line))) (before_cut is_space 32 refl word rest l)
    ∙ ap (λ xs. word ++ (32 ∷ rest_beneath xs)) (after_cut is_space 32 refl word rest l)

pub line_whole : (line : List ℕ) → Spaceless line → line_beneath line ≡ line
line_whole line l = ap (λ t. cond t (before_first is_space line ++ (32 ∷ rest_beneath (after_first is_space line))) line) (has_whole is_space line l)

pub rest_spaced : (path json : List ℕ) → Spaceless path → rest_beneath (path ++ (32 ∷ json)) ≡ path_beneath path ++ (32 ∷ json)
rest_spaced path json l =
    ap (λ xs. path_beneath xs ++ from_space (path ++ (32 ∷ json))) (before_cut is_space 32 refl path json l)
    ∙ ap (λ xs. path_beneath path ++ xs) (from_cut is_space 32 refl path json l)

pub rest_whole : (rest : List ℕ) → Spaceless rest → rest_beneath rest ≡ path_beneath rest
rest_whole rest l =
    ap (λ xs. path_beneath xs ++ from_space rest) (before_whole is_space rest l)
    ∙ ap (λ xs. path_beneath rest ++ xs) (from_whole is_space rest l) ∙ append-nil (path_beneath rest)

value_spaceless : Spaceless (codes "/value")
value_spaceless = (refl, (refl, (refl, (refl, (refl, (refl, tt))))))

pub path_spaceless : (path : List ℕ) → Spaceless path → Spaceless (path_beneath path)
path_spaceless path l = by (same_text path (codes ".")) (starts_with nat_eq path (codes "/"))
  where
    by : (dot slash : Bool) → Spaceless (cond dot (codes "/value") (cond slash (codes "/value" ++ path) path))
    by true slash = value_spaceless
    by false true = lacks_append is_space (codes "/value") path value_spaceless l
    by false false = l

-- each text is one of two: it has no space, or a first one
pub data Spaces (bs : List ℕ) : Type 0 where
  none : Spaceless bs → Spaces bs
  first : (front back : List ℕ) → bs ≡ front ++ (32 ∷ back) → Spaceless front → Spaces bs

pub spaces_of : (bs : List ℕ) → Spaces bs
spaces_of bs = by (parts_of is_space bs)
  where
    by : Parts is_space bs → Spaces bs
    by (whole l) = none l
    by (cut c) = first c.front c.back (c.is ∙ ap (λ b. c.front ++ (b ∷ c.back)) (space_is c.byte c.passes)) c.lacks

-- ---- texts

space_ascii : (b : ℕ) → is_space b ≡ true → b < 128
space_ascii b e = grind (arith, nat_tests)

cons_utf8 : (b : ℕ) (bs : List ℕ) → b < 128 → IsUtf8 bs → IsUtf8 (b ∷ bs)
cons_utf8 b bs low utf8 = IsUtf8-append (b ∷ []) bs (IsUtf8-from_ascii (b ∷ []) (IsAscii-cons b [] low IsAscii-nil)) utf8

dot_utf8 : IsUtf8 (codes ".")
dot_utf8 = cons_utf8 46 [] (omega arith) IsUtf8-nil

value_utf8 : IsUtf8 (codes "/value")
value_utf8 =
    cons_utf8 47 (118 ∷ 97 ∷ 108 ∷ 117 ∷ 101 ∷ []) (omega arith) (cons_utf8 118 (97 ∷ 108 ∷ 117 ∷ 101 ∷ []) (omega arith) (cons_utf8 97 (108 ∷ 117 ∷ 101 ∷ []) (omega arith)
    (cons_utf8 108 (117 ∷ 101 ∷ []) (omega arith) (cons_utf8 117 (101 ∷ []) (omega arith) (cons_utf8 101 [] (omega arith) IsUtf8-nil)))))

-- a text with a space in it is two
pub spaced_utf8 : (front back : List ℕ) → IsUtf8 front → IsUtf8 back → IsUtf8 (front ++ (32 ∷ back))
spaced_utf8 front back f b = IsUtf8-append front (32 ∷ back) f (cons_utf8 32 back (omega arith) b)

pub front_of : (front back : List ℕ) → Spaceless front → IsUtf8 (front ++ (32 ∷ back)) → IsUtf8 front
front_of front back l utf8 =
    subst IsUtf8 (before_cut is_space 32 refl front back l)
    (front_utf8 is_space space_ascii (front ++ (32 ∷ back)) utf8 (ltb-true _ _ (has_cut is_space 32 refl front back l)))

pub back_of : (front back : List ℕ) → Spaceless front → IsUtf8 (front ++ (32 ∷ back)) → IsUtf8 back
back_of front back l utf8 =
    subst IsUtf8 (after_cut is_space 32 refl front back l)
    (back_utf8 is_space space_ascii (front ++ (32 ∷ back)) utf8 (ltb-true _ _ (has_cut is_space 32 refl front back l)))

-- a property of a text that goes to the one beneath and back
pub record Both (xs ys : List ℕ) : Type 0 where
  pub there : IsUtf8 xs → IsUtf8 ys
  pub back : IsUtf8 ys → IsUtf8 xs

-- the text behind `/value` is one
behind_value : (path : List ℕ) → IsUtf8 (codes "/value" ++ path) → IsUtf8 path
behind_value path utf8 =
    tail_utf8 101 path (omega arith) (tail_utf8 117 _ (omega arith) (tail_utf8 108 _ (omega arith) (tail_utf8 97 _ (omega arith) (tail_utf8 118 _ (omega arith) (tail_utf8 47 _ (omega arith) utf8)))))

pub and_false : (t : Bool) → (t && false) ≡ false
and_false true = refl
and_false false = refl

is_dot : (path : List ℕ) → true ≡ same_text path (codes ".") → path ≡ codes "."
is_dot [] e = absurd (true≢false e)
is_dot (b ∷ []) e = ap (λ c. c ∷ []) (grind (arith, nat_tests))
is_dot (b ∷ c ∷ path) e = absurd (true≢false (e ∙ and_false (nat_eq b 46)))

path_both : (path : List ℕ) → Both path (path_beneath path)
path_both path = by (same_text path (codes ".")) (starts_with nat_eq path (codes "/")) refl
  where
    by : (dot slash : Bool) → dot ≡ same_text path (codes ".") → Both path (cond dot (codes "/value") (cond slash (codes "/value" ++ path) path))
    by true slash e = record { there = λ u. value_utf8; back = λ u. subst IsUtf8 (sym (is_dot path e)) dot_utf8 }
    by false true e = record { there = λ u. IsUtf8-append (codes "/value") path value_utf8 u; back = behind_value path }
    by false false e = record { there = λ u. u; back = λ u. u }

rest_both : (rest : List ℕ) → Both rest (rest_beneath rest)
rest_both rest = by (spaces_of rest)
  where
    by : Spaces rest → Both rest (rest_beneath rest)
    by (none l) = subst (Both rest) (sym (rest_whole rest l)) (path_both rest)
    by (first path json is l) =
        let path_is = path_both path in
        let two : Both (path ++ (32 ∷ json)) (path_beneath path ++ (32 ∷ json)) = record {
          there = λ u. spaced_utf8 (path_beneath path) json (path_is.there (front_of path json l u)) (back_of path json l u);
          back = λ u. spaced_utf8 path json (path_is.back (front_of (path_beneath path) json (path_spaceless path l) u)) (back_of (path_beneath path) json (path_spaceless path l) u);
        } in
        subst (λ (xs : List ℕ). Both xs (rest_beneath xs)) (sym is) (subst (Both (path ++ (32 ∷ json))) (sym (rest_spaced path json l)) two)

pub line_both : (line : List ℕ) → Both line (line_beneath line)
line_both line = by (spaces_of line)
  where
    by : Spaces line → Both line (line_beneath line)
    by (none l) = subst (Both line) (sym (line_whole line l)) (record { there = λ u. u; back = λ u. u })
    by (first word rest is l) =
        let rest_is = rest_both rest in
        let two : Both (word ++ (32 ∷ rest)) (word ++ (32 ∷ rest_beneath rest)) = record {
          there = λ u. spaced_utf8 word (rest_beneath rest) (front_of word rest l u) (rest_is.there (back_of word rest l u));
          back = λ u. spaced_utf8 word rest (front_of word (rest_beneath rest) l u) (rest_is.back (back_of word (rest_beneath rest) l u));
        } in
        subst (λ (xs : List ℕ). Both xs (line_beneath xs)) (sym is) (subst (Both (word ++ (32 ∷ rest))) (sym (line_spaced word rest l)) two)
