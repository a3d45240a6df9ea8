-- A line beneath is read as the line is, but for one step more in its path.
use Rattle.std.proofs.Common.{◌≡◌, ◌≢◌, ℕ, suc, ◌+◌, List, [], ◌∷◌, ◌++◌, length, drop, Bool, true, false, cond, eqb, ltb, Option, Some, None, option_map, refl, sym, ap, ◌∙◌, subst, arith}
use Rattle.std.specs.Prelude.{IsUtf8, codes, nat_eq, ◌&&◌}
use Rattle.std.specs.List.{after_first, before_first, list_all, position_or_len, starts_with}
use Rattle.std.specs.Str.Lossy.{utf8_valid_len}
use Rattle.std.proofs.lemmas.Bool.{true≢false}
use Rattle.std.proofs.lemmas.Bool.Decides.{nat_tests}
use Rattle.std.proofs.lemmas.Str.{utf8_valid_len-IsUtf8}
use Rattle.ild_data.specs.Key.{same_text}
use Rattle.ild_script.proofs.Lines.{reads_utf8}
use Rattle.ild_script.proofs.Utf8.{valid_is_utf8}
use Rattle.ild_script.specs.Line.{Reading, at_path, command, is_space, outside, read_alone, read_behind, read_json, read_rest, read_shape, reads, reads_text, shape_of, word_of}
use Rattle.ild_script.specs.Path.{is_bare, path_of, segments_of}
use Rattle.ild_script.specs.declared.word.Shape.{Shape}
use Rattle.ild_script.specs.declared.word.Shape.TheVariants as S
use Rattle.ild_script.specs.declared.word.Word.{Word}
use Rattle.ild_named_lines.specs.Beneath.{line_beneath, path_beneath, reading_beneath, rest_beneath, steps_beneath}
use Rattle.ild_named_lines.specs.Laws.{LinesAreReadBeneath}
use Rattle.ild_named_lines.proofs.Cuts.{after_cut, at_cut, at_whole, before_cut, has_cut, has_whole, same_number}
use Rattle.ild_named_lines.proofs.Texts.{Spaceless, Spaces, and_false, first, line_both, line_spaced, line_whole, none, path_spaceless, rest_spaced, rest_whole, spaces_of}

-- ---- a path

-- a path that is there, with the step before its others
abbrev stepped : Option (List (List ℕ)) → Option (List (List ℕ))
stepped o = option_map (λ path. codes "value" ∷ path) o

segments_beneath : (bs : List ℕ) → segments_of (codes "value" ++ (47 ∷ bs)) ≡ stepped (segments_of bs)
segments_beneath bs = refl

bare_beneath : (bs : List ℕ) (t : Bool) → cond t (segments_of (codes "value" ++ (47 ∷ bs))) None ≡ stepped (cond t (segments_of bs) None)
bare_beneath bs true = segments_beneath bs
bare_beneath bs false = refl

slash_first : (b : ℕ) (bs : List ℕ) → true ≡ starts_with nat_eq (b ∷ bs) (codes "/") → b ≡ 47
slash_first b bs e = grind (arith, nat_tests)

path_slashed : (path : List ℕ) → true ≡ starts_with nat_eq path (codes "/") → path_of (codes "/value" ++ path) ≡ stepped (path_of path)
path_slashed [] e = absurd (true≢false e)
path_slashed (b ∷ bs) e = subst (λ (c : ℕ). path_of (codes "/value" ++ (c ∷ bs)) ≡ stepped (path_of (c ∷ bs))) (sym (slash_first b bs e)) (bare_beneath bs (list_all is_bare bs))

path_reads : (path : List ℕ) → path_of (path_beneath path) ≡ stepped (path_of path)
path_reads path = by (same_text path (codes ".")) (starts_with nat_eq path (codes "/")) refl refl
  where
    by : (dot slash : Bool) → dot ≡ same_text path (codes ".") → slash ≡ starts_with nat_eq path (codes "/") → path_of (cond dot (codes "/value") (cond slash (codes "/value" ++ path) path)) ≡ stepped (path_of path)
    by true slash e f = ap (λ t. stepped (cond t (Some []) (cond (starts_with nat_eq path (codes "/") && list_all is_bare path) (segments_of (drop 1 path)) None))) e
    by false true e f = path_slashed path f
    by false false e f =
        let nothing : path_of path ≡ None
        = ap (λ t. cond t (Some []) (cond (starts_with nat_eq path (codes "/") && list_all is_bare path) (segments_of (drop 1 path)) None)) (sym e)
        ∙ ap (λ t. cond (t && list_all is_bare path) (segments_of (drop 1 path)) None) (sym f) in
        nothing ∙ ap stepped (sym nothing)

-- ---- a text with a space in it is no path

spaced_bare : (front back : List ℕ) → list_all is_bare (front ++ (32 ∷ back)) ≡ false
spaced_bare [] back = refl
spaced_bare (b ∷ front) back = ap (λ t. is_bare b && t) (spaced_bare front back) ∙ and_false (is_bare b)

spaced_dot : (front back : List ℕ) → same_text (front ++ (32 ∷ back)) (codes ".") ≡ false
spaced_dot [] back = refl
spaced_dot (b ∷ []) back = and_false (nat_eq b 46)
spaced_dot (b ∷ c ∷ front) back = and_false (nat_eq b 46)

spaced_path : (front back : List ℕ) → path_of (front ++ (32 ∷ back)) ≡ None
spaced_path front back =
    let text : List ℕ = front ++ (32 ∷ back) in
    ap (λ t. cond t (Some []) (cond (starts_with nat_eq text (codes "/") && list_all is_bare text) (segments_of (drop 1 text)) None)) (spaced_dot front back)
    ∙ ap (λ t. cond (starts_with nat_eq text (codes "/") && t) (segments_of (drop 1 text)) None) (spaced_bare front back)
    ∙ ap (λ t. cond t (segments_of (drop 1 text)) None) (and_false (starts_with nat_eq text (codes "/")))

-- ---- behind a word

-- a command whose word has a path
at_stepped : (verb : Word) (shape : Shape) (json : List ℕ) → shape_of verb ≡ shape → ((path : List (List ℕ)) → steps_beneath shape path ≡ codes "value" ∷ path) → (o : Option (List (List ℕ)))
    → at_path verb json (stepped o) ≡ reading_beneath (at_path verb json o)
at_stepped verb shape json is steps None = refl
at_stepped verb shape json is steps (Some path) = ap (λ p. command (record { verb = verb; path = p; json = json })) (sym (ap (λ s. steps_beneath s path) is ∙ steps path))

-- a path alone
rest_reads : (rest : List ℕ) → Spaces rest → path_of (rest_beneath rest) ≡ stepped (path_of rest)
rest_reads rest (none l) = ap path_of (rest_whole rest l) ∙ path_reads rest
rest_reads rest (first path json is l) =
    subst (λ (xs : List ℕ). path_of (rest_beneath xs) ≡ stepped (path_of xs)) (sym is)
    (ap path_of (rest_spaced path json l) ∙ spaced_path (path_beneath path) json ∙ ap stepped (sym (spaced_path path json)))

-- a path and json
abbrev Jsons : Word → List ℕ → Reading → Reading
Jsons verb rest at = cond (ltb (position_or_len is_space rest + 1) (length rest)) at outside

more_than : (front back : List ℕ) → ltb (length front + 1) (length (front ++ (32 ∷ back))) ≡ ltb 0 (length back)
more_than [] back = one (length back)
  where
    one : (n : ℕ) → ltb (0 + 1) (suc n) ≡ ltb 0 n
    one n = grind (arith, nat_tests)
more_than (b ∷ front) back = less (length front) (length (front ++ (32 ∷ back))) ∙ more_than front back
  where
    less : (n m : ℕ) → ltb (suc n + 1) (suc m) ≡ ltb (n + 1) m
    less n m = grind (arith, nat_tests)

no_more : (n : ℕ) → ltb (n + 1) n ≡ false
no_more n = grind (arith, nat_tests)

json_spaced : (verb : Word) (path json : List ℕ) → Spaceless path → read_json verb (path ++ (32 ∷ json)) ≡ cond (ltb 0 (length json)) (at_path verb json (path_of path)) outside
json_spaced verb path json l =
    let rest : List ℕ = path ++ (32 ∷ json) in
    ap (λ n. cond (ltb (n + 1) (length rest)) (at_path verb (after_first is_space rest) (path_of (before_first is_space rest))) outside) (at_cut is_space 32 refl path json l)
    ∙ ap (λ t. cond t (at_path verb (after_first is_space rest) (path_of (before_first is_space rest))) outside) (more_than path json)
    ∙ ap (λ xs. cond (ltb 0 (length json)) (at_path verb xs (path_of (before_first is_space rest))) outside) (after_cut is_space 32 refl path json l)
    ∙ ap (λ xs. cond (ltb 0 (length json)) (at_path verb json (path_of xs)) outside) (before_cut is_space 32 refl path json l)

json_whole : (verb : Word) (rest : List ℕ) → Spaceless rest → read_json verb rest ≡ outside
json_whole verb rest l =
    ap (λ n. cond (ltb (n + 1) (length rest)) (at_path verb (after_first is_space rest) (path_of (before_first is_space rest))) outside) (at_whole is_space rest l)
    ∙ ap (λ t. cond t (at_path verb (after_first is_space rest) (path_of (before_first is_space rest))) outside) (no_more (length rest))

json_by : (verb : Word) → shape_of verb ≡ S.WithJson → (path json : List ℕ) (t : Bool) → cond t (at_path verb json (stepped (path_of path))) outside ≡ reading_beneath (cond t (at_path verb json (path_of path)) outside)
json_by verb is path json true = at_stepped verb S.WithJson json is (λ p. refl) (path_of path)
json_by verb is path json false = refl

json_reads : (verb : Word) → shape_of verb ≡ S.WithJson → (rest : List ℕ) → Spaces rest → read_json verb (rest_beneath rest) ≡ reading_beneath (read_json verb rest)
json_reads verb is rest (none l) =
    ap (read_json verb) (rest_whole rest l) ∙ json_whole verb (path_beneath rest) (path_spaceless rest l) ∙ ap reading_beneath (sym (json_whole verb rest l))
json_reads verb is rest (first path json at l) =
    subst (λ (xs : List ℕ). read_json verb (rest_beneath xs) ≡ reading_beneath (read_json verb xs)) (sym at)
    (ap (read_json verb) (rest_spaced path json l) ∙ json_spaced verb (path_beneath path) json (path_spaceless path l)
    ∙ ap (λ o. cond (ltb 0 (length json)) (at_path verb json o) outside) (path_reads path) ∙ json_by verb is path json (ltb 0 (length json))
    ∙ ap reading_beneath (sym (json_spaced verb path json l)))

shape_reads : (verb : Word) (shape : Shape) (rest : List ℕ) → shape_of verb ≡ shape → read_rest verb shape (rest_beneath rest) ≡ reading_beneath (read_rest verb shape rest)
shape_reads verb S.Alone rest is = refl
shape_reads verb S.WithPath rest is = ap (at_path verb []) (rest_reads rest (spaces_of rest)) ∙ at_stepped verb S.WithPath [] is (λ p. refl) (path_of rest)
shape_reads verb S.WithJson rest is = json_reads verb is rest (spaces_of rest)

behind_reads : (o : Option Word) (rest : List ℕ) → read_behind o (rest_beneath rest) ≡ reading_beneath (read_behind o rest)
behind_reads None rest = refl
behind_reads (Some verb) rest = shape_reads verb (shape_of verb) rest refl

-- ---- a word alone

shape_alone : (verb : Word) (shape : Shape) → shape_of verb ≡ shape → read_shape verb shape ≡ reading_beneath (read_shape verb shape)
shape_alone verb S.Alone is = ap (λ s. command (record { verb = verb; path = steps_beneath s []; json = [] })) (sym is)
shape_alone verb S.WithPath is = refl
shape_alone verb S.WithJson is = refl

alone_reads : (o : Option Word) → read_alone o ≡ reading_beneath (read_alone o)
alone_reads None = refl
alone_reads (Some verb) = shape_alone verb (shape_of verb) refl

-- ---- a line of text

text_spaced : (word rest : List ℕ) → Spaceless word → reads_text (word ++ (32 ∷ rest)) ≡ read_behind (word_of word) rest
text_spaced word rest l =
    let line : List ℕ = word ++ (32 ∷ rest) in
    ap (λ t. cond t (read_behind (word_of (before_first is_space line)) (after_first is_space line)) (read_alone (word_of line))) (has_cut is_space 32 refl word rest l)
    ∙ ap (λ xs. read_behind (word_of xs) (after_first is_space line)) (before_cut is_space 32 refl word rest l)
    ∙ ap (read_behind (word_of word)) (after_cut is_space 32 refl word rest l)

text_whole : (line : List ℕ) → Spaceless line → reads_text line ≡ read_alone (word_of line)
text_whole line l = ap (λ t. cond t (read_behind (word_of (before_first is_space line)) (after_first is_space line)) (read_alone (word_of line))) (has_whole is_space line l)

text_reads : (line : List ℕ) → Spaces line → reads_text (line_beneath line) ≡ reading_beneath (reads_text line)
text_reads line (none l) = ap reads_text (line_whole line l) ∙ text_whole line l ∙ alone_reads (word_of line) ∙ ap reading_beneath (sym (text_whole line l))
text_reads line (first word rest is l) =
    subst (λ (xs : List ℕ). reads_text (line_beneath xs) ≡ reading_beneath (reads_text xs)) (sym is)
    (ap reads_text (line_spaced word rest l) ∙ text_spaced word (rest_beneath rest) l ∙ behind_reads (word_of word) rest ∙ ap reading_beneath (sym (text_spaced word rest l)))

-- ---- a line of bytes

abbrev IsThere : List ℕ → Type 0
IsThere line = eqb (length line) 0 ≡ false

above : (n : ℕ) → eqb (suc n) 0 ≡ false
above n = grind (arith, nat_tests)

line_there : (line : List ℕ) → Spaces line → IsThere line → IsThere (line_beneath line)
line_there line (none l) some = subst IsThere (sym (line_whole line l)) some
line_there line (first word rest is l) some = subst IsThere (sym (ap line_beneath is ∙ line_spaced word rest l)) (begins word)
  where
    begins : (xs : List ℕ) → IsThere (xs ++ (32 ∷ rest_beneath rest))
    begins [] = above (length (rest_beneath rest))
    begins (x ∷ xs) = above (length (xs ++ (32 ∷ rest_beneath rest)))

not_same : (a b : ℕ) → a ≢ b → eqb a b ≡ false
not_same a b n = grind (arith, nat_tests)

-- a line that is no text is outside the grammar
reads_no_text : (line : List ℕ) → (IsUtf8 line → ⊥) → IsThere line → reads line ≡ outside
reads_no_text [] never some = absurd (true≢false some)
reads_no_text (b ∷ bs) never some =
    ap (λ t. cond t (reads_text (b ∷ bs)) outside) (not_same (utf8_valid_len (b ∷ bs)) (length (b ∷ bs)) (λ e. never (valid_is_utf8 b bs e)))

reads_by : (b : ℕ) (bs : List ℕ) (t : Bool) → t ≡ eqb (utf8_valid_len (b ∷ bs)) (length (b ∷ bs)) → reads (line_beneath (b ∷ bs)) ≡ reading_beneath (reads (b ∷ bs))
reads_by b bs true e =
    let line : List ℕ = b ∷ bs in
    let utf8 = valid_is_utf8 b bs (same_number (utf8_valid_len line) (length line) e) in
    reads_utf8 (line_beneath line) ((line_both line).there utf8) (line_there line (spaces_of line) (above (length bs)))
    ∙ text_reads line (spaces_of line) ∙ ap reading_beneath (sym (reads_utf8 line utf8 (above (length bs))))
reads_by b bs false e =
    let line : List ℕ = b ∷ bs in
    let never : IsUtf8 line → ⊥ = λ u. true≢false (sym (ap (λ n. eqb n (length line)) (utf8_valid_len-IsUtf8 line u) ∙ same (length line)) ∙ sym e) in
    reads_no_text (line_beneath line) (λ u. never ((line_both line).back u)) (line_there line (spaces_of line) (above (length bs)))
    ∙ ap reading_beneath (sym (reads_no_text line never (above (length bs))))
  where
    same : (n : ℕ) → eqb n n ≡ true
    same n = grind (arith, nat_tests)

pub lines_read_beneath : LinesAreReadBeneath
lines_read_beneath [] = refl
lines_read_beneath (b ∷ bs) = reads_by b bs (eqb (utf8_valid_len (b ∷ bs)) (length (b ∷ bs))) refl
