-- The path and the json of a command are of texts.
use Rattle.std.proofs.Common.{◌≡◌, ℕ, ◌+◌, ◌<◌, List, [], ◌∷◌, length, drop, map, Bool, true, false, cond, eqb, ltb, Option, Some, None, option_map, refl, subst, arith, nat_eq}
use Rattle.std.specs.Prelude.{IsUtf8, codes, ◌&&◌}
use Rattle.std.specs.List.{AllByRecursion, slice_split, starts_with, list_all, before_first, after_first, position_or_len}
use Rattle.std.specs.Str.Lossy.{utf8_valid_len}
use Rattle.std.proofs.lemmas.Bool.Decides.{nat_tests}
use Rattle.std.proofs.lemmas.Option.{same_Some}
use Rattle.std.proofs.lemmas.Str.{IsUtf8-nil}
use Rattle.ild_data.specs.Key.{same_text}
use Rattle.ild_script.specs.Escape.{unescaped}
use Rattle.ild_script.specs.Laws.{IsOfTexts, CommandsAreOfTexts}
use Rattle.ild_script.specs.Line.{Command, Reading, command, outside, is_space, word_of, shape_of, at_path, read_json, read_rest, read_behind, read_shape, read_alone, reads_text, reads}
use Rattle.ild_script.specs.Path.{is_slash, is_bare, all_some, segments_of, path_of}
use Rattle.ild_script.specs.declared.word.Shape.{Shape}
use Rattle.ild_script.specs.declared.word.Shape.TheVariants.{Alone, WithPath, WithJson}
use Rattle.ild_script.specs.declared.word.Word.{Word}
use Rattle.ild_script.proofs.Utf8.{valid_is_utf8, front_utf8, back_utf8, tail_utf8, split_utf8, segment_utf8}

slash_ascii : (b : ℕ) → is_slash b ≡ true → b < 128
slash_ascii b e = grind (arith, nat_tests)

space_ascii : (b : ℕ) → is_space b ≡ true → b < 128
space_ascii b e = grind (arith, nat_tests)

abbrev ArePath : Option (List (List ℕ)) → Type 0
ArePath o = (path : List (List ℕ)) → o ≡ Some path → AllByRecursion IsUtf8 path

cons_path : (o : Option (List (List ℕ))) (s : List ℕ) → IsUtf8 s → ArePath o → ArePath (option_map (λ ys. s ∷ ys) o)
cons_path None s utf8 rest path e = absurd cc
cons_path (Some ys) s utf8 rest path e = subst (λ (xs : List (List ℕ)). AllByRecursion IsUtf8 xs) (same_Some (s ∷ ys) path e) (utf8, rest ys refl)

part_path : (o : Option (List ℕ)) (parts : List (Option (List ℕ))) → ((t : List ℕ) → o ≡ Some t → IsUtf8 t) → ArePath (all_some parts) → ArePath (all_some (o ∷ parts))
part_path None parts one rest = λ path e. absurd cc
part_path (Some t) parts one rest = cons_path (all_some parts) t (one t refl) rest

parts_path : (parts : List (List ℕ)) → AllByRecursion IsUtf8 parts → ArePath (all_some (map unescaped parts))
parts_path [] utf8 = λ path e. subst (λ (xs : List (List ℕ)). AllByRecursion IsUtf8 xs) (same_Some [] path e) tt
parts_path (s ∷ parts) utf8 = part_path (unescaped s) (map unescaped parts) (segment_utf8 s utf8.0) (parts_path parts utf8.1)

segments_path : (bs : List ℕ) → IsUtf8 bs → ArePath (segments_of bs)
segments_path bs utf8 = parts_path (slice_split is_slash bs) (split_utf8 is_slash slash_ascii bs utf8)

behind_slash : (bs : List ℕ) → IsUtf8 bs → (b : Bool) → starts_with nat_eq bs (codes "/") ≡ b → (c : Bool) → ArePath (cond (b && c) (segments_of (drop 1 bs)) None)
behind_slash bs utf8 false is c = λ path e. absurd cc
behind_slash bs utf8 true is false = λ path e. absurd cc
behind_slash [] utf8 true is true = absurd cc
behind_slash (b ∷ bs) utf8 true is true = segments_path bs (tail_utf8 b bs (slash_first b bs is) utf8)
  where
    slash_first : (b : ℕ) (bs : List ℕ) → starts_with nat_eq (b ∷ bs) (codes "/") ≡ true → b < 128
    slash_first b bs e = grind (arith, nat_tests)

path_by : (bs : List ℕ) → IsUtf8 bs → (dot : Bool) → ArePath (cond dot (Some []) (cond (starts_with nat_eq bs (codes "/") && list_all is_bare bs) (segments_of (drop 1 bs)) None))
path_by bs utf8 true = λ path e. subst (λ (xs : List (List ℕ)). AllByRecursion IsUtf8 xs) (same_Some [] path e) tt
path_by bs utf8 false = behind_slash bs utf8 (starts_with nat_eq bs (codes "/")) refl (list_all is_bare bs)

path_utf8 : (bs : List ℕ) → IsUtf8 bs → ArePath (path_of bs)
path_utf8 bs utf8 = path_by bs utf8 (same_text bs (codes "."))

-- ---- the parts of a line

abbrev OfTexts : Reading → Type 0
OfTexts r = (c : Command) → r ≡ command c → IsOfTexts c

same_command : (c d : Command) → command c ≡ command d → c ≡ d
same_command c d e = cc

one_command : (c : Command) → IsOfTexts c → OfTexts (command c)
one_command c of d e = subst IsOfTexts (same_command c d e) of

at_path_of : (verb : Word) (json : List ℕ) → IsUtf8 json → (o : Option (List (List ℕ))) → ArePath o → OfTexts (at_path verb json o)
at_path_of verb json utf8 None are = λ c e. absurd cc
at_path_of verb json utf8 (Some path) are = one_command (record { verb = verb; path = path; json = json }) (record { path = are path refl; json = utf8 })

ltb_true : (a b : ℕ) → true ≡ ltb a b → a < b
ltb_true a b e = grind (arith, nat_tests)

read_json_of : (verb : Word) (rest : List ℕ) → IsUtf8 rest → OfTexts (read_json verb rest)
read_json_of verb rest utf8 = by (ltb (position_or_len is_space rest + 1) (length rest)) refl
  where
    by : (t : Bool) → t ≡ ltb (position_or_len is_space rest + 1) (length rest) → OfTexts (cond t (at_path verb (after_first is_space rest) (path_of (before_first is_space rest))) outside)
    by false e = λ c is. absurd cc
    by true e =
        let lt : position_or_len is_space rest < length rest = let l = ltb_true (position_or_len is_space rest + 1) (length rest) e in omega (arith, l) in
        at_path_of verb (after_first is_space rest) (back_utf8 is_space space_ascii rest utf8 lt) (path_of (before_first is_space rest))
        (path_utf8 (before_first is_space rest) (front_utf8 is_space space_ascii rest utf8 lt))

read_rest_of : (verb : Word) (shape : Shape) (rest : List ℕ) → IsUtf8 rest → OfTexts (read_rest verb shape rest)
read_rest_of verb Alone rest utf8 = λ c e. absurd cc
read_rest_of verb WithPath rest utf8 = at_path_of verb [] IsUtf8-nil (path_of rest) (path_utf8 rest utf8)
read_rest_of verb WithJson rest utf8 = read_json_of verb rest utf8

read_behind_of : (o : Option Word) (rest : List ℕ) → IsUtf8 rest → OfTexts (read_behind o rest)
read_behind_of None rest utf8 = λ c e. absurd cc
read_behind_of (Some verb) rest utf8 = read_rest_of verb (shape_of verb) rest utf8

read_shape_of : (verb : Word) (shape : Shape) → OfTexts (read_shape verb shape)
read_shape_of verb Alone = one_command (record { verb = verb; path = []; json = [] }) (record { path = tt; json = IsUtf8-nil })
read_shape_of verb WithPath = λ c e. absurd cc
read_shape_of verb WithJson = λ c e. absurd cc

read_alone_of : (o : Option Word) → OfTexts (read_alone o)
read_alone_of None = λ c e. absurd cc
read_alone_of (Some verb) = read_shape_of verb (shape_of verb)

reads_text_of : (line : List ℕ) → IsUtf8 line → OfTexts (reads_text line)
reads_text_of line utf8 = by (ltb (position_or_len is_space line) (length line)) refl
  where
    by : (t : Bool) → t ≡ ltb (position_or_len is_space line) (length line) → OfTexts (cond t (read_behind (word_of (before_first is_space line)) (after_first is_space line)) (read_alone (word_of line)))
    by true e = read_behind_of (word_of (before_first is_space line)) (after_first is_space line) (back_utf8 is_space space_ascii line utf8 (ltb_true (position_or_len is_space line) (length line) e))
    by false e = read_alone_of (word_of line)

eqb_true : (a b : ℕ) → true ≡ eqb a b → a ≡ b
eqb_true a b e = grind (arith, nat_tests)

reads_of : (line : List ℕ) → OfTexts (reads line)
reads_of [] = λ c e. absurd cc
reads_of (b ∷ bs) = by (eqb (utf8_valid_len (b ∷ bs)) (length (b ∷ bs))) refl
  where
    by : (t : Bool) → t ≡ eqb (utf8_valid_len (b ∷ bs)) (length (b ∷ bs)) → OfTexts (cond t (reads_text (b ∷ bs)) outside)
    by false e = λ c is. absurd cc
    by true e = reads_text_of (b ∷ bs) (valid_is_utf8 b bs (eqb_true (utf8_valid_len (b ∷ bs)) (length (b ∷ bs)) e))

pub commands_of_texts : CommandsAreOfTexts
commands_of_texts line c e = reads_of line c e
