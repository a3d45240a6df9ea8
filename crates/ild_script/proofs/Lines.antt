-- A line of text is read as a line of bytes, and only the empty one is blank.
use Rattle.std.proofs.Common.{◌≡◌, ◌≢◌, ℕ, List, [], ◌∷◌, length, Bool, true, false, cond, eqb, Option, Some, None, sym, ap, ◌∙◌, arith}
use Rattle.std.specs.Prelude.{Err, IsUtf8, nat_lt}
use Rattle.std.specs.List.{after_first, before_first, position_or_len}
use Rattle.std.proofs.lemmas.Str.{utf8_valid_len-IsUtf8}
use Rattle.std.proofs.lemmas.Bool.Decides.{nat_tests}
use Rattle.ild_script.specs.Line.{Reading, blank, at_path, is_space, outside, read_alone, read_behind, read_rest, read_shape, reads, reads_text, shape_of, word_of}
use Rattle.ild_script.specs.Reads.{ReadsAs, ReadsCommand}
use Rattle.ild_script.specs.declared.error.LineErr.{LineErr}
use Rattle.ild_script.specs.declared.error.LineErr.TheVariants as E
use Rattle.ild_script.specs.declared.word.Word.{Word}
use Rattle.ild_script.specs.declared.word.Shape.{Shape}
use Rattle.ild_script.specs.declared.word.Shape.TheVariants as S

same_length : {X : Type 0} (n : ℕ) (x y : X) → cond (eqb n n) x y ≡ x
same_length n x y = grind (arith, nat_tests)

pub reads_utf8 : (line : List ℕ) → IsUtf8 line → eqb (length line) 0 ≡ false → reads line ≡ reads_text line
reads_utf8 [] utf8 some = absurd cc
reads_utf8 (b ∷ bs) utf8 some =
    ap (λ n. cond (eqb n (length (b ∷ bs))) (reads_text (b ∷ bs)) outside) (utf8_valid_len-IsUtf8 (b ∷ bs) utf8) ∙ same_length (length (b ∷ bs)) _ _

-- ---- only the empty line is blank

either : (b : Bool) (x y : Reading) → x ≢ blank → y ≢ blank → cond b x y ≢ blank
either true x y p q = p
either false x y p q = q

outside_said : outside ≢ blank
outside_said e = absurd cc

path_said : (verb : Word) (json : List ℕ) (path : Option (List (List ℕ))) → at_path verb json path ≢ blank
path_said verb json None = λ e. absurd cc
path_said verb json (Some path) = λ e. absurd cc

rest_said : (verb : Word) (shape : Shape) (rest : List ℕ) → read_rest verb shape rest ≢ blank
rest_said verb S.Alone rest = λ e. absurd cc
rest_said verb S.WithPath rest = path_said verb _ _
rest_said verb S.WithJson rest = either _ _ _ (path_said verb _ _) outside_said

behind_said : (word : Option Word) (rest : List ℕ) → read_behind word rest ≢ blank
behind_said None rest = λ e. absurd cc
behind_said (Some verb) rest = rest_said verb (shape_of verb) rest

shape_said : (verb : Word) (shape : Shape) → read_shape verb shape ≢ blank
shape_said verb S.Alone = λ e. absurd cc
shape_said verb S.WithPath = λ e. absurd cc
shape_said verb S.WithJson = λ e. absurd cc

alone_said : (word : Option Word) → read_alone word ≢ blank
alone_said None = λ e. absurd cc
alone_said (Some verb) = shape_said verb (shape_of verb)

text_said : (line : List ℕ) → reads_text line ≢ blank
text_said line =
    either (nat_lt (position_or_len is_space line) (length line)) (read_behind (word_of (before_first is_space line)) (after_first is_space line)) (read_alone (word_of line)) (behind_said (word_of (before_first is_space line)) (after_first is_space line)) (alone_said (word_of line))

-- ---- a line's faults are those of its text

pub fault_of_line : (line : List ℕ) (fault : LineErr) → IsUtf8 line → eqb (length line) 0 ≡ false → ReadsCommand line (Err fault) (reads_text line) → ReadsAs line (Err fault)
fault_of_line line E.Line utf8 some read = reads_utf8 line utf8 some ∙ read
fault_of_line line E.Memory utf8 some read = λ e. text_said line (sym (reads_utf8 line utf8 some) ∙ e)
