-- A line that reads at a path.
use Rattle.std.proofs.Common.{◌≡◌, ℕ, suc, List, [], ◌++◌, length, true, false, cond, eqb, ltb, Option, Some, None, option_map, Ok, Err, refl, sym, ap, ◌∙◌, arith}
use Rattle.std.specs.Prelude.{IsUtf8, codes}
use Rattle.std.proofs.lemmas.Bool.Decides.{nat_tests}
use Rattle.ild_script.specs.Line.{Command, blank, command, outside, at_path, read_alone, reads, reads_text, word_of}
use Rattle.ild_script.specs.Path.{path_of}
use Rattle.ild_script.specs.Reads.{ReadsAs, command_in}
use Rattle.ild_script.specs.declared.error.LineErr.TheVariants as E
use Rattle.ild_script.specs.declared.line.Line.{Line}
use Rattle.ild_script.specs.declared.word.Word.TheVariants as W
use Rattle.ild_script.proofs.Lines.{reads_utf8}

abbrev pub line_at : List ℕ → List ℕ
line_at text = codes "get " ++ text

some : (n : ℕ) → eqb (suc n) 0 ≡ false
some n = grind (arith, nat_tests)

behind : (n : ℕ) → ltb 3 (suc (suc (suc (suc n)))) ≡ true
behind n = grind (arith, nat_tests)

text_at : (text : List ℕ) → reads_text (line_at text) ≡ at_path W.Get [] (path_of text)
text_at text = ap (λ b. cond b (at_path W.Get [] (path_of text)) (read_alone (word_of (line_at text)))) (behind (length text))

reads_at : (text : List ℕ) → IsUtf8 (line_at text) → reads (line_at text) ≡ at_path W.Get [] (path_of text)
reads_at text utf8 = reads_utf8 (line_at text) utf8 (some (suc (suc (suc (length text))))) ∙ text_at text

path_read : (o : Option (List (List ℕ))) (c : Command) → at_path W.Get [] o ≡ command c → Some c.path ≡ o
path_read None c e = absurd cc
path_read (Some path) c e = let same : record { verb = W.Get; path = path; json = [] } ≡ c = cc in ap Some (sym (ap (λ (x : Command). x.path) same))

path_outside : (o : Option (List (List ℕ))) → at_path W.Get [] o ≡ outside → None ≡ o
path_outside None e = refl
path_outside (Some path) e = absurd cc

path_blank : (o : Option (List (List ℕ))) → at_path W.Get [] o ≡ blank → None ≡ o
path_blank None e = refl
path_blank (Some path) e = absurd cc

-- what was read of the line
pub asked : (text line : List ℕ) → line ≡ line_at text → IsUtf8 (line_at text) → (found : Option Line) → ReadsAs line (Ok found) → option_map (λ (x : Line). x.path) found ≡ path_of text
asked text line same utf8 None read = path_blank (path_of text) (sym (reads_at text utf8) ∙ sym (ap reads same) ∙ read)
asked text line same utf8 (Some x) read = path_read (path_of text) (command_in line x) (sym (reads_at text utf8) ∙ sym (ap reads same) ∙ read.1)

pub outside_none : (text line : List ℕ) → line ≡ line_at text → IsUtf8 (line_at text) → ReadsAs line (Err E.Line) → None ≡ path_of text
outside_none text line same utf8 read = path_outside (path_of text) (sym (reads_at text utf8) ∙ sym (ap reads same) ∙ read)
