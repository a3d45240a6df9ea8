-- A line of text is read as a line of bytes.
use Rattle.std.proofs.Common.{◌≡◌, ℕ, List, [], ◌∷◌, length, false, cond, eqb, ap, ◌∙◌, arith}
use Rattle.std.specs.Prelude.{IsUtf8}
use Rattle.std.proofs.lemmas.Str.{utf8_valid_len-IsUtf8}
use Rattle.std.proofs.lemmas.Bool.Decides.{nat_tests}
use Rattle.ild_heads_lines.specs.Asks.{outside, asks_of, asks_text}

same_length : {X : Type 0} (n : ℕ) (x y : X) → cond (eqb n n) x y ≡ x
same_length n x y = grind (arith, nat_tests)

pub asks_utf8 : (line : List ℕ) → IsUtf8 line → eqb (length line) 0 ≡ false → asks_of line ≡ asks_text line
asks_utf8 [] utf8 some = absurd cc
asks_utf8 (b ∷ bs) utf8 some =
    ap (λ n. cond (eqb n (length (b ∷ bs))) (asks_text (b ∷ bs)) outside) (utf8_valid_len-IsUtf8 (b ∷ bs) utf8) ∙ same_length (length (b ∷ bs)) _ _
