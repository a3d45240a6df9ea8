-- Tests on kinds and texts of tokens say what they are.
use Rattle.std.proofs.Common.{◌≡◌, ℕ, true, List, [], ◌∷◌, refl}
use Rattle.std.specs.Prelude.{nat_eq, eqb}
use Rattle.std.proofs.lemmas.Bool.{false≢true, and_parts, eqb-true}
use Rattle.ild_lex.specs.declared.token.TokenKind.{TokenKind}
use Rattle.ild_lex.specs.declared.token.TokenKind.TheVariants.{Word, Number, Text, Mark}
use Rattle.ild_parse_grammar.proofs.Stream.{kind_code, same_text}

pub kind_is : (a b : TokenKind) → nat_eq (kind_code a) (kind_code b) ≡ true → a ≡ b
kind_is Word Word e = refl
kind_is Number Number e = refl
kind_is Text Text e = refl
kind_is Mark Mark e = refl
kind_is a b e = absurd (false≢true e)

pub same_is : (a b : List ℕ) → same_text a b ≡ true → a ≡ b
same_is [] [] e = refl
same_is [] (y ∷ ys) e = absurd (false≢true e)
same_is (x ∷ xs) [] e = absurd (false≢true e)
same_is (x ∷ xs) (y ∷ ys) e = let p = and_parts (eqb x y) (same_text xs ys) e in λ i. eqb-true x y p.0 i ∷ same_is xs ys p.1 i

pub kind_code_same : (k : TokenKind) → nat_eq (kind_code k) (kind_code k) ≡ true
kind_code_same Word = refl
kind_code_same Number = refl
kind_code_same Text = refl
kind_code_same Mark = refl
