-- The tokens of the schema's text.
use Rattle.std.proofs.Common.{◌≡◌, ◌≢◌, ℕ, List, [], ◌∷◌, ◌++◌, Bool, true, false, ◌==◌, refl, sym, ap, ◌∙◌, subst}
use Rattle.std.specs.Prelude.{IsTrue, ◌&&◌, codes}
use Rattle.std.specs.List.{list_all}
use Rattle.ild_lex.specs.Bytes.{is_letter, is_digit, is_word_byte, is_mark}
use Rattle.ild_lex.specs.Form.{is_word, is_number, IsToken, IsLongest}
use Rattle.ild_lex.specs.Lex.{AreTokens}
use Rattle.ild_lex.specs.declared.token.Token.{Token}
use Rattle.ild_lex.specs.declared.token.TokenKind.{TokenKind}
use Rattle.ild_lex.specs.declared.token.TokenKind.TheVariants.{Word, Number, Text, Mark}
use Rattle.ild_generator.specs.Schema.{source}

-- ---- a word ends where no byte of words follows, and a mark behind itself

cut_word : (t : List ℕ) (c : ℕ) (more : List ℕ) → is_word_byte c ≡ false → list_all is_word_byte (t ++ c ∷ more) ≡ false
cut_word [] c more e = ap (λ b. b && list_all is_word_byte more) e
cut_word (b ∷ t) c more e = ap (λ r. is_word_byte b && r) (cut_word t c more e) ∙ and_false (is_word_byte b)
  where
    and_false : (b : Bool) → (b && false) ≡ false
    and_false true = refl
    and_false false = refl

no_word : (h c : ℕ) (t more : List ℕ) → is_word_byte c ≡ false → is_word (h ∷ (t ++ c ∷ more)) ≡ false
no_word h c t more e = ap (λ r. is_letter h && r) (cut_word t c more e) ∙ and_false (is_letter h)
  where
    and_false : (b : Bool) → (b && false) ≡ false
    and_false true = refl
    and_false false = refl

-- what begins as a word does is none of the others
pub record BeginsWord (h : ℕ) : Type 0 where
  pub minus : (h == 45) ≡ false
  pub digit : is_digit h ≡ false
  pub quote : h ≢ 34

no_number : (h : ℕ) (bs : List ℕ) → BeginsWord h → is_number (h ∷ bs) ≡ false
no_number h bs w = rw (w.minus, w.digit) refl

never : (b : Bool) → b ≡ false → IsTrue b → ⊥
never b e t = let f = sym e ∙ t in cc

-- not one byte alone
two : (h b c : ℕ) (t more : List ℕ) → h ∷ (t ++ b ∷ more) ≡ c ∷ [] → ⊥
two h b c [] more e = cc
two h b c (d ∷ t) more e = cc

word_then : (h c : ℕ) (t rest : List ℕ) → BeginsWord h → is_word_byte c ≡ false → IsTrue (is_word (h ∷ t)) → IsLongest Word (h ∷ t) (c ∷ rest)
word_then h c t rest w e is = record { token = is; longest = λ other b more after same. longest other b more (cc) }
  where
    longest : (other : TokenKind) (b : ℕ) (more : List ℕ) → c ≡ b → IsToken other (h ∷ (t ++ b ∷ more)) → ⊥
    longest Word b more same tok = never (is_word (h ∷ (t ++ b ∷ more))) (no_word h b t more (subst (λ x. is_word_byte x ≡ false) same e)) tok
    longest Number b more same tok = never (is_number (h ∷ (t ++ b ∷ more))) (no_number h (t ++ b ∷ more) w) tok
    longest Text b more same tok = let q = tok.2 in w.quote cc
    longest Mark b more same tok = two h b tok.0 t more tok.2

word_last : (h : ℕ) (t : List ℕ) → IsTrue (is_word (h ∷ t)) → IsLongest Word (h ∷ t) []
word_last h t is = record { token = is; longest = λ other b more after same tok. cc }

mark_then : (m : ℕ) (rest : List ℕ) → is_letter m ≡ false → BeginsWord m → IsTrue (is_mark m) → IsLongest Mark (m ∷ []) rest
mark_then m rest letter w is = record { token = (m, is, refl); longest = λ other b more after same. longest other b more }
  where
    longest : (other : TokenKind) (b : ℕ) (more : List ℕ) → IsToken other (m ∷ b ∷ more) → ⊥
    longest Word b more tok = never (is_word (m ∷ b ∷ more)) (ap (λ l. l && list_all is_word_byte (b ∷ more)) letter) tok
    longest Number b more tok = never (is_number (m ∷ b ∷ more)) (no_number m (b ∷ more) w) tok
    longest Text b more tok = let q = tok.2 in w.quote cc
    longest Mark b more tok = let q = tok.2 in cc

-- ---- the tokens

abbrev pub token : TokenKind → ℕ → ℕ → Token
token kind at end = record { kind = kind; at = at; end = end }

abbrev pub source_tokens : List Token
source_tokens =
    token Word 0 4 ∷ token Word 5 6 ∷ token Mark 7 8 ∷ token Word 8 14 ∷ token Mark 14 15 ∷ token Word 15 18 ∷ token Mark 18 19 ∷ token Word 20 34 ∷ token Word 35 43 ∷ token Word 44 48 ∷ []

begins : (h : ℕ) → (h == 45) ≡ false → is_digit h ≡ false → (h ≡ 34 → ⊥) → BeginsWord h
begins h m d q = record { minus = m; digit = d; quote = q }

pub are_tokens : AreTokens source source_tokens
are_tokens = (
  [],
  codes "type",
  codes " G {String:Int} representation advanced HAMT",
  refl,
  tt,
  word_then 116 32 (codes "ype") (codes "G {String:Int} representation advanced HAMT") (begins 116 refl refl (λ e. cc)) refl refl,
  refl,
  refl,
  (
    codes " ",
    codes "G",
    codes " {String:Int} representation advanced HAMT",
    refl,
    (refl, tt),
    word_then 71 32 [] (codes "{String:Int} representation advanced HAMT") (begins 71 refl refl (λ e. cc)) refl refl,
    refl,
    refl,
    (
      codes " ",
      codes "{",
      codes "String:Int} representation advanced HAMT",
      refl,
      (refl, tt),
      mark_then 123 (codes "String:Int} representation advanced HAMT") refl (begins 123 refl refl (λ e. cc)) refl,
      refl,
      refl,
      (
        [],
        codes "String",
        codes ":Int} representation advanced HAMT",
        refl,
        tt,
        word_then 83 58 (codes "tring") (codes "Int} representation advanced HAMT") (begins 83 refl refl (λ e. cc)) refl refl,
        refl,
        refl,
        (
          [],
          codes ":",
          codes "Int} representation advanced HAMT",
          refl,
          tt,
          mark_then 58 (codes "Int} representation advanced HAMT") refl (begins 58 refl refl (λ e. cc)) refl,
          refl,
          refl,
          (
            [],
            codes "Int",
            codes "} representation advanced HAMT",
            refl,
            tt,
            word_then 73 125 (codes "nt") (codes " representation advanced HAMT") (begins 73 refl refl (λ e. cc)) refl refl,
            refl,
            refl,
            (
              [],
              codes "}",
              codes " representation advanced HAMT",
              refl,
              tt,
              mark_then 125 (codes " representation advanced HAMT") refl (begins 125 refl refl (λ e. cc)) refl,
              refl,
              refl,
              (
                codes " ",
                codes "representation",
                codes " advanced HAMT",
                refl,
                (refl, tt),
                word_then 114 32 (codes "epresentation") (codes "advanced HAMT") (begins 114 refl refl (λ e. cc)) refl refl,
                refl,
                refl,
                (
                  codes " ",
                  codes "advanced",
                  codes " HAMT",
                  refl,
                  (refl, tt),
                  word_then 97 32 (codes "dvanced") (codes "HAMT") (begins 97 refl refl (λ e. cc)) refl refl,
                  refl,
                  refl,
                  (
                    codes " ",
                    codes "HAMT",
                    [],
                    refl,
                    (refl, tt),
                    word_last 72 (codes "AMT") refl,
                    refl,
                    refl,
                    ([], [], refl, tt, tt),
                  ),
                ),
              ),
            ),
          ),
        ),
      ),
    ),
  ),
)
