-- The kind of a token follows from its text.
use Rattle.std.proofs.Common.{◌≡◌, ℕ, Bool, true, false, List, [], ◌∷◌, refl, sym, subst, arith}
use Rattle.std.specs.Prelude.{◌||◌, ◌&&◌, ◌==◌, ◌≤◌, nat_eq, if◌then◌else◌, slice_index_or, length}
use Rattle.std.proofs.Math.Logic.{∥∥₁_elim}
use Rattle.std.proofs.Math.Bool.{Bool-set}
use Rattle.std.specs.List.{AllByRecursion, list_all}
use Rattle.std.proofs.lemmas.Bool.{false≢true, and_parts, eqb-true}
use Rattle.ild_lex.specs.declared.token.Token.{Token}
use Rattle.ild_lex.specs.declared.token.TokenKind.{TokenKind}
use Rattle.ild_lex.specs.declared.token.TokenKind.TheVariants.{Word, Number, Text, Mark}
use Rattle.ild_lex.specs.Bytes.{is_letter, is_digit, is_word_byte, is_mark}
use Rattle.ild_lex.specs.Form.{IsToken, is_number, are_digits}
use Rattle.ild_lex.specs.Span.{IsSpan, bytes_of}
use Rattle.ild_parse_grammar.specs.Sign.{Sign, kind_of_text}
use Rattle.ild_parse_grammar.proofs.Stream.{kind_code, is_literal, begins, same_text, stream}
use Rattle.ild_parse_grammar.proofs.Literal.{same_is, kind_code_same}

last_of : (P : ℕ → Type 0) (b c : ℕ) (others : Bool) → P c → (others ≡ true → P b) → (others || b == c) ≡ true → P b
last_of P b c true here there e = there refl
last_of P b c false here there e = subst P (sym (eqb-true b c e)) here

digit_no_letter : (b : ℕ) → is_digit b ≡ true → is_letter b ≡ false
digit_no_letter b h = grind arith

number_kind : (b : ℕ) (bs : List ℕ) → is_number (b ∷ bs) ≡ true → kind_of_text (b ∷ bs) ≡ Number
number_kind b bs h =
    let Q : Bool → Type 0 = λ v. nat_eq b 45 ≡ v → (if v then are_digits bs else are_digits (b ∷ bs)) ≡ true → kind_of_text (b ∷ bs) ≡ Number in
    (elim (nat_eq b 45) as Q [
      | true ↦ λ q _. subst (λ (n : ℕ). kind_of_text (n ∷ bs) ≡ Number) (sym (eqb-true b 45 q)) refl
      | false ↦ λ q k. let d = (and_parts (is_digit b) (list_all is_digit bs) k).0 in rw (digit_no_letter b d, d) refl
    ]) refl h

mark_kind : (b : ℕ) → is_mark b ≡ true → kind_of_text (b ∷ []) ≡ Mark
mark_kind b h =
    let P : ℕ → Type 0 = λ n. kind_of_text (n ∷ []) ≡ Mark in
    last_of P b 38 _ refl (last_of P b 124 _ refl (last_of P b 61 _ refl (last_of P b 58 _ refl (last_of P b 41 _ refl (last_of P b 40 _ refl
    (last_of P b 93 _ refl (last_of P b 91 _ refl (last_of P b 125 (b == 123) refl (λ e. subst P (sym (eqb-true b 123 e)) refl))))))))) h

token_kind : (k : TokenKind) (text : List ℕ) → IsToken k text → k ≡ kind_of_text text
token_kind Word [] h = absurd (false≢true h)
token_kind Word (b ∷ bs) h = rw ((and_parts (is_letter b) (list_all is_word_byte bs) h).0) refl
token_kind Number [] h = absurd (false≢true h)
token_kind Number (b ∷ bs) h = sym (number_kind b bs h)
token_kind Text text h = rw h.2 refl
token_kind Mark text h = rw h.2 (sym (mark_kind h.0 h.1))

literal_by_text : (word : List ℕ) (t : Sign) → t.kind ≡ kind_of_text t.text → same_text t.text word ≡ is_literal word t
literal_by_text word t k =
    let Q : Bool → Type 0 = λ v. same_text t.text word ≡ v → v ≡ (nat_eq (kind_code t.kind) (kind_code (kind_of_text word)) && v) in
    (elim (same_text t.text word) as Q [
      | true ↦ λ q. rw (k, same_is t.text word q, kind_code_same (kind_of_text word)) refl
      | false ↦ λ q. and_false (nat_eq (kind_code t.kind) (kind_code (kind_of_text word)))
    ]) refl
  where
    and_false : (b : Bool) → false ≡ (b && false)
    and_false true = refl
    and_false false = refl

-- of tokens of a source, the first is a word or mark where it has its text
pub begins_by_text : (word src : List ℕ) (t : Token) (ts : List Token) → AllByRecursion (IsSpan src) (t ∷ ts) → same_text (bytes_of src t) word ≡ begins word (stream src (t ∷ ts)).signs
begins_by_text word src t ts h = literal_by_text word (record { kind = t.kind; at = t.at; text = bytes_of src t }) (token_kind t.kind (bytes_of src t) h.0.token)

pub begins_by_place : (word bytes src : List ℕ) (ts : List Token) (none : Token) → bytes ≡ word → ∥ AllByRecursion (IsSpan src) ts ∥₁ → 1 ≤ length ts → same_text (bytes_of src (slice_index_or ts 0 none)) bytes ≡ begins word (stream src ts).signs
begins_by_place word bytes src [] none e h lt = absurd (omega (arith, lt))
begins_by_place word bytes src (t ∷ ts) none e h lt = rw e (∥∥₁_elim h (Bool-set _ _) (λ spans. begins_by_text word src t ts spans))
