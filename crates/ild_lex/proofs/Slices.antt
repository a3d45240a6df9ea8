-- Each token is a slice of its source, cut between characters.
use Rattle.std.proofs.Common.{◌≡◌, ℕ, zero, suc, ◌+◌, ◌-◌, ◌<◌, Bool, true, List, [], ◌∷◌, ◌++◌, length, get_or, take, drop, IsUtf8, refl, sym, ap, subst, ◌∙◌, arith, inl, inr, append_assoc, length-append}
use Rattle.std.specs.Prelude.{◌==◌}
use Rattle.std.specs.List.{list_all, AllByRecursion}
use Rattle.std.specs.Str.{IsAscii, IsCharBoundary}
use Rattle.std.proofs.lemmas.Bool.{and_parts, cases_Bool, eqb-true, false≢true}
use Rattle.std.proofs.lemmas.Bool.Decides.{nat_tests}
use Rattle.std.proofs.lemmas.List.{take_at, drop_at, get_or-append-add, get_or_append_left}
use Rattle.std.proofs.lemmas.Str.{IsUtf8-from_ascii, IsUtf8-between, IsCharBoundary-before_ascii, IsCharBoundary-after_ascii}
use Rattle.std.proofs.Math.Seq.{get_or-append_seam}
use Rattle.ild_lex.specs.declared.token.Token.{Token}
use Rattle.ild_lex.specs.declared.token.TokenKind.{TokenKind}
use Rattle.ild_lex.specs.declared.token.TokenKind.TheVariants.{Word, Number, Text, Mark}
use Rattle.ild_lex.specs.Bytes.{is_letter, is_digit, is_word_byte, is_mark, quote, minus}
use Rattle.ild_lex.specs.Form.{IsToken, are_digits, is_number}
use Rattle.ild_lex.specs.Lex.{Stop, Lexes}
use Rattle.ild_lex.specs.Span.{IsSpan, bytes_of}

letter_ascii : (b : ℕ) → is_letter b ≡ true → b < 128
letter_ascii b h = grind (arith, nat_tests)

digit_ascii : (b : ℕ) → is_digit b ≡ true → b < 128
digit_ascii b h = grind (arith, nat_tests)

word_byte_ascii : (b : ℕ) → is_word_byte b ≡ true → b < 128
word_byte_ascii b h = grind (arith, nat_tests)

mark_ascii : (b : ℕ) → is_mark b ≡ true → b < 128
mark_ascii b h = grind (arith, nat_tests)

first_ascii : (b : ℕ) (bs : List ℕ) → b < 128 → IsAscii bs → IsAscii (b ∷ bs)
first_ascii b bs h all zero = h
first_ascii b bs h all (suc i) = all i

all_ascii : (p : ℕ → Bool) → ((b : ℕ) → p b ≡ true → b < 128) → (bs : List ℕ) → list_all p bs ≡ true → IsAscii bs
all_ascii p h [] e = λ i. omega arith
all_ascii p h (b ∷ bs) e = let a = and_parts (p b) (list_all p bs) e in first_ascii b bs (h b a.0) (all_ascii p h bs a.1)

digits_ascii : (bs : List ℕ) → are_digits bs ≡ true → IsAscii bs
digits_ascii [] e = absurd (false≢true e)
digits_ascii (b ∷ bs) e = all_ascii is_digit digit_ascii (b ∷ bs) e

number_ascii : (bs : List ℕ) → is_number bs ≡ true → IsAscii bs
number_ascii [] e = absurd (false≢true e)
number_ascii (b ∷ bs) e =
    elim (cases_Bool (b == minus)) [
      | inl m ↦ let b_is : b ≡ 45 = eqb-true b minus m in first_ascii b bs (omega arith) (digits_ascii bs (rw m at e))
      | inr m ↦ digits_ascii (b ∷ bs) (rw m at e)
    ]

-- a text between quotes is cut out between characters
quoted_utf8 : (before inside rest : List ℕ) → IsUtf8 (before ++ ((quote ∷ inside ++ quote ∷ []) ++ rest)) → IsUtf8 (quote ∷ inside ++ quote ∷ [])
quoted_utf8 before inside rest utf8 =
    let text : List ℕ = quote ∷ inside ++ quote ∷ [] in
    let src : List ℕ = before ++ (text ++ rest) in
    let len : length src ≡ length before + (length text + length rest) = length-append before (text ++ rest) ∙ ap (λ (n : ℕ). length before + n) (length-append text rest) in
    let text_len : length text ≡ length inside + 2 = omega (arith, length-append inside (quote ∷ [])) in
    let first : get_or src (length before) 0 ≡ quote = get_or-append_seam before quote ((inside ++ quote ∷ []) ++ rest) 0 in
    let one : length inside + 1 ≡ length (quote ∷ inside) = omega arith in
    let closing : get_or text (length inside + 1) 0 ≡ quote = rw one (get_or-append_seam (quote ∷ inside) quote [] 0) in
    let last : get_or src (length before + (length inside + 1)) 0 ≡ quote = get_or-append-add before (text ++ rest) (length inside + 1) 0 ∙ get_or_append_left text rest 0 (length inside + 1) (omega arith) ∙ closing in
    let from : IsCharBoundary src (length before) = IsCharBoundary-before_ascii src (length before) (omega arith) (omega arith) in
    let end : IsCharBoundary src (length before + (length inside + 1) + 1) = IsCharBoundary-after_ascii src (length before + (length inside + 1)) utf8 (omega arith) (omega arith) in
    let between = IsUtf8-between src (length before) (length before + (length inside + 1) + 1) utf8 (omega arith) from end in
    let size : length before + (length inside + 1) + 1 - length before ≡ length text = omega arith in
    let cut : take (length before + (length inside + 1) + 1 - length before) (drop (length before) src) ≡ text = rw size (ap (take (length text)) (drop_at before (text ++ rest) (length before) refl) ∙ take_at text rest (length text) refl) in
    subst IsUtf8 cut between

token_utf8 : (before text rest : List ℕ) (kind : TokenKind) → IsUtf8 (before ++ (text ++ rest)) → IsToken kind text → IsUtf8 text
token_utf8 before [] rest Word utf8 t = absurd (false≢true t)
token_utf8 before (b ∷ bs) rest Word utf8 t = let a = and_parts (is_letter b) (list_all is_word_byte bs) t in IsUtf8-from_ascii (b ∷ bs) (first_ascii b bs (letter_ascii b a.0) (all_ascii is_word_byte word_byte_ascii bs a.1))
token_utf8 before text rest Number utf8 t = IsUtf8-from_ascii text (number_ascii text t)
token_utf8 before text rest Text utf8 t =
    subst IsUtf8 (sym t.2) (quoted_utf8 before t.0 rest (subst (λ (x : List ℕ). IsUtf8 (before ++ (x ++ rest))) t.2 utf8))
token_utf8 before text rest Mark utf8 t = subst IsUtf8 (sym t.2) (IsUtf8-from_ascii (t.0 ∷ []) (first_ascii t.0 [] (mark_ascii t.0 t.1) (λ i. omega arith)))

-- a token behind these bytes
span_here : (src before text rest : List ℕ) (t : Token) → src ≡ before ++ (text ++ rest) → t.at ≡ length before → t.end ≡ t.at + length text → IsToken t.kind text → IsUtf8 src → IsSpan src t
span_here src before text rest t is at end token utf8 =
    let size : t.end - t.at ≡ length text = omega arith in
    let left : drop t.at src ≡ text ++ rest = rw (at, is) (drop_at before (text ++ rest) (length before) refl) in
    let bytes : bytes_of src t ≡ text = rw size (ap (take (length text)) left ∙ take_at text rest (length text) refl) in
    record {
      ordered = omega arith;
      within = omega (arith, ap length is, length-append before (text ++ rest), length-append text rest);
      token = subst (IsToken t.kind) (sym bytes) token;
      utf8 = subst IsUtf8 (sym bytes) (token_utf8 before text rest t.kind (subst IsUtf8 is utf8) token);
    }

pub spans_from : (src before bytes : List ℕ) (ts : List Token) (stop : Stop) → src ≡ before ++ bytes → Lexes (length before) bytes ts stop → IsUtf8 src → AllByRecursion (IsSpan src) ts
spans_from src before bytes [] stop is h utf8 = tt
spans_from src before bytes (t ∷ ts) stop is h utf8 =
    let ahead : List ℕ = before ++ h.0 in
    let whole : src ≡ ahead ++ (h.1 ++ h.2) = is ∙ ap (λ (x : List ℕ). before ++ x) h.3 ∙ sym (append_assoc before h.0 (h.1 ++ h.2)) in
    let at : t.at ≡ length ahead = omega (arith, h.6, length-append before h.0) in
    let past : src ≡ (ahead ++ h.1) ++ h.2 = whole ∙ sym (append_assoc ahead h.1 h.2) in
    let end : t.end ≡ length (ahead ++ h.1) = omega (arith, h.6, h.7, length-append before h.0, length-append ahead h.1) in
    (span_here src ahead h.1 h.2 t whole at h.7 h.5.token utf8, spans_from src (ahead ++ h.1) h.2 ts stop past (subst (λ (n : ℕ). Lexes n h.2 ts stop) end h.8) utf8)
