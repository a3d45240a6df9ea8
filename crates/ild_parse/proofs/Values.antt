-- Values of digits and of texts.
use Rattle.std.proofs.Common.{◌≡◌, ℕ, ◌+◌, ◌-◌, ◌<◌, true, false, List, [], ◌∷◌, ◌++◌, length, take, drop, get_or, refl, sym, ap, subst, ◌∙◌, arith, IsUtf8, append_assoc, length-append}
use Rattle.std.specs.Prelude.{◌==◌, encode_utf8}
use Rattle.std.specs.List.{AllByRecursion}
use Rattle.std.specs.Str.{IsCharBoundary, encode_utf8_all}
use Rattle.std.proofs.Math.Seq.{get_or-append_seam}
use Rattle.std.proofs.lemmas.Bool.{false≢true}
use Rattle.std.proofs.lemmas.List.{at_drop_more}
use Rattle.std.proofs.lemmas.Str.{IsUtf8-nil, IsUtf8-between, IsCharBoundary-before_ascii, IsCharBoundary-after_ascii}
use Rattle.ild_lex.specs.declared.token.Token.{Token}
use Rattle.ild_lex.specs.declared.token.TokenKind.{TokenKind}
use Rattle.ild_lex.specs.declared.token.TokenKind.TheVariants.{Word, Number, Text, Mark}
use Rattle.ild_lex.specs.Form.{IsText, IsToken}
use Rattle.ild_lex.specs.Span.{IsSpan, bytes_of}
use Rattle.ild_parse_grammar.proofs.Stream.{stream, text_of}
use Rattle.ild_parse_grammar.specs.Sign.{is_text, is_text_kind}
use Rattle.ild_parse_grammar.specs.Value.{inside_of, unescaped}

-- the next token is a text by itself
pub text_utf8 : (src : List ℕ) (ts : List Token) → AllByRecursion (IsSpan src) ts → IsUtf8 (text_of (stream src ts).signs)
text_utf8 src [] h = IsUtf8-nil
text_utf8 src (t ∷ ts) h = h.0.utf8

-- so is what stands between its quotes
inside_utf8_of : (text : List ℕ) → IsText text → IsUtf8 text → IsUtf8 (inside_of text)
inside_utf8_of text t utf8 = subst (λ (x : List ℕ). IsUtf8 (inside_of x)) (sym t.2) (quoted t.0 (subst IsUtf8 t.2 utf8))
  where
    quoted : (inside : List ℕ) → IsUtf8 (34 ∷ inside ++ 34 ∷ []) → IsUtf8 (inside_of (34 ∷ inside ++ 34 ∷ []))
    quoted inside u =
        let text : List ℕ = 34 ∷ inside ++ 34 ∷ [] in
        let len : length text ≡ length inside + 2 = omega (arith, length-append inside (34 ∷ [])) in
        let one : length inside + 1 ≡ length (34 ∷ inside) = omega arith in
        let closing : get_or text (length inside + 1) 0 ≡ 34 = rw one (get_or-append_seam (34 ∷ inside) 34 [] 0) in
        let from : IsCharBoundary text 1 = IsCharBoundary-after_ascii text 0 u (omega arith) (omega arith) in
        let end : IsCharBoundary text (length inside + 1) = IsCharBoundary-before_ascii text (length inside + 1) (omega arith) (omega arith) in
        let size : length inside + 1 - 1 ≡ length text - 2 = omega arith in
        subst (λ (n : ℕ). IsUtf8 (take n (drop 1 text))) size (IsUtf8-between text 1 (length inside + 1) u (omega arith) from end)

pub inside_utf8 : (src : List ℕ) (ts : List Token) → AllByRecursion (IsSpan src) ts → is_text (stream src ts).signs ≡ true → IsUtf8 (inside_of (text_of (stream src ts).signs))
inside_utf8 src [] h e = absurd (false≢true e)
inside_utf8 src (t ∷ ts) h e = inside_utf8_of (bytes_of src t) (kind_text t.kind e h.0.token) h.0.utf8
  where
    kind_text : (kind : TokenKind) → is_text_kind kind ≡ true → IsToken kind (bytes_of src t) → IsText (bytes_of src t)
    kind_text Word q k = absurd (false≢true q)
    kind_text Number q k = absurd (false≢true q)
    kind_text Text q k = k
    kind_text Mark q k = absurd (false≢true q)

-- ---- characters behind backslashes, one after the other

at_place : (cs : List ℕ) (n c : ℕ) → n < length cs → c ≡ get_or cs n c → drop n cs ≡ c ∷ drop (n + 1) cs
at_place cs n c lt is = at_drop_more (λ (x : List ℕ). x) cs n c lt ∙ ap (λ (x : ℕ). x ∷ drop (n + 1) cs) (sym is)

pub kept_behind : (text cs all : List ℕ) (n c : ℕ) → n < length cs → c ≡ get_or cs n c → text ++ encode_utf8_all (unescaped true (drop n cs)) ≡ all → (text ++ encode_utf8 c) ++ encode_utf8_all (unescaped false (drop (n + 1) cs)) ≡ all
kept_behind text cs all n c lt is h =
    append_assoc text (encode_utf8 c) (encode_utf8_all (unescaped false (drop (n + 1) cs))) ∙ ap (λ (x : List ℕ). text ++ encode_utf8_all (unescaped true x)) (sym (at_place cs n c lt is)) ∙ h

pub kept_plain : (text cs all : List ℕ) (n c : ℕ) → n < length cs → c ≡ get_or cs n c → (c == 92) ≡ false → text ++ encode_utf8_all (unescaped false (drop n cs)) ≡ all → (text ++ encode_utf8 c) ++ encode_utf8_all (unescaped false (drop (n + 1) cs)) ≡ all
kept_plain text cs all n c lt is ne h =
    let one : unescaped false (c ∷ drop (n + 1) cs) ≡ c ∷ unescaped false (drop (n + 1) cs) = rw ne refl in
    append_assoc text (encode_utf8 c) (encode_utf8_all (unescaped false (drop (n + 1) cs))) ∙ ap (λ (x : List ℕ). text ++ encode_utf8_all x) (sym one) ∙ ap (λ (x : List ℕ). text ++ encode_utf8_all (unescaped false x)) (sym (at_place cs n c lt is)) ∙ h

pub passed_backslash : (text cs all : List ℕ) (n c : ℕ) → n < length cs → c ≡ get_or cs n c → (c == 92) ≡ true → text ++ encode_utf8_all (unescaped false (drop n cs)) ≡ all → text ++ encode_utf8_all (unescaped true (drop (n + 1) cs)) ≡ all
passed_backslash text cs all n c lt is eq h =
    let one : unescaped false (c ∷ drop (n + 1) cs) ≡ unescaped true (drop (n + 1) cs) = rw eq refl in
    ap (λ (x : List ℕ). text ++ encode_utf8_all x) (sym one) ∙ ap (λ (x : List ℕ). text ++ encode_utf8_all (unescaped false x)) (sym (at_place cs n c lt is)) ∙ h
