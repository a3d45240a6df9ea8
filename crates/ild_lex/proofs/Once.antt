-- A text has one list of tokens and one end: what the definition says comes first is what the scanner finds.
use Rattle.std.proofs.Common.{◌≡◌, ℕ, ◌+◌, ◌-◌, ◌≤◌, Bool, true, false, ◌||◌, List, [], ◌∷◌, ◌++◌, length, refl, sym, ap, subst, ◌∙◌, arith, inl, inr, append_assoc, length-append}
use Rattle.std.specs.Prelude.{◌==◌, Result, Ok, Err}
use Rattle.std.specs.List.{list_all}
use Rattle.std.proofs.lemmas.Bool.{and_parts, and_from, or_parts, cases_Bool, eqb-true, false≢true, false_from_ne_true}
use Rattle.ild_lex.specs.declared.token.Token.{Token}
use Rattle.ild_lex.specs.declared.token.TokenKind.{TokenKind}
use Rattle.ild_lex.specs.declared.token.TokenKind.TheVariants.{Word, Number, Text, Mark}
use Rattle.ild_lex.specs.Bytes.{is_letter, is_digit, is_word_byte, is_mark, is_blank, hash, quote, minus}
use Rattle.ild_lex.specs.Form.{IsLongest, are_digits, is_inside}
use Rattle.ild_lex.specs.declared.error.LexErr.{LexErr}
use Rattle.ild_lex.specs.declared.error.LexErr.TheVariants as E
use Rattle.ild_lex.specs.Lex.{Stop, all_read, wrong_char, unended_text, IsWrongFirst, HasWrongEscape, IsUnended, NoDigit, EndsAt, Lexes, Reads, ReadsTokens}
use Rattle.ild_lex.specs.inside.Scan.{Piece, token, wrong, unended, piece_of, piece_of_text, skip, skip_while, begins_with_digit, goes, stops, by_piece, behind_gap, first_of}
use Rattle.ild_lex.proofs.Classes.{mark_is, letter_is, digit_is}
use Rattle.ild_lex.proofs.Runs.{Begins, run_more, skip-run, skip-none}
use Rattle.ild_lex.proofs.Texts.{text-inside, text-closed, text-cut_short, text-wrong}
use Rattle.ild_lex.proofs.Gaps.{skip-gap, skip-last}

-- a byte that begins no gap stands first
stands : (end b : ℕ) (bs : List ℕ) (piece : Piece) → (b == hash) ≡ false → is_blank b ≡ false → piece_of (b ∷ bs) ≡ piece → first_of end (b ∷ bs) ≡ by_piece end (b ∷ bs) piece
stands end b bs piece s k e =
    let here : skip false (b ∷ bs) ≡ b ∷ bs = rw (s, k) refl in
    ap (behind_gap end) here ∙ ap (by_piece end (b ∷ bs)) e

-- the longest run stops before a byte that would pass
no_more : (p : ℕ → Bool) (rest : List ℕ) → ((b : ℕ) (more : List ℕ) → rest ≡ b ∷ [] ++ more → p b ≡ true → ⊥) → Begins p rest
no_more p [] h = tt
no_more p (b ∷ more) h = false_from_ne_true (p b) (λ e. h b more refl e)

whole_run : (p : ℕ → Bool) (run rest : List ℕ) → list_all p run ≡ true → Begins p rest → skip_while p (run ++ rest) ≡ rest
whole_run p run rest each stop = skip-run p run rest each ∙ skip-none p rest stop

word_first : (end b : ℕ) (bs rest : List ℕ) → IsLongest Word (b ∷ bs) rest → first_of end ((b ∷ bs) ++ rest) ≡ by_piece end ((b ∷ bs) ++ rest) (token Word rest)
word_first end b bs rest h =
    let a = and_parts (is_letter b) (list_all is_word_byte bs) h.token in
    let n = letter_is b a.0 in
    let stop = no_more is_word_byte rest (λ c more e w. h.longest Word c [] more e (and_from (is_letter b) (list_all is_word_byte (bs ++ c ∷ [])) a.0 (run_more is_word_byte bs c a.1 w))) in
    let left : piece_of (b ∷ bs ++ rest) ≡ token Word rest = rw a.0 (ap (token Word) (whole_run is_word_byte bs rest a.1 stop)) in
    stands end b (bs ++ rest) (token Word rest) n.4 n.5 left

number_first : (end b : ℕ) (bs rest : List ℕ) → IsLongest Number (b ∷ bs) rest → first_of end ((b ∷ bs) ++ rest) ≡ by_piece end ((b ∷ bs) ++ rest) (token Number rest)
number_first end b bs rest h =
    elim (cases_Bool (b == minus)) [
      | inl m ↦
          let Goal : ℕ → Type 0 = λ n. IsLongest Number (n ∷ bs) rest → first_of end ((n ∷ bs) ++ rest) ≡ by_piece end ((n ∷ bs) ++ rest) (token Number rest) in
          subst Goal (sym (eqb-true b minus m)) (below_zero bs) h
      | inr m ↦ plain m (rw m at h.token)
    ]
  where
    below_zero : (ds : List ℕ) → IsLongest Number (minus ∷ ds) rest → first_of end ((minus ∷ ds) ++ rest) ≡ by_piece end ((minus ∷ ds) ++ rest) (token Number rest)
    below_zero [] l = absurd (false≢true l.token)
    below_zero (d ∷ ds) l =
        let a = and_parts (is_digit d) (list_all is_digit ds) l.token in
        let stop = no_more is_digit rest (λ c more e w. l.longest Number c [] more e (and_from (is_digit d) (list_all is_digit (ds ++ c ∷ [])) a.0 (run_more is_digit ds c a.1 w))) in
        let left : piece_of (minus ∷ d ∷ ds ++ rest) ≡ token Number rest = rw a.0 (ap (token Number) (whole_run is_digit ds rest a.1 stop)) in
        stands end minus (d ∷ ds ++ rest) (token Number rest) refl refl left

    plain : (b == minus) ≡ false → are_digits (b ∷ bs) ≡ true → first_of end ((b ∷ bs) ++ rest) ≡ by_piece end ((b ∷ bs) ++ rest) (token Number rest)
    plain m t =
        let a = and_parts (is_digit b) (list_all is_digit bs) t in
        let n = digit_is b a.0 in
        let stop = no_more is_digit rest (λ c more e w. h.longest Number c [] more e (rw m (and_from (is_digit b) (list_all is_digit (bs ++ c ∷ [])) a.0 (run_more is_digit bs c a.1 w)))) in
        let left : piece_of (b ∷ bs ++ rest) ≡ token Number rest = rw (n.0, a.0) (ap (token Number) (whole_run is_digit bs rest a.1 stop)) in
        stands end b (bs ++ rest) (token Number rest) n.4 n.5 left

text_first : (end : ℕ) (inside rest : List ℕ) → is_inside inside ≡ true → first_of end ((quote ∷ inside ++ quote ∷ []) ++ rest) ≡ by_piece end ((quote ∷ inside ++ quote ∷ []) ++ rest) (token Text rest)
text_first end inside rest h =
    let left : piece_of_text ((inside ++ quote ∷ []) ++ rest) ≡ token Text rest = ap piece_of_text (append_assoc inside (quote ∷ []) rest) ∙ text-inside inside (quote ∷ rest) h ∙ text-closed rest in
    stands end quote ((inside ++ quote ∷ []) ++ rest) (token Text rest) refl refl left

mark_first : (end b : ℕ) (rest : List ℕ) → is_mark b ≡ true → first_of end (b ∷ rest) ≡ by_piece end (b ∷ rest) (token Mark rest)
mark_first end b rest h =
    let n = mark_is b h in
    let left : piece_of (b ∷ rest) ≡ token Mark rest = rw (n.letter, n.digit, n.minus, n.quote, h) refl in
    stands end b rest (token Mark rest) n.hash n.blank left

-- the longest token is found
token_first : (end : ℕ) (kind : TokenKind) (text rest : List ℕ) → IsLongest kind text rest → first_of end (text ++ rest) ≡ by_piece end (text ++ rest) (token kind rest)
token_first end Word [] rest h = absurd (false≢true h.token)
token_first end Word (b ∷ bs) rest h = word_first end b bs rest h
token_first end Number [] rest h = absurd (false≢true h.token)
token_first end Number (b ∷ bs) rest h = number_first end b bs rest h
token_first end Text text rest h = subst (λ (t : List ℕ). first_of end (t ++ rest) ≡ by_piece end (t ++ rest) (token Text rest)) (sym h.token.2) (text_first end h.token.0 rest h.token.1)
token_first end Mark text rest h = subst (λ (t : List ℕ). first_of end (t ++ rest) ≡ by_piece end (t ++ rest) (token Mark rest)) (sym h.token.2) (mark_first end h.token.0 rest h.token.1)

no_digit_begins : (bs : List ℕ) → NoDigit bs → begins_with_digit bs ≡ false
no_digit_begins [] h = refl
no_digit_begins (b ∷ bs) h = h

wrong_first : (end : ℕ) (bytes : List ℕ) → IsWrongFirst bytes → first_of end bytes ≡ stops (wrong_char (end - length bytes))
wrong_first end [] h = absurd h
wrong_first end (b ∷ bs) h =
    elim h [
      | inl n ↦
          let hashed = or_parts (is_letter b || is_digit b || b == minus || b == quote || is_mark b || is_blank b) (b == hash) n in
          let blank = or_parts (is_letter b || is_digit b || b == minus || b == quote || is_mark b) (is_blank b) hashed.0 in
          let mark = or_parts (is_letter b || is_digit b || b == minus || b == quote) (is_mark b) blank.0 in
          let quoted = or_parts (is_letter b || is_digit b || b == minus) (b == quote) mark.0 in
          let dash = or_parts (is_letter b || is_digit b) (b == minus) quoted.0 in
          let first = or_parts (is_letter b) (is_digit b) dash.0 in
          let left : piece_of (b ∷ bs) ≡ wrong (b ∷ bs) = rw (first.0, first.1, dash.1, quoted.1, mark.1) refl in
          stands end b bs (wrong (b ∷ bs)) hashed.1 blank.1 left
      | inr m ↦
          let left : piece_of (minus ∷ bs) ≡ wrong (minus ∷ bs) = rw (no_digit_begins bs m.1) refl in
          subst (λ (n : ℕ). first_of end (n ∷ bs) ≡ stops (wrong_char (end - length (n ∷ bs)))) (sym m.0) (stands end minus bs (wrong (minus ∷ bs)) refl refl left)
    ]

escape_first : (end : ℕ) (bytes : List ℕ) (behind : ℕ) → HasWrongEscape bytes behind → first_of end bytes ≡ stops (wrong_char (end - (length bytes - behind)))
escape_first end bytes behind h =
    let left : piece_of (quote ∷ h.inside ++ h.rest) ≡ wrong h.rest = text-inside h.inside h.rest h.is_inside ∙ text-wrong h.rest h.wrong in
    let place : length h.rest ≡ length bytes - behind = omega (arith, ap length h.is, length-append h.inside h.rest, h.behind_is) in
    ap (first_of end) h.is ∙ stands end quote (h.inside ++ h.rest) (wrong h.rest) refl refl left ∙ ap (λ (n : ℕ). stops (wrong_char (end - n))) place

unended_first : (end : ℕ) (bytes : List ℕ) → IsUnended bytes → first_of end bytes ≡ stops (unended_text (end - length bytes))
unended_first end bytes h =
    let left : piece_of (quote ∷ h.inside ++ h.rest) ≡ unended = text-inside h.inside h.rest h.is_inside ∙ text-cut_short h.rest h.cut_short in
    ap (first_of end) h.is ∙ stands end quote (h.inside ++ h.rest) unended refl refl left ∙ ap (λ (l : List ℕ). stops (unended_text (end - length l))) (sym h.is)

-- an end is found
ends_first : (end at : ℕ) (bytes : List ℕ) (stop : Stop) → at + length bytes ≡ end → EndsAt at bytes stop → first_of end bytes ≡ stops stop
ends_first end at bytes all_read len h = ap (behind_gap end) (skip-last bytes h)
ends_first end at bytes (wrong_char p) len h =
    elim h [
      | inl a ↦ let place : end - length bytes ≡ p = omega arith in wrong_first end bytes a.0 ∙ ap (λ (n : ℕ). stops (wrong_char n)) place
      | inr a ↦
          let shorter : a.0 ≤ length bytes = omega (arith, a.1.behind_is, ap length a.1.is, length-append a.1.inside a.1.rest) in
          let place : end - (length bytes - a.0) ≡ p = omega (arith, a.2) in
          escape_first end bytes a.0 a.1 ∙ ap (λ (n : ℕ). stops (wrong_char n)) place
    ]
ends_first end at bytes (unended_text p) len h = let place : end - length bytes ≡ p = omega (arith, h.1) in unended_first end bytes h.0 ∙ ap (λ (n : ℕ). stops (unended_text n)) place

-- what is read at a place is what is found first there
last_first : (end at : ℕ) (bytes : List ℕ) (stop : Stop) → at + length bytes ≡ end → Lexes at bytes [] stop → first_of end bytes ≡ stops stop
last_first end at bytes stop len h =
    let rest_len : at + length h.0 + length h.1 ≡ end = omega (arith, ap length h.2, length-append h.0 h.1) in
    ap (first_of end) h.2 ∙ ap (behind_gap end) (skip-gap h.0 h.1 h.3) ∙ ends_first end (at + length h.0) h.1 stop rest_len h.4

made : (kind : TokenKind) (a b c d : ℕ) (rest : List ℕ) → a ≡ c → b ≡ d → goes (record { kind = kind; at = a; end = b }) rest ≡ goes (record { kind = kind; at = c; end = d }) rest
made kind a b c d rest p q = λ i. goes (record { kind = kind; at = p i; end = q i }) rest

next_first : (end at : ℕ) (bytes : List ℕ) (t : Token) (ts : List Token) (stop : Stop) → at + length bytes ≡ end → (h : Lexes at bytes (t ∷ ts) stop) → (first_of end bytes ≡ goes t h.2) × (t.end + length h.2 ≡ end)
next_first end at bytes t ts stop len h =
    let whole : length bytes ≡ length h.0 + (length h.1 + length h.2) = ap length h.3 ∙ length-append h.0 (h.1 ++ h.2) ∙ ap (λ (n : ℕ). length h.0 + n) (length-append h.1 h.2) in
    let from : end - length (h.1 ++ h.2) ≡ t.at = omega (arith, whole, h.6, length-append h.1 h.2) in
    let to : end - length h.2 ≡ t.end = omega (arith, whole, h.6, h.7) in
    (ap (first_of end) h.3 ∙ ap (behind_gap end) (skip-gap h.0 (h.1 ++ h.2) h.4) ∙ token_first end t.kind h.1 h.2 h.5 ∙ made t.kind _ _ t.at t.end h.2 from to, omega (arith, whole, h.6, h.7))

pub one_reading : (end at : ℕ) (bytes : List ℕ) (ts us : List Token) (s r : Stop) → at + length bytes ≡ end → Lexes at bytes ts s → Lexes at bytes us r → (ts ≡ us) × (s ≡ r)
one_reading end at bytes [] [] s r len h k =
    let e = last_first end at bytes s len h in
    let f = last_first end at bytes r len k in
    (refl, cc)
one_reading end at bytes [] (u ∷ us) s r len h k =
    let e = last_first end at bytes s len h in
    let f = (next_first end at bytes u us r len k).0 in
    absurd cc
one_reading end at bytes (t ∷ ts) [] s r len h k =
    let e = (next_first end at bytes t ts s len h).0 in
    let f = last_first end at bytes r len k in
    absurd cc
one_reading end at bytes (t ∷ ts) (u ∷ us) s r len h k =
    let e = next_first end at bytes t ts s len h in
    let f = next_first end at bytes u us r len k in
    let same : goes t h.2 ≡ goes u k.2 = sym e.0 ∙ f.0 in
    let token_same : t ≡ u = cc in
    let rest_same : h.2 ≡ k.2 = cc in
    let there : Lexes t.end h.2 us r = subst (λ (x : Token). Lexes x.end h.2 us r) (sym token_same) (subst (λ (x : List ℕ). Lexes u.end x us r) (sym rest_same) k.8) in
    let more = one_reading end t.end h.2 ts us s r e.1 h.8 there in
    ((λ i. token_same i ∷ more.0 i), more.1)

-- so an answer that is true is the only one
pub only_answer : (src : List ℕ) (result : Result (List Token) LexErr) → Reads (λ v. v) src result → (ts : List Token) (stop : Stop) → Lexes 0 src ts stop → ReadsTokens (λ v. v) ts stop result
only_answer src (Ok v) h ts stop k =
    let one = one_reading (length src) 0 src v ts all_read stop (omega arith) h k in
    subst (λ (s : Stop). ReadsTokens (λ v. v) ts s (Ok v)) one.1 one.0
only_answer src (Err E.Memory) h ts stop k = memory_answer ts stop
  where
    memory_answer : (ts : List Token) (stop : Stop) → ReadsTokens {A = List Token} (λ v. v) ts stop (Err E.Memory)
    memory_answer ts all_read = tt
    memory_answer ts (wrong_char p) = tt
    memory_answer ts (unended_text p) = tt
only_answer src (Err (E.Char at)) h ts stop k =
    let one = one_reading (length src) 0 src h.0 ts (wrong_char at) stop (omega arith) h.1 k in
    subst (λ (s : Stop). ReadsTokens {A = List Token} (λ v. v) ts s (Err (E.Char at))) one.1 refl
only_answer src (Err (E.Unended at)) h ts stop k =
    let one = one_reading (length src) 0 src h.0 ts (unended_text at) stop (omega arith) h.1 k in
    subst (λ (s : Stop). ReadsTokens {A = List Token} (λ v. v) ts s (Err (E.Unended at))) one.1 refl
