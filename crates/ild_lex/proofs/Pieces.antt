-- What the scanner finds at a place is the longest token there, or a fault; and what is that is what it finds.
use Rattle.std.proofs.Common.{◌≡◌, ℕ, ◌+◌, ◌<◌, Bool, true, false, cond, ◌&&◌, List, [], ◌∷◌, ◌++◌, length, refl, sym, ap, subst, ◌∙◌, arith, inl, inr, append_assoc, length-append}
use Rattle.std.specs.Prelude.{◌==◌, ◌⊎◌}
use Rattle.std.specs.List.{list_all}
use Rattle.std.proofs.lemmas.Bool.{and_parts, and_from, cases_Bool, eqb-true, eqb-false, false≢true}
use Rattle.ild_lex.specs.declared.token.TokenKind.{TokenKind}
use Rattle.ild_lex.specs.declared.token.TokenKind.TheVariants.{Word, Number, Text, Mark}
use Rattle.ild_lex.specs.Bytes.{is_letter, is_digit, is_word_byte, is_mark, is_blank, hash, quote, minus}
use Rattle.ild_lex.specs.Form.{IsToken, IsText, IsMark, IsLongest, is_word, is_number, are_digits, is_inside}
use Rattle.ild_lex.specs.Lex.{IsWrongFirst, HasWrongEscape, IsUnended, NoDigit}
use Rattle.ild_lex.specs.inside.Scan.{Piece, token, wrong, unended, piece_of, piece_of_text, skip_while, begins_with_digit}
use Rattle.ild_lex.proofs.Classes.{mark_is, letter_is, digit_is}
use Rattle.ild_lex.proofs.Runs.{Begins, run_of, run_stops}
use Rattle.ild_lex.proofs.Texts.{IsTextEnd, text_end, text-inside}

-- what a piece says of the bytes
abbrev pub IsPiece : List ℕ → Piece → Type 0
IsPiece bytes (token k after) = (text : List ℕ) × (bytes ≡ text ++ after) × (0 < length text) × IsLongest k text after
IsPiece bytes (wrong from) = (IsWrongFirst bytes × (from ≡ bytes)) ⊎ ((behind : ℕ) × HasWrongEscape bytes behind × (behind + length from ≡ length bytes))
IsPiece bytes unended = IsUnended bytes

-- ---- no token of another kind is longer

no_text : (b : ℕ) (bs : List ℕ) → (b == quote) ≡ false → IsText (b ∷ bs) → ⊥
no_text b bs h t = let e : b ≡ quote = cc (t.2) in eqb-false b quote h e

no_mark : (b c : ℕ) (run more : List ℕ) → IsMark (b ∷ run ++ c ∷ more) → ⊥
no_mark b c run more t = absurd (omega (arith, ap length t.2, length-append run (c ∷ more)))

digits_pass : (bs : List ℕ) → are_digits bs ≡ true → list_all is_digit bs ≡ true
digits_pass [] h = absurd (false≢true h)
digits_pass (b ∷ bs) h = h

number_tail : (b : ℕ) (bs : List ℕ) → is_number (b ∷ bs) ≡ true → list_all is_digit bs ≡ true
number_tail b bs h =
    let P : Bool → Type 0 = λ v. cond v (are_digits bs) (is_digit b && list_all is_digit bs) ≡ true → list_all is_digit bs ≡ true in
    (elim (b == minus) as P [ true ↦ λ e. digits_pass bs e | false ↦ λ e. (and_parts (is_digit b) (list_all is_digit bs) e).1 ]) h

word_longest : (b c : ℕ) (run more after : List ℕ) (other : TokenKind) → is_letter b ≡ true → Begins is_word_byte (c ∷ more ++ after) → IsToken other (b ∷ run ++ c ∷ more) → ⊥
word_longest b c run more after Word l h t = run_stops is_word_byte run more after c h (and_parts (is_letter b) (list_all is_word_byte (run ++ c ∷ more)) t).1
word_longest b c run more after Number l h t =
    let n = letter_is b l in
    let e : is_number (b ∷ run ++ c ∷ more) ≡ false = rw (n.1, n.0) refl in
    false≢true (sym e ∙ t)
word_longest b c run more after Text l h t = no_text b (run ++ c ∷ more) (letter_is b l).2 t
word_longest b c run more after Mark l h t = no_mark b c run more t

number_longest : (b c : ℕ) (run more after : List ℕ) (other : TokenKind) → is_letter b ≡ false → (b == quote) ≡ false → Begins is_digit (c ∷ more ++ after) → IsToken other (b ∷ run ++ c ∷ more) → ⊥
number_longest b c run more after Word l q h t = let e : is_word (b ∷ run ++ c ∷ more) ≡ false = rw l refl in false≢true (sym e ∙ t)
number_longest b c run more after Number l q h t = run_stops is_digit run more after c h (number_tail b (run ++ c ∷ more) t)
number_longest b c run more after Text l q h t = no_text b (run ++ c ∷ more) q t
number_longest b c run more after Mark l q h t = no_mark b c run more t

text_longest : (c : ℕ) (inside more : List ℕ) (other : TokenKind) → is_inside inside ≡ true → IsToken other ((quote ∷ inside ++ quote ∷ []) ++ c ∷ more) → ⊥
text_longest c inside more Word h t = false≢true t
text_longest c inside more Number h t = false≢true t
text_longest c inside more Text h t =
    let regrouped : (inside ++ quote ∷ []) ++ c ∷ more ≡ inside ++ (quote ∷ c ∷ more) = append_assoc inside (quote ∷ []) (c ∷ more) in
    let left : piece_of_text ((inside ++ quote ∷ []) ++ c ∷ more) ≡ token Text (c ∷ more) = ap piece_of_text regrouped ∙ text-inside inside (quote ∷ c ∷ more) h in
    let right : piece_of_text (t.0 ++ quote ∷ []) ≡ token Text [] = text-inside t.0 (quote ∷ []) t.1 in
    let same : (inside ++ quote ∷ []) ++ c ∷ more ≡ t.0 ++ quote ∷ [] = cc (t.2) in
    let both : token Text (c ∷ more) ≡ token Text [] = sym left ∙ ap piece_of_text same ∙ right in
    absurd cc
text_longest c inside more Mark h t = no_mark quote c (inside ++ quote ∷ []) more t

mark_longest : (b c : ℕ) (more : List ℕ) (other : TokenKind) → is_mark b ≡ true → IsToken other (b ∷ c ∷ more) → ⊥
mark_longest b c more Word h t = let e : is_word (b ∷ c ∷ more) ≡ false = rw (mark_is b h).letter refl in false≢true (sym e ∙ t)
mark_longest b c more Number h t = let e : is_number (b ∷ c ∷ more) ≡ false = rw ((mark_is b h).minus, (mark_is b h).digit) refl in false≢true (sym e ∙ t)
mark_longest b c more Text h t = no_text b (c ∷ more) (mark_is b h).quote t
mark_longest b c more Mark h t = no_mark b c [] more t

-- ---- what is found is there

word_piece : (b : ℕ) (bs : List ℕ) → is_letter b ≡ true → IsPiece (b ∷ bs) (token Word (skip_while is_word_byte bs))
word_piece b bs l =
    let r = run_of is_word_byte bs in (
      b ∷ r.run,
      ap (λ (x : List ℕ). b ∷ x) r.is,
      omega arith,
      record {
        token = and_from (is_letter b) (list_all is_word_byte r.run) l r.each;
        longest = λ other c more after e t. word_longest b c r.run more after other l (subst (Begins is_word_byte) e r.stops) t;
      },
    )

digit_piece : (b : ℕ) (bs : List ℕ) → is_digit b ≡ true → IsPiece (b ∷ bs) (token Number (skip_while is_digit bs))
digit_piece b bs d =
    let r = run_of is_digit bs in
    let n = digit_is b d in (
      b ∷ r.run,
      ap (λ (x : List ℕ). b ∷ x) r.is,
      omega arith,
      record {
        token = rw n.1 (and_from (is_digit b) (list_all is_digit r.run) d r.each);
        longest = λ other c more after e t. number_longest b c r.run more after other n.0 n.2 (subst (Begins is_digit) e r.stops) t;
      },
    )

minus_digits : (run rest : List ℕ) → list_all is_digit run ≡ true → begins_with_digit (run ++ rest) ≡ true → Begins is_digit rest → are_digits run ≡ true
minus_digits [] [] each h stops = absurd (false≢true h)
minus_digits [] (b ∷ bs) each h stops = absurd (false≢true (sym stops ∙ h))
minus_digits (c ∷ run) rest each h stops = each

minus_piece : (bs : List ℕ) → begins_with_digit bs ≡ true → IsPiece (minus ∷ bs) (token Number (skip_while is_digit bs))
minus_piece bs h =
    let r = run_of is_digit bs in (
      minus ∷ r.run,
      ap (λ (x : List ℕ). minus ∷ x) r.is,
      omega arith,
      record {
        token = minus_digits r.run (skip_while is_digit bs) r.each (subst (λ (x : List ℕ). begins_with_digit x ≡ true) r.is h) r.stops;
        longest = λ other c more after e t. number_longest minus c r.run more after other refl refl (subst (Begins is_digit) e r.stops) t;
      },
    )

text_piece : (bs : List ℕ) (piece : Piece) → IsTextEnd bs piece → IsPiece (quote ∷ bs) piece
text_piece bs (token k after) t =
    let is : quote ∷ bs ≡ (quote ∷ t.inside ++ quote ∷ []) ++ after = ap (λ (x : List ℕ). quote ∷ x) (t.is ∙ ap (λ (x : List ℕ). t.inside ++ x) t.ends.1 ∙ sym (append_assoc t.inside (quote ∷ []) after)) in (
      quote ∷ t.inside ++ quote ∷ [],
      is,
      omega arith,
      subst (λ (kind : TokenKind). IsLongest kind (quote ∷ t.inside ++ quote ∷ []) after) (sym t.ends.0) (record {
        token = (t.inside, t.is_inside, refl);
        longest = λ other c more after e s. text_longest c t.inside more other t.is_inside s;
      }),
    )
text_piece bs (wrong from) t =
    inr (1 + length t.inside, record { inside = t.inside; rest = t.rest; is = ap (λ (x : List ℕ). quote ∷ x) t.is; is_inside = t.is_inside; wrong = t.ends.1; behind_is = refl }, omega (arith, ap length t.is, length-append t.inside t.rest, ap length t.ends.0))
text_piece bs unended t = record { inside = t.inside; rest = t.rest; is = ap (λ (x : List ℕ). quote ∷ x) t.is; is_inside = t.is_inside; cut_short = t.ends }

mark_piece : (b : ℕ) (bs : List ℕ) → is_mark b ≡ true → IsPiece (b ∷ bs) (token Mark bs)
mark_piece b bs h = (b ∷ [], refl, omega arith, record { token = (b, h, refl); longest = λ other c more after e t. mark_longest b c more other h t })

no_digit : (bs : List ℕ) → begins_with_digit bs ≡ false → NoDigit bs
no_digit [] h = tt
no_digit (b ∷ bs) h = h

-- behind a gap
pub piece_at : (b : ℕ) (bs : List ℕ) → (b == hash) ≡ false → is_blank b ≡ false → IsPiece (b ∷ bs) (piece_of (b ∷ bs))
piece_at b bs s k =
    elim (cases_Bool (is_letter b)) [
      | inl l ↦ rw l (word_piece b bs l)
      | inr l ↦ elim (cases_Bool (is_digit b)) [
        | inl d ↦ rw (l, d) (digit_piece b bs d)
        | inr d ↦ elim (cases_Bool (b == minus)) [
          | inl m ↦ elim (cases_Bool (begins_with_digit bs)) [
            | inl g ↦ subst (λ (n : ℕ). IsPiece (n ∷ bs) (piece_of (n ∷ bs))) (sym (eqb-true b minus m)) (rw g (minus_piece bs g))
            | inr g ↦ rw (l, d, m, g) (inl (inr (eqb-true b minus m, no_digit bs g), refl))
          ]
          | inr m ↦ elim (cases_Bool (b == quote)) [
            | inl q ↦ subst (λ (n : ℕ). IsPiece (n ∷ bs) (piece_of (n ∷ bs))) (sym (eqb-true b quote q)) (text_piece bs (piece_of_text bs) (text_end bs))
            | inr q ↦ elim (cases_Bool (is_mark b)) [
              | inl h ↦ rw (l, d, m, q, h) (mark_piece b bs h)
              | inr h ↦ rw (l, d, m, q, h) (inl (inl (rw (l, d, m, q, h, k, s) refl), refl))
            ]
          ]
        ]
      ]
    ]
