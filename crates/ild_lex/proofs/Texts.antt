-- Texts: what stands between the quotes is passed over, and what is found behind it says how the text ends.
use Rattle.std.proofs.Common.{◌≡◌, ℕ, Bool, true, false, cond, ◌&&◌, List, [], ◌∷◌, ◌++◌, refl, sym, ap, subst, ◌∙◌, inl, inr}
use Rattle.std.specs.Prelude.{◌==◌}
use Rattle.std.proofs.lemmas.Bool.{and_parts, or_parts, not-true, eqb-true, cases_Bool}
use Rattle.ild_lex.specs.declared.token.TokenKind.TheVariants.{Text}
use Rattle.ild_lex.specs.Bytes.{is_plain, is_escape, quote, backslash, line_feed}
use Rattle.ild_lex.specs.Form.{is_inside}
use Rattle.ild_lex.specs.Lex.{IsCutShort, IsWrongEscape}
use Rattle.ild_lex.specs.inside.Scan.{Piece, token, wrong, unended, piece_of_text}

pub record IsPlainByte (b : ℕ) : Type 0 where
  pub quote : (b == quote) ≡ false
  pub backslash : (b == backslash) ≡ false
  pub line_feed : (b == line_feed) ≡ false

pub plain_is : (b : ℕ) → is_plain b ≡ true → IsPlainByte b
plain_is b h =
    let n = not-true _ h in
    let a = or_parts _ _ n in
    let c = or_parts _ _ a.0 in
    record { quote = c.0; backslash = c.1; line_feed = a.1 }

pub plain_from : (b : ℕ) → (b == quote) ≡ false → (b == backslash) ≡ false → (b == line_feed) ≡ false → is_plain b ≡ true
plain_from b q s l = rw (q, s, l) refl

-- a plain byte is passed over
text-plain : (b : ℕ) (bs : List ℕ) → is_plain b ≡ true → piece_of_text (b ∷ bs) ≡ piece_of_text bs
text-plain b [] h = rw (plain_is b h).quote refl
text-plain b (c ∷ bs) h = let p = plain_is b h in rw (p.quote, p.line_feed, p.backslash) refl

-- so is an escape
text-escape : (b c : ℕ) (bs : List ℕ) → (b == backslash) ≡ true → is_escape c ≡ true → piece_of_text (b ∷ c ∷ bs) ≡ piece_of_text bs
text-escape b c bs h e = subst (λ (n : ℕ). piece_of_text (n ∷ c ∷ bs) ≡ piece_of_text bs) (sym (eqb-true b backslash h)) (rw e refl)

-- what stands inside a text is passed over
pub text-inside : (inside rest : List ℕ) → is_inside inside ≡ true → piece_of_text (inside ++ rest) ≡ piece_of_text rest
text-inside [] rest h = refl
text-inside (b ∷ []) rest h = text-plain b rest h
text-inside (b ∷ c ∷ bs) rest h =
    let P : Bool → Type 0 = λ v. is_plain b ≡ v → cond v (is_inside (c ∷ bs)) (b == backslash && is_escape c && is_inside bs) ≡ true → piece_of_text (b ∷ c ∷ bs ++ rest) ≡ piece_of_text rest in
    (elim (is_plain b) as P [
      | true ↦ λ k e. text-plain b (c ∷ bs ++ rest) k ∙ text-inside (c ∷ bs) rest e
      | false ↦ λ k e.
          let a = and_parts _ _ e in
          let d = and_parts _ _ a.0 in
          text-escape b c (bs ++ rest) d.0 d.1 ∙ text-inside bs rest a.1
    ]) refl h

pub text-cut_short : (rest : List ℕ) → IsCutShort rest → piece_of_text rest ≡ unended
text-cut_short [] h = refl
text-cut_short (b ∷ []) h = elim h [ inl e ↦ rw e refl | inr e ↦ rw e refl ]
text-cut_short (b ∷ c ∷ bs) h = elim h [ inl e ↦ rw e refl | inr e ↦ rw (e.0, e.1) refl ]

pub text-wrong : (rest : List ℕ) → IsWrongEscape rest → piece_of_text rest ≡ wrong rest
text-wrong [] h = absurd h
text-wrong (b ∷ []) h = absurd h
text-wrong (b ∷ c ∷ bs) h = let o = or_parts (is_escape c) (c == line_feed) h.1 in subst (λ (n : ℕ). piece_of_text (n ∷ c ∷ bs) ≡ wrong (n ∷ c ∷ bs)) (sym h.0) (rw (o.0, o.1) refl)

abbrev pub Ends : List ℕ → Piece → Type 0
Ends rest (token k after) = (k ≡ Text) × (rest ≡ quote ∷ after)
Ends rest (wrong from) = (rest ≡ from) × IsWrongEscape rest
Ends rest unended = IsCutShort rest

-- how a text goes on from behind its first quote: its inside, and what ends it
pub record IsTextEnd (bytes : List ℕ) (piece : Piece) : Type 0 where
  pub inside : List ℕ
  pub rest : List ℕ
  pub is : bytes ≡ inside ++ rest
  pub is_inside : is_inside inside ≡ true
  pub ends : Ends rest piece

stops_here : (bytes : List ℕ) (piece : Piece) → Ends bytes piece → IsTextEnd bytes piece
stops_here bytes piece h = record { inside = []; rest = bytes; is = refl; is_inside = refl; ends = h }

plain_first : (b : ℕ) (bs : List ℕ) (piece : Piece) → is_plain b ≡ true → IsTextEnd bs piece → IsTextEnd (b ∷ bs) piece
plain_first b bs piece h t = record { inside = b ∷ t.inside; rest = t.rest; is = ap (λ (l : List ℕ). b ∷ l) t.is; is_inside = plain_inside t.inside t.is_inside; ends = t.ends }
  where
    plain_inside : (inside : List ℕ) → is_inside inside ≡ true → is_inside (b ∷ inside) ≡ true
    plain_inside [] e = h
    plain_inside (c ∷ cs) e = rw h e

escape_first : (b c : ℕ) (bs : List ℕ) (piece : Piece) → (b == backslash) ≡ true → is_escape c ≡ true → IsTextEnd bs piece → IsTextEnd (b ∷ c ∷ bs) piece
escape_first b c bs piece h e t =
    record { inside = b ∷ c ∷ t.inside; rest = t.rest; is = ap (λ (l : List ℕ). b ∷ c ∷ l) t.is; is_inside = subst (λ (n : ℕ). is_inside (n ∷ c ∷ t.inside) ≡ true) (sym (eqb-true b backslash h)) (rw e t.is_inside); ends = t.ends }

pub text_end : (bytes : List ℕ) → IsTextEnd bytes (piece_of_text bytes)
text_end [] = stops_here [] unended tt
text_end (b ∷ []) =
    let P : Bool → Type 0 = λ v. (b == quote) ≡ v → IsTextEnd (b ∷ []) (cond v (token Text []) unended) in
    (elim (b == quote) as P [
      | true ↦ λ q. stops_here (b ∷ []) (token Text []) (refl, ap (λ (n : ℕ). n ∷ []) (eqb-true b quote q))
      | false ↦ λ q. last_byte b q
    ]) refl
  where
    last_byte : (b : ℕ) → (b == quote) ≡ false → IsTextEnd (b ∷ []) unended
    last_byte b q =
        elim (cases_Bool (b == backslash)) [
          | inl s ↦ stops_here (b ∷ []) unended (inr (eqb-true b backslash s))
          | inr s ↦ elim (cases_Bool (b == line_feed)) [
            | inl l ↦ stops_here (b ∷ []) unended (inl (eqb-true b line_feed l))
            | inr l ↦ plain_first b [] unended (plain_from b q s l) (stops_here [] unended tt)
          ]
        ]
text_end (b ∷ c ∷ bs) =
    elim (cases_Bool (b == quote)) [
      | inl q ↦ rw q (stops_here (b ∷ c ∷ bs) (token Text (c ∷ bs)) (refl, ap (λ (n : ℕ). n ∷ c ∷ bs) (eqb-true b quote q)))
      | inr q ↦ elim (cases_Bool (b == line_feed)) [
        | inl l ↦ rw (q, l) (stops_here (b ∷ c ∷ bs) unended (inl (eqb-true b line_feed l)))
        | inr l ↦ elim (cases_Bool (b == backslash)) [
          | inl s ↦ elim (cases_Bool (is_escape c)) [
            | inl e ↦ rw (q, l, s, e) (escape_first b c bs (piece_of_text bs) s e (text_end bs))
            | inr e ↦ elim (cases_Bool (c == line_feed)) [
              | inl n ↦ rw (q, l, s, e, n) (stops_here (b ∷ c ∷ bs) unended (inr (eqb-true b backslash s, eqb-true c line_feed n)))
              | inr n ↦ rw (q, l, s, e, n) (stops_here (b ∷ c ∷ bs) (wrong (b ∷ c ∷ bs)) (refl, (eqb-true b backslash s, rw (e, n) refl)))
            ]
          ]
          | inr s ↦ rw (q, l, s) (plain_first b (c ∷ bs) (piece_of_text (c ∷ bs)) (plain_from b q s l) (text_end (c ∷ bs)))
        ]
      ]
    ]

-- a quote ends it
pub text-closed : (rest : List ℕ) → piece_of_text (quote ∷ rest) ≡ token Text rest
text-closed [] = refl
text-closed (b ∷ bs) = refl
