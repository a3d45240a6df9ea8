-- What comes first in bytes, as the scanner finds it and as the definition of tokens says it.
use Rattle.std.proofs.Common.{◌≡◌, ℕ, suc, ◌+◌, ◌-◌, ◌<◌, ◌≤◌, Bool, true, false, cond, not, List, [], ◌∷◌, ◌++◌, length, refl, sym, ap, subst, ◌∙◌, arith, inl, inr, append_assoc, length-append}
use Rattle.std.specs.Prelude.{◌==◌}
use Rattle.std.proofs.lemmas.List.{append-nil}
use Rattle.std.proofs.lemmas.Bool.Decides.{nat_tests}
use Rattle.ild_lex.specs.declared.token.Token.{Token}
use Rattle.ild_lex.specs.Bytes.{is_blank, hash, line_feed}
use Rattle.ild_lex.specs.Gap.{IsGap}
use Rattle.ild_lex.specs.Lex.{Stop, Lexes}
use Rattle.ild_lex.specs.inside.Scan.{Piece, token, wrong, unended, piece_of, skip, First, goes, stops, by_piece, behind_gap, first_of}
use Rattle.ild_lex.proofs.Gaps.{skip-gap, gap_before, gap_last}
use Rattle.ild_lex.proofs.Pieces.{IsPiece, piece_at}

-- ---- lengths

pub skip_within : (comment : Bool) (bytes : List ℕ) → length (skip comment bytes) ≤ length bytes
skip_within comment [] = omega arith
skip_within true (b ∷ bs) = omega (arith, skip_within (not (b == line_feed)) bs)
skip_within false (b ∷ bs) =
    let P : Bool → Bool → Type 0 = λ v w. length (cond v (skip true bs) (cond w (skip false bs) (b ∷ bs))) ≤ suc (length bs) in
    (elim (b == hash) as (λ v. (w : Bool) → P v w) [
      | true ↦ λ w. omega (arith, skip_within true bs)
      | false ↦ λ w. elim w as (λ w. P false w) [ true ↦ omega (arith, skip_within false bs) | false ↦ omega arith ]
    ]) (is_blank b)

-- a byte behind a gap begins none
behind_is : (bytes : List ℕ) (b : ℕ) (bs : List ℕ) → skip false bytes ≡ b ∷ bs → ((b == hash) ≡ false) × (is_blank b ≡ false)
behind_is bytes b bs e =
    let g = gap_before bytes b bs e in
    let again : skip false (b ∷ bs) ≡ b ∷ bs = sym (ap (skip false) g.1 ∙ skip-gap g.0 (b ∷ bs) g.2) ∙ e in
    stands b bs again
  where
    stands : (b : ℕ) (bs : List ℕ) → skip false (b ∷ bs) ≡ b ∷ bs → ((b == hash) ≡ false) × (is_blank b ≡ false)
    stands b bs e =
        let P : Bool → Bool → Type 0 = λ v w. cond v (skip true bs) (cond w (skip false bs) (b ∷ bs)) ≡ b ∷ bs → (v ≡ false) × (w ≡ false) in
        (elim (b == hash) as (λ v. (w : Bool) → P v w) [
          | true ↦ λ w q. absurd (omega (arith, ap length q, skip_within true bs))
          | false ↦ λ w. elim w as (λ w. P false w) [ true ↦ λ q. absurd (omega (arith, ap length q, skip_within false bs)) | false ↦ λ q. (refl, refl) ]
        ]) (is_blank b) e

-- what is found behind a gap
pub piece_behind : (bytes : List ℕ) (b : ℕ) (bs : List ℕ) → skip false bytes ≡ b ∷ bs → IsPiece (b ∷ bs) (piece_of (b ∷ bs))
piece_behind bytes b bs e = let h = behind_is bytes b bs e in piece_at b bs h.0 h.1

-- what is left behind a token is shorter, and from a wrong byte on no longer
abbrev pub Shortens : List ℕ → Piece → Type 0
Shortens bytes (token kind after) = length after < length bytes
Shortens bytes (wrong from) = length from ≤ length bytes
Shortens bytes unended = Unit {0}

shortens : (bytes : List ℕ) (piece : Piece) → IsPiece bytes piece → Shortens bytes piece
shortens bytes (token kind after) h = omega (arith, ap length h.1, h.2, length-append h.0 after)
shortens bytes (wrong from) h = elim h [ inl a ↦ omega (arith, ap length a.1) | inr a ↦ omega (arith, a.2) ]
shortens bytes unended h = tt

pub piece_shortens : (bytes rest : List ℕ) → skip false bytes ≡ rest → 0 < length rest → Shortens rest (piece_of rest)
piece_shortens bytes [] e h = absurd (omega arith)
piece_shortens bytes (b ∷ bs) e h = shortens (b ∷ bs) (piece_of (b ∷ bs)) (piece_behind bytes b bs e)

pub gap_within : (end : ℕ) (bytes rest : List ℕ) → rest ≡ skip false bytes → length bytes ≤ end → length rest ≤ end
gap_within end bytes rest e h = omega (arith, ap length e, skip_within false bytes)

-- what is found leaves no more than there was
abbrev Leaves : ℕ → Piece → Type 0
Leaves end (token kind after) = length after ≤ end
Leaves end (wrong from) = length from ≤ end
Leaves end unended = Unit {0}

leaves : (end : ℕ) (rest : List ℕ) (piece : Piece) → length rest ≤ end → Shortens rest piece → Leaves end piece
leaves end rest (token kind after) le h = omega arith
leaves end rest (wrong from) le h = omega arith
leaves end rest unended le h = tt

pub found_within : (end : ℕ) (bytes rest : List ℕ) (piece : Piece) → rest ≡ skip false bytes → (length rest == 0) ≡ false → piece ≡ piece_of rest → length bytes ≤ end → Leaves end piece
found_within end bytes rest piece e full is le =
    leaves end rest piece (gap_within end bytes rest e le) (subst (Shortens rest) (sym is) (piece_shortens bytes rest (sym e) (grind (arith, nat_tests))))

-- ---- what the scanner finds first is first

-- what the first thing in bytes that begin at a place says of all that can be read there
abbrev pub IsFirst : ℕ → ℕ → List ℕ → First → Type 0
IsFirst end at bytes (goes t rest) = (length rest < length bytes) × (t.end + length rest ≡ end) × ((ts : List Token) (stop : Stop) → Lexes t.end rest ts stop → Lexes at bytes (t ∷ ts) stop)
IsFirst end at bytes (stops stop) = Lexes at bytes [] stop

-- behind a gap, what stands there
piece_first : (end at : ℕ) (bytes gap rest : List ℕ) (piece : Piece) → at + length bytes ≡ end → bytes ≡ gap ++ rest → IsGap gap → IsPiece rest piece → IsFirst end at bytes (by_piece end rest piece)
piece_first end at bytes gap rest (token kind after) len is g p =
    let whole : length bytes ≡ length gap + (length p.0 + length after) = ap length is ∙ length-append gap rest ∙ ap (λ (n : ℕ). length gap + n) (ap length p.1 ∙ length-append p.0 after) in
    (omega (arith, whole, p.2), omega (arith, whole), λ ts stop more. (gap, p.0, after, is ∙ ap (λ (x : List ℕ). gap ++ x) p.1, g, p.3, omega (arith, whole, ap length is, length-append gap rest), omega (arith, whole, ap length is, length-append gap rest), more))
piece_first end at bytes gap rest (wrong from) len is g p =
    let whole : length bytes ≡ length gap + length rest = ap length is ∙ length-append gap rest in (
      gap,
      rest,
      is,
      g,
      elim p [
        | inl a ↦ inl (a.0, omega (arith, whole, ap length a.1))
        | inr a ↦ inr (a.0, a.1, omega (arith, whole, a.2))
      ],
    )
piece_first end at bytes gap rest unended len is g p =
    let whole : length bytes ≡ length gap + length rest = ap length is ∙ length-append gap rest in
    (gap, rest, is, g, (p, omega (arith, whole)))

pub first_is : (end at : ℕ) (bytes : List ℕ) → at + length bytes ≡ end → IsFirst end at bytes (first_of end bytes)
first_is end at bytes len = behind (skip false bytes) refl
  where
    behind : (rest : List ℕ) → skip false bytes ≡ rest → IsFirst end at bytes (behind_gap end rest)
    behind [] e = let g = gap_last bytes e in (g.0, g.1, g.2, g.3, g.4)
    behind (b ∷ bs) e = let g = gap_before bytes b bs e in piece_first end at bytes g.0 (b ∷ bs) (piece_of (b ∷ bs)) len g.1 g.2 (piece_behind bytes b bs e)

-- ---- what the loop over the tokens keeps

pub record SoFar (bytes left : List ℕ) (found : List Token) : Type 0 where
  pub within : length left ≤ length bytes
  pub so_far : (ts : List Token) (stop : Stop) → Lexes (length bytes - length left) left ts stop → Lexes 0 bytes (found ++ ts) stop

pub SoFar-none : (bytes : List ℕ) → SoFar bytes bytes []
SoFar-none bytes =
    let zero_is : length bytes - length bytes ≡ 0 = omega arith in
    record { within = omega arith; so_far = λ ts stop h. subst (λ (n : ℕ). Lexes n bytes ts stop) zero_is h }

first_here : (bytes left : List ℕ) (first : First) → length left ≤ length bytes → first ≡ first_of (length bytes) left → IsFirst (length bytes) (length bytes - length left) left first
first_here bytes left first le e = subst (IsFirst (length bytes) (length bytes - length left) left) (sym e) (first_is (length bytes) (length bytes - length left) left (omega arith))

pub left_smaller : (bytes left after : List ℕ) (found : List Token) (t : Token) → SoFar bytes left found → goes t after ≡ first_of (length bytes) left → length after < length left
left_smaller bytes left after found t s e = (first_here bytes left (goes t after) s.within e).0

pub SoFar-more : (bytes left after : List ℕ) (found : List Token) (t : Token) → SoFar bytes left found → goes t after ≡ first_of (length bytes) left → SoFar bytes after (found ++ t ∷ [])
SoFar-more bytes left after found t s e =
    let f = first_here bytes left (goes t after) s.within e in
    let at_is : length bytes - length after ≡ t.end = omega (arith, f.1) in
    record {
      within = omega (arith, f.0, s.within);
      so_far = λ ts stop h. subst (λ (us : List Token). Lexes 0 bytes us stop) (sym (append_assoc found (t ∷ []) ts)) (s.so_far (t ∷ ts) stop (f.2 ts stop (subst (λ (n : ℕ). Lexes n after ts stop) at_is h)));
    }

pub SoFar-end : (bytes left : List ℕ) (found : List Token) (stop : Stop) → SoFar bytes left found → stops stop ≡ first_of (length bytes) left → Lexes 0 bytes found stop
SoFar-end bytes left found stop s e =
    let f = first_here bytes left (stops stop) s.within e in
    subst (λ (us : List Token). Lexes 0 bytes us stop) (append-nil found) (s.so_far [] stop f)
