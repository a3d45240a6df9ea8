-- White space and comments are what the scanner passes over.
use Rattle.std.proofs.Common.{◌≡◌, ℕ, Bool, true, false, cond, not, List, [], ◌∷◌, ◌++◌, refl, ap, inl, inr}
use Rattle.std.specs.Prelude.{◌==◌, ◌⊎◌, ◌≢◌, MatchBool, IsTrue}
use Rattle.std.proofs.lemmas.Bool.{eqb-true, eqb-false, ne_eqb}
use Rattle.std.proofs.lemmas.List.Elements.{All-from_recursion, recursion_from_All}
use Rattle.std.specs.List.{AllByRecursion}
use Rattle.ild_lex.specs.Bytes.{is_blank, hash, line_feed}
use Rattle.ild_lex.specs.Gap.{IsGap, IsComment, IsLastComment}
use Rattle.ild_lex.specs.inside.Scan.{skip}

mutual
  -- the scanner passes over a gap
  pub skip-gap : (gap x : List ℕ) → IsGap gap → skip false (gap ++ x) ≡ skip false x
  skip-gap [] x h = refl
  skip-gap (b ∷ bs) x h =
      let P : Bool → Type 0 = λ v. MatchBool v (IsComment bs) (IsTrue (is_blank b) × IsGap bs) → cond v (skip true (bs ++ x)) (cond (is_blank b) (skip false (bs ++ x)) (b ∷ bs ++ x)) ≡ skip false x in
      (elim (b == hash) as P [ true ↦ λ k. skip-comment bs x k | false ↦ λ k. rw k.0 (skip-gap bs x k.1) ]) h

  pub skip-comment : (gap x : List ℕ) → IsComment gap → skip true (gap ++ x) ≡ skip false x
  skip-comment [] x h = absurd h
  skip-comment (b ∷ bs) x h =
      let P : Bool → Type 0 = λ v. MatchBool v (IsGap bs) (IsComment bs) → skip (not v) (bs ++ x) ≡ skip false x in
      (elim (b == line_feed) as P [ true ↦ λ k. skip-gap bs x k | false ↦ λ k. skip-comment bs x k ]) h

-- nothing is left of a comment that the end ends
skip-unended : (bs : List ℕ) → AllByRecursion (λ c. c ≢ line_feed) bs → skip true bs ≡ []
skip-unended [] h = refl
skip-unended (b ∷ bs) h = rw (ne_eqb b line_feed h.0) (skip-unended bs h.1)

pub skip-last : (bs : List ℕ) → IsLastComment bs → skip false bs ≡ []
skip-last [] h = refl
skip-last (b ∷ bs) h = rw (h.0) (skip-unended bs (recursion_from_All _ bs h.1))

-- what the scanner passed over before a byte
mutual
  pub gap_before : (bytes : List ℕ) (c : ℕ) (more : List ℕ) → skip false bytes ≡ c ∷ more → (gap : List ℕ) × (bytes ≡ gap ++ c ∷ more) × IsGap gap
  gap_before [] c more e = absurd cc
  gap_before (b ∷ bs) c more e =
      let P : Bool → Bool → Type 0 = λ v w. (b == hash) ≡ v → is_blank b ≡ w → cond v (skip true bs) (cond w (skip false bs) (b ∷ bs)) ≡ c ∷ more → (gap : List ℕ) × (b ∷ bs ≡ gap ++ c ∷ more) × IsGap gap in
      (elim (b == hash) as (λ v. (w : Bool) → P v w) [
        | true ↦ λ w h k q. let g = comment_before bs c more q in (b ∷ g.0, ap (λ (l : List ℕ). b ∷ l) g.1, rw h g.2)
        | false ↦ λ w. elim w as (λ w. P false w) [
          | true ↦ λ h k q. let g = gap_before bs c more q in (b ∷ g.0, ap (λ (l : List ℕ). b ∷ l) g.1, rw h (k, g.2))
          | false ↦ λ h k q. ([], q, tt)
        ]
      ]) (is_blank b) refl refl e

  pub comment_before : (bytes : List ℕ) (c : ℕ) (more : List ℕ) → skip true bytes ≡ c ∷ more → (gap : List ℕ) × (bytes ≡ gap ++ c ∷ more) × IsComment gap
  comment_before [] c more e = absurd cc
  comment_before (b ∷ bs) c more e =
      let P : Bool → Type 0 = λ v. (b == line_feed) ≡ v → skip (not v) bs ≡ c ∷ more → (gap : List ℕ) × (b ∷ bs ≡ gap ++ c ∷ more) × IsComment gap in
      (elim (b == line_feed) as P [
        | true ↦ λ h q. let g = gap_before bs c more q in (b ∷ g.0, ap (λ (l : List ℕ). b ∷ l) g.1, rw h g.2)
        | false ↦ λ h q. let g = comment_before bs c more q in (b ∷ g.0, ap (λ (l : List ℕ). b ∷ l) g.1, rw h g.2)
      ]) refl e

-- what it passed over at the end
mutual
  pub gap_last : (bytes : List ℕ) → skip false bytes ≡ [] → (gap rest : List ℕ) × (bytes ≡ gap ++ rest) × IsGap gap × IsLastComment rest
  gap_last [] e = ([], [], refl, tt, tt)
  gap_last (b ∷ bs) e =
      let Q : Type 0 = (gap rest : List ℕ) × (b ∷ bs ≡ gap ++ rest) × IsGap gap × IsLastComment rest in
      let P : Bool → Bool → Type 0 = λ v w. (b == hash) ≡ v → is_blank b ≡ w → cond v (skip true bs) (cond w (skip false bs) (b ∷ bs)) ≡ [] → Q in
      (elim (b == hash) as (λ v. (w : Bool) → P v w) [
        | true ↦ λ w h k q. elim (comment_last bs q) [
          | inl g ↦ (b ∷ g.0, g.1, ap (λ (l : List ℕ). b ∷ l) g.2, rw h g.3, g.4)
          | inr g ↦ ([], b ∷ bs, refl, tt, (eqb-true b hash h, All-from_recursion _ bs g))
        ]
        | false ↦ λ w. elim w as (λ w. P false w) [
          | true ↦ λ h k q. let g = gap_last bs q in (b ∷ g.0, g.1, ap (λ (l : List ℕ). b ∷ l) g.2, rw h (k, g.3), g.4)
          | false ↦ λ h k q. absurd cc
        ]
      ]) (is_blank b) refl refl e

  pub comment_last : (bytes : List ℕ) → skip true bytes ≡ [] → ((gap rest : List ℕ) × (bytes ≡ gap ++ rest) × IsComment gap × IsLastComment rest) ⊎ AllByRecursion (λ c. c ≢ line_feed) bytes
  comment_last [] e = inr tt
  comment_last (b ∷ bs) e =
      let P : Bool → Type 0 = λ v. (b == line_feed) ≡ v → skip (not v) bs ≡ [] → ((gap rest : List ℕ) × (b ∷ bs ≡ gap ++ rest) × IsComment gap × IsLastComment rest) ⊎ AllByRecursion (λ c. c ≢ line_feed) (b ∷ bs) in
      (elim (b == line_feed) as P [
        | true ↦ λ h q. let g = gap_last bs q in inl (b ∷ g.0, g.1, ap (λ (l : List ℕ). b ∷ l) g.2, rw h g.3, g.4)
        | false ↦ λ h q. elim (comment_last bs q) [
          | inl g ↦ inl (b ∷ g.0, g.1, ap (λ (l : List ℕ). b ∷ l) g.2, rw h g.3, g.4)
          | inr g ↦ inr (eqb-false b line_feed h, g)
        ]
      ]) refl e
