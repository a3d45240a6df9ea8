-- Where a text begins with a delimiter.
use Rattle.std.proofs.Common.{◌≡◌, ℕ, ◌+◌, ◌<◌, ◌≤◌, true, false, List, ◌++◌, length, take, drop, ap, sym, ◌∙◌, arith}
use Rattle.std.proofs.lemmas.Bool.{false_from_ne_true}
use Rattle.std.proofs.lemmas.Slice.Eq.{bytes_eq-Decides}
use Rattle.std.proofs.lemmas.List.{length-take, length-drop, take-append-drop, drop-drop}
use Rattle.ild_schema.specs.Joins.{Occurs}
use Rattle.ild_text.specs.Cut.{begins}

pub begins_here : (d bs : List ℕ) → begins d bs ≡ true → Occurs d bs 0
begins_here d bs e = (bytes_eq-Decides (take (length d) bs) d).0 e

pub begins_true : (d bs : List ℕ) → Occurs d bs 0 → begins d bs ≡ true
begins_true d bs h = (bytes_eq-Decides (take (length d) bs) d).1 h

pub begins_false : (d bs : List ℕ) → (Occurs d bs 0 → ⊥) → begins d bs ≡ false
begins_false d bs h = false_from_ne_true (begins d bs) (λ e. h (begins_here d bs e))

pub begins_not : (d bs : List ℕ) → begins d bs ≡ false → Occurs d bs 0 → ⊥
begins_not d bs e h = let f = begins_true d bs h in cc

-- a delimiter ends inside the text
pub occurs_inside : (d bs : List ℕ) (i : ℕ) → 0 < length d → Occurs d bs i → i + length d ≤ length bs
occurs_inside d bs i some h = omega (arith, ap length h, length-take (length d) (drop i bs), length-drop i bs)

pub occurs_split : (d bs : List ℕ) (i : ℕ) → Occurs d bs i → drop i bs ≡ d ++ drop (i + length d) bs
occurs_split d bs i h =
    sym (take-append-drop (length d) (drop i bs)) ∙ (λ k. h k ++ drop-drop (length d) i bs k)
