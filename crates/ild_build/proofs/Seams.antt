-- Texts that were appended to.
use Rattle.std.proofs.Common.{◌≡◌, ℕ, List, ◌++◌, length, take, drop, sym, ◌∙◌, ap, subst, arith, length-append}
use Rattle.std.specs.Prelude.{IsUtf8}
use Rattle.std.specs.Str.{IsCharBoundary}
use Rattle.std.proofs.lemmas.Str.{IsCharBoundary-from_take}
use Rattle.std.proofs.Math.Seq.{take-append_seam, drop-append_seam}

-- a place behind a text is one between characters
pub seam : (all old text : List ℕ) (n : ℕ) → IsUtf8 all → IsUtf8 old → all ≡ old ++ text → n ≡ length old → IsCharBoundary all n
seam all old text n whole first e same =
    IsCharBoundary-from_take all n whole (omega (arith, ap length e, length-append old text))
    (subst IsUtf8 (sym (ap (take n) e ∙ ap (λ k. take k (old ++ text)) same ∙ take-append_seam old text)) first)

pub behind : (all old text : List ℕ) (n : ℕ) → all ≡ old ++ text → n ≡ length old → drop n all ≡ text
behind all old text n e same = ap (drop n) e ∙ ap (λ k. drop k (old ++ text)) same ∙ drop-append_seam old text
