-- The CID of a block, told by its length and its first four bytes.
use Rattle.std.proofs.Common.{◌≡◌, ℕ, ◌==◌, Bool, true, List, [], ◌∷◌, length, drop, get_or, ap, ◌∙◌, arith}
use Rattle.std.specs.Prelude.{◌&&◌, false}
use Rattle.std.specs.Ordering.{eq_by_cmp}
use Rattle.std.specs.Cmp.{both_ways}
use Rattle.std.proofs.lemmas.Bool.{and_parts, eqb-true, false_from_ne_true}
use Rattle.ild_data.specs.ByteOrder.{bytewise}
use Rattle.ild_data.specs.Spell.{cid_of}
use Rattle.ild_typed.specs.NodeReading.{links_block}
use Rattle.ild_typed.proofs.NodeElements.{block-link, link-read}

abbrev first_are : List ℕ → Bool
first_are s = (((get_or s 0 0 == 0x01) && (get_or s 1 0 == 0x71)) && (get_or s 2 0 == 0x12)) && (get_or s 3 0 == 0x20)

pub links-first : (s : List ℕ) → length s ≡ 36 → (((get_or s 0 0 == 0x01) && (get_or s 1 0 == 0x71)) && (get_or s 2 0 == 0x12)) && (get_or s 3 0 == 0x20) ≡ links_block s
links-first [] long = absurd (omega arith)
links-first (a ∷ []) long = absurd (omega arith)
links-first (a ∷ b ∷ []) long = absurd (omega arith)
links-first (a ∷ b ∷ c ∷ []) long = absurd (omega arith)
links-first (a ∷ b ∷ c ∷ d ∷ t) long = both_ways (first_are (a ∷ b ∷ c ∷ d ∷ t)) (links_block (a ∷ b ∷ c ∷ d ∷ t)) to from
  where
    from : links_block (a ∷ b ∷ c ∷ d ∷ t) ≡ true → first_are (a ∷ b ∷ c ∷ d ∷ t) ≡ true
    from is = ap first_are (block-link (a ∷ b ∷ c ∷ d ∷ t) is).0

    to : first_are (a ∷ b ∷ c ∷ d ∷ t) ≡ true → links_block (a ∷ b ∷ c ∷ d ∷ t) ≡ true
    to is =
        let x = and_parts (((a == 0x01) && (b == 0x71)) && (c == 0x12)) (d == 0x20) is in
        let y = and_parts ((a == 0x01) && (b == 0x71)) (c == 0x12) x.0 in
        let z = and_parts (a == 0x01) (b == 0x71) y.0 in
        let same : a ∷ b ∷ c ∷ d ∷ t ≡ cid_of t = λ i. eqb-true a 0x01 z.0 i ∷ eqb-true b 0x71 z.1 i ∷ eqb-true c 0x12 y.1 i ∷ eqb-true d 0x20 x.1 i ∷ t in
        ap links_block same ∙ link-read t (omega arith)

pub links-other : (s : List ℕ) → (length s ≡ 36 → ⊥) → links_block s ≡ false
links-other s short = false_from_ne_true (links_block s) (λ e. short (eqb-true (length s) 36 (and_parts (length s == 36) (eq_by_cmp bytewise s (cid_of (drop 4 s))) e).0))
