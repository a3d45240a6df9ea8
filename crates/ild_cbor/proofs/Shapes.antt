-- The start of a spelling is found by its head alone.
use Rattle.std.proofs.Common.{◌≡◌, ℕ, get_or, take, drop, ◌-◌, ◌+◌, ◌*◌, ◌/◌, ◌%◌, ◌^◌, ◌<◌, ◌≤◌, List, [], ◌∷◌, ◌++◌, length, Some, sym, ap, subst, ◌∙◌, arith}
use Rattle.std.proofs.lemmas.List.{take_all}
use Rattle.ild_data.specs.Data.{Data, null, boolean, integer, text, bytes, list, map, link, Members, no_members, member}
use Rattle.ild_data.specs.Spell.{head}
use Rattle.ild_data.specs.Tree.{IsTree, AreTrees, AreEntries}
use Rattle.ild_data.specs.Shape.{keys_and_values, parts_of}
use Rattle.ild_data.proofs.Heads.{first_of, others_of}
use Rattle.ild_cbor.specs.Reading.{argument_at}
use Rattle.ild_cbor.proofs.Heads.{head_of}
use Rattle.ild_cbor.proofs.Strings.{first_major, first_low}

keys_trees : (ms : Members) → AreEntries ms → AreTrees (keys_and_values ms)
keys_trees no_members entries = tt
keys_trees (member k d ms) entries = (entries.0, (entries.1, keys_trees ms entries.3))

pub parts_trees : (t : Data) → IsTree t → AreTrees (parts_of t)
parts_trees null tree = tt
parts_trees (boolean b) tree = tt
parts_trees (integer n) tree = tt
parts_trees (text s) tree = tt
parts_trees (bytes s) tree = tt
parts_trees (list ds) tree = tree
parts_trees (map ms) tree = keys_trees ms tree
parts_trees (link s) tree = ((omega arith, tree.1), tt)

-- ---- the first byte of a head, and what stands behind it

pub record Opens (c major n : ℕ) (tail rest : List ℕ) : Type 0 where
  pub high : c / 32 ≡ major
  pub low : argument_at (c % 32) tail ≡ Some (n, rest)

pub opens : (c : ℕ) (tail : List ℕ) (major n : ℕ) (rest : List ℕ) → n < 2 ^ 64 → c ∷ tail ≡ head major n ++ rest → Opens c major n tail rest
opens c tail major n rest lt e =
    let h = head_of n lt in
    let same : c ∷ tail ≡ (32 * major + h.low) ∷ (h.tail ++ rest) = e ∙ ap (λ (t : List ℕ). t ++ rest) (h.is.spells major) in
    let first : c ≡ 32 * major + h.low = ap first_of same in
    let others : tail ≡ h.tail ++ rest = ap others_of same in
    let below = h.is.below in
    let high : c / 32 ≡ major = ap (λ (k : ℕ). k / 32) first ∙ first_major major h.low below in
    let low : c % 32 ≡ h.low = ap (λ (k : ℕ). k % 32) first ∙ first_low major h.low below in
    record { high = high; low = ap (λ (k : ℕ). argument_at k tail) low ∙ ap (argument_at h.low) others ∙ h.is.argument rest }

pub no_head : (major n : ℕ) (rest : List ℕ) → n < 2 ^ 64 → [] ≡ head major n ++ rest → ⊥
no_head major n rest lt e =
    let h = head_of n lt in
    let same : [] ≡ (32 * major + h.low) ∷ (h.tail ++ rest) = e ∙ ap (λ (t : List ℕ). t ++ rest) (h.is.spells major) in
    cc

-- the same of bytes that are matched as a first one and others
pub opens_in : (b : List ℕ) (major n : ℕ) (rest : List ℕ) → n < 2 ^ 64 → b ≡ head major n ++ rest → 1 ≤ length b → Opens (get_or b 0 0) major n (take (length b - 1) (drop 1 b)) rest
opens_in [] major n rest lt e some = absurd (omega arith)
opens_in (c ∷ tail) major n rest lt e some =
    let whole : take (length (c ∷ tail) - 1) tail ≡ tail = take_all (length (c ∷ tail) - 1) tail (omega arith) in
    subst (λ (t : List ℕ). Opens c major n t rest) (sym whole) (opens c tail major n rest lt e)
