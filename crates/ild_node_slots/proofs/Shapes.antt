-- The number of slots of a node, and that of levels.
use Rattle.std.proofs.Common.{◌≡◌, ℕ, zero, suc, ◌-◌, ◌*◌, ◌/◌, ◌%◌, ◌^◌, ◌<◌, ◌≤◌, true, refl, arith}
use Rattle.std.specs.Prelude.{nat_le}
use Rattle.std.proofs.lemmas.Bool.{agree_below_at, leb-true}
use Rattle.std.proofs.lemmas.Nat.{le-div, div_below}
use native.Mathlib.Numerals.{unary_clauses}
use Rattle.ild_data.specs.declared.hamt_shape.HamtShape.{HamtShape}
use Rattle.ild_data.specs.TrieShape.{trie_levels}

-- at most so many
pub pow_few : (p : HamtShape) → 2 ^ p.width ≤ 256
pow_few p = leb-true (2 ^ p.width) 256 (agree_below_at (λ n. nat_le (2 ^ n) 256) (λ n. true) 9 p.width refl (omega (arith, p.narrow)))

-- a node of at least eight slots has whole bytes in its map
pub whole_bytes : (w : ℕ) → 3 ≤ w → 2 ^ w ≡ 8 * (2 ^ w / 8)
whole_bytes zero h = absurd (omega arith)
whole_bytes (suc zero) h = absurd (omega arith)
whole_bytes (suc (suc zero)) h = absurd (omega arith)
whole_bytes (suc (suc (suc v))) h =
    let a : 2 ^ suc (suc (suc v)) ≡ 2 * 2 ^ suc (suc v) = simp unary_clauses (omega arith) in
    let b : 2 ^ suc (suc v) ≡ 2 * 2 ^ suc v = simp unary_clauses (omega arith) in
    let c : 2 ^ suc v ≡ 2 * 2 ^ v = simp unary_clauses (omega arith) in
    rw (a, b, c) (omega arith)

pub whole_map : (w n : ℕ) → 3 ≤ w → n ≡ 2 ^ w → n % 8 ≡ 0
whole_map w n wide is = let e = whole_bytes w wide in omega (arith, e, is)

-- at least one level, and at most so many
pub levels_some : (p : HamtShape) → 1 ≤ trie_levels p
levels_some p = le-div 1 256 p.width (omega (arith, p.wide)) (omega (arith, p.narrow))

pub levels_few : (p : HamtShape) → trie_levels p < 256
levels_few p = div_below 256 p.width 256 (omega (arith, p.wide)) (times p.width p.wide)
  where
    times : (w : ℕ) → 3 ≤ w → 256 < 256 * w
    times w le = omega (arith, le)

pub levels_suc : (p : HamtShape) → trie_levels p ≡ suc (trie_levels p - 1)
levels_suc p = let some = levels_some p in omega (arith, some)
