-- Every shape of a HAMT has levels.
use Rattle.std.proofs.Common.{◌≡◌, ◌≤◌, ◌-◌, suc, arith}
use Rattle.std.proofs.lemmas.Nat.{le-div}
use Rattle.ild_data.specs.declared.hamt_shape.HamtShape.{HamtShape}
use Rattle.ild_data.specs.TrieShape.{trie_levels}

pub levels-many : (p : HamtShape) → 32 ≤ trie_levels p
levels-many p = le-div 32 256 p.width (omega (arith, p.wide)) (omega (arith, p.narrow))

-- a first one, and those below it
pub levels-first : (p : HamtShape) → trie_levels p - 0 ≡ suc (trie_levels p - 1)
levels-first p = omega (arith, levels-many p)
