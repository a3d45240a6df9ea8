-- Unsigned varints (multiformats, unsigned-varint): groups of seven bits, the least significant first.
use Rattle.std.specs.Prelude.{◌≡◌, ℕ, ◌+◌, ◌*◌, ◌<◌, ◌≤◌, List, [], ◌∷◌, length}

-- The groups of n: a byte below 128 is the last and stands for itself; one from 128 on holds the low seven bits, and the
-- groups behind it stand for the rest, which is not 0. So each number has one form.
abbrev pub AreGroups : List ℕ → ℕ → Type 0
AreGroups [] n = ⊥
AreGroups (b ∷ []) n = (b < 128) × (n ≡ b)
AreGroups (b ∷ c ∷ bs) n = (128 ≤ b) × (b < 256) × ((rest : ℕ) × (0 < rest) × (n + 128 ≡ b + 128 * rest) × AreGroups (c ∷ bs) rest)

-- a varint has nine bytes at most
pub record IsVarint (bs : List ℕ) (n : ℕ) : Type 0 where
  pub groups : AreGroups bs n
  pub short : length bs ≤ 9
