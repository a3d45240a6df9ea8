-- The numbers of the generator, each the next of a linear congruential generator, and what a number asks for.
use Rattle.std.specs.Prelude.{ℕ, ◌+◌, ◌*◌, ◌/◌, ◌%◌, ◌^◌, List, ◌++◌, Bool, ◌==◌, codes, decimal}

unfoldable pub next : ℕ → ℕ
next x = (x * 6364136223846793005 + 1442695040888963407) % 2 ^ 64

-- one number in four asks that its key be deleted, each other that it be set
unfoldable pub is_deletion : ℕ → Bool
is_deletion x = x / 2 ^ 32 % 4 == 0

-- `k`, and a number below 65,536
unfoldable pub key_of : ℕ → List ℕ
key_of x = codes "k" ++ decimal (x / 2 ^ 40 % 65536)
