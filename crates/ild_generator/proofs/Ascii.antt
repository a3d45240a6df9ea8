-- Texts of ASCII, by a test.
use Rattle.std.proofs.Common.{◌≡◌, ℕ, zero, suc, List, [], ◌∷◌, true, arith}
use Rattle.std.specs.Prelude.{IsAscii, nat_lt}
use Rattle.std.specs.List.{list_all}
use Rattle.std.proofs.lemmas.Bool.Decides.{nat_tests}
use Rattle.std.proofs.lemmas.Bool.{and_parts}

pub ascii : (bs : List ℕ) → list_all (λ b. nat_lt b 128) bs ≡ true → IsAscii bs
ascii [] all i = omega arith
ascii (b ∷ bs) all zero = let e = and_parts (nat_lt b 128) (list_all (λ b. nat_lt b 128) bs) all in grind (arith, nat_tests, e)
ascii (b ∷ bs) all (suc i) = ascii bs (and_parts (nat_lt b 128) (list_all (λ b. nat_lt b 128) bs) all).1 i
