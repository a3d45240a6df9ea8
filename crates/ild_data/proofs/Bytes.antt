-- Bytes, by recursion and place by place.
use Rattle.std.proofs.Common.{ℕ, zero, suc, ◌<◌, ◌++◌, List, [], ◌∷◌, get_or, take, drop, arith}
use Rattle.ild_data.specs.Bytes.{AreBytes}

pub AreBytes-from_places : (b : List ℕ) → ((i : ℕ) → get_or b i 0 < 256) → AreBytes b
AreBytes-from_places [] h = tt
AreBytes-from_places (x ∷ b) h = (h 0, AreBytes-from_places b (λ i. h (suc i)))

pub AreBytes-places : (b : List ℕ) → AreBytes b → (i : ℕ) → get_or b i 0 < 256
AreBytes-places [] all i = omega arith
AreBytes-places (x ∷ b) all zero = all.0
AreBytes-places (x ∷ b) all (suc i) = AreBytes-places b all.1 i

pub AreBytes-push : (b : List ℕ) (x : ℕ) → AreBytes b → x < 256 → AreBytes (b ++ x ∷ [])
AreBytes-push [] x all lt = (lt, tt)
AreBytes-push (a ∷ b) x all lt = (all.0, AreBytes-push b x all.1 lt)

pub AreBytes-take : (n : ℕ) (b : List ℕ) → AreBytes b → AreBytes (take n b)
AreBytes-take zero b all = tt
AreBytes-take (suc n) [] all = tt
AreBytes-take (suc n) (x ∷ b) all = (all.0, AreBytes-take n b all.1)

pub AreBytes-drop : (n : ℕ) (b : List ℕ) → AreBytes b → AreBytes (drop n b)
AreBytes-drop zero b all = all
AreBytes-drop (suc n) [] all = tt
AreBytes-drop (suc n) (x ∷ b) all = AreBytes-drop n b all.1
