-- Two blocks, as what was told apart.
use Rattle.std.specs.Prelude.{◌≡◌, ℕ, List, Option, Some, None, Result, Ok, Err}
use Rattle.ild_data.specs.Bytes.{AreBytes}
use Rattle.ild_compare.specs.declared.compared.Compared.{Compared}
use Rattle.ild_compare.specs.declared.compared.Compared.TheVariants as C

-- their copies, which are bytes
abbrev pub Copies : {E : Type 0} → List ℕ → List ℕ → Result Compared E → Type 0
Copies a b (Ok c) = (c ≡ C.Collide a b) × AreBytes a × AreBytes b
Copies a b (Err e) = Unit {0}

-- what a walk found, as what is told
abbrev pub compared_as : Option (List ℕ × List ℕ) → Compared
compared_as None = C.Same
compared_as (Some p) = C.Collide p.0 p.1
