-- An integer by its sign and its argument.
use Rattle.std.specs.Prelude.{◌≡◌, refl, ℕ, Bool, true, false}
use Rattle.ild_data.specs.Integer.{int_of, is_negative, argument_of}
use Rattle.ild_data.specs.declared.int.Int.TheInside as I

pub same_number : (b : Bool) (n : ℕ) → ◌≡◌ {A = I.Inside} (record { negative = is_negative (int_of b n); argument = argument_of (int_of b n) }) (record { negative = b; argument = n })
same_number true n = refl
same_number false n = refl
