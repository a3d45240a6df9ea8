-- Options that are none, or come of others.
use Rattle.std.proofs.Common.{◌≡◌, ◌≢◌, true, Option, Some, None, refl}
use Rattle.std.proofs.lemmas.Option.{same_Some}
use Rattle.std.specs.Prelude.{is_none, option_map, option_and_then}

module _ {X : Type 0} where
  pub none_is : (o : Option X) → is_none o ≡ true → o ≡ None
  none_is None e = refl
  none_is (Some x) e = absurd cc

  pub some_there : (o : Option X) → o ≢ None → (x : X) × (o ≡ Some x)
  some_there None there = absurd (there refl)
  some_there (Some x) there = (x, refl)

module _ {X Y : Type 0} where
  pub map_none : (f : X → Y) (o : Option X) → option_map f o ≡ None → o ≡ None
  map_none f None h = refl
  map_none f (Some x) h = absurd cc

  pub map_some : (f : X → Y) (o : Option X) (y : Y) → option_map f o ≡ Some y → (x : X) × (o ≡ Some x) × (f x ≡ y)
  map_some f None y e = absurd cc
  map_some f (Some x) y e = (x, refl, same_Some (f x) y e)

  pub chain_some : (f : X → Option Y) (o : Option X) (y : Y) → option_and_then f o ≡ Some y → (x : X) × (o ≡ Some x) × (f x ≡ Some y)
  chain_some f None y e = absurd cc
  chain_some f (Some x) y e = (x, refl, e)
