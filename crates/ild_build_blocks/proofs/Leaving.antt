-- What stays in a store where nothing is put.
use Rattle.std.proofs.Common.{inl, ℕ, List, Option, Some, None, refl, arith}
use Rattle.ild_edges.specs.Store.{Moment}
use Rattle.ild_edges.specs.Told.{BothTold}
use Rattle.ild_edges.proofs.Later.{Later-refl}
use Rattle.ild_build_blocks.specs.Builds.{PutsSome}

pub told_same : (P : List (List ℕ) → List (List ℕ) → Type 0) → ((a : List (List ℕ)) → P a a) → (a : Option (List (List ℕ))) → BothTold a a P
told_same P f None = tt
told_same P f (Some a) = f a

-- nothing was put
pub puts_none : (m : Moment) (blocks : List (List ℕ)) → PutsSome m blocks m
puts_none m blocks = record {
  later = Later-refl m;
  gets = refl;
  puts = omega arith;
  adds = told_same _ (λ a id b held. inl held) m.blocks;
  children = told_same _ (λ a id b held. inl held) m.blocks;
}
