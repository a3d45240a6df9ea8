-- What stores tell before and after calls.
use Rattle.std.proofs.Common.{◌≡◌, Option, Some, sym, subst}
use Rattle.ild_edges.specs.Told.{BothTold}

pub both_at : {A : Type 0} (o q : Option A) (a b : A) (P : A → A → Type 0) → o ≡ Some a → q ≡ Some b → BothTold o q P → P a b
both_at o q a b P is so t = subst (λ x. BothTold (Some a) x P) so (subst (λ x. BothTold x q P) is t)

pub both_here : {A : Type 0} (o q : Option A) (a b : A) (P : A → A → Type 0) → o ≡ Some a → q ≡ Some b → P a b → BothTold o q P
both_here o q a b P is so p = subst (λ x. BothTold x q P) (sym is) (subst (λ x. BothTold (Some a) x P) (sym so) p)
