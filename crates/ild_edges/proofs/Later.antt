-- Later moments of a store: one after another.
use Rattle.std.proofs.Common.{ℕ, zero, suc, ◌+◌, ◌-◌, ◌^◌, ◌≤◌, List, Option, Some, None, refl, ◌∙◌, arith}
use Rattle.std.proofs.Math.Logic.{∥∥₁_elim}
use Rattle.std.proofs.Props.{props}
use Rattle.std.specs.List.{slice_get}
use Rattle.ild_edges.specs.Store.{Keeps, StaysGiven, Moment, Later, Below, StaysBelow, calls_of, asked_over}
use Rattle.ild_edges.specs.Told.{BothTold}
use Rattle.ild_edges.proofs.Held.{keeps_all}

pub keeps_refl : (a : Option (List (List ℕ))) → BothTold a a Keeps
keeps_refl None = tt
keeps_refl (Some a) = keeps_all a

pub keeps_trans : (a b c : Option (List (List ℕ))) → BothTold a b Keeps → BothTold b c Keeps → BothTold a c Keeps
keeps_trans None None None p q = tt
keeps_trans (Some a) (Some b) (Some c) p q = λ id d held. q id d (p id d held)
keeps_trans None (Some b) c p q = absurd p
keeps_trans (Some a) None c p q = absurd p
keeps_trans None None (Some c) p q = absurd q
keeps_trans (Some a) (Some b) None p q = absurd q

pub given_refl : (a : Option (List (List ℕ))) → BothTold a a StaysGiven
given_refl None = tt
given_refl (Some a) = λ id given. given

pub given_trans : (a b c : Option (List (List ℕ))) → BothTold a b StaysGiven → BothTold b c StaysGiven → BothTold a c StaysGiven
given_trans None None None p q = tt
given_trans (Some a) (Some b) (Some c) p q = λ id given. q id (p id given)
given_trans None (Some b) c p q = absurd p
given_trans (Some a) None c p q = absurd p
given_trans None None (Some c) p q = absurd q
given_trans (Some a) (Some b) None p q = absurd q

below_refl : (calls : ℕ × ℕ) (b : Option Below) → BothTold b b (StaysBelow calls calls)
below_refl calls None = tt
below_refl calls (Some b) = record { names = refl; blocks = refl; given = refl; puts = refl; own = λ p. omega arith; more = omega arith; most = omega arith; gets = λ g p. omega arith }

below_then : (x y z : ℕ × ℕ) (a b c : Below) → (x.0 ≤ y.0) × (x.1 ≤ y.1) × (y.0 ≤ z.0) × (y.1 ≤ z.1) → StaysBelow x y a b → StaysBelow y z b c → StaysBelow x z a c
below_then x y z a b c up p q = record {
  names = q.names ∙ p.names;
  blocks = q.blocks ∙ p.blocks;
  given = q.given ∙ p.given;
  puts = q.puts ∙ p.puts;
  own = λ few_puts.
      let first : b.own + x.1 ≤ a.own + y.1 = p.own (omega (arith, up.3, few_puts)) in
      let second : c.own + y.1 ≤ b.own + z.1 = q.own few_puts in
      omega (arith, first, second);
  more = let first : a.gets ≤ b.gets = p.more in let second : b.gets ≤ c.gets = q.more in omega (arith, first, second);
  most = let first : b.gets - (2 ^ 64 - 1) ≤ a.gets - (2 ^ 64 - 1) = p.most in let second : c.gets - (2 ^ 64 - 1) ≤ b.gets - (2 ^ 64 - 1) = q.most in omega (arith, first, second);
  gets = λ few_gets few_puts.
      let first : b.gets + (x.0 + x.1) ≤ a.gets + (y.0 + y.1) = p.gets (omega (arith, up.2, few_gets)) (omega (arith, up.3, few_puts)) in
      let second : c.gets + (y.0 + y.1) ≤ b.gets + (z.0 + z.1) = q.gets few_gets few_puts in
      omega (arith, first, second);
}

below_trans : (x y z : ℕ × ℕ) (a b c : Option Below) → (x.0 ≤ y.0) × (x.1 ≤ y.1) × (y.0 ≤ z.0) × (y.1 ≤ z.1) → BothTold a b (StaysBelow x y) → BothTold b c (StaysBelow y z) → BothTold a c (StaysBelow x z)
below_trans x y z None None None up p q = tt
below_trans x y z (Some a) (Some b) (Some c) up p q = below_then x y z a b c up p q
below_trans x y z None (Some b) c up p q = absurd p
below_trans x y z (Some a) None c up p q = absurd p
below_trans x y z None None (Some c) up p q = absurd q
below_trans x y z (Some a) (Some b) None up p q = absurd q

calls_up : (x y : ℕ × ℕ) (b c : Option Below) → BothTold b c (StaysBelow x y) → ((calls_of b).0 ≤ (calls_of c).0) × ((calls_of b).1 ≤ (calls_of c).1)
calls_up x y None None p = (omega arith, omega arith)
calls_up x y (Some b) (Some c) p = (p.more, omega (arith, p.puts))
calls_up x y None (Some c) p = absurd p
calls_up x y (Some b) None p = absurd p

-- what stands over a store beneath is asked no less often later
asked_up : (m n : Moment) → Later m n → (i : ℕ) → ((asked_over m i).0 ≤ (asked_over n i).0) × ((asked_over m i).1 ≤ (asked_over n i).1)
asked_up m n later zero = (later.gets, later.puts)
asked_up m n later (suc i) = calls_up (asked_over m i) (asked_over n i) (slice_get m.beneath i) (slice_get n.beneath i) (later.beneath i)

-- it is so where it is known that it is
pub below_of : (x y : ℕ × ℕ) (a b : Option Below) → ∥ BothTold a b (StaysBelow x y) ∥₁ → BothTold a b (StaysBelow x y)
below_of x y None None some = tt
below_of x y None (Some c) some = ∥∥₁_elim some (hlevel props) (λ o. o)
below_of x y (Some b) None some = ∥∥₁_elim some (hlevel props) (λ o. o)
below_of x y (Some b) (Some c) some = record {
  names = ∥∥₁_elim some (hlevel props) (λ o. o.names);
  blocks = ∥∥₁_elim some (hlevel props) (λ o. o.blocks);
  given = ∥∥₁_elim some (hlevel props) (λ o. o.given);
  puts = ∥∥₁_elim some (hlevel props) (λ o. o.puts);
  own = λ fewer. ∥∥₁_elim some (hlevel props) (λ o. o.own fewer);
  more = ∥∥₁_elim some (hlevel props) (λ o. o.more);
  most = ∥∥₁_elim some (hlevel props) (λ o. o.most);
  gets = λ less fewer. ∥∥₁_elim some (hlevel props) (λ o. o.gets less fewer);
}

pub Later-refl : (m : Moment) → Later m m
Later-refl m = record { keeps = keeps_refl m.blocks; given = given_refl m.given; gets = omega arith; puts = omega arith; lacks = omega arith; faults = omega arith; beneath = λ i. below_refl (asked_over m i) (slice_get m.beneath i) }

pub Later-trans : (m n o : Moment) → Later m n → Later n o → Later m o
Later-trans m n o p q = record {
  keeps = keeps_trans m.blocks n.blocks o.blocks p.keeps q.keeps;
  given = given_trans m.given n.given o.given p.given q.given;
  gets = omega arith;
  puts = omega arith;
  lacks = omega arith;
  faults = omega arith;
  beneath = λ i. below_trans (asked_over m i) (asked_over n i) (asked_over o i) (slice_get m.beneath i) (slice_get n.beneath i) (slice_get o.beneath i) ((asked_up m n p i).0, (asked_up m n p i).1, (asked_up n o q i).0, (asked_up n o q i).1) (p.beneath i) (q.beneath i);
}

pub ruleset laters = (Later-refl, Later-trans)
