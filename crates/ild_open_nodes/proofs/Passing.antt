-- Going over the things of a list, one after another: what is answered of all, by what is answered of each.
use Rattle.std.proofs.Common.{◌≡◌, ◌⊎◌, inl, inr, ⊎_elim, ℕ, zero, suc, ◌+◌, ◌<◌, ◌≤◌, List, [], ◌∷◌, length, drop, get_or, Some, refl, sym, ◌∙◌, ap, subst, arith}
use Rattle.std.specs.Prelude.{Result, Ok, Err, slice_get}
use Rattle.std.proofs.lemmas.Option.{none-some, same_Some}
use Rattle.ild_data.proofs.Gets.{drop_at, got_below}
use Rattle.ild_cbor.specs.declared.why.BlockWhy.{BlockWhy}
use Rattle.ild_edges.specs.Gained.{FromBlocks, OnlyReads}
use Rattle.ild_edges.specs.Store.{Moment}
use Rattle.ild_edges.proofs.Reading.{from_both, from_later, from_more, from_nothing, reads_none, reads_then}
use Rattle.ild_open_parts.specs.declared.fault.OpenFault.{OpenFault}
use Rattle.ild_open_parts.specs.declared.fault.OpenFault.TheVariants as F
use Rattle.ild_open_parts.proofs.Turning.{stops_later}
use Rattle.ild_open_nodes.specs.inside.Passes.{NoneGiven, Passes}
use Rattle.ild_open_nodes.specs.Sums.{EachOwned, SumsTo}

-- ---- lists

-- what stands at a place
pub found_at : {A : Type 0} (xs : List A) (i : ℕ) (x d : A) → slice_get xs i ≡ Some x → get_or xs i d ≡ x
found_at [] zero x d is = absurd (none-some x is)
found_at [] (suc i) x d is = absurd (none-some x is)
found_at (y ∷ xs) zero x d is = same_Some y x is
found_at (y ∷ xs) (suc i) x d is = found_at xs i x d is

before : (j i : ℕ) → j < i + 1 → (j < i) ⊎ (j ≡ i)
before zero zero lt = inr refl
before zero (suc i) lt = inl (omega arith)
before (suc j) zero lt = absurd (omega (arith, lt))
before (suc j) (suc i) lt = ⊎_elim (λ less. inl (omega (arith, less))) (λ same. inr (ap suc same)) (before j i (omega (arith, lt)))

-- ---- one thing alone

module _ (Owned More : List (List ℕ) → Type 0) (Given Less : List (List ℕ) → ℕ → Type 0) (Broken Wrong : Moment → Moment → List ℕ → BlockWhy → Type 0) where
  -- what is said of it under another name
  pub passes_as : (m n : Moment) (r : Result (Unit {0}) OpenFault) → ((held : List (List ℕ)) → Owned held → More held) → ((held : List (List ℕ)) (cost : ℕ) → Less held cost → Given held cost)
      → ((id : List ℕ) (why : BlockWhy) → Broken m n id why → Wrong m n id why) → Passes Owned Given Broken m r n → Passes More Less Wrong m r n
  passes_as m n (Ok u) more less wrong x = record { answer = from_more n Owned More more x.answer; only = x.only; gets = λ held cost told g. x.gets held cost told (less held cost g) }
  passes_as m n (Err e) more less wrong x = record {
    answer = stops_later (NoneGiven Owned Given Broken m) (NoneGiven More Less Wrong m) (Broken m n) (Wrong m n) m m n e (reads_none m) (λ none held cost told g. none held cost told (less held cost g)) wrong x.answer;
    only = x.only;
    gets = λ held cost told g. x.gets held cost told (less held cost g);
  }

-- memory is wanting before anything is done
pub passes_wants : (Owned : List (List ℕ) → Type 0) (Given : List (List ℕ) → ℕ → Type 0) (Broken : Moment → Moment → List ℕ → BlockWhy → Type 0) (m n : Moment) → OnlyReads m n
    → ((held : List (List ℕ)) (cost : ℕ) → m.blocks ≡ Some held → Given held cost → n.gets ≤ m.gets + cost) → Passes Owned Given Broken m (Err F.Memory) n
passes_wants Owned Given Broken m n only gets = record { answer = tt; only = only; gets = gets }

-- ---- all of them

module _ {A : Type 0} (O : List (List ℕ) → ℕ → A → Type 0) (G : List (List ℕ) → ℕ → A → ℕ → Type 0) (xs : List A) where
  -- of so many and no more gets it is told what those that are left ask for
  pub record Left (held : List (List ℕ)) (i now most : ℕ) : Type 0 where
    pub cost : ℕ
    pub sums : SumsTo (G held) i (drop i xs) cost
    pub gets : now + cost ≤ most

  -- so far those before a number were gone over
  pub record Passing (i : ℕ) (m n : Moment) : Type 0 where
    pub owned : FromBlocks n (λ held. (j : ℕ) (x : A) → j < i → slice_get xs j ≡ Some x → O held j x)
    pub only : OnlyReads m n
    pub left : (held : List (List ℕ)) (cost : ℕ) → m.blocks ≡ Some held → SumsTo (G held) 0 xs cost → Left held i n.gets (m.gets + cost)

  pub passing_begins : (m : Moment) → Passing 0 m m
  passing_begins m = record {
    owned = from_nothing m (λ held. (j : ℕ) (x : A) → j < 0 → slice_get xs j ≡ Some x → O held j x) (λ held j x less is. absurd (omega (arith, less)));
    only = reads_none m;
    left = λ held cost told g. record { cost = cost; sums = g; gets = omega arith };
  }

  -- what the next one asks for, and what the others do
  record Next (held : List (List ℕ)) (i : ℕ) (x : A) (cost : ℕ) : Type 0 where
    own : ℕ
    more : ℕ
    sum : own + more ≤ cost
    given : G held i x own
    others : SumsTo (G held) (i + 1) (drop (i + 1) xs) more

  next : (held : List (List ℕ)) (i : ℕ) (x : A) (cost : ℕ) → slice_get xs i ≡ Some x → SumsTo (G held) i (drop i xs) cost → Next held i x cost
  next held i x cost is sums =
      let s = subst (λ ys. SumsTo (G held) i ys cost) (drop_at xs i x is) sums in
      record { own = s.0; more = s.1; sum = s.2; given = s.3; others = s.4 }

  module _ (Broken : Moment → Moment → List ℕ → BlockWhy → Type 0) (i : ℕ) (m n : Moment) (p : Passing i m n) where
    module _ (x : A) (is : slice_get xs i ≡ Some x) (o : Moment) where
      owned_more : (held : List (List ℕ)) → ((j : ℕ) (y : A) → j < i → slice_get xs j ≡ Some y → O held j y) → O held i x → (j : ℕ) (y : A) → j < i + 1 → slice_get xs j ≡ Some y → O held j y
      owned_more held all own j y less there =
          ⊎_elim (λ (low : j < i). all j y low there)
          (λ (same : j ≡ i). subst (λ k. O held k y) (sym same) (subst (O held i) (same_Some x y (sym is ∙ ap (slice_get xs) (sym same) ∙ there)) own)) (before j i less)

      pub passing_goes : Passes (λ held. O held i x) (λ held cost. G held i x cost) Broken n (Ok tt) o → Passing (i + 1) m o
      passing_goes read = record {
        owned = from_both o (λ held. (j : ℕ) (y : A) → j < i → slice_get xs j ≡ Some y → O held j y) (λ held. O held i x) (λ held. (j : ℕ) (y : A) → j < i + 1 → slice_get xs j ≡ Some y → O held j y) owned_more
            (from_later n o (λ held. (j : ℕ) (y : A) → j < i → slice_get xs j ≡ Some y → O held j y) read.only p.owned) read.answer;
        only = reads_then m n o p.only read.only;
        left = λ held cost told g.
            let l = p.left held cost told g in
            let q = next held i x l.cost is l.sums in
            let one = l.gets in
            let two = read.gets held q.own (p.only.blocks ∙ told) q.given in
            let sum = q.sum in
            record { cost = q.more; sums = q.others; gets = omega (arith, one, two, sum) };
      }

      pub passing_stops : (e : OpenFault) → ((id : List ℕ) (why : BlockWhy) → Broken n o id why → Broken m o id why) → Passes (λ held. O held i x) (λ held cost. G held i x cost) Broken n (Err e) o
          → Passes (λ held. EachOwned (O held) xs) (λ held cost. SumsTo (G held) 0 xs cost) Broken m (Err e) o
      passing_stops e earlier read = record {
        answer = stops_later (NoneGiven (λ held. O held i x) (λ held cost. G held i x cost) Broken n) (NoneGiven (λ held. EachOwned (O held) xs) (λ held cost. SumsTo (G held) 0 xs cost) Broken m) (Broken n o) (Broken m o) m n o e p.only
            (λ none held cost told g.
            let l = p.left held cost told g in
            let q = next held i x l.cost is l.sums in
            none held q.own (p.only.blocks ∙ told) q.given) earlier read.answer;
        only = reads_then m n o p.only read.only;
        gets = λ held cost told g.
            let l = p.left held cost told g in
            let q = next held i x l.cost is l.sums in
            let one = l.gets in
            let two = read.gets held q.own (p.only.blocks ∙ told) q.given in
            let sum = q.sum in
            omega (arith, one, two, sum);
      }

    pub passing_ends : length xs ≤ i → Passes (λ held. EachOwned (O held) xs) (λ held cost. SumsTo (G held) 0 xs cost) Broken m (Ok tt) n
    passing_ends most = record {
      answer = from_more n (λ held. (j : ℕ) (x : A) → j < i → slice_get xs j ≡ Some x → O held j x) (λ held. EachOwned (O held) xs) (λ held all. record { at = λ j x is. all j x (let less = got_below xs j x is in omega (arith, less, most)) is }) p.owned;
      only = p.only;
      gets = λ held cost told g. let l = p.left held cost told g in let one = l.gets in omega (arith, one);
    }
