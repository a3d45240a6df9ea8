-- What is written in turns, with the blocks that are found on the way.
use Rattle.std.proofs.Common.{◌≡◌, ◌⊎◌, inl, inr, ⊎_elim, ℕ, zero, suc, ◌+◌, ◌≤◌, ◌<◌, Bool, true, false, cond, nat_lt, List, [], ◌++◌, length, Option, Some, option_map, refl, sym, ap, ◌∙◌, subst, arith, append_assoc, append-nil}
use Rattle.std.specs.List.{sum_by}
use Rattle.std.proofs.lemmas.Bool.Decides.{nat_tests}
use Rattle.std.proofs.lemmas.List.{length-append}
use Rattle.std.proofs.lemmas.List.Sums.{sum_by-append}
use Rattle.std.proofs.lemmas.Option.{same_Some}
use Rattle.ild_bulk.specs.Children.{Follows}
use Rattle.ild_bulk.proofs.Childs.{follows-append}
use Rattle.ild_data.specs.Limits.{longest_block}
use Rattle.ild_emit.specs.Grown.{IsGrown}
use Rattle.ild_emit.proofs.Growing.{grown_then}
use Rattle.ild_schema.specs.declared.row.Row.{Row}
use Rattle.ild_typed.proofs.Basics.{map_from}
use Rattle.ild_build_entries.proofs.Flags.{set_none}
use Rattle.ild_build_pass.specs.inside.Made.{both}
use Rattle.ild_build_entries.specs.Entries.{over}
use Rattle.ild_build_pass.specs.Placed.{PlacedIn}
use Rattle.ild_build_pass.proofs.Placing.{placed_more, placed_append}
use Rattle.ild_build_pass.specs.Weights.{Weight, beneath, crowded}
use Rattle.ild_build_leaf.specs.Wrote.{Wrote}
use Rattle.ild_build_entries.specs.Fine.{told, SetWhere, IsFine}
use Rattle.ild_build_pass.specs.Writes.{Exact, TooLong, Writes}
use Rattle.ild_build_entries.specs.declared.nodes.Nodes.{Nodes}
use Rattle.ild_build_pass.proofs.Writing.{grown_on, both_from}

pub over_long : (b : List ℕ) → nat_lt longest_block (length b) ≡ true → longest_block < length b
over_long b e = grind (arith, nat_tests, e)

pub over_short : (b : List ℕ) → nat_lt longest_block (length b) ≡ false → length b ≤ longest_block
over_short b e = grind (arith, nat_tests, e)

pub short_of : (b : List ℕ) → over b ≡ 0 → length b ≤ longest_block
short_of b h = by (nat_lt longest_block (length b)) refl
  where
    by : (c : Bool) → nat_lt longest_block (length b) ≡ c → length b ≤ longest_block
    by false e = over_short b e
    by true e = let one : over b ≡ 1 = ap (λ c. cond c 1 0) e in absurd (omega (arith, h, one))

pub over_more : (a b : List ℕ) → length a ≤ length b → over a ≤ over b
over_more a b le = by (nat_lt longest_block (length a)) (nat_lt longest_block (length b)) refl refl
  where
    by : (x y : Bool) → nat_lt longest_block (length a) ≡ x → nat_lt longest_block (length b) ≡ y → over a ≤ over b
    by false y p q = let none : over a ≡ 0 = ap (λ c. cond c 1 0) p in omega (arith, none)
    by true true p q = let one : over a ≡ 1 = ap (λ c. cond c 1 0) p in let two : over b ≡ 1 = ap (λ c. cond c 1 0) q in omega (arith, one, two)
    by true false p q = absurd (omega (arith, le, over_long a p, over_short b q))

-- ---- flags

none_or_some : (n : ℕ) → (n ≡ 0) ⊎ (1 ≤ n)
none_or_some zero = inl refl
none_or_some (suc n) = inr (omega arith)

pub set_then : (a b c : Bool) (m n k : ℕ) → m + n ≡ k → SetWhere a m b → SetWhere b n c → SetWhere a k c
set_then a b c m n k all p q = record {
  set = λ one. q.set (⊎_elim (λ (z : told a + m ≡ 0). omega (arith, z, one, all)) (λ (y : 1 ≤ told a + m). let s = p.set y in omega (arith, s)) (none_or_some (told a + m)));
  only = λ one.
      let t = q.only one in
      ⊎_elim (λ (z : told b ≡ 0). omega (arith, t, z, all)) (λ (y : 1 ≤ told b). let s = p.only y in omega (arith, s, all)) (none_or_some (told b));
}

module _ (h : List ℕ → List ℕ) (rows : List Row) where
  long_more : (N M : Weight → ℕ) (s t : List ℕ) (b c : Bool) → length s ≤ length t → N (beneath h rows over) ≤ M (beneath h rows over) → c ≡ true → TooLong h rows N s b → TooLong h rows M t c
  long_more N M s t b c short less set long = record { marked = set; long = let m = over_more s t short in let l = long.long in omega arith }

  -- ---- where nothing is found

  pub leaf : (made : Option (List ℕ)) (N : Weight → ℕ) (old new : List ℕ) (was : Nodes) → ((μ : Weight) → N μ ≡ 0) → Wrote made old new → Writes h rows made N old new was was
  leaf made N old new was none w = record {
    grown = w.grown;
    added = [];
    blocks = sym (append-nil was.blocks.items);
    follows = λ before. tt;
    exhausted = subst (λ n. SetWhere was.exhausted n was.exhausted) (sym (none (crowded h))) (set_none was.exhausted);
    stays = λ k. k;
    exact = λ fine s is. inl (record { spelled = w.spelled s is; blocks = λ f. sym (none (beneath h rows f)); placed = λ before. tt; fine = fine });
  }

  -- ---- one behind another

  pub behind : (b : Option (List ℕ)) (N : Weight → ℕ) (old mid new p : List ℕ) (was now : Nodes) → mid ≡ old ++ p → Writes h rows b N mid new was now → Writes h rows (option_map (λ t. p ++ t) b) N old new was now
  behind b N old mid new p was now e w = record {
    grown = grown_then old mid new p e w.grown;
    added = w.added;
    blocks = w.blocks;
    follows = w.follows;
    exhausted = w.exhausted;
    stays = w.stays;
    exact = λ fine s is.
        let x = map_from (λ t. p ++ t) b s is in
        let all : p ++ x.item ≡ s = same_Some (p ++ x.item) s x.made in
        ⊎_elim
        (λ (k : Exact h rows N x.item mid new w.added now). inl (record {
          spelled = k.spelled ∙ ap (λ y. y ++ x.item) e ∙ append_assoc old p x.item ∙ ap (λ y. old ++ y) all;
          blocks = k.blocks;
          placed = k.placed;
          fine = k.fine;
        }))
        (λ (k : TooLong h rows N x.item now.long). inr (long_more N N x.item s now.long now.long (omega (arith, length-append p x.item, ap length all)) (omega arith) k.marked k))
        (w.exact fine x.item x.there);
  }

  pub before : (b : Option (List ℕ)) (N : Weight → ℕ) (old mid new p : List ℕ) (was now : Nodes) → new ≡ mid ++ p → Writes h rows b N old mid was now → Writes h rows (option_map (λ t. t ++ p) b) N old new was now
  before b N old mid new p was now e w = record {
    grown = record { more = w.grown.more ++ p; is = e ∙ ap (λ y. y ++ p) w.grown.is ∙ append_assoc old w.grown.more p };
    added = w.added;
    blocks = w.blocks;
    follows = w.follows;
    exhausted = w.exhausted;
    stays = w.stays;
    exact = λ fine s is.
        let x = map_from (λ t. t ++ p) b s is in
        let all : x.item ++ p ≡ s = same_Some (x.item ++ p) s x.made in
        ⊎_elim
        (λ (k : Exact h rows N x.item old mid w.added now). inl (record {
          spelled = e ∙ ap (λ y. y ++ p) k.spelled ∙ append_assoc old x.item p ∙ ap (λ y. old ++ y) all;
          blocks = k.blocks;
          placed = k.placed;
          fine = k.fine;
        }))
        (λ (k : TooLong h rows N x.item now.long). inr (long_more N N x.item s now.long now.long (omega (arith, length-append x.item p, ap length all)) (omega arith) k.marked k))
        (w.exact fine x.item x.there);
  }

  -- where less is to be written, and the weight is the same
  pub from : (a b : Option (List ℕ)) (N M : Weight → ℕ) (old new : List ℕ) (was now : Nodes) → ((s : List ℕ) → a ≡ Some s → b ≡ Some s) → ((μ : Weight) → N μ ≡ M μ) → Writes h rows b M old new was now → Writes h rows a N old new was now
  from a b N M old new was now less same w = record {
    grown = w.grown;
    added = w.added;
    blocks = w.blocks;
    follows = w.follows;
    exhausted = subst (λ n. SetWhere was.exhausted n now.exhausted) (sym (same (crowded h))) w.exhausted;
    stays = w.stays;
    exact = λ fine s is.
        ⊎_elim
        (λ (k : Exact h rows M s old new w.added now). inl (record { spelled = k.spelled; blocks = λ f. k.blocks f ∙ sym (same (beneath h rows f)); placed = λ before. placed_more h rows M N (λ μ. omega (arith, same μ)) before w.added (k.placed before); fine = k.fine }))
        (λ (k : TooLong h rows M s now.long). inr (long_more M N s s now.long now.long (omega arith) (omega (arith, same (beneath h rows over))) k.marked k))
        (w.exact fine s (less s is));
  }

  -- ---- in turns

  pub record Ahead (rest : Option (List ℕ)) (s : List ℕ) : Type 0 where
    pub more : List ℕ
    pub is : rest ≡ Some more
    pub short : length more ≤ length s

  pub record SoFar (weight : Weight → ℕ) (s more old now : List ℕ) (added : List (List ℕ)) (then : Nodes) : Type 0 where
    pub there : old ++ s ≡ now ++ more
    pub blocks : (f : List ℕ → ℕ) → sum_by f added ≡ weight (beneath h rows f)
    pub placed : (before : List (List ℕ)) → PlacedIn h rows weight before added
    pub fine : IsFine then

  pub record ToGo (whole rest : Option (List ℕ)) (N R : Weight → ℕ) (old now : List ℕ) (was then : Nodes) : Type 0 where
    pub grown : IsGrown old now
    pub added : List (List ℕ)
    pub blocks : then.blocks.items ≡ was.blocks.items ++ added
    pub follows : (before : List (List ℕ)) → Follows before added
    pub done : Weight → ℕ
    pub all : (μ : Weight) → done μ + R μ ≡ N μ
    pub exhausted : SetWhere was.exhausted (done (crowded h)) then.exhausted
    pub ahead : (s : List ℕ) → whole ≡ Some s → Ahead rest s
    pub stays : was.long ≡ true → then.long ≡ true
    pub exact : IsFine was → (s : List ℕ) (is : whole ≡ Some s) → SoFar done s (ahead s is).more old now added then ⊎ TooLong h rows N s then.long

  pub starts : (rest : Option (List ℕ)) (N : Weight → ℕ) (old now p : List ℕ) (was : Nodes) → now ≡ old ++ p → ToGo (option_map (λ t. p ++ t) rest) rest N N old now was was
  starts rest N old now p was e = record {
    grown = record { more = p; is = e };
    added = [];
    blocks = sym (append-nil was.blocks.items);
    follows = λ before. tt;
    done = λ μ. 0;
    all = λ μ. omega arith;
    exhausted = set_none was.exhausted;
    ahead = λ s is.
        let x = map_from (λ t. p ++ t) rest s is in
        record { more = x.item; is = x.there; short = omega (arith, length-append p x.item, ap length (same_Some (p ++ x.item) s x.made)) };
    stays = λ k. k;
    exact = λ fine s is.
        let x = map_from (λ t. p ++ t) rest s is in
        inl (record {
          there = ap (λ y. old ++ y) (sym (same_Some (p ++ x.item) s x.made)) ∙ sym (append_assoc old p x.item) ∙ ap (λ y. y ++ x.item) (sym e);
          blocks = λ f. refl;
          placed = λ before. tt;
          fine = fine;
        });
  }

  -- with no head
  pub begins : (whole : Option (List ℕ)) (N : Weight → ℕ) (old : List ℕ) (was : Nodes) → ToGo whole whole N N old old was was
  begins whole N old was = record {
    grown = record { more = []; is = sym (append-nil old) };
    added = [];
    blocks = sym (append-nil was.blocks.items);
    follows = λ before. tt;
    done = λ μ. 0;
    all = λ μ. omega arith;
    exhausted = set_none was.exhausted;
    ahead = λ s is. record { more = s; is = is; short = omega arith };
    stays = λ k. k;
    exact = λ fine s is. inl (record { there = refl; blocks = λ f. refl; placed = λ before. tt; fine = fine });
  }

  pub goes : (whole rest part next : Option (List ℕ)) (N R W S : Weight → ℕ) (old now new : List ℕ) (was then after : Nodes) → rest ≡ both part next → ((μ : Weight) → R μ ≡ W μ + S μ)
      → Writes h rows part W now new then after → ToGo whole rest N R old now was then → ToGo whole next N S old new was after
  goes whole rest part next N R W S old now new was then after e sum w g = record {
    grown = grown_on old now new g.grown w.grown;
    added = g.added ++ w.added;
    blocks = w.blocks ∙ ap (λ y. y ++ w.added) g.blocks ∙ append_assoc was.blocks.items g.added w.added;
    follows = λ before. follows-append before g.added w.added (g.follows before) (w.follows (before ++ g.added));
    done = λ μ. g.done μ + W μ;
    all = λ μ. omega (arith, g.all μ, sum μ);
    exhausted = set_then was.exhausted then.exhausted after.exhausted (g.done (crowded h)) (W (crowded h)) (g.done (crowded h) + W (crowded h)) refl g.exhausted w.exhausted;
    ahead = λ s is.
        let a = g.ahead s is in
        let b = both_from part next a.more (sym e ∙ a.is) in
        let k = a.short in
        record { more = b.second; is = b.two; short = omega (arith, length-append b.first b.second, ap length b.all) };
    stays = λ k. w.stays (g.stays k);
    exact = λ fine s is.
        let a = g.ahead s is in
        let b = both_from part next a.more (sym e ∙ a.is) in
        let k : length b.first ≤ length s = let j = a.short in omega (arith, length-append b.first b.second, ap length b.all) in
        let part_less : W (beneath h rows over) ≤ N (beneath h rows over) = omega (arith, g.all (beneath h rows over), sum (beneath h rows over)) in
        ⊎_elim
        (λ (x : SoFar g.done s a.more old now g.added then).
        ⊎_elim
        (λ (y : Exact h rows W b.first now new w.added after). inl (record {
          there = x.there ∙ ap (λ z. now ++ z) (sym b.all) ∙ sym (append_assoc now b.first b.second) ∙ ap (λ z. z ++ b.second) (sym y.spelled);
          blocks = λ f. sum_by-append f g.added w.added ∙ (λ i. x.blocks f i + y.blocks f i);
          placed = λ before. placed_append h rows (λ μ. g.done μ + W μ) before g.added w.added
              (placed_more h rows g.done (λ μ. g.done μ + W μ) (λ μ. omega arith) before g.added (x.placed before))
              (placed_more h rows W (λ μ. g.done μ + W μ) (λ μ. omega arith) (before ++ g.added) w.added (y.placed (before ++ g.added)));
          fine = y.fine;
        }))
        (λ (y : TooLong h rows W b.first after.long). inr (long_more W N b.first s after.long after.long k part_less y.marked y))
        (w.exact x.fine b.first b.one))
        (λ (x : TooLong h rows N s then.long). inr (long_more N N s s then.long after.long (omega arith) (omega arith) (w.stays x.marked) x))
        (g.exact fine s is);
  }

  pub skips : (whole rest next : Option (List ℕ)) (N R S : Weight → ℕ) (old now : List ℕ) (was then : Nodes) → rest ≡ next → ((μ : Weight) → R μ ≡ S μ) → ToGo whole rest N R old now was then → ToGo whole next N S old now was then
  skips whole rest next N R S old now was then e sum g = record {
    grown = g.grown;
    added = g.added;
    blocks = g.blocks;
    follows = g.follows;
    done = g.done;
    all = λ μ. omega (arith, g.all μ, sum μ);
    exhausted = g.exhausted;
    ahead = λ s is.
        let a = g.ahead s is in
        record { more = a.more; is = sym e ∙ a.is; short = a.short };
    stays = g.stays;
    exact = g.exact;
  }

  pub ends : (whole rest : Option (List ℕ)) (N R : Weight → ℕ) (old now : List ℕ) (was then : Nodes) → rest ≡ Some [] → ((μ : Weight) → R μ ≡ 0) → ToGo whole rest N R old now was then → Writes h rows whole N old now was then
  ends whole rest N R old now was then e none g =
      let same : (μ : Weight) → g.done μ ≡ N μ = λ μ. omega (arith, g.all μ, none μ) in
      record {
        grown = g.grown;
        added = g.added;
        blocks = g.blocks;
        follows = g.follows;
        exhausted = subst (λ n. SetWhere was.exhausted n then.exhausted) (same (crowded h)) g.exhausted;
        stays = g.stays;
        exact = λ fine s is.
            let a = g.ahead s is in
            ⊎_elim
            (λ (x : SoFar g.done s a.more old now g.added then). inl (record {
              spelled = sym (x.there ∙ ap (λ y. now ++ y) (same_Some a.more [] (sym a.is ∙ e)) ∙ append-nil now);
              blocks = λ f. x.blocks f ∙ same (beneath h rows f);
              placed = λ before. placed_more h rows g.done N (λ μ. omega (arith, same μ)) before g.added (x.placed before);
              fine = x.fine;
            }))
            (λ (x : TooLong h rows N s then.long). inr x)
            (g.exact fine s is);
      }
