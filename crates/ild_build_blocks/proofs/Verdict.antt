-- What a whole value's writing says of it.
use Rattle.std.proofs.Common.{◌≡◌, ◌⊎◌, inl, inr, ⊎_elim, ℕ, ◌+◌, ◌≤◌, Bool, true, false, ◌||◌, cond, List, [], ◌∷◌, ◌++◌, option_map, refl, sym, ap, ◌∙◌, subst, arith}
use Rattle.std.specs.List.{sum_by}
use Rattle.std.proofs.lemmas.List.Sums.{sum_by-cons}
use Rattle.std.proofs.lemmas.Bool.{or_parts}
use Rattle.ild_bulk.specs.Build.{any_long, is_long}
use Rattle.ild_bulk.specs.Children.{Follows}
use Rattle.ild_data.specs.Data.{Data}
use Rattle.ild_data.specs.Limits.{deepest}
use Rattle.ild_data.specs.Spell.{spell}
use Rattle.ild_schema.specs.declared.number.Slot.{Slot}
use Rattle.ild_schema.specs.declared.row.Row.{Row}
use Rattle.ild_schema.specs.Made.{IsMade}
use Rattle.ild_schema.specs.Value.{Value}
use Rattle.ild_typed.specs.Blocks.{nodes}
use Rattle.ild_typed_places.specs.Places.{places_in}
use Rattle.ild_bulk_places.specs.Following.{FollowsIn}
use Rattle.ild_build_blocks.proofs.Placed.{placed_follows}
use Rattle.ild_typed.specs.Hamt.{whole}
use Rattle.ild_typed.specs.Fits.{Fits}
use Rattle.ild_typed.specs.Judged.{breaks_delimiter, exhausts, has_hole, IsTooLong}
use Rattle.ild_typed.specs.Typed.{Typed}
use Rattle.ild_build_pass.specs.Fitting.{FitsIn}
use Rattle.ild_build_leaf.specs.Made.{made}
use Rattle.ild_build_blocks.specs.inside.Planned.{IsPlanned}
use Rattle.ild_build_entries.specs.Entries.{over}
use Rattle.ild_build_pass.specs.Weights.{beneath, crowded, weigh}
use Rattle.ild_build_entries.specs.Fine.{told, IsFine}
use Rattle.ild_build_pass.specs.Writes.{Exact, TooLong, Writes}
use Rattle.ild_build_entries.specs.declared.nodes.Nodes.{Nodes}
use Rattle.ild_build_blocks.specs.declared.planned.Planned.{Planned}
use Rattle.ild_build_blocks.proofs.Alikes.{all_short, some_long}
use Rattle.ild_edges.proofs.Among.{IsIn-contains}
use Rattle.ild_build_entries.proofs.Flags.{unset}
use Rattle.ild_build_pass.proofs.Judges.{nodes_weigh}
use Rattle.ild_build_pass.proofs.Trees.{HasTree, exhausted_is, tree_there}

-- ---- tests of lengths

or_true : (a b : Bool) → (a || b) ≡ true → (a ≡ true) ⊎ (b ≡ true)
or_true true b e = inl refl
or_true false b e = inr e

over_is : (b : List ℕ) (c : Bool) → is_long b ≡ c → over b ≡ cond c 1 0
over_is b c e = ap (λ x. cond x 1 0) e

any_over : (bs : List (List ℕ)) → any_long bs ≡ true → 1 ≤ sum_by over bs
any_over [] e = absurd cc
any_over (b ∷ bs) e = ⊎_elim (λ x. let one = over_is b true x in omega (arith, one, sum_by-cons over b bs)) (λ x. let more = any_over bs x in omega (arith, more, sum_by-cons over b bs)) (or_true (is_long b) (any_long bs) e)

none_over : (bs : List (List ℕ)) → any_long bs ≡ false → sum_by over bs ≡ 0
none_over [] e = refl
none_over (b ∷ bs) e =
    let both = or_parts (is_long b) (any_long bs) e in
    let none = over_is b false both.0 in
    let more = none_over bs both.1 in
    omega (arith, none, more, sum_by-cons over b bs)

-- ---- a value that fits

pub whole_fits : (rows : List Row) (s : Slot) (v : Value) → Typed rows s v → has_hole rows s v ≡ false → breaks_delimiter rows s v ≡ false → Fits rows deepest s v → FitsIn rows s v
whole_fits rows s v typed hole joined fits = record { room = deepest; low = omega arith; fits = fits; whole = typed.2; hole = hole; joined = joined }

-- ---- all of it written

module _ (h : List ℕ → List ℕ) (rows : List Row) (made_is : IsMade rows) (s : Slot) (v : Value) (fit : FitsIn rows s v) (old out : List ℕ) (was now : Nodes) (empty : old ≡ []) (fine : IsFine was) (w : Writes h rows (made (whole h) rows s v) (λ μ. weigh μ rows s v) old out was now) where
  pub is_exhausted : now.exhausted ≡ true → exhausts h rows s v ≡ true
  is_exhausted e =
      let one : told now.exhausted ≡ 1 = ap told e in
      let none : told was.exhausted ≡ 0 = ap told fine.exhausted in
      let k = w.exhausted.only (omega (arith, one)) in
      exhausted_is h rows made_is s v fit (omega (arith, k, none))

  pub whole_tree : now.exhausted ≡ false → HasTree h rows made_is s v fit
  whole_tree e = tree_there h rows made_is s v fit (unset was.exhausted now.exhausted (weigh (crowded h) rows s v) w.exhausted e).1

  all_over : (t : Data) → over (spell t) + weigh (beneath h rows over) rows s v ≡ sum_by over (spell t ∷ nodes h rows s v)
  all_over t = ap (λ n. over (spell t) + n) (sym (nodes_weigh h rows over s v)) ∙ sym (sum_by-cons over (spell t) (nodes h rows s v))

  too_long : (t : HasTree h rows made_is s v fit) → 1 ≤ over (spell t.tree) + weigh (beneath h rows over) rows s v → IsTooLong h rows s v
  too_long t k =
      let sum = all_over t.tree in
      let x = some_long (spell t.tree ∷ nodes h rows s v) (omega (arith, k, sum)) in
      record { tree = t.tree; represented = t.is; block = x.block; among = IsIn-contains x.block (spell t.tree ∷ nodes h rows s v) x.among; long = x.long }

  exact_of : (t : HasTree h rows made_is s v fit) → Exact h rows (λ μ. weigh μ rows s v) (spell t.tree) old out w.added now ⊎ TooLong h rows (λ μ. weigh μ rows s v) (spell t.tree) now.long
  exact_of t = w.exact fine (spell t.tree) (ap (option_map spell) t.is)

  out_is : (t : HasTree h rows made_is s v fit) → Exact h rows (λ μ. weigh μ rows s v) (spell t.tree) old out w.added now → out ≡ spell t.tree
  out_is t x = x.spelled ∙ ap (λ o. o ++ spell t.tree) empty

  pub is_too_long : was.blocks.items ≡ [] → now.exhausted ≡ false → (a b c : Bool) → a ≡ now.long → b ≡ is_long out → c ≡ any_long now.blocks.items → ((a || b) || c) ≡ true → IsTooLong h rows s v
  is_too_long none e a b c al bl cl long =
      let t = whole_tree e in
      let all : now.blocks.items ≡ w.added = w.blocks ∙ ap (λ xs. xs ++ w.added) none in
      ⊎_elim
      (λ (x : Exact h rows (λ μ. weigh μ rows s v) (spell t.tree) old out w.added now).
      let same = x.blocks over in
      ⊎_elim
      (λ (ab : (a || b) ≡ true).
      ⊎_elim (λ (k : a ≡ true). let never : false ≡ true = sym x.fine.long ∙ sym al ∙ k in absurd cc)
      (λ (k : b ≡ true). let one = over_is out true (sym bl ∙ k) in let here = ap over (out_is t x) in too_long t (omega (arith, one, here))) (or_true a b ab))
      (λ (k : c ≡ true). let some = any_over w.added (ap any_long (sym all) ∙ sym cl ∙ k) in too_long t (omega (arith, some, same))) (or_true (a || b) c long))
      (λ (x : TooLong h rows (λ μ. weigh μ rows s v) (spell t.tree) now.long). too_long t x.long) (exact_of t)

  pub is_planned : was.blocks.items ≡ [] → now.exhausted ≡ false → (p : Planned) → p.block ≡ out → p.nodes.items ≡ now.blocks.items → (a b c : Bool) → a ≡ now.long → b ≡ is_long out → c ≡ any_long now.blocks.items → ((a || b) || c) ≡ false → IsPlanned h rows s v p
  is_planned none e p block items a b c al bl cl short =
      let t = whole_tree e in
      let both = or_parts (a || b) c short in
      let first = or_parts a b both.0 in
      let all : now.blocks.items ≡ w.added = w.blocks ∙ ap (λ xs. xs ++ w.added) none in
      ⊎_elim
      (λ (x : Exact h rows (λ μ. weigh μ rows s v) (spell t.tree) old out w.added now).
      let one = over_is out false (sym bl ∙ first.1) in
      let here = ap over (out_is t x) in
      let rest = none_over w.added (ap any_long (sym all) ∙ sym cl ∙ both.1) in
      let same = x.blocks over in
      let sum = all_over t.tree in
      record {
        has = record { tree = t.tree; represented = t.is; sized = all_short (spell t.tree ∷ nodes h rows s v) (omega (arith, one, here, rest, same, sum)) };
        spelled = block ∙ out_is t x;
        alike = λ f. ap (sum_by f) (items ∙ all) ∙ x.blocks f ∙ sym (nodes_weigh h rows f s v);
        follows = subst (λ xs. Follows [] xs) (sym (items ∙ all)) (w.follows []);
        placed = subst (λ xs. FollowsIn (places_in h rows s v) [] xs) (sym (items ∙ all)) (placed_follows h rows s v [] w.added (x.placed []));
      })
      (λ (x : TooLong h rows (λ μ. weigh μ rows s v) (spell t.tree) now.long). let never : false ≡ true = sym first.0 ∙ al ∙ x.marked in absurd cc) (exact_of t)
