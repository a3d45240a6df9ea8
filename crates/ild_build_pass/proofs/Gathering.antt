-- Entries of a HAMT, gathered one after another.
use Rattle.std.proofs.Common.{◌≡◌, inl, inr, Option, ⊎_elim, ℕ, ◌+◌, ◌≤◌, Bool, true, false, cond, nat_lt, List, [], ◌∷◌, ◌++◌, length, Some, option_map, refl, sym, ap, ◌∙◌, subst, arith, append_assoc, append-nil}
use Rattle.std.specs.List.{AllByRecursion, sum_by}
use Rattle.std.proofs.lemmas.Bool.Decides.{nat_tests}
use Rattle.std.proofs.lemmas.List.{append_cancel_left, map-append}
use Rattle.std.proofs.lemmas.List.Sums.{sum_by-append}
use Rattle.std.proofs.lemmas.Option.{same_Some}
use Rattle.ild_bulk.specs.Children.{Follows}
use Rattle.ild_bulk.proofs.Childs.{follows-append}
use Rattle.ild_data.proofs.AllOf.{all_append}
use Rattle.ild_data.specs.Data as T
use Rattle.ild_data.specs.Data.{Data}
use Rattle.ild_data.specs.Limits.{longest_block}
use Rattle.ild_data.specs.Spell.{spell}
use Rattle.ild_node.specs.Rows.{AreShallow, deepest_value}
use Rattle.ild_schema.specs.declared.number.Slot.{Slot}
use Rattle.ild_schema.specs.declared.row.Row.{Row}
use Rattle.ild_schema.specs.Made.{IsMade}
use Rattle.ild_schema.specs.Spelled.{IsSpelled}
use Rattle.ild_schema.specs.Value as V
use Rattle.ild_schema.specs.Value.{Value, Pairs, pairs_list}
use Rattle.ild_typed.specs.Hamt.{whole}
use Rattle.ild_typed.specs.Nested.{BlockIn, TreeIn}
use Rattle.ild_typed.specs.Represented.{represented, represented_pairs}
use Rattle.ild_typed.proofs.Basics.{map_from}
use Rattle.ild_typed.proofs.Entries.{both_from}
use Rattle.ild_typed.proofs.TreeValues.{whole_past}
use Rattle.ild_build_entries.specs.Entries.{AddsEntry}
use Rattle.ild_build_pass.specs.Fitting.{HamtEntry}
use Rattle.ild_build_leaf.specs.Made.{made}
use Rattle.ild_build_entries.specs.Entries.{over}
use Rattle.ild_build_pass.specs.Placed.{PlacedIn}
use Rattle.ild_build_pass.proofs.Placing.{placed_more, placed_append}
use Rattle.ild_build_pass.specs.Weights.{Weight, bare_keys, beneath, crowded, entries_weight, weigh}
use Rattle.ild_build_entries.specs.Fine.{SetWhere, IsFine}
use Rattle.ild_build_pass.specs.Writes.{Exact, TooLong, Writes}
use Rattle.ild_build_entries.specs.declared.hamt.MarkedEntries.{MarkedEntries}
use Rattle.ild_build_entries.specs.declared.nodes.Nodes.{Nodes}
use Rattle.ild_build_pass.proofs.Crowds.{nulls}
use Rattle.ild_build_entries.proofs.Flags.{by_flag, true_false, unlong, unset}
use Rattle.ild_build_entries.proofs.Flags.{set_none}
use Rattle.ild_build_pass.proofs.Flow.{set_then}
use Rattle.ild_build_pass.proofs.Longs.{IsShort}
use Rattle.ild_build_pass.proofs.Trees.{tree_there}

-- ---- lengths

pub over_none : (b : List ℕ) → length b ≤ longest_block → over b ≡ 0
over_none b low = by (nat_lt longest_block (length b)) refl
  where
    by : (c : Bool) → nat_lt longest_block (length b) ≡ c → over b ≡ 0
    by false e = ap (λ x. cond x 1 0) e
    by true e = absurd (grind (arith, nat_tests, e, low))

-- what was written behind other bytes, by itself
pub written_behind : (h : List ℕ → List ℕ) (rows : List Row) (made_of : Option (List ℕ)) (weight : Weight → ℕ) (old more : List ℕ) (was now : Nodes) → Writes h rows made_of weight old (old ++ more) was now
    → Writes h rows made_of weight [] more was now
written_behind h rows made_of weight old more was now w = record {
  grown = record { more = more; is = refl };
  added = w.added;
  blocks = w.blocks;
  follows = w.follows;
  exhausted = w.exhausted;
  stays = w.stays;
  exact = λ fine s is. ⊎_elim
      (λ (x : Exact h rows weight s old (old ++ more) w.added now). inl (record { spelled = append_cancel_left old more s x.spelled; blocks = x.blocks; placed = x.placed; fine = x.fine }))
      (λ (x : TooLong h rows weight s now.long). inr x)
      (w.exact fine s is);
}

module _ (h : List ℕ → List ℕ) (rows : List Row) (u : Slot) where
  -- ---- entries and their data

  abbrev pub AreData : List (List ℕ × Value) → List (List ℕ × Data) → Type 0
  AreData [] [] = Unit {0}
  AreData [] (e ∷ es) = ⊥
  AreData (p ∷ ps) [] = ⊥
  AreData (p ∷ ps) (e ∷ es) = (p.0 ≡ e.0) × (represented (whole h) rows u p.1 ≡ Some e.1) × AreData ps es

  pub are_data : (ps : Pairs) (es : List (List ℕ × Data)) → represented_pairs (whole h) rows u ps ≡ Some es → AreData (pairs_list ps) es
  are_data V.no_pairs [] e = tt
  are_data V.no_pairs (d ∷ es) e = let k : [] ≡ d ∷ es = same_Some {A = List (List ℕ × Data)} [] (d ∷ es) e in absurd cc
  are_data (V.pair k v ps) es e =
      let b = both_from (option_map {U = List ℕ × Data} (λ d. (k, d)) (represented (whole h) rows u v)) (represented_pairs (whole h) rows u ps) es e in
      let x = map_from {B = List ℕ × Data} (λ d. (k, d)) (represented (whole h) rows u v) b.item b.first in
      let same : (k, x.item) ≡ b.item = same_Some {A = List ℕ × Data} (k, x.item) b.item x.made in
      subst (λ ds. AreData ((k, v) ∷ pairs_list ps) ds) b.all
      (ap (λ (q : List ℕ × Data). q.0) same, x.there ∙ ap (λ (q : List ℕ × Data). Some q.1) same, are_data ps b.items b.rest)

  pub one_data : (ps : List (List ℕ × Value)) (es ds : List (List ℕ × Data)) → AreData ps es → AreData ps ds → es ≡ ds
  one_data [] [] [] a b = refl
  one_data [] [] (d ∷ ds) a b = absurd b
  one_data [] (e ∷ es) ds a b = absurd a
  one_data (p ∷ ps) [] ds a b = absurd a
  one_data (p ∷ ps) (e ∷ es) [] a b = absurd b
  one_data (p ∷ ps) (e ∷ es) (d ∷ ds) a b =
      let first : e.0 ≡ d.0 = sym a.0 ∙ b.0 in
      let second : e.1 ≡ d.1 = same_Some e.1 d.1 (sym a.1 ∙ b.1) in
      let rest = one_data ps es ds a.2 b.2 in
      λ i. (first i, second i) ∷ rest i

  data_more : (ps : List (List ℕ × Value)) (es : List (List ℕ × Data)) (p : List ℕ × Value) (d : Data) → AreData ps es → represented (whole h) rows u p.1 ≡ Some d → AreData (ps ++ p ∷ []) (es ++ (p.0, d) ∷ [])
  data_more [] [] p d a is = (refl, is, tt)
  data_more [] (e ∷ es) p d a is = absurd a
  data_more (q ∷ ps) [] p d a is = absurd a
  data_more (q ∷ ps) (e ∷ es) p d a is = (a.0, a.1, data_more ps es p d a.2 is)

  -- the last entry's data by itself
  record Split (ps : List (List ℕ × Value)) (p : List ℕ × Value) (ds : List (List ℕ × Data)) : Type 0 where
    front : List (List ℕ × Data)
    last : Data
    are : AreData ps front
    is : represented (whole h) rows u p.1 ≡ Some last
    short : AllByRecursion IsShort ds → AllByRecursion IsShort front × (length (spell last) ≤ longest_block)

  data_split : (ps : List (List ℕ × Value)) (p : List ℕ × Value) (ds : List (List ℕ × Data)) → AreData (ps ++ p ∷ []) ds → Split ps p ds
  data_split [] p [] a = absurd a
  data_split [] p (d ∷ ds) a = record { front = []; last = d.1; are = tt; is = a.1; short = λ s. (tt, s.0) }
  data_split (q ∷ ps) p [] a = absurd a
  data_split (q ∷ ps) p (d ∷ ds) a =
      let x = data_split ps p ds a.2 in
      record { front = d ∷ x.front; last = x.last; are = (a.0, a.1, x.are); is = x.is; short = λ s. let y = x.short s.1 in ((s.0, y.0), y.1) }

  weight_more : (μ : Weight) (ps : List (List ℕ × Value)) (p : List ℕ × Value) → entries_weight μ rows u (ps ++ p ∷ []) ≡ entries_weight μ rows u ps + weigh μ rows u p.1
  weight_more μ [] p = omega arith
  weight_more μ (q ∷ ps) p = let more = weight_more μ ps p in omega (arith, more)

  -- ---- the entries so far

  pub record Gathered (ps : List (List ℕ × Value)) (es : List (List ℕ × Data)) (was now : Nodes) : Type 0 where
    pub keys : nulls es ≡ bare_keys ps
    pub shallow : AreShallow es
    pub added : List (List ℕ)
    pub blocks : now.blocks.items ≡ was.blocks.items ++ added
    pub follows : (before : List (List ℕ)) → Follows before added
    pub exhausted : SetWhere was.exhausted (entries_weight (crowded h) rows u ps) now.exhausted
    pub stays : was.long ≡ true → now.long ≡ true
    pub are : IsFine now → AreData ps es
    pub sums : IsFine now → (f : List ℕ → ℕ) → sum_by f added ≡ entries_weight (beneath h rows f) rows u ps
    pub placed : IsFine now → (before : List (List ℕ)) → PlacedIn h rows (λ μ. entries_weight μ rows u ps) before added
    pub long : was.long ≡ false → now.exhausted ≡ false → now.long ≡ true → (ds : List (List ℕ × Data)) → AreData ps ds → AllByRecursion IsShort ds → 1 ≤ entries_weight (beneath h rows over) rows u ps

  pub none_gathered : (was : Nodes) → Gathered [] [] was was
  none_gathered was = record {
    keys = refl;
    shallow = tt;
    added = [];
    blocks = sym (append-nil was.blocks.items);
    follows = λ before. tt;
    exhausted = set_none was.exhausted;
    stays = λ k. k;
    are = λ f. tt;
    sums = λ f g. refl;
    placed = λ f before. tt;
    long = λ a e b ds d s. absurd (true_false was.long b a);
  }

  -- ---- one entry more

  module _ (made_is : IsMade rows) (spelled : IsSpelled rows) (p : List ℕ × Value) (entry : HamtEntry rows u p) where
    record HasValue (out : List ℕ) : Type 0 where
      tree : Data
      is : represented (whole h) rows u p.1 ≡ Some tree
      fits : TreeIn deepest_value tree
      spells : out ≡ spell tree

    fine_before : (out : List ℕ) (was now : Nodes) → Writes h rows (made (whole h) rows u p.1) (λ μ. weigh μ rows u p.1) [] out was now → IsFine now → IsFine was
    fine_before out was now w fine = record {
      exhausted = (unset was.exhausted now.exhausted (weigh (crowded h) rows u p.1) w.exhausted fine.exhausted).0;
      long = unlong was.long now.long w.stays fine.long;
    }

    value_there : (out : List ℕ) (was now : Nodes) (w : Writes h rows (made (whole h) rows u p.1) (λ μ. weigh μ rows u p.1) [] out was now) → IsFine now → HasValue out × ((f : List ℕ → ℕ) → sum_by f w.added ≡ weigh (beneath h rows f) rows u p.1) × ((before : List (List ℕ)) → PlacedIn h rows (λ μ. weigh μ rows u p.1) before w.added)
    value_there out was now w fine =
        let none = (unset was.exhausted now.exhausted (weigh (crowded h) rows u p.1) w.exhausted fine.exhausted).1 in
        let t = tree_there h rows made_is u p.1 entry.part none in
        let low = entry.low in
        let g = whole_past h rows spelled entry.part.room 0 u p.1 t.tree entry.part.fits t.is in
        ⊎_elim
        (λ (x : Exact h rows (λ μ. weigh μ rows u p.1) (spell t.tree) [] out w.added now).
        (record { tree = t.tree; is = t.is; fits = record { tree = g.0; nested = let k = g.1 in omega (arith, k, low) }; spells = x.spelled }, x.blocks, x.placed))
        (λ (x : TooLong h rows (λ μ. weigh μ rows u p.1) (spell t.tree) now.long). absurd (true_false now.long x.marked fine.long))
        (w.exact (fine_before out was now w fine) (spell t.tree) (ap (option_map spell) t.is))

    pub value_block : (out : List ℕ) (was now : Nodes) → Writes h rows (made (whole h) rows u p.1) (λ μ. weigh μ rows u p.1) [] out was now → IsFine now → BlockIn deepest_value out
    value_block out was now w fine = let x = (value_there out was now w fine).0 in record { of = x.tree; is = x.spells; fits = x.fits }

    module _ (ps : List (List ℕ × Value)) (es : List (List ℕ × Data)) (old new : MarkedEntries) (was mid then now : Nodes) (out : List ℕ) (g : Gathered ps es was mid)
        (w : Writes h rows (made (whole h) rows u p.1) (λ μ. weigh μ rows u p.1) [] out mid then) (a : AddsEntry h p.0 out then now old new) where
      fine_then : IsFine now → IsFine then
      fine_then fine = record { exhausted = sym a.exhausted ∙ fine.exhausted; long = unlong then.long now.long a.stays fine.long }

      fine_mid : IsFine now → IsFine mid
      fine_mid fine = fine_before out mid then w (fine_then fine)

      data_now : IsFine now → AreData (ps ++ p ∷ []) (es ++ (p.0, a.of) ∷ [])
      data_now fine =
          let x = (value_there out mid then w (fine_then fine)).0 in
          subst (λ ds. AreData (ps ++ p ∷ []) ds) (ap (λ d. es ++ (p.0, d) ∷ []) (sym (a.exact fine x.tree x.fits x.spells)))
          (data_more ps es p x.tree (g.are (fine_mid fine)) x.is)

      sums_now : IsFine now → (f : List ℕ → ℕ) → sum_by f (g.added ++ w.added) ≡ entries_weight (beneath h rows f) rows u (ps ++ p ∷ [])
      sums_now fine f =
          let first = g.sums (fine_mid fine) f in
          let second = (value_there out mid then w (fine_then fine)).1 f in
          sum_by-append f g.added w.added ∙ (λ i. first i + second i) ∙ sym (weight_more (beneath h rows f) ps p)

      placed_now : IsFine now → (before : List (List ℕ)) → PlacedIn h rows (λ μ. entries_weight μ rows u (ps ++ p ∷ [])) before (g.added ++ w.added)
      placed_now fine before =
          placed_append h rows (λ μ. entries_weight μ rows u (ps ++ p ∷ [])) before g.added w.added
          (placed_more h rows (λ μ. entries_weight μ rows u ps) (λ μ. entries_weight μ rows u (ps ++ p ∷ [])) (λ μ. let sum = weight_more μ ps p in omega (arith, sum)) before g.added (g.placed (fine_mid fine) before))
          (placed_more h rows (λ μ. weigh μ rows u p.1) (λ μ. entries_weight μ rows u (ps ++ p ∷ [])) (λ μ. let sum = weight_more μ ps p in omega (arith, sum)) (before ++ g.added) w.added
          ((value_there out mid then w (fine_then fine)).2 (before ++ g.added)))

      long_last : was.long ≡ false → then.exhausted ≡ false → now.long ≡ true → (d : Data) → represented (whole h) rows u p.1 ≡ Some d → length (spell d) ≤ longest_block → mid.long ≡ false → 1 ≤ weigh (beneath h rows over) rows u p.1
      long_last fine full long d is short mid_long =
          let none = over_none (spell d) short in
          let mid_fine : IsFine mid = record { exhausted = (unset mid.exhausted then.exhausted (weigh (crowded h) rows u p.1) w.exhausted full).0; long = mid_long } in
          ⊎_elim
          (λ (x : Exact h rows (λ μ. weigh μ rows u p.1) (spell d) [] out w.added then).
          let one = a.long x.fine.long long in
          let same = ap over x.spelled in
          absurd (omega (arith, none, one, same)))
          (λ (x : TooLong h rows (λ μ. weigh μ rows u p.1) (spell d) then.long). let some = x.long in omega (arith, some, none))
          (w.exact mid_fine (spell d) (ap (option_map spell) is))

      long_now : was.long ≡ false → now.exhausted ≡ false → now.long ≡ true → (ds : List (List ℕ × Data)) → AreData (ps ++ p ∷ []) ds → AllByRecursion IsShort ds → 1 ≤ entries_weight (beneath h rows over) rows u (ps ++ p ∷ [])
      long_now fine full long ds are short =
          let x = data_split ps p ds are in
          let s = x.short short in
          let sum = weight_more (beneath h rows over) ps p in
          let full_then : then.exhausted ≡ false = sym a.exhausted ∙ full in
          by_flag mid.long
          (λ k. let some = g.long fine (unset mid.exhausted then.exhausted (weigh (crowded h) rows u p.1) w.exhausted full_then).0 k x.front x.are s.0 in omega (arith, some, sum))
          (λ k. let some = long_last fine full_then long x.last x.is s.1 k in omega (arith, some, sum))

      pub gathered_more : Gathered (ps ++ p ∷ []) (es ++ (p.0, a.of) ∷ []) was now
      gathered_more = record {
        keys = map-append (λ (e : List ℕ × Data). (e.0, T.null)) es ((p.0, a.of) ∷ []) ∙ ap (λ fs. fs ++ (p.0, T.null) ∷ []) g.keys
            ∙ sym (map-append (λ (q : List ℕ × Value). (q.0, T.null)) ps (p ∷ []));
        shallow = all_append (λ (e : List ℕ × Data). TreeIn deepest_value e.1) es ((p.0, a.of) ∷ []) g.shallow (a.shallow, tt);
        added = g.added ++ w.added;
        blocks = a.blocks ∙ w.blocks ∙ ap (λ bs. bs ++ w.added) g.blocks ∙ append_assoc was.blocks.items g.added w.added;
        follows = λ before. follows-append before g.added w.added (g.follows before) (w.follows (before ++ g.added));
        exhausted = subst (λ b. SetWhere was.exhausted (entries_weight (crowded h) rows u (ps ++ p ∷ [])) b) (sym a.exhausted)
            (set_then was.exhausted mid.exhausted then.exhausted (entries_weight (crowded h) rows u ps) (weigh (crowded h) rows u p.1) (entries_weight (crowded h) rows u (ps ++ p ∷ [])) (sym (weight_more (crowded h) ps p)) g.exhausted w.exhausted);
        stays = λ k. a.stays (w.stays (g.stays k));
        are = data_now;
        sums = sums_now;
        placed = placed_now;
        long = long_now;
      }
