-- The place of a part of a part.
use Rattle.std.proofs.Common.{◌≡◌, ℕ, ◌+◌, List, [], ◌∷◌, ◌++◌, length, Option, Some, None, refl, ap, sym, subst, ◌∙◌, arith}
use Rattle.std.specs.Prelude.{option_map, option_and_then}
use Rattle.std.specs.Option.{option_map_or}
use Rattle.std.proofs.lemmas.Option.{same_Some, none-some}
use Rattle.ild_cbor.specs.declared.node.Node.{Node}
use Rattle.ild_cbor.specs.Nodes.{IsPart, Finds}
use Rattle.ild_cbor.specs.Span.{Span, beneath, part_of, place_of, span_of, item_of, entry_of}
use Rattle.ild_cbor.proofs.Spans.{entries_lem}
use Rattle.ild_splice_changes.specs.Spliced.{number_of, numbers_of}
use Rattle.ild_splice_changes.specs.TreeChange.{TreeStep, nth, key, child, part_at}
use Rattle.ild_data.specs.Data.{Data, null, boolean, integer, text, bytes, list, map, link}
use Rattle.ild_data.specs.Spell.{spell}
use Rattle.ild_splice.specs.Splices.{IsAt}
use Rattle.ild_splice.specs.Laws.{RootsAreAt, IsFoundAt, ItemsAreAt, EntriesAreAt}

-- the part to which a step leads, by its number
numbered : (s : TreeStep) (t u : Data) → child s t ≡ Some u → part_of t (number_of s t) ≡ Some u
numbered s null u h = absurd (none-some u h)
numbered s (boolean b) u h = absurd (none-some u h)
numbered s (integer n) u h = absurd (none-some u h)
numbered s (text x) u h = absurd (none-some u h)
numbered s (bytes x) u h = absurd (none-some u h)
numbered (nth i) (list ds) u h = h
numbered (key k) (list ds) u h = absurd (none-some u h)
numbered (nth i) (map ms) u h = absurd (none-some u h)
numbered (key k) (map ms) u h = sym (entries_lem ms k) ∙ h
numbered s (link x) u h = absurd (none-some u h)

-- the span of a part's part, from the whole
down : (s : TreeStep) (q : List TreeStep) (t u : Data) (a : Span) → child s t ≡ Some u → span_of u (numbers_of q u) ≡ Some a → span_of t (numbers_of (s ∷ q) t) ≡ Some (beneath (place_of t (number_of s t)) a)
down s q t u a step is =
    let place = place_of t (number_of s t) in
    let others : option_map_or (λ v. numbers_of q v) (child s t) [] ≡ numbers_of q u = ap (λ (o : Option Data). option_map_or (λ v. numbers_of q v) o []) step in
    (λ i. option_and_then (λ v. option_map (beneath place) (span_of v (others i))) (numbered s t u step i)) ∙ ap (option_map (beneath place)) is

-- the span of a part, and that of a part of it
record AreSpans (t d : Data) (q : List TreeStep) (s : TreeStep) : Type 0 where
  pub outer : Span
  pub inner : Span
  pub outer_is : span_of t (numbers_of q t) ≡ Some outer
  pub inner_is : span_of t (numbers_of (q ++ s ∷ []) t) ≡ Some inner
  pub start : inner.start ≡ outer.start + place_of d (number_of s d)

one_step : (s : TreeStep) (t u : Data) → child s t ≡ Some u → AreSpans t t [] s
one_step s t u step = record {
  outer = record { start = 0; size = length (spell t) };
  inner = beneath (place_of t (number_of s t)) (record { start = 0; size = length (spell u) });
  outer_is = refl;
  inner_is = down s [] t u (record { start = 0; size = length (spell u) }) step refl;
  start = omega arith;
}

behind_step : (r : TreeStep) (q : List TreeStep) (s : TreeStep) (t d : Data) (o : Option Data) → child r t ≡ o → option_and_then (λ v. part_at q v) o ≡ Some d
    → ((v : Data) → part_at q v ≡ Some d → AreSpans v d q s) → AreSpans t d (r ∷ q) s
behind_step r q s t d None is h rest = absurd (none-some d h)
behind_step r q s t d (Some v) is h rest =
    let a = rest v h in
    let start = a.start in
    record {
      outer = beneath (place_of t (number_of r t)) a.outer;
      inner = beneath (place_of t (number_of r t)) a.inner;
      outer_is = down r q t v a.outer is a.outer_is;
      inner_is = down r (q ++ s ∷ []) t v a.inner is a.inner_is;
      start = omega arith;
    }

spans : (q : List TreeStep) (s : TreeStep) (t d u : Data) → part_at q t ≡ Some d → child s d ≡ Some u → AreSpans t d q s
spans [] s t d u h step =
    let here : t ≡ d = same_Some t d h in
    subst (λ (v : Data). AreSpans v d [] s) (sym here) (one_step s d u step)
spans (r ∷ q) s t d u h step = behind_step r q s t d (child r t) refl h (λ v g. spans q s v d u g step)

-- the part of a part
further_by : (r : TreeStep) (q : List TreeStep) (s : TreeStep) (d u : Data) (o : Option Data) → option_and_then (λ v. part_at q v) o ≡ Some d → ((v : Data) → part_at q v ≡ Some d → part_at (q ++ s ∷ []) v ≡ Some u)
    → option_and_then (λ v. part_at (q ++ s ∷ []) v) o ≡ Some u
further_by r q s d u None h rest = absurd (none-some d h)
further_by r q s d u (Some v) h rest = rest v h

further : (q : List TreeStep) (s : TreeStep) (t d u : Data) → part_at q t ≡ Some d → child s d ≡ Some u → part_at (q ++ s ∷ []) t ≡ Some u
further [] s t d u h step =
    let here : t ≡ d = same_Some t d h in
    ap (λ (v : Data). option_and_then (λ w. part_at [] w) (child s v)) here ∙ ap (option_and_then (λ w. part_at [] w)) step
further (r ∷ q) s t d u h step = further_by r q s d u (child r t) h (λ v g. further q s v d u g step)

-- ---- the nodes there

at_step : (n m : Node) (t d u : Data) (q : List TreeStep) (s : TreeStep) → IsAt n t q d → child s d ≡ Some u → IsPart n m (place_of d (number_of s d)) u → IsAt m t (q ++ s ∷ []) u
at_step n m t d u q s at step part =
    let a = spans q s t d u at.part step in
    let same : a.outer ≡ at.span = same_Some a.outer at.span (sym a.outer_is ∙ at.spans) in
    let from : a.outer.start ≡ at.span.start = ap (λ (x : Span). x.start) same in
    let one = at.start in
    let two = part.start_is in
    let three = a.start in
    record {
      whole = part.block_is ∙ at.whole;
      part = further q s t d u at.part step;
      stands = part.stands;
      span = a.inner;
      spans = a.inner_is;
      start = omega arith;
    }

found_at : (n m : Node) (t d : Data) (q : List TreeStep) (s : TreeStep) (sought o : Option Data) → sought ≡ o → sought ≡ child s d → IsAt n t q d → Finds n (place_of d (number_of s d)) o (Some m) → IsFoundAt m t (q ++ s ∷ []) sought
found_at n m t d q s sought None is step at finds = absurd finds
found_at n m t d q s sought (Some u) is step at finds = record { part = u; is = is; at = at_step n m t d u q s at (sym step ∙ is) finds }

pub item_step : (d : Data) (i : ℕ) → item_of d i ≡ child (nth i) d
item_step null i = refl
item_step (boolean b) i = refl
item_step (integer n) i = refl
item_step (text x) i = refl
item_step (bytes x) i = refl
item_step (list ds) i = refl
item_step (map ms) i = refl
item_step (link x) i = refl

pub entry_step : (d : Data) (k : List ℕ) → entry_of d k ≡ child (key k) d
entry_step null k = refl
entry_step (boolean b) k = refl
entry_step (integer n) k = refl
entry_step (text x) k = refl
entry_step (bytes x) k = refl
entry_step (list ds) k = refl
entry_step (map ms) k = refl
entry_step (link x) k = refl

pub roots_are_at : RootsAreAt
roots_are_at n b t block root =
    record { whole = root.block_is ∙ block.spelled; part = refl; stands = root.stands; span = record { start = 0; size = length (spell t) }; spans = refl; start = root.start_is }

pub items_are_at : ItemsAreAt
items_are_at n m t d q i at finds = found_at n m t d q (nth i) (item_of d i) (item_of d i) refl (item_step d i) at finds

pub entries_are_at : EntriesAreAt
entries_are_at n m t d q k at finds = found_at n m t d q (key k) (entry_of d k) (entry_of d k) refl (entry_step d k) at finds
