-- The spelling of a part is a span of the whole's, and a replacement changes that span alone.
use Rattle.std.proofs.Common.{cond, ◌≡◌, ℕ, zero, suc, List, [], ◌∷◌, ◌++◌, length, slice_get, Bool, true, false, Option, Some, None, refl, ap, sym, ◌∙◌, append_assoc, append-nil, length-append, arith}
use Rattle.std.specs.Prelude.{◌+◌, ◌-◌, take, drop, option_and_then, option_map, slice_set}
use Rattle.std.specs.Option.{option_map_or}
use Rattle.std.proofs.lemmas.Option.{same_Some, none-some}
use Rattle.std.proofs.lemmas.List.{length-set, take_at, drop_at}
use Rattle.ild_data.specs.Data.{Data, null, boolean, integer, text, bytes, list, map, link, Items, no_items, item, Members, no_members, member, items_of, items_list, members_of, members_list}
use Rattle.ild_data.specs.Key.{same_text, value_at}
use Rattle.ild_data.specs.Spell.{head, spell, spell_text, spell_items, spell_members}
use Rattle.ild_data.proofs.Lists.{items_list-items_of, items_of-items_list, members_list-members_of, members_of-members_list}
use Rattle.ild_splice_changes.specs.TreeChange.{TreeStep, nth, key, replace, child, with_child, part_at, change_here, changed, replaced_at}
use Rattle.ild_cbor.specs.Span.{Span, key_index, span_of, tree_at, part_of, before_part, place_of, beneath, items_before, values_before}
use Rattle.ild_cbor.proofs.Spans.{entries_lem}
use Rattle.ild_splice_changes.specs.Spliced.{number_of, numbers_of, PartsAreNumbered, ChangesAreSpliced}
use Rattle.ild_splice_changes.specs.Laws.{Around, PartsAreSpans, ChangesAreSpans}
use Rattle.ild_splice_changes.proofs.Nesting.{changes_nest_lem}

-- behind more bytes, and in front of more
lengthened : (x before after : List ℕ) (u : Data) (f : Data → List ℕ) (y : List ℕ) (g : Data → List ℕ)
    → y ≡ before ++ (x ++ after) → ((e : Data) → g e ≡ before ++ (f e ++ after)) → Around x u f → Around y u g
lengthened x before after u f y g is each a = record {
  front = before ++ a.front;
  behind = a.behind ++ after;
  now = is ∙ ap (λ z. before ++ (z ++ after)) a.now ∙ regroup before a.front (spell u) a.behind after;
  each = λ e. each e ∙ ap (λ z. before ++ (z ++ after)) (a.each e) ∙ regroup before a.front (spell e) a.behind after;
}
  where
    regroup : (a b c d e : List ℕ) → a ++ ((b ++ (c ++ d)) ++ e) ≡ (a ++ b) ++ (c ++ (d ++ e))
    regroup a b c d e = simp append_assoc

items_around : (ds : Items) (i : ℕ) (u : Data) → slice_get (items_list ds) i ≡ Some u
    → Around (spell_items ds) u (λ e. spell_items (items_of (slice_set (items_list ds) i e)))
items_around no_items i u h = absurd (none-some u h)
items_around (item d ds) zero u h = record {
  front = [];
  behind = spell_items ds;
  now = ap (λ x. spell x ++ spell_items ds) (same_Some d u h);
  each = λ e. ap (λ x. spell e ++ spell_items x) (items_of-items_list ds);
}
items_around (item d ds) (suc i) u h =
    lengthened (spell_items ds) (spell d) [] u _ _ _ (ap (λ x. spell d ++ x) (sym (append-nil (spell_items ds))))
    (λ e. ap (λ x. spell d ++ x) (sym (append-nil (spell_items (items_of (slice_set (items_list ds) i e)))))) (items_around ds i u h)

entry_around : (b : Bool) (k : List ℕ) (j : List ℕ) (d : Data) (ms : Members) (u : Data) → cond b (Some d) (value_at k (members_list ms)) ≡ Some u
    → (value_at k (members_list ms) ≡ Some u → Around (spell_members ms) u (λ e. spell_members (members_of (replaced_at k e (members_list ms)))))
    → Around (spell_members (member j d ms)) u (λ e. spell_members (members_of (cond b ((j, e) ∷ members_list ms) ((j, d) ∷ replaced_at k e (members_list ms)))))
entry_around true k j d ms u h rest = record {
  front = spell_text j;
  behind = spell_members ms;
  now = append_assoc (spell_text j) (spell d) (spell_members ms) ∙ ap (λ x. spell_text j ++ (spell x ++ spell_members ms)) (same_Some d u h);
  each = λ e. append_assoc (spell_text j) (spell e) _ ∙ ap (λ x. spell_text j ++ (spell e ++ spell_members x)) (members_of-members_list ms);
}
entry_around false k j d ms u h rest =
    lengthened (spell_members ms) (spell_text j ++ spell d) [] u _ _ _ (ap (λ x. (spell_text j ++ spell d) ++ x) (sym (append-nil (spell_members ms))))
    (λ e. ap (λ x. (spell_text j ++ spell d) ++ x) (sym (append-nil (spell_members (members_of (replaced_at k e (members_list ms))))))) (rest h)

members_around : (ms : Members) (k : List ℕ) (u : Data) → value_at k (members_list ms) ≡ Some u
    → Around (spell_members ms) u (λ e. spell_members (members_of (replaced_at k e (members_list ms))))
members_around no_members k u h = absurd (none-some u h)
members_around (member j d ms) k u h = entry_around (same_text k j) k j d ms u h (λ g. members_around ms k u g)

same_count : (n m : ℕ) (major : ℕ) (x : List ℕ) → n ≡ m → head major n ++ x ≡ head major m ++ (x ++ [])
same_count n m major x e = ap (λ k. head major k ++ x) e ∙ ap (λ y. head major m ++ y) (sym (append-nil x))

length-replaced : (b : Bool) (m : List ℕ × Data) (k : List ℕ) (e : Data) (ms : List (List ℕ × Data)) → length (replaced_at k e ms) ≡ length ms
    → length (cond b ((m.0, e) ∷ ms) (m ∷ replaced_at k e ms)) ≡ length (m ∷ ms)
length-replaced true m k e ms h = refl
length-replaced false m k e ms h = ap (λ n. suc n) h

replaced_count : (k : List ℕ) (e : Data) (ms : List (List ℕ × Data)) → length (replaced_at k e ms) ≡ length ms
replaced_count k e [] = refl
replaced_count k e (m ∷ ms) = length-replaced (same_text k m.0) m k e ms (replaced_count k e ms)

-- one step down
step_around : (s : TreeStep) (t u : Data) → child s t ≡ Some u → Around (spell t) u (λ e. spell (with_child s e t))
step_around s null u h = absurd (none-some u h)
step_around s (boolean b) u h = absurd (none-some u h)
step_around s (integer n) u h = absurd (none-some u h)
step_around s (text x) u h = absurd (none-some u h)
step_around s (bytes x) u h = absurd (none-some u h)
step_around (nth i) (list ds) u h =
    lengthened (spell_items ds) (head 4 (length (items_list ds))) [] u _ _ _ (same_count (length (items_list ds)) (length (items_list ds)) 4 (spell_items ds) refl)
    (λ e. same_count _ _ 4 (spell_items (items_of (slice_set (items_list ds) i e))) (ap length (items_list-items_of (slice_set (items_list ds) i e)) ∙ length-set (items_list ds) i e))
    (items_around ds i u h)
step_around (key k) (list ds) u h = absurd (none-some u h)
step_around (nth i) (map ms) u h = absurd (none-some u h)
step_around (key k) (map ms) u h =
    lengthened (spell_members ms) (head 5 (length (members_list ms))) [] u _ _ _ (same_count (length (members_list ms)) (length (members_list ms)) 5 (spell_members ms) refl)
    (λ e. same_count _ _ 5 (spell_members (members_of (replaced_at k e (members_list ms)))) (ap length (members_list-members_of (replaced_at k e (members_list ms))) ∙ replaced_count k e (members_list ms)))
    (members_around ms k u h)
step_around s (link x) u h = absurd (none-some u h)

-- one step, and then the others
steps_around : (s : TreeStep) (q : List TreeStep) (t d : Data) (o : Option Data) → child s t ≡ o → option_and_then (λ e. part_at q e) o ≡ Some d
    → ((u : Data) → part_at q u ≡ Some d → Around (spell u) d (λ e. spell (changed q (replace e) u)))
    → Around (spell t) d (λ e. spell (option_map_or (λ u. with_child s (changed q (replace e) u) t) o t))
steps_around s q t d None is h rest = absurd (none-some d h)
steps_around s q t d (Some u) is h rest =
    let a = step_around s t u is in
    lengthened (spell u) a.front a.behind d _ _ _ a.now (λ e. a.each (changed q (replace e) u)) (rest u h)

pub parts_are_spans_lem : PartsAreSpans
parts_are_spans_lem [] t d h = record {
  front = [];
  behind = [];
  now = ap spell (same_Some t d h) ∙ sym (append-nil (spell d));
  each = λ e. sym (append-nil (spell e));
}
parts_are_spans_lem (s ∷ q) t d h = steps_around s q t d (child s t) refl h (λ u g. parts_are_spans_lem q u d g)

pub changes_are_spans_lem : ChangesAreSpans
changes_are_spans_lem q c t d h =
    let a = parts_are_spans_lem q t d h in
    let same : changed q c t ≡ changed q (replace (change_here c d)) t = ap (λ p. changed p c t) (sym (append-nil q)) ∙ changes_nest_lem q [] c t d h in
    record { front = a.front; behind = a.behind; now = a.now; after = ap spell same ∙ a.each (change_here c d) }

-- ---- places by numbers

-- a step's number leads to the same part
step_numbered : (s : TreeStep) (t : Data) → (u : Data) → child s t ≡ Some u → part_of t (number_of s t) ≡ Some u
step_numbered s null u h = absurd (none-some u h)
step_numbered s (boolean b) u h = absurd (none-some u h)
step_numbered s (integer n) u h = absurd (none-some u h)
step_numbered s (text x) u h = absurd (none-some u h)
step_numbered s (bytes x) u h = absurd (none-some u h)
step_numbered (nth i) (list ds) u h = h
step_numbered (key k) (list ds) u h = absurd (none-some u h)
step_numbered (nth i) (map ms) u h = absurd (none-some u h)
step_numbered (key k) (map ms) u h = sym (entries_lem ms k) ∙ h
step_numbered s (link x) u h = absurd (none-some u h)

behind_step : (s : TreeStep) (q : List TreeStep) (t d : Data) (o : Option Data) → child s t ≡ o → option_and_then (λ u. part_at q u) o ≡ Some d
    → ((u : Data) → part_at q u ≡ Some d → tree_at u (numbers_of q u) ≡ Some d)
    → option_and_then (λ u. tree_at u (option_map_or (λ v. numbers_of q v) o [])) (part_of t (number_of s t)) ≡ Some d
behind_step s q t d None is h rest = absurd (none-some d h)
behind_step s q t d (Some u) is h rest = ap (option_and_then (λ v. tree_at v (numbers_of q u))) (step_numbered s t u is) ∙ rest u h

pub parts_are_numbered : PartsAreNumbered
parts_are_numbered [] t d h = h
parts_are_numbered (s ∷ q) t d h = behind_step s q t d (child s t) refl h (λ u g. parts_are_numbered q u d g)

-- what stands in front of a part is what is counted there
items_front : (ds : Items) (i : ℕ) (u : Data) (h : slice_get (items_list ds) i ≡ Some u) → (items_around ds i u h).front ≡ items_before i ds
unfolding items_around lengthened
items_front no_items i u h = absurd (none-some u h)
items_front (item d ds) zero u h = refl
items_front (item d ds) (suc i) u h = ap (λ x. spell d ++ x) (items_front ds i u h)

members_front : (ms : Members) (k : List ℕ) (u : Data) (h : value_at k (members_list ms) ≡ Some u) → (members_around ms k u h).front ≡ values_before (key_index k ms) ms
unfolding entry_around lengthened members_around
members_front no_members k u h = absurd (none-some u h)
members_front (member j d ms) k u h = by (same_text k j) h (λ g. members_front ms k u g)
  where
    by : (b : Bool) (g : cond b (Some d) (value_at k (members_list ms)) ≡ Some u)
        → ((e : value_at k (members_list ms) ≡ Some u) → (members_around ms k u e).front ≡ values_before (key_index k ms) ms)
        → (entry_around b k j d ms u g (λ e. members_around ms k u e)).front ≡ values_before (cond b 0 (suc (key_index k ms))) (member j d ms)
    by true g rest = refl
    by false g rest = ap (λ x. (spell_text j ++ spell d) ++ x) (rest g) ∙ append_assoc (spell_text j) (spell d) (values_before (key_index k ms) ms)

step_front : (s : TreeStep) (t u : Data) (h : child s t ≡ Some u) → (step_around s t u h).front ≡ before_part t (number_of s t)
unfolding step_around lengthened
step_front s null u h = absurd (none-some u h)
step_front s (boolean b) u h = absurd (none-some u h)
step_front s (integer n) u h = absurd (none-some u h)
step_front s (text x) u h = absurd (none-some u h)
step_front s (bytes x) u h = absurd (none-some u h)
step_front (nth i) (list ds) u h = ap (λ x. head 4 (length (items_list ds)) ++ x) (items_front ds i u h)
step_front (key k) (list ds) u h = absurd (none-some u h)
step_front (nth i) (map ms) u h = absurd (none-some u h)
step_front (key k) (map ms) u h = ap (λ x. head 5 (length (members_list ms)) ++ x) (members_front ms k u h)
step_front s (link x) u h = absurd (none-some u h)

-- the span of a part that is spelled behind this front
record StartsAt (t d : Data) (numbers : List ℕ) (front : List ℕ) : Type 0 where
  pub span : Span
  pub is : span_of t numbers ≡ Some span
  pub start : length front ≡ span.start
  pub size : length (spell d) ≡ span.size

step_starts : (s : TreeStep) (q : List TreeStep) (t d : Data) (o : Option Data) (is : child s t ≡ o) (h : option_and_then (λ e. part_at q e) o ≡ Some d)
    (rest : (u : Data) → part_at q u ≡ Some d → Around (spell u) d (λ e. spell (changed q (replace e) u)))
    → ((u : Data) (g : part_at q u ≡ Some d) → StartsAt u d (numbers_of q u) (rest u g).front)
    → StartsAt t d (number_of s t ∷ option_map_or (λ v. numbers_of q v) o []) (steps_around s q t d o is h rest).front
unfolding steps_around lengthened
step_starts s q t d None is h rest below = absurd (none-some d h)
step_starts s q t d (Some u) is h rest below =
    let b = below u h in
    let a = step_around s t u is in
    let r = rest u h in
    let long = length-append a.front r.front in
    let place : length a.front ≡ place_of t (number_of s t) = ap length (step_front s t u is) in
    let from = b.start in
    record {
      span = beneath (place_of t (number_of s t)) b.span;
      is = ap (option_and_then (λ v. option_map (beneath (place_of t (number_of s t))) (span_of v (numbers_of q u)))) (step_numbered s t u is) ∙ ap (option_map (beneath (place_of t (number_of s t)))) b.is;
      start = long ∙ ap (λ n. n + length r.front) place ∙ ap (λ n. place_of t (number_of s t) + n) from;
      size = b.size;
    }

starts : (q : List TreeStep) (t d : Data) (h : part_at q t ≡ Some d) → StartsAt t d (numbers_of q t) (parts_are_spans_lem q t d h).front
unfolding parts_are_spans_lem
starts [] t d h = record { span = record { start = 0; size = length (spell t) }; is = refl; start = refl; size = ap (λ u. length (spell u)) (sym (same_Some t d h)) }
starts (s ∷ q) t d h = step_starts s q t d (child s t) refl h (λ u g. parts_are_spans_lem q u d g) (λ u g. starts q u d g)

pub changes_are_spliced : ChangesAreSpliced
unfolding changes_are_spans_lem
changes_are_spliced q c t d h =
    let a = changes_are_spans_lem q c t d h in
    let s = starts q t d h in
    let from = s.span.start in
    let size = s.span.size in
    let long : from + size - from ≡ size = omega arith in
    let both : length (a.front ++ spell d) ≡ from + size = length-append a.front (spell d) ∙ ap (λ n. n + length (spell d)) s.start ∙ ap (λ n. from + n) s.size in
    let front : take from (spell t) ≡ a.front = ap (take from) a.now ∙ take_at a.front (spell d ++ a.behind) from s.start in
    let behind : drop (from + size) (spell t) ≡ a.behind =
    ap (drop (from + size)) (a.now ∙ sym (append_assoc a.front (spell d) a.behind)) ∙ drop_at (a.front ++ spell d) a.behind (from + size) both in
    record {
      span = s.span;
      is = s.is;
      now = ap (λ n. take n (drop from (spell t))) long ∙ ap (take size) (ap (drop from) a.now ∙ drop_at a.front (spell d ++ a.behind) from s.start) ∙ take_at (spell d) a.behind size s.size;
      after = a.after ∙ (λ i. sym front i ++ (spell (change_here c d) ++ sym behind i));
    }
