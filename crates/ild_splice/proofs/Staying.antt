-- A tree that nests at most so deep stays one by a change.
use Rattle.std.proofs.Common.{cond, ◌≡◌, ℕ, zero, suc, ◌+◌, ◌≤◌, Bool, true, false, List, [], ◌∷◌, length, insert, Option, Some, None, refl, sym, subst, arith}
use Rattle.std.specs.Prelude.{slice_get, slice_set, remove, option_and_then, IsUtf8}
use Rattle.std.specs.Option.{option_map_or}
use Rattle.std.specs.Ordering.{match_ordering}
use Rattle.std.specs.declared.cmp.Ordering.{Ordering}
use Rattle.std.specs.declared.cmp.Ordering.TheVariants.{Less, Equal, Greater}
use Rattle.std.proofs.lemmas.Option.{same_Some, none-some}
use Rattle.ild_splice_changes.specs.TreeChange.{TreeStep, nth, key, TreeChange, replace, insert_item, insert_entry, remove_item, remove_entry, child, with_child, part_at, change_here, changed, replaced_at}
use Rattle.ild_splice_changes.proofs.Maps.{rises_replaced}
use Rattle.ild_data.specs.Data.{Data, null, boolean, integer, text, bytes, list, map, link, Items, no_items, item, Members, no_members, member, items_of, items_list, members_of, members_list, depth, items_depth, members_depth}
use Rattle.ild_data.specs.Key.{key_cmp, same_text, put, value_at, without, Rises}
use Rattle.ild_data.specs.Limits.{deepest}
use Rattle.ild_data.specs.Tree.{IsTree, AreTrees, AreEntries}
use Rattle.ild_data.proofs.Lists.{members_of-members_list}
use Rattle.ild_data.proofs.Rising.{rises_list, rises_put, rises_without, AreParts, AreEntries-rising}
use Rattle.ild_splice.specs.Laws.{PutsIn, depth_in, ChangesStayWithin}

-- a tree that nests at most so deep
record In (room : ℕ) (d : Data) : Type 0 where
  pub tree : IsTree d
  pub nested : depth d ≤ room

-- ---- items

abbrev AllIn : ℕ → List Data → Type 0
AllIn room [] = Unit {0}
AllIn room (d ∷ ds) = In room d × AllIn room ds

items_all : (room : ℕ) (ds : Items) → AreTrees ds → items_depth ds ≤ room → AllIn room (items_list ds)
items_all room no_items trees deep = tt
items_all room (item d ds) trees deep = (record { tree = trees.0; nested = omega arith }, items_all room ds trees.1 (omega arith))

all_trees : (room : ℕ) (ds : List Data) → AllIn room ds → AreTrees (items_of ds)
all_trees room [] all = tt
all_trees room (d ∷ ds) all = (all.0.tree, all_trees room ds all.1)

all_nested : (room : ℕ) (ds : List Data) → AllIn room ds → items_depth (items_of ds) ≤ room
all_nested room [] all = omega arith
all_nested room (d ∷ ds) all = let one = all.0.nested in let rest = all_nested room ds all.1 in omega arith

all_get : (room : ℕ) (ds : List Data) (i : ℕ) (u : Data) → AllIn room ds → slice_get ds i ≡ Some u → In room u
all_get room [] i u all h = absurd (none-some u h)
all_get room (d ∷ ds) zero u all h = subst (λ (v : Data). In room v) (same_Some d u h) all.0
all_get room (d ∷ ds) (suc i) u all h = all_get room ds i u all.1 h

all_set : (room : ℕ) (ds : List Data) (i : ℕ) (e : Data) → AllIn room ds → In room e → AllIn room (slice_set ds i e)
all_set room [] i e all one = tt
all_set room (d ∷ ds) zero e all one = (one, all.1)
all_set room (d ∷ ds) (suc i) e all one = (all.0, all_set room ds i e all.1 one)

all_insert : (room : ℕ) (ds : List Data) (i : ℕ) (e : Data) → AllIn room ds → In room e → AllIn room (insert ds i e)
all_insert room ds zero e all one = (one, all)
all_insert room [] (suc i) e all one = (one, tt)
all_insert room (d ∷ ds) (suc i) e all one = (all.0, all_insert room ds i e all.1 one)

all_remove : (room : ℕ) (ds : List Data) (i : ℕ) → AllIn room ds → AllIn room (remove ds i)
all_remove room [] zero all = tt
all_remove room [] (suc i) all = tt
all_remove room (d ∷ ds) zero all = all.1
all_remove room (d ∷ ds) (suc i) all = (all.0, all_remove room ds i all.1)

-- a list with other items
list_in : (room : ℕ) (ds : List Data) → AllIn room ds → In (suc room) (list (items_of ds))
list_in room ds all = let deep = all_nested room ds all in record { tree = all_trees room ds all; nested = omega arith }

-- ---- entries

abbrev PartsIn : ℕ → List (List ℕ × Data) → Type 0
PartsIn room [] = Unit {0}
PartsIn room (m ∷ ms) = IsUtf8 m.0 × In room m.1 × PartsIn room ms

members_all : (room : ℕ) (ms : Members) → AreEntries ms → members_depth ms ≤ room → PartsIn room (members_list ms)
members_all room no_members entries deep = tt
members_all room (member k d ms) entries deep = (entries.0, record { tree = entries.1; nested = omega arith }, members_all room ms entries.3 (omega arith))

parts_trees : (room : ℕ) (ms : List (List ℕ × Data)) → PartsIn room ms → AreParts ms
parts_trees room [] all = tt
parts_trees room (m ∷ ms) all = (all.0, all.1.tree, parts_trees room ms all.2)

parts_nested : (room : ℕ) (ms : List (List ℕ × Data)) → PartsIn room ms → members_depth (members_of ms) ≤ room
parts_nested room [] all = omega arith
parts_nested room (m ∷ ms) all = let one = all.1.nested in let rest = parts_nested room ms all.2 in omega arith

value_in_at : (room : ℕ) (k : List ℕ) (m : List ℕ × Data) (ms : List (List ℕ × Data)) (u : Data) (b : Bool) → PartsIn room (m ∷ ms) → cond b (Some m.1) (value_at k ms) ≡ Some u
    → (value_at k ms ≡ Some u → In room u) → In room u
value_in_at room k m ms u true all h rest = subst (λ (v : Data). In room v) (same_Some m.1 u h) all.1
value_in_at room k m ms u false all h rest = rest h

value_in : (room : ℕ) (k : List ℕ) (ms : List (List ℕ × Data)) (u : Data) → PartsIn room ms → value_at k ms ≡ Some u → In room u
value_in room k [] u all h = absurd (none-some u h)
value_in room k (m ∷ ms) u all h = value_in_at room k m ms u (same_text k m.0) all h (λ g. value_in room k ms u all.2 g)

replaced_in_at : (room : ℕ) (k : List ℕ) (e : Data) (m : List ℕ × Data) (ms : List (List ℕ × Data)) (b : Bool) → PartsIn room (m ∷ ms) → In room e → PartsIn room (replaced_at k e ms)
    → PartsIn room (cond b ((m.0, e) ∷ ms) (m ∷ replaced_at k e ms))
replaced_in_at room k e m ms true all one rest = (all.0, one, all.2)
replaced_in_at room k e m ms false all one rest = (all.0, all.1, rest)

replaced_in : (room : ℕ) (k : List ℕ) (e : Data) (ms : List (List ℕ × Data)) → PartsIn room ms → In room e → PartsIn room (replaced_at k e ms)
replaced_in room k e [] all one = tt
replaced_in room k e (m ∷ ms) all one = replaced_in_at room k e m ms (same_text k m.0) all one (replaced_in room k e ms all.2 one)

put_in_at : (room : ℕ) (k : List ℕ) (e : Data) (m : List ℕ × Data) (ms : List (List ℕ × Data)) (o : Ordering) → PartsIn room (m ∷ ms) → IsUtf8 k → In room e → PartsIn room (put k e ms)
    → PartsIn room (match_ordering o ((k, e) ∷ m ∷ ms) ((k, e) ∷ ms) (m ∷ put k e ms))
put_in_at room k e m ms Less all utf8 one rest = (utf8, one, all)
put_in_at room k e m ms Equal all utf8 one rest = (utf8, one, all.2)
put_in_at room k e m ms Greater all utf8 one rest = (all.0, all.1, rest)

put_in : (room : ℕ) (k : List ℕ) (e : Data) (ms : List (List ℕ × Data)) → PartsIn room ms → IsUtf8 k → In room e → PartsIn room (put k e ms)
put_in room k e [] all utf8 one = (utf8, one, tt)
put_in room k e (m ∷ ms) all utf8 one = put_in_at room k e m ms (key_cmp k m.0) all utf8 one (put_in room k e ms all.2 utf8 one)

without_in_at : (room : ℕ) (k : List ℕ) (m : List ℕ × Data) (ms : List (List ℕ × Data)) (b : Bool) → PartsIn room (m ∷ ms) → PartsIn room (without k ms) → PartsIn room (cond b ms (m ∷ without k ms))
without_in_at room k m ms true all rest = all.2
without_in_at room k m ms false all rest = (all.0, all.1, rest)

without_in : (room : ℕ) (k : List ℕ) (ms : List (List ℕ × Data)) → PartsIn room ms → PartsIn room (without k ms)
without_in room k [] all = tt
without_in room k (m ∷ ms) all = without_in_at room k m ms (same_text k m.0) all (without_in room k ms all.2)

-- a map with other entries
map_in : (room : ℕ) (ms : List (List ℕ × Data)) → PartsIn room ms → Rises ms → In (suc room) (map (members_of ms))
map_in room ms all up = let deep = parts_nested room ms all in record { tree = AreEntries-rising ms (parts_trees room ms all) up; nested = omega arith }

rises : (ms : Members) → AreEntries ms → Rises (members_list ms)
rises ms entries = rises_list (members_list ms) (subst (λ (es : Members). AreEntries es) (sym (members_of-members_list ms)) entries)

-- ---- a change of the tree itself

here : (room : ℕ) (c : TreeChange) (t : Data) → In room t → PutsIn c → depth_in c ≤ room → In room (change_here c t)
here room (replace e) t whole puts deep = record { tree = puts; nested = deep }
here zero (insert_item i e) t whole puts deep = absurd (omega arith)
here (suc room) (insert_item i e) null whole puts deep = whole
here (suc room) (insert_item i e) (boolean b) whole puts deep = whole
here (suc room) (insert_item i e) (integer n) whole puts deep = whole
here (suc room) (insert_item i e) (text s) whole puts deep = whole
here (suc room) (insert_item i e) (bytes s) whole puts deep = whole
here (suc room) (insert_item i e) (list ds) whole puts deep =
    let nested = whole.nested in
    list_in room (insert (items_list ds) i e) (all_insert room (items_list ds) i e (items_all room ds whole.tree (omega arith)) (record { tree = puts; nested = omega arith }))
here (suc room) (insert_item i e) (map ms) whole puts deep = whole
here (suc room) (insert_item i e) (link s) whole puts deep = whole
here zero (insert_entry k e) t whole puts deep = absurd (omega arith)
here (suc room) (insert_entry k e) null whole puts deep = whole
here (suc room) (insert_entry k e) (boolean b) whole puts deep = whole
here (suc room) (insert_entry k e) (integer n) whole puts deep = whole
here (suc room) (insert_entry k e) (text s) whole puts deep = whole
here (suc room) (insert_entry k e) (bytes s) whole puts deep = whole
here (suc room) (insert_entry k e) (list ds) whole puts deep = whole
here (suc room) (insert_entry k e) (map ms) whole puts deep =
    let nested = whole.nested in
    map_in room (put k e (members_list ms)) (put_in room k e (members_list ms) (members_all room ms whole.tree (omega arith)) puts.0 (record { tree = puts.1; nested = omega arith })) (rises_put k e (members_list ms) (rises ms whole.tree))
here (suc room) (insert_entry k e) (link s) whole puts deep = whole
here room (remove_item i) null whole puts deep = whole
here room (remove_item i) (boolean b) whole puts deep = whole
here room (remove_item i) (integer n) whole puts deep = whole
here room (remove_item i) (text s) whole puts deep = whole
here room (remove_item i) (bytes s) whole puts deep = whole
here zero (remove_item i) (list ds) whole puts deep = let nested = whole.nested in absurd (omega arith)
here (suc room) (remove_item i) (list ds) whole puts deep =
    let nested = whole.nested in
    list_in room (remove (items_list ds) i) (all_remove room (items_list ds) i (items_all room ds whole.tree (omega arith)))
here room (remove_item i) (map ms) whole puts deep = whole
here room (remove_item i) (link s) whole puts deep = whole
here room (remove_entry k) null whole puts deep = whole
here room (remove_entry k) (boolean b) whole puts deep = whole
here room (remove_entry k) (integer n) whole puts deep = whole
here room (remove_entry k) (text s) whole puts deep = whole
here room (remove_entry k) (bytes s) whole puts deep = whole
here room (remove_entry k) (list ds) whole puts deep = whole
here zero (remove_entry k) (map ms) whole puts deep = let nested = whole.nested in absurd (omega arith)
here (suc room) (remove_entry k) (map ms) whole puts deep =
    let nested = whole.nested in
    map_in room (without k (members_list ms)) (without_in room k (members_list ms) (members_all room ms whole.tree (omega arith))) (rises_without k (members_list ms) (rises ms whole.tree))
here room (remove_entry k) (link s) whole puts deep = whole

-- ---- a change of a part

-- the part to which a step leads, and the whole with another one there
record StepIn (room : ℕ) (s : TreeStep) (t u : Data) : Type 0 where
  pub part : In room u
  pub with : (e : Data) → In room e → In (suc room) (with_child s e t)

step_in : (room : ℕ) (s : TreeStep) (t u : Data) → In (suc room) t → child s t ≡ Some u → StepIn room s t u
step_in room s null u whole h = absurd (none-some u h)
step_in room s (boolean b) u whole h = absurd (none-some u h)
step_in room s (integer n) u whole h = absurd (none-some u h)
step_in room s (text x) u whole h = absurd (none-some u h)
step_in room s (bytes x) u whole h = absurd (none-some u h)
step_in room (nth i) (list ds) u whole h =
    let nested = whole.nested in
    let all = items_all room ds whole.tree (omega arith) in
    record { part = all_get room (items_list ds) i u all h; with = λ e one. list_in room (slice_set (items_list ds) i e) (all_set room (items_list ds) i e all one) }
step_in room (key k) (list ds) u whole h = absurd (none-some u h)
step_in room (nth i) (map ms) u whole h = absurd (none-some u h)
step_in room (key k) (map ms) u whole h =
    let nested = whole.nested in
    let all = members_all room ms whole.tree (omega arith) in
    record {
      part = value_in room k (members_list ms) u all h;
      with = λ e one. map_in room (replaced_at k e (members_list ms)) (replaced_in room k e (members_list ms) all one) (rises_replaced k e (members_list ms) (rises ms whole.tree));
    }
step_in room s (link x) u whole h = absurd (none-some u h)

below : (room : ℕ) (s : TreeStep) (q : List TreeStep) (c : TreeChange) (t d : Data) (o : Option Data) → In (suc room) t → child s t ≡ o → option_and_then (λ u. part_at q u) o ≡ Some d
    → ((u : Data) → In room u → part_at q u ≡ Some d → In room (changed q c u)) → In (suc room) (option_map_or (λ u. with_child s (changed q c u) t) o t)
below room s q c t d None whole is h rest = absurd (none-some d h)
below room s q c t d (Some u) whole is h rest =
    let a = step_in room s t u whole is in
    a.with (changed q c u) (rest u a.part h)

stays_in : (q : List TreeStep) (room : ℕ) (c : TreeChange) (t d : Data) → In room t → part_at q t ≡ Some d → PutsIn c → length q + depth_in c ≤ room → In room (changed q c t)
stays_in [] room c t d whole h puts deep = here room c t whole puts (omega arith)
stays_in (s ∷ q) zero c t d whole h puts deep = absurd (omega arith)
stays_in (s ∷ q) (suc room) c t d whole h puts deep =
    below room s q c t d (child s t) whole refl h (λ u part g. stays_in q room c u d part g puts (omega arith))

pub changes_stay_within_lem : ChangesStayWithin
changes_stay_within_lem t d q c within h puts deep short =
    let a = stays_in q deepest c t d (record { tree = within.tree; nested = within.nested }) h puts deep in
    record { tree = a.tree; nested = a.nested; sized = short }
