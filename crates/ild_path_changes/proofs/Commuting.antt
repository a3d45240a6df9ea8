-- The change of one part, lifted through the holders of its path.
use Rattle.std.proofs.Common.{◌≡◌, ℕ, zero, suc, cond, List, [], ◌∷◌, slice_get, Bool, true, false, Option, Some, None, refl, ap, sym, subst, ◌∙◌}
use Rattle.std.specs.Prelude.{option_and_then, slice_set}
use Rattle.std.specs.Option.{option_map_or}
use Rattle.std.proofs.lemmas.Option.{same_Some, none-some}
use Rattle.ild_data.specs.Data.{Data, null, boolean, integer, text, bytes, list, map, link, items_of, items_list, members_of, members_list}
use Rattle.ild_data.specs.Key.{same_text, value_at}
use Rattle.ild_data.proofs.Lists.{items_of-items_list, members_of-members_list}
use Rattle.ild_schema.specs.declared.number.Slot.{Slot}
use Rattle.ild_schema.specs.declared.row.Row.{Row}
use Rattle.ild_schema.specs.Value.{Value}
use Rattle.ild_splice_changes.specs.TreeChange.{TreeStep, nth, key, replace, child, with_child, part_at, changed, replaced_at, Located, unchanged, one, applied}
use Rattle.ild_splice_changes.proofs.Nesting.{changes_nest_lem}
use Rattle.ild_typed.specs.Holder.{Holder, value_of}
use Rattle.ild_typed.specs.Segment.{part, set_part}
use Rattle.ild_typed.specs.At.{InSlot, seen, last_holder, changed_in}
use Rattle.ild_path_edits.proofs.Kept.{IsKept}
use Rattle.ild_path_changes.proofs.Represents.{Represents, OneChange, WithinLifts}
use Rattle.ild_path_changes.specs.Lift.{lifted}
use Rattle.ild_path_edits.proofs.Paths.{typed_changed, inside_of}
use Rattle.ild_path_edits.proofs.Holders.{set_part-there, set_part-seen}

module _ (rows : List Row) (is_key : ℕ → List ℕ → Bool) (P : Slot → Value → Type 0) (R : Slot → Value → Data → Type 0) (kept : IsKept rows is_key P) (r : Represents rows P R)
    (f : Holder → List ℕ → Holder) (last : InSlot → Located) (l : Holder × List ℕ)
    (typed : (q : InSlot) → P q.0 q.1 → seen rows q ≡ l.0 → P q.0 (value_of (f l.0 l.1)))
    (here : (q : InSlot) (t u : Data) → P q.0 q.1 → seen rows q ≡ l.0 → R q.0 q.1 t → R q.0 (value_of (f l.0 l.1)) u → u ≡ applied (last q) t) where
  step : (p : InSlot) (s v : List ℕ) (vs : List (List ℕ)) (t u : Data) (o : Option InSlot) → part (seen rows p) s ≡ o → P p.0 p.1
      → option_and_then (λ q. last_holder rows q v vs) o ≡ Some l → R p.0 p.1 t
      → R p.0 (option_map_or (λ q. value_of (set_part (seen rows p) s (changed_in rows f q v vs))) o p.1) u
      → ((q : InSlot) (d e : Data) → P q.0 q.1 → last_holder rows q v vs ≡ Some l → R q.0 q.1 d → R q.0 (changed_in rows f q v vs) e → e ≡ applied (lifted rows r.lift f last q v vs) d)
      → u ≡ applied (option_map_or (λ q. r.lift p s (changed_in rows f q v vs) (lifted rows r.lift f last q v vs)) o unchanged) t
  step p s v vs t u None e is h stands new rest = absurd (none-some l h)
  step p s v vs t u (Some q) e is h stands new rest =
      let c = changed_in rows f q v vs in
      let it = kept.parts p q s is e in
      let typed_part : P q.0 c = typed_changed rows is_key P kept f l typed q v vs it h in
      let typed_whole : P p.0 (value_of (set_part (seen rows p) s c)) = kept.set p s q.0 c is (kept.slots p q s is e) (kept.there p q s is e) typed_part in
      let there : part (seen rows (p.0, value_of (set_part (seen rows p) s c))) s ≡ Some (q.0, c) =
      ap (λ h. part h s) (set_part-seen rows p.0 p.1 s c) ∙ set_part-there (seen rows p) s q.0 c (kept.slots p q s is e) (λ g. inside_of rows is_key P kept q.0 c typed_part g) in
      let d = r.parts p q s t is e stands in
      let n = r.parts (p.0, value_of (set_part (seen rows p) s c)) (q.0, c) s u typed_whole there new in
      let same = rest q d.0 n.0 it h d.1 n.1 in
      r.lifts p q s c t u d.0 (lifted rows r.lift f last q v vs) is e typed_part stands d.1 (subst (λ x. R q.0 c x) same n.1) new

  pub one_change_at : (s : List ℕ) (ss : List (List ℕ)) (p : InSlot) (t u : Data) → P p.0 p.1 → last_holder rows p s ss ≡ Some l → R p.0 p.1 t → R p.0 (changed_in rows f p s ss) u
      → u ≡ applied (lifted rows r.lift f last p s ss) t
  one_change_at s [] p t u is h stands new =
      let e : (seen rows p, s) ≡ l = same_Some (seen rows p, s) l h in
      here p t u is (λ i. (e i).0) stands (subst (λ (k : Holder × List ℕ). R p.0 (value_of (f k.0 k.1)) u) e new)
  one_change_at s (v ∷ vs) p t u is h stands new = step p s v vs t u (part (seen rows p) s) refl is h stands new (λ q d e it g st n. one_change_at v vs q d e it g st n)

pub one_change : OneChange
one_change rows is_key P R kept r f last l typed here p s ss t u is h stands new = one_change_at rows is_key P R kept r f last l typed here s ss p t u is h stands new

-- a part replaced by itself
set_same : {X : Type 0} (xs : List X) (i : ℕ) (x : X) → slice_get xs i ≡ Some x → slice_set xs i x ≡ xs
set_same [] i x h = refl
set_same (y ∷ ys) zero x h = ap (λ z. z ∷ ys) (sym (same_Some y x h))
set_same (y ∷ ys) (suc i) x h = ap (λ zs. y ∷ zs) (set_same ys i x h)

replaced_same_at : {V : Type 0} (k : List ℕ) (v : V) (m : List ℕ × V) (ms : List (List ℕ × V)) (b : Bool) → cond b (Some m.1) (value_at k ms) ≡ Some v
    → (value_at k ms ≡ Some v → replaced_at k v ms ≡ ms) → cond b ((m.0, v) ∷ ms) (m ∷ replaced_at k v ms) ≡ m ∷ ms
replaced_same_at k v m ms true h rest = ap (λ x. (m.0, x) ∷ ms) (sym (same_Some m.1 v h))
replaced_same_at k v m ms false h rest = ap (λ ns. m ∷ ns) (rest h)

replaced_same : {V : Type 0} (k : List ℕ) (v : V) (ms : List (List ℕ × V)) → value_at k ms ≡ Some v → replaced_at k v ms ≡ ms
replaced_same k v [] h = refl
replaced_same k v (m ∷ ms) h = replaced_same_at k v m ms (same_text k m.0) h (λ g. replaced_same k v ms g)

pub child_same : (s : TreeStep) (t u : Data) → child s t ≡ Some u → with_child s u t ≡ t
child_same s null u h = refl
child_same s (boolean b) u h = refl
child_same s (integer n) u h = refl
child_same s (text x) u h = refl
child_same s (bytes x) u h = refl
child_same (nth i) (list ds) u h = ap (λ xs. list (items_of xs)) (set_same (items_list ds) i u h) ∙ ap list (items_of-items_list ds)
child_same (key k) (list ds) u h = refl
child_same (nth i) (map ms) u h = refl
child_same (key k) (map ms) u h = ap (λ xs. map (members_of xs)) (replaced_same k u (members_list ms) h) ∙ ap map (members_of-members_list ms)
child_same s (link x) u h = refl

same_step : (s : TreeStep) (q : List TreeStep) (t d : Data) (o : Option Data) → child s t ≡ o → option_and_then (λ e. part_at q e) o ≡ Some d
    → ((u : Data) → part_at q u ≡ Some d → changed q (replace d) u ≡ u)
    → option_map_or (λ u. with_child s (changed q (replace d) u) t) o t ≡ t
same_step s q t d None e h rest = refl
same_step s q t d (Some u) e h rest = ap (λ x. with_child s x t) (rest u h) ∙ child_same s t u e

pub changed_same : (q : List TreeStep) (t d : Data) → part_at q t ≡ Some d → changed q (replace d) t ≡ t
changed_same [] t d h = sym (same_Some t d h)
changed_same (s ∷ q) t d h = same_step s q t d (child s t) refl h (λ u g. changed_same q u d g)

pub within_lifts : WithinLifts
within_lifts q t d unchanged h = changed_same q t d h
within_lifts q t d (one p c) h = sym (changes_nest_lem q p c t d h)
