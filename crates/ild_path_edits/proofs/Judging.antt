-- A changed value is judged by the tests of the enclosing forms and the judgement of the part.
use Rattle.std.proofs.Common.{◌≡◌, ℕ, List, [], ◌∷◌, Bool, Option, Some, None, refl, ap, subst, ◌∙◌}
use Rattle.std.specs.Prelude.{◌↔◌, option_and_then}
use Rattle.std.specs.Option.{option_map_or}
use Rattle.std.proofs.lemmas.Option.{none-some}
use Rattle.ild_schema.specs.declared.number.Slot.{Slot}
use Rattle.ild_schema.specs.declared.row.Row.{Row}
use Rattle.ild_schema.specs.Value.{Value}
use Rattle.ild_typed.specs.Holder.{Holder, value_of}
use Rattle.ild_typed.specs.Segment.{part, set_part}
use Rattle.ild_typed.specs.At.{InSlot, seen, last_holder, changed_in}
use Rattle.ild_path_edits.specs.Along.{AtPart, Tests}
use Rattle.ild_path_edits.proofs.Layering.{IsLayered, JudgedByTests, JudgedByPart}
use Rattle.ild_path_edits.proofs.Kept.{IsKept}
use Rattle.ild_path_edits.proofs.Holders.{set_part-there, set_part-seen}
use Rattle.ild_path_edits.proofs.Paths.{typed_changed, inside_of}

module _ (rows : List Row) (is_key : ℕ → List ℕ → Bool) (P : Slot → Value → Type 0) (kept : IsKept rows is_key P)
    (I : Type 0) (below : I → InSlot → List ℕ → I) (J : I → Slot → Value → Type 0) (L : I → Slot → Holder → Type 0) (layered : IsLayered rows P I below J L)
    (f : Holder → List ℕ → Holder) (l : Holder × List ℕ) (typed : (q : InSlot) → P q.0 q.1 → seen rows q ≡ l.0 → P q.0 (value_of (f l.0 l.1))) where
  step : (i : I) (p : InSlot) (s t : List ℕ) (ss : List (List ℕ)) (o : Option InSlot) → part (seen rows p) s ≡ o → P p.0 p.1 → J i p.0 p.1
      → option_and_then (λ q. last_holder rows q t ss) o ≡ Some l
      → ((q : InSlot) → P q.0 q.1 → J (below i p s) q.0 q.1 → last_holder rows q t ss ≡ Some l → J (below i p s) q.0 (changed_in rows f q t ss) ↔ Tests rows I below J L f (below i p s) q t ss)
      → J i p.0 (option_map_or (λ q. value_of (set_part (seen rows p) s (changed_in rows f q t ss))) o p.1)
      ↔ AtPart o (λ q. L i p.0 (set_part (seen rows p) s (changed_in rows f q t ss)) × Tests rows I below J L f (below i p s) q t ss)
  step i p s t ss None e is good h rest = absurd (none-some l h)
  step i p s t ss (Some q) e is good h rest =
      let c = changed_in rows f q t ss in
      let it = kept.parts p q s is e in
      let new : P q.0 c = typed_changed rows is_key P kept f l typed q t ss it h in
      let whole_typed : P p.0 (value_of (set_part (seen rows p) s c)) = kept.set p s q.0 c is (kept.slots p q s is e) (kept.there p q s is e) new in
      let there : part (seen rows (p.0, value_of (set_part (seen rows p) s c))) s ≡ Some (q.0, c) =
      ap (λ h. part h s) (set_part-seen rows p.0 p.1 s c) ∙ set_part-there (seen rows p) s q.0 c (kept.slots p q s is e) (λ g. inside_of rows is_key P kept q.0 c new g) in
      let r = rest q it (layered.parts i p q s is good e) h in (
        λ j. (
          subst (λ h. L i p.0 h) (set_part-seen rows p.0 p.1 s c) (layered.own i (p.0, value_of (set_part (seen rows p) s c)) whole_typed j),
          r.0 (subst (λ k. J k q.0 c) (layered.steady i p q s c is e new) (layered.parts i (p.0, value_of (set_part (seen rows p) s c)) (q.0, c) s whole_typed j there)),
        ),
        λ tests. layered.whole i p q s c is good e new tests.0 (r.1 tests.1),
      )

  judged_at : (s : List ℕ) (ss : List (List ℕ)) (i : I) (p : InSlot) → P p.0 p.1 → J i p.0 p.1 → last_holder rows p s ss ≡ Some l → J i p.0 (changed_in rows f p s ss) ↔ Tests rows I below J L f i p s ss
  judged_at s [] i p is good h = (λ j. j, λ j. j)
  judged_at s (t ∷ ss) i p is good h = step i p s t ss (part (seen rows p) s) refl is good h (λ q it fine g. judged_at t ss (below i p s) q it fine g)

pub judged_by_tests : JudgedByTests
judged_by_tests rows is_key P kept I below J L layered f l typed i p s ss is good h = judged_at rows is_key P kept I below J L layered f l typed s ss i p is good h

pub judged_by_part : JudgedByPart
judged_by_part rows is_key P kept I below J L layered i p q s w is good e new =
    let whole : P p.0 (value_of (set_part (seen rows p) s w)) = kept.set p s q.0 w is (kept.slots p q s is e) (kept.there p q s is e) new in
    let there : part (seen rows (p.0, value_of (set_part (seen rows p) s w))) s ≡ Some (q.0, w) =
    ap (λ h. part h s) (set_part-seen rows p.0 p.1 s w) ∙ set_part-there (seen rows p) s q.0 w (kept.slots p q s is e) (λ g. inside_of rows is_key P kept q.0 w new g) in (
      λ j. (
        subst (λ h. L i p.0 h) (set_part-seen rows p.0 p.1 s w) (layered.own i (p.0, value_of (set_part (seen rows p) s w)) whole j),
        subst (λ k. J k q.0 w) (layered.steady i p q s w is e new) (layered.parts i (p.0, value_of (set_part (seen rows p) s w)) (q.0, w) s whole j there),
      ),
      λ tests. layered.whole i p q s w is good e new tests.0 tests.1,
    )
