-- Each holder on the way of an edit becomes what has data, so the change of the whole is where the steps along the path say.
use Rattle.std.proofs.Common.{◌≡◌, ℕ, List, [], ◌∷◌, Bool, Some, ap, sym, ◌∙◌, subst}
use Rattle.std.specs.Prelude.{option_and_then}
use Rattle.std.specs.Option.{option_map_or}
use Rattle.std.proofs.lemmas.Option.{same_Some}
use Rattle.ild_data.proofs.Options.{chain_some}
use Rattle.ild_data.specs.Data.{Data}
use Rattle.ild_path_changes.specs.LastLift.{LastEdit, deleting, inserting, last_seen, setting}
use Rattle.ild_path_changes.specs.LiftLaws.{MayDelete, MayInsert, MaySet}
use Rattle.ild_schema.specs.declared.row.Row.{Row}
use Rattle.ild_path_replaced.specs.Seen.{AreThere}
use Rattle.ild_path_steps.specs.declared.steps.PartSteps.{PartSteps}
use Rattle.ild_typed.specs.At.{InSlot, changed_in, last_holder, seen}
use Rattle.ild_typed.specs.Hamt.{alone}
use Rattle.ild_typed.specs.Holder.{Holder, value_of}
use Rattle.ild_typed.specs.OfType.{TestsKeys}
use Rattle.ild_typed.specs.Represented.{represented}
use Rattle.ild_typed.specs.Schema.{IsSchema}
use Rattle.ild_typed.specs.Segment.{part}
use Rattle.ild_path_holder.specs.Along.{AreRepresented, LeadAlong, become, holder_at}
use Rattle.ild_path_holder.specs.Edits.{EditsAreSeen, IsSeen}
use Rattle.ild_path_holder.proofs.Carrying.{along}
use Rattle.ild_path_holder.proofs.Edits.{Keeps, all_represented, delete_keeps, insert_keeps, set_keeps}

module _ (rows : List Row) (f : Holder → List ℕ → Holder) where
  pub become_there : (p : InSlot) (s : List ℕ) (ss : List (List ℕ)) (steps : List PartSteps) (u : Data) → LeadAlong rows p s ss steps → AreRepresented rows f p s ss → represented alone rows p.0 (changed_in rows f p s ss) ≡ Some u
      → AreThere steps (become rows f p s ss)
  become_there p s [] [] u h made new = tt
  become_there p s [] (o ∷ os) u h made new = absurd h
  become_there p s (t ∷ ss) [] u h made new = absurd h
  become_there p s (t ∷ ss) (o ∷ os) u h made new =
      let q = h.0 in
      let next = made q h.1 in
      let rest : AreThere os (become rows f q t ss) = become_there q t ss os next.0.0 h.3 next.1 next.0.1 in
      let behind : AreThere os (option_map_or (λ q. become rows f q t ss) (part (seen rows p) s) []) = subst (λ r. AreThere os (option_map_or (λ q. become rows f q t ss) r [])) (sym h.1) rest in
      subst (λ w. AreThere (o ∷ os) (w ∷ option_map_or (λ q. become rows f q t ss) (part (seen rows p) s) [])) (sym new) behind

  -- and the last of them
  pub last_there : (p q : InSlot) (s : List ℕ) (ss : List (List ℕ)) (l : Holder × List ℕ) (u : Data) → last_holder rows p s ss ≡ Some l → holder_at rows p s ss ≡ Some q → AreRepresented rows f p s ss
      → represented alone rows p.0 (changed_in rows f p s ss) ≡ Some u → (w : Data) × (represented alone rows q.0 (value_of (f (seen rows q) l.1)) ≡ Some w)
  last_there p q s [] l u last at made new =
      let same : q ≡ p = sym (same_Some p q at) in
      let here : l ≡ (seen rows p, s) = sym (same_Some (seen rows p, s) l last) in
      (u, (λ i. represented alone rows (same i).0 (value_of (f (seen rows (same i)) (here i).1))) ∙ new)
  last_there p q s (t ∷ ss) l u last at made new =
      let x = chain_some (λ r. holder_at rows r t ss) (part (seen rows p) s) q at in
      let next = made x.0 x.1 in
      last_there x.0 q t ss l next.0.0 (sym (ap (option_and_then (λ r. last_holder rows r t ss)) x.1) ∙ last) x.2 next.1 next.0.1

module _ (rows : List Row) (is_key : ℕ → List ℕ → Bool) (schema : IsSchema rows) (keys : TestsKeys rows is_key) where
  seen_by : (e : LastEdit) (May : Holder × List ℕ → Type 0) → Keeps rows e May → IsSeen rows e May
  seen_by e May typed p q s ss l u steps r is last may at lead new where_seen =
      let made = all_represented rows is_key schema keys e.made l (typed l may) s ss p u is last new in
      let there = last_there rows e.made p q s ss l u last at made new in
      along rows e.made (last_seen alone rows e l.1) p q s ss steps lead at made ∙ where_seen there.0 there.1 (become rows e.made p s ss) (become_there rows e.made p s ss steps u lead made new)

pub edits_are_seen : EditsAreSeen
edits_are_seen rows is_key schema keys = (
  λ w. seen_by rows is_key schema keys (setting w) (λ l. MaySet is_key l w rows) (set_keeps rows is_key schema keys w),
  λ w. seen_by rows is_key schema keys (inserting w) (λ l. MayInsert is_key l w rows) (insert_keeps rows is_key schema keys w),
  seen_by rows is_key schema keys deleting MayDelete (delete_keeps rows is_key schema keys),
)
