-- What the steps along a path do is the change that is lifted through the holders.
use Rattle.std.proofs.Common.{◌≡◌, ℕ, List, [], ◌∷◌, Some, sym, ◌∙◌, ap}
use Rattle.std.specs.Prelude.{option_and_then}
use Rattle.std.specs.Option.{option_map_or}
use Rattle.std.proofs.lemmas.Option.{same_Some}
use Rattle.ild_splice_changes.specs.TreeChange.{Located, unchanged}
use Rattle.ild_data.specs.Data.{Data}
use Rattle.ild_path_changes.specs.Lift.{lift, lifted}
use Rattle.ild_schema.specs.declared.row.Row.{Row}
use Rattle.ild_path_steps.specs.Steps.{carried, carried_along}
use Rattle.ild_path_steps.specs.declared.steps.PartSteps.{PartSteps}
use Rattle.ild_typed.specs.At.{InSlot, changed_in, seen}
use Rattle.ild_typed.specs.Hamt.{alone}
use Rattle.ild_typed.specs.Holder.{Holder, value_of}
use Rattle.ild_typed.specs.Represented.{represented}
use Rattle.ild_typed.specs.Segment.{part, set_part}
use Rattle.ild_path_holder.specs.Along.{AlongIsLifted, AreRepresented, LeadAlong, StepsIn, become, holder_at}

module _ (rows : List Row) (f : Holder → List ℕ → Holder) (last : InSlot → Located) where
  step : (p l q : InSlot) (s t : List ℕ) (ss : List (List ℕ)) (o : PartSteps) (os : List PartSteps) → part (seen rows p) s ≡ Some q → StepsIn rows p s q o → (x : Data) → represented alone rows q.0 (changed_in rows f q t ss) ≡ Some x
      → lifted rows (lift alone rows) f last q t ss ≡ carried_along os (become rows f q t ss) (last l)
      → lifted rows (lift alone rows) f last p s (t ∷ ss) ≡ carried_along (o ∷ os) (become rows f p s (t ∷ ss)) (last l)
  step p l q s t ss o os e steps x is rest =
      let c = changed_in rows f q t ss in
      ap (λ r. option_map_or (λ q. lift alone rows p s (changed_in rows f q t ss) (lifted rows (lift alone rows) f last q t ss)) r unchanged) e
      ∙ ap (lift alone rows p s c) rest
      ∙ steps.each c x (carried_along os (become rows f q t ss) (last l)) is
      ∙ (λ i. carried o (represented alone rows p.0 (option_map_or (λ q. value_of (set_part (seen rows p) s (changed_in rows f q t ss))) (sym e i) p.1)) (carried_along os (option_map_or (λ q. become rows f q t ss) (sym e i) []) (last l)))

  pub along : (p l : InSlot) (s : List ℕ) (ss : List (List ℕ)) (steps : List PartSteps) → LeadAlong rows p s ss steps → holder_at rows p s ss ≡ Some l → AreRepresented rows f p s ss
      → lifted rows (lift alone rows) f last p s ss ≡ carried_along steps (become rows f p s ss) (last l)
  along p l s [] [] h at made = ap last (same_Some p l at)
  along p l s [] (o ∷ os) h at made = absurd h
  along p l s (t ∷ ss) [] h at made = absurd h
  along p l s (t ∷ ss) (o ∷ os) h at made =
      let q = h.0 in
      let next = made q h.1 in
      step p l q s t ss o os h.1 h.2 next.0.0 next.0.1 (along q l t ss os h.3 (sym (ap (option_and_then (λ q. holder_at rows q t ss)) h.1) ∙ at) next.1)

pub along_is_lifted : AlongIsLifted
along_is_lifted rows f last p l s ss steps h at made = along rows f last p l s ss steps h at made
