-- The steps in a view: to a part of its item, and along a path from it.
use Rattle.std.specs.Prelude.{◌≡◌, ◌∷◌, ℕ, true, false, List, Option, Some, Result, IfOk, IsSomeAnd}
use Rattle.std.specs.Global.{Vec}
use Rattle.std.specs.declared.alloc.AllocError.{AllocError}
use Rattle.ild_data.specs.Data.{Data}
use Rattle.ild_schema.specs.Slots.{form_of}
use Rattle.ild_schema.specs.Value.{Value}
use Rattle.ild_path_steps.specs.Steps.{FoundLead, StepsTo, is_left_out}
use Rattle.ild_path_steps.specs.declared.steps.PartSteps.{PartSteps}
use Rattle.ild_typed.specs.At.{InSlot, seen}
use Rattle.ild_typed.specs.Hamt.{alone}
use Rattle.ild_typed.specs.Represented.{represented}
use Rattle.ild_typed.specs.Segment.{part}
use Rattle.ild_view.specs.View.{IsView, slot_of, table_of}
use Rattle.ild_view.specs.declared.view.View.{View}
use Rattle.ild_path_holder.specs.Along.{LeadAlong, holder_at, is_holder}
use Rattle.ild_path_holder.specs.Holders.{IsLast}
use Rattle.ild_path_holder.specs.declared.along.LastHolder.{LastHolder}

-- the segment leads from the value f of a view to the part q, with data which a block does not leave out
abbrev pub EachPart : (v : View) → List ℕ → ((f : Value) → InSlot → Data → IsView v f → Type 0) → Type 0
EachPart v s P =
    (f : Value) (q : InSlot) (d : Data) (view_is : IsView v f) → part (seen (table_of v) (slot_of v, f)) s ≡ Some q → represented alone (table_of v) q.0 q.1 ≡ Some d
    → is_left_out (form_of (table_of v) (slot_of v)) s d ≡ false → P f q d view_is

-- the steps to it are found, and each change is seen as they say
abbrev pub LiftsPart : View → List ℕ → Option PartSteps → Type 0
LiftsPart v s result = EachPart v s (λ f q d view_is. IsSomeAnd result (StepsTo (table_of v) (slot_of v, f) s q))

-- they lead from the data of the view's item to those of the part
abbrev pub LeadsPart : View → List ℕ → Option PartSteps → Type 0
LeadsPart v s result = EachPart v s (λ f q d view_is. FoundLead result view_is.tree d)

-- whatever value f a view shows, and whatever holder l is the last of a path s, ss in it
abbrev pub EachHolder : View → List (List ℕ) → (Value → InSlot → List ℕ → List (List ℕ) → Type 0) → Type 0
EachHolder root path P =
    (f : Value) (s : List ℕ) (ss : List (List ℕ)) (l : InSlot) → IsView root f → path ≡ s ∷ ss → holder_at (table_of root) (slot_of root, f) s ss ≡ Some l
    → is_holder (seen (table_of root) l) ≡ true → P f l s ss

-- it is found, with the steps to it
abbrev pub FindsLast : View → List (List ℕ) → Result (Option LastHolder) AllocError → Type 0
FindsLast root path result = EachHolder root path (λ f l s ss. IfOk result (λ r. IsSomeAnd r (IsLast (table_of root) (slot_of root, f) l s ss)))

-- the steps to it are
abbrev pub FindsSteps : View → List (List ℕ) → Result (Option (Vec PartSteps)) AllocError → Type 0
FindsSteps root path result = EachHolder root path (λ f l s ss. IfOk result (λ r. IsSomeAnd r (λ steps. LeadAlong (table_of root) (slot_of root, f) s ss steps.items)))
