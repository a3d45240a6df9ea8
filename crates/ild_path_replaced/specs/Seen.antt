-- Where the change of a last holder is seen in the data of the first, by the steps to it.
use Rattle.std.specs.Prelude.{◌≡◌, ℕ, Bool, true, false, not, List, [], ◌∷◌, ◌++◌, Option, Some, None, option_and_then, slice_get, take}
use Rattle.ild_splice_changes.specs.TreeChange.{TreeStep, nth, key, Located, unchanged, one, replace, insert_item, insert_entry, remove_item, remove_entry}
use Rattle.ild_data.specs.Data.{Data}
use Rattle.ild_data.specs.Key.{same_text}
use Rattle.ild_path_changes.specs.Lift.{lift_within, whole}
use Rattle.ild_path_steps.specs.Steps.{carried}
use Rattle.ild_path_steps.specs.declared.steps.PartSteps.{PartSteps}
use Rattle.ild_path_steps.specs.declared.steps.PartSteps.TheVariants as P
use Rattle.ild_path_replaced.specs.declared.touch.Touch.{Touch}
use Rattle.ild_path_replaced.specs.declared.touch.Touch.TheVariants as C

-- what a change is at the top of the item in which it is made
pub data Top : Type 0 where
  nothing : Top
  all_of_it : Top
  an_item : Top
  an_entry : List ℕ → Top

abbrev pub top_of : Located → Top
top_of unchanged = nothing
top_of (one [] (replace d)) = all_of_it
top_of (one [] (insert_item i d)) = an_item
top_of (one [] (insert_entry j d)) = an_entry j
top_of (one [] (remove_item i)) = an_item
top_of (one [] (remove_entry j)) = an_entry j
top_of (one (nth i ∷ q) c) = an_item
top_of (one (key j ∷ q) c) = an_entry j

abbrev pub touched : Touch → Top
touched C.Nothing = nothing
touched C.Whole = all_of_it
touched C.Item = an_item
touched (C.Entry k) = an_entry k.now

-- the entry at the key, and the map as a whole, stays
abbrev pub beside : List ℕ → Top → Bool
beside k nothing = true
beside k all_of_it = false
beside k an_item = true
beside k (an_entry j) = not (same_text j k)

-- what is seen above, where something changes
abbrev pub within : Top → Top → Top
within nothing above = nothing
within all_of_it above = above
within an_item above = above
within (an_entry j) above = above

-- ---- steps in a tree

abbrev pub tree_steps : PartSteps → List TreeStep
tree_steps P.Whole = []
tree_steps P.Same = []
tree_steps (P.Item i) = nth i ∷ []
tree_steps (P.Entry k) = key k.now ∷ []
tree_steps (P.Pair i) = nth i ∷ nth 1 ∷ []
tree_steps (P.Beside k) = []

abbrev pub all_steps : List PartSteps → List TreeStep
all_steps [] = []
all_steps (o ∷ os) = tree_steps o ++ all_steps os

-- the change of the part is seen within the holder, or the holder is replaced
abbrev pub Carries : PartSteps → Option Data → Located → Option Touch → Type 0
Carries o w e None = carried o w e ≡ whole w
Carries o w e (Some above) = (carried o w e ≡ lift_within (tree_steps o) e) × (top_of (carried o w e) ≡ touched above)

-- ---- along a path

-- one of these holders is replaced whatever changes in it
abbrev pub has_whole : List PartSteps → Bool
has_whole [] = false
has_whole (P.Whole ∷ os) = true
has_whole (P.Same ∷ os) = has_whole os
has_whole (P.Item i ∷ os) = has_whole os
has_whole (P.Entry k ∷ os) = has_whole os
has_whole (P.Pair i ∷ os) = has_whole os
has_whole (P.Beside k ∷ os) = has_whole os

-- the steps to the holder that is replaced, or all
abbrev pub steps_before : List PartSteps → Option ℕ → List PartSteps
steps_before os None = os
steps_before os (Some k) = take k os

-- each holder becomes what has data
abbrev pub AreThere : List PartSteps → List (Option Data) → Type 0
AreThere [] [] = Unit {0}
AreThere [] (w ∷ ws) = ⊥
AreThere (o ∷ os) [] = ⊥
AreThere (o ∷ os) (None ∷ ws) = ⊥
AreThere (o ∷ os) (Some d ∷ ws) = AreThere os ws

-- in the item to which all steps lead, or as the holder with a number that is replaced
abbrev pub seen_at : List PartSteps → List (Option Data) → Located → Option ℕ → Located
seen_at os ws e None = lift_within (all_steps os) e
seen_at os ws e (Some k) = lift_within (all_steps (take k os)) (whole (option_and_then (λ w. w) (slice_get ws k)))
