-- A change inside a part is a change of the whole.
use Rattle.std.proofs.Common.{◌≡◌, List, [], ◌∷◌, ◌++◌, Option, Some, None, ap}
use Rattle.std.specs.Prelude.{option_and_then}
use Rattle.std.specs.Option.{option_map_or}
use Rattle.std.proofs.lemmas.Option.{same_Some, none-some}
use Rattle.ild_data.specs.Data.{Data}
use Rattle.ild_splice_changes.specs.TreeChange.{TreeStep, TreeChange, replace, child, with_child, part_at, altered, change_here, changed}
use Rattle.ild_splice_changes.specs.Laws.{ChangesNest}

below : (q p : List TreeStep) (s : TreeStep) (c : TreeChange) (t d : Data) (o : Option Data) → option_and_then (λ e. part_at q e) o ≡ Some d
    → ((e : Data) → part_at q e ≡ Some d → changed (q ++ p) c e ≡ changed q (replace (changed p c d)) e)
    → option_map_or (λ e. with_child s (altered (change_here c) (q ++ p) e) t) o t ≡ option_map_or (λ e. with_child s (altered (change_here (replace (changed p c d))) q e) t) o t
below q p s c t d None h rest = absurd (none-some d h)
below q p s c t d (Some e) h rest = ap (λ x. with_child s x t) (rest e h)

pub changes_nest_lem : ChangesNest
changes_nest_lem [] p c t d h = ap (λ x. changed p c x) (same_Some t d h)
changes_nest_lem (s ∷ q) p c t d h = below q p s c t d (child s t) h (λ e g. changes_nest_lem q p c e d g)
