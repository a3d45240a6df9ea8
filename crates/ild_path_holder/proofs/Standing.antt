-- Steps along a path, in the data of the first holder.
use Rattle.std.proofs.Common.{◌≡◌, ◌≢◌, ℕ, zero, suc, List, [], ◌∷◌, ◌++◌, false, take, Option, Some, None, refl, sym, ◌∙◌, ap}
use Rattle.std.specs.Prelude.{option_and_then}
use Rattle.std.proofs.lemmas.Option.{same_Some, none-some}
use Rattle.ild_splice_changes.proofs.Maps.{put-other}
use Rattle.ild_splice_changes.specs.TreeChange.{TreeStep, child, key, nth, part_at}
use Rattle.ild_data.proofs.Options.{chain_some}
use Rattle.ild_data.specs.Data as T
use Rattle.ild_data.specs.Data.{Data, members_list, members_of}
use Rattle.ild_data.specs.Key.{put, value_at}
use Rattle.ild_data.proofs.Lists.{members_list-members_of}
use Rattle.ild_schema.specs.declared.row.Row.{Row}
use Rattle.ild_path_replaced.specs.Seen.{all_steps, has_whole, tree_steps}
use Rattle.ild_path_steps.specs.Steps.{IsBut, LeadsTo}
use Rattle.ild_path_steps.specs.declared.steps.PartSteps.{PartSteps}
use Rattle.ild_path_steps.specs.declared.steps.PartSteps.TheVariants as P
use Rattle.ild_typed.specs.At.{InSlot}
use Rattle.ild_typed.specs.Hamt.{alone}
use Rattle.ild_typed.specs.Represented.{represented}
use Rattle.ild_typed.specs.Strings.{map_data}
use Rattle.ild_path_holder.specs.Along.{LeadAlong}
use Rattle.ild_path_holder.specs.Standing.{StepsStand}

join_at : (s : TreeStep) (p q : List TreeStep) (t d x : Data) (o : Option Data) → child s t ≡ o → option_and_then (λ e. part_at p e) o ≡ Some d → ((e : Data) → part_at p e ≡ Some d → part_at (p ++ q) e ≡ Some x) → option_and_then (λ e. part_at (p ++ q) e) o ≡ Some x
join_at s p q t d x None is h rest = absurd (none-some d h)
join_at s p q t d x (Some e) is h rest = rest e h

part_of_part : (p q : List TreeStep) (t d x : Data) → part_at p t ≡ Some d → part_at q d ≡ Some x → part_at (p ++ q) t ≡ Some x
part_of_part [] q t d x h g = ap (part_at q) (same_Some t d h) ∙ g
part_of_part (s ∷ p) q t d x h g = join_at s p q t d x (child s t) refl h (λ e k. part_of_part p q e d x k g)

-- what is found beside an entry is found with it
beside_entry : (k name j : List ℕ) (es : List (List ℕ × Data)) (q : List TreeStep) (x : Data) → value_at k es ≡ None → part_at (key j ∷ q) (map_data es) ≡ Some x → part_at (key j ∷ q) (map_data (put k (T.text name) es)) ≡ Some x
beside_entry k name j es q x none h =
    let y = chain_some (λ e. part_at q e) (value_at j (members_list (members_of es))) x h in
    let there : value_at j es ≡ Some y.0 = ap (value_at j) (sym (members_list-members_of es)) ∙ y.1 in
    let apart : k ≢ j = λ p. none-some y.0 (sym none ∙ ap (λ m. value_at m es) p ∙ there) in
    let still : value_at j (members_list (members_of (put k (T.text name) es))) ≡ Some y.0 = ap (value_at j) (members_list-members_of (put k (T.text name) es)) ∙ put-other k j (T.text name) es apart ∙ there in
    ap (option_and_then (λ e. part_at q e)) still ∙ y.2

beside_part : (k : List ℕ) (t d : Data) (q : List TreeStep) (x : Data) → IsBut k t d → part_at q d ≡ Some x → (y : Data) × (part_at q t ≡ Some y)
beside_part k t d [] x h e = (t, refl)
beside_part k t d (nth i ∷ q) x h e = absurd (none-some x (sym (ap (part_at (nth i ∷ q)) h.is) ∙ e))
beside_part k t d (key j ∷ q) x h e = (x, ap (part_at (key j ∷ q)) h.whole ∙ beside_entry k h.name j h.entries q x h.none (sym (ap (part_at (key j ∷ q)) h.is) ∙ e))

one_more : (o : PartSteps) (os : List PartSteps) (t d x : Data) → has_whole (o ∷ os) ≡ false → LeadsTo o t d → part_at (all_steps os) d ≡ Some x → (y : Data) × (part_at (tree_steps o ++ all_steps os) t ≡ Some y)
one_more P.Whole os t d x w h e = absurd cc
one_more P.Same os t d x w h e = (x, ap (part_at (all_steps os)) h ∙ e)
one_more (P.Item i) os t d x w h e = (x, part_of_part (nth i ∷ []) (all_steps os) t d x h e)
one_more (P.Entry k) os t d x w h e = (x, part_of_part (key k.now ∷ []) (all_steps os) t d x h e)
one_more (P.Pair i) os t d x w h e = (x, part_of_part (nth i ∷ nth 1 ∷ []) (all_steps os) t d x h e)
one_more (P.Beside k) os t d x w h e = beside_part k.now t d (all_steps os) x h e

behind : (o : PartSteps) (os : List PartSteps) → has_whole (o ∷ os) ≡ false → has_whole os ≡ false
behind P.Whole os w = absurd cc
behind P.Same os w = w
behind (P.Item i) os w = w
behind (P.Entry k) os w = w
behind (P.Pair i) os w = w
behind (P.Beside k) os w = w

first_some : (rows : List Row) (p : InSlot) (s : List ℕ) (ss : List (List ℕ)) (steps : List PartSteps) (t : Data) (n : ℕ) → LeadAlong rows p s ss steps → represented alone rows p.0 p.1 ≡ Some t → has_whole (take n steps) ≡ false
    → (d : Data) × (part_at (all_steps (take n steps)) t ≡ Some d)
first_some rows p s [] [] t zero h made w = (t, refl)
first_some rows p s [] [] t (suc n) h made w = (t, refl)
first_some rows p s [] (o ∷ os) t n h made w = absurd h
first_some rows p s (u ∷ us) [] t n h made w = absurd h
first_some rows p s (u ∷ us) (o ∷ os) t zero h made w = (t, refl)
first_some rows p s (u ∷ us) (o ∷ os) t (suc n) h made w =
    let more = first_some rows h.0 u us os h.2.held n h.3 h.2.holds (behind o (take n os) w) in
    one_more o (take n os) t h.2.held more.0 w (h.2.leads t made) more.1

all_of : (rows : List Row) (p : InSlot) (s : List ℕ) (ss : List (List ℕ)) (steps : List PartSteps) (t : Data) → LeadAlong rows p s ss steps → represented alone rows p.0 p.1 ≡ Some t → has_whole steps ≡ false → (d : Data) × (part_at (all_steps steps) t ≡ Some d)
all_of rows p s [] [] t h made w = (t, refl)
all_of rows p s [] (o ∷ os) t h made w = absurd h
all_of rows p s (u ∷ us) [] t h made w = absurd h
all_of rows p s (u ∷ us) (o ∷ os) t h made w =
    let more = all_of rows h.0 u us os h.2.held h.3 h.2.holds (behind o os w) in
    one_more o os t h.2.held more.0 w (h.2.leads t made) more.1

pub steps_stand : StepsStand
steps_stand rows p s ss steps t None h made w = all_of rows p s ss steps t h made w
steps_stand rows p s ss steps t (Some n) h made w = first_some rows p s ss steps t n h made w
