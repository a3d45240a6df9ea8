-- The view of a part from that of the whole, and behind hops.
use Rattle.std.proofs.Common.{◌≡◌, ℕ, suc, List, [], ◌∷◌, Option, Some, None, sym, subst}
use Rattle.std.specs.Option.{option_map_or}
use Rattle.std.specs.Prelude.{Result, Ok, Err, option_and_then}
use Rattle.ild_path_hops.specs.Links.{IsBehind}
use Rattle.ild_path_hops.specs.declared.hop.Hop.{Hop}
use Rattle.ild_path_place.specs.Viewing.{ViewsPart, part_there}
use Rattle.ild_path_place.specs.inside.Shown.{ShowsPart}
use Rattle.ild_path_place.specs.declared.place.End.{End}
use Rattle.ild_path_place.specs.declared.place.End.TheVariants as D
use Rattle.ild_path_place.specs.declared.verb.Verb.{Verb}
use Rattle.ild_schema.specs.Value as V
use Rattle.ild_schema.specs.Value.{Value}
use Rattle.ild_schema.specs.declared.number.Slot.{Slot}
use Rattle.ild_schema.specs.declared.row.Row.{Row}
use Rattle.ild_typed.specs.At.{InSlot, at, or_enter, reached, seen}
use Rattle.ild_typed.specs.Segment.{part}
use Rattle.ild_view.specs.Parts.{HandsOut, IsPartView}
use Rattle.ild_view.specs.Reaches.{Reaches}
use Rattle.ild_view.specs.View.{IsView, slot_of, table_of}
use Rattle.ild_view.specs.declared.step.NoPath.{NoPath}
use Rattle.ild_view.specs.declared.step.Step.{Step}
use Rattle.ild_view.specs.declared.step.Step.TheVariants as S
use Rattle.ild_view.specs.declared.view.View.{View}

-- ---- where a path leads

-- the view of the part to which it leads
abbrev pub view_here : Result Step NoPath → Option View
view_here (Ok (S.Here w)) = Some w
view_here (Ok (S.Enter w n)) = None
view_here (Err e) = None

stops_short : (rows : List Row) (k : ℕ) (slot : Slot) (v : Value) (w : View) → Reaches rows (or_enter k slot v) (Ok (S.Here w)) → ⊥
stops_short rows k slot (V.hamt d) w x = x
stops_short rows k slot V.null w x = x
stops_short rows k slot (V.boolean b) w x = x
stops_short rows k slot (V.integer i) w x = x
stops_short rows k slot (V.text s) w x = x
stops_short rows k slot (V.bytes s) w x = x
stops_short rows k slot (V.link s) w x = x
stops_short rows k slot (V.list vs) w x = x
stops_short rows k slot (V.map ps) w x = x
stops_short rows k slot (V.struct os) w x = x
stops_short rows k slot (V.union i v) w x = x
stops_short rows k slot (V.enum i) w x = x
stops_short rows k slot V.unit w x = x
stops_short rows k slot (V.any d) w x = x

none_here : (rows : List Row) (k : ℕ) (slot : Slot) (v : Value) (r : Result Step NoPath) → Reaches rows (or_enter k slot v) r → HandsOut rows None (view_here r)
none_here rows k slot v (Ok (S.Here w)) x = stops_short rows k slot v w x
none_here rows k slot v (Ok (S.Enter w n)) x = tt
none_here rows k slot v (Err e) x = tt

next_here : (rows : List Row) (k : ℕ) (p : InSlot) (ss : List (List ℕ)) (o : Option InSlot) (r : Result Step NoPath) → ((q : InSlot) → Reaches rows (reached rows (suc k) q ss) r → HandsOut rows (at rows q ss) (view_here r))
    → Reaches rows (option_map_or (λ q. reached rows (suc k) q ss) o (or_enter k p.0 p.1)) r → HandsOut rows (option_and_then (λ q. at rows q ss) o) (view_here r)
next_here rows k p ss (Some q) r further x = further q x
next_here rows k p ss None r further x = none_here rows k p.0 p.1 r x

part_here : (rows : List Row) (k : ℕ) (p : InSlot) (path : List (List ℕ)) (r : Result Step NoPath) → Reaches rows (reached rows k p path) r → HandsOut rows (at rows p path) (view_here r)
part_here rows k p [] (Ok (S.Here w)) x = x
part_here rows k p [] (Ok (S.Enter w n)) x = absurd x
part_here rows k p [] (Err e) x = absurd x
part_here rows k p (s ∷ ss) r x = next_here rows k p ss (part (seen rows p) s) r (λ q. part_here rows (suc k) q ss r) x

pub part_told : (view : View) (path : List (List ℕ)) (r : Result Step NoPath) (o : Option View) → ((f : Value) → IsView view f → Reaches (table_of view) (reached (table_of view) 0 (slot_of view, f) path) r) → view_here r ≡ o
    → ShowsPart view (λ rows p. at rows p path) o
part_told view path r o all here = λ f is. subst (HandsOut (table_of view) (at (table_of view) (slot_of view, f) path)) here (part_here (table_of view) 0 (slot_of view, f) path r (all f is))

-- ---- behind hops

-- what a view of a part shows of each front for which it stands
pub shown_behind : (Holds : List Row → InSlot → Type 0) (root : View) (hops : List Hop) (w : View) → IsBehind (λ rows p. IsPartView rows p w) root hops → ((f : Value) → IsView w f → Holds (table_of w) (slot_of w, f)) → IsBehind Holds root hops
shown_behind Holds root hops w x all =
    let from : (rows : List Row) (p : InSlot) → IsPartView rows p w → Holds rows p = λ rows p v. subst (λ (s : Slot). Holds rows (s, p.1)) v.slot (subst (λ (r : List Row). Holds r (slot_of w, p.1)) v.table (all p.1 v.view)) in
    record { top = λ none f is. from _ _ (x.top none f is); inner = λ before last e f room fits. from _ _ (x.inner before last e f room fits) }

pub part_behind : (root : View) (hops : List Hop) (verb : Verb) (path : List (List ℕ)) (end : End) → end ≡ D.InBlock path → (w : View) → IsBehind (λ rows p. IsPartView rows p w) root hops → (result : Option View)
    → ShowsPart w (λ rows p. part_there verb rows p path) result → ViewsPart root hops verb end result
part_behind root hops verb path end is w x result all =
    subst (λ (e : End). ViewsPart root hops verb e result) (sym is) (shown_behind (λ rows p. HandsOut rows (part_there verb rows p path) result) root hops w x all)
