-- The part at the end of a path, in the innermost block.
use Rattle.std.proofs.Common.{◌≡◌, ℕ, Bool, true, false, List, [], ◌∷◌, Option, Some, None, option_map, refl, sym, ap, ◌∙◌, subst}
use Rattle.std.proofs.lemmas.Option.{none-some, same_Some}
use Rattle.ild_data.specs.Data.{Data}
use Rattle.ild_path_edits.proofs.RoomTests.{schemas_have_tests}
use Rattle.ild_path_edits.proofs.Stops.{stops_tell}
use Rattle.ild_path_edits.specs.Stop.{Stop, part_along, stopped}
use Rattle.ild_path_inward.specs.Levels.{CanGo}
use Rattle.ild_run_links.specs.Links.{link_in, link_to}
use Rattle.ild_schema.specs.Slots.{form_of}
use Rattle.ild_schema.specs.Value as V
use Rattle.ild_schema.specs.Value.{Value}
use Rattle.ild_schema.specs.declared.number.Slot.{Slot}
use Rattle.ild_schema.specs.declared.number.TypeNo.{TypeNo}
use Rattle.ild_schema.specs.declared.row.Row.{Row}
use Rattle.ild_typed.specs.At.{InSlot, at}
use Rattle.ild_typed_fronts.proofs.Pathing.{paths_of_fronts}
use Rattle.ild_typed_fronts.specs.Front.{front as front_of, front_in, in_one_block, root_or_map, is_hamt}
use Rattle.ild_typed.specs.Hamt.{whole}
use Rattle.ild_typed.specs.Represented.{represented}
use Rattle.ild_view.specs.View.{IsView, slot_of, table_of}
use Rattle.ild_view.specs.declared.view.View.{View}
use Rattle.ild_schema.specs.Value.{Pairs}

-- a path that leads to a part stops there
stops_at : (x : Stop) (q : InSlot) → part_along x.part x.left ≡ Some q → x.part ≡ q
stops_at x q e = by x.part x.left e where
  by : (p : InSlot) (left : List (List ℕ)) → part_along p left ≡ Some q → p ≡ q
  by p [] e = same_Some p q e
  by p (s ∷ ss) e = absurd (none-some q e)

no_map : (rows : List Row) (s : Slot) (b : Bool) (o : Option Data) (ps : Pairs) → link_in rows s (root_or_map b o ps) ≡ None
no_map rows s true None ps = refl
no_map rows s true (Some t) ps = refl
no_map rows s false o ps = refl

-- a front is a link where its value is, the same
pub front_link : (h : List ℕ → List ℕ) (rows : List Row) (s : Slot) (v : Value) → link_in rows s (front_of h rows s v) ≡ link_in rows s v
front_link h rows s V.null = refl
front_link h rows s (V.boolean b) = refl
front_link h rows s (V.integer n) = refl
front_link h rows s (V.text t) = refl
front_link h rows s (V.bytes t) = refl
front_link h rows s (V.link t) = refl
front_link h rows s (V.list vs) = refl
front_link h rows s (V.map ps) = no_map rows s (is_hamt (form_of rows s)) (represented (whole h) rows s (V.map ps)) _
front_link h rows s (V.struct os) = refl
front_link h rows s (V.union n v) = refl
front_link h rows s (V.enum n) = refl
front_link h rows s V.unit = refl
front_link h rows s (V.any d) = refl
front_link h rows s (V.hamt d) = refl

-- the link at the end of a path in the block of a view, as the view of the value's front shows it
pub link_there : (h : List ℕ → List ℕ) (rows : List Row) (was : List (List ℕ)) (limit : ℕ) (q holder : InSlot) (d : Data) (view : View) (x : CanGo h rows was limit q d view) (front : List (List ℕ)) (shown : Option (TypeNo × List ℕ))
    → in_one_block rows q front ≡ true → at rows q front ≡ Some holder
    → ((f : Value) → IsView view f → shown ≡ link_to (table_of view) (stopped (table_of view) (slot_of view, f) front).part) → shown ≡ link_to rows holder
link_there h rows was limit q holder d view x front shown inside there all =
    let tests = schemas_have_tests rows x.schema in
    let lands : at rows (front_in h rows q) front ≡ Some (front_in h rows holder) =
    paths_of_fronts h rows tests.0.is_key x.schema tests.1.keys q front (limit, x.held.fits) inside ∙ ap (option_map (front_in h rows)) there in
    let stop : (stopped rows (front_in h rows q) front).part ≡ front_in h rows holder = stops_at (stopped rows (front_in h rows q) front) (front_in h rows holder) (sym (stops_tell rows 0 (front_in h rows q) front).0 ∙ lands) in
    let f = front_of h rows q.0 q.1 in
    let own : shown ≡ link_to rows (stopped rows (front_in h rows q) front).part =
    subst (λ (s : Slot). shown ≡ link_to rows (stopped rows (s, f) front).part) x.stands.slot
    (subst (λ r. shown ≡ link_to r (stopped r (slot_of view, f) front).part) x.stands.table (all f x.stands.view)) in
    own ∙ ap (link_to rows) stop ∙ front_link h rows holder.0 holder.1
