-- Where a path stops, as the way inward tells it.
use Rattle.std.proofs.Common.{◌≡◌, ℕ, zero, suc, ◌+◌, ◌-◌, ◌<◌, true, List, [], ◌∷◌, length, take, drop, Option, Some, None, option_map, IfSome, Ok, Err, refl, sym, ap, ◌∙◌, subst, arith}
use Rattle.std.proofs.lemmas.List.{length-drop, take_rest}
use Rattle.std.proofs.lemmas.Option.{none-some, same_Some}
use Rattle.ild_data.specs.Data.{Data}
use Rattle.ild_data.specs.declared.id.BlockId.{BlockId}
use Rattle.ild_edges.specs.Store.{Moment}
use Rattle.ild_links.specs.Stops.{IsPlaced, link_of}
use Rattle.ild_links.specs.declared.hop.Stop.{Stop}
use Rattle.ild_links.specs.declared.hop.Stop.TheVariants as S
use Rattle.ild_node_slots.specs.declared.fault.HamtFault.{HamtFault}
use Rattle.ild_node_slots.specs.declared.fault.HamtFault.TheVariants as H
use Rattle.ild_path_edits.specs.Stop as Stopping
use Rattle.ild_path_enter.specs.Enters.{FailsOnly as FailsInward}
use Rattle.ild_path_inward.proofs.Inwarding.{can_go_on}
use Rattle.ild_path_inward.specs.Inwards.{CanGoOn, GoesInward}
use Rattle.ild_path_inward.specs.Levels.{CanGo}
use Rattle.ild_path_inward.specs.declared.inward.Inward.{Inward}
use Rattle.ild_run_links.specs.Links.{link_to}
use Rattle.ild_run_links.specs.inside.Ends.{FailsOnly, StopsInward, StopsThere, link_unless, named}
use Rattle.ild_run_links.specs.inside.Faults.{hamt_fault}
use Rattle.ild_schema.specs.declared.number.TypeNo.{TypeNo}
use Rattle.ild_schema.specs.declared.row.Row.{Row}
use Rattle.ild_typed.specs.At.{InSlot, at}
use Rattle.ild_typed_fronts.specs.Front.{in_one_block}
use Rattle.ild_view.specs.View.{table_of}
use Rattle.ild_view.specs.declared.view.View.{View}

-- ---- numbers of segments

pub many_left : (xs : List (List ℕ)) (from : ℕ) → from < length xs → length xs ≡ from + length (take (length xs - from) (drop from xs))
many_left xs from lt = let e = ap length (take_rest xs from) in let l = length-drop from xs in omega (arith, e, l, lt)

pub some_left : (xs : List (List ℕ)) → (length xs ≡ 0 → ⊥) → xs ≡ [] → ⊥
some_left xs some is = some (ap length is)

more_than_none : (n : ℕ) → (n ≡ 0 → ⊥) → 0 < n
more_than_none zero some = absurd (some refl)
more_than_none (suc n) some = omega arith

-- a stop at a link of this type, or at none
pub placed_by : (types : ℕ) (path : List (List ℕ)) (from count left upto : ℕ) (l : Option (TypeNo × BlockId)) (s : Stop) → link_of s ≡ option_map named l → IfSome l (λ x. x.0.0 < types)
    → length path ≡ from + count → 0 < count → (left ≡ 0 → ⊥) → upto ≡ count - left → IsPlaced types path from s (from + upto)
placed_by types path from count left upto l S.End is within many some more e = (omega arith, λ le. omega (arith, many, e))
placed_by types path from count left upto None (S.Link u j) is within many some more e = absurd (none-some (u, j.0) (sym is))
placed_by types path from count left upto (Some x) (S.Link u j) is within many some more e =
    let above = more_than_none left more in
    let same : (u, j.0) ≡ named x = same_Some (u, j.0) (named x) is in
    (omega arith, omega (arith, many, e, above, some), subst (λ (k : TypeNo). k.0 < types) (ap (λ (y : TypeNo × List ℕ). y.0) (sym same)) within)

-- ---- the fault

pub fails_as : (A : Type 0) (m k : Moment) (e : HamtFault) → FailsInward {A = Inward} m (Err e) k → FailsOnly {A = A} m (Err (hamt_fault e)) k
fails_as A m k H.Store a = a
fails_as A m k H.Memory a = tt
fails_as A m k (H.Block id why) a = tt
fails_as A m k H.Exhausted a = absurd a
fails_as A m k H.NoKey a = absurd a
fails_as A m k H.Size a = absurd a
fails_as A m k (H.Clash id kept new) a = absurd a

-- ---- the value

module _ (h : List ℕ → List ℕ) (rows : List Row) (was : List (List ℕ)) (p : InSlot) (d : Data) (root : View) (x : CanGo h rows was 96 p d root) (path : List (List ℕ)) (from : ℕ) (m k : Moment) where
  pub ends_err : (e : HamtFault) → GoesInward h rows was 96 p [] p path m (Err e) k → StopsThere h rows p path from m (Err (hamt_fault e)) k
  ends_err H.Store a = record { answer = a.0; gets = a.1 }
  ends_err H.Memory a = record { answer = tt; gets = a }
  ends_err (H.Block id why) a = absurd a
  ends_err H.Exhausted a = absurd a
  ends_err H.NoKey a = absurd a
  ends_err H.Size a = absurd a
  ends_err (H.Clash id kept new) a = absurd a

  link_by : (left : List (List ℕ)) (s : Stop) (holder : InSlot) → (left ≡ [] → s ≡ S.End) → ((left ≡ [] → ⊥) → link_of s ≡ link_to rows holder) → link_of s ≡ link_unless left rows holder
  link_by [] s holder ended there = ap link_of (ended refl)
  link_by (y ∷ ys) s holder ended there = there (λ is. cc is)

  pub ends_ok : (r : Inward) → GoesInward h rows was 96 p [] p path m (Ok r) k → table_of root ≡ rows → (s : Stop) (upto : ℕ) → StopsInward root r from (length path) s upto → StopsThere h rows p path from m (Ok (s, upto)) k
  ends_ok r a table s upto e =
      let i = a.0 in
      let on = can_go_on h rows was r.hops.items 96 p i.inner i.less d root x i.hops_are in
      let there : (r.left.now ≡ [] → ⊥) → link_of s ≡ link_to rows i.holder = λ some. subst (λ t. link_of s ≡ link_to t i.holder) table
      (e.link h was i.less i.inner i.holder on.0 (subst (λ t. CanGoOn h t was i.less i.inner on.0 root r.hops.items) (sym table) on.1) (subst (λ t. in_one_block t i.inner r.front ≡ true) (sym table) i.inside)
      (subst (λ t. at t i.inner r.front ≡ Some i.holder) (sym table) i.there) some) in
      record {
        answer = record {
          link = link_by r.left.now s i.holder e.ended there ∙ sym (ap (λ (z : Stopping.Stop). link_unless z.left rows z.part) i.stops);
          place = e.place ∙ ap (λ (z : Stopping.Stop). from + (length path - length z.left)) (sym i.stops);
        };
        gets = a.1;
      }
