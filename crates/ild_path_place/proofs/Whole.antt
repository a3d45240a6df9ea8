-- The place of the whole.
use Rattle.std.proofs.Common.{◌≡◌, ℕ, List, [], ◌∷◌, ◌++◌, Some, Result, Ok, Err, refl, ap, sym, ◌∙◌, subst, arith}
use Rattle.ild_edges.specs.Store.{Moment}
use Rattle.ild_path_inward.specs.Inwards.{through}
use Rattle.ild_path_place.specs.Places.{EndsAt, LocateAnswer, Locates, LocatesWhole}
use Rattle.ild_path_place.specs.declared.fault.PathFault.{PathFault}
use Rattle.ild_path_place.specs.declared.place.End.TheVariants as D
use Rattle.ild_path_place.specs.declared.place.Place.{Place}
use Rattle.ild_path_place.specs.declared.verb.Verb.{Verb}
use Rattle.ild_path_place.specs.declared.verb.Verb.TheVariants as V
use Rattle.ild_path_hops.specs.Hops.{AreHops}
use Rattle.ild_path_hops.specs.declared.hop.Hop.{Hop}
use Rattle.ild_schema.specs.declared.number.Slot.{Slot}
use Rattle.ild_schema.specs.declared.row.Row.{Row}
use Rattle.ild_typed.specs.At.{InSlot}

module _ (h : List ℕ → List ℕ) (rows : List Row) (was : List (List ℕ)) (p : InSlot) (m : Moment) where
  own : (place : Place) → place.hops.items ≡ [] → place.end ≡ D.Whole → (hops : AreHops h rows was 96 p place.hops.items p 96) × ([] ≡ through place.hops.items) × EndsAt h rows was 96 p [] place.end
  own place a b = (
    subst (λ gs. AreHops h rows was 96 p gs p 96) (sym a) (refl, refl),
    sym (ap (λ (gs : List Hop). through gs) a),
    subst (EndsAt h rows was 96 p []) (sym b) refl,
  )

  answer : (slot : Slot) → slot ≡ p.0 → (verb : Verb) (r : Result Place PathFault) → LocatesWhole slot verb r → LocateAnswer h rows was p [] verb m r m
  answer slot s V.Set (Ok place) x =
      let o = own place x.1 x.2 in
      record { verb_is = x.0; allowed = refl; may_go = λ k. k; inner = p; less = 96; hops_are = o.0; rest = []; split = o.1 ∙ nil (through place.hops.items); ends = o.2; top = λ end. x.1; slot_is = ap (λ (z : Slot). Some z) (sym (x.3 ∙ s)); key = λ is_key tests. x.4; room_is = x.5; hole_is = x.6 }
    where
      nil : (xs : List (List ℕ)) → xs ≡ xs ++ []
      nil [] = refl
      nil (x ∷ xs) = ap (λ ys. x ∷ ys) (nil xs)
  answer slot s V.Ins (Err e) x = subst (λ (z : PathFault). LocateAnswer h rows was p [] V.Ins m (Err z) m) (sym x) refl
  answer slot s V.Del (Err e) x = subst (λ (z : PathFault). LocateAnswer h rows was p [] V.Del m (Err z) m) (sym x) (λ is_key. refl)
  answer slot s V.Set (Err e) x = absurd x
  answer slot s V.Ins (Ok place) x = absurd x
  answer slot s V.Del (Ok place) x = absurd x

  pub locates_whole : (slot : Slot) → slot ≡ p.0 → (verb : Verb) (r : Result Place PathFault) → LocatesWhole slot verb r → Locates h rows was p [] verb m r m
  locates_whole slot s verb r x = record { answer = answer slot s verb r x; gets = omega arith }
