-- The offset that is told of a refusal.
use Rattle.std.proofs.Common.{◌≡◌, ℕ, ◌+◌, ◌-◌, ◌^◌, ◌≤◌, ◌<◌, ◌&&◌, min, List, [], ◌++◌, length, Bool, true, false, cond, not, Some, Err, refl, sym, ◌∙◌, ap, subst, arith}
use Rattle.ild_data.specs.Data.{Data}
use Rattle.ild_data.specs.Spell.{spell}
use Rattle.ild_data.specs.Limits.{longest_block}
use Rattle.ild_data.specs.Tree.{IsTree}
use Rattle.ild_cbor.specs.Nodes.{HasData, start_of}
use Rattle.ild_cbor.specs.declared.node.Node.{Node}
use Rattle.ild_cbor.specs.declared.piece.Piece.{Piece}
use Rattle.ild_cbor.specs.declared.piece.Piece.TheVariants as P
use Rattle.ild_cbor.specs.declared.why.Why.{Why}
use Rattle.ild_cbor.specs.declared.why.Why.TheVariants as Y
use Rattle.ild_layer_piece.specs.Answers.{told}
use Rattle.ild_layer_piece.specs.Pieces.{StandsFor}
use Rattle.ild_layer_places.specs.Places.{BeginsAt, LeadsIn, PlacedAt, steps_of}
use Rattle.ild_layer_places.specs.declared.way.Way.{Way}
use Rattle.ild_layer_places.specs.Refusing.{IsInside, IsPartPlaced, IsPassing}
use Rattle.ild_layer_places.proofs.Composing.{placed_short}
use Rattle.ild_layer_places.proofs.Placing.{length_both}
use Rattle.ild_layer_places.proofs.Refusing.{refusals_are_placed}
use Rattle.ild_schema.proofs.Legibly.{legible}
use Rattle.ild_schema.specs.declared.number.Slot.{Slot}
use Rattle.ild_schema.specs.declared.number.TypeNo.{TypeNo}
use Rattle.ild_schema.specs.declared.row.Row.{Row}
use Rattle.ild_typed.specs.Pieces.{is_null_there}
use Rattle.ild_typed.specs.Refused.{Refusal, Refused, key_refusal, part_refusal}
use Rattle.ild_typed.specs.Schema.{IsSchema}
use Rattle.ild_typed.specs.Spots.{Spot, Step}
use Rattle.ild_typed.proofs.WalkOne.{refused_one}
use Rattle.ild_typed.proofs.Leading.{ways_lead}
use Rattle.ild_view_walk.specs.declared.fault.ViewErr.{ViewErr}
use Rattle.ild_view_walk.specs.declared.fault.ViewErr.TheVariants as E
use Rattle.ild_view_walk.specs.declared.opening.Stop.TheVariants as S
use Rattle.ild_layer_parts.specs.declared.part.Part.{Part}
use Rattle.ild_layer_parts.specs.declared.parts.Parts.{Parts}
use Rattle.ild_view_walk.specs.Checks.{Checks, Faults, is_depth}
use Rattle.ild_layer_parts.specs.PassedOver.{IsPieceOf}
use Rattle.ild_view_walk.specs.inside.Opens.{IsStopped}
use Rattle.ild_layer_parts.specs.Part.{IsSpotted}
use Rattle.ild_layer_parts.specs.Parts.{HasLeft, LeadsOn, SplitsOff}
use Rattle.ild_layer_parts.specs.Ready.{IsInlined}
use Rattle.ild_view_walk.specs.Told.{IsPlacedBy, TellsPlace, TellsPlaceIn}
use Rattle.ild_layer_parts.specs.Ways.{LeadsWay}
use Rattle.ild_view_walk.proofs.Inside.{part_inside, type_passing}
use Rattle.ild_view_walk.proofs.Walking.{Walking, at_part, part_refused, part_tree, split, why_refused}

one : (rows : List Row) → IsSchema rows → (room : ℕ) (s : Slot) (t : Data) (q r : Refusal) → Refused rows room s t q → Refused rows room s t r → q ≡ r
one rows schema room s t q r h k = refused_one rows (legible rows schema.accepted).clear (legible rows schema.accepted).delims room 0 s t q r h k

-- ---- the refusal of a piece by itself

begins : (y : Piece) → PlacedAt y [] 0
begins (P.Node n) = λ w stands. (w, refl)
begins (P.Inline n u) = λ w stands. (w, refl)
begins (P.Text s) = (refl, refl)
begins (P.Bytes s) = (refl, refl)

pub stopped_place : (rows : List Row) → IsSchema rows → (room : ℕ) (s : Slot) (t : Data) (y : Piece) (why : Why) → IsStopped rows room s t (S.Why why) → TellsPlaceIn rows room s y t (E.Shape s.ty why 0)
stopped_place rows schema room s t y why h = λ r refused.
    let own = why_refused rows room s t h.type (told why) h.there h.form h.opens in
    let same = one rows schema room s t (record { ty = s.ty; why = told why; at = [] }) r own refused in
    subst (λ (q : Refusal). PlacedAt y q.at 0) same (begins y)

-- ---- that of a whole item, in its block

pub told_in_block : (rows : List Row) (room : ℕ) (s : Slot) (n : Node) (t : Data) (ty : TypeNo) (why : Why) (j at : ℕ) → HasData n t → n.to < 2 ^ 64
    → TellsPlaceIn rows room s (P.Node n) t (E.Shape ty why j) → (from : ℕ) → from ≡ start_of n → at ≡ min (from + j) (2 ^ 64 - 1) → TellsPlace rows room s n t (E.Shape ty why at)
told_in_block rows room s n t ty why j at stands bound tells from first sum = λ r refused.
    let here : BeginsAt r.at t j = tells r refused t stands in
    let inside : j ≤ length (spell t) = begins_inside r.at t j here in
    let end : n.from + length (spell t) ≡ n.to = stands.end in
    (j, here, omega (arith, first, sum, inside, end, bound))
  where
    begins_inside : (way : List Step) (w : Data) (k : ℕ) → BeginsAt way w k → k ≤ length (spell w)
    begins_inside way w k (d, e) =
        let found = ways_lead way w (k, d) e in
        let long : length (spell w) ≡ length found.front + length (spell d ++ found.back) = ap length found.is ∙ length_both found.front (spell d ++ found.back) in
        let place = found.place in
        omega (arith, long, place)

-- ---- that of a part

-- where a refusal of a part is told from
of_key : (p : Spot) (q : Refusal) (why : Why) → is_depth why ≡ false → (key_refusal p q (told why)).at ≡ p.at
of_key p q Y.Kind e = refl
of_key p q Y.Name e = refl
of_key p q Y.Missing e = refl
of_key p q Y.Count e = refl
of_key p q Y.Order e = refl
of_key p q Y.Repeat e = refl
of_key p q Y.Implicit e = refl
of_key p q Y.Delimiter e = refl
of_key p q Y.Prefix e = refl
of_key p q Y.Member e = refl
of_key p q Y.Depth e = absurd cc
of_key p q Y.Trie e = refl
of_key p q Y.HashAlg e = refl
of_key p q Y.BucketSize e = refl

of_depth : (p : Spot) (q : Refusal) (why : Why) → is_depth why ≡ true → (key_refusal p q (told why)).at ≡ p.at ++ q.at
of_depth p q Y.Depth e = refl
of_depth p q why e = absurd cc

module _ (y : Piece) (p : Spot) (q : Refusal) (why : Why) (is : q.why ≡ told why) where
  key_at : p.is_key ≡ true → (part_refusal p q).at ≡ (key_refusal p q (told why)).at
  key_at key =
      ap (λ b. (cond b (key_refusal p q q.why) (record { ty = q.ty; why = q.why; at = p.at ++ q.at })).at) key ∙ ap (λ w. (key_refusal p q w).at) is

  pub at_key : (k : ℕ) → p.is_key ≡ true → is_depth why ≡ false → PlacedAt y p.at k → PlacedAt y (part_refusal p q).at k
  at_key k key other h = subst (λ a. PlacedAt y a k) (sym (key_at key ∙ of_key p q why other)) h

  pub at_part_of : (k : ℕ) → (p.is_key && not (is_depth why)) ≡ false → PlacedAt y (p.at ++ q.at) k → PlacedAt y (part_refusal p q).at k
  at_part_of k plain h = by p.is_key refl (is_depth why) refl where
    by : (a : Bool) → p.is_key ≡ a → (b : Bool) → is_depth why ≡ b → PlacedAt y (part_refusal p q).at k
    by false e b d = subst (λ a. PlacedAt y a k) (sym (ap (λ c. (cond c (key_refusal p q q.why) (record { ty = q.ty; why = q.why; at = p.at ++ q.at })).at) e)) h
    by true e true d = subst (λ a. PlacedAt y a k) (sym (key_at e ∙ of_depth p q why d)) h
    by true e false d = absurd (never (sym (ap (λ c. c && not (is_depth why)) e ∙ ap (λ c. not c) d) ∙ plain)) where
      never : true ≡ false → ⊥
      never z = cc

both_true : (a b : Bool) → (a && not b) ≡ true → (a ≡ true) × (b ≡ false)
both_true true true e = absurd cc
both_true true false e = (refl, refl)
both_true false b e = absurd cc

module _ (rows : List Row) (room : ℕ) (s : Slot) (t : Data) (left : ℕ) (parts : Parts) (w : Walking rows room s t left parts) (schema : IsSchema rows) (tree : IsTree t) (x : Part) (behind : Parts)
    (gives : (ps : List Spot) → HasLeft rows parts ps → SplitsOff rows ps (Some x) behind) where
  abbrev Cut : SplitsOff rows w.rest (Some x) behind
  Cut = split rows room s t left parts w schema tree x behind gives

  pub at_placed : is_null_there s t ≡ false → left < room → (y : Piece) → StandsFor rows y t → IsPassing y w.type → IsInside y x.piece w.type t Cut.first.0 → (way : List Step) → way ≡ Cut.first.0.at
      → (place : ℕ) → (LeadsIn y way → PlacedAt y way place) → (e f : ViewErr) → ((u : Data) → StandsFor rows x.piece u → IsTree u → Checks rows left x.slot u (Err e))
      → ((u : Data) → StandsFor rows x.piece u → IsTree u → TellsPlaceIn rows left x.slot x.piece u e) → IsPlacedBy x place e f → TellsPlaceIn rows room s y t f
  at_placed there less y stands passing inside way way_is place placed e f checked tells placed_by =
      by e f (subst (λ u. Faults rows left u p.tree e) spotted.slot (checked p.tree spotted.stands own_tree)) (subst (λ u. TellsPlaceIn rows left u x.piece p.tree e) spotted.slot (tells p.tree spotted.stands own_tree)) placed_by
    where
      p : Spot
      p = (split rows room s t left parts w schema tree x behind gives).first.0

      spotted : IsSpotted rows x p
      spotted = (split rows room s t left parts w schema tree x behind gives).first.2

      own_tree : IsTree p.tree
      own_tree = part_tree rows room s t left parts w schema tree x behind gives

      others : List Spot
      others = (split rows room s t left parts w schema tree x behind gives).others

      law : IsPartPlaced rows y x.piece p
      law =
          refusals_are_placed rows schema y x.piece s w.type t w.form stands tree passing w.done p others (at_part rows room s t left parts w schema tree x behind gives) spotted.stands inside

      here : PlacedAt y p.at place
      here = subst (λ a. PlacedAt y a place) way_is (placed (subst (LeadsIn y) (sym way_is) law.leads))

      by : (a b : ViewErr) → Faults rows left p.slot p.tree a → TellsPlaceIn rows left p.slot x.piece p.tree a → IsPlacedBy x place a b → TellsPlaceIn rows room s y t b
      by E.Memory E.Memory own tells k = tt
      by E.Memory (E.Shape sort cause at) own tells k = absurd k
      by (E.Shape ty why j) E.Memory own tells k = absurd k
      by (E.Shape ty why j) (E.Shape sort cause at) own tells k = λ r refused.
          let q : Refusal = own.refusal in
          let whole = part_refused rows room left s t w.type there w.form w.none w.done p others (at_part rows room s t left parts w schema tree x behind gives) w.room_is less w.shown q own.refused in
          let same : part_refusal p q ≡ r = one rows schema room s t (part_refusal p q) r whole refused in
          let inner : PlacedAt x.piece q.at j = tells q own.refused in
          let key : x.is_key ≡ p.is_key = spotted.key in
          subst (λ (z : Refusal). PlacedAt y z.at at) same (pick q own.why_is own.refused inner key (x.is_key && not (is_depth why)) refl)
        where
          pick : (q : Refusal) → q.why ≡ told why → Refused rows left p.slot p.tree q → PlacedAt x.piece q.at j → x.is_key ≡ p.is_key → (b : Bool) → (x.is_key && not (is_depth why)) ≡ b → PlacedAt y (part_refusal p q).at at
          pick q is refused inner key true e =
              let z = both_true x.is_key (is_depth why) e in
              subst (λ n. PlacedAt y (part_refusal p q).at n) (sym (k.0 e)) (at_key y p q why is place (sym key ∙ z.0) z.1 here)
          pick q is refused inner key false e =
              let further : PlacedAt y (p.at ++ q.at) (place + j) = law.further left q place j refused here inner in
              let short : place + j ≤ longest_block = placed_short rows y t (p.at ++ q.at) (place + j) stands further in
              let capped = k.1 e in
              let sum : at ≡ place + j = omega (arith, capped, short) in
              at_part_of y p q why is at (subst (λ a. (a && not (is_depth why)) ≡ false) key e) (subst (PlacedAt y (p.at ++ q.at)) (sym sum) further)

  -- where the part is handed out, and its way is looked for
  pub refused_place : is_null_there s t ≡ false → left < room → (y : Piece) → StandsFor rows y t → IsInlined rows s y → IsPieceOf rows s.ty.0 y x → (way : Way)
      → ((ps : List Spot) → HasLeft rows parts ps → LeadsOn rows parts (Some x) ps → LeadsWay way ps) → ((ps : List Spot) → HasLeft rows parts ps → LeadsOn rows parts (Some x) ps) → (place : ℕ)
      → (LeadsIn y (steps_of way) → PlacedAt y (steps_of way) place) → (e f : ViewErr) → ((u : Data) → StandsFor rows x.piece u → IsTree u → Checks rows left x.slot u (Err e))
      → ((u : Data) → StandsFor rows x.piece u → IsTree u → TellsPlaceIn rows left x.slot x.piece u e) → IsPlacedBy x place e f → TellsPlaceIn rows room s y t f
  refused_place there less y stands inlined own way finds leads place placed e f checked tells placed_by =
      let cut = split rows room s t left parts w schema tree x behind gives in
      let are = at_part rows room s t left parts w schema tree x behind gives in
      let way_is : steps_of way ≡ cut.first.0.at = subst (LeadsWay way) (cut.is ∙ ap (λ ps. ps ++ cut.others) cut.first.1) (finds w.rest w.has (leads w.rest w.has)) in
      at_placed there less y stands (type_passing rows s w.type w.form y inlined) (part_inside rows s w.type w.form y t w.done cut.first.0 cut.others are x own) (steps_of way) way_is place placed e f
      checked tells placed_by
