-- The holders on a path by their number, the first being 0.
use Rattle.std.proofs.Common.{◌≡◌, ◌<◌, ℕ, zero, suc, List, [], ◌∷◌, length, take, drop, Option, Some, None, refl, sym, ◌∙◌, ap, arith}
use Rattle.std.specs.Option.{option_map_or}
use Rattle.std.specs.Prelude.{option_and_then, slice_get}
use Rattle.std.proofs.lemmas.Option.{same_Some}
use Rattle.ild_data.proofs.Options.{chain_some}
use Rattle.ild_data.specs.Data.{Data}
use Rattle.ild_path_last.specs.Change.{becomes}
use Rattle.ild_path_holder.specs.Along.{LeadAlong, become, holder_at, last_of}
use Rattle.ild_schema.specs.declared.row.Row.{Row}
use Rattle.ild_path_replaced.specs.Seen.{AreThere}
use Rattle.ild_path_steps.specs.declared.steps.PartSteps.{PartSteps}
use Rattle.ild_typed.specs.At.{InSlot, at, changed_in, last_holder, seen}
use Rattle.ild_typed.specs.Hamt.{alone}
use Rattle.ild_typed.specs.Holder.{Holder}
use Rattle.ild_typed.specs.Represented.{represented}
use Rattle.ild_typed.specs.Segment.{part}

-- to which so many segments lead, and those that are left
pub record IsHolder (rows : List Row) (p : InSlot) (s : List ℕ) (ss : List (List ℕ)) (n : ℕ) : Type 0 where
  pub holder : InSlot
  pub first : List ℕ
  pub others : List (List ℕ)
  pub before : n < length (s ∷ ss)
  pub leads : at rows p (take n (s ∷ ss)) ≡ Some holder
  pub rest : drop n (s ∷ ss) ≡ first ∷ others
  pub same : last_holder rows holder first others ≡ last_holder rows p s ss

module _ (rows : List Row) where
  -- one before the last, and what it becomes
  pub nth_holder : (f : Holder → List ℕ → Holder) (p : InSlot) (s : List ℕ) (ss : List (List ℕ)) (steps : List PartSteps) (n : ℕ) → LeadAlong rows p s ss steps → n < length steps
      → (h : IsHolder rows p s ss n) × (slice_get (become rows f p s ss) n ≡ Some (represented alone rows h.holder.0 (changed_in rows f h.holder h.first h.others)))
  nth_holder f p s [] [] n lead less = absurd (omega (arith, less))
  nth_holder f p s [] (o ∷ os) n lead less = absurd lead
  nth_holder f p s (t ∷ ss) [] n lead less = absurd lead
  nth_holder f p s (t ∷ ss) (o ∷ os) zero lead less = (record { holder = p; first = s; others = t ∷ ss; before = omega arith; leads = refl; rest = refl; same = refl }, refl)
  nth_holder f p s (t ∷ ss) (o ∷ os) (suc n) lead less =
      let more = nth_holder f lead.0 t ss os n lead.3 (omega (arith, less)) in
      let h = more.0 in (
        record {
          holder = h.holder;
          first = h.first;
          others = h.others;
          before = let less = h.before in omega (arith, less);
          leads = ap (option_and_then (λ q. at rows q (take n (t ∷ ss)))) lead.1 ∙ h.leads;
          rest = h.rest;
          same = h.same ∙ sym (ap (option_and_then (λ q. last_holder rows q t ss)) lead.1);
        },
        ap (λ o. slice_get (option_map_or (λ q. become rows f q t ss) o []) n) lead.1 ∙ more.1,
      )

  pub same_last : (p q : InSlot) (s : List ℕ) (ss : List (List ℕ)) → holder_at rows p s ss ≡ Some q → last_holder rows p s ss ≡ Some (seen rows q, last_of s ss)
  same_last p q s [] h = ap (λ (r : InSlot). Some (seen rows r, s)) (same_Some p q h)
  same_last p q s (t ∷ ss) h = let x = chain_some (λ r. holder_at rows r t ss) (part (seen rows p) s) q h in ap (option_and_then (λ r. last_holder rows r t ss)) x.1 ∙ same_last x.0 q t ss x.2

  -- where one is known by what it is seen as
  pub seen_last : (p : InSlot) (s : List ℕ) (ss : List (List ℕ)) (l : Holder × List ℕ) → last_holder rows p s ss ≡ Some l → (q : InSlot) × (holder_at rows p s ss ≡ Some q) × ((seen rows q, last_of s ss) ≡ l)
  seen_last p s [] l h = (p, refl, same_Some (seen rows p, s) l h)
  seen_last p s (t ∷ ss) l h =
      let x = chain_some (λ r. last_holder rows r t ss) (part (seen rows p) s) l h in
      let y = seen_last x.0 t ss l x.2 in
      (y.0, ap (option_and_then (λ r. holder_at rows r t ss)) x.1 ∙ y.1, y.2)

  last_leads : (p q : InSlot) (s : List ℕ) (ss : List (List ℕ)) (steps : List PartSteps) → LeadAlong rows p s ss steps → holder_at rows p s ss ≡ Some q
      → (at rows p (take (length steps) (s ∷ ss)) ≡ Some q) × (drop (length steps) (s ∷ ss) ≡ last_of s ss ∷ [])
  last_leads p q s [] [] lead h = (h, refl)
  last_leads p q s [] (o ∷ os) lead h = absurd lead
  last_leads p q s (t ∷ ss) [] lead h = absurd lead
  last_leads p q s (t ∷ ss) (o ∷ os) lead h =
      let more = last_leads lead.0 q t ss os lead.3 (sym (ap (option_and_then (λ r. holder_at rows r t ss)) lead.1) ∙ h) in
      (ap (option_and_then (λ q. at rows q (take (length os) (t ∷ ss)))) lead.1 ∙ more.0, more.1)

  steps_count : (p : InSlot) (s : List ℕ) (ss : List (List ℕ)) (steps : List PartSteps) → LeadAlong rows p s ss steps → length steps ≡ length ss
  steps_count p s [] [] lead = refl
  steps_count p s [] (o ∷ os) lead = absurd lead
  steps_count p s (t ∷ ss) [] lead = absurd lead
  steps_count p s (t ∷ ss) (o ∷ os) lead = let more = steps_count lead.0 t ss os lead.3 in omega (arith, more)

  pub final : (f : Holder → List ℕ → Holder) (p q : InSlot) (s : List ℕ) (ss : List (List ℕ)) (steps : List PartSteps) → LeadAlong rows p s ss steps → holder_at rows p s ss ≡ Some q
      → (h : IsHolder rows p s ss (length steps)) × (represented alone rows h.holder.0 (changed_in rows f h.holder h.first h.others) ≡ becomes rows q.0 (f (seen rows q) (last_of s ss)))
  final f p q s ss steps lead h =
      let x = last_leads p q s ss steps lead h in
      (record { holder = q; first = last_of s ss; others = []; before = let count = steps_count p s ss steps lead in omega (arith, count); leads = x.0; rest = x.1; same = sym (same_last p q s ss h) }, refl)

-- what they become
pub there_at : (steps : List PartSteps) (ws : List (Option Data)) (n : ℕ) → AreThere steps ws → n < length steps → (d : Data) × (slice_get ws n ≡ Some (Some d))
there_at [] [] n h less = absurd (omega (arith, less))
there_at [] (w ∷ ws) n h less = absurd h
there_at (o ∷ os) [] n h less = absurd h
there_at (o ∷ os) (None ∷ ws) n h less = absurd h
there_at (o ∷ os) (Some d ∷ ws) zero h less = (d, refl)
there_at (o ∷ os) (Some d ∷ ws) (suc n) h less = there_at os ws n h (omega (arith, less))
