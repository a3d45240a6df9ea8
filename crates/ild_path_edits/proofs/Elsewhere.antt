-- A part that comes, goes or is set by its name or key changes nothing elsewhere.
use Rattle.std.proofs.Common.{◌≡◌, ◌≢◌, ◌⊎◌, inl, inr, ℕ, List, [], ◌∷◌, Bool, Option, Some, None, refl, ap, sym, subst, ◌∙◌}
use Rattle.std.specs.Prelude.{option_map, option_and_then}
use Rattle.std.specs.Option.{option_map_or}
use Rattle.std.proofs.lemmas.Option.{same_Some, none-some}
use Rattle.ild_schema.specs.declared.number.Slot.{Slot}
use Rattle.ild_schema.specs.declared.row.Row.{Row}
use Rattle.ild_schema.specs.Prelude.{anything}
use Rattle.ild_schema.specs.Value.{Value}
use Rattle.ild_splice_changes.proofs.Maps.{put-other, without-other}
use Rattle.ild_typed.specs.At.{InSlot, seen, at, last_holder, changed_in, Apart}
use Rattle.ild_typed.specs.Holder.{Holder, fields, member, entries, elements, any_entries, any_elements, nothing, value_of, of_any, data_in}
use Rattle.ild_typed.specs.OfType.{OfType}
use Rattle.ild_typed.specs.Segment.{part, set_part}
use Rattle.ild_path_edits.specs.EditLaws.{IsKeyed, OthersStay}
use Rattle.ild_path_edits.specs.Table.{insert_part, delete_part}
use Rattle.ild_path_edits.proofs.Entries.{put_by-other, field-other}
use Rattle.ild_path_edits.proofs.Holders.{set_part-seen}
use Rattle.ild_path_edits.proofs.KeepTyped.{of_type_is_kept}
use Rattle.ild_path_edits.proofs.Kept.{IsKept}
use Rattle.ild_path_edits.proofs.Paths.{typed_changed, set_typed, inserted_typed, deleted_typed, others_step}
use Rattle.ild_path_edits.proofs.Seen.{insert_part-seen, delete_part-seen}

-- in the holder
set_leaves : (h : Holder) (s t : List ℕ) (w : Value) → IsKeyed h → s ≢ t → part (set_part h s w) t ≡ part h t
set_leaves (fields fs os) s t w k apart = field-other s t (Some w) fs os apart
set_leaves (member ms n v) s t w k apart = absurd k
set_leaves (entries key slot paired ps) s t w k apart = ap (λ o. option_map (λ v. (slot, v)) o) (put_by-other paired s t w ps apart)
set_leaves (elements slot vs) s t w k apart = absurd k
set_leaves (any_entries ms) s t w k apart = ap (λ o. option_map (λ d. (anything, of_any d)) o) (put-other s t (data_in w) ms apart)
set_leaves (any_elements ds) s t w k apart = absurd k
set_leaves (nothing v) s t w k apart = refl

insert_leaves : (h : Holder) (s t : List ℕ) (w : Value) → IsKeyed h → s ≢ t → part (insert_part h s w) t ≡ part h t
insert_leaves (fields fs os) s t w k apart = set_leaves (fields fs os) s t w k apart
insert_leaves (member ms n v) s t w k apart = absurd k
insert_leaves (entries key slot paired ps) s t w k apart = set_leaves (entries key slot paired ps) s t w k apart
insert_leaves (elements slot vs) s t w k apart = absurd k
insert_leaves (any_entries ms) s t w k apart = set_leaves (any_entries ms) s t w k apart
insert_leaves (any_elements ds) s t w k apart = absurd k
insert_leaves (nothing v) s t w k apart = refl

delete_leaves : (h : Holder) (s t : List ℕ) → IsKeyed h → s ≢ t → part (delete_part h s) t ≡ part h t
delete_leaves (fields fs os) s t k apart = field-other s t None fs os apart
delete_leaves (member ms n v) s t k apart = absurd k
delete_leaves (entries key slot paired ps) s t k apart = ap (λ o. option_map (λ v. (slot, v)) o) (without-other s t ps apart)
delete_leaves (elements slot vs) s t k apart = absurd k
delete_leaves (any_entries ms) s t k apart = ap (λ o. option_map (λ d. (anything, of_any d)) o) (without-other s t ms apart)
delete_leaves (any_elements ds) s t k apart = absurd k
delete_leaves (nothing v) s t k apart = refl

-- along the path
module _ (rows : List Row) (is_key : ℕ → List ℕ → Bool) (P : Slot → Value → Type 0) (kept : IsKept rows is_key P)
    (f : Holder → List ℕ → Holder) (l : Holder × List ℕ) (typed : (q : InSlot) → P q.0 q.1 → seen rows q ≡ l.0 → P q.0 (value_of (f l.0 l.1)))
    (stays : (q : InSlot) (s t : List ℕ) → IsKeyed (seen rows q) → s ≢ t → part (seen rows (q.0, value_of (f (seen rows q) s))) t ≡ part (seen rows q) t) (keyed : IsKeyed l.0) where
  below : (s u : List ℕ) (us : List (List ℕ)) (p : InSlot) (t : List ℕ) (ts : List (List ℕ)) (o : Option InSlot) → part (seen rows p) s ≡ o → P p.0 p.1 → option_and_then (λ r. last_holder rows r u us) o ≡ Some l
      → Apart (s ∷ u ∷ us) (t ∷ ts)
      → ((r : InSlot) → P r.0 r.1 → last_holder rows r u us ≡ Some l → Apart (u ∷ us) ts → at rows (r.0, changed_in rows f r u us) ts ≡ at rows r ts)
      → at rows (p.0, option_map_or (λ r. value_of (set_part (seen rows p) s (changed_in rows f r u us))) o p.1) (t ∷ ts) ≡ at rows p (t ∷ ts)
  below s u us p t ts None e is h apart rest = absurd (none-some l h)
  below s u us p t ts (Some r) e is h apart rest =
      let it = kept.parts p r s is e in
      others_step rows is_key P kept s (u ∷ us) p p t ts (changed_in rows f r u us) r is e (typed_changed rows is_key P kept f l typed r u us it h) (split apart it)
    where
      split : Apart (s ∷ u ∷ us) (t ∷ ts) → P r.0 r.1 → (s ≢ t) ⊎ ((s ≡ t) × (at rows (r.0, changed_in rows f r u us) ts ≡ at rows r ts))
      split (inl a) it = inl a
      split (inr a) it = inr (a.0, rest r it h a.1)

  stay_at : (s : List ℕ) (ss : List (List ℕ)) (p : InSlot) (other : List (List ℕ)) → P p.0 p.1 → last_holder rows p s ss ≡ Some l → Apart (s ∷ ss) other → at rows (p.0, changed_in rows f p s ss) other ≡ at rows p other
  stay_at s ss p [] is h apart = absurd apart
  stay_at s [] p (t ∷ ts) is h (inl apart) =
      let e : (seen rows p, s) ≡ l = same_Some (seen rows p, s) l h in
      ap (λ o. option_and_then (λ q. at rows q ts) o) (stays p s t (subst (λ (k : Holder × List ℕ). IsKeyed k.0) (sym e) keyed) apart)
  stay_at s [] p (t ∷ ts) is h (inr same) = absurd same.1
  stay_at s (u ∷ us) p (t ∷ ts) is h apart = below s u us p t ts (part (seen rows p) s) refl is h apart (λ r it g a. stay_at u us r ts it g a)

pub others_stay : OthersStay
others_stay rows is_key schema keys p s ss other l is last keyed apart =
    let P = λ (slot : Slot) (v : Value). OfType rows slot v in
    let kept = of_type_is_kept rows is_key schema keys in
    record {
      set = λ slot w free stands new.
          stay_at rows is_key P kept (λ h t. set_part h t w) l (set_typed rows is_key P kept l slot w free stands new)
          (λ q s t k a. ap (λ h. part h t) (set_part-seen rows q.0 q.1 s w) ∙ set_leaves (seen rows q) s t w k a) keyed s ss p other is last apart;
      inserted = λ slot w free stands new.
          stay_at rows is_key P kept (λ h t. insert_part h t w) l (inserted_typed rows is_key P kept l slot w free stands new)
          (λ q s t k a. ap (λ h. part h t) (insert_part-seen rows q.0 q.1 s w) ∙ insert_leaves (seen rows q) s t w k a) keyed s ss p other is last apart;
      deleted = λ free.
          stay_at rows is_key P kept delete_part l (deleted_typed rows is_key P kept l free)
          (λ q s t k a. ap (λ h. part h t) (delete_part-seen rows q.0 q.1 s) ∙ delete_leaves (seen rows q) s t k a) keyed s ss p other is last apart;
    }
