-- Where a path stops, and where an edit has no place.
use Rattle.std.proofs.Common.{◌≡◌, ℕ, suc, ◌+◌, ◌-◌, List, [], ◌∷◌, length, Bool, true, false, Option, Some, None, refl, ap, ◌∙◌, arith}
use Rattle.std.specs.Prelude.{◌↔◌, is_some, Result, Ok, Err, option_and_then}
use Rattle.std.specs.Option.{option_map_or}
use Rattle.std.proofs.lemmas.Option.{none-some}
use Rattle.ild_schema.specs.declared.number.Slot.{Slot}
use Rattle.ild_schema.specs.declared.row.Row.{Row}
use Rattle.ild_schema.specs.Value.{Value}
use Rattle.ild_script.specs.declared.reply.No.{No}
use Rattle.ild_script.specs.declared.reply.No.TheVariants as N
use Rattle.ild_typed.specs.At.{InSlot, seen, at, reached, or_enter, last_holder}
use Rattle.ild_typed.specs.Holder.{Holder}
use Rattle.ild_typed.specs.Segment.{part}
use Rattle.ild_path_edits.specs.Edit.{set_at, ins_at, del_at, placed, set_in, ins_in, unless_kept, del_in}
use Rattle.ild_path_edits.specs.Stop.{stopped, part_along, reach_at, StopsTell, may_delete, fault_by, PathFaults}
use Rattle.ild_path_edits.specs.Table.{slot_to_set, slot_to_insert, key_fits, refusal_to_delete}

next : (k n : ℕ) → suc k + n ≡ k + suc n
next k n = omega (arith)

left_is : (k n : ℕ) → k ≡ (k + n) - n
left_is k n = omega (arith)

at_step : (rows : List Row) (p : InSlot) (s : List ℕ) (ss : List (List ℕ)) (o : Option InSlot) → ((q : InSlot) → at rows q ss ≡ part_along (stopped rows q ss).part (stopped rows q ss).left)
    → option_and_then (λ q. at rows q ss) o ≡ part_along (option_map_or (λ q. stopped rows q ss) o (record { part = p; left = s ∷ ss })).part (option_map_or (λ q. stopped rows q ss) o (record { part = p; left = s ∷ ss })).left
at_step rows p s ss None rest = refl
at_step rows p s ss (Some q) rest = rest q

at_stops : (rows : List Row) (path : List (List ℕ)) (p : InSlot) → at rows p path ≡ part_along (stopped rows p path).part (stopped rows p path).left
at_stops rows [] p = refl
at_stops rows (s ∷ ss) p = at_step rows p s ss (part (seen rows p) s) (λ q. at_stops rows ss q)

reached_step : (rows : List Row) (k : ℕ) (p : InSlot) (s : List ℕ) (ss : List (List ℕ)) (o : Option InSlot)
    → ((q : InSlot) → reached rows (suc k) q ss ≡ reach_at (suc k + length ss) (stopped rows q ss).part (stopped rows q ss).left)
    → option_map_or (λ q. reached rows (suc k) q ss) o (or_enter k p.0 p.1)
    ≡ reach_at (k + suc (length ss)) (option_map_or (λ q. stopped rows q ss) o (record { part = p; left = s ∷ ss })).part (option_map_or (λ q. stopped rows q ss) o (record { part = p; left = s ∷ ss })).left
reached_step rows k p s ss None rest = ap (λ n. or_enter n p.0 p.1) (left_is k (suc (length ss)))
reached_step rows k p s ss (Some q) rest = rest q ∙ ap (λ n. reach_at n (stopped rows q ss).part (stopped rows q ss).left) (next k (length ss))

reached_stops : (rows : List Row) (path : List (List ℕ)) (k : ℕ) (p : InSlot) → reached rows k p path ≡ reach_at (k + length path) (stopped rows p path).part (stopped rows p path).left
reached_stops rows [] k p = refl
reached_stops rows (s ∷ ss) k p = reached_step rows k p s ss (part (seen rows p) s) (λ q. reached_stops rows ss (suc k) q)

pub stops_tell : StopsTell
stops_tell rows k p path = (at_stops rows path p, reached_stops rows path k p)

-- ---- an edit without a place

not_path : (o : Result Value No) → (o ≡ Err N.Path → ⊥) → (k : ℕ) → (o ≡ Err N.Path) ↔ ((k : ℕ) × (None ≡ Some k))
not_path o h k = (λ e. absurd (h e), λ x. absurd (none-some x.0 x.1))

ok_not : (c : Value) → ◌≡◌ {A = Result Value No} (Ok c) (Err N.Path) → ⊥
ok_not c h = absurd cc

mismatch_not : ◌≡◌ {A = Result Value No} (Err N.Mismatch) (Err N.Path) → ⊥
mismatch_not h = absurd cc

placed_path : (fits : Bool) (c : Value) (o : Option Slot) → (placed fits c o ≡ Err N.Path) → is_some o ≡ false
placed_path fits c None h = refl
placed_path true c (Some s) h = absurd (ok_not c h)
placed_path false c (Some s) h = absurd (mismatch_not h)

path_placed : (fits : Bool) (c : Value) (o : Option Slot) → is_some o ≡ false → placed fits c o ≡ Err N.Path
path_placed fits c None h = refl
path_placed fits c (Some s) h = absurd cc

some_fault : (stop last : ℕ) (allows : Holder → List ℕ → Bool) (l : Holder × List ℕ) → allows l.0 l.1 ≡ false → (k : ℕ) × (fault_by stop last allows (Some l) ≡ Some k)
some_fault stop last allows l h = (last, rw h refl)

fault_some : (stop last : ℕ) (allows : Holder → List ℕ → Bool) (l : Holder × List ℕ) (k : ℕ) → fault_by stop last allows (Some l) ≡ Some k → allows l.0 l.1 ≡ false
fault_some stop last allows l k h = by (allows l.0 l.1) refl
  where
    by : (b : Bool) → allows l.0 l.1 ≡ b → allows l.0 l.1 ≡ false
    by true e = absurd (none-some k (rw e at h))
    by false e = e

set_fault : (is_key : ℕ → List ℕ → Bool) (c : Value) (stop last : ℕ) (o : Option (Holder × List ℕ))
    → (set_in is_key c o ≡ Err N.Path) ↔ ((k : ℕ) × (fault_by stop last (λ h t. is_some (slot_to_set h t)) o ≡ Some k))
set_fault is_key c stop last None = (λ h. (stop, refl), λ x. refl)
set_fault is_key c stop last (Some l) = (
  λ h. some_fault stop last (λ h t. is_some (slot_to_set h t)) l (placed_path (key_fits is_key l.0 l.1) c (slot_to_set l.0 l.1) h),
  λ x. path_placed (key_fits is_key l.0 l.1) c (slot_to_set l.0 l.1) (fault_some stop last (λ h t. is_some (slot_to_set h t)) l x.0 x.1),
)

ins_fault : (is_key : ℕ → List ℕ → Bool) (c : Value) (stop last : ℕ) (o : Option (Holder × List ℕ))
    → (ins_in is_key c o ≡ Err N.Path) ↔ ((k : ℕ) × (fault_by stop last (λ h t. is_some (slot_to_insert h t)) o ≡ Some k))
ins_fault is_key c stop last None = (λ h. (stop, refl), λ x. refl)
ins_fault is_key c stop last (Some l) = (
  λ h. some_fault stop last (λ h t. is_some (slot_to_insert h t)) l (placed_path (key_fits is_key l.0 l.1) c (slot_to_insert l.0 l.1) h),
  λ x. path_placed (key_fits is_key l.0 l.1) c (slot_to_insert l.0 l.1) (fault_some stop last (λ h t. is_some (slot_to_insert h t)) l x.0 x.1),
)

pub err_same : (m n : No) → ◌≡◌ {A = Result Value No} (Err m) (Err n) → m ≡ n
err_same m n h = cc

kept_path : (c : Value) (o : Option No) → unless_kept c o ≡ Err N.Path → may_delete o ≡ false
kept_path c None h = absurd (ok_not c h)
kept_path c (Some m) h = ap (λ x. may_delete (Some x)) (err_same m N.Path h)

path_kept : (c : Value) (o : Option No) → may_delete o ≡ false → unless_kept c o ≡ Err N.Path
path_kept c None h = absurd cc
path_kept c (Some N.Path) h = refl
path_kept c (Some m) h = absurd cc

del_fault : (c : Value) (stop last : ℕ) (o : Option (Holder × List ℕ)) → (del_in c o ≡ Err N.Path) ↔ ((k : ℕ) × (fault_by stop last (λ h t. may_delete (refusal_to_delete h t)) o ≡ Some k))
del_fault c stop last None = (λ h. (stop, refl), λ x. refl)
del_fault c stop last (Some l) = (
  λ h. some_fault stop last (λ h t. may_delete (refusal_to_delete h t)) l (kept_path c (refusal_to_delete l.0 l.1) h),
  λ x. path_kept c (refusal_to_delete l.0 l.1) (fault_some stop last (λ h t. may_delete (refusal_to_delete h t)) l x.0 x.1),
)

pub path_faults : PathFaults
path_faults rows is_key p (set_at [] w) = not_path (Ok w) (λ h. ok_not w h) 0
path_faults rows is_key p (set_at (s ∷ ss) w) = set_fault is_key _ _ _ (last_holder rows p s ss)
path_faults rows is_key p (ins_at [] w) = (λ h. (0, refl), λ x. refl)
path_faults rows is_key p (ins_at (s ∷ ss) w) = ins_fault is_key _ _ _ (last_holder rows p s ss)
path_faults rows is_key p (del_at []) = not_path (Err N.Mismatch) (λ h. mismatch_not h) 0
path_faults rows is_key p (del_at (s ∷ ss)) = del_fault _ _ _ (last_holder rows p s ss)
