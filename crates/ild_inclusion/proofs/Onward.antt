-- A path from segment to segment.
use Rattle.std.proofs.Common.{◌≡◌, ◌<◌, ℕ, suc, zero, ◌+◌, List, [], ◌∷◌, length, drop, Some, Result, Ok, Err, refl, sym, ap, ◌∙◌, subst, add-one, arith}
use Rattle.std.specs.Prelude.{slice_get, get_or}
use Rattle.std.proofs.lemmas.Option.{none-some, same_Some}
use Rattle.ild_data.specs.Spell.{spell}
use Rattle.ild_path_edits.specs.Along.{room_below}
use Rattle.ild_schema.specs.Value.{Value}
use Rattle.ild_schema.specs.declared.number.Slot.{Slot}
use Rattle.ild_schema.specs.declared.row.Row.{Row}
use Rattle.ild_typed.specs.At.{InSlot}
use Rattle.ild_typed.specs.Hamt.{alone}
use Rattle.ild_typed.specs.Represented.{represented}
use Rattle.ild_view.specs.Parts.{IsPartView}
use Rattle.ild_view.specs.View.{IsView, slot_of, table_of}
use Rattle.ild_inclusion.specs.Given.{HasMemory, OffGiven, OnGiven, RefusedGiven}
use Rattle.ild_inclusion.specs.Says.{Ends, EndsHere, Follows, Goes}
use Rattle.ild_inclusion.specs.inside.Found.{IsFound, FoundGives}
use Rattle.ild_inclusion.specs.declared.answer.Answer.{Answer}
use Rattle.ild_inclusion.specs.declared.answer.Answer.TheVariants as A
use Rattle.ild_inclusion.specs.declared.fault.Reject.{Reject}
use Rattle.ild_inclusion.specs.declared.fault.VerifyErr.{VerifyErr}
use Rattle.ild_inclusion.specs.declared.fault.VerifyErr.TheVariants as V
use Rattle.ild_inclusion.specs.declared.end.End.{End}
use Rattle.ild_inclusion.specs.declared.found.Found.{Found}
use Rattle.ild_inclusion.specs.declared.found.Found.TheVariants as N
use Rattle.ild_inclusion.specs.declared.segment.Step.{Step}
use Rattle.ild_inclusion.specs.declared.segment.Step.TheVariants as S
use Rattle.ild_inclusion.specs.declared.stand.Stand.{Stand}
use Rattle.ild_inclusion.proofs.Mapping.{goes_map}

-- The walk stands at a view, before the segment with this number: what is given of the rest, whatever front the view stands for, is given of the whole.
pub record IsOnPath (h : List ℕ → List ℕ) (rows : List Row) (room i : ℕ) (p : InSlot) (path bs : List (List ℕ)) (k : ℕ) (x : Stand) : Type 0 where
  pub rest : (result : Result Found VerifyErr) → ((q : InSlot) → IsPartView rows q x.view → Follows h rows (FoundGives result) x.room k x.at q (drop k path) x.left.now) → Follows h rows (FoundGives result) room 0 i p path bs

pub begins : (h : List ℕ → List ℕ) (x : Stand) (f : Value) (path : List (List ℕ)) → IsView x.view f → IsOnPath h (table_of x.view) x.room x.at (slot_of x.view, f) path x.left.now 0 x
begins h x f path is = record { rest = λ result all. all (slot_of x.view, f) (record { table = refl; slot = refl; view = is }) }

drop_here : (xs : List (List ℕ)) (k : ℕ) (x : List ℕ) → slice_get xs k ≡ Some x → drop k xs ≡ x ∷ drop (suc k) xs
drop_here [] k x e = absurd (none-some x e)
drop_here (y ∷ xs) zero x e = ap (λ z. z ∷ xs) (same_Some y x e)
drop_here (y ∷ xs) (suc k) x e = drop_here xs k x e

pub drop_there : (xs : List (List ℕ)) (k : ℕ) (x : List ℕ) → slice_get xs k ≡ Some x → drop k xs ≡ x ∷ drop (k + 1) xs
drop_there xs k x e = drop_here xs k x e ∙ ap (λ n. x ∷ drop n xs) (sym (add-one k))

-- the segment at a place of the slice is that of the path
pub segment_at : (all path : List (List ℕ)) (k : ℕ) (d s x : List ℕ) → s ≡ x → x ≡ get_or all k d → all ≡ path → k < length path → slice_get path k ≡ Some s
segment_at all path k d s x same is whole lt = slice_get_or path k d lt ∙ ap Some (sym (same ∙ is ∙ ap (λ xs. get_or xs k d) whole)) where
  slice_get_or : (xs : List (List ℕ)) (n : ℕ) (d : List ℕ) → n < length xs → slice_get xs n ≡ Some (get_or xs n d)
  slice_get_or [] n d lt = absurd (omega (arith, lt))
  slice_get_or (y ∷ xs) zero d lt = refl
  slice_get_or (y ∷ xs) (suc n) d lt = slice_get_or xs n d (omega (arith, lt))

pub drop_past : (xs : List (List ℕ)) (k : ℕ) → (k < length xs → ⊥) → drop k xs ≡ []
drop_past [] zero past = refl
drop_past [] (suc k) past = refl
drop_past (x ∷ xs) zero past = absurd (past (omega arith))
drop_past (x ∷ xs) (suc k) past = drop_past xs k (λ lt. past (omega (arith, lt)))

module _ (h : List ℕ → List ℕ) (rows : List Row) (room i : ℕ) (p : InSlot) (path bs : List (List ℕ)) (k : ℕ) (x : Stand) (on : IsOnPath h rows room i p path bs k x) where
  -- what is known of one segment, under the table of the view at hand
  abbrev pub Steps : List ℕ → Result Step VerifyErr → Type 0
  Steps s result = (f : Value) → IsView x.view f → HasMemory result
      → Goes h (table_of x.view) x.room x.at (slot_of x.view, f) s x.left.now (OnGiven (table_of x.view) (room_below (table_of x.view) x.room (slot_of x.view, f) s) result) (OffGiven result) (RefusedGiven result)

  steps_to : (q : InSlot) → IsPartView rows q x.view → (s : List ℕ) (result : Result Step VerifyErr) → Steps s result → HasMemory result
      → Goes h rows x.room x.at q s x.left.now (OnGiven rows (room_below rows x.room q s) result) (OffGiven result) (RefusedGiven result)
  steps_to q view s result steps memory =
      subst (λ (r : List Row). Goes h r x.room x.at q s x.left.now (OnGiven r (room_below r x.room q s) result) (OffGiven result) (RefusedGiven result)) view.table
      (subst (λ (u : Slot). Goes h (table_of x.view) x.room x.at (u, q.1) s x.left.now (OnGiven (table_of x.view) (room_below (table_of x.view) x.room (u, q.1) s) result) (OffGiven result) (RefusedGiven result)) view.slot
      (steps q.1 view.view memory))

  -- what is to be shown at a segment
  abbrev Onto : (q : InSlot) → List ℕ → Result Found VerifyErr → ℕ → InSlot → List (List ℕ) → Type 0
  Onto q s result j r cs = Follows h rows (FoundGives result) (room_below rows x.room q s) (k + 1) j r (drop (k + 1) path) cs

  at_segment : (s : List ℕ) → slice_get path k ≡ Some s → (result : Result Found VerifyErr)
      → ((q : InSlot) → IsPartView rows q x.view → Goes h rows x.room x.at q s x.left.now (Onto q s result) (λ j cs. Ends (FoundGives result) j cs (A.Absent k)) (λ r. FoundGives result (Err r)))
      → Follows h rows (FoundGives result) room 0 i p path bs
  at_segment s here result goes =
      on.rest result (λ q view. subst (λ (xs : List (List ℕ)). Follows h rows (FoundGives result) x.room k x.at q xs x.left.now) (sym (drop_there path k s here)) (goes q view))

  -- refused there
  pub stops : (s : List ℕ) → slice_get path k ≡ Some s → (e : VerifyErr) → Steps s (Err e) → HasMemory {X = Found} (Err e) → Follows h rows (FoundGives (Err e)) room 0 i p path bs
  stops s here e steps memory =
      at_segment s here (Err e)
      (λ q view. goes_map (RefusedGiven {X = Step} (Err e)) (λ r. FoundGives (Err e) (Err r)) wrong _ (Onto q s (Err e)) (λ j r cs none. absurd none) _ (λ j cs. Ends (FoundGives (Err e)) j cs (A.Absent k)) (λ j cs none. absurd none) rows h x.room x.at q s x.left.now
      (steps_to q view s (Err e) steps (λ is. memory (again is)))) where
        again : ◌≡◌ {A = Result Step VerifyErr} (Err e) (Err V.Memory) → ◌≡◌ {A = Result Found VerifyErr} (Err e) (Err V.Memory)
        again is = let same : e ≡ V.Memory = cc in ap Err same

        wrong : (r : Reject) → RefusedGiven {X = Step} (Err e) r → FoundGives (Err e) (Err r)
        wrong r is = let same : e ≡ V.Reject r = cc in same

  -- it leads nowhere
  pub leaves : (s : List ℕ) → slice_get path k ≡ Some s → (y : End) → Steps s (Ok (S.Off y)) → (result : Result Found VerifyErr) → Ends (FoundGives result) y.at y.left.now (A.Absent k) → Follows h rows (FoundGives result) room 0 i p path bs
  leaves s here y steps result ends =
      at_segment s here result
      (λ q view. goes_map (RefusedGiven {X = Step} (Ok (S.Off y))) (λ r. FoundGives result (Err r)) (λ r is. absurd cc) _ (Onto q s result) (λ j r cs none. absurd none) (OffGiven (Ok (S.Off y))) (λ j cs. Ends (FoundGives result) j cs (A.Absent k)) off rows h x.room x.at q s
      x.left.now (steps_to q view s (Ok (S.Off y)) steps (λ is. absurd cc))) where
        off : (m : ℕ) (cs : List (List ℕ)) → OffGiven (Ok (S.Off y)) m cs → Ends (FoundGives result) m cs (A.Absent k)
        off m cs is = subst (λ (n : ℕ). Ends (FoundGives result) n cs (A.Absent k)) is.0 (subst (λ (xs : List (List ℕ)). Ends (FoundGives result) y.at xs (A.Absent k)) is.1 ends)

  -- on to a part
  pub goes_on : (s : List ℕ) → slice_get path k ≡ Some s → (y : Stand) → Steps s (Ok (S.On y)) → IsOnPath h rows room i p path bs (k + 1) y
  goes_on s here y steps = record {
    rest = λ result all. at_segment s here result
        (λ q view. goes_map (RefusedGiven {X = Step} (Ok (S.On y))) (λ r. FoundGives result (Err r)) (λ r is. absurd cc) _ (Onto q s result) (onto q result all) _ (λ j cs. Ends (FoundGives result) j cs (A.Absent k)) (λ j cs none. absurd none) rows h x.room x.at q s x.left.now
        (steps_to q view s (Ok (S.On y)) steps (λ is. absurd cc)));
  } where
    onto : (q : InSlot) (result : Result Found VerifyErr) → ((r : InSlot) → IsPartView rows r y.view → Follows h rows (FoundGives result) y.room (k + 1) y.at r (drop (k + 1) path) y.left.now)
        → (j : ℕ) (r : InSlot) (cs : List (List ℕ)) → OnGiven rows (room_below rows x.room q s) (Ok (S.On y)) j r cs → Onto q s result j r cs
    onto q result all j r cs is =
        subst (λ (n : ℕ). Follows h rows (FoundGives result) n (k + 1) j r (drop (k + 1) path) cs) is.room_is
        (subst (λ (n : ℕ). Follows h rows (FoundGives result) y.room (k + 1) n r (drop (k + 1) path) cs) is.at
        (subst (λ (xs : List (List ℕ)). Follows h rows (FoundGives result) y.room (k + 1) y.at r (drop (k + 1) path) xs) is.left (all r is.view)))

  at_end : (k < length path → ⊥) → (result : Result Found VerifyErr) → ((q : InSlot) → IsPartView rows q x.view → EndsHere rows (FoundGives result) x.at q x.left.now) → Follows h rows (FoundGives result) room 0 i p path bs
  at_end past result all = on.rest result (λ q view. subst (λ (xs : List (List ℕ)). Follows h rows (FoundGives result) x.room k x.at q xs x.left.now) (sym (drop_past path k past)) (all q view))

  -- the path ends there
  pub arrives : (k < length path → ⊥) → (result : Result Found VerifyErr) → ((a : Answer) → IsFound (N.Here x.view) a → Ends (FoundGives result) x.at x.left.now a) → Follows h rows (FoundGives result) room 0 i p path bs
  arrives past result ends = at_end past result here where
    here : (q : InSlot) → IsPartView rows q x.view → EndsHere rows (FoundGives result) x.at q x.left.now
    here q view =
        let own = view.view in
        record {
          tree = own.tree;
          shown = (λ n. represented alone (sym view.table n) (sym view.slot n) q.1) ∙ own.front.tree;
          ends = ends (A.Here (spell own.tree)) (record { value = q.1; view = own; shown = record { tree = own.tree; shown = own.front.tree; spelled = refl } });
        }
