-- The slot to which an edit brings a part: from the whole it is the one from a value on the way, and in one block it is that of the front.
use Rattle.std.proofs.Common.{◌≡◌, ℕ, Bool, true, List, [], ◌∷◌, ◌++◌, Option, Some, None, refl, sym, ap, ◌∙◌, subst}
use Rattle.std.specs.Prelude.{option_and_then, option_map}
use Rattle.std.proofs.lemmas.Option.{same_Some}
use Rattle.std.proofs.Common.{append-nil}
use Rattle.ild_schema.specs.declared.number.Slot.{Slot}
use Rattle.ild_schema.specs.declared.row.Row.{Row}
use Rattle.ild_schema.specs.Value.{Value}
use Rattle.ild_typed.specs.At.{InSlot, at, last_holder, seen}
use Rattle.ild_typed.specs.Holder.{Holder}
use Rattle.ild_typed.specs.OfType.{OfType, TestsKeys}
use Rattle.ild_typed.specs.Schema.{IsSchema}
use Rattle.ild_typed.specs.Segment.{part}
use Rattle.ild_path_edits.specs.Edit.{ins_at, new_slot, set_at}
use Rattle.ild_path_edits.specs.Table.{slot_to_insert, slot_to_set}
use Rattle.ild_path_edits.proofs.KeepTyped.{of_type_is_kept}
use Rattle.ild_path_outward.proofs.Stepping.{slot_of_path}
use Rattle.ild_path_within.proofs.Splitting.{first_of_path}
use Rattle.ild_typed_fronts.specs.Front.{front_in, in_one_block}
use Rattle.ild_typed_fronts.proofs.Pathing.{first_plain, rest_plain}
use Rattle.ild_typed_fronts.proofs.Seeing.{parts_of_fronts, tables_of_fronts}

-- ---- from a value on the way

record Begins (xs : List (List ℕ)) : Type 0 where
  first : List ℕ
  rest : List (List ℕ)
  is : xs ≡ first ∷ rest

begins : (ts : List (List ℕ)) (s : List ℕ) (ss : List (List ℕ)) → Begins (ts ++ (s ∷ ss))
begins [] s ss = record { first = s; rest = ss; is = refl }
begins (t ∷ ts) s ss = record { first = t; rest = ts ++ (s ∷ ss); is = refl }

abbrev last_at : List Row → InSlot → List (List ℕ) → Option (Holder × List ℕ)
last_at rows p [] = None
last_at rows p (s ∷ ss) = last_holder rows p s ss

last_from : (rows : List Row) (p : InSlot) (t : List ℕ) (us : List (List ℕ)) → Begins us → last_holder rows p t us ≡ option_and_then (λ r. last_at rows r us) (part (seen rows p) t)
last_from rows p t us b = subst (λ vs. last_holder rows p t vs ≡ option_and_then (λ r. last_at rows r vs) (part (seen rows p) t)) (sym b.is) refl

last_split : (rows : List Row) (front : List (List ℕ)) (p q : InSlot) (s : List ℕ) (ss : List (List ℕ)) → at rows p front ≡ Some q → last_at rows p (front ++ (s ∷ ss)) ≡ last_holder rows q s ss
last_split rows [] p q s ss e = ap (λ r. last_holder rows r s ss) (same_Some p q e)
last_split rows (t ∷ ts) p q s ss e =
    let x = first_of_path rows p q t ts e in
    last_from rows p t (ts ++ (s ∷ ss)) (begins ts s ss) ∙ ap (λ o. option_and_then (λ r. last_at rows r (ts ++ (s ∷ ss))) o) x.there ∙ last_split rows ts x.item q s ss x.made

set_from : (rows : List Row) (p : InSlot) (w : Value) (us : List (List ℕ)) → Begins us → new_slot rows p (set_at us w) ≡ option_and_then (λ (l : Holder × List ℕ). slot_to_set l.0 l.1) (last_at rows p us)
set_from rows p w us b = subst (λ vs. new_slot rows p (set_at vs w) ≡ option_and_then (λ (l : Holder × List ℕ). slot_to_set l.0 l.1) (last_at rows p vs)) (sym b.is) refl

ins_from : (rows : List Row) (p : InSlot) (w : Value) (us : List (List ℕ)) → Begins us → new_slot rows p (ins_at us w) ≡ option_and_then (λ (l : Holder × List ℕ). slot_to_insert l.0 l.1) (last_at rows p us)
ins_from rows p w us b = subst (λ vs. new_slot rows p (ins_at vs w) ≡ option_and_then (λ (l : Holder × List ℕ). slot_to_insert l.0 l.1) (last_at rows p vs)) (sym b.is) refl

module _ (rows : List Row) (is_key : ℕ → List ℕ → Bool) (schema : IsSchema rows) (keys : TestsKeys rows is_key) where
  pub set_moves : (p q : InSlot) (front path : List (List ℕ)) (w : Value) → OfType rows p.0 p.1 → at rows p front ≡ Some q → new_slot rows p (set_at (front ++ path) w) ≡ new_slot rows q (set_at path w)
  set_moves p q front [] w is there = ap (λ us. new_slot rows p (set_at us w)) (append-nil front) ∙ slot_of_path rows is_key schema keys front p q w is there
  set_moves p q front (s ∷ ss) w is there =
      set_from rows p w (front ++ (s ∷ ss)) (begins front s ss) ∙ ap (option_and_then (λ (l : Holder × List ℕ). slot_to_set l.0 l.1)) (last_split rows front p q s ss there)

  pub ins_moves : (p q : InSlot) (front : List (List ℕ)) (s : List ℕ) (ss : List (List ℕ)) (w : Value) → at rows p front ≡ Some q → new_slot rows p (ins_at (front ++ (s ∷ ss)) w) ≡ new_slot rows q (ins_at (s ∷ ss) w)
  ins_moves p q front s ss w there =
      ins_from rows p w (front ++ (s ∷ ss)) (begins front s ss) ∙ ap (option_and_then (λ (l : Holder × List ℕ). slot_to_insert l.0 l.1)) (last_split rows front p q s ss there)

  -- ---- of the front

  module _ (h : List ℕ → List ℕ) where
    front_step : (f : Holder × List ℕ → Option Slot) (p : InSlot) (s t : List ℕ) (ss : List (List ℕ)) (o : Option InSlot) → part (seen rows p) s ≡ o
        → ((q : InSlot) → part (seen rows p) s ≡ Some q → option_and_then f (last_holder rows (front_in h rows q) t ss) ≡ option_and_then f (last_holder rows q t ss))
        → option_and_then f (option_and_then (λ q. last_holder rows q t ss) (option_map (front_in h rows) o)) ≡ option_and_then f (option_and_then (λ q. last_holder rows q t ss) o)
    front_step f p s t ss None e rest = refl
    front_step f p s t ss (Some q) e rest = rest q e

    front_slot : (f : Holder × List ℕ → Option Slot) → ((p : InSlot) (s : List ℕ) → OfType rows p.0 p.1 → in_one_block rows p (s ∷ []) ≡ true → f (seen rows (front_in h rows p), s) ≡ f (seen rows p, s))
        → (ss : List (List ℕ)) (p : InSlot) (s : List ℕ) → OfType rows p.0 p.1 → in_one_block rows p (s ∷ ss) ≡ true
        → option_and_then f (last_holder rows (front_in h rows p) s ss) ≡ option_and_then f (last_holder rows p s ss)
    front_slot f same [] p s is one = same p s is one
    front_slot f same (t ∷ ts) p s is one =
        ap (λ o. option_and_then f (option_and_then (λ q. last_holder rows q t ts) o)) (parts_of_fronts h rows is_key schema keys p s is (first_plain h rows is_key schema keys p s (t ∷ ts) one))
        ∙ front_step f p s t ts (part (seen rows p) s) refl
        (λ q e. front_slot f same ts q t ((of_type_is_kept rows is_key schema keys).parts p q s is e) (rest_plain h rows is_key schema keys p q s (t ∷ ts) one e))

    pub set_of_front : (p : InSlot) (path : List (List ℕ)) (x w : Value) → OfType rows p.0 p.1 → in_one_block rows p path ≡ true → new_slot rows (front_in h rows p) (set_at path x) ≡ new_slot rows p (set_at path w)
    set_of_front p [] x w is one = refl
    set_of_front p (s ∷ ss) x w is one =
        front_slot (λ (l : Holder × List ℕ). slot_to_set l.0 l.1) (λ q t typed plain. (tables_of_fronts h rows is_key schema keys q t typed (first_plain h rows is_key schema keys q t [] plain)).set) ss p s is one

    pub ins_of_front : (p : InSlot) (path : List (List ℕ)) (x w : Value) → OfType rows p.0 p.1 → in_one_block rows p path ≡ true → new_slot rows (front_in h rows p) (ins_at path x) ≡ new_slot rows p (ins_at path w)
    ins_of_front p [] x w is one = refl
    ins_of_front p (s ∷ ss) x w is one =
        front_slot (λ (l : Holder × List ℕ). slot_to_insert l.0 l.1) (λ q t typed plain. (tables_of_fronts h rows is_key schema keys q t typed (first_plain h rows is_key schema keys q t [] plain)).inserted) ss p s is one
