-- One name, and one entry, more; and the first cause.
use Rattle.std.proofs.Common.{◌≡◌, ℕ, ◌+◌, ◌<◌, ◌≤◌, List, [], ◌∷◌, ◌++◌, length, map, take, get_or, Bool, true, false, ◌||◌, ◌&&◌, not, Some, refl, sym, ◌∙◌, ap, subst}
use Rattle.std.specs.Prelude.{nat_eq}
use Rattle.std.specs.List.{list_any}
use Rattle.std.proofs.lemmas.List.{take_all}
use Rattle.std.proofs.lemmas.List.Folds.{list_any_at, list_any_more}
use Rattle.ild_data.specs.Data.{Data}
use Rattle.ild_schema.specs.declared.def.Field.{Field}
use Rattle.ild_schema.specs.Clear.{AreNamesApart}
use Rattle.ild_schema.specs.Marks.{field_text}
use Rattle.ild_typed.specs.Named.{is_among, has_twice}
use Rattle.ild_typed.specs.StructWhy.{place_of, has_stranger, is_out_of_order, is_needless, writes_implicit, must_stand, lacks_field}
use Rattle.ild_layer_fields.specs.Causes.{Noted, first_cause}
use Rattle.ild_layer_fields.specs.Notes.{IsNoted, implicit_at}
use Rattle.ild_layer_fields.specs.declared.notes.Notes.{Notes}
use Rattle.ild_layer_fields.proofs.Noting.{any_more}
use Rattle.ild_layer_fields.proofs.Placing.{get_at, needless_placed, among_placed, strangers_placed, twice_placed}

pub map_snoc : {A B : Type 0} (f : A → B) (xs : List A) (x : A) → map f (xs ++ x ∷ []) ≡ map f xs ++ f x ∷ []
map_snoc f [] x = refl
map_snoc f (y ∷ xs) x = ap (λ ys. f y ∷ ys) (map_snoc f xs x)

module _ (fs : List Field) (k : List ℕ) (p : ℕ) (place : p ≡ place_of fs k) where
  placed : (ks : List (List ℕ)) (notes : Notes) → IsNoted (length fs) notes (map (place_of fs) ks ++ p ∷ []) → IsNoted (length fs) notes (map (place_of fs) (ks ++ k ∷ []))
  placed ks notes h =
      subst (IsNoted (length fs) notes) (ap (λ q. map (place_of fs) ks ++ q ∷ []) place ∙ sym (map_snoc (place_of fs) ks k)) h

  pub name_more : (old new : Notes) → ((ns : List ℕ) → IsNoted (length fs) old ns → IsNoted (length fs) new (ns ++ p ∷ [])) → new.needless ≡ old.needless
      → (ks : List (List ℕ)) (es : List (List ℕ × Data)) → Noted fs ks es old → Noted fs (ks ++ k ∷ []) es new
  name_more old new step same ks es h = record { names = placed ks new (step (map (place_of fs) ks) h.names); needless = same ∙ h.needless }

  pub entry_more : (old mid new : Notes) (b : Bool) (d : Data) → AreNamesApart fs → b ≡ implicit_at fs p d → mid ≡ record old { needless = old.needless || b }
      → ((ns : List ℕ) → IsNoted (length fs) mid ns → IsNoted (length fs) new (ns ++ p ∷ [])) → new.needless ≡ mid.needless
      → (ks : List (List ℕ)) (es : List (List ℕ × Data)) → Noted fs ks es old → Noted fs (ks ++ k ∷ []) (es ++ (k, d) ∷ []) new
  entry_more old mid new b d apart at is step same ks es h =
      let n = h.names in
      let kept : IsNoted (length fs) (record old { needless = old.needless || b }) (map (place_of fs) ks) =
      record { stranger = n.stranger; falls = n.falls; twice = n.twice; highest = n.highest; met = n.met } in
      let test : b ≡ is_needless fs (k, d) = at ∙ ap (λ q. implicit_at fs q d) place ∙ sym (needless_placed fs k d apart) in
      record {
        names = placed ks new (step (map (place_of fs) ks) (subst (λ (m : Notes). IsNoted (length fs) m (map (place_of fs) ks)) (sym is) kept));
        needless = same ∙ ap (λ (m : Notes). m.needless) is ∙ ap (λ c. c || b) h.needless ∙ ap (λ c. writes_implicit fs es || c) test ∙ sym (any_more (is_needless fs) es (k, d));
      }

-- ---- a field that is lacked

abbrev pub lacked : List (List ℕ) → Field → Bool
lacked ks f = must_stand f && not (is_among (field_text f) ks)

module _ (fs : List Field) (i : ℕ) (f : Field) (less : i < length fs) (is : f ≡ get_or fs i f) (r : Bool) (notes : Notes)
    (found : (count : ℕ) (ns : List ℕ) → IsNoted count notes ns → i < count → r ≡ (must_stand f && not (list_any (λ n. nat_eq i n) ns)))
    (apart : AreNamesApart fs) (ks : List (List ℕ)) (es : List (List ℕ × Data)) (h : Noted fs ks es notes)
  where
    lacked_here : r ≡ lacked ks (get_or fs i f)
    lacked_here =
        found (length fs) (map (place_of fs) ks) h.names less
        ∙ ap (λ b. must_stand f && not b) (among_placed fs i f ks apart (get_at fs i f less ∙ ap Some (sym is)))
        ∙ ap (lacked ks) is

    pub lacks_one : r ≡ true → true ≡ lacks_field fs ks
    lacks_one is_so = sym (list_any_at (lacked ks) fs i f less (sym lacked_here ∙ is_so))

    pub lacks_none_more : r ≡ false → lacks_field (take i fs) ks ≡ false → lacks_field (take (i + 1) fs) ks ≡ false
    lacks_none_more is_so before =
        list_any_more (lacked ks) fs i f less ∙ ap (λ b. b || lacked ks (get_or fs i f)) before ∙ sym lacked_here ∙ is_so

pub lacks_none : (fs : List Field) (i : ℕ) (ks : List (List ℕ)) → length fs ≤ i → lacks_field (take i fs) ks ≡ false → false ≡ lacks_field fs ks
lacks_none fs i ks all before = sym before ∙ ap (λ gs. lacks_field gs ks) (take_all i fs all)

-- ---- the first cause

first_same : (name missing count order repeat again implicit : Bool) → (name ≡ false → repeat ≡ again) → first_cause name missing count order repeat implicit ≡ first_cause name missing count order again implicit
first_same true missing count order repeat again implicit same = refl
first_same false missing count order repeat again implicit same = ap (λ b. first_cause false missing count order b implicit) (same refl)

pub cause_noted : (fs : List Field) (ks : List (List ℕ)) (es : List (List ℕ × Data)) (notes : Notes) (lacks miscounted ordered : Bool) → Noted fs ks es notes → lacks ≡ lacks_field fs ks
    → first_cause notes.stranger lacks miscounted (ordered && notes.falls) notes.twice notes.needless
    ≡ first_cause (has_stranger fs ks) (lacks_field fs ks) miscounted (ordered && is_out_of_order fs ks) (has_twice ks) (writes_implicit fs es)
cause_noted fs ks es notes lacks miscounted ordered h whole =
    let n = h.names in
    let strange : notes.stranger ≡ has_stranger fs ks = n.stranger ∙ sym (strangers_placed fs ks) in
    let again : notes.stranger ≡ false → notes.twice ≡ has_twice ks = λ known. n.twice (sym n.stranger ∙ known) ∙ sym (twice_placed fs ks (sym strange ∙ known)) in
    first_same notes.stranger lacks miscounted (ordered && notes.falls) notes.twice (has_twice ks) notes.needless again
    ∙ ap (λ b. first_cause b lacks miscounted (ordered && notes.falls) (has_twice ks) notes.needless) strange
    ∙ ap (λ b. first_cause (has_stranger fs ks) b miscounted (ordered && notes.falls) (has_twice ks) notes.needless) whole
    ∙ ap (λ b. first_cause (has_stranger fs ks) (lacks_field fs ks) miscounted (ordered && b) (has_twice ks) notes.needless) n.falls
    ∙ ap (first_cause (has_stranger fs ks) (lacks_field fs ks) miscounted (ordered && is_out_of_order fs ks) (has_twice ks)) h.needless
