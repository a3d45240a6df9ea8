-- Fields by their names: their numbers, and their places among the pairs of a list.
use Rattle.std.proofs.Common.{◌≡◌, ◌≢◌, ◌+◌, ℕ, zero, suc, List, [], ◌∷◌, ◌++◌, Bool, true, false, cond, get_or, length, slice_get, Option, Some, None, refl, sym, ◌∙◌, ap, subst, arith}
use Rattle.std.specs.List.{AllByRecursion}
use Rattle.std.proofs.lemmas.Option.{same_Some, none-some}
use Rattle.ild_splice_changes.specs.TreeChange.{Located, key}
use Rattle.ild_splice_changes.proofs.Maps.{other_is, own_text}
use Rattle.ild_data.proofs.Options.{map_some}
use Rattle.ild_data.specs.Data.{Data}
use Rattle.ild_data.specs.Key.{same_text, value_at}
use Rattle.ild_cbor.specs.declared.piece.Piece.{Piece}
use Rattle.ild_path_changes.specs.Lift.{entry_lift, lift_within, pair_lift, struct_lift}
use Rattle.ild_path_changes.specs.Pairs.{pair_if}
use Rattle.ild_path_changes.specs.Places.{field_data, field_named, field_place, left_out, place_of, written, written_before}
use Rattle.ild_path_changes.proofs.Datas.{written_entries}
use Rattle.ild_path_changes.proofs.Fields.{written-at}
use Rattle.ild_path_changes.proofs.Lifting.{written_is}
use Rattle.ild_layer_piece.specs.Pieces.{StandsFor}
use Rattle.ild_schema.specs.Clear.{AreNamesApart, ClearStruct}
use Rattle.ild_schema.specs.Marks.{field_text}
use Rattle.ild_schema.specs.declared.def.Field.{Field}
use Rattle.ild_schema.specs.declared.def.StructForm.{StructForm}
use Rattle.ild_schema.specs.declared.def.StructForm.TheVariants as S
use Rattle.ild_schema.specs.declared.row.Row.{Row}
use Rattle.ild_typed.specs.Composed.{struct_form}
use Rattle.ild_typed.specs.Fields.{field_entries}
use Rattle.ild_typed.specs.Strings.{listpairs}
use Rattle.ild_path_steps.specs.Steps.{IsField, Lifts}
use Rattle.ild_path_steps.specs.declared.steps.PartSteps.{PartSteps}
use Rattle.ild_path_steps.specs.declared.steps.PartSteps.TheVariants as P

numbered_at : (s : List ℕ) (f : Field) (fs : List Field) (g : Field) (b : Bool) → same_text s f.name ≡ b → cond b (Some f) (field_named s fs) ≡ Some g → (field_named s fs ≡ Some g → slice_get fs (field_place s fs) ≡ Some g)
    → slice_get (f ∷ fs) (field_place s (f ∷ fs)) ≡ Some g
numbered_at s f fs g true e h rest = rw e h
numbered_at s f fs g false e h rest = rw e (rest h)

pub got : {A : Type 0} (xs : List A) (i : ℕ) (x y : A) → slice_get xs i ≡ Some y → x ≡ get_or xs i x → x ≡ y
got [] i x y h e = absurd (none-some y h)
got (z ∷ xs) zero x y h e = e ∙ same_Some z y h
got (z ∷ xs) (suc i) x y h e = got xs i x y h e

-- the field of a name stands at its place
pub numbered : (s : List ℕ) (fs : List Field) (g : Field) → field_named s fs ≡ Some g → slice_get fs (field_place s fs) ≡ Some g
numbered s [] g h = absurd (none-some g h)
numbered s (f ∷ fs) g h = numbered_at s f fs g (same_text s f.name) refl h (numbered s fs g)

pub field_is : (all fs : List Field) (s : List ℕ) (n : ℕ) (f g : Field) → all ≡ fs → f ≡ get_or all n f → n ≡ field_place s fs → field_named s fs ≡ Some g → f ≡ g
field_is all fs s n f g whole is place named =
    got fs (field_place s fs) f g (numbered s fs g named) (is ∙ (λ i. get_or (whole i) (place i) f))

apart_at : (k s : List ℕ) (f : Field) (fs : List Field) (g : Field) (b : Bool) → (k ≡ field_text f → ⊥) → cond b (Some f) (field_named s fs) ≡ Some g → (field_named s fs ≡ Some g → k ≢ field_text g) → k ≢ field_text g
apart_at k s f fs g true h e rest = λ p. h (p ∙ ap field_text (sym (same_Some f g e)))
apart_at k s f fs g false h e rest = rest e

apart_from : (k s : List ℕ) (fs : List Field) (g : Field) → AllByRecursion (λ f. k ≡ field_text f → ⊥) fs → field_named s fs ≡ Some g → k ≢ field_text g
apart_from k s [] g h e = absurd (none-some g e)
apart_from k s (f ∷ fs) g h e = apart_at k s f fs g (same_text s f.name) h.0 e (apart_from k s fs g h.1)

own_place : (k : List ℕ) (a : Data) (o : Option Data) (rest : List (List ℕ × Data)) → o ≡ Some a → place_of k (pair_if k o ++ rest) ≡ 0
own_place k a o rest e = ap (λ p. place_of k (pair_if k p ++ rest)) e ∙ ap (λ b. cond b 0 (suc (place_of k rest))) (own_text k)

other_place : (k n : List ℕ) (o : Option Data) (rest : List (List ℕ × Data)) → k ≢ n → place_of k (pair_if n o ++ rest) ≡ length (pair_if n o) + place_of k rest
other_place k n None rest apart = omega arith
other_place k n (Some d) rest apart =
    let one : suc (place_of k rest) ≡ 1 + place_of k rest = omega arith in
    ap (λ b. cond b 0 (suc (place_of k rest))) (other_is k n apart) ∙ one

place_at : (s : List ℕ) (f : Field) (fs : List Field) (o : Option Data) (ds : List (Option Data)) (g : Field) (a : Data) (b : Bool) → same_text s f.name ≡ b → AreNamesApart (f ∷ fs)
    → cond b (Some f) (field_named s fs) ≡ Some g → cond b o (field_data s fs ds) ≡ Some a → left_out g a ≡ false
    → (field_named s fs ≡ Some g → field_data s fs ds ≡ Some a → place_of (field_text g) (written_entries left_out fs ds) ≡ written_before left_out s fs ds)
    → place_of (field_text g) (written_entries left_out (f ∷ fs) (o ∷ ds)) ≡ written_before left_out s (f ∷ fs) (o ∷ ds)
place_at s f fs o ds g a true e apart named held there rest =
    let same : f ≡ g = same_Some f g named in
    let is : written left_out f o ≡ Some a = (λ i. written left_out (same i) (held i)) ∙ ap (λ c. cond c None (Some a)) there in
    rw e (ap (λ x. place_of (field_text x) (written_entries left_out (f ∷ fs) (o ∷ ds))) (sym same) ∙ own_place (field_text f) a (written left_out f o) (written_entries left_out fs ds) is)
place_at s f fs o ds g a false e apart named held there rest =
    let other = apart_from (field_text f) s fs g apart.0 named in
    rw e (other_place (field_text g) (field_text f) (written left_out f o) (written_entries left_out fs ds) (λ p. other (sym p)) ∙ ap (λ (n : ℕ). length (pair_if (field_text f) (written left_out f o)) + n) (rest named held))

-- a field that is written stands behind those that are written before it
pub written_place : (s : List ℕ) (fs : List Field) (ds : List (Option Data)) (g : Field) (a : Data) → AreNamesApart fs → field_named s fs ≡ Some g → field_data s fs ds ≡ Some a → left_out g a ≡ false
    → place_of (field_text g) (written_entries left_out fs ds) ≡ written_before left_out s fs ds
written_place s [] ds g a apart named held there = absurd (none-some g named)
written_place s (f ∷ fs) [] g a apart named held there = absurd (none-some a held)
written_place s (f ∷ fs) (o ∷ ds) g a apart named held there =
    place_at s f fs o ds g a (same_text s f.name) refl apart named held there (λ n h. written_place s fs ds g a apart.1 n h there)

module _ (rows : List Row) (p : Piece) (fs : List Field) (ds : List (Option Data)) (t a x : Data) (s : List ℕ) (number : ℕ) (g : Field) (is : IsField fs s number ds g a) (after : left_out g x ≡ false) where
  pub struct_pairs : (form : StructForm) (name : List ℕ) (r : Option PartSteps) → S.ListPairs ≡ form → name ≡ field_text g → StandsFor rows p t → struct_form form fs ds ≡ Some t → ClearStruct form fs
      → ((es : List (List ℕ × Data)) (y : Data) → StandsFor rows p (listpairs es) → value_at name es ≡ Some y → r ≡ Some (P.Pair (place_of name es)))
      → Lifts (λ w e. struct_lift form s fs ds g (Some a) (Some x) w e) r
  struct_pairs S.ListPairs name r form_is called stands made clear found =
      let m = map_some listpairs (field_entries fs ds) t made in
      let k = written_is fs ds m.0 m.1 in
      let there : value_at name m.0 ≡ Some a =
      (λ i. value_at (called i) (k.same i)) ∙ written-at left_out s fs ds g clear.apart is.named ∙ ap (written left_out g) is.held ∙ ap (λ b. cond b None (Some a)) is.written in
      let place : place_of name m.0 ≡ written_before left_out s fs ds = (λ i. place_of (called i) (k.same i)) ∙ written_place s fs ds g a clear.apart is.named is.held is.written in
      let steps : r ≡ Some (P.Pair (written_before left_out s fs ds)) = found m.0 a (subst (StandsFor rows p) (sym m.2) stands) there ∙ ap (λ n. Some (P.Pair n)) place in
      subst (λ o. Lifts (λ w e. struct_lift S.ListPairs s fs ds g (Some a) (Some x) w e) o) (sym steps)
      (λ w e i. pair_lift (written_before left_out s fs ds) (field_text g) (cond (is.written i) None (Some a)) (cond (after i) None (Some x)) e)
  struct_pairs S.Map name r form_is called stands made clear found = absurd cc
  struct_pairs S.Tuple name r form_is called stands made clear found = absurd cc
  struct_pairs (S.StringPairs inner entry) name r form_is called stands made clear found = absurd cc
  struct_pairs (S.StringJoin delim) name r form_is called stands made clear found = absurd cc

  pub struct_entry : (form : StructForm) (name : List ℕ) → S.Map ≡ form → name ≡ field_text g → (w : Option Data) (e : Located) → struct_lift form s fs ds g (Some a) (Some x) w e ≡ lift_within (key name ∷ []) e
  struct_entry S.Map name form_is called w e = λ i. entry_lift (sym called i) (cond (is.written i) None (Some a)) (cond (after i) None (Some x)) e
  struct_entry S.ListPairs name form_is called w e = absurd cc
  struct_entry S.Tuple name form_is called w e = absurd cc
  struct_entry (S.StringPairs inner entry) name form_is called w e = absurd cc
  struct_entry (S.StringJoin delim) name form_is called w e = absurd cc
