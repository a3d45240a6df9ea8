-- A union's representation, made of that of its member.
use Rattle.std.proofs.Common.{◌≡◌, ℕ, List, Bool, true, false, cond, Option, Some, None, option_map, slice_get, refl, ap, ◌∙◌}
use Rattle.std.specs.Prelude.{option_and_then}
use Rattle.std.proofs.lemmas.Option.{none-some}
use Rattle.ild_data.specs.Data.{Data}
use Rattle.ild_data.specs.Spell.{spell}
use Rattle.ild_schema.specs.declared.number.Slot.{Slot}
use Rattle.ild_schema.specs.declared.def.KindWord.{KindWord}
use Rattle.ild_schema.specs.declared.def.Member.{Member}
use Rattle.ild_schema.specs.declared.def.TypeDef.TheVariants as D
use Rattle.ild_schema.specs.declared.def.UnionDef.{UnionDef}
use Rattle.ild_schema.specs.declared.def.UnionForm.{UnionForm}
use Rattle.ild_schema.specs.declared.def.UnionForm.TheVariants as UF
use Rattle.ild_schema.specs.declared.row.Row.{Row}
use Rattle.ild_schema.specs.DataKinds.{same_kind}
use Rattle.ild_schema.specs.Marks.{mark_text, mark_kind}
use Rattle.ild_schema.specs.Slots.{form_of, plainly}
use Rattle.ild_schema.specs.Value as V
use Rattle.ild_schema.specs.Value.{Value}
use Rattle.ild_typed.specs.Composed.{composed, marked_form, member_form}
use Rattle.ild_typed.specs.Hamt.{whole}
use Rattle.ild_typed.specs.Kinds.{kind_word_of}
use Rattle.ild_typed.specs.Layer as L
use Rattle.ild_typed.specs.Represented.{represented, layered}
use Rattle.ild_typed.specs.Slots.{member_of, slot_of}
use Rattle.ild_build_leaf.specs.Made.{made}

pub union_is_made : (hash : List ℕ → List ℕ) (rows : List Row) (s : Slot) (ud : UnionDef) (n : ℕ) (m : Member) (v : Value) → form_of rows s ≡ Some (D.Union ud) → slice_get ud.members n ≡ Some m
    → made (whole hash) rows s (V.union n v) ≡ option_map spell (option_and_then (λ d. member_form ud.form d m) (represented (whole hash) rows (plainly m.ty) v))
union_is_made hash rows s ud n m v is at =
    ap (λ o. option_map spell (layered (whole hash) o (option_map (L.union n) (option_and_then (λ u. represented (whole hash) rows u v) (member_of o n))))) is
    ∙ ap (λ o. option_map spell (option_and_then (composed (whole hash) (D.Union ud)) (option_map (L.union n) (option_and_then (λ u. represented (whole hash) rows u v) (option_map slot_of o))))) at
    ∙ by (represented (whole hash) rows (plainly m.ty) v)
  where
    by : (o : Option Data) → option_map spell (option_and_then (composed (whole hash) (D.Union ud)) (option_map (L.union n) o)) ≡ option_map spell (option_and_then (λ d. member_form ud.form d m) o)
    by None = refl
    by (Some d) = ap (λ k. option_map spell (option_and_then (member_form ud.form d) k)) at

-- a member of a union of kinds stands as it is
pub kinded_from : (m : Member) (o : Option Data) (t : List ℕ) → option_map spell (option_and_then (λ d. member_form UF.Kinded d m) o) ≡ Some t → option_map spell o ≡ Some t
kinded_from m None t e = absurd (none-some t e)
kinded_from m (Some d) t e = kind (mark_kind m.mark) e
  where
    test : (b : Bool) → option_map spell (cond b (Some d) None) ≡ Some t → Some (spell d) ≡ Some t
    test true h = h
    test false h = absurd (none-some t h)

    kind : (k : Option KindWord) → option_map spell (option_and_then (λ w. cond (same_kind w (kind_word_of d)) (Some d) None) k) ≡ Some t → Some (spell d) ≡ Some t
    kind None h = absurd (none-some t h)
    kind (Some w) h = test (same_kind w (kind_word_of d)) h

form_is : (f : UnionForm) → (f ≡ UF.Kinded → ⊥) → (m : Member) (name : List ℕ) → mark_text m.mark ≡ Some name → (d : Data) → member_form f d m ≡ marked_form f d name
form_is UF.Kinded other m name is d = absurd (other refl)
form_is UF.Keyed other m name is d = ap (option_and_then (marked_form UF.Keyed d)) is
form_is UF.StringPrefix other m name is d = ap (option_and_then (marked_form UF.StringPrefix d)) is
form_is UF.BytesPrefix other m name is d = ap (option_and_then (marked_form UF.BytesPrefix d)) is
form_is (UF.Envelope key content) other m name is d = ap (option_and_then (marked_form (UF.Envelope key content) d)) is
form_is (UF.Inline key) other m name is d = ap (option_and_then (marked_form (UF.Inline key) d)) is

-- a member of a union of another form stands by its text
pub marked_by : (f g : UnionForm) → f ≡ g → (g ≡ UF.Kinded → ⊥) → (m : Member) (name : List ℕ) → mark_text m.mark ≡ Some name → (o : Option Data)
    → option_map spell (option_and_then (λ d. member_form f d m) o) ≡ option_map spell (option_and_then (λ d. marked_form g d name) o)
marked_by f g same other m name is None = refl
marked_by f g same other m name is (Some d) = ap (λ h. option_map spell (member_form h d m)) same ∙ ap (option_map spell) (form_is g other m name is d)
