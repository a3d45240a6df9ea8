-- The texts of which a text is made: those of a struct's fields, of a map's entries, and of a union's member.
use Rattle.std.specs.Prelude.{ℕ, cond, List, [], ◌∷◌, ◌++◌, Option, Some, None, option_map, option_and_then, slice_get}
use Rattle.ild_schema.specs.declared.number.Slot.{Slot}
use Rattle.ild_schema.specs.declared.def.UnionForm.{UnionForm}
use Rattle.ild_schema.specs.declared.def.UnionForm.TheVariants as UF
use Rattle.ild_schema.specs.declared.def.UnionDef.{UnionDef}
use Rattle.ild_schema.specs.declared.def.Field.{Field}
use Rattle.ild_schema.specs.declared.def.Member.{Member}
use Rattle.ild_schema.specs.declared.def.KindWord.TheVariants as K
use Rattle.ild_schema.specs.declared.row.Row.{Row}
use Rattle.ild_schema.specs.DataKinds.{same_kind}
use Rattle.ild_schema.specs.Joins.{pair_text}
use Rattle.ild_schema.specs.Marks.{field_text, mark_text, mark_kind}
use Rattle.ild_schema.specs.Slots.{plainly}
use Rattle.ild_schema.specs.Value.{Value}
use Rattle.ild_typed.specs.Strings.{cons_both}
use Rattle.ild_typed.specs.Texts.{is_parted}
use Rattle.ild_build.specs.LeftOut.{is_left_out}
use Rattle.ild_build.specs.TextRep.{text_rep}

-- of all fields, where none is absent
abbrev pub field_texts : List Row → List Field → List (Option Value) → Option (List (List ℕ))
field_texts rows [] [] = Some []
field_texts rows [] (o ∷ os) = None
field_texts rows (f ∷ fs) [] = None
field_texts rows (f ∷ fs) (Some v ∷ os) = cons_both (text_rep rows f.slot v) (field_texts rows fs os)
field_texts rows (f ∷ fs) (None ∷ os) = None

-- names with texts, of the fields that are there and not left out
abbrev pub field_pairs : List Row → List Field → List (Option Value) → Option (List (List ℕ × List ℕ))
field_pairs rows [] [] = Some []
field_pairs rows [] (o ∷ os) = None
field_pairs rows (f ∷ fs) [] = None
field_pairs rows (f ∷ fs) (Some v ∷ os) =
    cond (is_left_out f.implicit v) (field_pairs rows fs os) (cons_both (option_map {U = List ℕ × List ℕ} (λ t. (field_text f, t)) (text_rep rows f.slot v)) (field_pairs rows fs os))
field_pairs rows (f ∷ fs) (None ∷ os) = cond f.optional (field_pairs rows fs os) None

-- keys with texts
abbrev pub entry_texts : List Row → Slot → List (List ℕ × Value) → Option (List (List ℕ × List ℕ))
entry_texts rows value [] = Some []
entry_texts rows value (p ∷ ps) = cons_both (option_map {U = List ℕ × List ℕ} (λ t. (p.0, t)) (text_rep rows value p.1)) (entry_texts rows value ps)

-- of a member by its form: behind its prefix, or itself where it is marked as a text
abbrev pub by_form : UnionForm → Member → Option (List ℕ) → Option (List ℕ)
by_form UF.StringPrefix m o = option_and_then (λ prefix. option_map (λ t. prefix ++ t) o) (mark_text m.mark)
by_form UF.Kinded m o = option_and_then (λ k. cond (same_kind k K.Text) o None) (mark_kind m.mark)
by_form form m o = None

abbrev pub member_text_rep : List Row → UnionDef → ℕ → Value → Option (List ℕ)
member_text_rep rows u n v = option_and_then (λ m. by_form u.form m (text_rep rows (plainly m.ty) v)) (slice_get u.members n)

-- ---- texts with delimiters

-- what is appended of a pair, if its key ends at the first delimiter
abbrev pub pair_added : List ℕ → List ℕ → List ℕ → List ℕ → Option (List ℕ)
pair_added before inner key t = cond (is_parted inner (key, t)) (Some (before ++ pair_text inner (key, t))) None
