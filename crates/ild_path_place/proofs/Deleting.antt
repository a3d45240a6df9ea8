-- What isn't there can't be deleted.
use Rattle.std.proofs.Common.{◌≡◌, ℕ, List, [], ◌∷◌, Bool, true, false, cond, Option, Some, None, option_map, refl, ap, sym, ◌∙◌}
use Rattle.std.proofs.lemmas.Option.{none-some}
use Rattle.ild_data.proofs.Options.{map_none}
use Rattle.ild_data.specs.Key.{same_text, value_at}
use Rattle.ild_path_edits.specs.Table.{field_kept, if_present, never, refusal_to_delete, unless_there}
use Rattle.ild_schema.specs.declared.def.Field.{Field}
use Rattle.ild_schema.specs.Value.{Value}
use Rattle.ild_script.specs.declared.reply.No.TheVariants as N
use Rattle.ild_typed.specs.At.{InSlot}
use Rattle.ild_typed.specs.Holder.{Holder, any_elements, any_entries, elements, entries, fields, member, nothing}
use Rattle.ild_typed.specs.Segment.{field_at, part}

no_field : (s : List ℕ) (fs : List Field) (os : List (Option Value)) → field_at s fs os ≡ None → field_kept s fs os ≡ Some N.Path
no_field s [] os e = refl
no_field s (f ∷ fs) [] e = refl
no_field s (f ∷ fs) (o ∷ os) e = by (same_text s f.name) o e (no_field s fs os) where
  by : (b : Bool) (o : Option Value) → cond b (option_map {U = InSlot} (λ v. (f.slot, v)) o) (field_at s fs os) ≡ None → (field_at s fs os ≡ None → field_kept s fs os ≡ Some N.Path)
      → cond b (if_present f.optional o) (field_kept s fs os) ≡ Some N.Path
  by true None e rest = refl
  by true (Some v) e rest = absurd (none-some (f.slot, v) (sym e))
  by false o e rest = rest e

pub no_part : (k : Holder) (s : List ℕ) → part k s ≡ None → refusal_to_delete k s ≡ Some N.Path
no_part (fields fs os) s e = no_field s fs os e
no_part (member ms n v) s e = ap never e
no_part (entries key slot paired ps) s e = ap unless_there (map_none (λ v. (slot, v)) (value_at s ps) e)
no_part (elements slot vs) s e = ap unless_there (map_none _ _ e)
no_part (any_entries ms) s e = ap unless_there (map_none _ _ e)
no_part (any_elements ds) s e = ap unless_there (map_none _ _ e)
no_part (nothing v) s e = refl

pub gone : (o : Option InSlot) (s : List ℕ) (k : Holder) → part k s ≡ o → option_map (λ (r : InSlot). r.0) o ≡ None → refusal_to_delete k s ≡ None → ⊥
gone None s k e none free = none-some N.Path (sym free ∙ no_part k s e)
gone (Some r) s k e none free = none-some r.0 (sym none)
