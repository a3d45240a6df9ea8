-- From the data that a holder becomes to the answer.
use Rattle.std.proofs.Common.{◌≡◌, ℕ, true, List, Option, Some, None, sym, ◌∙◌, ap, subst}
use Rattle.std.specs.Prelude.{Result, Ok, Err, option_map}
use Rattle.ild_data.specs.Data as T
use Rattle.ild_data.specs.Data.{Data}
use Rattle.ild_path_block.specs.Items.{ItemOf, MakesItem, MakesNone, becoming}
use Rattle.ild_path_block.specs.declared.edit.PartEdit.{PartEdit}
use Rattle.ild_path_holder.specs.Along.{is_holder}
use Rattle.ild_path_item.proofs.Parts.{Comes, stands_text}
use Rattle.ild_path_item.specs.inside.Rewrites.{Rewrites}
use Rattle.ild_path_item.specs.Texts.{LetsBe, becoming_with, is_text_form}
use Rattle.ild_path_last.specs.Change.{becomes}
use Rattle.ild_path_marked.specs.Tells.{Tells}
use Rattle.ild_path_steps.proofs.Holding.{Held}
use Rattle.ild_schema.specs.Legible.{IsLegible}
use Rattle.ild_schema.specs.Slots.{form_of}
use Rattle.ild_schema.specs.Value.{Value}
use Rattle.ild_schema.specs.declared.def.TypeDef.{TypeDef}
use Rattle.ild_schema.specs.declared.row.Row.{Row}
use Rattle.ild_splice.specs.declared.error.SpliceErr.{SpliceErr}
use Rattle.ild_splice.specs.declared.error.SpliceErr.TheVariants.{Memory, Size}
use Rattle.ild_typed.specs.At.{InSlot, seen}
use Rattle.ild_typed.specs.Hamt.{alone}
use Rattle.ild_typed.specs.Represented.{represented}

writes_item : (u : Data) (r : Result (Option (List ℕ)) SpliceErr) → Tells (Some u) r → MakesItem u r
writes_item u (Ok (Some b)) h = h
writes_item u (Ok None) h = absurd h
writes_item u (Err Size) h = h
writes_item u (Err Memory) h = tt

pub told_so : (o : Option Data) (r : Result (Option (List ℕ)) SpliceErr) → Tells o r → Rewrites o r
told_so None r h = subst MakesNone (sym h) tt
told_so (Some u) r h = writes_item u r h

pub rewritten : (rows : List Row) (edit : PartEdit) (w : Value) (q : InSlot) (s : List ℕ) (o : Option Data) (r : Result (Option (List ℕ)) SpliceErr) → becoming rows edit w q s ≡ o → Rewrites o r → ItemOf rows edit w q s r
rewritten rows edit w q s o r is h = record { made = λ u e. subst (λ o. Rewrites o r) (sym is ∙ e) h; refused = λ refusing e. subst (λ o. Rewrites o r) (sym is ∙ e) h }

-- want of memory is always an answer
pub memory_told : (rows : List Row) (edit : PartEdit) (w : Value) (q : InSlot) (s : List ℕ) → ItemOf rows edit w q s (Err Memory)
memory_told rows edit w q s = record { made = λ u e. tt; refused = λ refusing e. tt }

-- of a text, made of texts
pub of_text_told : (rows : List Row) (legible : IsLegible rows) (q : InSlot) (t : Data) (d : TypeDef) (known : form_of rows q.0 ≡ Some d) (text : is_text_form d ≡ true) (held : Held rows d (seen rows q) t) (holds : is_holder (seen rows q) ≡ true)
    (edit : PartEdit) (w : Value) (s : List ℕ) (x : Comes rows legible q t d known text held holds edit w s) (new : Option (List ℕ)) (made : Option (List ℕ)) (r : Result (Option (List ℕ)) SpliceErr) → new ≡ x.new
    → represented alone rows q.0 q.1 ≡ Some t → Rewrites (option_map T.text made) r
    → ((o : Option Value) (j : List ℕ) → represented alone rows q.0 q.1 ≡ Some (T.text j) → LetsBe rows (seen rows q) s o (option_map T.text new) → option_map T.text made ≡ becoming_with rows q s o) → ItemOf rows edit w q s r
of_text_told rows legible q t d known text held holds edit w s x new made r same was told all =
    let j = stands_text rows legible q t d known text held holds in
    rewritten rows edit w q s (option_map T.text made) r
    (ap (becomes rows q.0) x.made ∙ sym (all x.value j.0 (was ∙ ap Some j.1) (subst (λ o. LetsBe rows (seen rows q) s x.value (option_map T.text o)) (sym same) x.lets))) told
