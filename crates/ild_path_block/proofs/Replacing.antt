-- The answer, where the change of the last holder is told.
use Rattle.std.proofs.Common.{◌≡◌, ◌<◌, ℕ, Bool, true, false, List, length, take, drop, Option, Some, None, refl, sym, ◌∙◌, ap, subst, arith}
use Rattle.std.specs.Prelude.{Ok, Err, Result, option_and_then}
use Rattle.std.proofs.lemmas.List.{append-nil, take_all}
use Rattle.std.proofs.lemmas.Option.{same_Some}
use Rattle.ild_path_apply.specs.Applies.{Come, is_whole}
use Rattle.ild_cbor.specs.declared.node.Node.{Node}
use Rattle.ild_splice_changes.specs.TreeChange.{Located, TreeStep, applied, one, replace}
use Rattle.ild_data.specs.Data.{Data}
use Rattle.ild_data.specs.Spell.{spell}
use Rattle.ild_path_last.specs.Change.{NewIs, located}
use Rattle.ild_path_last.specs.declared.change.LastChange.{LastChange}
use Rattle.ild_path_last.specs.declared.change.LastChange.TheVariants as C
use Rattle.ild_path_changes.specs.Lift.{lift_within, whole}
use Rattle.ild_path_block.proofs.Numbering.{IsHolder, final, nth_holder, there_at}
use Rattle.ild_path_block.specs.Changes.{IsReady, in_last}
use Rattle.ild_path_changes.specs.LiftLaws.{edit_seen}
use Rattle.ild_path_block.specs.Edits.{EditMakes, edit_of}
use Rattle.ild_path_block.specs.Spliced.{SplicedAs, AnswersBlock, IsHolderAt}
use Rattle.ild_path_block.specs.declared.answer.Spliced.{Spliced}
use Rattle.ild_path_block.specs.declared.answer.Spliced.TheVariants as S
use Rattle.ild_path_block.specs.declared.edit.PartEdit.{PartEdit}
use Rattle.ild_path_holder.specs.Along.{become}
use Rattle.ild_path_holder.specs.Edited.{IsEdited}
use Rattle.ild_schema.specs.Value.{Value}
use Rattle.ild_schema.specs.declared.row.Row.{Row}
use Rattle.ild_path_replaced.specs.Seen.{AreThere, all_steps, seen_at, top_of, touched}
use Rattle.ild_path_replaced.specs.declared.touch.Touch.{Touch}
use Rattle.ild_splice.specs.declared.error.SpliceErr.{SpliceErr}
use Rattle.ild_splice.specs.declared.error.SpliceErr.TheVariants.{Memory, Size}
use Rattle.ild_path_steps.specs.Steps.{carried_along}
use Rattle.ild_path_steps.specs.declared.steps.PartSteps.{PartSteps}
use Rattle.ild_path_steps.specs.declared.steps.PartSteps.TheVariants as P
use Rattle.ild_typed.specs.At.{InSlot, at, changed_in, seen}
use Rattle.ild_typed.specs.Hamt.{alone}
use Rattle.ild_typed.specs.Represented.{represented}

-- a part that is replaced
exchanged_at : (q : List TreeStep) (o : Option Data) (d : Data) → o ≡ Some d → lift_within q (whole o) ≡ one q (replace d)
exchanged_at q o d e = ap (λ o. lift_within q (whole o)) e ∙ ap (λ y. one y (replace d)) (append-nil q)

-- a change that replaces the whole item
whole_change : (c : LastChange) (x u : Data) → is_whole c ≡ true → located c (Some x) (Some u) ≡ whole (Some u)
whole_change C.Nothing x u e = absurd cc
whole_change C.Whole x u e = refl
whole_change (C.Replace P.Whole) x u e = refl
whole_change (C.Replace P.Same) x u e = absurd cc
whole_change (C.Replace (P.Item i)) x u e = absurd cc
whole_change (C.Replace (P.Entry k)) x u e = absurd cc
whole_change (C.Replace (P.Pair i)) x u e = absurd cc
whole_change (C.Replace (P.Beside k)) x u e = refl
whole_change (C.InsertItem i) x u e = absurd cc
whole_change (C.InsertPair i k) x u e = absurd cc
whole_change (C.InsertEntry k) x u e = absurd cc
whole_change (C.RemoveItem i) x u e = absurd cc
whole_change (C.RemoveEntry k) x u e = absurd cc

pub part_comes : (change : LastChange) (new : Option Node) (x u : Option Data) → is_whole change ≡ false → NewIs new x → Come change new None x u
part_comes change new x u not h = record { part = h; holder = λ e. let wrong : true ≡ false = sym e ∙ not in absurd cc }

pub block_answers : (rows : List Row) (is_key : ℕ → List ℕ → Bool) (edit : PartEdit) (w : Value) (p : InSlot) (path : List (List ℕ)) (t u : Data) (bytes : List ℕ) (r : Result (Option Spliced) SpliceErr) → spell u ≡ bytes → AnswersBlock bytes r → SplicedAs rows is_key edit w p path t u r
block_answers rows is_key edit w p path t u bytes (Ok None) e h = absurd h
block_answers rows is_key edit w p path t u bytes (Ok (Some (S.Block b))) e h = subst (λ y. AnswersBlock y (Ok (Some (S.Block b)))) (sym e) h
block_answers rows is_key edit w p path t u bytes (Ok (Some (S.Holder r))) e h = absurd h
block_answers rows is_key edit w p path t u bytes (Err Size) e h = subst (λ y. AnswersBlock y (Err Size)) (sym e) h
block_answers rows is_key edit w p path t u bytes (Err Memory) e h = tt

module _ (rows : List Row) (is_key : ℕ → List ℕ → Bool) (edit : PartEdit) (w : Value) (p : InSlot) (path : List (List ℕ)) (t u : Data) (steps : List PartSteps) (change : LastChange) (new : Option Node) (ready : IsReady rows is_key edit w p path steps change new t u) where
  abbrev Told : Option ℕ → Type 0
  Told r = IsEdited rows (in_last edit w) p ready.last ready.first ready.others ready.is_change.some steps change r t u

  abbrev becoming : List (Option Data)
  becoming = become rows (in_last edit w).made p ready.first ready.others

  -- the law, where it is told which holder is replaced, if one is
  pub told_by : (touch : Touch) (r : Option ℕ) → ((ws : List (Option Data)) (e : Located) → AreThere steps ws → top_of e ≡ touched touch → carried_along steps ws e ≡ seen_at steps ws e r)
      → ((x v : Data) → touched touch ≡ top_of (located change (Some x) (Some v))) → Told r
  told_by touch r seen_there touches =
      ready.law r (record {
        at = ready.at;
        lead = ready.lead;
        changes = ready.is_change.of_some;
        where_seen = λ w ws there. seen_there ws (located change (Some ready.is_change.some) (Some w)) there (sym (touches ready.is_change.some w));
      })

  -- a holder with a number
  by_number : (n : ℕ) (h : IsHolder rows p ready.first ready.others n) (d old : Data) → represented alone rows h.holder.0 (changed_in rows (in_last edit w).made h.holder h.first h.others) ≡ Some d
      → (e : Located) → edit_seen alone rows p (edit_of edit w path) ≡ e → u ≡ applied e t → e ≡ one (all_steps (take n steps)) (replace d) → (r : Option Spliced) → IsHolderAt t (all_steps (take n steps)) old n r → SplicedAs rows is_key edit w p path t u (Ok r)
  by_number n h d old now e seen is same None found = absurd found
  by_number n h d old now e seen is same (Some (S.Block b)) found = absurd found
  by_number n h d old now e seen is same (Some (S.Holder r)) found = record {
    holder = h.holder;
    before = subst (λ m. m < length path) (sym found.0) (subst (λ y. n < length y) (sym ready.path_is) h.before);
    leads = ap (λ m. at rows p (take m path)) found.0 ∙ ap (λ y. at rows p (take n y)) ready.path_is ∙ h.leads;
    value = changed_in rows (in_last edit w).made h.holder h.first h.others;
    makes =
        subst (λ y. EditMakes rows is_key edit w h.holder y (changed_in rows (in_last edit w).made h.holder h.first h.others)) (sym (ap (λ m. drop m path) found.0 ∙ ap (drop n) ready.path_is ∙ h.rest))
        (ready.makes h.holder h.first h.others h.same);
    new = d;
    new_is = now;
    place = all_steps (take n steps);
    old = old;
    item = found.1;
    seen = seen ∙ same;
    is = is ∙ ap (λ c. applied c t) same;
  }

  -- one before the last
  pub holder_before : (n : ℕ) → n < length steps → Told (Some n) → (old : Data) (r : Option Spliced) → IsHolderAt t (all_steps (take n steps)) old n r → SplicedAs rows is_key edit w p path t u (Ok r)
  holder_before n less told old r found =
      let h = nth_holder rows (in_last edit w).made p ready.first ready.others steps n ready.lead less in
      let d = there_at steps becoming n told.there less in
      by_number n h.0 d.0 old (same_Some _ (Some d.0) (sym h.1 ∙ d.1)) _ (ready.one_change ∙ told.seen_there) told.is (exchanged_at (all_steps (take n steps)) _ d.0 (ap (option_and_then (λ w. w)) d.1)) r found

  -- the last
  pub holder_last : is_whole change ≡ true → Told None → (old : Data) (r : Option Spliced) → IsHolderAt t (all_steps (take (length steps) steps)) old (length steps) r → SplicedAs rows is_key edit w p path t u (Ok r)
  holder_last is told old r found =
      let all : take (length steps) steps ≡ steps = take_all (length steps) steps (omega arith) in
      let h = final rows (in_last edit w).made p ready.last ready.first ready.others steps ready.lead ready.at in
      by_number (length steps) h.0 told.made old (h.1 ∙ told.made_is) _ (ready.one_change ∙ told.seen_there) told.is
      (ap (lift_within (all_steps steps)) (whole_change change ready.is_change.some told.made is) ∙ exchanged_at (all_steps steps) (Some told.made) told.made refl ∙ ap (λ o. one (all_steps o) (replace told.made)) (sym all)) r found

  -- none: the change is in the last one's item
  pub in_last_item : (r : Result (Option Spliced) SpliceErr) → Told None → ((v : Option Data) → AnswersBlock (spell (applied (lift_within (all_steps steps) (located change ready.is_change.part v)) t)) r) → SplicedAs rows is_key edit w p path t u r
  in_last_item r told made =
      let is = ready.is_change in
      let same : located change (Some is.some) (Some told.made) ≡ located change is.part (Some told.made) =
      ap (located change (Some is.some)) (sym told.made_is) ∙ sym is.of_some ∙ is.of_part ∙ ap (located change is.part) told.made_is in
      block_answers rows is_key edit w p path t u _ r (ap spell (told.is ∙ ap (λ e. applied (lift_within (all_steps steps) e) t) same)) (made (Some told.made))
