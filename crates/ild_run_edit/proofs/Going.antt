-- A part goes from its place.
use Rattle.std.proofs.Common.{◌≡◌, inl, inr, ℕ, List, [], ◌∷◌, Bool, true, false, Option, Some, None, refl, ap, sym, subst, ◌∙◌}
use Rattle.std.specs.Prelude.{IfOk, IsUtf8, Result, Ok, Err}
use Rattle.std.specs.List.{AllByRecursion}
use Rattle.std.specs.declared.alloc.AllocError.{AllocError}
use Rattle.std.specs.Option.{option_map_or}
use Rattle.std.proofs.lemmas.Option.{none-some}
use Rattle.ild_edges.specs.Gained.{AreIdsGiven}
use Rattle.ild_data.specs.Spell.{spell}
use Rattle.ild_edges.proofs.Later.{Later-refl}
use Rattle.ild_edges.specs.Store.{Moment}
use Rattle.ild_schema.specs.declared.number.TypeNo.{TypeNo}
use Rattle.ild_schema.specs.declared.row.Row.{Row}
use Rattle.ild_schema.specs.Slots.{plainly}
use Rattle.ild_schema.specs.Value.{Value}
use Rattle.ild_script.specs.declared.reply.No.{No}
use Rattle.ild_script.specs.declared.reply.No.TheVariants as N
use Rattle.ild_typed.specs.At.{InSlot, last_holder, changed_in}
use Rattle.ild_typed.specs.Holder.{Holder}
use Rattle.ild_typed.specs.Judged.{has_hole, breaks_delimiter}
use Rattle.ild_typed.specs.OfType.{TestsKeys}
use Rattle.ild_typed.specs.Schema.{IsSchema}
use Rattle.ild_typed.specs.Stands.{bare}
use Rattle.ild_typed.specs.Typed.{Typed}
use Rattle.ild_path_edits.specs.Edit.{del_at, unless_kept, del_in, change}
use Rattle.ild_path_edits.specs.Judged.{Tests, judged, unless_judged, judged_result}
use Rattle.ild_path_edits.specs.Table.{delete_part, refusal_to_delete}
use Rattle.ild_path_edits.proofs.KeepTyped.{edits_keep_typed}
use Rattle.ild_path_judged.specs.Laws.{IsJudgedWithout, IsRefusedInOrder}
use Rattle.ild_path_judged.proofs.Judging.{going_is_judged}
use Rattle.ild_path_judged.proofs.Order.{refused_in_order, unrefused_have_data}
use Rattle.ild_path_around.specs.Telling.{refusal_at}
use Rattle.ild_path_around.specs.Telling.{IsPlaceIn}
use Rattle.ild_path_around.specs.Around.{TellsGoing}
use Rattle.ild_path_place.specs.Tells.{hole_in, table_at, type_at}
use Rattle.ild_path_place.specs.declared.place.Place.{Place}
use Rattle.ild_path_place.specs.declared.verb.Verb.TheVariants as V
use Rattle.ild_path_way.specs.Way.{nodes_met}
use Rattle.ild_path.specs.Replaces.{Erases, Spares}
use Rattle.ild_path.specs.declared.fault.EditFault.{EditFault}
use Rattle.ild_path.specs.declared.fault.EditFault.TheVariants as F
use Rattle.ild_run_standing.specs.Answers.{PassesOn}
use Rattle.ild_run_edit.specs.inside.Moves.{edited_by, IsGoing, Fails, GoesFrom, done_as}
use Rattle.ild_run_edit.proofs.Passing.{edit_passes_on, told_any, told_ok}
use Rattle.ild_run_edit.proofs.Settling.{moved}
use Rattle.ild_run_edit.proofs.Still.{still_moves, sound_of}

-- whether a text around the part breaks without it
abbrev pub TellsWithout : Place → Bool → Type 0
TellsWithout place b =
    (h : List ℕ → List ℕ) (rows : List Row) (was : List (List ℕ)) (p : InSlot) (path : List (List ℕ)) (c : Value) (is_key : ℕ → List ℕ → Bool) → IsPlaceIn h rows was p path V.Del place → TestsKeys rows is_key → AllByRecursion IsUtf8 path → change rows is_key p (del_at path) ≡ Ok c
    → b ≡ breaks_delimiter rows p.0 c

change_there : (rows : List Row) (is_key : ℕ → List ℕ → Bool) (p : InSlot) (path : List (List ℕ)) → refusal_at rows p path V.Del ≡ None → (c : Value) × (change rows is_key p (del_at path) ≡ Ok c)
change_there rows is_key p [] e = absurd (none-some _ (sym e))
change_there rows is_key p (s ∷ ss) e = by (last_holder rows p s ss) e where
  by : (o : Option (Holder × List ℕ)) → option_map_or (λ l. refusal_to_delete l.0 l.1) o (Some N.Path) ≡ None → (c : Value) × (del_in (changed_in rows delete_part p s ss) o ≡ Ok c)
  by None g = absurd (none-some _ (sym g))
  by (Some l) g = (changed_in rows delete_part p s ss, ap (unless_kept (changed_in rows delete_part p s ss)) g)

done_fails : (h : List ℕ → List ℕ) (place : Place) (m k : Moment) (r : Result (List ℕ) EditFault) → Spares m r k → Fails m (done_as r) k
done_fails h place m k (Ok b) x = tt
done_fails h place m k (Err F.Exhausted) x = tt
done_fails h place m k (Err F.NoKey) x = tt
done_fails h place m k (Err F.Size) x = tt
done_fails h place m k (Err F.Store) x = x.cause
done_fails h place m k (Err (F.Clash id kept new)) x = tt
done_fails h place m k (Err F.Memory) x = tt

module _ (h : List ℕ → List ℕ) (place : Place) (schema : IsSchema (table_at place)) where
  abbrev rows : List Row
  rows = table_at place

  abbrev n : TypeNo
  n = type_at place

  -- the changed value, and what is known of it
  pub record Gone (t : Tests) (v : Value) (path : List (List ℕ)) : Type 0 where
    pub value : Value
    pub made : change rows t.is_key (plainly n, v) (del_at path) ≡ Ok value
    pub judged : IsJudgedWithout h rows 96 (plainly n, v) path value
    pub typed : Typed rows (plainly n) value
    pub refused : IsRefusedInOrder bare h rows t n value
    pub hole : has_hole rows (plainly n) value ≡ hole_in place

  gone : (t : Tests) (v : Value) (path : List (List ℕ)) (m : Moment) → IsGoing h place t v path m → Gone t v path
  gone t v path m x =
      let s = sound_of h rows n v x.at.tree x.at.storable in
      let c = change_there rows t.is_key (plainly n, v) path x.is.allowed in
      let j = going_is_judged h rows t.is_key schema x.at.tests.keys 96 (plainly n, v) s.1 path c.0 x.at.texts c.1 in
      let typed = edits_keep_typed rows t.is_key schema x.at.tests.keys (plainly n, v) (del_at path) c.0 x.at.texts tt s.0 c.1 in
      record { value = c.0; made = c.1; judged = j; typed = typed; refused = refused_in_order bare h rows t x.at.tests n c.0 typed; hole = j.hole ∙ sym (x.is.hole_goes refl) }

  edited_as : (t : Tests) (v : Value) (path : List (List ℕ)) (g : Gone t v path) (r : No) → judged bare h rows t n g.value ≡ Some r → edited_by h rows t n v (del_at path) ≡ Err r
  edited_as t v path g r e = ap (judged_result bare h rows t n) g.made ∙ ap (unless_judged g.value) e

  pub hole_goes : (m : Moment) → hole_in place ≡ true → GoesFrom h place m (Err N.Hole) m
  hole_goes m e = record {
    later = Later-refl m;
    fails = tt;
    moves = λ t v path x. let g = gone t v path m x in still_moves h rows t n v (del_at path) m N.Hole (inl (edited_as t v path g N.Hole (g.refused.hole (g.hole ∙ e))));
  }

  pub delimiter_goes : (m : Moment) (b : Bool) → hole_in place ≡ false → TellsWithout place b → b ≡ true → GoesFrom h place m (Err N.Delimiter) m
  delimiter_goes m b e tells broken = record {
    later = Later-refl m;
    fails = tt;
    moves = λ t v path x.
        let g = gone t v path m x in
        let breaks = sym (tells h rows x.at.was (plainly n, v) path g.value t.is_key x.is x.at.tests.keys x.at.texts g.made) ∙ broken in
        still_moves h rows t n v (del_at path) m N.Delimiter (inl (edited_as t v path g N.Delimiter (g.refused.delimiter (g.hole ∙ e) breaks)));
  }

  pub memory_goes : (m : Moment) → GoesFrom h place m (Err N.Memory) m
  memory_goes m = record { later = Later-refl m; fails = tt; moves = λ t v path x. still_moves h rows t n v (del_at path) m N.Memory (inr tt) }

  pub erased_goes : (m k : Moment) (b : Bool) (r : Result (List ℕ) EditFault) → hole_in place ≡ false → TellsWithout place b → b ≡ false → Spares m r k → Erases h place m r k → GoesFrom h place m (done_as r) k
  erased_goes m k b r e tells free spares x = record {
    later = spares.later;
    fails = done_fails h place m k r spares;
    moves = λ t v path y.
        let g = gone t v path m y in
        let whole_free = sym (tells h rows y.at.was (plainly n, v) path g.value t.is_key y.is y.at.tests.keys y.at.texts g.made) ∙ free in
        let d = unrefused_have_data h rows schema (plainly n) g.value g.typed (g.hole ∙ e) whole_free g.judged.exhausted in
        let s = sound_of h rows n v y.at.tree y.at.storable in
        let q = x y.at.was n v g.value d.0 path y.at.told (record { rooted = y.is.rooted; is = y.is.is }) (record { is_key = t.is_key; keys = y.at.tests.keys; made = g.made; tree = d.1; fits = g.judged.depth }) in
        let passing = told_ok r k.given (λ now. Unit {0}) (AreIdsGiven (spell d.0 ∷ nodes_met h rows (plainly n, g.value) path)) (λ now. PassesOn (record { frame = bare; hash = h; rows = rows; tests = t; ty = n }) now v g.value)
        (λ now none met. edit_passes_on h rows t n v g.value y.at.tree d.0 y.at.storable.tree d.1 schema y.at.tests (del_at path) y.at.texts tt (96, s.1.fits) g.made now tt met)
        (told_any k.given (λ now. Unit {0}) (λ now. tt)) q.given in
        moved h rows t n v (del_at path) g.value d.0 schema y.at.tests g.typed (g.hole ∙ e) whole_free g.judged.depth g.judged.exhausted d.1 g.made path refl m k r spares q passing;
  }

-- what a place tells, of an answer that is there
pub tells_going : (place : Place) (r : Result Bool AllocError) (b : Bool) → TellsGoing place r → r ≡ Ok b → TellsWithout place b
tells_going place r b tells e = λ h rows was p path c is_key is keys texts made. subst (λ r. IfOk r (λ b. b ≡ breaks_delimiter rows p.0 c)) e (tells h rows was p path c is_key is.is is.rooted keys texts made)
