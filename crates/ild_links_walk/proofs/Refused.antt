-- A line along a path whose walk is refused is answered with that refusal.
use Rattle.std.proofs.Common.{◌≡◌, ◌⊎◌, inl, inr, ℕ, ◌+◌, ◌≤◌, ◌<◌, Bool, true, false, List, [], ◌∷◌, length, Option, Some, IsSome, Result, Ok, Err, refl, sym, ap, ◌∙◌, subst, arith}
use Rattle.ild_edges.specs.Store.{Moment}
use Rattle.ild_links.proofs.Walks.{walk_first}
use Rattle.ild_links.specs.Trees.{first_tree}
use Rattle.ild_links.specs.Walk.{Ending, Entered, Walked, ended, not_held, too_deep}
use Rattle.ild_links.specs.declared.following.TheConstants.{MOST_LINKS}
use Rattle.ild_links.specs.declared.hop.Hop.{Hop}
use Rattle.ild_links_lines.specs.Lines.{WalksFrom, due_by, edit_at, judged_across, last_tree, path_in, rest_in, setting_in, trees_from, walk_due, walk_gets}
use Rattle.ild_links_lines.specs.Walks.{AgreesWith, CrossingAnswer, IsWalkedSo, LeadsAcross, WalkCause, WalksAlong}
use Rattle.ild_path_edits.specs.Edit.{Edit}
use Rattle.ild_path_edits.specs.Judged.{Tests}
use Rattle.ild_run_links.specs.Trees.{Storable, trees}
use Rattle.ild_run_standing.proofs.Still.{still_replies}
use Rattle.ild_run_standing.specs.Standing.{IsHeldAt, setting_of}
use Rattle.ild_schema.specs.Value.{Value}
use Rattle.ild_script.specs.declared.reply.No.{No}
use Rattle.ild_script.specs.declared.reply.No.TheVariants as N
use Rattle.ild_script.specs.declared.reply.Reply.TheVariants as R
use Rattle.ild_script_meaning.specs.Ask.{Ask, nothing, to_abort, to_begin, to_commit, to_edit, to_tell, to_tell_root, unknown}
use Rattle.ild_script_meaning.specs.Lines.{Setting, changed, typed_lines}
use Rattle.ild_script_session.specs.Session.{Due, idle, resting}
use Rattle.ild_script_session.specs.Step.{Carries, IsExcused}
use Rattle.ild_view_doc.specs.declared.doc.Doc.{Doc}

-- the document stands where it stood, and the store holds its value, when no block came
pub at_later : (h : List ℕ → List ℕ) (d : Doc) (tests : Tests) (m n : Moment) (held : List (List ℕ)) (v : Value) → m.blocks ≡ Some held → n.blocks ≡ m.blocks → IsHeldAt h d tests m v → IsHeldAt h d tests n v
at_later h d tests m n held v told same at = record {
  at = record { told = λ none. at.at.told (sym same ∙ none); tree = at.at.tree; storable = at.at.storable; block = at.at.block };
  carries = subst (λ (o : Option (List (List ℕ))). Carries (typed_lines (setting_of h d tests)) (record n { blocks = o }) (resting v)) (sym same) (record { kept = at.carries.kept; value = at.carries.value; places = at.carries.places });
}

module _ (w : Setting) (inside : Bool) (v : Value) (path : List (List ℕ)) (any : ℕ) where
  abbrev pub DueBy : Ask → List (Entered Value) → Ending → Due Value
  DueBy a es end = due_by w inside (idle v) a path any es end

  -- ---- an ask along a path pays for its walk

  judged_pays : (es : List (Entered Value)) (last : Entered Value) (e : Edit (List ℕ)) (r : Result Value No) → walk_gets w v path es ≤ (judged_across w (idle v) path es last e r).gets
  judged_pays es last e (Ok c) = omega arith
  judged_pays es last e (Err refusal) = omega arith

  across_pays : (b : Bool) (e f : Entered Value) (es : List (Entered Value)) (a : Ask) → IsSome (path_in a) → walk_gets w v path (e ∷ f ∷ es) ≤ (due_by w b (idle v) a path any (e ∷ f ∷ es) ended).gets
  across_pays b e f es nothing along = absurd (cc along)
  across_pays b e f es (to_tell t old) along = omega arith
  across_pays true e f es (to_edit x) along = omega arith
  across_pays false e f es (to_edit x) along =
      let last = last_tree f es in
      let y = edit_at (rest_in w last path) x in
      judged_pays (e ∷ f ∷ es) last y (changed (setting_in w last) last.value y)
  across_pays b e f es to_tell_root along = absurd (cc along)
  across_pays b e f es to_begin along = absurd (cc along)
  across_pays b e f es to_commit along = absurd (cc along)
  across_pays b e f es to_abort along = absurd (cc along)
  across_pays b e f es unknown along = absurd (cc along)

  pub pays : (a : Ask) → IsSome (path_in a) → (es : List (Entered Value)) → 0 < length es → (end : Ending) → ((j : List ℕ) → end ≡ not_held j → ⊥) → walk_gets w v path es ≤ (DueBy a es end).gets
  pays a along [] some end there = absurd (omega (arith, some))
  pays a along (e ∷ []) some ended there = omega arith
  pays a along (e ∷ f ∷ es) some ended there = across_pays inside e f es a along
  pays a along (e ∷ es) some too_deep there = omega arith
  pays a along (e ∷ es) some (not_held j) there = absurd (there j refl)

  -- ---- the reply

  pub replied : (a : Ask) (m n : Moment) (es : List (Entered Value)) (end : Ending) (refusal : No) → WalkCause m (Err refusal) n → AgreesWith (record { trees = es; ending = end }) (Err refusal)
      → ((Some (R.No refusal) ≡ (DueBy a es end).reply) × (idle v ≡ (DueBy a es end).next)) ⊎ IsExcused m (DueBy a es end).adds (Some (R.No refusal)) n n
  replied a m n es end N.Depth cause agrees = inl (subst (λ (x : Ending). (Some (R.No N.Depth) ≡ (DueBy a es x).reply) × (idle v ≡ (DueBy a es x).next)) (sym agrees) (refl, refl))
  replied a m n es end N.Block cause agrees = inl (subst (λ (x : Ending). (Some (R.No N.Block) ≡ (DueBy a es x).reply) × (idle v ≡ (DueBy a es x).next)) (sym agrees.1) (refl, refl))
  replied a m n es end N.Store cause agrees = inr (inl cause)
  replied a m n es end N.Memory cause agrees = inr (inl tt)
  replied a m n es end N.Line cause agrees = absurd cause
  replied a m n es end N.Path cause agrees = absurd cause
  replied a m n es end N.Json cause agrees = absurd cause
  replied a m n es end N.Mismatch cause agrees = absurd cause
  replied a m n es end N.Delimiter cause agrees = absurd cause
  replied a m n es end N.Hole cause agrees = absurd cause
  replied a m n es end N.Exhausted cause agrees = absurd cause
  replied a m n es end N.Size cause agrees = absurd cause
  replied a m n es end N.Reserved cause agrees = absurd cause
  replied a m n es end N.Clash cause agrees = absurd cause
  replied a m n es end N.Batch cause agrees = absurd cause

-- a walk enters the first tree
pub enters_some : (w : Setting) (held : List (List ℕ)) (v : Value) (path : List (List ℕ)) (walked : Walked Value) → WalksFrom w held v path walked → 0 < length walked.trees
enters_some w held v path walked walk =
    let f = walk_first (Storable (trees_from w v)) (trees (trees_from w v)) held path MOST_LINKS (first_tree (trees (trees_from w v))) v 0 walked walk in
    let some = ap length f.is in
    omega (arith, some)

module _ (h : List ℕ → List ℕ) (d : Doc) (inside : Bool) (a : Ask) (along : IsSome (path_in a)) (path : List (List ℕ)) (m n : Moment) where
  -- no more gets than the line is due
  paid : (tests : Tests) (v : Value) (walked : Walked Value) → 0 < length walked.trees → (result : Result (List Hop) No) → IsWalkedSo (setting_of h d tests) v path walked m.gets n.gets result
      → (end : Ending) → walked.ending ≡ end → n.gets ≤ m.gets + (due_by (setting_of h d tests) inside (idle v) a path n.gets walked.trees end).gets
  paid tests v walked some result so ended is =
      let few = so.gets (λ j held. let apart : ended ≡ not_held j = sym is ∙ held in absurd (cc apart)) in
      let pay = pays (setting_of h d tests) inside v path n.gets a along walked.trees some ended (λ j apart. absurd (cc apart)) in
      omega (arith, few, pay)
  paid tests v walked some result so too_deep is =
      let few = so.gets (λ j held. let apart : too_deep ≡ not_held j = sym is ∙ held in absurd (cc apart)) in
      let pay = pays (setting_of h d tests) inside v path n.gets a along walked.trees some too_deep (λ j apart. absurd (cc apart)) in
      omega (arith, few, pay)
  paid tests v walked some result so (not_held j) is = omega arith

  -- by each walk
  along_refused : (refusal : No) → WalksAlong h d path m (Err refusal) n → (tests : Tests) (held : List (List ℕ)) (v : Value) → m.blocks ≡ Some held → IsHeldAt h d tests m v → (walked : Walked Value)
      → WalksFrom (setting_of h d tests) held v path walked → CrossingAnswer (setting_of h d tests) inside a path m v walked n v (Some (R.No refusal))
  along_refused refusal x tests held v told at walked walk =
      let w = setting_of h d tests in
      let so = x.told tests held v walked told at walk in
      let gets = paid tests v walked (enters_some w held v path walked walk) (Err refusal) so walked.ending refl in
      let puts = x.puts in (
        n.gets,
        still_replies w m n v (walk_due w inside (idle v) a path n.gets walked) (Some (R.No refusal)) x.later x.blocks gets (omega (arith, puts))
            (replied w inside v path n.gets a m n walked.trees walked.ending refusal x.cause so.agrees),
      )

  pub refused : (refusal : No) → WalksAlong h d path m (Err refusal) n → (tests : Tests) (held : List (List ℕ)) (v : Value) → m.blocks ≡ Some held → IsHeldAt h d tests m v → LeadsAcross h inside d d tests a path m held v (Some (R.No refusal)) n
  refused refusal x tests held v told at = record { next = v; at = at_later h d tests m n held v told x.blocks at; along = along_refused refusal x tests held v told at }
