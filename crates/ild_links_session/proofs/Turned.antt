-- A line that was read: answered in the first tree alone, or behind links too.
use Rattle.std.proofs.Common.{◌≡◌, ◌⊎◌, inl, inr, ⊎_elim, ℕ, ◌+◌, ◌≤◌, List, [], ◌∷◌, Bool, true, false, ◌&&◌, Option, Some, None, Result, Ok, Err, refl, sym, ap, ◌∙◌, subst, arith}
use Rattle.std.specs.Prelude.{is_some, unwrap_or}
use Rattle.std.proofs.lemmas.Option.{none-some, same_Some}
use Rattle.ild_data.specs.Spell.{id_of}
use Rattle.ild_data.specs.declared.id.BlockId.{BlockId}
use Rattle.ild_edges.proofs.Later.{Later-trans}
use Rattle.ild_edges.specs.Count.{Rose}
use Rattle.ild_edges.specs.Store.{Moment}
use Rattle.ild_links.specs.Trees.{first_tree}
use Rattle.ild_links.specs.Walk.{Entered, Ending, Walked, ended, not_held, too_deep}
use Rattle.ild_links.specs.declared.following.TheConstants.{MOST_LINKS}
use Rattle.ild_links_lines.specs.Lines.{WalksFrom, due_along, due_by, due_in, due_across, edit_across, edit_at, judged_across, last_tree, path_in, rest_in, setting_in, trees_from, walk_due, walk_gets}
use Rattle.ild_links_lines.specs.Steps.{RepliesTo, RepliesAlong}
use Rattle.ild_links_session.proofs.Firsts.{along_not, excused_not, leaves_as_is, no_false}
use Rattle.ild_links_session.proofs.Stopping.{IsAlone, LooksDue, alone_or_looks}
use Rattle.ild_links_session.proofs.Twice.{LeavesAsIs, more_gets, refused_anyway, two_answers}
use Rattle.ild_links_session.proofs.Walking.{SameHeld, held_then, walk_same}
use Rattle.ild_links_session.specs.Looks.{is_along, looks_on}
use Rattle.ild_links_session.specs.inside.Looking.{DueAlong, LooksBehind, LooksTo, TurnsLinked, TurnsLinkedTo}
use Rattle.ild_path_edits.specs.Edit.{Edit}
use Rattle.ild_path_edits.specs.Judged.{AreTests, Tests}
use Rattle.ild_run_document.proofs.Settings.{settings, tests_on}
use Rattle.ild_run_document.specs.Document.{begun_in, doc_in, own_in}
use Rattle.ild_run_document.specs.Turns.{Turns, TurnsTo}
use Rattle.ild_run_document.specs.declared.document.Document.{Document}
use Rattle.ild_run_links.specs.Trees.{Storable, trees}
use Rattle.ild_run_standing.specs.Standing.{StandsSo, setting_of}
use Rattle.ild_schema.specs.Value.{Value}
use Rattle.ild_script.specs.declared.reply.No.{No}
use Rattle.ild_script.specs.declared.reply.No.TheVariants as N
use Rattle.ild_script.specs.declared.reply.Reply.{Reply}
use Rattle.ild_script.specs.declared.reply.Reply.TheVariants as R
use Rattle.ild_script_meaning.specs.Ask.{Ask, nothing, to_tell, to_edit, to_tell_root, to_begin, to_commit, to_abort, unknown}
use Rattle.ild_script_meaning.specs.Lines.{Setting, changed, due, edit_next, typed_lines}
use Rattle.ild_script_session.specs.Batch.{together}
use Rattle.ild_script_session.specs.Session.{Stage, State}
use Rattle.ild_script_session.specs.Step.{Replies}
use Rattle.ild_view_doc.specs.Docs.{block_in, table_in}

-- ---- a walk leaves the begin of a batch

edits_begun : (s : State Value) (r : Result Value No) → (edit_next s r).begun ≡ s.begun
edits_begun s (Ok c) = refl
edits_begun s (Err refusal) = refl

module _ (w : Setting) (s : State Value) where
  judged_begun : (path : List (List ℕ)) (es : List (Entered Value)) (last : Entered Value) (e : Edit (List ℕ)) (r : Result Value No) → (judged_across w s path es last e r).next.begun ≡ s.begun
  judged_begun path es last e (Ok c) = refl
  judged_begun path es last e (Err refusal) = refl

  edited_begun : (inside : Bool) (path : List (List ℕ)) (es : List (Entered Value)) (last : Entered Value) (e : Edit (List ℕ)) → (edit_across w s path es last inside e).next.begun ≡ s.begun
  edited_begun true path es last e = refl
  edited_begun false path es last e = judged_begun path es last e (changed (setting_in w last) last.value e)

  first_begun : (a : Ask) (path : List (List ℕ)) → path_in a ≡ Some path → (due w a s).next.begun ≡ s.begun
  first_begun (to_tell t own) path is = refl
  first_begun (to_edit e) path is = edits_begun s (changed w s.value e)
  first_begun nothing path is = absurd (none-some path is)
  first_begun to_tell_root path is = absurd (none-some path is)
  first_begun to_begin path is = absurd (none-some path is)
  first_begun to_commit path is = absurd (none-some path is)
  first_begun to_abort path is = absurd (none-some path is)
  first_begun unknown path is = absurd (none-some path is)

  across_begun : (inside : Bool) (a : Ask) (path : List (List ℕ)) (es : List (Entered Value)) (last : Entered Value) → path_in a ≡ Some path → (due_across w inside s a path es last).next.begun ≡ s.begun
  across_begun inside (to_tell t own) path es last is = refl
  across_begun inside (to_edit e) path es last is = edited_begun inside path es last (edit_at (rest_in w last path) e)
  across_begun inside nothing path es last is = absurd (none-some path is)
  across_begun inside to_tell_root path es last is = absurd (none-some path is)
  across_begun inside to_begin path es last is = absurd (none-some path is)
  across_begun inside to_commit path es last is = absurd (none-some path is)
  across_begun inside to_abort path es last is = absurd (none-some path is)
  across_begun inside unknown path es last is = absurd (none-some path is)

  trees_begun : (inside : Bool) (a : Ask) (path : List (List ℕ)) (es : List (Entered Value)) → path_in a ≡ Some path → (due_in w inside s a path es).next.begun ≡ s.begun
  trees_begun inside a path [] is = first_begun a path is
  trees_begun inside a path (e ∷ []) is = first_begun a path is
  trees_begun inside a path (e ∷ f ∷ es) is = across_begun inside a path (e ∷ f ∷ es) (last_tree f es) is

  walk_begun : (inside : Bool) (a : Ask) (path : List (List ℕ)) (any : ℕ) (es : List (Entered Value)) (end : Ending) → path_in a ≡ Some path → (due_by w inside s a path any es end).next.begun ≡ s.begun
  walk_begun inside a path any es ended is = trees_begun inside a path es is
  walk_begun inside a path any es too_deep is = refl
  walk_begun inside a path any es (not_held j) is = refl

-- ---- along the walk of a path

abbrev AnswersAlong : Setting → Ask → List (List ℕ) → Moment → Stage Value → Reply → Moment → Stage Value → Type 0
AnswersAlong w a path m s reply n t = RepliesAlong w m s a (Some reply) n t path

-- a line that is answered in the first tree, and looks no further
ends_first : (w : Setting) (a : Ask) (path : List (List ℕ)) (m : Moment) (s : Stage Value) (reply : Reply) (n : Moment) (t : Stage Value) → path_in a ≡ Some path → looks_on a reply ≡ false
    → Replies (typed_lines w) m s (due w a s.state) (Some reply) n t → AnswersAlong w a path m s reply n t
ends_first w a path m s reply n t is not r held walked told walk = by (alone_or_looks w a s.state path held walked is walk) where
  more : (g : ℕ) → (due w a s.state).gets ≤ (due w a s.state).gets + g
  more g = omega arith

  looks : LooksDue w a s.state → (any : ℕ) × Replies (typed_lines w) m s (due_along w s.state a path any walked) (Some reply) n t
  looks x = ⊎_elim
      (λ as_due. absurd (no_false (sym not ∙ ap (looks_on a) (same_Some reply x.reply (as_due.0 ∙ x.is)) ∙ x.looks)))
      (λ other. (0, refused_anyway (typed_lines w) m n s t (due w a s.state) (Some reply) (leaves_as_is w a s.state x.reply x.is x.looks) r (due_along w s.state a path 0 walked) (more (walk_due w (is_some s.state.begun) s.state a path 0 walked).gets) other.0 other.1))
      r.answered

  by : IsAlone walked ⊎ LooksDue w a s.state → (any : ℕ) × Replies (typed_lines w) m s (due_along w s.state a path any walked) (Some reply) n t
  by (inl x) = (
    0,
    subst (λ (k : Walked Value). Replies (typed_lines w) m s (due_along w s.state a path 0 k) (Some reply) n t) (sym x.is)
        (more_gets (typed_lines w) m s (due w a s.state) (Some reply) n t ((due w a s.state).gets + walk_gets w s.state.value path (x.first ∷ [])) (more (walk_gets w s.state.value path (x.first ∷ []))) r),
  )
  by (inr x) = looks x

-- one that looks further: the reply of the first tree was the one that is due there, and it left all
module _ (w : Setting) (a : Ask) (path : List (List ℕ)) (m n : Moment) (s t : Stage Value) (first : Reply) (is : path_in a ≡ Some path) (looks : looks_on a first ≡ true)
    (r : Replies (typed_lines w) m s (due w a s.state) (Some first) n t) where
  first_due : (due w a s.state).reply ≡ Some first
  first_due = ⊎_elim (λ as_due. sym as_due.0) (λ other. absurd (excused_not m n (together n t) (due w a s.state).adds a first looks other.0)) r.answered

  first_leaves : LeavesAsIs (due w a s.state) s.state
  first_leaves = leaves_as_is w a s.state first first_due looks

  first_state : t.state ≡ s.state
  first_state = ⊎_elim (λ as_due. as_due.1 ∙ first_leaves.next) (λ other. other.1) r.answered

  then_due : (due w a t.state).reply ≡ Some first
  then_due = ap (λ (z : State Value). (due w a z).reply) first_state ∙ first_due

  goes_on : (k : Moment) (u : Stage Value) (reply : Reply) → DueAlong w a path n t (Some reply) k u → AnswersAlong w a path m s reply k u
  goes_on k u reply along held walked told walk =
      let same : SameHeld held (together n t).blocks = held_then (typed_lines w) m n s t (due w a s.state) (Some first) first_leaves r first_state held told in
      let here : WalksFrom w same.now s.state.value path walked =
      walk_same (Storable (trees_from w s.state.value)) (trees (trees_from w s.state.value)) held same.now same.same path MOST_LINKS (first_tree (trees (trees_from w s.state.value))) s.state.value 0 walked walk in
      let then : (any : ℕ) × Replies (typed_lines w) n t (walk_due w (is_some t.state.begun) t.state a path any walked) (Some reply) k u =
      along same.now walked same.is (subst (λ (z : State Value). WalksFrom w same.now z.value path walked) (sym first_state) here) in
      let now : Replies (typed_lines w) n t (walk_due w (is_some s.state.begun) s.state a path then.0 walked) (Some reply) k u =
      subst (λ (z : State Value). Replies (typed_lines w) n t (walk_due w (is_some z.begun) z a path then.0 walked) (Some reply) k u) first_state then.1 in (
        then.0,
        two_answers (typed_lines w) m n s t (due w a s.state) (Some first) first_leaves r k u (walk_due w (is_some s.state.begun) s.state a path then.0 walked) (Some reply) first_state
            (walk_begun w s.state (is_some s.state.begun) a path then.0 walked.trees walked.ending is) now,
      )

-- ---- the session

replies_by : (w : Setting) (a : Ask) (m : Moment) (s : Stage Value) (reply : Reply) (n : Moment) (t : Stage Value) → Replies (typed_lines w) m s (due w a s.state) (Some reply) n t
    → ((path : List (List ℕ)) → path_in a ≡ Some path → RepliesAlong w m s a (Some reply) n t path) → (o : Option (List (List ℕ))) → path_in a ≡ o → RepliesTo w m s a (Some reply) n t o
replies_by w a m s reply n t r along None is = r
replies_by w a m s reply n t r along (Some path) is = along path is

pub ends_there : (old new : Document) (a : Ask) (m : Moment) (reply : Reply) (n : Moment)
    → Turns id_of (doc_in old) (doc_in new) (begun_in old) (begun_in new) (own_in old) (own_in new) a m (Some reply) n → looks_on a reply ≡ false → TurnsLinked old new a m (Some reply) n
ends_there old new a m reply n t not = record {
  later = t.later;
  table = t.table;
  type = t.type;
  kept = λ refusal is. let x = t.kept refusal is in record { block = x.0; begun = x.1 };
  told = λ tell path is. let x = t.told tell path is in record { block = x.0; begun = x.1 };
  rooted = t.rooted;
  failed = t.failed;
  blamed = λ none is. t.blamed is;
  clashed = λ none is. t.clashed is;
  leads = λ tests s are stands.
      let w : Setting = setting_of id_of (doc_in old) tests in
      let on : TurnsTo id_of w (doc_in new) (begun_in new) (own_in new) tests a m s (Some reply) n = t.leads tests s are stands in record {
        stage = on.stage;
        replies = replies_by w a m s reply n on.stage on.replies (λ path is. ends_first w a path m s reply n on.stage is not on.replies) (path_in a) refl;
        stands = on.stands;
      };
}

-- a reply from which the line looks on is a refusal or a read's, which leaves block and batch
left_by : (old new : Document) (a : Ask) (m : Moment) (reply : Reply) (n : Moment) → Turns id_of (doc_in old) (doc_in new) (begun_in old) (begun_in new) (own_in old) (own_in new) a m (Some reply) n → looks_on a reply ≡ true
    → (block_in (doc_in new) ≡ block_in (doc_in old)) × (begun_in new ≡ begun_in old)
left_by old new a m (R.No refusal) n t looks = t.kept refusal refl
left_by old new (to_tell x path) m (R.Ok text) n t looks = t.told x path refl
left_by old new (to_edit e) m (R.Ok text) n t looks = absurd (no_false looks)
left_by old new nothing m (R.Ok text) n t looks = absurd (no_false looks)
left_by old new to_tell_root m (R.Ok text) n t looks = absurd (no_false looks)
left_by old new to_begin m (R.Ok text) n t looks = absurd (no_false looks)
left_by old new to_commit m (R.Ok text) n t looks = absurd (no_false looks)
left_by old new to_abort m (R.Ok text) n t looks = absurd (no_false looks)
left_by old new unknown m (R.Ok text) n t looks = absurd (no_false looks)
left_by old new a m (R.Root id) n t looks = absurd (no_false looks)

-- the reply that stands, of the one found behind links and the first
module _ (old mid new : Document) (a : Ask) (path : List (List ℕ)) (m n k : Moment) (first : Reply) (found : Option Reply) (along : path_in a ≡ Some path) (looks : looks_on a first ≡ true)
    (t : Turns id_of (doc_in old) (doc_in mid) (begun_in old) (begun_in mid) (own_in old) (own_in mid) a m (Some first) n) (l : LooksBehind mid new a path n found k) where
  block_kept : (refusal : No) (f : Option Reply) → found ≡ f → ◌≡◌ {A = Option Reply} (Some (unwrap_or f first)) (Some (R.No refusal)) → block_in (doc_in new) ≡ block_in (doc_in mid)
  block_kept refusal None none is = l.none none
  block_kept refusal (Some reply) some is = l.kept refusal (some ∙ is)

  root_told : (id : BlockId) (f : Option Reply) → found ≡ f → ◌≡◌ {A = Option Reply} (Some (unwrap_or f first)) (Some (R.Root id)) → id.0 ≡ id_of (block_in (doc_in new))
  root_told id None none is = absurd (no_false (sym (ap (looks_on a) (same_Some first (R.Root id) is)) ∙ looks))
  root_told id (Some reply) some is = l.rooted id (some ∙ is)

  store_failed : (f : Option Reply) → found ≡ f → ◌≡◌ {A = Option Reply} (Some (unwrap_or f first)) (Some (R.No N.Store)) → Rose m.faults k.faults
  store_failed None none is = let rose : Rose m.faults n.faults = t.failed is in let up = l.later.faults in omega (arith, rose, up)
  store_failed (Some reply) some is = let rose : Rose n.faults k.faults = l.failed (some ∙ is) in let up = t.later.faults in omega (arith, rose, up)

  left : (block_in (doc_in mid) ≡ block_in (doc_in old)) × (begun_in mid ≡ begun_in old)
  left = left_by old mid a m first n t looks

  leads_there : (tests : Tests) (s : Stage Value) → AreTests (table_in (doc_in old)) tests → StandsSo id_of (doc_in old) (begun_in old) (own_in old) tests m s
      → TurnsLinkedTo (setting_of id_of (doc_in old) tests) new tests a m s (Some (unwrap_or found first)) k
  leads_there tests s are stands =
      let w : Setting = setting_of id_of (doc_in old) tests in
      let on : TurnsTo id_of w (doc_in mid) (begun_in mid) (own_in mid) tests a m s (Some first) n = t.leads tests s are stands in
      let same : setting_of id_of (doc_in old) tests ≡ setting_of id_of (doc_in mid) tests = settings id_of (doc_in old) (doc_in mid) tests t.table t.type in
      let due_is : (due (setting_of id_of (doc_in mid) tests) a on.stage.state).reply ≡ Some first =
      subst (λ (x : Setting). (due x a on.stage.state).reply ≡ Some first) same (then_due w a path m n s on.stage first along looks on.replies) in
      let to : LooksTo (setting_of id_of (doc_in mid) tests) new tests a path n on.stage (Some (unwrap_or found first)) k = l.leads tests on.stage first (tests_on (doc_in old) (doc_in mid) tests t.table are) on.stands due_is looks in
      let here : DueAlong w a path n on.stage (Some (unwrap_or found first)) k to.stage = subst (λ (x : Setting). DueAlong x a path n on.stage (Some (unwrap_or found first)) k to.stage) (sym same) to.along in
      record {
        stage = to.stage;
        replies = subst (λ (o : Option (List (List ℕ))). RepliesTo w m s a (Some (unwrap_or found first)) k to.stage o) (sym along) (goes_on w a path m n s on.stage first along looks on.replies k to.stage (unwrap_or found first) here);
        stands = to.stands;
      }

  pub looks_there : TurnsLinked old new a m (Some (unwrap_or found first)) k
  looks_there = record {
    later = Later-trans m n k t.later l.later;
    table = l.table ∙ t.table;
    type = l.type ∙ t.type;
    kept = λ refusal is. record { block = block_kept refusal found refl is ∙ left.0; begun = l.begun ∙ left.1 };
    told = λ tell own is. record { block = l.told tell own is ∙ left.0; begun = l.begun ∙ left.1 };
    rooted = λ id is. root_told id found refl is;
    failed = λ is. store_failed found refl is;
    blamed = λ none is. absurd (along_not a first none looks);
    clashed = λ none is. absurd (along_not a first none looks);
    leads = leads_there;
  }

-- ---- lines that ask for nothing along a path

pub plain_turns : (old new : Document) (a : Ask) (m : Moment) (reply : Option Reply) (n : Moment)
    → Turns id_of (doc_in old) (doc_in new) (begun_in old) (begun_in new) (own_in old) (own_in new) a m reply n → path_in a ≡ None → TurnsLinked old new a m reply n
plain_turns old new a m reply n t none = record {
  later = t.later;
  table = t.table;
  type = t.type;
  kept = λ refusal is. let x = t.kept refusal is in record { block = x.0; begun = x.1 };
  told = λ tell path is. let x = t.told tell path is in record { block = x.0; begun = x.1 };
  rooted = t.rooted;
  failed = t.failed;
  blamed = λ none is. t.blamed is;
  clashed = λ none is. t.clashed is;
  leads = λ tests s are stands.
      let w : Setting = setting_of id_of (doc_in old) tests in
      let on : TurnsTo id_of w (doc_in new) (begun_in new) (own_in new) tests a m s reply n = t.leads tests s are stands in
      record { stage = on.stage; replies = subst (λ (o : Option (List (List ℕ))). RepliesTo w m s a reply n on.stage o) (sym none) on.replies; stands = on.stands };
}

and_false : (b : Bool) → b && false ≡ false
and_false true = refl
and_false false = refl

-- want of memory is no reply that looks on
pub memory_ends : (a : Ask) → looks_on a (R.No N.Memory) ≡ false
memory_ends a = and_false (is_along a)
