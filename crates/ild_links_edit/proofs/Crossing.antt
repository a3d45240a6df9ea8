-- An edit along a path, from its walk on.
use Rattle.std.proofs.Common.{◌≡◌, ◌≤◌, inl, ℕ, ◌+◌, Bool, true, false, List, [], ◌∷◌, drop, Some, IfOk, Result, Ok, Err, refl, sym, ap, ◌∙◌, subst, arith}
use Rattle.std.proofs.lemmas.Option.{none-some}
use Rattle.ild_data.specs.Spell.{id_of}
use Rattle.ild_data.specs.declared.id.BlockId.{BlockId}
use Rattle.ild_edges.proofs.Later.{Later-trans}
use Rattle.ild_edges.specs.Count.{Rose}
use Rattle.ild_edges.specs.Store.{Moment, block_at}
use Rattle.ild_links.specs.Carries.{HasWalk, IsWalked}
use Rattle.ild_links.specs.Follows.{hops_of}
use Rattle.ild_links.specs.Trees.{first_tree}
use Rattle.ild_links.specs.Walk.{Ending, Entered, Walk, Walked, ended}
use Rattle.ild_links.specs.declared.following.TheConstants.{MOST_LINKS}
use Rattle.ild_links.specs.declared.hop.Hop.{Hop}
use Rattle.ild_links_edit.proofs.Upward.{reading}
use Rattle.ild_links_edit.proofs.Earlier.{bare_is_frame, held_later, replies_earlier, told_not, told_refusal, told_root}
use Rattle.ild_links_edit.specs.inside.Changes.{Changes, LeavesBehind, doc_after, due_behind, gets_behind, reply_after}
use Rattle.ild_links_lines.specs.Laws.{WalksAreOne}
use Rattle.ild_links_lines.specs.Lines.{WalksFrom, edit_across, edit_at, judged_across, last_tree, setting_in, trees_from, walk_due, walk_gets}
use Rattle.ild_links_lines.specs.Walks.{Crosses, IsWalkedSo, LeadsAcross, WalksAlong}
use Rattle.ild_links_walk.specs.Last.{crossed}
use Rattle.ild_path_edits.specs.Edit.{Edit}
use Rattle.ild_path_edits.specs.Judged.{AreTests, Tests}
use Rattle.ild_path_place.specs.declared.verb.Verb.{Verb}
use Rattle.ild_path_place.specs.declared.verb.Verb.TheVariants as V
use Rattle.ild_run_edit.specs.Edits.{edit_of}
use Rattle.ild_run_links.proofs.Standing.{stands_under}
use Rattle.ild_run_links.specs.Trees.{Setting as Reading, Storable, trees}
use Rattle.ild_run_standing.specs.Laws.{HeldAreStanding, StandingAreAt, StillReplies}
use Rattle.ild_run_standing.specs.Standing.{IsHeldAt, setting_of}
use Rattle.ild_schema.specs.Value.{Value}
use Rattle.ild_script.specs.declared.reply.No.{No}
use Rattle.ild_script.specs.declared.reply.No.TheVariants as N
use Rattle.ild_script.specs.declared.reply.Reply.TheVariants as R
use Rattle.ild_script_meaning.specs.Ask.{Ask, to_edit}
use Rattle.ild_script_meaning.specs.Lines.{Setting, changed, typed_lines}
use Rattle.ild_script_session.specs.Session.{idle, resting}
use Rattle.ild_script_session.specs.Step.{Replies}
use Rattle.ild_typed.proofs.TreeKept.{one_stands}
use Rattle.ild_typed.specs.Schema.{IsSchema}
use Rattle.ild_typed.specs.Stands.{Stands, bare}
use Rattle.ild_view_doc.specs.Docs.{block_in, table_in, type_in}
use Rattle.ild_view_doc.specs.declared.doc.Doc.{Doc}

-- the same edit at the rest of the path
edit_there : (verb : Verb) (path rest : List (List ℕ)) (json : List ℕ) → edit_at rest (edit_of verb path json) ≡ edit_of verb rest json
edit_there V.Set path rest json = refl
edit_there V.Ins path rest json = refl
edit_there V.Del path rest json = refl

-- a walk with its trees and its ending
abbrev So : List (Entered Value) → Ending → Walked Value
So es end = record { trees = es; ending = end }

module _ (w : Setting) (v : Value) (path : List (List ℕ)) where
  across_gets : (es : List (Entered Value)) (last : Entered Value) (e : Edit (List ℕ)) (r : Result Value No) → walk_gets w v path es + gets_behind w v path es last e ≤ (judged_across w (idle v) path es last e r).gets
  across_gets es last e (Ok c) = omega arith
  across_gets es last e (Err refusal) = omega arith

module _ (at : StandingAreAt) (standing : HeldAreStanding) (still : StillReplies) (old : Doc) (inside : Bool) (verb : Verb) (path : List (List ℕ)) (json : List ℕ) (m k : Moment) where
  abbrev Line : Ask
  Line = to_edit (edit_of verb path json)

  abbrev Of : Tests → Setting
  Of tests = setting_of id_of old tests

  -- ---- inside a batch

  -- what the line is due there
  batch_replies : (w : Setting) (v : Value) (hops : List Hop) (last : Hop) → crossed hops ≡ Some last → (es : List (Entered Value)) (end : Ending) → IsWalkedSo w v path (So es end) m.gets k.gets (Ok hops) → WalksAlong id_of old path m (Ok hops) k
      → Replies (typed_lines w) m (resting v) (walk_due w true (idle v) Line path 0 (So es end)) (Some (R.No N.Batch)) k (resting v)
  batch_replies w v hops last is [] end s x = absurd (none-some last (sym (ap crossed s.agrees.1) ∙ is))
  batch_replies w v hops last is (e ∷ []) end s x = absurd (none-some last (sym (ap crossed s.agrees.1) ∙ is))
  batch_replies w v hops last is (e ∷ f ∷ es) end s x =
      let puts = x.puts in
      let gets = s.gets (λ j gone. absurd (cc (sym s.agrees.0 ∙ gone))) in
      subst (λ (z : Ending). Replies (typed_lines w) m (resting v) (walk_due w true (idle v) Line path 0 (So (e ∷ f ∷ es) z)) (Some (R.No N.Batch)) k (resting v)) (sym s.agrees.0)
      (still w m k v (walk_due w true (idle v) Line path 0 (So (e ∷ f ∷ es) ended)) (Some (R.No N.Batch)) x.later x.blocks gets (omega (arith, puts)) (inl (refl, refl)))

  pub in_batch : (hops : List Hop) (last : Hop) → crossed hops ≡ Some last → inside ≡ true → WalksAlong id_of old path m (Ok hops) k → Crosses id_of inside old old Line path m (Some (R.No N.Batch)) k
  in_batch hops last is true_is x = record {
    later = x.later;
    table = refl;
    type = refl;
    none = λ no. absurd (none-some (R.No N.Batch) (sym no));
    still = λ yes. (refl, x.blocks, x.puts);
    kept = λ r no. refl;
    told = λ t p line. refl;
    rooted = λ id root. absurd (cc root);
    failed = λ no. absurd (cc no);
    leads = λ tests held v are told at_old. record {
      next = v;
      at = held_later at standing old tests m k v x.later at_old;
      along = λ walked walks. (
        0,
        subst (λ (b : Bool). Replies (typed_lines (Of tests)) m (resting v) (walk_due (Of tests) b (idle v) Line path 0 walked) (Some (R.No N.Batch)) k (resting v)) (sym true_is)
            (batch_replies (Of tests) v hops last is walked.trees walked.ending (x.told tests held v walked told at_old walks) x),
      );
    };
  }

  -- ---- outside, the edit is done in the last tree

  module _ (one : WalksAreOne) (schema : IsSchema (table_in old)) (n : Moment) (hops : List Hop) (last : Hop) (is_last : crossed hops ≡ Some last) (x : WalksAlong id_of old path m (Ok hops) k) (result : Result Doc No) (c : Changes old verb path json hops k result n) where
    module _ (tests : Tests) (held : List (List ℕ)) (v : Value) (are : AreTests (table_in old) tests) (told : m.blocks ≡ Some held) (is : IsHeldAt id_of old tests m v) where
      abbrev Read : Reading
      Read = trees_from (Of tests) v

      told_behind : k.blocks ≡ Some held
      told_behind = x.blocks ∙ told

      held_behind : IsHeldAt id_of old tests k v
      held_behind = held_later at standing old tests m k v x.later is

      under : Stands bare (block_at held) id_of (table_in old) (type_in old) (id_of (block_in old)) v
      under = standing id_of old tests m held v told is

      -- the walk that was found
      found : HasWalk (Storable Read) (trees Read) held path hops
      found = subst (λ (r : Reading). HasWalk (Storable r) (trees r) held path hops) (sym (reading old tests m v is.at)) (x.walk held told (record { value = v; stands = under }))

      same_value : found.walked.value ≡ v
      same_value = one_stands bare bare_is_frame (block_at held) id_of (table_in old) schema (type_in old) Read.id found.walked.value v (stands_under Read held (first_tree (trees Read)) found.walked.value found.walked.stands)
          (subst (λ (r : Reading). Stands bare (block_at held) id_of (table_in old) (type_in old) r.id v) (sym (reading old tests m v is.at)) under)

      walks : WalksFrom (Of tests) held v path (So found.trees ended)
      walks = subst (λ (u : Value). Walk (Storable Read) (trees Read) held path MOST_LINKS (first_tree (trees Read)) u 0 (So found.trees ended)) same_value found.walked.walk

      leads_by : (top next : Entered Value) (more : List (Entered Value)) → hops ≡ hops_of (top ∷ next ∷ more) → IsWalked (Storable Read) (trees Read) held path (top ∷ next ∷ more) → WalksFrom (Of tests) held v path (So (top ∷ next ∷ more) ended)
          → LeadsAcross id_of false old (doc_after old result) tests Line path m held v (Some (reply_after result)) n
      leads_by top next more hops_are walked walk =
          let w = Of tests in
          let es : List (Entered Value) = top ∷ next ∷ more in
          let end = last_tree next more in
          let e = edit_of verb (drop end.hop.from path) json in
          let r = changed (setting_in w end) end.value e in
          let lb : LeavesBehind old tests v path es end e k result n = c.leads tests held v top next more are told_behind held_behind (record { walked = walked; hops_are = hops_are }) in
          let s = x.told tests held v (So es ended) told is walk in
          let gets = s.gets (λ j gone. absurd (cc gone)) in
          let puts = x.puts in
          let all : Replies (typed_lines w) m (resting v) (edit_across w (idle v) path es end false e) (Some (reply_after result)) n (resting lb.next) =
          replies_earlier w m k n v lb.next (due_behind w v path es end e r) (Some (reply_after result)) (walk_gets w v path es) (judged_across w (idle v) path es end e r).gets x.later x.blocks (told_not k.blocks held told_behind) gets (omega (arith, puts))
          (across_gets w v path es end e r) held_behind.carries lb.replies in
          let due : Replies (typed_lines w) m (resting v) (walk_due w false (idle v) Line path 0 (So es ended)) (Some (reply_after result)) n (resting lb.next) =
          subst (λ (z : Edit (List ℕ)). Replies (typed_lines w) m (resting v) (edit_across w (idle v) path es end false z) (Some (reply_after result)) n (resting lb.next)) (sym (edit_there verb path (drop end.hop.from path) json)) all in record {
            next = lb.next;
            at = lb.at;
            along = λ other walked_so. (
              0,
              subst (λ (z : Walked Value). Replies (typed_lines w) m (resting v) (walk_due w false (idle v) Line path 0 z) (Some (reply_after result)) n (resting lb.next)) (one w schema held v path (So es ended) other walk walked_so) due,
            );
          }

      leads_all : (es : List (Entered Value)) → hops ≡ hops_of es → IsWalked (Storable Read) (trees Read) held path es → WalksFrom (Of tests) held v path (So es ended)
          → LeadsAcross id_of false old (doc_after old result) tests Line path m held v (Some (reply_after result)) n
      leads_all [] hops_are walked walk = absurd (none-some last (sym (ap crossed hops_are) ∙ is_last))
      leads_all (e ∷ []) hops_are walked walk = absurd (none-some last (sym (ap crossed hops_are) ∙ is_last))
      leads_all (top ∷ next ∷ more) hops_are walked walk = leads_by top next more hops_are walked walk

      leads_here : LeadsAcross id_of false old (doc_after old result) tests Line path m held v (Some (reply_after result)) n
      leads_here = leads_all found.trees found.hops_are found.walked walks

    same_table : (r : Result Doc No) → IfOk r (λ d. (table_in d ≡ table_in old) × (type_in d ≡ type_in old)) → (table_in (doc_after old r) ≡ table_in old) × (type_in (doc_after old r) ≡ type_in old)
    same_table (Ok d) same = same
    same_table (Err refusal) same = (refl, refl)

    kept_by : (r : Result Doc No) (refusal : No) → Some (reply_after r) ≡ Some (R.No refusal) → block_in (doc_after old r) ≡ block_in old
    kept_by (Ok d) refusal told = absurd (cc told)
    kept_by (Err other) refusal told = refl

    rooted_by : (r : Result Doc No) (id : BlockId) → Some (reply_after r) ≡ Some (R.Root id) → id.0 ≡ id_of (block_in (doc_after old r))
    rooted_by (Ok d) id told = sym (ap told_root told)
    rooted_by (Err other) id told = absurd (cc told)

    failed_by : (r : Result Doc No) → (r ≡ Err N.Store → Rose k.faults n.faults) → Some (reply_after r) ≡ Some (R.No N.Store) → Rose m.faults n.faults
    failed_by (Ok d) f told = absurd (cc told)
    failed_by (Err refusal) f told = let up = x.later.faults in let rose : Rose k.faults n.faults = f (ap Err (ap told_refusal told)) in omega (arith, up, rose)

    pub crosses_links : inside ≡ false → Crosses id_of inside old (doc_after old result) Line path m (Some (reply_after result)) n
    crosses_links out = record {
      later = Later-trans m k n x.later c.later;
      table = (same_table result c.same).0;
      type = (same_table result c.same).1;
      none = λ is. absurd (none-some (reply_after result) (sym is));
      still = λ yes. absurd (cc (sym out ∙ yes));
      kept = kept_by result;
      told = λ t p is. absurd (cc is);
      rooted = rooted_by result;
      failed = failed_by result c.failed;
      leads = λ tests held v are told is. subst (λ (b : Bool). LeadsAcross id_of b old (doc_after old result) tests Line path m held v (Some (reply_after result)) n) (sym out) (leads_here tests held v are told is);
    }
