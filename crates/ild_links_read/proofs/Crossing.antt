-- A read that crosses links, along the walk of its path.
use Rattle.std.proofs.Common.{◌≡◌, inl, inr, ⊎_elim, ℕ, ◌+◌, ◌≤◌, Bool, List, [], ◌∷◌, drop, Some, Ok, refl, sym, ap, ◌∙◌, subst, arith}
use Rattle.std.proofs.lemmas.Option.{none-some, same_Some}
use Rattle.ild_edges.proofs.Later.{Later-trans}
use Rattle.ild_edges.specs.Count.{Rose}
use Rattle.ild_edges.specs.Store.{Moment, block_at}
use Rattle.ild_links.specs.Follows.{hops_of}
use Rattle.ild_links.specs.Trees.{first_tree, tree_of}
use Rattle.ild_links.specs.Walk.{Ending, Entered, Walked, ended, not_held}
use Rattle.ild_links.specs.declared.following.TheConstants.{MOST_LINKS}
use Rattle.ild_links.specs.declared.hop.Hop.{Hop}
use Rattle.ild_links_lines.specs.Lines.{WalksFrom, due_by, last_tree, walk_due, walk_gets}
use Rattle.ild_links_lines.specs.Walks.{Crosses, CrossingAnswer, WalksAlong, trees_of}
use Rattle.ild_links_read.proofs.Telling.{excused_before}
use Rattle.ild_links_read.specs.Reads.{TellsIn, TellsOf}
use Rattle.ild_links_walk.proofs.Lasts.{last_is, last_stands}
use Rattle.ild_links_walk.proofs.Refused.{at_later}
use Rattle.ild_links_walk.proofs.Walked.{first_stands, walk_here}
use Rattle.ild_links_walk.specs.Last.{crossed, last_hop, setting_at}
use Rattle.ild_path_edits.specs.Judged.{Tests}
use Rattle.ild_run_links.proofs.Standing.{stands_under}
use Rattle.ild_run_links.specs.Trees.{Storable, trees}
use Rattle.ild_run_reads.specs.Replies.{IsOfRead}
use Rattle.ild_run_standing.proofs.Held.{held_are_standing}
use Rattle.ild_run_standing.proofs.Still.{still_replies}
use Rattle.ild_run_standing.specs.Standing.{IsHeldAt, setting_of}
use Rattle.ild_schema.specs.Value.{Value}
use Rattle.ild_script.specs.declared.reply.No.TheVariants as N
use Rattle.ild_script.specs.declared.reply.Reply.{Reply}
use Rattle.ild_script.specs.declared.reply.Reply.TheVariants as R
use Rattle.ild_script_meaning.specs.Ask.{Tell, to_tell}
use Rattle.ild_script_meaning.specs.Lines.{typed_lines}
use Rattle.ild_script_session.specs.Session.{Due, idle, resting}
use Rattle.ild_script_session.specs.Step.{Replies}
use Rattle.ild_typed.specs.Stands.{Stands, bare}
use Rattle.ild_view_doc.specs.Docs.{table_in}
use Rattle.ild_view_doc.specs.declared.doc.Doc.{Doc}

module _ (h : List ℕ → List ℕ) (d : Doc) (inside : Bool) (t : Tell) (path : List (List ℕ)) (m k n : Moment) (hops : List Hop) (hop : Hop) (reply : Reply)
    (x : WalksAlong h d path m (Ok hops) k) (is : crossed hops ≡ Some hop) (y : TellsIn h (table_in d) hop path t k reply n) where
  blocks : n.blocks ≡ m.blocks
  blocks = y.only.blocks ∙ x.blocks

  puts : n.puts ≡ m.puts
  puts = y.only.puts ∙ x.puts

  module _ (tests : Tests) (held : List (List ℕ)) (v : Value) (walked : Walked Value) (told : m.blocks ≡ Some held) (at : IsHeldAt h d tests m v)
      (walk : WalksFrom (setting_of h d tests) held v path walked) where
    abbrev DueBy : List (Entered Value) → Ending → Due Value
    DueBy es end = due_by (setting_of h d tests) inside (idle v) (to_tell t path) path 0 es end

    -- what is told in the last tree
    told_last : (last : Entered Value) → last.hop ≡ hop → Stands bare (block_at held) h (table_in d) last.hop.ty last.hop.id.0 last.value → TellsOf (setting_at h (table_in d) tests last.hop) t (drop last.hop.from path) last.value k reply n
    told_last last same st =
        let z = y.told tests held last.value (x.blocks ∙ told) (subst (λ (j : Hop). Stands bare (block_at held) h (table_in d) j.ty j.id.0 last.value) same st) in
        subst (λ (j : Hop). TellsOf (setting_at h (table_in d) tests j) t (drop j.from path) last.value k reply n) (sym same) z

    replies_by : (e f : Entered Value) (es : List (Entered Value)) → walked.trees ≡ e ∷ f ∷ es → TellsOf (setting_at h (table_in d) tests (last_tree f es).hop) t (drop (last_tree f es).hop.from path) (last_tree f es).value k reply n
        → Replies (typed_lines (setting_of h d tests)) m (resting v) (DueBy (e ∷ f ∷ es) ended) (Some reply) n (resting v)
    replies_by e f es are z =
        let so = x.told tests held v walked told at walk in
        let first : k.gets ≤ m.gets + walk_gets (setting_of h d tests) v path (e ∷ f ∷ es) = subst (λ (ts : List (Entered Value)). k.gets ≤ m.gets + walk_gets (setting_of h d tests) v path ts) are
        (so.gets (λ j gone. let apart : ended ≡ not_held j = sym so.agrees.0 ∙ gone in absurd (cc apart))) in
        let last = z.gets in
        let same = puts in
        still_replies (setting_of h d tests) m n v (DueBy (e ∷ f ∷ es) ended) (Some reply) (Later-trans m k n x.later y.only.later) blocks (omega (arith, first, last)) (omega (arith, same))
        (⊎_elim (λ due. inl (ap Some due, refl)) (λ excused. inr (excused_before m k n x.later x.blocks reply excused)) z.answer)

    -- what holds of such trees holds of those of the walk
    of_walk : (es : List (Entered Value)) → walked.trees ≡ es → walked.ending ≡ ended → Replies (typed_lines (setting_of h d tests)) m (resting v) (DueBy es ended) (Some reply) n (resting v)
        → Replies (typed_lines (setting_of h d tests)) m (resting v) (walk_due (setting_of h d tests) inside (idle v) (to_tell t path) path 0 walked) (Some reply) n (resting v)
    of_walk es are end r =
        subst (λ (z : Ending). Replies (typed_lines (setting_of h d tests)) m (resting v) (DueBy walked.trees z) (Some reply) n (resting v)) (sym end)
        (subst (λ (zs : List (Entered Value)). Replies (typed_lines (setting_of h d tests)) m (resting v) (DueBy zs ended) (Some reply) n (resting v)) (sym are) r)

    across_by : (es : List (Entered Value)) → walked.trees ≡ es → CrossingAnswer (setting_of h d tests) inside (to_tell t path) path m v walked n v (Some reply)
    across_by [] are =
        let so = x.told tests held v walked told at walk in
        absurd (none-some hop (sym (ap (λ (zs : List (Entered Value)). crossed (hops_of zs)) are) ∙ sym (ap crossed so.agrees.1) ∙ is))
    across_by (e ∷ []) are =
        let so = x.told tests held v walked told at walk in
        absurd (none-some hop (sym (ap (λ (zs : List (Entered Value)). crossed (hops_of zs)) are) ∙ sym (ap crossed so.agrees.1) ∙ is))
    across_by (e ∷ f ∷ es) are =
        let so = x.told tests held v walked told at walk in
        let first = trees_of h d in
        let last = last_tree f es in
        let some : crossed (hops_of (e ∷ f ∷ es)) ≡ Some hop = sym (ap (λ (zs : List (Entered Value)). crossed (hops_of zs)) are) ∙ sym (ap crossed so.agrees.1) ∙ is in
        let hop_is : last.hop ≡ hop = sym (last_is f es) ∙ same_Some (last_hop f.hop (hops_of es)) hop some in
        let st = held_are_standing h d tests m held v told at in
        let stands = last_stands (Storable first) (trees first) held path MOST_LINKS (first_tree (trees first)) v 0 walked e (f ∷ es) are (first_stands h d held v st) (walk_here h d tests held v path walked st walk) in
        let z = told_last last hop_is (stands_under first held (tree_of last.hop) last.value stands) in
        (0, of_walk (e ∷ f ∷ es) are so.agrees.0 (replies_by e f es are z))

  pub crosses : Crosses h inside d d (to_tell t path) path m (Some reply) n
  crosses = record {
    later = Later-trans m k n x.later y.only.later;
    table = refl;
    type = refl;
    none = λ no. absurd (none-some reply (sym no));
    still = λ yes. (refl, blocks, puts);
    kept = λ refusal no. refl;
    told = λ tell old is. refl;
    rooted = λ id root. absurd (subst (λ (r : Reply). IsOfRead r) (same_Some reply (R.Root id) root) y.own);
    failed = λ no. let rose : Rose k.faults n.faults = y.failed (same_Some reply (R.No N.Store) no) in let up = x.later.faults in omega (arith, rose, up);
    leads = λ tests held v are told at. record {
      next = v;
      at = at_later h d tests m n held v told blocks at;
      along = λ walked walk. across_by tests held v walked told at walk walked.trees refl;
    };
  }
