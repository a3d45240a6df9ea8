-- An edit in the tree of a hop, which is opened first.
use Rattle.std.proofs.Common.{◌≡◌, inr, inl, ℕ, List, length, Some, Result, Ok, Err, sym, ap, ◌∙◌, subst, arith}
use Rattle.ild_data.specs.Spell.{id_of}
use Rattle.ild_data.specs.declared.id.BlockId.{BlockId}
use Rattle.ild_edges.proofs.Later.{Later-trans}
use Rattle.ild_edges.specs.Count.{Rose}
use Rattle.ild_edges.specs.Store.{Moment}
use Rattle.ild_links.specs.declared.hop.Hop.{Hop}
use Rattle.ild_links_edit.proofs.Earlier.{refusal_in, replies_earlier, told_not}
use Rattle.ild_links_edit.specs.inside.Ends.{EditsIn, opened_due, reply_of}
use Rattle.ild_links_walk.specs.Last.{OpenCause, OpenedAt, OpensLast, setting_at}
use Rattle.ild_path_edits.specs.Edit.{Edit}
use Rattle.ild_path_edits.specs.Judged.{AreTests, Tests}
use Rattle.ild_run_standing.specs.Answers.{AnswersAs}
use Rattle.ild_run_standing.specs.Laws.{StillReplies}
use Rattle.ild_run_standing.specs.Standing.{setting_of}
use Rattle.ild_schema.specs.Value.{Value}
use Rattle.ild_schema.specs.declared.row.Row.{Row}
use Rattle.ild_script.specs.declared.reply.No.{No}
use Rattle.ild_script.specs.declared.reply.No.TheVariants as N
use Rattle.ild_script.specs.declared.reply.Reply.TheVariants as R
use Rattle.ild_script_meaning.specs.Ask.{to_edit}
use Rattle.ild_script_meaning.specs.Lines.{Setting, due, typed_lines, value_blocks}
use Rattle.ild_script_session.specs.Session.{idle, resting}
use Rattle.ild_script_session.specs.Step.{Carries, HasCause, Replies}
use Rattle.ild_typed.specs.Stands.{bare}
use Rattle.ild_view_doc.specs.declared.doc.Doc.{Doc}

module _ (rows : List Row) (hop : Hop) (path : List (List ℕ)) (e : Edit (List ℕ)) where
  -- ---- it isn't opened

  open_cause : (m n : Moment) (tests : Tests) (v : Value) (new : List (List ℕ)) (refusal : No) → OpenCause m (Err refusal) n → OpenedAt id_of tests v (Err refusal) n → HasCause m new refusal n
  open_cause m n tests v new N.Block cause at = absurd at
  open_cause m n tests v new N.Store cause at = cause
  open_cause m n tests v new N.Memory cause at = tt
  open_cause m n tests v new N.Line cause at = cause
  open_cause m n tests v new N.Path cause at = cause
  open_cause m n tests v new N.Json cause at = cause
  open_cause m n tests v new N.Mismatch cause at = cause
  open_cause m n tests v new N.Delimiter cause at = cause
  open_cause m n tests v new N.Hole cause at = cause
  open_cause m n tests v new N.Depth cause at = cause
  open_cause m n tests v new N.Exhausted cause at = cause
  open_cause m n tests v new N.Size cause at = cause
  open_cause m n tests v new N.Reserved cause at = cause
  open_cause m n tests v new N.Clash cause at = absurd cause
  open_cause m n tests v new N.Batch cause at = cause

  pub not_opened : StillReplies → (m n : Moment) (refusal : No) → OpensLast id_of rows hop path m (Err refusal) n → EditsIn rows hop e m (Err refusal) n
  not_opened still m n refusal o = record {
    later = o.only.later;
    failed = λ is. subst (λ (r : No). OpenCause m (Err r) n) (ap refusal_in is) o.cause;
    leads = λ tests held v are told st.
        let w = setting_at id_of rows tests hop in
        let z = o.told tests held v told st in
        let got = z.gets in
        let puts = o.only.puts in record {
          next = v;
          replies = still w m n v (opened_due w v e) (Some (R.No refusal)) o.only.later o.only.blocks (omega (arith, got)) (omega (arith, puts)) (inr (inl (open_cause m n tests v (opened_due w v e).adds refusal o.cause z.at)));
        };
  }

  -- ---- it is, and the edit is done in its document

  pub edited : (m k n : Moment) (doc new : Doc) (rest : List (List ℕ)) → OpensLast id_of rows hop path m (Ok (doc, rest)) k → (result : Result BlockId No) → AnswersAs id_of doc new (to_edit e) k (Some (reply_of result)) n → EditsIn rows hop e m result n
  edited m k n doc new rest o result x = record {
    later = Later-trans m k n o.only.later x.later;
    failed = λ is. let up = o.only.later.faults in let rose : Rose k.faults n.faults = x.failed (ap (λ (r : Result BlockId No). Some (reply_of r)) is) in omega (arith, up, rose);
    leads = λ tests held v are told st.
        let w = setting_at id_of rows tests hop in
        let same : setting_of id_of doc tests ≡ w = (λ i. record { frame = bare; hash = id_of; rows = o.done.table i; tests = tests; ty = o.done.type i }) in
        let z = o.told tests held v told st in
        let on = x.leads tests v (subst (λ (t : List Row). AreTests t tests) (sym o.done.table) are) z.at in
        let carries = subst (λ (u : Setting). Carries (typed_lines u) k (resting v)) same z.at.carries in
        let replies = subst (λ (u : Setting). Replies (typed_lines u) k (resting v) (due u (to_edit e) (idle v)) (Some (reply_of result)) n (resting on.next)) same on.replies in
        let got = z.gets in
        let still = o.only.puts in record {
          next = on.next;
          replies = replies_earlier w m k n v on.next (due w (to_edit e) (idle v)) (Some (reply_of result)) (length (value_blocks w v)) (opened_due w v e).gets o.only.later o.only.blocks (told_not k.blocks held (o.only.blocks ∙ told)) got (omega (arith, still))
              (omega arith) carries replies;
        };
  }
