-- What is told in the tree of a hop, from what is told in a document.
use Rattle.std.proofs.Common.{◌≡◌, inl, inr, ⊎_elim, ℕ, List, [], drop, Some, Ok, Err, sym, ap, ◌∙◌, subst, arith}
use Rattle.ild_edges.proofs.Later.{Later-trans}
use Rattle.ild_edges.specs.Count.{Rose}
use Rattle.ild_edges.specs.Store.{Later, Moment, block_at}
use Rattle.ild_links.specs.declared.hop.Hop.{Hop}
use Rattle.ild_links_read.specs.Reads.{Tells, TellsAt, TellsIn, TellsOf}
use Rattle.ild_links_walk.specs.Last.{OpenCause, OpenedAt, OpensLast, setting_at}
use Rattle.ild_path_edits.specs.Judged.{Tests}
use Rattle.ild_run_reads.specs.Replies.{IsOfRead}
use Rattle.ild_run_standing.specs.Standing.{setting_of}
use Rattle.ild_schema.specs.Value.{Value}
use Rattle.ild_schema.specs.declared.number.TypeNo.{TypeNo}
use Rattle.ild_schema.specs.declared.row.Row.{Row}
use Rattle.ild_script.specs.declared.reply.No.{No}
use Rattle.ild_script.specs.declared.reply.No.TheVariants as N
use Rattle.ild_script.specs.declared.reply.Reply.{Reply}
use Rattle.ild_script.specs.declared.reply.Reply.TheVariants as R
use Rattle.ild_script_meaning.specs.Ask.{Tell}
use Rattle.ild_script_meaning.specs.Lines.{Setting}
use Rattle.ild_script_session.specs.Step.{HasCause, IsExcused}
use Rattle.ild_typed.specs.Stands.{Stands, bare}
use Rattle.ild_view_doc.specs.Docs.{type_in}
use Rattle.ild_view_doc.specs.declared.doc.Doc.{Doc}

-- ---- a cause that is there from a later moment on is there from the earlier one on

module _ (m k n : Moment) (later : Later m k) (same : k.blocks ≡ m.blocks) where
  cause_before : (refusal : No) → HasCause k [] refusal n → HasCause m [] refusal n
  cause_before N.Block c = record {
    untold = sym same ∙ c.untold;
    lacks = ⊎_elim (λ rose. let up = later.lacks in inl (omega (arith, up, rose))) (λ rose. let up = later.gets in inr (omega (arith, up, rose))) c.lacks;
  }
  cause_before N.Store c = let up = later.faults in omega (arith, up, c)
  cause_before N.Clash c = c
  cause_before N.Memory c = tt
  cause_before N.Line c = absurd c
  cause_before N.Path c = absurd c
  cause_before N.Json c = absurd c
  cause_before N.Mismatch c = absurd c
  cause_before N.Delimiter c = absurd c
  cause_before N.Hole c = absurd c
  cause_before N.Depth c = absurd c
  cause_before N.Exhausted c = absurd c
  cause_before N.Size c = absurd c
  cause_before N.Reserved c = absurd c
  cause_before N.Batch c = absurd c

  pub excused_before : (reply : Reply) → IsExcused k [] (Some reply) n n → IsExcused m [] (Some reply) n n
  excused_before (R.Ok json) x = absurd x
  excused_before (R.Root id) x = absurd x
  excused_before (R.No refusal) x = ⊎_elim (λ c. inl (cause_before refusal c)) (λ c. inr (cause_before refusal c)) x

module _ (h : List ℕ → List ℕ) (rows : List Row) (hop : Hop) (path : List (List ℕ)) (t : Tell) (m k n : Moment) where
  -- ---- the tree is opened

  -- in the value at which the opened document stands
  told_of : (d : Doc) (rest : List (List ℕ)) (reply : Reply) → OpensLast h rows hop path m (Ok (d, rest)) k → Tells h d rest t k reply n
      → (tests : Tests) (held : List (List ℕ)) (v : Value) → m.blocks ≡ Some held → Stands bare (block_at held) h rows hop.ty hop.id.0 v → TellsOf (setting_at h rows tests hop) t (drop hop.from path) v m reply n
  told_of d rest reply o x tests held v told st =
      let y = o.told tests held v told st in
      let w = setting_at h rows tests hop in
      let same : setting_of h d tests ≡ w = ap (λ (rs : List Row). record { frame = bare; hash = h; rows = rs; tests = tests; ty = type_in d }) o.done.table ∙ ap (λ (ty : TypeNo). record { frame = bare; hash = h; rows = rows; tests = tests; ty = ty }) o.done.type in
      let z : TellsAt w t (drop hop.from path) v k reply n =
      subst (λ (p : List (List ℕ)). TellsAt w t p v k reply n) o.done.rest (subst (λ (u : Setting). TellsAt u t rest v k reply n) same (x.told tests v y.at)) in
      let few = z.gets in
      let blocks = y.gets in
      record {
        answer = ⊎_elim (λ due. inl due) (λ excused. inr (excused_before m k n o.only.later o.only.blocks reply excused)) z.answer;
        gets = omega (arith, few, blocks);
      }

  pub tells_ok : (d : Doc) (rest : List (List ℕ)) (reply : Reply) → OpensLast h rows hop path m (Ok (d, rest)) k → Tells h d rest t k reply n → TellsIn h rows hop path t m reply n
  tells_ok d rest reply o x = record {
    only = record { later = Later-trans m k n o.only.later x.only.later; blocks = x.only.blocks ∙ o.only.blocks; given = x.only.given ∙ o.only.given; puts = x.only.puts ∙ o.only.puts };
    own = x.own;
    failed = λ is. let rose : Rose k.faults n.faults = x.failed is in let up = o.only.later.faults in omega (arith, rose, up);
    told = told_of d rest reply o x;
  }

-- ---- it isn't

module _ (h : List ℕ → List ℕ) (rows : List Row) (hop : Hop) (path : List (List ℕ)) (t : Tell) (m n : Moment) where
  excuse : (tests : Tests) (v : Value) (refusal : No) → OpenCause m (Err refusal) n → OpenedAt h tests v (Err refusal) n → IsExcused m [] (Some (R.No refusal)) n n
  excuse tests v N.Block cause at = absurd at
  excuse tests v N.Store cause at = inl cause
  excuse tests v N.Memory cause at = inl tt
  excuse tests v N.Clash cause at = absurd cause
  excuse tests v N.Line cause at = absurd cause
  excuse tests v N.Path cause at = absurd cause
  excuse tests v N.Json cause at = absurd cause
  excuse tests v N.Mismatch cause at = absurd cause
  excuse tests v N.Delimiter cause at = absurd cause
  excuse tests v N.Hole cause at = absurd cause
  excuse tests v N.Depth cause at = absurd cause
  excuse tests v N.Exhausted cause at = absurd cause
  excuse tests v N.Size cause at = absurd cause
  excuse tests v N.Reserved cause at = absurd cause
  excuse tests v N.Batch cause at = absurd cause

  own_err : (refusal : No) → OpenCause m (Err refusal) n → IsOfRead (R.No refusal)
  own_err N.Clash cause = cause
  own_err N.Block cause = tt
  own_err N.Store cause = tt
  own_err N.Memory cause = tt
  own_err N.Line cause = tt
  own_err N.Path cause = tt
  own_err N.Json cause = tt
  own_err N.Mismatch cause = tt
  own_err N.Delimiter cause = tt
  own_err N.Hole cause = tt
  own_err N.Depth cause = tt
  own_err N.Exhausted cause = tt
  own_err N.Size cause = tt
  own_err N.Reserved cause = tt
  own_err N.Batch cause = tt

  refusal_is : (refusal other : No) → R.No refusal ≡ R.No other → refusal ≡ other
  refusal_is refusal other is = cc is

  pub tells_err : (refusal : No) → OpensLast h rows hop path m (Err refusal) n → TellsIn h rows hop path t m (R.No refusal) n
  tells_err refusal o = record {
    only = o.only;
    own = own_err refusal o.cause;
    failed = λ is. subst (λ (r : No). OpenCause m (Err r) n) (refusal_is refusal N.Store is) o.cause;
    told = λ tests held v told st. let y = o.told tests held v told st in let few = y.gets in record { answer = inr (excuse tests v refusal o.cause y.at); gets = omega (arith, few) };
  }
