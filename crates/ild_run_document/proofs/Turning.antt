-- Lines of a session over a document: what each makes of it.
use Rattle.std.proofs.Common.{◌≡◌, ◌≢◌, ◌⊎◌, inl, inr, ℕ, List, [], Option, Some, None, Result, Ok, Err, refl, sym, ap, ◌∙◌, subst, arith}
use Rattle.ild_data.specs.Spell.{id_of}
use Rattle.ild_data.specs.declared.id.BlockId.{BlockId}
use Rattle.ild_dirty.specs.Flush.{ClashAnswer}
use Rattle.ild_dirty.specs.declared.fault.FlushFault.{FlushFault}
use Rattle.ild_dirty.specs.declared.fault.FlushFault.TheVariants as F
use Rattle.ild_edges.specs.Gained.{Collides}
use Rattle.ild_edges.specs.Store.{Moment, Keeps}
use Rattle.ild_edges.specs.Told.{BothTold}
use Rattle.ild_edges.proofs.Later.{Later-refl}
use Rattle.ild_schema.specs.Value.{Value}
use Rattle.ild_script.specs.declared.reply.No.{No}
use Rattle.ild_script.specs.declared.reply.No.TheVariants as N
use Rattle.ild_script.specs.declared.reply.Reply.{Reply}
use Rattle.ild_script.specs.declared.reply.Reply.TheVariants as R
use Rattle.ild_script.specs.declared.word.Word.{Word}
use Rattle.ild_script.specs.declared.word.Word.TheVariants as W
use Rattle.ild_path_edits.specs.Judged.{Tests}
use Rattle.ild_script_batch.specs.Commits.{commit_reply}
use Rattle.ild_script_batch.specs.Inside.{batching, begun_at}
use Rattle.ild_script_batch.specs.Stages.{BatchesBegin, BatchesEnd, StagesStay}
use Rattle.ild_script_session.specs.Batch.{together}
use Rattle.ild_script_session.specs.Session.{Stage, idle, resting}
use Rattle.ild_script_session.specs.Step.{IsExcused, Replies}
use Rattle.ild_script_meaning.specs.Ask.{Ask, asked_by, nothing, to_tell, to_edit, to_tell_root, to_begin, to_commit, to_abort, unknown}
use Rattle.ild_script_meaning.specs.Lines.{Setting, due, root_reply, typed_lines}
use Rattle.ild_view_doc.specs.Docs.{IsSame, block_in}
use Rattle.ild_view_doc.specs.declared.doc.Doc.{Doc}
use Rattle.ild_run_answers.specs.Asks.{IsOfSession}
use Rattle.ild_run_commit.specs.Commits.{Commits}
use Rattle.ild_run_standing.specs.Answers.{AnswersAs, LeadsOn}
use Rattle.ild_run_standing.specs.Standing.{IsOutside, StandsSo, setting_of}
use Rattle.ild_run_document.specs.Null.{null_text}
use Rattle.ild_run_document.specs.inside.Refusals.{refusal_of}
use Rattle.ild_run_document.specs.Turns.{AreAlike, Turns, TurnsTo}
use Rattle.ild_run_document.proofs.Settings.{carries_on, null_is, of_at, of_same, root_is}

-- ---- outside a batch

-- a read or an edit
pub asks_outside : (old new : Doc) (was now : List (List ℕ)) (a : Ask) (m : Moment) (reply : Option Reply) (n : Moment) → AnswersAs id_of old new a m reply n → Turns id_of old new None None was now a m reply n
asks_outside old new was now a m reply n x = record {
  later = x.later;
  table = x.table;
  type = x.type;
  alike = tt;
  kept = λ refusal is. (x.kept refusal is, refl);
  told = λ t path is. (x.told t path is, refl);
  rooted = x.rooted;
  failed = x.failed;
  blamed = x.blamed;
  clashed = λ is. inr (x.clashed is);
  leads = λ tests s are o.
      let on : LeadsOn id_of (setting_of id_of old tests) new a m o.value reply n = x.leads tests o.value are o.held in
      subst (λ (z : Stage Value). TurnsTo id_of (setting_of id_of old tests) new None now tests a m z reply n) (sym o.rests) (record {
        stage = resting on.next;
        replies = on.replies;
        stands = record { value = on.next; held = record { at = on.at; carries = carries_on id_of old new tests n (resting on.next) x.table x.type (on.replies.carries o.held.carries) }; rests = refl };
      });
}

-- a root is told by its id
root_told : (i j : BlockId) (b : List ℕ) → i.0 ≡ id_of b → ◌≡◌ {A = Option Reply} (Some (R.Root i)) (Some (R.Root j)) → j.0 ≡ id_of b
root_told i j b is e = let same : j.0 ≡ i.0 = cc in same ∙ is

-- as a line is due that leaves the stage, or refused for a cause
abbrev Stays : Doc → Ask → Moment → Option Reply → Tests → Stage Value → Type 0
Stays d a m reply tests s = ((reply ≡ (due (setting_of id_of d tests) a s.state).reply) × (s.state ≡ (due (setting_of id_of d tests) a s.state).next)) ⊎ IsExcused m (due (setting_of id_of d tests) a s.state).adds reply m (together m s)

-- nothing of the store is blamed
abbrev IsCalm : Option Reply → Type 0
IsCalm (Some (R.No N.Store)) = ⊥
IsCalm (Some (R.No N.Block)) = ⊥
IsCalm (Some (R.No N.Clash)) = ⊥
IsCalm reply = Unit {0}

calm_not : (reply : Option Reply) (refusal : No) → IsCalm reply → reply ≡ Some (R.No refusal) → IsCalm (Some (R.No refusal))
calm_not reply refusal calm is = subst (λ (r : Option Reply). IsCalm r) is calm

-- a line that leaves the stage, inside a batch or outside
pub stays_there : StagesStay → (d : Doc) (b : Option Doc) (own : List (List ℕ)) (a : Ask) (m : Moment) (reply : Option Reply) → AreAlike d b → IsCalm reply → ((id : BlockId) → reply ≡ Some (R.Root id) → id.0 ≡ id_of (block_in d))
    → ((tests : Tests) (s : Stage Value) → StandsSo id_of d b own tests m s → Stays d a m reply tests s) → Turns id_of d d b b own own a m reply m
stays_there stay d b own a m reply alike calm rooted stays = record {
  later = Later-refl m;
  table = refl;
  type = refl;
  alike = alike;
  kept = λ refusal is. (refl, refl);
  told = λ t path is. (refl, refl);
  rooted = rooted;
  failed = λ is. absurd (calm_not reply N.Store calm is);
  blamed = λ is. absurd (calm_not reply N.Block calm is);
  clashed = λ is. absurd (calm_not reply N.Clash calm is);
  leads = λ tests s are x. record {
    stage = s;
    replies = stay (setting_of id_of d tests) m s (due (setting_of id_of d tests) a s.state) reply (stays tests s x);
    stands = x;
  };
}

pub memory_is_wanting : StagesStay → (d : Doc) (b : Option Doc) (own : List (List ℕ)) (a : Ask) (m : Moment) → AreAlike d b → Turns id_of d d b b own own a m (Some (R.No N.Memory)) m
memory_is_wanting stay d b own a m alike = stays_there stay d b own a m (Some (R.No N.Memory)) alike tt (λ id e. absurd cc) (λ tests s x. inr (inl tt))

pub blank_stays : StagesStay → (d : Doc) (b : Option Doc) (own : List (List ℕ)) (m : Moment) → AreAlike d b → Turns id_of d d b b own own nothing m None m
blank_stays stay d b own m alike = stays_there stay d b own nothing m None alike tt (λ id e. absurd cc) (λ tests s x. inl (refl, refl))

pub unknown_stays : StagesStay → (d : Doc) (b : Option Doc) (own : List (List ℕ)) (m : Moment) → AreAlike d b → Turns id_of d d b b own own unknown m (Some (R.No N.Line)) m
unknown_stays stay d b own m alike = stays_there stay d b own unknown m (Some (R.No N.Line)) alike tt (λ id e. absurd cc) (λ tests s x. inl (refl, refl))

pub root_outside : StagesStay → (d : Doc) (own : List (List ℕ)) (m : Moment) (id : BlockId) → id.0 ≡ id_of (block_in d) → Turns id_of d d None None own own to_tell_root m (Some (R.Root id)) m
root_outside stay d own m id is = stays_there stay d None own to_tell_root m (Some (R.Root id)) tt tt (λ j e. root_told id j (block_in d) is e) (λ tests s o. inl (by tests s o)) where
  by : (tests : Tests) (s : Stage Value) (o : IsOutside id_of d tests m s) → (Some (R.Root id) ≡ (due (setting_of id_of d tests) to_tell_root s.state).reply) × (s.state ≡ (due (setting_of id_of d tests) to_tell_root s.state).next)
  by tests s o = subst (λ (z : Stage Value). (Some (R.Root id) ≡ (due (setting_of id_of d tests) to_tell_root z.state).reply) × (z.state ≡ (due (setting_of id_of d tests) to_tell_root z.state).next)) (sym o.rests)
      (ap (λ (b : List ℕ). Some (R.Root (record { 0 = b }))) is ∙ ap Some (sym (root_is id_of d tests m o.value o.held.at)), refl)

-- outside a batch none is kept or dropped
pub none_outside : StagesStay → (d : Doc) (own : List (List ℕ)) (m : Moment) → Turns id_of d d None None own own to_commit m (Some (R.No N.Batch)) m × Turns id_of d d None None own own to_abort m (Some (R.No N.Batch)) m
none_outside stay d own m = (
  stays_there stay d None own to_commit m (Some (R.No N.Batch)) tt tt (λ id e. absurd cc) (λ tests s o. inl (subst (λ (z : Stage Value). (Some (R.No N.Batch) ≡ (due (setting_of id_of d tests) to_commit z.state).reply) × (z.state ≡ (due (setting_of id_of d tests) to_commit z.state).next)) (sym o.rests) (refl, refl))),
  stays_there stay d None own to_abort m (Some (R.No N.Batch)) tt tt (λ id e. absurd cc) (λ tests s o. inl (subst (λ (z : Stage Value). (Some (R.No N.Batch) ≡ (due (setting_of id_of d tests) to_abort z.state).reply) × (z.state ≡ (due (setting_of id_of d tests) to_abort z.state).next)) (sym o.rests) (refl, refl))),
)

-- a batch begins
pub begins : BatchesBegin → (d b : Doc) (m : Moment) (own : List (List ℕ)) → IsSame d b → Turns id_of d d None (Some b) own [] to_begin m (Some (R.Ok null_text)) m
begins begin d b m own same = record {
  later = Later-refl m;
  table = refl;
  type = refl;
  alike = (same.table, same.type);
  kept = λ refusal is. absurd cc;
  told = λ t path is. absurd cc;
  rooted = λ id is. absurd cc;
  failed = λ is. absurd cc;
  blamed = λ is. absurd cc;
  clashed = λ is. absurd cc;
  leads = λ tests s are o.
      let w : Setting = setting_of id_of d tests in
      subst (λ (z : Stage Value). TurnsTo id_of w d (Some b) [] tests to_begin m z (Some (R.Ok null_text)) m) (sym o.rests) (record {
        stage = batching o.value o.value 0 [];
        replies = subst (λ (r : Reply). Replies (typed_lines w) m (resting o.value) (due w to_begin (idle o.value)) (Some r) m (batching o.value o.value 0 [])) null_is (begin w m o.value);
        stands = record {
          value = o.value;
          kept = o.value;
          owed = 0;
          at = o.held.at;
          begin = record { same = (same.table, same.type); of = of_same id_of d b o.value same.table same.type same.block (of_at id_of d m o.value o.held.at) };
          most = omega arith;
          is = refl;
          carries = (begin w m o.value).carries o.held.carries;
        };
      });
}

-- ---- inside a batch

-- the root isn't told there, and no batch begins
pub root_inside : StagesStay → (d b : Doc) (own : List (List ℕ)) (m : Moment) → AreAlike d (Some b) → Turns id_of d d (Some b) (Some b) own own to_tell_root m (Some (R.No N.Batch)) m × Turns id_of d d (Some b) (Some b) own own to_begin m (Some (R.No N.Batch)) m
root_inside stay d b own m alike = (
  stays_there stay d (Some b) own to_tell_root m (Some (R.No N.Batch)) alike tt (λ id e. absurd cc) (λ tests s x. inl (subst (λ (z : Stage Value). (Some (R.No N.Batch) ≡ (due (setting_of id_of d tests) to_tell_root z.state).reply) × (z.state ≡ (due (setting_of id_of d tests) to_tell_root z.state).next)) (sym x.is) (refl, refl))),
  stays_there stay d (Some b) own to_begin m (Some (R.No N.Batch)) alike tt (λ id e. absurd cc) (λ tests s x. inl (subst (λ (z : Stage Value). (Some (R.No N.Batch) ≡ (due (setting_of id_of d tests) to_begin z.state).reply) × (z.state ≡ (due (setting_of id_of d tests) to_begin z.state).next)) (sym x.is) (refl, refl))),
)

no_batch_by : StagesStay → (d b : Doc) (own : List (List ℕ)) (m : Moment) (a : Ask) → IsOfSession a → (a ≡ to_commit → ⊥) → (a ≡ to_abort → ⊥) → AreAlike d (Some b) → Turns id_of d d (Some b) (Some b) own own a m (Some (R.No N.Batch)) m
no_batch_by stay d b own m to_tell_root of c a alike = (root_inside stay d b own m alike).0
no_batch_by stay d b own m to_begin of c a alike = (root_inside stay d b own m alike).1
no_batch_by stay d b own m to_commit of c a alike = absurd (c refl)
no_batch_by stay d b own m to_abort of c a alike = absurd (a refl)
no_batch_by stay d b own m nothing of c a alike = absurd of
no_batch_by stay d b own m (to_tell t path) of c a alike = absurd of
no_batch_by stay d b own m (to_edit e) of c a alike = absurd of
no_batch_by stay d b own m unknown of c a alike = absurd of

not_commit : (verb : Word) (path : List (List ℕ)) (json : List ℕ) → verb ≢ W.Commit → asked_by verb path json ≡ to_commit → ⊥
not_commit W.Commit path json ne e = ne refl
not_commit W.Abort path json ne e = absurd cc
not_commit W.Get path json ne e = absurd cc
not_commit W.Rep path json ne e = absurd cc
not_commit W.Has path json ne e = absurd cc
not_commit W.Len path json ne e = absurd cc
not_commit W.Walk path json ne e = absurd cc
not_commit W.Set path json ne e = absurd cc
not_commit W.Ins path json ne e = absurd cc
not_commit W.Del path json ne e = absurd cc
not_commit W.Root path json ne e = absurd cc
not_commit W.Begin path json ne e = absurd cc

not_abort : (verb : Word) (path : List (List ℕ)) (json : List ℕ) → verb ≢ W.Abort → asked_by verb path json ≡ to_abort → ⊥
not_abort W.Abort path json ne e = ne refl
not_abort W.Commit path json ne e = absurd cc
not_abort W.Get path json ne e = absurd cc
not_abort W.Rep path json ne e = absurd cc
not_abort W.Has path json ne e = absurd cc
not_abort W.Len path json ne e = absurd cc
not_abort W.Walk path json ne e = absurd cc
not_abort W.Set path json ne e = absurd cc
not_abort W.Ins path json ne e = absurd cc
not_abort W.Del path json ne e = absurd cc
not_abort W.Root path json ne e = absurd cc
not_abort W.Begin path json ne e = absurd cc

pub no_batch : StagesStay → (d b : Doc) (own : List (List ℕ)) (m : Moment) (verb : Word) (path : List (List ℕ)) (json : List ℕ) → IsOfSession (asked_by verb path json) → verb ≢ W.Commit → verb ≢ W.Abort → AreAlike d (Some b)
    → Turns id_of d d (Some b) (Some b) own own (asked_by verb path json) m (Some (R.No N.Batch)) m
no_batch stay d b own m verb path json of c a alike = no_batch_by stay d b own m (asked_by verb path json) of (not_commit verb path json c) (not_abort verb path json a) alike

-- a batch is dropped: the document is the one at its begin
pub drops : BatchesEnd → (d b : Doc) (own now : List (List ℕ)) (m : Moment) → AreAlike d (Some b) → Turns id_of d b (Some b) None own now to_abort m (Some (R.Ok null_text)) m
drops end d b own now m alike = record {
  later = Later-refl m;
  table = alike.0;
  type = alike.1;
  alike = tt;
  kept = λ refusal is. absurd cc;
  told = λ t path is. absurd cc;
  rooted = λ id is. absurd cc;
  failed = λ is. absurd cc;
  blamed = λ is. absurd cc;
  clashed = λ is. absurd cc;
  leads = λ tests s are x.
      let w : Setting = setting_of id_of d tests in
      subst (λ (z : Stage Value). TurnsTo id_of w b None now tests to_abort m z (Some (R.Ok null_text)) m) (sym x.is) (record {
        stage = resting x.kept;
        replies = subst (λ (r : Reply). Replies (typed_lines w) m (batching x.value x.kept x.owed own) (due w to_abort (begun_at x.value x.kept)) (Some r) m (resting x.kept)) null_is (end w m x.value x.kept x.owed own);
        stands = record {
          value = x.kept;
          held = record {
            at = record { told = x.at.told; tree = x.begin.of.tree; storable = x.begin.of.storable; block = x.begin.of.block };
            carries = carries_on id_of d b tests m (resting x.kept) alike.0 alike.1 ((end w m x.value x.kept x.owed own).carries x.carries);
          };
          rests = refl;
        };
      });
}

-- ---- the commit

told_on : (o p : Option (List (List ℕ))) (P : List (List ℕ) → List (List ℕ) → Type 0) → BothTold o p P → o ≢ None → p ≢ None
told_on None p P both told = absurd (told refl)
told_on (Some held) None P both told = absurd both
told_on (Some held) (Some now) P both told = λ e. absurd cc

-- what is committed is the value
pub keeps : (d b : Doc) (own now : List (List ℕ)) (m n : Moment) (id : BlockId) → id.0 ≡ id_of (block_in d) → Commits id_of d own m (Ok tt) n → Turns id_of d d (Some b) None own now to_commit m (Some (R.Root id)) n
keeps d b own now m n id is c = record {
  later = c.later;
  table = refl;
  type = refl;
  alike = tt;
  kept = λ refusal e. absurd cc;
  told = λ t path e. absurd cc;
  rooted = λ j e. root_told id j (block_in d) is e;
  failed = λ e. absurd cc;
  blamed = λ e. absurd cc;
  clashed = λ e. absurd cc;
  leads = λ tests s are x.
      let w : Setting = setting_of id_of d tests in
      let replies : Replies (typed_lines w) m (batching x.value x.kept x.owed own) (due w to_commit (begun_at x.value x.kept)) (Some (root_reply w x.value)) n (resting x.value) = c.replies tests x.value x.kept x.owed are x.at x.most x.carries in
      let told : root_reply w x.value ≡ R.Root id = root_is id_of d tests m x.value x.at ∙ ap (λ (i : List ℕ). R.Root (record { 0 = i })) (sym is) in
      subst (λ (z : Stage Value). TurnsTo id_of w d None now tests to_commit m z (Some (R.Root id)) n) (sym x.is) (record {
        stage = resting x.value;
        replies = subst (λ (r : Reply). Replies (typed_lines w) m (batching x.value x.kept x.owed own) (due w to_commit (begun_at x.value x.kept)) (Some r) n (resting x.value)) told replies;
        stands = record {
          value = x.value;
          held = record {
            at = record { told = told_on m.blocks n.blocks Keeps c.later.keeps x.at.told; tree = x.at.tree; storable = x.at.storable; block = x.at.block };
            carries = replies.carries x.carries;
          };
          rests = refl;
        };
      });
}

reply_is : (w : Setting) (v : Value) (fault : FlushFault) → commit_reply w v (Err fault) ≡ R.No (refusal_of fault)
reply_is w v F.Store = refl
reply_is w v (F.Clash id kept new) = refl
reply_is w v F.Memory = refl

store_is : (fault : FlushFault) → Some (R.No (refusal_of fault)) ≡ Some (R.No N.Store) → (r : Result (Unit {0}) FlushFault) → r ≡ Err fault → r ≡ Err F.Store
store_is F.Store e r is = is
store_is (F.Clash id kept new) e r is = absurd cc
store_is F.Memory e r is = absurd cc

unblamed_commit : (fault : FlushFault) → Some (R.No (refusal_of fault)) ≡ Some (R.No N.Block) → ⊥
unblamed_commit F.Store e = absurd cc
unblamed_commit (F.Clash id kept new) e = absurd cc
unblamed_commit F.Memory e = absurd cc

clash_commit : (own : List (List ℕ)) (n : Moment) (fault : FlushFault) → Some (R.No (refusal_of fault)) ≡ Some (R.No N.Clash) → ClashAnswer own (Err fault) n → Collides n own
clash_commit own n F.Store e c = absurd cc
clash_commit own n (F.Clash id kept new) e c = c
clash_commit own n F.Memory e c = absurd cc

-- a refused commit leaves the batch open
pub stays_open : (d b : Doc) (own : List (List ℕ)) (m n : Moment) (fault : FlushFault) → AreAlike d (Some b) → Commits id_of d own m (Err fault) n → Turns id_of d d (Some b) (Some b) own own to_commit m (Some (R.No (refusal_of fault))) n
stays_open d b own m n fault alike c = record {
  later = c.later;
  table = refl;
  type = refl;
  alike = alike;
  kept = λ refusal e. (refl, refl);
  told = λ t path e. (refl, refl);
  rooted = λ id e. absurd cc;
  failed = λ e. c.failed (store_is fault e (Err fault) refl);
  blamed = λ e. absurd (unblamed_commit fault e);
  clashed = λ e. inl (clash_commit own n fault e c.clashed);
  leads = λ tests s are x.
      let w : Setting = setting_of id_of d tests in
      let replies : Replies (typed_lines w) m (batching x.value x.kept x.owed own) (due w to_commit (begun_at x.value x.kept)) (Some (commit_reply w x.value (Err fault))) n (batching x.value x.kept x.owed own) = c.replies tests x.value x.kept x.owed are x.at x.most x.carries in
      subst (λ (z : Stage Value). TurnsTo id_of w d (Some b) own tests to_commit m z (Some (R.No (refusal_of fault))) n) (sym x.is) (record {
        stage = batching x.value x.kept x.owed own;
        replies = subst (λ (r : Reply). Replies (typed_lines w) m (batching x.value x.kept x.owed own) (due w to_commit (begun_at x.value x.kept)) (Some r) n (batching x.value x.kept x.owed own)) (reply_is w x.value fault) replies;
        stands = record {
          value = x.value;
          kept = x.kept;
          owed = x.owed;
          at = record { told = told_on m.blocks n.blocks Keeps c.later.keeps x.at.told; tree = x.at.tree; storable = x.at.storable; block = x.at.block };
          begin = x.begin;
          most = x.most;
          is = refl;
          carries = replies.carries x.carries;
        };
      });
}
