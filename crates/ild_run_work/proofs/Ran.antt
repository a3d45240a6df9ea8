-- A line that is run on a root: where the value stays, and where the document of the root's block was asked.
use Rattle.std.proofs.Common.{◌≡◌, ◌⊎◌, inl, inr, ℕ, ◌+◌, ◌≤◌, List, [], Option, Some, None, Ok, Err, refl, sym, ap, ◌∙◌, subst, arith}
use Rattle.std.proofs.Math.Logic.{∥∥₁_map}
use Rattle.std.specs.List.{AllByRecursion}
use Rattle.std.specs.Option.{option_map_or}
use Rattle.std.specs.Prelude.{Contains}
use Rattle.std.proofs.lemmas.Option.{same_Some}
use Rattle.ild_data.specs.Limits.{deepest}
use Rattle.ild_data.specs.Spell.{id_of}
use Rattle.ild_data.specs.declared.id.BlockId.{BlockId}
use Rattle.ild_edges.proofs.Later.{Later-trans}
use Rattle.ild_edges.proofs.Reading.{reads_none}
use Rattle.ild_edges.specs.Count.{Rose}
use Rattle.ild_edges.specs.Gained.{AreHeld, CameFrom, CameWhole, OnlyReads}
use Rattle.ild_edges.specs.Store.{Moment, block_at}
use Rattle.ild_edges.specs.Told.{BothTold, IfTold}
use Rattle.ild_open.proofs.Settling.{open_stops}
use Rattle.ild_open.specs.inside.Found.{GetFinds}
use Rattle.ild_open.specs.Opened.{NoneStands}
use Rattle.ild_open_parts.proofs.Breaking.{broken_earlier}
use Rattle.ild_open_parts.specs.Broken.{HasBrokenBlock}
use Rattle.ild_open_parts.specs.declared.fault.OpenFault.{OpenFault}
use Rattle.ild_open_parts.specs.declared.fault.OpenFault.TheVariants as F
use Rattle.ild_path_edits.specs.Judged.{Tests, AreTests}
use Rattle.ild_run_standing.specs.Answers.{AnswersAs, LeadsOn}
use Rattle.ild_run_standing.specs.Blame.{HasClash, IsBroken}
use Rattle.ild_run_standing.specs.Laws.{HeldAreStanding, StandingAreAt, StillReplies}
use Rattle.ild_run_standing.specs.Standing.{IsHeldAt, setting_of}
use Rattle.ild_schema.specs.Legible.{IsLegible}
use Rattle.ild_schema.specs.Slots.{plainly}
use Rattle.ild_schema.specs.Value.{Value}
use Rattle.ild_schema.specs.declared.number.TypeNo.{TypeNo}
use Rattle.ild_schema.specs.declared.row.Row.{Row}
use Rattle.ild_script.specs.declared.reply.No.{No}
use Rattle.ild_script.specs.declared.reply.No.TheVariants as N
use Rattle.ild_script.specs.declared.reply.Reply.{Reply}
use Rattle.ild_script.specs.declared.reply.Reply.TheVariants as R
use Rattle.ild_script_batch.specs.Inside.{IsOfStore}
use Rattle.ild_script_meaning.specs.Ask.{Ask, nothing, to_tell, to_edit, to_tell_root, to_begin, to_commit, to_abort, unknown}
use Rattle.ild_script_meaning.specs.Lines.{Setting, due, typed_lines}
use Rattle.ild_script_session.specs.Session.{Due, Meaning, idle, resting}
use Rattle.ild_script_session.specs.Step.{Carries, HasCause, IsExcused, Replies}
use Rattle.ild_typed.specs.Schema.{IsSchema}
use Rattle.ild_typed.specs.Stands.{Stands, bare, root_id}
use Rattle.ild_view_doc.specs.Docs.{table_in, type_in, block_in}
use Rattle.ild_view_doc.specs.declared.doc.Doc.{Doc}
use Rattle.ild_run_work.specs.inside.Found.{found_refusal}
use Rattle.ild_run_work.specs.Plain.{due_on, own_ask}
use Rattle.ild_run_work.specs.Rules.{Rules, StandsAmong, setting_by}
use Rattle.ild_run_work.specs.Runs.{BlamesBlock, LeadsTo, Runs, opened}

-- ---- where the value stays

-- as it is due, or refused for a cause
abbrev Answered : Setting → Ask → Moment → Value → Reply → Moment → Type 0
Answered w a m v reply n = ((Some reply ≡ (due_on w v a).reply) × (idle v ≡ (due_on w v a).next)) ⊎ IsExcused m (due_on w v a).adds (Some reply) n n

module _ (still : StillReplies) (rules : Rules) (a : Ask) (root : List ℕ) where
  stays : (m n : Moment) → OnlyReads m n → n.gets ≤ m.gets + 1 → (reply : Reply) → ((id : BlockId) → reply ≡ R.Root id → id.0 ≡ root) → (reply ≡ R.No N.Store → Rose m.faults n.faults)
      → (reply ≡ R.No N.Block → ∥ BlamesBlock rules root m n ∥₁) → (reply ≡ R.No N.Clash → HasClash n)
      → ((held : List (List ℕ)) (tests : Tests) (v : Value) → m.blocks ≡ Some held → StandsAmong rules held root v → Answered (setting_by rules tests) a m v reply n) → Runs rules a m root root reply n
  stays m n only few reply rooted failed blamed clashed answered = record {
    later = only.later;
    kept = λ refusal is. refl;
    told = λ t path is. refl;
    rooted = rooted;
    failed = failed;
    blamed = blamed;
    clashed = clashed;
    leads = λ held tests v told are st. let same = only.puts in record {
      next = v;
      stands = record { there = λ now is. subst (λ (z : List (List ℕ)). StandsAmong rules z root v) (same_Some held now (sym told ∙ sym only.blocks ∙ is)) st };
      replies = still (setting_by rules tests) m n v (opened (due_on (setting_by rules tests) v a)) (Some reply) only.later only.blocks (omega (arith, few)) (omega (arith, same)) (answered held tests v told st);
    };
  }

  -- it is outside the grammar here
  pub outside_stays : (m : Moment) → own_ask a ≡ unknown → Runs rules a m root root (R.No N.Line) m
  outside_stays m is = stays m m (reads_none m) (omega arith) (R.No N.Line) (λ id e. absurd cc) (λ e. absurd cc) (λ e. absurd cc) (λ e. absurd cc)
      (λ held tests v told st. inl (sym (ap (λ z. (due (setting_by rules tests) z (idle v)).reply) is), sym (ap (λ z. (due (setting_by rules tests) z (idle v)).next) is)))

  pub memory_stays : (m : Moment) → Runs rules a m root root (R.No N.Memory) m
  memory_stays m = stays m m (reads_none m) (omega arith) (R.No N.Memory) (λ id e. absurd cc) (λ e. absurd cc) (λ e. absurd cc) (λ e. absurd cc) (λ held tests v told st. inr (inl tt))

root_in : Reply → List ℕ
root_in (R.Root id) = id.0
root_in (R.Ok text) = []
root_in (R.No refusal) = []

same_root : (id other : BlockId) → R.Root id ≡ R.Root other → id.0 ≡ other.0
unfolding root_in
same_root id other e = ap root_in e

-- the root is told
pub root_stays : StillReplies → (rules : Rules) (m : Moment) (id : BlockId) → Runs rules to_tell_root m id.0 id.0 (R.Root id) m
root_stays still rules m id = stays still rules to_tell_root id.0 m m (reads_none m) (omega arith) (R.Root id) (λ other e. sym (same_root id other e)) (λ e. absurd cc) (λ e. absurd cc) (λ e. absurd cc)
    (λ held tests v told st. inl (ap Some (ap (λ (i : List ℕ). R.Root (record { 0 = i })) st.root ∙ sym (ap (λ o. R.Root (record { 0 = option_map_or (root_id bare) o [] })) st.storable.tree)), refl))

-- ---- where the block isn't found

module _ (rules : Rules) (schema : IsSchema rules.rows) (legible : IsLegible rules.rows) (a : Ask) (root : List ℕ) (m n : Moment) where
  none_stands : (at : BlockId) (why : _) → GetFinds rules.rows rules.ty root m (Err (F.Block at why)) n → NoneStands id_of rules.rows rules.ty root m
  none_stands at why x = (open_stops rules.rows schema id_of rules.ty root legible {A = Unit {0}} (λ u. Unit {0}) m n (F.Block at why) x).answer.0

  failed_find : (fault : OpenFault) → GetFinds rules.rows rules.ty root m (Err fault) n → R.No (found_refusal fault) ≡ R.No N.Store → Rose m.faults n.faults
  failed_find (F.Block at why) x e = absurd cc
  failed_find F.Store x e = x.answer
  failed_find F.Memory x e = absurd cc

  answered_find : (fault : OpenFault) → GetFinds rules.rows rules.ty root m (Err fault) n → (held : List (List ℕ)) (tests : Tests) (v : Value) → m.blocks ≡ Some held → StandsAmong rules held root v
      → Answered (setting_by rules tests) a m v (R.No (found_refusal fault)) n
  answered_find (F.Block at why) x held tests v told st = absurd (none_stands at why x held v told st)
  answered_find F.Store x held tests v told st = inr (inl x.answer)
  answered_find F.Memory x held tests v told st = inr (inl tt)

  rootless : (fault : OpenFault) (id : BlockId) → R.No (found_refusal fault) ≡ R.Root id → id.0 ≡ root
  rootless fault id e = absurd cc

  blamed_find : (fault : OpenFault) → GetFinds rules.rows rules.ty root m (Err fault) n → R.No (found_refusal fault) ≡ R.No N.Block → ∥ BlamesBlock rules root m n ∥₁
  blamed_find (F.Block at why) x e = ∣ record { id = at.0; why = why; refused = inl x.answer } ∣₁
  blamed_find F.Store x e = absurd cc
  blamed_find F.Memory x e = absurd cc

  -- nothing is put that could clash
  clashed_find : (fault : OpenFault) → R.No (found_refusal fault) ≡ R.No N.Clash → HasClash n
  clashed_find (F.Block at why) e = absurd cc
  clashed_find F.Store e = absurd cc
  clashed_find F.Memory e = absurd cc

  pub not_found : StillReplies → (fault : OpenFault) → GetFinds rules.rows rules.ty root m (Err fault) n → Runs rules a m root root (R.No (found_refusal fault)) n
  not_found still fault x = stays still rules a root m n x.only x.gets (R.No (found_refusal fault)) (rootless fault) (failed_find fault x) (blamed_find fault x) (clashed_find fault) (answered_find fault x)

-- ---- where it was asked

-- a get before changes nothing but counts
module _ (M : Meaning Value) (m k n : Moment) (only : OnlyReads m k) (few : k.gets ≤ m.gets + 1) where
  rose : (was then now : ℕ) → was ≤ then → Rose then now → Rose was now
  rose was then now le up = omega (arith, le, up)

  either_rose : Rose k.lacks n.lacks ⊎ Rose k.gets n.gets → Rose m.lacks n.lacks ⊎ Rose m.gets n.gets
  either_rose (inl up) = inl (rose m.lacks k.lacks n.lacks only.later.lacks up)
  either_rose (inr up) = inr (rose m.gets k.gets n.gets only.later.gets up)

  cause_before : (new : List (List ℕ)) (refusal : No) → HasCause k new refusal n → HasCause m new refusal n
  cause_before new N.Block c = record { untold = sym only.blocks ∙ c.untold; lacks = either_rose c.lacks }
  cause_before new N.Store c = rose m.faults k.faults n.faults only.later.faults c
  cause_before new N.Clash c = c
  cause_before new N.Memory c = c
  cause_before new N.Line c = absurd c
  cause_before new N.Path c = absurd c
  cause_before new N.Json c = absurd c
  cause_before new N.Mismatch c = absurd c
  cause_before new N.Delimiter c = absurd c
  cause_before new N.Hole c = absurd c
  cause_before new N.Depth c = absurd c
  cause_before new N.Exhausted c = absurd c
  cause_before new N.Size c = absurd c
  cause_before new N.Reserved c = absurd c
  cause_before new N.Batch c = absurd c

  both_before : (new : List (List ℕ)) (refusal : No) → HasCause k new refusal n ⊎ HasCause k new refusal n → HasCause m new refusal n ⊎ HasCause m new refusal n
  both_before new refusal (inl c) = inl (cause_before new refusal c)
  both_before new refusal (inr c) = inr (cause_before new refusal c)

  excused_before : (new : List (List ℕ)) (reply : Option Reply) → IsExcused k new reply n n → IsExcused m new reply n n
  excused_before new None e = absurd e
  excused_before new (Some (R.Ok text)) e = absurd e
  excused_before new (Some (R.Root id)) e = absurd e
  excused_before new (Some (R.No refusal)) e = both_before new refusal e

  answered_before : (d : Due Value) (reply : Option Reply) (v next : Value) → ((reply ≡ d.reply) × (idle next ≡ d.next)) ⊎ (IsExcused k d.adds reply n n × (idle next ≡ idle v))
      → ((reply ≡ d.reply) × (idle next ≡ d.next)) ⊎ (IsExcused m d.adds reply n n × (idle next ≡ idle v))
  answered_before d reply v next (inl x) = inl x
  answered_before d reply v next (inr x) = inr (excused_before d.adds reply x.0, x.1)

  carried_then : (v : Value) → Carries M m (resting v) → Carries M k (resting v)
  carried_then v c = record {
    kept = subst (λ o. IfTold o (AreHeld (M.blocks v))) (sym only.blocks) c.kept;
    value = subst (λ o. IfTold o (AreHeld (M.blocks v))) (sym only.blocks) c.value;
    places = subst (λ o. AllByRecursion (λ p. Contains [] p.0 ⊎ IfTold o (AreHeld p.1)) (M.places v)) (sym only.blocks) c.places;
  }

  replies_before : (v next : Value) (d : Due Value) (reply : Option Reply) → Replies M k (resting v) d reply n (resting next) → Replies M m (resting v) (opened d) reply n (resting next)
  replies_before v next d reply r = let gets = r.gets in let puts = r.puts in let same = only.puts in record {
    answered = answered_before d reply v next r.answered;
    later = Later-trans m k n only.later r.later;
    carries = λ c. r.carries (carried_then v c);
    stored = record {
      adds = subst (λ o. BothTold o n.blocks (λ was now. CameFrom d.adds was now)) only.blocks r.stored.adds;
      whole = subst (λ o. BothTold o n.blocks (λ was now. CameWhole d.children was now)) only.blocks r.stored.whole;
    };
    still = λ none. r.still none ∙ only.blocks;
    stays = tt;
    gets = omega (arith, few, gets);
    puts = omega (arith, same, puts);
    owed = r.owed;
  }

own_of_store : (a : Ask) → IsOfStore a → a ≡ own_ask a
own_of_store (to_tell t path) of = refl
own_of_store (to_edit e) of = refl
own_of_store nothing of = absurd of
own_of_store to_tell_root of = absurd of
own_of_store to_begin of = absurd of
own_of_store to_commit of = absurd of
own_of_store to_abort of = absurd of
own_of_store unknown of = absurd of

told_there : (o : Option (List (List ℕ))) (held : List (List ℕ)) (P : List (List ℕ) → Type 0) → o ≡ Some held → IfTold o P → P held
told_there o held P is x = subst (λ k. IfTold k P) is x

module _ (standing : StandingAreAt) (back : HeldAreStanding) (rules : Rules) (a : Ask) (root : List ℕ) (m k n : Moment) (d e : Doc) (reply : Reply)
    (found : GetFinds rules.rows rules.ty root m (Ok d) k) (of : IsOfStore a) (ans : AnswersAs id_of d e a k (Some reply) n) where
  named : id_of (block_in d) ≡ root
  named = found.answer.get.answer.0

  settings : (tests : Tests) → setting_of id_of d tests ≡ setting_by rules tests
  settings tests = λ i. record { frame = bare; hash = id_of; rows = found.answer.table i; tests = tests; ty = found.answer.type i }

  settings_then : (tests : Tests) → setting_of id_of d tests ≡ setting_of id_of e tests
  settings_then tests = λ i. record { frame = bare; hash = id_of; rows = sym ans.table i; tests = tests; ty = sym ans.type i }

  module _ (held : List (List ℕ)) (tests : Tests) (v : Value) (told : m.blocks ≡ Some held) (are : AreTests rules.rows tests) (st : StandsAmong rules held root v) where
    held_at : IsHeldAt id_of d tests k v
    held_at = standing id_of d tests k held v (found.only.blocks ∙ told)
        (ap (block_at held) named ∙ told_there m.blocks held (λ blocks. block_at blocks root ≡ Some (block_in d)) told found.answer.get.answer.1)
        (subst (λ (r : List Row). Stands bare (block_at held) id_of r (type_in d) (id_of (block_in d)) v) (sym found.answer.table)
        (subst (λ (t : TypeNo). Stands bare (block_at held) id_of rules.rows t (id_of (block_in d)) v) (sym found.answer.type)
        (subst (λ (i : List ℕ). Stands bare (block_at held) id_of rules.rows rules.ty i v) (sym named) st)))

    on : LeadsOn id_of (setting_of id_of d tests) e a k v (Some reply) n
    on = ans.leads tests v (subst (λ (r : List Row). AreTests r tests) (sym found.answer.table) are) held_at

    held_then : IsHeldAt id_of e tests n on.next
    held_then = record { at = on.at; carries = subst (λ (w : Setting). Carries (typed_lines w) n (resting on.next)) (settings_then tests) (on.replies.carries held_at.carries) }

    stands_then : (now : List (List ℕ)) → n.blocks ≡ Some now → StandsAmong rules now (id_of (block_in e)) on.next
    stands_then now is =
        subst (λ (r : List Row). Stands bare (block_at now) id_of r rules.ty (id_of (block_in e)) on.next) (ans.table ∙ found.answer.table)
        (subst (λ (t : TypeNo). Stands bare (block_at now) id_of (table_in e) t (id_of (block_in e)) on.next) (ans.type ∙ found.answer.type) (back id_of e tests n now on.next is held_then))

    replies_by : Replies (typed_lines (setting_by rules tests)) k (resting v) (due_on (setting_by rules tests) v a) (Some reply) n (resting on.next)
    replies_by =
        subst (λ (b : Ask). Replies (typed_lines (setting_by rules tests)) k (resting v) (due (setting_by rules tests) b (idle v)) (Some reply) n (resting on.next)) (own_of_store a of)
        (subst (λ (w : Setting). Replies (typed_lines w) k (resting v) (due w a (idle v)) (Some reply) n (resting on.next)) (settings tests) on.replies)

    leads_to : LeadsTo rules (setting_by rules tests) a m v (id_of (block_in e)) reply n
    leads_to = record {
      next = on.next;
      stands = record { there = stands_then };
      replies = replies_before (typed_lines (setting_by rules tests)) m k n found.only found.gets v on.next (due_on (setting_by rules tests) v a) (Some reply) replies_by;
    }

  broken : IsBroken id_of d k.blocks k.lacks n.lacks → ∥ BlamesBlock rules root m n ∥₁
  broken some = ∥∥₁_map some (λ x.
      let in_rows : HasBrokenBlock id_of rules.rows k.blocks k.lacks n.lacks root deepest (plainly rules.ty) x.root.tree x.id x.why =
      subst (λ (i : List ℕ). HasBrokenBlock id_of rules.rows k.blocks k.lacks n.lacks i deepest (plainly rules.ty) x.root.tree x.id x.why) named
      (subst (λ (t : TypeNo). HasBrokenBlock id_of rules.rows k.blocks k.lacks n.lacks (id_of (block_in d)) deepest (plainly t) x.root.tree x.id x.why) found.answer.type
      (subst (λ (r : List Row). HasBrokenBlock id_of r k.blocks k.lacks n.lacks (id_of (block_in d)) deepest (plainly (type_in d)) x.root.tree x.id x.why) found.answer.table x.broken)) in
      record {
        id = x.id;
        why = x.why;
        refused = inr (record {
          block = block_in d;
          at = record { named = named; held = found.answer.get.answer.1 };
          tree = x.root.tree;
          is = x.root.block;
          wrong = broken_earlier id_of root rules.rows deepest (plainly rules.ty, x.root.tree) m k n x.id x.why found.only in_rows;
        });
      })

  pub was_asked : Runs rules a m root (id_of (block_in e)) reply n
  was_asked = record {
    later = Later-trans m k n found.only.later ans.later;
    kept = λ refusal is. ap id_of (ans.kept refusal (ap Some is)) ∙ named;
    told = λ t path is. ap id_of (ans.told t path is) ∙ named;
    rooted = λ id is. ans.rooted id (ap Some is);
    blamed = λ is. broken (ans.blamed (ap Some is));
    clashed = λ is. ans.clashed (ap Some is);
    failed = λ is. let up : Rose k.faults n.faults = ans.failed (ap Some is) in let le = found.only.later.faults in omega (arith, le, up);
    leads = λ held tests v told are st. leads_to held tests v told are st;
  }
