-- A read or an edit inside a batch.
use Rattle.std.proofs.Common.{◌≡◌, ◌≢◌, inr, ℕ, ◌-◌, ◌^◌, ◌≤◌, List, ◌++◌, length, Option, Some, None, refl, sym, ap, ◌∙◌, subst}
use Rattle.std.specs.Prelude.{option_map}
use Rattle.std.proofs.lemmas.Option.{same_Some}
use Rattle.ild_script_batch.proofs.Inside.{told_over}
use Rattle.ild_data.specs.Spell.{id_of}
use Rattle.ild_data.specs.declared.id.BlockId.{BlockId}
use Rattle.ild_dirty.specs.Batch.{batch_moment}
use Rattle.ild_edges.specs.Store.{Moment}
use Rattle.ild_schema.specs.Value.{Value}
use Rattle.ild_script.specs.declared.reply.No.{No}
use Rattle.ild_script.specs.declared.reply.No.TheVariants as N
use Rattle.ild_script.specs.declared.reply.Reply.{Reply}
use Rattle.ild_script.specs.declared.reply.Reply.TheVariants as R
use Rattle.ild_path_edits.specs.Judged.{Tests, AreTests}
use Rattle.ild_script_batch.specs.Inside.{AnswersInside, CarriedOverBatch, IsAnsweredInside, IsLaterBeneath, IsOfStore, LaterBeneath, batching, begun_at, told_inside}
use Rattle.ild_script_session.specs.Batch.{beside}
use Rattle.ild_script_session.specs.Session.{Stage}
use Rattle.ild_script_meaning.specs.Ask.{Ask}
use Rattle.ild_script_meaning.specs.Lines.{Setting, due}
use Rattle.ild_view_doc.specs.Docs.{table_in}
use Rattle.ild_view_doc.specs.declared.doc.Doc.{Doc}
use Rattle.ild_run_standing.specs.Answers.{AnswersAs, LeadsOn}
use Rattle.ild_run_standing.specs.Blame.{HasClash}
use Rattle.ild_run_standing.specs.Standing.{IsHeldAt, IsInBatch, setting_of}
use Rattle.ild_run_document.specs.Null.{null_text}
use Rattle.ild_run_document.specs.Turns.{AreAlike, Turns, TurnsTo}
use Rattle.ild_run_document.proofs.Settings.{begin_on, carries_on, null_is}

refused_as : (reply : Reply) (refusal : No) → Some (told_inside reply) ≡ Some (R.No refusal) → reply ≡ R.No refusal
refused_as (R.No other) refusal e = same_Some (R.No other) (R.No refusal) e
refused_as (R.Ok text) refusal e = absurd cc
refused_as (R.Root id) refusal e = absurd (let bad : R.Ok null_text ≡ R.No refusal = sym null_is ∙ same_Some (told_inside (R.Root id)) (R.No refusal) e in cc)

-- no root is told inside a batch
rootless : (reply : Reply) (id : BlockId) → Some (told_inside reply) ≡ Some (R.Root id) → ⊥
rootless (R.No other) id e = absurd cc
rootless (R.Ok text) id e = absurd cc
rootless (R.Root other) id e = absurd (let bad : R.Ok null_text ≡ R.Root id = sym null_is ∙ same_Some (told_inside (R.Root other)) (R.Root id) e in cc)

told_beneath : (own : List (List ℕ)) (o : Option (List (List ℕ))) → option_map (λ held. own ++ held) o ≢ None → o ≢ None
told_beneath own None told = told
told_beneath own (Some held) told = λ e. absurd cc

-- what collides over a batch does so with what the store and the batch hold together
clash_over : (b : Doc) (n : Moment) (own : List (List ℕ)) (g p : ℕ) (y : ℕ × ℕ) → HasClash (batch_moment n own g p y) → HasClash (beside (Some b) own n)
clash_over b n own g p y x = let c = x.1 in (x.0, record { kept = c.kept; new = c.new; held = c.held; among = c.among; collide = c.collide })

pub asks_inside : AnswersInside → CarriedOverBatch → LaterBeneath → (old new b : Doc) (was now : List (List ℕ)) (a : Ask) (m n : Moment) (reply : Reply) (g p : ℕ) (x y : ℕ × ℕ)
    → IsOfStore a → length now ≤ 2 ^ 64 - 1 → AreAlike old (Some b) → AnswersAs id_of old new a (batch_moment m was 0 0 x) (Some reply) (batch_moment n now g p y) → Turns id_of old new (Some b) (Some b) was now a m (Some (told_inside reply)) n
asks_inside inside over beneath old new b was now a m n reply g p x y of fits alike ans =
    let under : IsLaterBeneath m n x y = beneath m n was now 0 g 0 p x y ans.later in record {
      later = under.later;
      table = ans.table;
      type = ans.type;
      alike = (alike.0 ∙ sym ans.table, alike.1 ∙ sym ans.type);
      kept = λ refusal is. (ans.kept refusal (ap Some (refused_as reply refusal is)), refl);
      told = λ t path is. (ans.told t path is, refl);
      rooted = λ id is. absurd (rootless reply id is);
      failed = λ is. ans.failed (ap Some (refused_as reply N.Store is));
      blamed = λ is. ans.blamed (ap Some (refused_as reply N.Block is));
      clashed = λ is. inr (clash_over b n now g p y (ans.clashed (ap Some (refused_as reply N.Clash is))));
      leads = λ tests s are z. subst (λ (t : Stage Value). TurnsTo id_of (setting_of id_of old tests) new (Some b) now tests a m t (Some (told_inside reply)) n) (sym z.is) (leads tests s are z under);
    } where
      leads : (tests : Tests) (s : Stage Value) → AreTests (table_in old) tests → (z : IsInBatch id_of old b was tests m s) → IsLaterBeneath m n x y → TurnsTo id_of (setting_of id_of old tests) new (Some b) now tests a m (batching z.value z.kept z.owed was) (Some (told_inside reply)) n
      leads tests s are z under =
          let w : Setting = setting_of id_of old tests in
          let held : IsHeldAt id_of old tests (batch_moment m was 0 0 x) z.value = record {
            at = record { told = told_over was m.blocks z.at.told; tree = z.at.tree; storable = z.at.storable; block = z.at.block };
            carries = over w m z.value z.kept z.owed was 0 0 x z.carries;
          } in
          let on : LeadsOn id_of w new a (batch_moment m was 0 0 x) z.value (Some reply) (batch_moment n now g p y) = ans.leads tests z.value are held in
          let in_batch : IsAnsweredInside w (due w a (begun_at z.value z.kept)) on.next z.kept reply m (batching z.value z.kept z.owed was) n now =
          inside w a z.value on.next z.kept z.owed reply m n was now of z.at.told z.most z.carries (record { names = (x, y); calls = (g, p); fits = fits; replies = on.replies; passed = on.passed }) in
          record {
            stage = batching on.next z.kept in_batch.owed now;
            replies = in_batch.replies;
            stands = record {
              value = on.next;
              kept = z.kept;
              owed = in_batch.owed;
              at = record { told = told_beneath now n.blocks on.at.told; tree = on.at.tree; storable = on.at.storable; block = on.at.block };
              begin = begin_on id_of old new b z.kept ans.table ans.type z.begin;
              most = in_batch.most;
              is = refl;
              carries = carries_on id_of old new tests n (batching on.next z.kept in_batch.owed now) ans.table ans.type (in_batch.replies.carries z.carries);
            };
          }

moment_as : (old new : Doc) (a : Ask) (reply : Option Reply) (n m mb : Moment) (was wb : List (List ℕ)) (gb pb : ℕ) (x : ℕ × ℕ) → mb ≡ m → wb ≡ was → gb ≡ 0 → pb ≡ 0 → AnswersAs id_of old new a (batch_moment mb wb gb pb x) reply n → AnswersAs id_of old new a (batch_moment m was 0 0 x) reply n
moment_as old new a reply n m mb was wb gb pb x em ew eg ep ans =
    subst (λ (k : Moment). AnswersAs id_of old new a (batch_moment k was 0 0 x) reply n) em
    (subst (λ (k : List (List ℕ)). AnswersAs id_of old new a (batch_moment mb k 0 0 x) reply n) ew
    (subst (λ (k : ℕ). AnswersAs id_of old new a (batch_moment mb wb k 0 x) reply n) eg (subst (λ (k : ℕ). AnswersAs id_of old new a (batch_moment mb wb gb k x) reply n) ep ans)))

-- what the batch was, by the references of which it was made, and what these hold at its end
pub asks_over : AnswersInside → CarriedOverBatch → LaterBeneath → (old new b : Doc) (was wb now nowb : List (List ℕ)) (a : Ask) (m mb n nb : Moment) (reply : Reply) (gb pb g p : ℕ) (x y : ℕ × ℕ)
    → mb ≡ m → wb ≡ was → gb ≡ 0 → pb ≡ 0 → (y ≡ x → n ≡ nb) → (y ≡ x → now ≡ nowb)
    → IsOfStore a → length now ≤ 2 ^ 64 - 1 → AreAlike old (Some b) → AnswersAs id_of old new a (batch_moment mb wb gb pb x) (Some reply) (batch_moment nb nowb g p y) → Turns id_of old new (Some b) (Some b) was now a m (Some (told_inside reply)) n
asks_over inside over beneath old new b was wb now nowb a m mb n nb reply gb pb g p x y em ew eg ep n_is now_is of fits alike ans =
    let under : IsLaterBeneath mb nb x y = beneath mb nb wb nowb gb g pb p x y ans.later in
    let blocks : now ≡ nowb = now_is under.names in
    let few : length nowb ≤ 2 ^ 64 - 1 = subst (λ (bs : List (List ℕ)). length bs ≤ 2 ^ 64 - 1) blocks fits in
    let all : Turns id_of old new (Some b) (Some b) was nowb a m (Some (told_inside reply)) nb =
    asks_inside inside over beneath old new b was nowb a m nb reply g p x y of few alike (moment_as old new a (Some reply) (batch_moment nb nowb g p y) m mb was wb gb pb x em ew eg ep ans) in
    subst (λ (k : Moment). Turns id_of old new (Some b) (Some b) was now a m (Some (told_inside reply)) k) (sym (n_is under.names))
    (subst (λ (bs : List (List ℕ)). Turns id_of old new (Some b) (Some b) was bs a m (Some (told_inside reply)) nb) (sym blocks) all)
