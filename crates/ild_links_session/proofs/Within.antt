-- What is answered behind links inside a batch: over the batch, as over a store outside any.
use Rattle.std.proofs.Common.{◌≡◌, ◌≢◌, ◌⊎◌, inl, inr, ⊎_elim, ℕ, zero, ◌+◌, ◌-◌, ◌^◌, ◌≤◌, ◌<◌, List, [], ◌∷◌, ◌++◌, true, Option, Some, None, Result, Ok, Err, refl, sym, ap, ◌∙◌, subst, arith}
use Rattle.std.specs.Prelude.{option_map, unwrap_or}
use Rattle.std.proofs.lemmas.List.{append_cancel_right}
use Rattle.std.proofs.lemmas.Option.{same_Some}
use Rattle.ild_data.specs.Spell.{id_of}
use Rattle.ild_dirty.specs.Batch.{batch_moment}
use Rattle.ild_edges.specs.Store.{Moment}
use Rattle.ild_links.specs.Walk.{Entered, Ending, Walked, ended, not_held, too_deep}
use Rattle.ild_links_lines.specs.Lines.{due_by, due_in, walk_due, walk_gets}
use Rattle.ild_links_lines.specs.Walks.{Crosses, CrossingAnswer, LeadsAcross, StaysInFirst}
use Rattle.ild_links_session.proofs.Firsts.{along_not, done_ends, edit_leaves, leaves_as_is, no_false}
use Rattle.ild_links_session.proofs.Holding.{over_batch}
use Rattle.ild_links_session.proofs.Twice.{LeavesAsIs, carries_same, none_among, still_at}
use Rattle.ild_links_session.specs.Looks.{looks_on}
use Rattle.ild_links_session.specs.inside.Looking.{CrossesFrom, CrossesOver, CrossesOverAlong, DueAlong, LooksAlong, LooksBehind, LooksTo}
use Rattle.ild_path_edits.specs.Edit.{Edit}
use Rattle.ild_path_edits.specs.Judged.{AreTests, Tests}
use Rattle.ild_run_document.specs.Document.{begun_in, doc_in, own_in}
use Rattle.ild_run_document.specs.declared.document.Document.{Document}
use Rattle.ild_run_standing.specs.Standing.{IsInBatch, StandsSo, setting_of}
use Rattle.ild_schema.specs.Value.{Value}
use Rattle.ild_script.specs.declared.reply.No.{No}
use Rattle.ild_script.specs.declared.reply.No.TheVariants as N
use Rattle.ild_script.specs.declared.reply.Reply.{Reply}
use Rattle.ild_script.specs.declared.reply.Reply.TheVariants as R
use Rattle.ild_script_batch.specs.Inside.{CarriedOverBatch, IsLaterBeneath, LaterBeneath, batching, begun_at}
use Rattle.ild_script_meaning.specs.Ask.{Ask, nothing, to_tell, to_edit, to_tell_root, to_begin, to_commit, to_abort, unknown}
use Rattle.ild_script_meaning.specs.Lines.{Setting, changed, due, edit_due, edit_reply, typed_lines}
use Rattle.ild_script_session.proofs.Steps.{told_later}
use Rattle.ild_script_session.specs.Batch.{together}
use Rattle.ild_script_session.specs.Session.{Due, Stage, idle, resting}
use Rattle.ild_script_session.specs.Step.{HasCause, IsExcused, Replies}
use Rattle.ild_view_doc.specs.Docs.{block_in, table_in, type_in}
use Rattle.ild_view_doc.specs.declared.doc.Doc.{Doc}

-- ---- what is due outside a batch and inside

-- the same reply, which leaves all; and no fewer gets inside
pub record SameInside (d e : Due Value) (v kept : Value) : Type 0 where
  pub reply : d.reply ≡ e.reply
  pub gets : d.gets ≤ e.gets
  pub adds : d.adds ≡ []
  pub puts : d.puts ≡ 0
  pub next : e.next ≡ begun_at v kept

edit_inside : (w : Setting) (v kept : Value) (e : Edit (List ℕ)) (r : Result Value No) → looks_on (to_edit e) (edit_reply w r (Some kept)) ≡ true → SameInside (edit_due w (idle v) e r) (edit_due w (begun_at v kept) e r) v kept
edit_inside w v kept e (Ok c) looks = absurd (no_false (sym (done_ends w c (Some kept) e) ∙ looks))
edit_inside w v kept e (Err refusal) looks =
    let as_is : LeavesAsIs (edit_due w (idle v) e (Err refusal)) (idle v) = edit_leaves w (idle v) e (Err refusal) looks in
    record { reply = refl; gets = omega arith; adds = as_is.adds; puts = as_is.puts; next = refl }

first_inside : (w : Setting) (a : Ask) (v kept : Value) (first : Reply) → (due w a (begun_at v kept)).reply ≡ Some first → looks_on a first ≡ true → SameInside (due w a (idle v)) (due w a (begun_at v kept)) v kept
first_inside w (to_tell t path) v kept first is looks = record { reply = refl; gets = omega arith; adds = refl; puts = refl; next = refl }
first_inside w (to_edit e) v kept first is looks =
    edit_inside w v kept e (changed w v e) (ap (looks_on (to_edit e)) (same_Some (edit_reply w (changed w v e) (Some kept)) first is) ∙ looks)
first_inside w nothing v kept first is looks = absurd (along_not nothing first refl looks)
first_inside w to_tell_root v kept first is looks = absurd (along_not to_tell_root first refl looks)
first_inside w to_begin v kept first is looks = absurd (along_not to_begin first refl looks)
first_inside w to_commit v kept first is looks = absurd (along_not to_commit first refl looks)
first_inside w to_abort v kept first is looks = absurd (along_not to_abort first refl looks)
first_inside w unknown v kept first is looks = absurd (along_not unknown first refl looks)

module _ (w : Setting) (v kept : Value) (first : Reply) where
  across_inside : (a : Ask) (path : List (List ℕ)) (e f : Entered Value) (es : List (Entered Value)) → looks_on a first ≡ true
      → SameInside (due_in w true (idle v) a path (e ∷ f ∷ es)) (due_in w true (begun_at v kept) a path (e ∷ f ∷ es)) v kept
  across_inside (to_tell t own) path e f es looks = record { reply = refl; gets = omega arith; adds = refl; puts = refl; next = refl }
  across_inside (to_edit x) path e f es looks = record { reply = refl; gets = omega arith; adds = refl; puts = refl; next = refl }
  across_inside nothing path e f es looks = absurd (along_not nothing first refl looks)
  across_inside to_tell_root path e f es looks = absurd (along_not to_tell_root first refl looks)
  across_inside to_begin path e f es looks = absurd (along_not to_begin first refl looks)
  across_inside to_commit path e f es looks = absurd (along_not to_commit first refl looks)
  across_inside to_abort path e f es looks = absurd (along_not to_abort first refl looks)
  across_inside unknown path e f es looks = absurd (along_not unknown first refl looks)

  trees_inside : (a : Ask) (path : List (List ℕ)) (es : List (Entered Value)) → (due w a (begun_at v kept)).reply ≡ Some first → looks_on a first ≡ true
      → SameInside (due_in w true (idle v) a path es) (due_in w true (begun_at v kept) a path es) v kept
  trees_inside a path [] is looks = first_inside w a v kept first is looks
  trees_inside a path (e ∷ []) is looks =
      let x = first_inside w a v kept first is looks in record { reply = x.reply; gets = omega arith; adds = x.adds; puts = x.puts; next = x.next }
  trees_inside a path (e ∷ f ∷ es) is looks = across_inside a path e f es looks

  walk_inside : (a : Ask) (path : List (List ℕ)) (any : ℕ) (es : List (Entered Value)) (end : Ending) → (due w a (begun_at v kept)).reply ≡ Some first → looks_on a first ≡ true
      → SameInside (due_by w true (idle v) a path any es end) (due_by w true (begun_at v kept) a path any es end) v kept
  walk_inside a path any es ended is looks = trees_inside a path es is looks
  walk_inside a path any es too_deep is looks = record { reply = refl; gets = omega arith; adds = refl; puts = refl; next = refl }
  walk_inside a path any es (not_held j) is looks = record { reply = refl; gets = omega arith; adds = refl; puts = refl; next = refl }

-- ---- from a batch to the store beneath

-- what was asked of the batch was asked of the store beneath at most once
asked_once : (was now gets puts least : ℕ) → (gets < 2 ^ 64 - 1 → puts < 2 ^ 64 - 1 → now + (0 + 0) ≤ was + (gets + puts)) → now - (2 ^ 64 - 1) ≤ was - (2 ^ 64 - 1) → gets + puts ≤ least → now ≤ was + least
asked_once was now gets puts least few most le = ⊎_elim
    (λ less. ⊎_elim (λ fewer. let got = few less fewer in omega (arith, got, le)) (λ more. omega (arith, more, most, le)) (either puts))
    (λ more. omega (arith, more, most, le)) (either gets) where
      either : (k : ℕ) → (k < 2 ^ 64 - 1) ⊎ (2 ^ 64 - 1 ≤ k)
      either k = grind arith

same_own : (was now : List (List ℕ)) (a b : Option (List (List ℕ))) → a ≢ None → b ≡ a → option_map (λ held. now ++ held) b ≡ option_map (λ held. was ++ held) a → now ≡ was
same_own was now None b told same is = absurd (told refl)
same_own was now (Some held) b told same is =
    append_cancel_right now was held (same_Some (now ++ held) (was ++ held) (sym (ap (option_map (λ bs. now ++ bs)) same) ∙ is))

untold_not : (was : List (List ℕ)) (o : Option (List (List ℕ))) → o ≢ None → option_map (λ held. was ++ held) o ≡ None → ⊥
untold_not was None told none = told refl
untold_not was (Some held) told none = absurd cc

module _ (m n : Moment) (was now : List (List ℕ)) (g p : ℕ) (x y : ℕ × ℕ) (told : m.blocks ≢ None) where
  cause_beneath : (few many : List (List ℕ)) (refusal : No) → few ≡ [] → HasCause (batch_moment m was 0 0 x) few refusal (batch_moment n now g p y) → HasCause m many refusal n
  cause_beneath few many N.Block none c = absurd (untold_not was m.blocks told c.untold)
  cause_beneath few many N.Store none c = let rose = c in omega (arith, rose)
  cause_beneath few many N.Clash none c = absurd (none_among few c.new none c.among)
  cause_beneath few many N.Memory none c = tt
  cause_beneath few many N.Line none c = absurd c
  cause_beneath few many N.Path none c = absurd c
  cause_beneath few many N.Json none c = absurd c
  cause_beneath few many N.Mismatch none c = absurd c
  cause_beneath few many N.Delimiter none c = absurd c
  cause_beneath few many N.Hole none c = absurd c
  cause_beneath few many N.Depth none c = absurd c
  cause_beneath few many N.Exhausted none c = absurd c
  cause_beneath few many N.Size none c = absurd c
  cause_beneath few many N.Reserved none c = absurd c
  cause_beneath few many N.Batch none c = absurd c

  excused_beneath : (few many : List (List ℕ)) (reply : Reply) (both : Moment) → few ≡ [] → IsExcused (batch_moment m was 0 0 x) few (Some reply) (batch_moment n now g p y) (batch_moment n now g p y) → IsExcused m many (Some reply) n both
  excused_beneath few many (R.No refusal) both none e = inl (⊎_elim (λ c. cause_beneath few many refusal none c) (λ c. cause_beneath few many refusal none c) e)
  excused_beneath few many (R.Ok text) both none e = absurd e
  excused_beneath few many (R.Root id) both none e = absurd e

-- ---- the session

module _ (over : CarriedOverBatch) (under : LaterBeneath) (d e b : Doc) (a : Ask) (path : List (List ℕ)) (m n : Moment) (was now : List (List ℕ)) (g p : ℕ) (x y : ℕ × ℕ) (found : Option Reply)
    (c : Crosses id_of true d e a path (batch_moment m was 0 0 x) found (batch_moment n now g p y)) where
  abbrev Before : Moment
  Before = batch_moment m was 0 0 x

  abbrev After : Moment
  After = batch_moment n now g p y

  beneath : IsLaterBeneath m n x y
  beneath = under m n was now 0 g 0 p x y c.later

  no_puts : p ≡ 0
  no_puts = (c.still refl).2

  asked : (least : ℕ) → g ≤ least → n.gets ≤ m.gets + least
  asked least le = let first = c.later.beneath zero in let none = no_puts in asked_once m.gets n.gets g p least first.gets first.most (omega (arith, le, none))

  module _ (tests : Tests) (are : AreTests (table_in d) tests) (s : Stage Value) (z : IsInBatch id_of d b was tests m s) (first : Reply)
      (is : (due (setting_of id_of d tests) a (begun_at z.value z.kept)).reply ≡ Some first) (looks : looks_on a first ≡ true) where
    abbrev W : Setting
    W = setting_of id_of d tests

    abbrev There : Stage Value
    There = batching z.value z.kept z.owed was

    stays_first : (walked : Walked Value) (next : Value) → StaysInFirst W true a path Before z.value walked After next → (any : ℕ) × Replies (typed_lines W) m There (walk_due W true (begun_at z.value z.kept) a path any walked) (Some first) n There
    stays_first walked next st =
        let as_is : LeavesAsIs (due W a (begun_at z.value z.kept)) (begun_at z.value z.kept) = leaves_as_is W a (begun_at z.value z.kept) first is looks in
        let rose : g ≤ 0 + walk_gets W z.value path (st.first ∷ []) = st.gets in
        let gets : n.gets ≤ m.gets + walk_gets W z.value path (st.first ∷ []) = asked (walk_gets W z.value path (st.first ∷ [])) (omega (arith, rose)) in
        let one = still_at (typed_lines W) m n There (record (due W a (begun_at z.value z.kept)) { gets = walk_gets W z.value path (st.first ∷ []) }) (Some first) beneath.later beneath.blocks gets beneath.puts (inl (sym is, sym as_is.next)) in
        (0, subst (λ (k : Walked Value). Replies (typed_lines W) m There (walk_due W true (begun_at z.value z.kept) a path 0 k) (Some first) n There) (sym st.alone) one)

    leads_there : (walked : Walked Value) (next : Value) (reply : Reply) → (any : ℕ) × Replies (typed_lines W) Before (resting z.value) (walk_due W true (idle z.value) a path any walked) (Some reply) After (resting next)
        → (any : ℕ) × Replies (typed_lines W) m There (walk_due W true (begun_at z.value z.kept) a path any walked) (Some reply) n There
    leads_there walked next reply r =
        let same : SameInside (walk_due W true (idle z.value) a path r.0 walked) (walk_due W true (begun_at z.value z.kept) a path r.0 walked) z.value z.kept = walk_inside W z.value z.kept first a path r.0 walked.trees walked.ending is looks in
        let rose : g ≤ 0 + (walk_due W true (idle z.value) a path r.0 walked).gets = r.1.gets in
        let more = same.gets in (
          r.0,
          still_at (typed_lines W) m n There (walk_due W true (begun_at z.value z.kept) a path r.0 walked) (Some reply) beneath.later beneath.blocks (asked (walk_due W true (begun_at z.value z.kept) a path r.0 walked).gets (omega (arith, rose, more))) beneath.puts
              (⊎_elim
              (λ due_is. inl (due_is.0 ∙ same.reply, sym same.next))
              (λ other. inr (excused_beneath m n was now g p x y z.at.told (walk_due W true (idle z.value) a path r.0 walked).adds (walk_due W true (begun_at z.value z.kept) a path r.0 walked).adds reply (together n There) same.adds other.0)) r.1.answered),
        )

    answer_there : (walked : Walked Value) (next : Value) (f : Option Reply) → CrossingAnswer W true a path Before z.value walked After next f
        → (any : ℕ) × Replies (typed_lines W) m There (walk_due W true (begun_at z.value z.kept) a path any walked) (Some (unwrap_or f first)) n There
    answer_there walked next None st = stays_first walked next st
    answer_there walked next (Some reply) r = leads_there walked next reply r

    along_there : DueAlong W a path m There (Some (unwrap_or found first)) n There
    along_there held walked told walk =
        let l : LeadsAcross id_of true d e tests a path Before held z.value found After = c.leads tests held z.value are told (over_batch over d b was tests m s x z) in
        answer_there walked l.next found (l.along walked walk)

    stands_there : IsInBatch id_of d b was tests n There
    stands_there = record {
      value = z.value;
      kept = z.kept;
      owed = z.owed;
      at = record { told = told_later m n beneath.later z.at.told; tree = z.at.tree; storable = z.at.storable; block = z.at.block };
      begin = z.begin;
      most = z.most;
      is = refl;
      carries = carries_same (typed_lines W) m n There beneath.blocks z.carries;
    }

    own_same : now ≡ was
    own_same = same_own was now m.blocks n.blocks z.at.told beneath.blocks (c.still refl).1

inside_to : CarriedOverBatch → LaterBeneath → (old new : Document) (e b : Doc) (a : Ask) (path : List (List ℕ)) (m n : Moment) (g p : ℕ) (x y : ℕ × ℕ) (found : Option Reply) → begun_in old ≡ Some b → doc_in new ≡ doc_in old → begun_in new ≡ begun_in old
    → Crosses id_of true (doc_in old) e a path (batch_moment m (own_in old) 0 0 x) found (batch_moment n (own_in new) g p y)
    → (tests : Tests) (s : Stage Value) (first : Reply) → AreTests (table_in (doc_in old)) tests → StandsSo id_of (doc_in old) (begun_in old) (own_in old) tests m s
    → (due (setting_of id_of (doc_in old) tests) a s.state).reply ≡ Some first → looks_on a first ≡ true → LooksTo (setting_of id_of (doc_in old) tests) new tests a path m s (Some (unwrap_or found first)) n
inside_to over under old new e b a path m n g p x y found opened same still_open c tests s first are stands is looks =
    let z : IsInBatch id_of (doc_in old) b (own_in old) tests m s = subst (λ o. StandsSo id_of (doc_in old) o (own_in old) tests m s) opened stands in
    let due_is : (due (setting_of id_of (doc_in old) tests) a (begun_at z.value z.kept)).reply ≡ Some first = subst (λ (t : Stage Value). (due (setting_of id_of (doc_in old) tests) a t.state).reply ≡ Some first) z.is is in
    let own : own_in new ≡ own_in old = own_same over under (doc_in old) e b a path m n (own_in old) (own_in new) g p x y found c tests are s z first due_is looks in
    let there : IsInBatch id_of (doc_in old) b (own_in old) tests n (batching z.value z.kept z.owed (own_in old)) = stands_there over under (doc_in old) e b a path m n (own_in old) (own_in new) g p x y found c tests are s z first due_is looks in
    subst (λ (t : Stage Value). LooksTo (setting_of id_of (doc_in old) tests) new tests a path m t (Some (unwrap_or found first)) n) (sym z.is) (record {
      stage = batching z.value z.kept z.owed (own_in old);
      along = along_there over under (doc_in old) e b a path m n (own_in old) (own_in new) g p x y found c tests are s z first due_is looks;
      stands = subst (λ (k : Doc). StandsSo id_of k (begun_in new) (own_in new) tests n (batching z.value z.kept z.owed (own_in old))) (sym same)
          (subst (λ o. StandsSo id_of (doc_in old) o (own_in new) tests n (batching z.value z.kept z.owed (own_in old))) (sym (still_open ∙ opened))
          (subst (λ (bs : List (List ℕ)). IsInBatch id_of (doc_in old) b bs tests n (batching z.value z.kept z.owed (own_in old))) (sym own) there));
    })

pub looks_inside : CarriedOverBatch → LaterBeneath → (old new : Document) (e b : Doc) (a : Ask) (path : List (List ℕ)) (m n : Moment) (g p : ℕ) (x y : ℕ × ℕ) (found : Option Reply) → begun_in old ≡ Some b → doc_in new ≡ doc_in old → begun_in new ≡ begun_in old
    → Crosses id_of true (doc_in old) e a path (batch_moment m (own_in old) 0 0 x) found (batch_moment n (own_in new) g p y) → LooksBehind old new a path m found n
looks_inside over under old new e b a path m n g p x y found opened same still_open c = record {
  later = (under m n (own_in old) (own_in new) 0 g 0 p x y c.later).later;
  table = ap table_in same;
  type = ap type_in same;
  begun = still_open;
  none = λ none. ap block_in same;
  kept = λ refusal is. ap block_in same;
  told = λ t own is. ap block_in same;
  rooted = λ id is. c.rooted id is ∙ ap id_of ((c.still refl).0 ∙ ap block_in (sym same));
  failed = λ is. c.failed is;
  leads = λ tests s first are stands is looks. inside_to over under old new e b a path m n g p x y found opened same still_open c tests s first are stands is looks;
}

-- ---- what the batch was, by the references of which it was made, and what these hold at its end

pub crosses_over : LaterBeneath → (d : Doc) (other : Option Doc) (a : Ask) (was own now last : List (List ℕ)) (m k n l : Moment) (found : Option Reply) (gb pb g p : ℕ) (x y : ℕ × ℕ)
    → k ≡ m → own ≡ was → gb ≡ 0 → pb ≡ 0 → (y ≡ x → n ≡ l) → (y ≡ x → now ≡ last) → CrossesFrom d true a (batch_moment k own gb pb x) found other (batch_moment l last g p y) → CrossesOverAlong d a m was found n now
crosses_over under d other a was own now last m k n l found gb pb g p x y store blocks gets puts store_then blocks_then from path is =
    let c : Crosses id_of true d (unwrap_or other d) a path (batch_moment k own gb pb x) found (batch_moment l last g p y) = from path is in
    let names : y ≡ x = (under k l own last gb g pb p x y c.later).names in
    let e : Doc = unwrap_or other d in
    record {
      other = e;
      gets = g;
      puts = p;
      names = (x, y);
      crosses =
          subst (λ (z : Moment). Crosses id_of true d e a path (batch_moment z was 0 0 x) found (batch_moment n now g p y)) store
          (subst (λ (z : List (List ℕ)). Crosses id_of true d e a path (batch_moment k z 0 0 x) found (batch_moment n now g p y)) blocks
          (subst (λ (z : ℕ). Crosses id_of true d e a path (batch_moment k own z 0 x) found (batch_moment n now g p y)) gets
          (subst (λ (z : ℕ). Crosses id_of true d e a path (batch_moment k own gb z x) found (batch_moment n now g p y)) puts
          (subst (λ (z : Moment). Crosses id_of true d e a path (batch_moment k own gb pb x) found (batch_moment z now g p y)) (sym (store_then names))
          (subst (λ (z : List (List ℕ)). Crosses id_of true d e a path (batch_moment k own gb pb x) found (batch_moment l z g p y)) (sym (blocks_then names)) c)))));
    }

pub looks_over : CarriedOverBatch → LaterBeneath → (old new : Document) (b : Doc) (a : Ask) (m n : Moment) (found : Option Reply) → begun_in old ≡ Some b → doc_in new ≡ doc_in old → begun_in new ≡ begun_in old
    → CrossesOverAlong (doc_in old) a m (own_in old) found n (own_in new) → LooksAlong old new a m found n
looks_over over under old new b a m n found opened same still_open crosses path is =
    let c : CrossesOver (doc_in old) a path m (own_in old) found n (own_in new) = crosses path is in
    looks_inside over under old new c.other b a path m n c.gets c.puts c.names.0 c.names.1 found opened same still_open c.crosses
