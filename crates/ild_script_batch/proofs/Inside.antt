-- A line that is answered over a batch is the line inside the batch.
use Rattle.std.proofs.Common.{◌≡◌, ◌≢◌, ◌⊎◌, inl, inr, ⊎_elim, ℕ, zero, ◌+◌, ◌-◌, ◌^◌, ◌≤◌, ◌<◌, List, [], ◌∷◌, ◌++◌, length, map, Option, Some, None, Result, Ok, Err, refl, ap, ◌∙◌, subst, arith}
use Rattle.std.specs.Prelude.{Contains, option_map}
use Rattle.std.specs.List.{AllByRecursion}
use Rattle.std.proofs.lemmas.Option.{same_Some}
use Rattle.ild_data.proofs.Options.{some_there}
use Rattle.ild_data.specs.Data.{Data}
use Rattle.ild_data.specs.Spell.{id_of}
use Rattle.ild_dirty.specs.Batch.{batch_moment}
use Rattle.ild_edges.specs.Store.{Moment, block_at}
use Rattle.ild_edges.specs.Told.{IfTold}
use Rattle.ild_json.specs.Printing.{json_text}
use Rattle.ild_schema.specs.Value.{Value}
use Rattle.ild_script.specs.declared.reply.No.{No}
use Rattle.ild_script.specs.declared.reply.No.TheVariants as N
use Rattle.ild_script.specs.declared.reply.Reply.{Reply}
use Rattle.ild_script.specs.declared.reply.Reply.TheVariants as R
use Rattle.ild_script_meaning.specs.Ask.{Ask, Tell, nothing, to_tell, to_edit, to_tell_root, to_begin, to_commit, to_abort, unknown}
use Rattle.ild_script_meaning.specs.Lines.{Setting, due, changed, edit_reply, edit_next, printed_or, told, told_of, read_reply, in_slot, places_in, value_blocks, typed_lines}
use Rattle.ild_script_session.specs.Batch.{together}
use Rattle.ild_script_session.specs.Session.{State, Stage, Due, idle, resting}
use Rattle.ild_script_session.specs.Step.{Carries, HasCause, IsExcused, IsWhole, Replies}
use Rattle.ild_script_session.proofs.Came.{none_came}
use Rattle.ild_typed.specs.At.{at}
use Rattle.ild_script_batch.specs.Inside.{AnswersInside, IsAnsweredInside, IsAnsweredOver, IsLaterBeneath, IsOfStore, batching, begun_at, told_inside}
use Rattle.ild_script_batch.proofs.Beneath.{later_beneath}
use Rattle.ild_script_batch.proofs.Carrying.{carried_over_batch, carried_then, heads_held, holds_same}
use Rattle.ild_script_batch.proofs.Changes.{owes_within}

-- ---- causes

pub told_over : (own : List (List ℕ)) (o : Option (List (List ℕ))) → o ≢ None → option_map (λ held. own ++ held) o ≢ None
told_over own None told = told
told_over own (Some held) told = λ e. absurd cc

module _ (m n : Moment) (was now : List (List ℕ)) (g p : ℕ) (x y : ℕ × ℕ) (t : Stage Value) where
  -- a cause between moments of the batch is one of what is held together
  cause : (adds : List (List ℕ)) (refusal : No) → m.blocks ≢ None → HasCause (batch_moment m was 0 0 x) adds refusal (batch_moment n now g p y) → (both : Moment) → both.blocks ≡ option_map (λ held. now ++ held) n.blocks → both.faults ≡ n.faults → HasCause m adds refusal both
  cause adds N.Block told c both blocks faults = absurd (told_over was m.blocks told c.untold)
  cause adds N.Store told c both blocks faults = let rose = c in omega (arith, rose, faults)
  cause adds N.Clash told c both blocks faults = record {
    kept = c.kept;
    new = c.new;
    held = holds_same (option_map (λ held. now ++ held) n.blocks) both.blocks (c.kept ∷ []) blocks c.held;
    among = c.among;
    collide = c.collide;
  }
  cause adds N.Memory told c both blocks faults = tt
  cause adds N.Line told c both blocks faults = absurd c
  cause adds N.Path told c both blocks faults = absurd c
  cause adds N.Json told c both blocks faults = absurd c
  cause adds N.Mismatch told c both blocks faults = absurd c
  cause adds N.Delimiter told c both blocks faults = absurd c
  cause adds N.Hole told c both blocks faults = absurd c
  cause adds N.Depth told c both blocks faults = absurd c
  cause adds N.Exhausted told c both blocks faults = absurd c
  cause adds N.Size told c both blocks faults = absurd c
  cause adds N.Reserved told c both blocks faults = absurd c
  cause adds N.Batch told c both blocks faults = absurd c

  excused : (adds : List (List ℕ)) (reply : Reply) → m.blocks ≢ None → IsExcused (batch_moment m was 0 0 x) adds (Some reply) (batch_moment n now g p y) (batch_moment n now g p y)
      → (both : Moment) → both.blocks ≡ option_map (λ held. now ++ held) n.blocks → both.faults ≡ n.faults → IsExcused m adds (Some (told_inside reply)) n both
  excused adds (R.No refusal) told e both blocks faults = inr (⊎_elim (λ c. cause adds refusal told c both blocks faults) (λ c. cause adds refusal told c both blocks faults) e)
  excused adds (R.Ok text) told e both blocks faults = absurd e
  excused adds (R.Root id) told e both blocks faults = absurd e

-- ---- counts

-- what was asked of the batch was asked of the store beneath at most once
asked_once : (was now gets puts least : ℕ) → (gets < 2 ^ 64 - 1 → puts < 2 ^ 64 - 1 → now + (0 + 0) ≤ was + (gets + puts)) → now - (2 ^ 64 - 1) ≤ was - (2 ^ 64 - 1) → gets + puts ≤ least → now ≤ was + least
asked_once was now gets puts least few most le = ⊎_elim
    (λ less. ⊎_elim (λ fewer. let got = few less fewer in omega (arith, got, le)) (λ more. omega (arith, more, most, le)) (either puts))
    (λ more. omega (arith, more, most, le)) (either gets) where
      either : (k : ℕ) → (k < 2 ^ 64 - 1) ⊎ (2 ^ 64 - 1 ≤ k)
      either k = grind arith

-- nor are there more blocks of its own than were put
kept_once : (was now puts owes owed : ℕ) → (puts < 2 ^ 64 - 1 → now + 0 ≤ was + puts) → now ≤ 2 ^ 64 - 1 → puts ≤ owes → was ≤ owed → now ≤ owed + owes
kept_once was now puts owes owed few fits le most = ⊎_elim (λ less. let kept = few less in omega (arith, kept, le, most)) (λ more. omega (arith, more, fits, le)) (either puts) where
  either : (k : ℕ) → (k < 2 ^ 64 - 1) ⊎ (2 ^ 64 - 1 ≤ k)
  either k = grind arith

-- ---- a line that is due d outside a batch, and inside one this reply, this state and so many gets

abbrev inside_due : Due Value → Option Reply → State Value → ℕ → Due Value
inside_due d reply next gets = record { reply = reply; next = next; adds = d.adds; children = d.children; gets = gets; puts = 0; owes = d.puts }

module _ (w : Setting) (v next kept : Value) (owed : ℕ) (reply : Reply) (m n : Moment) (was now : List (List ℕ)) (g p : ℕ) (x y : ℕ × ℕ) (d : Due Value)
    (r : Replies (typed_lines w) (batch_moment m was 0 0 x) (resting v) d (Some reply) (batch_moment n now g p y) (resting next)) where
  abbrev Before : Stage Value
  Before = batching v kept owed was

  abbrev After : Stage Value
  After = batching next kept (owed + d.puts) now

  then_carried : m.blocks ≢ None → Carries (typed_lines w) m Before → AllByRecursion (λ q. Contains (map id_of now) (id_of q.0) ⊎ Contains (places_in w v) q) (places_in w next) → Carries (typed_lines w) n After
  then_carried told c passed =
      let beneath : IsLaterBeneath m n x y = later_beneath m n was now 0 g 0 p x y r.later in
      let over : Carries (typed_lines w) (batch_moment n now g p y) (resting next) = r.carries (carried_over_batch w m v kept owed was 0 0 x c) in
      let some : (held : List (List ℕ)) × (m.blocks ≡ Some held) = some_there m.blocks told in
      let held : n.blocks ≡ Some some.0 = beneath.blocks ∙ some.1 in
      let all : AllByRecursion (λ b. block_at (now ++ some.0) (id_of b) ≡ Some b) (value_blocks w next) =
      subst (λ (o : Option (List (List ℕ))). IfTold o (λ bs. AllByRecursion (λ b. block_at bs (id_of b) ≡ Some b) (value_blocks w next))) (ap (option_map (λ bs. now ++ bs)) held) over.value in
      record {
        kept = holds_same m.blocks n.blocks (value_blocks w kept) beneath.blocks c.kept;
        value = over.value;
        places = carried_then m n was now some.0 (places_in w v) (places_in w next) beneath.blocks r.later.given c.places (heads_held w next (now ++ some.0) all) passed;
      }

  answered_inside : (ri : Option Reply) (ni : State Value) (gi : ℕ) → m.blocks ≢ None → length was ≤ owed → length now ≤ 2 ^ 64 - 1 → d.gets + d.puts ≤ gi
      → (Some reply ≡ d.reply → idle next ≡ d.next → (Some (told_inside reply) ≡ ri) × (begun_at next kept ≡ ni))
      → Carries (typed_lines w) m Before → AllByRecursion (λ q. Contains (map id_of now) (id_of q.0) ⊎ Contains (places_in w v) q) (places_in w next)
      → IsAnsweredInside w (inside_due d ri ni gi) next kept reply m Before n now
  answered_inside ri ni gi told most fits enough due c passed =
      let beneath : IsLaterBeneath m n x y = later_beneath m n was now 0 g 0 p x y r.later in
      let first = r.later.beneath zero in
      let gets : g ≤ 0 + d.gets = r.gets in
      let puts : p ≤ 0 + d.puts = r.puts in
      record {
        owed = owed + d.puts;
        most = kept_once (length was) (length now) p d.puts owed first.own fits (omega (arith, puts)) most;
        replies = record {
          answered = ⊎_elim
              (λ as_due. inl (due as_due.0 as_due.1))
              (λ other. inr (excused m n was now g p x y After d.adds reply told other.0 (together n After) refl refl, ap (λ (s : State Value). begun_at s.value kept) other.1)) r.answered;
          later = beneath.later;
          carries = λ before. then_carried told before passed;
          stored = record { adds = none_came (λ b held. Contains d.adds b) m.blocks n.blocks beneath.blocks; whole = none_came (λ b held. IsWhole held (d.children b)) m.blocks n.blocks beneath.blocks };
          still = λ none. beneath.blocks;
          stays = record { keeps = r.later.keeps; gained = record { adds = r.stored.adds; whole = r.stored.whole } };
          gets = asked_once m.gets n.gets g p gi first.gets first.most (omega (arith, gets, puts, enough));
          puts = let same = beneath.puts in omega (arith, same);
          owed = omega arith;
        };
      }

-- ---- reads

told_same : (o : Option Data) → told_inside (told o) ≡ told o
told_same None = refl
told_same (Some d) = by (json_text d) where
  by : (o : Option (List ℕ)) → told_inside (printed_or o) ≡ printed_or o
  by None = refl
  by (Some text) = refl

read_due : (w : Setting) (t : Tell) (path : List (List ℕ)) (v next kept : Value) (reply : Reply) → Some reply ≡ Some (read_reply w t path v) → idle next ≡ idle v
    → (Some (told_inside reply) ≡ Some (read_reply w t path v)) × (begun_at next kept ≡ begun_at v kept)
read_due w t path v next kept reply is same = (
  ap Some (ap told_inside (same_Some reply (read_reply w t path v) is) ∙ told_same (told_of w t (at w.rows (in_slot w v) path))),
  ap (λ (s : State Value). begun_at s.value kept) same,
)

-- ---- edits

edit_due : (w : Setting) (v next kept : Value) (reply : Reply) (r : Result Value No) → Some reply ≡ Some (edit_reply w r None) → idle next ≡ edit_next (idle v) r
    → (Some (told_inside reply) ≡ Some (edit_reply w r (Some kept))) × (begun_at next kept ≡ edit_next (begun_at v kept) r)
edit_due w v next kept reply (Ok c) is same = (ap Some (ap told_inside (same_Some reply (edit_reply w (Ok c) None) is)), ap (λ (s : State Value). begun_at s.value kept) same)
edit_due w v next kept reply (Err refusal) is same = (ap Some (ap told_inside (same_Some reply (R.No refusal) is)), ap (λ (s : State Value). begun_at s.value kept) same)

pub answers_inside : AnswersInside
answers_inside = by where
  by : (w : Setting) (a : Ask) (v next kept : Value) (owed : ℕ) (reply : Reply) (m n : Moment) (was now : List (List ℕ))
      → IsOfStore a → m.blocks ≢ None → length was ≤ owed → Carries (typed_lines w) m (batching v kept owed was) → IsAnsweredOver w a v next reply m n was now
      → IsAnsweredInside w (due w a (begun_at v kept)) next kept reply m (batching v kept owed was) n now
  by w (to_tell t path) v next kept owed reply m n was now of told most c o =
      answered_inside w v next kept owed reply m n was now o.calls.0 o.calls.1 o.names.0 o.names.1 (due w (to_tell t path) (idle v)) o.replies
      (Some (read_reply w t path v)) (begun_at v kept) (due w (to_tell t path) (idle v)).gets told most o.fits (omega arith) (λ is same. read_due w t path v next kept reply is same) c o.passed
  by w (to_edit e) v next kept owed reply m n was now of told most c o =
      let less = owes_within w v e in
      answered_inside w v next kept owed reply m n was now o.calls.0 o.calls.1 o.names.0 o.names.1 (due w (to_edit e) (idle v)) o.replies
      (Some (edit_reply w (changed w v e) (Some kept))) (edit_next (begun_at v kept) (changed w v e)) (due w (to_edit e) (begun_at v kept)).gets told most o.fits (omega (arith, less)) (λ is same. edit_due w v next kept reply (changed w v e) is same) c o.passed
  by w nothing v next kept owed reply m n was now of told most c o = absurd of
  by w to_tell_root v next kept owed reply m n was now of told most c o = absurd of
  by w to_begin v next kept owed reply m n was now of told most c o = absurd of
  by w to_commit v next kept owed reply m n was now of told most c o = absurd of
  by w to_abort v next kept owed reply m n was now of told most c o = absurd of
  by w unknown v next kept owed reply m n was now of told most c o = absurd of
