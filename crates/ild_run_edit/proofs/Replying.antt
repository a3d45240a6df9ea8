-- What an edit of a document answers, as the reply to its line.
use Rattle.std.proofs.Common.{◌≡◌, ◌≢◌, ◌⊎◌, inl, inr, ℕ, List, [], ◌∷◌, Option, Some, None, refl, ap, sym, subst, ◌∙◌, arith}
use Rattle.std.specs.Prelude.{Contains, Ok, Err}
use Rattle.std.specs.List.{AllByRecursion}
use Rattle.std.specs.Option.{option_map_or}
use Rattle.ild_script_session.proofs.Steps.{told_later}
use Rattle.ild_data.specs.Spell.{id_of}
use Rattle.ild_data.specs.declared.id.BlockId.{BlockId}
use Rattle.ild_edges.specs.Count.{Rose}
use Rattle.ild_edges.specs.Store.{Moment, Later, Keeps, block_at}
use Rattle.ild_edges.specs.Told.{BothTold, IfTold}
use Rattle.ild_schema.specs.Value.{Value}
use Rattle.ild_schema.specs.declared.number.TypeNo.{TypeNo}
use Rattle.ild_schema.specs.declared.row.Row.{Row}
use Rattle.ild_script.specs.declared.reply.No.{No}
use Rattle.ild_script.specs.declared.reply.No.TheVariants as N
use Rattle.ild_script.specs.declared.reply.Reply.{Reply}
use Rattle.ild_script.specs.declared.reply.Reply.TheVariants as R
use Rattle.ild_script_meaning.specs.Ask as L
use Rattle.ild_script_meaning.specs.Ask.{to_edit}
use Rattle.ild_script_meaning.specs.Lines.{Setting, typed_lines, due, edit_reply, edit_next}
use Rattle.ild_script_session.specs.Session.{idle, resting}
use Rattle.ild_script_session.specs.Step.{AreCarried, Carries, HasCause, Holds, Replies}
use Rattle.ild_typed.specs.Stands.{Stands, bare, root_id, blocks_of}
use Rattle.ild_path_edits.specs.Edit.{Edit}
use Rattle.ild_path_edits.specs.Judged.{Tests}
use Rattle.ild_run_edit.specs.Edits.{Edits, IsOfEdit, edit_of}
use Rattle.ild_run_edit.specs.inside.Moves.{IsNewRoot, due_of, edited_by}
use Rattle.ild_run_edit.specs.inside.Roots.{RootFails, RootIsMade, MakesRoot}
use Rattle.ild_path_place.specs.declared.verb.Verb.{Verb}
use Rattle.ild_run_edit.proofs.Passing.{itself_passes, told_any, told_both}
use Rattle.ild_run_standing.specs.Answers.{PassesOn}
use Rattle.ild_run_standing.specs.Blame.{HasClash, IsBroken}
use Rattle.ild_run_standing.specs.Laws.{StandingAreAt}
use Rattle.ild_run_standing.specs.Standing.{IsHeldAt, setting_of}
use Rattle.ild_view_doc.specs.Docs.{table_in, type_in, block_in}
use Rattle.ild_view_doc.specs.declared.doc.Doc.{Doc}

-- ---- what was held is held

all_on : (was now : List (List ℕ)) → Keeps was now → (bs : List (List ℕ)) → AllByRecursion (λ b. block_at was (id_of b) ≡ Some b) bs → AllByRecursion (λ b. block_at now (id_of b) ≡ Some b) bs
all_on was now keeps [] all = tt
all_on was now keeps (b ∷ bs) all = (keeps (id_of b) b all.0, all_on was now keeps bs all.1)

told_on : (a b : Option (List (List ℕ))) (bs : List (List ℕ)) → BothTold a b Keeps → IfTold a (λ held. AllByRecursion (λ b. block_at held (id_of b) ≡ Some b) bs) → IfTold b (λ held. AllByRecursion (λ b. block_at held (id_of b) ≡ Some b) bs)
told_on None None bs k h = tt
told_on None (Some now) bs k h = absurd k
told_on (Some was) None bs k h = absurd k
told_on (Some was) (Some now) bs k h = all_on was now k bs h

holds_on : (m n : Moment) → Later m n → (bs : List (List ℕ)) → Holds m bs → Holds n bs
holds_on m n later bs h = told_on m.blocks n.blocks bs later.keeps h

carried_on : (m n : Moment) → Later m n → (own : List (List ℕ)) (ps : List (List ℕ × List (List ℕ))) → AreCarried m own ps → AreCarried n own ps
carried_on m n later own [] all = tt
carried_on m n later own (p ∷ ps) all = (by all.0, carried_on m n later own ps all.1) where
  by : Contains own p.0 ⊎ Holds m p.1 → Contains own p.0 ⊎ Holds n p.1
  by (inl x) = inl x
  by (inr x) = inr (holds_on m n later p.1 x)

carries_on : (w : Setting) (m n : Moment) (v : Value) → Later m n → Carries (typed_lines w) m (resting v) → Carries (typed_lines w) n (resting v)
carries_on w m n v later c = record {
  kept = holds_on m n later ((typed_lines w).blocks v) c.kept;
  value = holds_on m n later ((typed_lines w).blocks v) c.value;
  places = carried_on m n later [] ((typed_lines w).places v) c.places;
}

told_is : (m : Moment) → m.blocks ≢ None → (held : List (List ℕ)) × (m.blocks ≡ Some held)
told_is m told = by m.blocks refl where
  by : (o : Option (List (List ℕ))) → m.blocks ≡ o → (held : List (List ℕ)) × (m.blocks ≡ Some held)
  by None e = absurd (told e)
  by (Some held) e = (held, e)

-- ---- the reply

root_not_no : (id : _) (r : No) → ◌≡◌ {A = Option Reply} (Some (R.Root id)) (Some (R.No r)) → ⊥
root_not_no id r e = absurd cc

edit_not_tell : (e : Edit (List ℕ)) (t : L.Tell) (path : List (List ℕ)) → to_edit e ≡ L.to_tell t path → ⊥
edit_not_tell e t path is = absurd cc

-- roots that are told are told by their ids
same_root : (i j : BlockId) → ◌≡◌ {A = Option Reply} (Some (R.Root i)) (Some (R.Root j)) → j.0 ≡ i.0
same_root i j e = cc

no_same : (r s : No) → ◌≡◌ {A = Option Reply} (Some (R.No r)) (Some (R.No s)) → r ≡ s
no_same r s e = cc

module _ (h : List ℕ → List ℕ) (d : Doc) (m n : Moment) where
  fails_rose : (r : No) → RootFails h d m (Err r) n → r ≡ N.Store → Rose m.faults n.faults
  fails_rose r f e = subst (λ r. RootFails h d m (Err r) n) e f

  fails_blamed : (r : No) → RootFails h d m (Err r) n → r ≡ N.Block → IsBroken h d m.blocks m.lacks n.lacks
  fails_blamed r f e = subst (λ r. RootFails h d m (Err r) n) e f

  own_no : (r : No) → RootFails h d m (Err r) n → IsOfEdit (Err r)
  own_no N.Line f = f
  own_no N.Path f = tt
  own_no N.Json f = tt
  own_no N.Mismatch f = tt
  own_no N.Delimiter f = tt
  own_no N.Hole f = tt
  own_no N.Depth f = tt
  own_no N.Exhausted f = tt
  own_no N.Size f = tt
  own_no N.Reserved f = f
  own_no N.Block f = tt
  own_no N.Store f = tt
  own_no N.Clash f = tt
  own_no N.Memory f = tt
  own_no N.Batch f = f

module _ (h : List ℕ → List ℕ) (old : Doc) (e : Edit (List ℕ)) (m n : Moment) (t : Tests) (v : Value) where
  abbrev w : Setting
  w = setting_of h old t

  refused_replies : (r : No) → Later m n → RootIsMade h (table_in old) t (type_in old) v e m (Err r) n → Replies (typed_lines w) m (resting v) (due w (to_edit e) (idle v)) (Some (R.No r)) n (resting v)
  refused_replies r later x = record {
    answered = by x.answer;
    later = later;
    carries = λ c. carries_on w m n v later c;
    stored = x.gains;
    still = x.still;
    stays = tt;
    gets = x.gets;
    puts = x.puts;
    owed = omega arith;
  }
    where
      by : (edited_by h (table_in old) t (type_in old) v e ≡ Err r) ⊎ HasCause m (due_of h (table_in old) t (type_in old) v e).adds r n
          → ((Some (R.No r) ≡ (due w (to_edit e) (idle v)).reply) × (idle v ≡ (due w (to_edit e) (idle v)).next)) ⊎ ((HasCause m (due w (to_edit e) (idle v)).adds r n ⊎ HasCause m (due w (to_edit e) (idle v)).adds r n) × (idle v ≡ idle v))
      by (inl same) = inl (ap (λ x. Some (edit_reply w x None)) (sym same), ap (λ x. edit_next (idle v) x) (sym same))
      by (inr cause) = inr (inl cause, refl)

pub refused_edits : (h : List ℕ → List ℕ) (d : Doc) (verb : Verb) (path : List (List ℕ)) (json : List ℕ) (m n : Moment) (r : No) → (r ≡ N.Clash → HasClash n) → MakesRoot h d (edit_of verb path json) m (Err r) n → Edits h d d verb path json m (Err r) n
refused_edits h d verb path json m n r clash x = record {
  answers = record {
    later = x.later;
    table = refl;
    type = refl;
    kept = λ s e. refl;
    told = λ t p e. refl;
    rooted = λ id told. absurd (root_not_no id r (sym told));
    failed = λ e. fails_rose h d m n r x.fails (no_same r N.Store e);
    blamed = λ e. fails_blamed h d m n r x.fails (no_same r N.Block e);
    clashed = λ e. clash (no_same r N.Clash e);
    leads = λ t v tests at. record {
      next = v;
      at = record { told = told_later m n x.later at.at.told; tree = at.at.tree; storable = at.at.storable; block = at.at.block };
      replies = refused_replies h d (edit_of verb path json) m n t v r x.later (x.makes t v tests at);
      passed = told_both m.given n.given (λ now. PassesOn (setting_of h d t) now v v) x.later.given (told_any n.given (λ now. PassesOn (setting_of h d t) now v v) (λ now. itself_passes (setting_of h d t) now v));
    };
  };
  own = own_no h d m n r x.fails;
}

-- ---- the document takes the new block

module _ (at_standing : StandingAreAt) (h : List ℕ → List ℕ) (old new : Doc) (e : Edit (List ℕ)) (m n : Moment) (t : Tests) (v : Value) (b : List ℕ) (table : table_in new ≡ table_in old) (type : type_in new ≡ type_in old) (block : block_in new ≡ b)
    (later : Later m n) (told : m.blocks ≢ None) (x : IsNewRoot h (table_in old) t (type_in old) v e b n) where
  held : (held : List (List ℕ)) × (n.blocks ≡ Some held)
  held = told_is n (told_later m n later told)

  -- the value stands under the id of the block
  all_there : AllByRecursion (λ b. block_at held.0 (id_of b) ≡ Some b) (blocks_of bare h (table_in old) (type_in old) x.value x.tree)
  all_there = subst (λ (o : Option (List (List ℕ))). IfTold o (λ held. AllByRecursion (λ b. block_at held (id_of b) ≡ Some b) (blocks_of bare h (table_in old) (type_in old) x.value x.tree))) held.1 x.holds

  abbrev StandsIn : List Row → TypeNo → Type 0
  StandsIn rows n = Stands bare (block_at held.0) h rows n (id_of (block_in new)) x.value

  stands_old : StandsIn (table_in old) (type_in old)
  stands_old = record { tree = x.tree; storable = x.storable; root = ap id_of (block ∙ x.spelled); all = all_there }

  stands_new : StandsIn (table_in new) (type_in new)
  stands_new = subst (λ n. StandsIn (table_in new) n) (sym type) (subst (λ rows. StandsIn rows (type_in old)) (sym table) stands_old)

  root_there : block_at held.0 (id_of (block_in new)) ≡ Some (block_in new)
  root_there = subst (λ b. block_at held.0 (id_of b) ≡ Some b) (sym (block ∙ x.spelled)) all_there.0

  at_new : IsHeldAt h new t n x.value
  at_new = at_standing h new t n held.0 x.value held.1 root_there stands_new

  abbrev after : Setting
  after = setting_of h old t

  same_setting : setting_of h new t ≡ after
  same_setting = λ i. record { frame = bare; hash = h; rows = table i; tests = t; ty = type i }

  root_reply : ◌≡◌ {A = Option Reply} (Some (R.Root (record { 0 = id_of (block_in new) }))) (Some (edit_reply after (Ok x.value) None))
  root_reply = (λ i. Some (R.Root (record { 0 = id_of ((block ∙ x.spelled) i) }))) ∙ sym (ap (λ o. Some (R.Root (record { 0 = option_map_or (root_id bare) o [] }))) x.storable.tree)

  done_replies : RootIsMade h (table_in old) t (type_in old) v e m (Ok b) n → Replies (typed_lines after) m (resting v) (due after (to_edit e) (idle v)) (Some (R.Root (record { 0 = id_of (block_in new) }))) n (resting x.value)
  done_replies y = record {
    answered = inl (root_reply ∙ ap (λ r. Some (edit_reply after r None)) (sym x.edited), ap (λ r. edit_next (idle v) r) (sym x.edited));
    later = later;
    carries = λ c. subst (λ w. Carries (typed_lines w) n (resting x.value)) same_setting at_new.carries;
    stored = y.gains;
    still = y.still;
    stays = tt;
    gets = y.gets;
    puts = y.puts;
    owed = omega arith;
  }

pub done_edits : (at_standing : StandingAreAt) (h : List ℕ → List ℕ) (old new : Doc) (verb : Verb) (path : List (List ℕ)) (json : List ℕ) (m n : Moment) (b : List ℕ) → table_in new ≡ table_in old → type_in new ≡ type_in old → block_in new ≡ b
    → MakesRoot h old (edit_of verb path json) m (Ok b) n → Edits h old new verb path json m (Ok (tt {0})) n
done_edits at_standing h old new verb path json m n b table type block x = record {
  answers = record {
    later = x.later;
    table = table;
    type = type;
    kept = λ s e. absurd (root_not_no _ s e);
    told = λ t p is. absurd (edit_not_tell (edit_of verb path json) t p is);
    rooted = λ id told. same_root (record { 0 = id_of (block_in new) }) id told;
    failed = λ e. absurd (root_not_no _ N.Store e);
    blamed = λ e. absurd (root_not_no _ N.Block e);
    clashed = λ e. absurd (root_not_no _ N.Clash e);
    leads = λ t v tests at.
        let y = x.makes t v tests at in record {
          next = y.answer.value;
          at = (at_new at_standing h old new (edit_of verb path json) m n t v b table type block x.later at.at.told y.answer).at;
          replies = done_replies at_standing h old new (edit_of verb path json) m n t v b table type block x.later at.at.told y.answer y;
          passed = told_both m.given n.given (λ now. PassesOn (setting_of h old t) now v y.answer.value) x.later.given y.answer.passed;
        };
  };
  own = tt;
}
