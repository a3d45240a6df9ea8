-- What is answered behind links, of the session: outside a batch and inside one.
use Rattle.std.proofs.Common.{◌≡◌, inl, ℕ, List, [], ◌∷◌, true, false, Option, Some, None, refl, sym, ◌∙◌, subst}
use Rattle.std.specs.Prelude.{unwrap_or}
use Rattle.std.proofs.lemmas.Option.{same_Some}
use Rattle.ild_data.proofs.Options.{some_there}
use Rattle.ild_data.specs.Spell.{id_of}
use Rattle.ild_edges.specs.Store.{Later, Moment}
use Rattle.ild_links.specs.Walk.{Walked}
use Rattle.ild_links_lines.specs.Lines.{WalksFrom, walk_due, walk_gets}
use Rattle.ild_links_lines.specs.Walks.{Crosses, CrossingAnswer, LeadsAcross, StaysInFirst}
use Rattle.ild_links_session.proofs.Firsts.{leaves_as_is}
use Rattle.ild_links_session.proofs.Twice.{LeavesAsIs, carries_same, still_at}
use Rattle.ild_links_session.specs.Looks.{looks_on}
use Rattle.ild_links_session.specs.inside.Looking.{DueAlong, LooksBehind, LooksTo}
use Rattle.ild_path_edits.specs.Judged.{AreTests, Tests}
use Rattle.ild_run_document.proofs.Settings.{carries_on, storable_on}
use Rattle.ild_run_document.specs.Document.{begun_in, doc_in, own_in}
use Rattle.ild_run_document.specs.declared.document.Document.{Document}
use Rattle.ild_run_standing.specs.Standing.{IsHeldAt, IsOutside, StandsSo, setting_of}
use Rattle.ild_schema.specs.Value.{Value}
use Rattle.ild_script.specs.declared.reply.Reply.{Reply}
use Rattle.ild_script_meaning.specs.Ask.{Ask}
use Rattle.ild_script_meaning.specs.Lines.{Setting, due, typed_lines}
use Rattle.ild_script_session.proofs.Steps.{told_later}
use Rattle.ild_script_session.specs.Session.{Stage, idle, resting}
use Rattle.ild_script_session.specs.Step.{Replies}
use Rattle.ild_view_doc.specs.Docs.{IsSame, table_in}
use Rattle.ild_view_doc.specs.declared.doc.Doc.{Doc}

-- ---- the same document, over a store that holds the same

pub held_on : (d e : Doc) (tests : Tests) (m n : Moment) (v : Value) → IsSame d e → Later m n → n.blocks ≡ m.blocks → IsHeldAt id_of d tests m v → IsHeldAt id_of e tests n v
held_on d e tests m n v same later blocks x = record {
  at = record { told = told_later m n later x.at.told; tree = x.at.tree; storable = storable_on id_of d e v x.at.tree same.table same.type x.at.storable; block = same.block ∙ x.at.block };
  carries = carries_on id_of d e tests n (resting v) same.table same.type (carries_same (typed_lines (setting_of id_of d tests)) m n (resting v) blocks x.carries);
}

-- ---- outside a batch

module _ (d e : Doc) (a : Ask) (path : List (List ℕ)) (m : Moment) (found : Option Reply) (n : Moment) (c : Crosses id_of false d e a path m found n) (tests : Tests) (are : AreTests (table_in d) tests) (v : Value)
    (x : IsHeldAt id_of d tests m v) (first : Reply) (is : (due (setting_of id_of d tests) a (idle v)).reply ≡ Some first) (looks : looks_on a first ≡ true) where
  abbrev W : Setting
  W = setting_of id_of d tests

  -- no link is crossed
  pub record Stays : Type 0 where
    pub at : IsHeldAt id_of e tests n v
    pub along : DueAlong W a path m (resting v) (Some first) n (resting v)

  -- one is
  pub record Goes (reply : Reply) : Type 0 where
    pub next : Value
    pub at : IsHeldAt id_of e tests n next
    pub along : DueAlong W a path m (resting v) (Some reply) n (resting next)

  leads_at : (held : List (List ℕ)) → m.blocks ≡ Some held → LeadsAcross id_of false d e tests a path m held v found n
  leads_at held told = c.leads tests held v are told x

  stays : found ≡ None → Stays
  stays none =
      let still = c.none none in record {
        at = held_on d e tests m n v (record { table = c.table; type = c.type; block = still.0 }) c.later still.1 x;
        along = λ held walked told walk.
            let in_first : StaysInFirst W false a path m v walked n (leads_at held told).next =
            subst (λ (o : Option Reply). CrossingAnswer W false a path m v walked n (leads_at held told).next o) none ((leads_at held told).along walked walk) in
            let as_is : LeavesAsIs (due W a (idle v)) (idle v) = leaves_as_is W a (idle v) first is looks in
            let one = still_at (typed_lines W) m n (resting v) (record (due W a (idle v)) { gets = walk_gets W v path (in_first.first ∷ []) }) (Some first) c.later still.1 in_first.gets still.2 (inl (sym is, sym as_is.next)) in
            (0, subst (λ (z : Walked Value). Replies (typed_lines W) m (resting v) (walk_due W false (idle v) a path 0 z) (Some first) n (resting v)) (sym in_first.alone) one);
      }

  goes : (reply : Reply) → found ≡ Some reply → Goes reply
  goes reply some =
      let there : (held : List (List ℕ)) × (m.blocks ≡ Some held) = some_there m.blocks x.at.told in
      let l : LeadsAcross id_of false d e tests a path m there.0 v found n = leads_at there.0 there.1 in record {
        next = l.next;
        at = l.at;
        along = λ held walked told walk.
            let same : held ≡ there.0 = same_Some held there.0 (sym told ∙ there.1) in
            subst (λ (o : Option Reply). CrossingAnswer W false a path m v walked n l.next o) some (l.along walked (subst (λ (bs : List (List ℕ)). WalksFrom W bs v path walked) same walk));
      }

outside_to : (old new : Document) (a : Ask) (path : List (List ℕ)) (m : Moment) (found : Option Reply) (n : Moment) → begun_in old ≡ None → begun_in new ≡ None → Crosses id_of false (doc_in old) (doc_in new) a path m found n
    → (tests : Tests) (s : Stage Value) (first : Reply) → AreTests (table_in (doc_in old)) tests → StandsSo id_of (doc_in old) (begun_in old) (own_in old) tests m s
    → (due (setting_of id_of (doc_in old) tests) a s.state).reply ≡ Some first → looks_on a first ≡ true → LooksTo (setting_of id_of (doc_in old) tests) new tests a path m s (Some (unwrap_or found first)) n
outside_to old new a path m found n out still_out c tests s first are stands is looks =
    let o : IsOutside id_of (doc_in old) tests m s = subst (λ b. StandsSo id_of (doc_in old) b (own_in old) tests m s) out stands in
    let due_is = subst (λ (z : Stage Value). (due (setting_of id_of (doc_in old) tests) a z.state).reply ≡ Some first) o.rests is in
    subst (λ (z : Stage Value). LooksTo (setting_of id_of (doc_in old) tests) new tests a path m z (Some (unwrap_or found first)) n) (sym o.rests) (by o.value o.held due_is found refl) where
      there : (v : Value) → IsHeldAt id_of (doc_in new) tests n v → StandsSo id_of (doc_in new) (begun_in new) (own_in new) tests n (resting v)
      there v at = subst (λ b. StandsSo id_of (doc_in new) b (own_in new) tests n (resting v)) (sym still_out) (record { value = v; held = at; rests = refl })

      by : (v : Value) → IsHeldAt id_of (doc_in old) tests m v → (due (setting_of id_of (doc_in old) tests) a (idle v)).reply ≡ Some first → (f : Option Reply) → found ≡ f → LooksTo (setting_of id_of (doc_in old) tests) new tests a path m (resting v) (Some (unwrap_or found first)) n
      by v x due_is None none =
          let z : Stays (doc_in old) (doc_in new) a path m found n c tests are v x first due_is looks = stays (doc_in old) (doc_in new) a path m found n c tests are v x first due_is looks none in
          record { stage = resting v; along = subst (λ (f : Option Reply). DueAlong (setting_of id_of (doc_in old) tests) a path m (resting v) (Some (unwrap_or f first)) n (resting v)) (sym none) z.along; stands = there v z.at }
      by v x due_is (Some reply) some =
          let z : Goes (doc_in old) (doc_in new) a path m found n c tests are v x first due_is looks reply = goes (doc_in old) (doc_in new) a path m found n c tests are v x first due_is looks reply some in
          record { stage = resting z.next; along = subst (λ (f : Option Reply). DueAlong (setting_of id_of (doc_in old) tests) a path m (resting v) (Some (unwrap_or f first)) n (resting z.next)) (sym some) z.along; stands = there z.next z.at }

pub looks_outside : (old new : Document) (a : Ask) (path : List (List ℕ)) (m : Moment) (found : Option Reply) (n : Moment) → begun_in old ≡ None → begun_in new ≡ None
    → Crosses id_of false (doc_in old) (doc_in new) a path m found n → LooksBehind old new a path m found n
looks_outside old new a path m found n out still_out c = record {
  later = c.later;
  table = c.table;
  type = c.type;
  begun = still_out ∙ sym out;
  none = λ none. (c.none none).0;
  kept = c.kept;
  told = c.told;
  rooted = c.rooted;
  failed = c.failed;
  leads = λ tests s first are stands is looks. outside_to old new a path m found n out still_out c tests s first are stands is looks;
}
