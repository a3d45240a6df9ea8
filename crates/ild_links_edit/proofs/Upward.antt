-- An edit in the last tree of a walk, at each exit.
use Rattle.std.proofs.Common.{◌≡◌, ℕ, List, [], ◌∷◌, drop, Some, Result, Ok, Err, IfOk, refl, sym, ap, ◌∙◌, subst, arith}
use Rattle.std.specs.Option.{option_map_or}
use Rattle.std.proofs.lemmas.Option.{same_Some}
use Rattle.ild_data.specs.Spell.{id_of}
use Rattle.ild_data.specs.declared.id.BlockId.{BlockId}
use Rattle.ild_edges.proofs.Later.{Later-trans}
use Rattle.ild_edges.specs.Count.{Rose}
use Rattle.ild_edges.specs.Store.{Moment, block_at}
use Rattle.ild_links.specs.Carries.{IsWalked}
use Rattle.ild_links.specs.Follows.{hops_of}
use Rattle.ild_links.specs.Trees.{first_tree, tree_of}
use Rattle.ild_links.specs.Walk.{Entered, ended as ended_walk}
use Rattle.ild_links.specs.declared.following.TheConstants.{MOST_LINKS}
use Rattle.ild_links.specs.declared.hop.Hop.{Hop}
use Rattle.ild_links_edit.proofs.Done.{Ended, Ready, contents, done, ended, not_found, not_raised, raised, refused_end, refused_far, so_far}
use Rattle.ild_links_edit.proofs.Earlier.{held_later, refusal_in, told_not}
use Rattle.ild_links_edit.specs.inside.Changes.{Changes, LeavesBehind}
use Rattle.ild_links_edit.specs.inside.Ends.{EditsIn, LeavesIn}
use Rattle.ild_links_edit.specs.inside.Finds.{FindsRoot, FoundAnswer}
use Rattle.ild_links_edit.specs.inside.Raises.{Raises}
use Rattle.ild_links_lines.specs.Lines.{last_tree, setting_in, trees_from}
use Rattle.ild_links_lines.specs.Walks.{trees_of}
use Rattle.ild_links_walk.proofs.Lasts.{last_is, last_stands}
use Rattle.ild_links_walk.specs.Last.{crossed, last_hop}
use Rattle.ild_path_edits.specs.Edit.{Edit}
use Rattle.ild_path_edits.specs.Judged.{AreTests, Tests}
use Rattle.ild_path_place.specs.declared.verb.Verb.{Verb}
use Rattle.ild_run_edit.specs.Edits.{edit_of}
use Rattle.ild_run_links.proofs.Standing.{stands_under}
use Rattle.ild_run_links.specs.Trees.{Setting as Reading, Storable, trees}
use Rattle.ild_run_standing.specs.Laws.{HeldAreStanding, StandingAreAt}
use Rattle.ild_run_standing.specs.Standing.{DocIsAt, IsHeldAt, setting_of}
use Rattle.ild_schema.specs.Value.{Value}
use Rattle.ild_script.specs.declared.reply.No.{No}
use Rattle.ild_script.specs.declared.reply.No.TheVariants as N
use Rattle.ild_script_meaning.specs.Lines.{Setting}
use Rattle.ild_typed.specs.Stands.{Stands, bare, root_id}
use Rattle.ild_typed_places.specs.Laws.{PlacesAreBlocks}
use Rattle.ild_view_doc.specs.Docs.{table_in, type_in}
use Rattle.ild_view_doc.specs.declared.doc.Doc.{Doc}

-- the trees whose first is a document's are those from the value at which it stands
pub reading : (old : Doc) (tests : Tests) (m : Moment) (v : Value) → DocIsAt id_of old m v → trees_from (setting_of id_of old tests) v ≡ trees_of id_of old
reading old tests m v at =
    ap (λ (id : List ℕ). record { hash = id_of; rows = table_in old; ty = type_in old; id = id })
    (ap (λ o. option_map_or (root_id bare) o []) at.storable.tree ∙ ap id_of (sym at.block))

module _ (at : StandingAreAt) (standing : HeldAreStanding) (old : Doc) (verb : Verb) (path : List (List ℕ)) (json : List ℕ) (hops : List Hop) (last : Hop) (is_last : crossed hops ≡ Some last) (m : Moment) where
  abbrev EditsLast : Result BlockId No → Moment → Type 0
  EditsLast result k = EditsIn (table_in old) last (edit_of verb (drop last.from path) json) m result k

  -- along a walk
  module _ (tests : Tests) (held : List (List ℕ)) (v : Value) (top next : Entered Value) (more : List (Entered Value)) (are : AreTests (table_in old) tests) (told : m.blocks ≡ Some held)
      (walked : IsWalked (Storable (trees_from (setting_of id_of old tests) v)) (trees (trees_from (setting_of id_of old tests) v)) held path (top ∷ next ∷ more)) (hops_are : hops ≡ hops_of (top ∷ next ∷ more)) where
    abbrev W : Setting
    W = setting_of id_of old tests

    abbrev Read : Reading
    Read = trees_from W v

    abbrev Last : Entered Value
    Last = last_tree next more

    hop_is : Last.hop ≡ last
    hop_is = sym (last_is next more) ∙ same_Some (last_hop next.hop (hops_of more)) last (sym (ap crossed hops_are) ∙ is_last)

    stands_last : Stands bare (block_at held) id_of (table_in old) Last.hop.ty Last.hop.id.0 Last.value
    stands_last = stands_under Read held (tree_of Last.hop) Last.value
        (last_stands (Storable Read) (trees Read) held path MOST_LINKS (first_tree (trees Read)) walked.value 0 (record { trees = top ∷ next ∷ more; ending = ended_walk }) top (next ∷ more) refl walked.stands walked.walk)

    leaves : (result : Result BlockId No) (k : Moment) → EditsLast result k → LeavesIn (setting_in W Last) Last.value (edit_of verb (drop Last.hop.from path) json) m result k
    leaves result k x = (subst (λ (h : Hop). EditsIn (table_in old) h (edit_of verb (drop h.from path) json) m result k) (sym hop_is) x).leads tests held Last.value are told stands_last

  -- ---- the edit is refused

  pub not_ended : (k : Moment) (refusal : No) → EditsLast (Err refusal) k → Changes old verb path json hops m (Err refusal) k
  not_ended k refusal x = record {
    later = x.later;
    same = tt;
    failed = λ is. x.failed (ap Err (ap refusal_in is));
    leads = λ tests held v top next more are told is crossed_by.
        refused_end old tests v path top next more (edit_of verb (drop (last_tree next more).hop.from path) json) m k refusal (told_not m.blocks held told) (held_later at standing old tests m k v x.later is)
        (leaves tests held v top next more are told crossed_by.walked crossed_by.hops_are (Err refusal) k x);
  }

  -- ---- it is done

  module _ (places : PlacesAreBlocks) (k l : Moment) (new : BlockId) (x : EditsLast (Ok new) k) where
    -- no root comes up
    pub not_up : (refusal : No) → Raises (trees_of id_of old) path hops new.0 k (Err refusal) l → Changes old verb path json hops m (Err refusal) l
    not_up refusal y = record {
      later = Later-trans m k l x.later y.later;
      same = tt;
      failed = λ is. let up = x.later.faults in let rose : Rose k.faults l.faults = y.failed (ap Err (ap refusal_in is)) in omega (arith, up, rose);
      leads = λ tests held v top next more are told is crossed_by.
          let walked = crossed_by.walked in
          let hops_are = crossed_by.hops_are in
          let w = setting_of id_of old tests in
          let e = edit_of verb (drop (last_tree next more).hop.from path) json in
          let d : Ended old tests v path top next more e m k new.0 = ended old tests v path top next more e m k new (leaves tests held v top next more are told walked hops_are (Ok new) k x) in
          let r = subst (λ (n : List ℕ). Raises (trees_from w v) path hops n k (Err refusal) l) d.root (subst (λ (z : Reading). Raises z path hops new.0 k (Err refusal) l) (sym (reading old tests m v is.at)) y) in
          let z = contents old tests v path top next more e m k l held told x.later y.later in
          refused_far old tests v path top next more e m l d.value 1 refusal
          (so_far old tests v path top next more e places m k l d.value hops r.answer r.before r.lacks held z walked hops_are x.later y.later r.carries d.adds d.whole d.gets d.puts) d.edited
          (not_raised old tests v path top next more e places m k l d.value hops r.answer r.before r.lacks held z walked hops_are x.later y.later r.carries refusal r.is) (held_later at standing old tests m l v (Later-trans m k l x.later y.later) is);
    }

    module _ (root : BlockId) (n : Moment) (y : Raises (trees_of id_of old) path hops new.0 k (Ok root) l) where
      found_failed : (r : Result Doc No) → FindsRoot (table_in old) (type_in old) root.0 l r n → r ≡ Err N.Store → Rose m.faults n.faults
      found_failed r f is =
          let up = x.later.faults in
          let more = y.later.faults in
          let rose : Rose l.faults n.faults = subst (λ (z : Result Doc No). FoundAnswer (table_in old) (type_in old) root.0 l z n) is f.answer in
          omega (arith, up, more, rose)

      same_doc : (r : Result Doc No) → FindsRoot (table_in old) (type_in old) root.0 l r n → IfOk r (λ d. (table_in d ≡ table_in old) × (type_in d ≡ type_in old))
      same_doc (Ok d) f = (f.answer.table, f.answer.type)
      same_doc (Err refusal) f = tt

      ready : (tests : Tests) (held : List (List ℕ)) (v : Value) (top next : Entered Value) (more : List (Entered Value)) → AreTests (table_in old) tests → m.blocks ≡ Some held → IsHeldAt id_of old tests m v
          → IsWalked (Storable (trees_from (setting_of id_of old tests) v)) (trees (trees_from (setting_of id_of old tests) v)) held path (top ∷ next ∷ more) → hops ≡ hops_of (top ∷ next ∷ more)
          → Ready old tests v path top next more (edit_of verb (drop (last_tree next more).hop.from path) json) m l root.0
      ready tests held v top next more are told is walked hops_are =
          let w = setting_of id_of old tests in
          let e = edit_of verb (drop (last_tree next more).hop.from path) json in
          let d : Ended old tests v path top next more e m k new.0 = ended old tests v path top next more e m k new (leaves tests held v top next more are told walked hops_are (Ok new) k x) in
          let u = subst (λ (i : List ℕ). Raises (trees_from w v) path hops i k (Ok root) l) d.root (subst (λ (z : Reading). Raises z path hops new.0 k (Ok root) l) (sym (reading old tests m v is.at)) y) in
          let z = contents old tests v path top next more e m k l held told x.later y.later in record {
            value = d.value;
            edited = d.edited;
            so = so_far old tests v path top next more e places m k l d.value hops u.answer u.before u.lacks held z walked hops_are x.later y.later u.carries d.adds d.whole d.gets d.puts;
            now = z.now;
            told = z.told_now;
            stands = raised old tests v path top next more e places m k l d.value hops u.answer u.before u.lacks held z walked hops_are x.later y.later u.carries root u.is;
          }

      leaves_all : (tests : Tests) (held : List (List ℕ)) (v : Value) (top next : Entered Value) (more : List (Entered Value)) (e : Edit (List ℕ)) → IsHeldAt id_of old tests m v → Ready old tests v path top next more e m l root.0
          → (r : Result Doc No) → FindsRoot (table_in old) (type_in old) root.0 l r n → LeavesBehind old tests v path (top ∷ next ∷ more) (last_tree next more) e m r n
      leaves_all tests held v top next more e is z (Ok d) f = done old tests v path top next more e at m l n root (Later-trans m k l x.later y.later) z.value z.edited z.so z.now z.told z.stands d f
      leaves_all tests held v top next more e is z (Err refusal) f =
          not_found old tests v path top next more e at m l n root (Later-trans m k l x.later y.later) z.value z.edited z.so z.now z.told z.stands refusal f
          (held_later at standing old tests m n v (Later-trans m l n (Later-trans m k l x.later y.later) f.reads.later) is)

      pub changes : (r : Result Doc No) → FindsRoot (table_in old) (type_in old) root.0 l r n → Changes old verb path json hops m r n
      changes r f = record {
        later = Later-trans m l n (Later-trans m k l x.later y.later) f.reads.later;
        same = same_doc r f;
        failed = found_failed r f;
        leads = λ tests held v top next more are told is crossed_by.
            leaves_all tests held v top next more (edit_of verb (drop (last_tree next more).hop.from path) json) is (ready tests held v top next more are told is crossed_by.walked crossed_by.hops_are) r f;
      }
