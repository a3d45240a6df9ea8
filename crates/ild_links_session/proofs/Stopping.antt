-- A path that stops at a link, with segments left, leads no further in its tree: a line along it is due a reply there that may come of that.
use Rattle.std.proofs.Common.{◌≡◌, ◌⊎◌, inl, inr, ℕ, zero, suc, List, [], ◌∷◌, drop, Bool, true, false, Option, Some, None, Err, refl, sym, ap, ◌∙◌, subst}
use Rattle.std.specs.Prelude.{option_and_then}
use Rattle.std.specs.Option.{option_map_or}
use Rattle.std.proofs.lemmas.Option.{none-some, same_Some}
use Rattle.ild_data.specs.Data as D
use Rattle.ild_json.specs.Printing.{json_text}
use Rattle.ild_links.specs.Trees.{Meaning, Tree, first_tree, link_left}
use Rattle.ild_links.specs.Walk.{EndsHere, Entered, Walk, Walked, ended}
use Rattle.ild_links.specs.declared.following.TheConstants.{MOST_LINKS}
use Rattle.ild_links_lines.specs.Lines.{WalksFrom, path_in, trees_from}
use Rattle.ild_links_session.specs.Looks.{looks_on}
use Rattle.ild_path_edits.proofs.Stops.{stops_tell}
use Rattle.ild_path_edits.specs.Edit.{Edit, set_at, ins_at, del_at, changed_by, del_in, new_part, path_of, unless_kept, with_part}
use Rattle.ild_path_edits.specs.Judged.{judged_result}
use Rattle.ild_path_edits.specs.Stop.{part_along, stopped}
use Rattle.ild_path_edits.specs.Table.{delete_part, refusal_to_delete, slot_to_insert, slot_to_set}
use Rattle.ild_run_links.proofs.Standing.{left_link}
use Rattle.ild_run_links.specs.Links.{link_in}
use Rattle.ild_run_links.specs.inside.Ends.{link_unless}
use Rattle.ild_run_links.specs.Trees.{Storable, trees}
use Rattle.ild_schema.specs.Value as V
use Rattle.ild_schema.specs.Value.{Value}
use Rattle.ild_schema.specs.declared.number.Slot.{Slot}
use Rattle.ild_schema.specs.declared.number.TypeNo.{TypeNo}
use Rattle.ild_schema.specs.declared.row.Row.{Row}
use Rattle.ild_script.specs.declared.reply.No.TheVariants as N
use Rattle.ild_script.specs.declared.reply.Reply.{Reply}
use Rattle.ild_script_meaning.specs.Ask.{Ask, Tell, presence, shown_form, representation, count, list_of_parts, nothing, to_tell, to_edit, to_tell_root, to_begin, to_commit, to_abort, unknown}
use Rattle.ild_script_meaning.specs.Lines.{Setting, changed, due, edit_reply, in_slot, line_changed, printed, read_json, read_reply, told, told_of}
use Rattle.ild_script_session.specs.Session.{State}
use Rattle.ild_typed.specs.At.{InSlot, at, changed_in, last_holder, seen}
use Rattle.ild_typed.specs.Holder as H
use Rattle.ild_typed.specs.Holder.{Holder}
use Rattle.ild_typed.specs.Segment.{part}

-- ---- where a path stops at a link

-- the part at which it stops holds no others, and segments are left
pub record StopsDead (rows : List Row) (p : InSlot) (path : List (List ℕ)) : Type 0 where
  pub value : Value
  pub first : List ℕ
  pub rest : List (List ℕ)
  pub dead : seen rows (stopped rows p path).part ≡ H.nothing value
  pub left : (stopped rows p path).left ≡ first ∷ rest

link_dead : (rows : List Row) (s : Slot) (v : Value) (to : TypeNo × List ℕ) → link_in rows s v ≡ Some to → seen rows (s, v) ≡ H.nothing v
link_dead rows s (V.link cid) to is = refl
link_dead rows s V.null to is = absurd (none-some to is)
link_dead rows s (V.boolean b) to is = absurd (none-some to is)
link_dead rows s (V.integer n) to is = absurd (none-some to is)
link_dead rows s (V.text t) to is = absurd (none-some to is)
link_dead rows s (V.bytes t) to is = absurd (none-some to is)
link_dead rows s (V.list vs) to is = absurd (none-some to is)
link_dead rows s (V.map ps) to is = absurd (none-some to is)
link_dead rows s (V.struct os) to is = absurd (none-some to is)
link_dead rows s (V.union n v) to is = absurd (none-some to is)
link_dead rows s (V.enum n) to is = absurd (none-some to is)
link_dead rows s V.unit to is = absurd (none-some to is)
link_dead rows s (V.any d) to is = absurd (none-some to is)
link_dead rows s (V.hamt d) to is = absurd (none-some to is)

stops_dead : (rows : List Row) (p : InSlot) (path : List (List ℕ)) (to : TypeNo × List ℕ) → link_unless (stopped rows p path).left rows (stopped rows p path).part ≡ Some to → StopsDead rows p path
stops_dead rows p path to is = by (stopped rows p path).left refl where
  by : (left : List (List ℕ)) → (stopped rows p path).left ≡ left → StopsDead rows p path
  by [] left = absurd (none-some to (sym (ap (λ l. link_unless l rows (stopped rows p path).part) left) ∙ is))
  by (s ∷ ss) left = record {
    value = (stopped rows p path).part.1;
    first = s;
    rest = ss;
    dead = link_dead rows (stopped rows p path).part.0 (stopped rows p path).part.1 to (sym (ap (λ l. link_unless l rows (stopped rows p path).part) left) ∙ is);
    left = left;
  }

-- ---- what is due there

nowhere : (rows : List Row) (p : InSlot) (path : List (List ℕ)) → StopsDead rows p path → at rows p path ≡ None
nowhere rows p path d = (stops_tell rows 0 p path).0 ∙ ap (part_along (stopped rows p path).part) d.left

-- the last holder, where there is one, holds nothing
abbrev HoldsNone : Option (Holder × List ℕ) → Type 0
HoldsNone None = Unit {0}
HoldsNone (Some l) = (v : Value) × (l.0 ≡ H.nothing v)

last_dead : (rows : List Row) (ss : List (List ℕ)) (s : List ℕ) (p : InSlot) → StopsDead rows p (s ∷ ss) → HoldsNone (last_holder rows p s ss)
last_dead rows [] s p d = by (part (seen rows p) s) refl where
  by : (o : Option InSlot) → part (seen rows p) s ≡ o → HoldsNone (Some (seen rows p, s))
  by None is = (d.value, sym (ap (λ o. seen rows (option_map_or (λ q. stopped rows q []) o (record { part = p; left = s ∷ [] })).part) is) ∙ d.dead)
  by (Some q) is =
      let empty : [] ≡ d.first ∷ d.rest = sym (ap (λ o. (option_map_or (λ q. stopped rows q []) o (record { part = p; left = s ∷ [] })).left) is) ∙ d.left in
      absurd cc
last_dead rows (t ∷ ss) s p d = by (part (seen rows p) s) refl (λ q e. last_dead rows ss t q e) where
  by : (o : Option InSlot) → part (seen rows p) s ≡ o → ((q : InSlot) → StopsDead rows q (t ∷ ss) → HoldsNone (last_holder rows q t ss)) → HoldsNone (option_and_then (λ q. last_holder rows q t ss) o)
  by None is rest = tt
  by (Some q) is rest = rest q (record {
    value = d.value;
    first = d.first;
    rest = d.rest;
    dead = sym (ap (λ o. seen rows (option_map_or (λ q. stopped rows q (t ∷ ss)) o (record { part = p; left = s ∷ t ∷ ss })).part) is) ∙ d.dead;
    left = sym (ap (λ o. (option_map_or (λ q. stopped rows q (t ∷ ss)) o (record { part = p; left = s ∷ t ∷ ss })).left) is) ∙ d.left;
  })

none_set : (o : Option (Holder × List ℕ)) → HoldsNone o → option_and_then (λ (l : Holder × List ℕ). slot_to_set l.0 l.1) o ≡ None
none_set None none = refl
none_set (Some l) none = ap (λ h. slot_to_set h l.1) none.1

none_inserted : (o : Option (Holder × List ℕ)) → HoldsNone o → option_and_then (λ (l : Holder × List ℕ). slot_to_insert l.0 l.1) o ≡ None
none_inserted None none = refl
none_inserted (Some l) none = ap (λ h. slot_to_insert h l.1) none.1

none_deleted : (c : Value) (o : Option (Holder × List ℕ)) → HoldsNone o → del_in c o ≡ Err N.Path
none_deleted c None none = refl
none_deleted c (Some l) none = ap (λ h. unless_kept c (refusal_to_delete h l.1)) none.1

empty_not : (rows : List Row) (p : InSlot) → StopsDead rows p [] → ⊥
empty_not rows p d = let bad : [] ≡ d.first ∷ d.rest = d.left in absurd cc

-- there is no place for an edit
no_place : (w : Setting) (v : Value) (e : Edit (List ℕ)) → StopsDead w.rows (in_slot w v) (path_of e) → line_changed w v e ≡ Err N.Path
no_place w v (set_at [] json) d = absurd (empty_not w.rows (in_slot w v) d)
no_place w v (set_at (s ∷ ss) json) d =
    ap (λ o. changed_by w.rows w.tests.is_key (in_slot w v) (with_part (set_at (s ∷ ss)) (new_part w.rows w.tests.is_key read_json o json)))
    (none_set (last_holder w.rows (in_slot w v) s ss) (last_dead w.rows ss s (in_slot w v) d))
no_place w v (ins_at [] json) d = absurd (empty_not w.rows (in_slot w v) d)
no_place w v (ins_at (s ∷ ss) json) d =
    ap (λ o. changed_by w.rows w.tests.is_key (in_slot w v) (with_part (ins_at (s ∷ ss)) (new_part w.rows w.tests.is_key read_json o json)))
    (none_inserted (last_holder w.rows (in_slot w v) s ss) (last_dead w.rows ss s (in_slot w v) d))
no_place w v (del_at []) d = absurd (empty_not w.rows (in_slot w v) d)
no_place w v (del_at (s ∷ ss)) d = none_deleted (changed_in w.rows delete_part (in_slot w v) s ss) (last_holder w.rows (in_slot w v) s ss) (last_dead w.rows ss s (in_slot w v) d)

refused : (w : Setting) (v : Value) (e : Edit (List ℕ)) → StopsDead w.rows (in_slot w v) (path_of e) → changed w v e ≡ Err N.Path
refused w v e d = ap (judged_result w.frame w.hash w.rows w.tests w.ty) (no_place w v e d)

absent_looks : (path : List (List ℕ)) → looks_on (to_tell presence path) (printed (D.boolean false)) ≡ true
unfolding json_text
absent_looks path = refl

tell_looks : (w : Setting) (t : Tell) (path : List (List ℕ)) → looks_on (to_tell t path) (told (told_of w t None)) ≡ true
tell_looks w presence path = absent_looks path
tell_looks w shown_form path = refl
tell_looks w representation path = refl
tell_looks w count path = refl
tell_looks w list_of_parts path = refl

-- the line is due a reply in the first tree that may come of a link
pub record LooksDue (w : Setting) (a : Ask) (s : State Value) : Type 0 where
  pub reply : Reply
  pub is : (due w a s).reply ≡ Some reply
  pub looks : looks_on a reply ≡ true

at_path : (w : Setting) (v : Value) (x y : List (List ℕ)) → ◌≡◌ {A = Option (List (List ℕ))} (Some x) (Some y) → StopsDead w.rows (in_slot w v) y → StopsDead w.rows (in_slot w v) x
at_path w v x y is d = subst (StopsDead w.rows (in_slot w v)) (sym (same_Some x y is)) d

looks_due : (w : Setting) (a : Ask) (s : State Value) (path : List (List ℕ)) → path_in a ≡ Some path → StopsDead w.rows (in_slot w s.value) path → LooksDue w a s
looks_due w (to_tell t own) s path is d = record {
  reply = read_reply w t own s.value;
  is = refl;
  looks = ap (λ o. looks_on (to_tell t own) (told (told_of w t o))) (nowhere w.rows (in_slot w s.value) own (at_path w s.value own path is d)) ∙ tell_looks w t own;
}
looks_due w (to_edit e) s path is d = record {
  reply = edit_reply w (changed w s.value e) s.begun;
  is = refl;
  looks = ap (λ r. looks_on (to_edit e) (edit_reply w r s.begun)) (refused w s.value e (at_path w s.value (path_of e) path is d));
}
looks_due w nothing s path is d = absurd (none-some path is)
looks_due w to_tell_root s path is d = absurd (none-some path is)
looks_due w to_begin s path is d = absurd (none-some path is)
looks_due w to_commit s path is d = absurd (none-some path is)
looks_due w to_abort s path is d = absurd (none-some path is)
looks_due w unknown s path is d = absurd (none-some path is)

-- ---- a walk ends in the first tree, or there is a link

module _ {V : Type 0} (S : Bool → TypeNo → V → Type 0) (M : Meaning V) (held path : List (List ℕ)) where
  abbrev HasLink : Tree → V → ℕ → Type 0
  HasLink t v from = (to : TypeNo × List ℕ) × (link_left M t.ty v (drop from path) ≡ Some to)

  walk_cases : (n : ℕ) (t : Tree) (v : V) (from : ℕ) (w : Walked V) → Walk S M held path n t v from w → EndsHere S M held path t v from w ⊎ HasLink t v from
  unfolding Walk
  walk_cases zero t v from w (inl e) = inl e
  walk_cases zero t v from w (inr e) = inr (e.to, e.link)
  walk_cases (suc n) t v from w (inl e) = inl e
  walk_cases (suc n) t v from w (inr (inl e)) = inr (e.to, e.link)
  walk_cases (suc n) t v from w (inr (inr e)) = inr (e.to, e.link)

-- the first tree alone is entered
pub record IsAlone (walked : Walked Value) : Type 0 where
  pub first : Entered Value
  pub is : walked ≡ record { trees = first ∷ []; ending = ended }

pub alone_or_looks : (w : Setting) (a : Ask) (s : State Value) (path held : List (List ℕ)) (walked : Walked Value) → path_in a ≡ Some path → WalksFrom w held s.value path walked → IsAlone walked ⊎ LooksDue w a s
alone_or_looks w a s path held walked is walk =
    by (walk_cases (Storable (trees_from w s.value)) (trees (trees_from w s.value)) held path MOST_LINKS (first_tree (trees (trees_from w s.value))) s.value 0 walked walk) where
      by : EndsHere (Storable (trees_from w s.value)) (trees (trees_from w s.value)) held path (first_tree (trees (trees_from w s.value))) s.value 0 walked
          ⊎ HasLink (Storable (trees_from w s.value)) (trees (trees_from w s.value)) held path (first_tree (trees (trees_from w s.value))) s.value 0 → IsAlone walked ⊎ LooksDue w a s
      by (inl e) = inl (record { first = _; is = e.is })
      by (inr l) = inr (looks_due w a s path is (stops_dead w.rows (in_slot w s.value) path l.0 (left_link w.rows path (in_slot w s.value) ∙ l.1)))
