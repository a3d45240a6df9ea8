-- An edit that can be done: the last holder of its path, and what the table lets it do there.
use Rattle.std.proofs.Common.{◌≡◌, ◌-◌, ℕ, Bool, true, false, List, [], ◌∷◌, length, Option, Some, None, refl, sym, ◌∙◌, ap, subst, arith}
use Rattle.std.specs.List.{AllByRecursion}
use Rattle.std.specs.Prelude.{IsUtf8, Ok, option_and_then, slice_get}
use Rattle.std.proofs.lemmas.Option.{none-some, same_Some}
use Rattle.ild_cbor.specs.Nodes.{HasData}
use Rattle.ild_cbor.specs.declared.node.Node.{Node}
use Rattle.ild_cbor.specs.declared.piece.Piece.TheVariants as P
use Rattle.ild_data.specs.Data.{Data}
use Rattle.ild_path_edits.specs.Edit.{change, del_at, del_in, ins_at, ins_in, placed, set_at, set_in, unless_kept}
use Rattle.ild_path_edits.specs.Table.{delete_part, insert_part, key_fits, refusal_to_delete, slot_to_insert, slot_to_set}
use Rattle.ild_path_last.specs.declared.change.LastChange.{LastChange}
use Rattle.ild_path_changes.specs.LastLift.{deleting, inserting, last_seen, setting}
use Rattle.ild_path_changes.specs.Lift.{lift, lifted}
use Rattle.ild_path_changes.specs.LiftLaws.{edit_seen, seen_from}
use Rattle.ild_path_block.proofs.Numbering.{same_last, seen_last}
use Rattle.ild_path_block.specs.Changes.{Allows, IsChange, IsReady, in_last}
use Rattle.ild_path_block.specs.Edits.{BringsPart, EditsPart, IsNewRoot, IsPartItem, IsRootView, EditMakes, RootsAreViewed, edit_of}
use Rattle.ild_path_block.specs.declared.edit.PartEdit.{PartEdit}
use Rattle.ild_path_block.specs.declared.edit.PartEdit.TheVariants as E
use Rattle.ild_layer_piece.specs.Pieces.{StandsFor}
use Rattle.ild_path_holder.specs.Along.{LeadAlong, holder_at, is_holder, last_of}
use Rattle.ild_path_holder.specs.Edited.{ChangesAreEdited, IsEdited, IsTold}
use Rattle.ild_schema.specs.Value.{Value}
use Rattle.ild_schema.specs.declared.number.Slot.{Slot}
use Rattle.ild_schema.specs.declared.row.Row.{Row}
use Rattle.ild_script.specs.declared.reply.No.{No}
use Rattle.ild_splice.specs.Laws.{RootsAreAt}
use Rattle.ild_splice.specs.Splices.{IsAt}
use Rattle.ild_path_steps.specs.declared.steps.PartSteps.{PartSteps}
use Rattle.ild_typed.specs.At.{InSlot, changed_in, last_holder, seen}
use Rattle.ild_typed.specs.Fits.{Front}
use Rattle.ild_typed.specs.Hamt.{alone}
use Rattle.ild_typed.specs.Holder.{Holder, any_elements, any_entries, elements, entries, fields, member, nothing}
use Rattle.ild_typed.specs.OfType.{OfType, TestsKeys}
use Rattle.ild_typed.specs.Represented.{represented}
use Rattle.ild_typed.specs.Schema.{IsSchema}
use Rattle.ild_typed.specs.Segment.{set_part}
use Rattle.ild_view.specs.Body.{BodyStands}
use Rattle.ild_view.specs.View.{IsView, piece_in, piece_of, slot_of, table_of}
use Rattle.ild_view.specs.declared.body.Body.{Body}
use Rattle.ild_view.specs.declared.body.Body.TheVariants as B
use Rattle.ild_view.specs.declared.view.View.{View}

-- ---- what is done has a place

placed_there : (fits : Bool) (c : Value) (o : Option Slot) (d : Value) → placed fits d o ≡ Ok c → (slot : Slot) × (o ≡ Some slot)
placed_there fits c None d e = absurd cc
placed_there fits c (Some slot) d e = (slot, refl)

placed_again : (fits : Bool) (c d b : Value) (o : Option Slot) → placed fits d o ≡ Ok c → placed fits b o ≡ Ok b
placed_again fits c d b None e = absurd cc
placed_again true c d b (Some slot) e = refl
placed_again false c d b (Some slot) e = absurd cc

kept_there : (c d : Value) (o : Option No) → unless_kept d o ≡ Ok c → o ≡ None
kept_there c d None e = refl
kept_there c d (Some r) e = absurd cc

kept_again : (c d b : Value) (o : Option No) → unless_kept d o ≡ Ok c → unless_kept b o ≡ Ok b
kept_again c d b None e = refl
kept_again c d b (Some r) e = absurd cc

module _ (is_key : ℕ → List ℕ → Bool) (c d : Value) where
  set_there : (o : Option (Holder × List ℕ)) → set_in is_key d o ≡ Ok c → (l : Holder × List ℕ) × (o ≡ Some l) × ((slot : Slot) × (slot_to_set l.0 l.1 ≡ Some slot))
  set_there None e = absurd cc
  set_there (Some l) e = (l, refl, placed_there (key_fits is_key l.0 l.1) c (slot_to_set l.0 l.1) d e)

  insert_there : (o : Option (Holder × List ℕ)) → ins_in is_key d o ≡ Ok c → (l : Holder × List ℕ) × (o ≡ Some l) × ((slot : Slot) × (slot_to_insert l.0 l.1 ≡ Some slot))
  insert_there None e = absurd cc
  insert_there (Some l) e = (l, refl, placed_there (key_fits is_key l.0 l.1) c (slot_to_insert l.0 l.1) d e)

  delete_there : (o : Option (Holder × List ℕ)) → del_in d o ≡ Ok c → (l : Holder × List ℕ) × (o ≡ Some l) × (refusal_to_delete l.0 l.1 ≡ None)
  delete_there None e = absurd cc
  delete_there (Some l) e = (l, refl, kept_there c d (refusal_to_delete l.0 l.1) e)

  set_again : (b : Value) (o : Option (Holder × List ℕ)) → set_in is_key d o ≡ Ok c → set_in is_key b o ≡ Ok b
  set_again b None e = absurd cc
  set_again b (Some l) e = placed_again (key_fits is_key l.0 l.1) c d b (slot_to_set l.0 l.1) e

  insert_again : (b : Value) (o : Option (Holder × List ℕ)) → ins_in is_key d o ≡ Ok c → ins_in is_key b o ≡ Ok b
  insert_again b None e = absurd cc
  insert_again b (Some l) e = placed_again (key_fits is_key l.0 l.1) c d b (slot_to_insert l.0 l.1) e

  delete_again : (b : Value) (o : Option (Holder × List ℕ)) → del_in d o ≡ Ok c → del_in b o ≡ Ok b
  delete_again b None e = absurd cc
  delete_again b (Some l) e = kept_again c d b (refusal_to_delete l.0 l.1) e

-- ---- and its holder is one

set_holds : (h : Holder) (s : List ℕ) (slot : Slot) → slot_to_set h s ≡ Some slot → is_holder h ≡ true
set_holds (fields fs os) s slot e = refl
set_holds (member ms n v) s slot e = refl
set_holds (entries k u paired ps) s slot e = refl
set_holds (elements u vs) s slot e = refl
set_holds (any_entries ms) s slot e = refl
set_holds (any_elements ds) s slot e = refl
set_holds (nothing v) s slot e = absurd cc

insert_holds : (h : Holder) (s : List ℕ) (slot : Slot) → slot_to_insert h s ≡ Some slot → is_holder h ≡ true
insert_holds (fields fs os) s slot e = refl
insert_holds (member ms n v) s slot e = refl
insert_holds (entries k u paired ps) s slot e = refl
insert_holds (elements u vs) s slot e = refl
insert_holds (any_entries ms) s slot e = refl
insert_holds (any_elements ds) s slot e = refl
insert_holds (nothing v) s slot e = absurd cc

delete_holds : (h : Holder) (s : List ℕ) → refusal_to_delete h s ≡ None → is_holder h ≡ true
delete_holds (fields fs os) s e = refl
delete_holds (member ms n v) s e = refl
delete_holds (entries k u paired ps) s e = refl
delete_holds (elements u vs) s e = refl
delete_holds (any_entries ms) s e = refl
delete_holds (any_elements ds) s e = refl
delete_holds (nothing v) s e = absurd cc

pub record IsAllowed (rows : List Row) (p : InSlot) (s : List ℕ) (ss : List (List ℕ)) (edit : PartEdit) (w : Value) : Type 0 where
  pub last : InSlot
  pub at : holder_at rows p s ss ≡ Some last
  pub holds : is_holder (seen rows last) ≡ true
  pub allows : Allows rows edit (seen rows last) (last_of s ss) w

module _ (rows : List Row) (is_key : ℕ → List ℕ → Bool) (p : InSlot) (s : List ℕ) (ss : List (List ℕ)) (w c : Value) where
  pub allowed : (edit : PartEdit) → BringsPart rows p (s ∷ ss) edit w → EditMakes rows is_key edit w p (s ∷ ss) c → IsAllowed rows p s ss edit w
  allowed (E.Set n) brings makes =
      let x = set_there is_key c (changed_in rows (λ h t. set_part h t w) p s ss) (last_holder rows p s ss) makes in
      let y = seen_last rows p s ss x.0 x.1 in
      let there : slot_to_set (seen rows y.0) (last_of s ss) ≡ Some x.2.0 = ap (λ (l : Holder × List ℕ). slot_to_set l.0 l.1) y.2 ∙ x.2.1 in
      record {
        last = y.0;
        at = y.1;
        holds = set_holds (seen rows y.0) (last_of s ss) x.2.0 there;
        allows = (x.2.0, there, brings x.2.0 (ap (option_and_then (λ (l : Holder × List ℕ). slot_to_set l.0 l.1)) x.1 ∙ x.2.1));
      }
  allowed (E.Insert n) brings makes =
      let x = insert_there is_key c (changed_in rows (λ h t. insert_part h t w) p s ss) (last_holder rows p s ss) makes in
      let y = seen_last rows p s ss x.0 x.1 in
      let there : slot_to_insert (seen rows y.0) (last_of s ss) ≡ Some x.2.0 = ap (λ (l : Holder × List ℕ). slot_to_insert l.0 l.1) y.2 ∙ x.2.1 in
      record {
        last = y.0;
        at = y.1;
        holds = insert_holds (seen rows y.0) (last_of s ss) x.2.0 there;
        allows = (x.2.0, there, brings x.2.0 (ap (option_and_then (λ (l : Holder × List ℕ). slot_to_insert l.0 l.1)) x.1 ∙ x.2.1));
      }
  allowed E.Delete brings makes =
      let x = delete_there is_key c (changed_in rows delete_part p s ss) (last_holder rows p s ss) makes in
      let y = seen_last rows p s ss x.0 x.1 in
      let there : refusal_to_delete (seen rows y.0) (last_of s ss) ≡ None = ap (λ (l : Holder × List ℕ). refusal_to_delete l.0 l.1) y.2 ∙ x.2 in
      record { last = y.0; at = y.1; holds = delete_holds (seen rows y.0) (last_of s ss) there; allows = there }

  -- the same edit of each holder on the way, at the rest of the path
  pub makes_rest : (edit : PartEdit) → EditMakes rows is_key edit w p (s ∷ ss) c → (h : InSlot) (t : List ℕ) (ts : List (List ℕ)) → last_holder rows h t ts ≡ last_holder rows p s ss
      → EditMakes rows is_key edit w h (t ∷ ts) (changed_in rows (in_last edit w).made h t ts)
  makes_rest (E.Set n) makes h t ts same =
      ap (set_in is_key (changed_in rows (λ h t. set_part h t w) h t ts)) same
      ∙ set_again is_key c (changed_in rows (λ h t. set_part h t w) p s ss) (changed_in rows (λ h t. set_part h t w) h t ts) (last_holder rows p s ss) makes
  makes_rest (E.Insert n) makes h t ts same =
      ap (ins_in is_key (changed_in rows (λ h t. insert_part h t w) h t ts)) same
      ∙ insert_again is_key c (changed_in rows (λ h t. insert_part h t w) p s ss) (changed_in rows (λ h t. insert_part h t w) h t ts) (last_holder rows p s ss) makes
  makes_rest E.Delete makes h t ts same =
      ap (del_in (changed_in rows delete_part h t ts)) same ∙ delete_again is_key c (changed_in rows delete_part p s ss) (changed_in rows delete_part h t ts) (last_holder rows p s ss) makes

  -- what the law of edits says of it
  pub edited : ChangesAreEdited → IsSchema rows → TestsKeys rows is_key → (edit : PartEdit) → AllByRecursion IsUtf8 (s ∷ ss) → BringsPart rows p (s ∷ ss) edit w → EditMakes rows is_key edit w p (s ∷ ss) c → OfType rows p.0 p.1
      → (q : InSlot) (x t u : Data) (steps : List PartSteps) (last : LastChange) (r : Option ℕ) → represented alone rows p.0 p.1 ≡ Some t → represented alone rows p.0 c ≡ Some u
      → IsTold rows (in_last edit w) p q s ss x steps last r → IsEdited rows (in_last edit w) p q s ss x steps last r t u
  edited law schema keys (E.Set n) texts brings makes is q x t u steps last r was now told =
      law rows is_key schema keys p q (set_at (s ∷ ss) w) c s ss x t u steps last r texts (λ slot e. (brings slot e).fits) is makes refl told was now
  edited law schema keys (E.Insert n) texts brings makes is q x t u steps last r was now told =
      law rows is_key schema keys p q (ins_at (s ∷ ss) w) c s ss x t u steps last r texts (λ slot e. (brings slot e).fits) is makes refl told was now
  edited law schema keys E.Delete texts brings makes is q x t u steps last r was now told = law rows is_key schema keys p q (del_at (s ∷ ss)) c s ss x t u steps last r texts tt is makes refl told was now

  -- the whole value is set
  pub new_root : (edit : PartEdit) (u : Data) → BringsPart rows p [] edit w → EditMakes rows is_key edit w p [] c → represented alone rows p.0 c ≡ Some u → IsNewRoot edit u
  new_root (E.Set n) u brings makes now =
      let new : IsPartItem rows p.0 n w = brings p.0 refl in
      let same : w ≡ c = cc makes in
      subst (HasData n) (same_Some new.tree u (sym new.tree_is ∙ ap (represented alone rows p.0) same ∙ now)) new.stands
  new_root (E.Insert n) u brings makes now = absurd cc
  new_root E.Delete u brings makes now = absurd cc

-- its one change is lifted from the last holder
lifts : (rows : List Row) (p : InSlot) (s : List ℕ) (ss : List (List ℕ)) (w : Value) (edit : PartEdit) (q : InSlot) → holder_at rows p s ss ≡ Some q
    → edit_seen alone rows p (edit_of edit w (s ∷ ss)) ≡ lifted rows (lift alone rows) (in_last edit w).made (last_seen alone rows (in_last edit w) (last_of s ss)) p s ss
lifts rows p s ss w (E.Set n) q at = ap (seen_from alone rows (setting w) p s ss) (same_last rows p q s ss at)
lifts rows p s ss w (E.Insert n) q at = ap (seen_from alone rows (inserting w) p s ss) (same_last rows p q s ss at)
lifts rows p s ss w E.Delete q at = ap (seen_from alone rows deleting p s ss) (same_last rows p q s ss at)

-- ---- the view of the block

pub view_of : (v : View) (f : Value) (t : Data) → IsRootView v f t → IsView v f
view_of v f t h = record { room = h.room; tree = t; stands = by v.body h.piece; front = h.front } where
  by : (b : Body) → piece_in b ≡ Some (P.Node h.node) → BodyStands (table_of v) b t
  by (B.Held r) e = subst (λ r. StandsFor (table_of v) r t) (sym (same_Some r (P.Node h.node) e)) h.root.stands
  by (B.Implicit c) e = absurd (none-some (P.Node h.node) e)

pub roots_are_viewed : RootsAreViewed
roots_are_viewed rows room s n b t v spelled root views = (
  views.1.0,
  record {
    node = n;
    piece = views.0.piece;
    block = b;
    spelled = spelled;
    root = root;
    room = room;
    front = subst (λ rs. Front rs room (slot_of v) views.1.0 t) (sym views.0.table) (subst (λ u. Front rows room u views.1.0 t) (sym views.0.slot) views.1.1);
  },
)

pub root_at : (v : View) (f : Value) (t : Data) (n : Node) → IsRootView v f t → Some (P.Node n) ≡ piece_of v → RootsAreAt → IsAt n t [] t
root_at v f t n h e law =
    let same : n ≡ h.node = cc (e ∙ h.piece) in
    subst (λ m. IsAt m t [] t) (sym same) (law h.node h.block t h.spelled h.root)

-- ---- the last segment

last_is : (s : List ℕ) (ss : List (List ℕ)) → slice_get (s ∷ ss) (length ss) ≡ Some (last_of s ss)
last_is s [] = refl
last_is s (t ∷ ts) = last_is t ts

at_last : (s : List ℕ) (ss : List (List ℕ)) → slice_get (s ∷ ss) (length (s ∷ ss) - 1) ≡ Some (last_of s ss)
at_last s ss = let less : length (s ∷ ss) - 1 ≡ length ss = omega arith in ap (slice_get (s ∷ ss)) less ∙ last_is s ss

pub no_last : (path : List (List ℕ)) → None ≡ slice_get path (length path - 1) → path ≡ []
no_last [] e = refl
no_last (s ∷ ss) e = absurd (none-some (last_of s ss) (e ∙ at_last s ss))

pub some_last : (path : List (List ℕ)) (x : List ℕ) → Some x ≡ slice_get path (length path - 1) → (s : List ℕ) × (ss : List (List ℕ)) × (path ≡ s ∷ ss) × (x ≡ last_of s ss)
some_last [] x e = absurd (none-some x (sym e))
some_last (s ∷ ss) x e = (s, ss, refl, same_Some x (last_of s ss) (e ∙ at_last s ss))

-- ---- the whole

module _ (v : View) (is_key : ℕ → List ℕ → Bool) (path : List (List ℕ)) (edit : PartEdit) (f w c : Value) (t u : Data) (e : EditsPart is_key v path edit f w c t u) where
  pub root_set : path ≡ [] → IsNewRoot edit u
  root_set none =
      new_root (table_of v) is_key (slot_of v, f) [] [] w c edit u (subst (λ y. BringsPart (table_of v) (slot_of v, f) y edit w) none e.brings) (subst (λ y. EditMakes (table_of v) is_key edit w (slot_of v, f) y c) none e.makes) e.shown

  module _ (s : List ℕ) (ss : List (List ℕ)) (path_is : path ≡ s ∷ ss) where
    brings : BringsPart (table_of v) (slot_of v, f) (s ∷ ss) edit w
    brings = subst (λ y. BringsPart (table_of v) (slot_of v, f) y edit w) path_is e.brings

    makes : EditMakes (table_of v) is_key edit w (slot_of v, f) (s ∷ ss) c
    makes = subst (λ y. EditMakes (table_of v) is_key edit w (slot_of v, f) y c) path_is e.makes

    pub last_allowed : IsAllowed (table_of v) (slot_of v, f) s ss edit w
    last_allowed = allowed (table_of v) is_key (slot_of v, f) s ss w c edit brings makes

    pub made_ready : AllByRecursion IsUtf8 path → ChangesAreEdited → IsSchema (table_of v) → (q : InSlot) → holder_at (table_of v) (slot_of v, f) s ss ≡ Some q → (steps : List PartSteps) → LeadAlong (table_of v) (slot_of v, f) s ss steps
        → (change : LastChange) (new : Option Node) → IsChange (table_of v) (in_last edit w) q (last_of s ss) new change → IsReady (table_of v) is_key edit w (slot_of v, f) path steps change new t u
    made_ready texts law schema q at steps lead change new is_change = record {
      last = q;
      first = s;
      others = ss;
      path_is = path_is;
      at = at;
      lead = lead;
      was = e.root.front.tree;
      one_change = ap (λ y. edit_seen alone (table_of v) (slot_of v, f) (edit_of edit w y)) path_is ∙ lifts (table_of v) (slot_of v, f) s ss w edit q at;
      is_change = is_change;
      law = λ r told.
          edited (table_of v) is_key (slot_of v, f) s ss w c law schema e.keys edit (subst (λ y. AllByRecursion IsUtf8 y) path_is texts) brings makes (e.root.room, e.root.front.fits) q is_change.some t u steps change r e.root.front.tree e.shown told;
      makes = λ h t ts same. makes_rest (table_of v) is_key (slot_of v, f) s ss w c edit makes h t ts same;
    }
