-- The pieces of a place.
use Rattle.std.proofs.Common.{◌≡◌, ℕ, Bool, true, true≢false, List, [], ◌∷◌, ◌++◌, Option, Some, refl, sym, ap, ◌∙◌, subst}
use Rattle.std.specs.Prelude.{IfOk, Result, Ok, Err}
use Rattle.std.proofs.Math.Logic.{∥∥₁_map}
use Rattle.ild_cbor.specs.declared.node.Node.{Node}
use Rattle.ild_data.specs.Data.{Data}
use Rattle.ild_data.specs.Limits.{deepest}
use Rattle.ild_edges.specs.Store.{Moment, block_at}
use Rattle.ild_hamt.specs.declared.trail.Trail.{Trail}
use Rattle.ild_node_slots.specs.declared.fault.HamtFault.{HamtFault}
use Rattle.ild_open_held.specs.Held.{IsHeld}
use Rattle.ild_path_block.specs.Edits.{IsRootView}
use Rattle.ild_path_block.specs.declared.edit.PartEdit.{PartEdit}
use Rattle.ild_path_block.specs.declared.edit.PartEdit.TheVariants as E
use Rattle.ild_path_ends.specs.Ends.{EditsAtKey, EditsInBlock, EditsWhole}
use Rattle.ild_path_ends.specs.Parts.{HasEnd, IsChange, IsPartHeld}
use Rattle.ild_path_ends.specs.Steps.{IsKeyIn}
use Rattle.ild_path_entry.specs.declared.entry.Entry.{Entry}
use Rattle.ild_path_hops.specs.Hops.{AreHops, front_of, key_of}
use Rattle.ild_path_hops.specs.HopLaws.{path_of_hops}
use Rattle.ild_path_hops.specs.declared.hop.Hop.{Hop}
use Rattle.ild_path_place.specs.Comes.{comes}
use Rattle.ild_path_place.specs.Links.{IsLinked, may_be}
use Rattle.ild_path_place.specs.Parts.{ArePartsOf}
use Rattle.ild_path_place.specs.Tells.{root_at, slot_at, table_at}
use Rattle.ild_path_place.specs.Places.{EndsAt, through}
use Rattle.ild_path_place.specs.declared.parts.Parts.{Parts}
use Rattle.ild_path_place.specs.declared.place.End.{End}
use Rattle.ild_path_place.specs.declared.place.End.TheVariants as D
use Rattle.ild_path_place.specs.declared.place.Place.{Place}
use Rattle.ild_path_place.specs.declared.verb.Verb.{Verb}
use Rattle.ild_path.proofs.Safe.{new_safe}
use Rattle.ild_path.specs.inside.Pieces.{ArePieces, takes}
use Rattle.ild_path.specs.inside.Replaced.{ReplacesParts}
use Rattle.ild_path.specs.Replaces.{ComesBy, IsChanged, IsHeldPart, IsPlaceOf, Replaces}
use Rattle.ild_path.specs.declared.fault.EditFault.{EditFault}
use Rattle.ild_path_edits.specs.Edit.{Edit, change, del_at, ins_at, new_slot, set_at}
use Rattle.ild_path_place.specs.declared.verb.Verb.TheVariants as V
use Rattle.ild_schema.proofs.Legibly.{legible}
use Rattle.ild_schema.specs.Clear.{IsSafe}
use Rattle.ild_schema.specs.Slots.{plainly}
use Rattle.ild_schema.specs.Value.{Value}
use Rattle.ild_schema.specs.declared.number.Slot.{Slot}
use Rattle.ild_schema.specs.declared.number.TypeNo.{TypeNo}
use Rattle.ild_schema.specs.declared.row.Row.{Row}
use Rattle.ild_typed.specs.OfType.{TestsKeys}
use Rattle.ild_typed.proofs.OneValue.{plain_safe}
use Rattle.ild_typed_fronts.specs.Front.{front, in_one_block}
use Rattle.ild_typed_fronts.proofs.Representing.{fronts_are_fronts}
use Rattle.ild_typed.specs.Fits.{Front}
use Rattle.ild_path_ends.specs.Roots.{HasBlock}
use Rattle.ild_view_doc.specs.Block.{HasRoot}
use Rattle.ild_value_meaning.proofs.Told.{told as accepted_tell}
use Rattle.ild_view.specs.View.{slot_of, table_of}
use Rattle.ild_view.specs.declared.view.View.{View}

through_is : (hops : List Hop) → through hops ≡ path_of_hops hops
through_is [] = refl
through_is (hop ∷ hops) = ap (λ p. front_of hop ++ (key_of hop ∷ p)) (through_is hops)

has_end : (e : PartEdit) (path : List (List ℕ)) (s : List ℕ) (ss : List (List ℕ)) → path ≡ s ∷ ss → HasEnd e path
has_end (E.Set n) path s ss is = tt
has_end (E.Insert n) path s ss is = subst (HasEnd (E.Insert n)) (sym is) tt
has_end E.Delete path s ss is = subst (HasEnd E.Delete) (sym is) tt

whole_taken : (e : PartEdit) (path : List (List ℕ)) → takes D.Whole e ≡ true → HasEnd e path
whole_taken (E.Set n) path is = tt
whole_taken (E.Insert n) path is = absurd (true≢false (sym is))
whole_taken E.Delete path is = absurd (true≢false (sym is))

pub whole_end : (e : PartEdit) (end : End) (path : List (List ℕ)) → end ≡ D.Whole → takes end e ≡ true → HasEnd e path
whole_end e end path is fits = whole_taken e path (subst (λ (y : End). takes y e ≡ true) is fits)

-- ---- what a place lets be done

set_taken : (n : Node) (end : End) → takes end (E.Set n) ≡ true
set_taken n D.Whole = refl
set_taken n (D.InBlock path) = refl
set_taken n (D.AtKey front trail entry) = refl

ins_taken : (n : Node) (end : End) → may_be end V.Ins ≡ true → takes end (E.Insert n) ≡ true
ins_taken n D.Whole is = is
ins_taken n (D.InBlock path) is = refl
ins_taken n (D.AtKey front trail entry) is = refl

del_taken : (end : End) → may_be end V.Del ≡ true → takes end E.Delete ≡ true
del_taken D.Whole is = is
del_taken (D.InBlock path) is = refl
del_taken (D.AtKey front trail entry) is = refl

module _ (place : Place) (parts : Parts) (are : ArePartsOf place parts) where
  pub linked_of : ∥ IsLinked parts.root parts.hops.items parts.end ∥₁
  linked_of =
      subst (λ r. ∥ IsLinked r parts.hops.items parts.end ∥₁) (sym are.root)
      (subst (λ hs. ∥ IsLinked place.root hs.items parts.end ∥₁) (sym are.hops) (subst (λ e. ∥ IsLinked place.root place.hops.items e ∥₁) (sym are.end) place.linked))

  may : (verb : Verb) → parts.verb ≡ verb → may_be parts.end verb ≡ true
  may verb is = subst (λ (e : End). may_be e verb ≡ true) (sym are.end) (subst (λ (w : Verb). may_be place.end w ≡ true) (sym are.verb ∙ is) place.whole)

  pub takes_set : (n : Node) → takes parts.end (E.Set n) ≡ true
  takes_set n = set_taken n parts.end

  pub takes_ins : (n : Node) → parts.verb ≡ V.Ins → takes parts.end (E.Insert n) ≡ true
  takes_ins n is = ins_taken n parts.end (may V.Ins is)

  pub takes_del : parts.verb ≡ V.Del → takes parts.end E.Delete ≡ true
  takes_del is = del_taken parts.end (may V.Del is)

  pub comes_by : (verb : Verb) → parts.verb ≡ verb → comes place.verb ≡ true → comes verb ≡ true
  comes_by verb is = subst (λ (w : Verb). comes w ≡ true) (sym are.verb ∙ is)

-- ---- taken apart

module _ (h : List ℕ → List ℕ) (is_key : ℕ → List ℕ → Bool) (was : List (List ℕ)) (n : TypeNo) (v : Value) (path : List (List ℕ)) (verb : Verb) (place : Place) (keys : TestsKeys (table_at place) is_key)
    (x : IsPlaceOf h (table_at place) was n v path verb place) where
  abbrev Rows : List Row
  Rows = table_at place

  abbrev S : Slot
  S = slot_at place

  abbrev T : Data
  T = x.rooted.tree

  pub slot_is : S ≡ plainly n
  slot_is = x.rooted.goes.stands.slot

  held_root : IsHeld (block_at was) h Rows deepest S T v
  held_root = subst (λ s. IsHeld (block_at was) h Rows deepest s T v) (sym slot_is) x.rooted.goes.held

  safe_root : IsSafe Rows S
  safe_root = plain_safe Rows S (ap (λ (s : Slot). s.nullable) slot_is)

  root_view : IsRootView (root_at place) (front h Rows S v) T
  root_view = let w = x.rooted.whole in record {
    node = w.node;
    piece = w.piece;
    block = w.block;
    spelled = w.spelled;
    root = w.root;
    room = deepest;
    front = fronts_are_fronts h Rows x.rooted.goes.schema deepest S v T safe_root held_root.fits held_root.tree;
  }

  pieces : ArePieces h is_key was place.root place.hops.items place.end v path
  pieces = record {
    tree = T;
    level = record { schema = x.rooted.goes.schema; keys = keys; held = held_root; root = root_view };
    q = x.is.inner;
    less = x.is.less;
    leads = subst (λ s. AreHops h Rows was deepest (s, v) place.hops.items x.is.inner x.is.less) (sym slot_is) x.is.hops_are;
    rest = x.is.rest;
    split = x.is.split ∙ ap (λ p. p ++ x.is.rest) (through_is place.hops.items);
    ends = x.is.ends;
  }

  pub pieces_of : (parts : Parts) → ArePartsOf place parts → ArePieces h is_key was parts.root parts.hops.items parts.end v path
  pieces_of parts are =
      subst (λ r. ArePieces h is_key was r parts.hops.items parts.end v path) (sym are.root)
      (subst (λ hs. ArePieces h is_key was place.root hs.items parts.end v path) (sym are.hops) (subst (λ e. ArePieces h is_key was place.root place.hops.items e v path) (sym are.end) pieces))

-- ---- edits of them

module _ (h : List ℕ → List ℕ) (is_key : ℕ → List ℕ → Bool) (was : List (List ℕ)) (root : View) (hops : List Hop) (end : End) (v w c : Value) (u : Data) (path : List (List ℕ)) (edit : PartEdit) (m k : Moment) (r : Result (List ℕ) HamtFault)
    (told : m.blocks ≡ Some was) (x : ArePieces h is_key was root hops end v path) (change : IsChange h (table_of root) is_key was deepest (slot_of root, v) path edit w c u) where
  in_block : (p : List (List ℕ)) → EditsInBlock h root hops p edit m r k → x.rest ≡ p → in_one_block (table_of root) x.q p ≡ true → HasEnd edit p → EditsWhole h (table_of root) (slot_of root) c u path m r k
  in_block p edits same inside ended =
      let split : path ≡ path_of_hops hops ++ p = x.split ∙ ap (λ y. path_of_hops hops ++ y) same in
      subst (λ y. EditsWhole h (table_of root) (slot_of root) c u y m r k) (sym split)
      (edits is_key was v w c x.tree u x.q x.less told x.level x.leads inside ended (subst (λ y. IsChange h (table_of root) is_key was deepest (slot_of root, v) y edit w c u) split change))

  pub at_whole : (p : List (List ℕ)) → EditsInBlock h root hops p edit m r k → end ≡ D.Whole → p ≡ [] → HasEnd edit p → EditsWhole h (table_of root) (slot_of root) c u path m r k
  at_whole p edits is none ended =
      in_block p edits (subst (λ e. EndsAt h (table_of root) was x.less x.q x.rest e) is x.ends ∙ sym none) (ap (in_one_block (table_of root) x.q) none) ended

  pub at_block : (p : List (List ℕ)) → EditsInBlock h root hops p edit m r k → end ≡ D.InBlock p → EditsWhole h (table_of root) (slot_of root) c u path m r k
  at_block p edits is =
      let y = subst (λ e. EndsAt h (table_of root) was x.less x.q x.rest e) is x.ends in
      in_block p edits (sym y.0) (ap (in_one_block (table_of root) x.q) y.0 ∙ y.1) (has_end edit p y.2.0 y.2.1 (y.0 ∙ y.2.2))

  pub at_key : (front : List (List ℕ)) (trail : Trail) (entry : Option Entry) → EditsAtKey h root hops front trail edit m r k → end ≡ D.AtKey front trail entry → EditsWhole h (table_of root) (slot_of root) c u path m r k
  at_key front trail entry edits is =
      let y = subst (λ e. EndsAt h (table_of root) was x.less x.q x.rest e) is x.ends in
      let a = y.0 in
      let key : IsKeyIn h (table_of root) was x.q front trail.key trail =
      record { slot = a.slot; elem = a.elem; ps = a.ps; es = a.es; root = a.root; entered = a.entered; data_is = a.data_is; trie = a.trie; utf8 = a.utf8; trail = a.found } in
      let split : path ≡ path_of_hops hops ++ (front ++ (trail.key ∷ [])) = x.split ∙ ap (λ z. path_of_hops hops ++ z) y.1 in
      subst (λ z. EditsWhole h (table_of root) (slot_of root) c u z m r k) (sym split)
      (edits is_key was v w c x.tree u x.q x.less trail.key told x.level x.leads key (subst (λ z. IsChange h (table_of root) is_key was deepest (slot_of root, v) z edit w c u) split change))

-- ---- the table

pub root_of : (rows : List Row) (s : Slot) (b : List ℕ) (n : TypeNo) → s ≡ plainly n → HasBlock rows s b → HasRoot rows n b
root_of rows s b n is x = record { value = x.value; root = record { tree = x.tree; block = x.block; front = subst (λ r. Front rows deepest r x.value x.tree) is x.front } }

pub swaps_of : (place : Place) (parts : Parts) (are : ArePartsOf place parts) (r : Result (List ℕ) EditFault) (n : TypeNo) → IfOk r (λ b. ∥ HasBlock (table_of parts.root) (slot_of parts.root) b ∥₁) → slot_at place ≡ plainly n
    → IfOk r (λ b. ∥ HasRoot (table_at place) n b ∥₁)
swaps_of place parts are (Ok b) n x slot = ∥∥₁_map (subst (λ q. ∥ HasBlock (table_of q) (slot_of q) b ∥₁) are.root x) (λ y. root_of (table_at place) (slot_at place) b n slot y)
swaps_of place parts are (Err e) n x slot = tt

-- ---- what comes, and what goes

part_held : (h : List ℕ → List ℕ) (rows : List Row) (was : List (List ℕ)) (slot : Slot) (part : Node) (w : Value) → IsSafe rows slot → IsHeldPart h rows was slot part w → IsPartHeld h rows was slot part w
part_held h rows was slot part w safe x = record { safe = safe; room = x.room; tree = x.tree; held = x.held; stands = x.stands_for }

module _ (h : List ℕ → List ℕ) (was : List (List ℕ)) (n : TypeNo) (v w c : Value) (u : Data) (path : List (List ℕ)) (verb : Verb) (place : Place) (parts : Parts) (are : ArePartsOf place parts)
    (x : IsPlaceOf h (table_at place) was n v path verb place) (m k : Moment) (told : m.blocks ≡ Some was) (r : Result (List ℕ) EditFault) where
  finished : (e : Edit Value) (y : IsChanged h (table_at place) (plainly n, v) e c u) (edit : PartEdit) → IsChange h (table_at place) y.is_key was deepest (plainly n, v) path edit w c u → ReplacesParts h parts edit m r k → Replaces h (table_at place) n path c u m r k
  finished e y edit change edits =
      subst (λ q. Replaces h (table_of q) n path c u m r k) are.root
      (edits y.is_key was n v w c u path told (ap slot_of are.root ∙ x.rooted.goes.stands.slot) (pieces_of h y.is_key was n v path verb place y.keys x parts are)
      (subst (λ q. IsChange h (table_of q) y.is_key was deepest (slot_of q, v) path edit w c u) (sym are.root) (subst (λ s. IsChange h (table_at place) y.is_key was deepest (s, v) path edit w c u) (sym x.rooted.goes.stands.slot) change)))

  comes_safe : (e : Edit Value) (slot : Slot) → new_slot (table_at place) (plainly n, v) e ≡ Some slot → IsSafe (table_at place) slot
  comes_safe e slot new =
      let schema = x.rooted.goes.schema in
      new_safe (table_at place) (legible (table_at place) schema.accepted).clear (accepted_tell (table_at place) schema).any_there (plainly n, v) e slot (plain_safe (table_at place) (plainly n) refl) new

  is_verb : (done : Verb) → parts.verb ≡ done → verb ≡ done
  is_verb done is = sym x.is.verb_is ∙ sym are.verb ∙ is

  pub brought_set : (part : Node) (e : Edit Value) → parts.verb ≡ V.Set → ComesBy verb path w e → ((slot : Slot) → new_slot (table_at place) (plainly n, v) e ≡ Some slot → IsHeldPart h (table_at place) was slot part w)
      → IsChanged h (table_at place) (plainly n, v) e c u → ReplacesParts h parts (E.Set part) m r k → Replaces h (table_at place) n path c u m r k
  brought_set part e is comes b y edits =
      let same : e ≡ set_at path w = subst (λ z. ComesBy z path w e) (is_verb V.Set is) comes in
      finished e y (E.Set part)
      (record {
        brings = λ slot new. part_held h (table_at place) was slot part w (comes_safe (set_at path w) slot new) (b slot (ap (new_slot (table_at place) (plainly n, v)) same ∙ new));
        makes = ap (change (table_at place) y.is_key (plainly n, v)) (sym same) ∙ y.made;
        tree = y.tree;
        fits = y.fits;
      }) edits

  pub brought_ins : (part : Node) (e : Edit Value) → parts.verb ≡ V.Ins → ComesBy verb path w e → ((slot : Slot) → new_slot (table_at place) (plainly n, v) e ≡ Some slot → IsHeldPart h (table_at place) was slot part w)
      → IsChanged h (table_at place) (plainly n, v) e c u → ReplacesParts h parts (E.Insert part) m r k → Replaces h (table_at place) n path c u m r k
  brought_ins part e is comes b y edits =
      let same : e ≡ ins_at path w = subst (λ z. ComesBy z path w e) (is_verb V.Ins is) comes in
      finished e y (E.Insert part)
      (record {
        brings = λ slot new. part_held h (table_at place) was slot part w (comes_safe (ins_at path w) slot new) (b slot (ap (new_slot (table_at place) (plainly n, v)) same ∙ new));
        makes = ap (change (table_at place) y.is_key (plainly n, v)) (sym same) ∙ y.made;
        tree = y.tree;
        fits = y.fits;
      }) edits

  pub erased : IsChanged h (table_at place) (plainly n, v) (del_at path) c u → ReplacesParts h parts E.Delete m r k → Replaces h (table_at place) n path c u m r k
  erased y edits = finished (del_at path) y E.Delete (record { brings = tt; makes = y.made; tree = y.tree; fits = y.fits }) edits
