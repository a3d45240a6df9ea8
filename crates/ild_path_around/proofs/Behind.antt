-- An edit behind HAMTs, as one of the innermost value.
use Rattle.std.proofs.Common.{◌≡◌, ℕ, List, [], ◌∷◌, ◌++◌, append_assoc, Bool, true, false, Some, refl, sym, ◌∙◌, ap, subst}
use Rattle.std.specs.Prelude.{IsUtf8, Ok, is_some, map, option_and_then}
use Rattle.std.proofs.lemmas.Option.{same_Some}
use Rattle.ild_data.specs.Data.{Data}
use Rattle.ild_data.specs.Key.{value_at}
use Rattle.ild_path_around.proofs.Entries.{outside_of_entries}
use Rattle.ild_path_around.proofs.Keys.{keys_break_nothing, slot_if, split_ok}
use Rattle.ild_path_around.proofs.Outside.{along}
use Rattle.ild_path_around.proofs.Slots.{slots_behind}
use Rattle.ild_path_around.proofs.TextEdits.{brings_typed, text_edits_of_fronts}
use Rattle.ild_path_around.specs.Blocks.{BringsTextPart, IsTextEdit}
use Rattle.ild_path_around.specs.Keys.{BringsSound}
use Rattle.ild_path_delimiter.specs.Laws.{OnlyTextsBreak}
use Rattle.ild_path_edits.proofs.KeepTyped.{edits_keep_types}
use Rattle.ild_path_edits.specs.Edit.{Edit, HasTextPath, change, del_at, new_slot, path_of}
use Rattle.ild_path_edits.specs.Table.{slot_to_insert, slot_to_set}
use Rattle.ild_path_entered.proofs.Editing.{hamt_seen, through_at}
use Rattle.ild_path_entered.specs.Entered.{IsEntered, path_through}
use Rattle.ild_path_hops.proofs.Hopping.{hops_end, hops_pass}
use Rattle.ild_path_hops.specs.Hops.{AreHops, front_of, key_of, step_of}
use Rattle.ild_path_hops.specs.declared.hop.Hop.{Hop}
use Rattle.ild_path_inward.specs.Inwards.{through}
use Rattle.ild_path_judged.specs.Place.{bringing}
use Rattle.ild_path_nodes.specs.NodeLaws.{IsHamt}
use Rattle.ild_path_room.specs.Room.{Coming, by_insert, by_set}
use Rattle.ild_path_within.proofs.Splitting.{edits_split, paths_split}
use Rattle.ild_path_within.specs.Within.{moved, with_part}
use Rattle.ild_schema.specs.Value as V
use Rattle.ild_schema.specs.Value.{Pairs, Value, pairs_list}
use Rattle.ild_schema.specs.declared.number.Slot.{Slot}
use Rattle.ild_schema.specs.declared.row.Row.{Row}
use Rattle.ild_typed.specs.At.{InSlot, at}
use Rattle.ild_typed.specs.Hamt.{whole}
use Rattle.ild_typed.specs.Judged.{breaks_delimiter}
use Rattle.ild_typed.specs.OfType.{OfType, TestsKeys}
use Rattle.ild_typed.specs.Represented.{represented}
use Rattle.ild_typed.specs.Schema.{IsSchema}
use Rattle.ild_typed_fronts.specs.Front.{in_one_block}

-- ---- paths

through_is : (hops : List Hop) → through hops ≡ path_through (map step_of hops)
through_is [] = refl
through_is (hop ∷ hops) = ap (λ xs. front_of hop ++ (key_of hop ∷ xs)) (through_is hops)

through_last : (hops : List Hop) (hop : Hop) → through (hops ++ (hop ∷ [])) ≡ through hops ++ (front_of hop ++ (key_of hop ∷ []))
through_last [] hop = refl
through_last (g ∷ gs) hop = ap (λ xs. front_of g ++ (key_of g ∷ xs)) (through_last gs hop) ∙ sym (append_assoc (front_of g) (key_of g ∷ through gs) (front_of hop ++ (key_of hop ∷ [])))

record HasLast (hops : List Hop) : Type 0 where
  init : List Hop
  last : Hop
  is : hops ≡ init ++ (last ∷ [])

last_of : (g : Hop) (gs : List Hop) → HasLast (g ∷ gs)
last_of g [] = record { init = []; last = g; is = refl }
last_of g (k ∷ ks) = let x = last_of k ks in record { init = g ∷ x.init; last = x.last; is = ap (λ xs. g ∷ xs) x.is }

-- ---- an edit at any path

pub record IsMovable (e : List (List ℕ) → Edit Value) : Type 0 where
  pub path : (xs : List (List ℕ)) → path_of (e xs) ≡ xs
  pub moves : (xs ys : List (List ℕ)) → moved xs (e ys) ≡ e xs

pub coming_moves : (how : Coming) (w : Value) → IsMovable (λ xs. bringing how xs w)
coming_moves by_set w = record { path = λ xs. refl; moves = λ xs ys. refl }
coming_moves by_insert w = record { path = λ xs. refl; moves = λ xs ys. refl }

pub going_moves : IsMovable (λ xs. del_at xs)
going_moves = record { path = λ xs. refl; moves = λ xs ys. refl }

moved_whole : (e : List (List ℕ) → Edit Value) → IsMovable e → (front ys : List (List ℕ)) → moved (front ++ path_of (e ys)) (e ys) ≡ e (front ++ ys)
moved_whole e m front ys = ap (λ xs. moved (front ++ xs) (e ys)) (m.path ys) ∙ m.moves (front ++ ys) ys

pub slot_behind : (rows : List Row) (e : List (List ℕ) → Edit Value) → IsMovable e → (p q : InSlot) (front : List (List ℕ)) (s : List ℕ) (ss : List (List ℕ)) → at rows p front ≡ Some q
    → new_slot rows p (e (front ++ (s ∷ ss))) ≡ new_slot rows q (e (s ∷ ss))
slot_behind rows e m p q front s ss there = ap (new_slot rows p) (sym (moved_whole e m front (s ∷ ss))) ∙ slots_behind rows p q front (e (s ∷ ss)) s ss there (m.path (s ∷ ss))

-- at a key of a HAMT it is that of its values
pub key_slot : (rows : List Row) (slot elem : Slot) (ps : Pairs) → IsHamt rows slot elem → (how : Coming) (k : List ℕ) (w : Value) (u : Slot) → new_slot rows (slot, V.map ps) (bringing how (k ∷ []) w) ≡ Some u → elem ≡ u
key_slot rows slot elem ps is by_set k w u e = same_Some elem u (sym (ap (λ h. slot_to_set h k) (hamt_seen rows slot elem ps is)) ∙ e)
key_slot rows slot elem ps is by_insert k w u e = slot_if (is_some (value_at k (pairs_list ps))) elem u (sym (ap (λ h. slot_to_insert h k) (hamt_seen rows slot elem ps is)) ∙ e)

module _ (only : OnlyTextsBreak) (h : List ℕ → List ℕ) (rows : List Row) (was : List (List ℕ)) (is_key : ℕ → List ℕ → Bool) (schema : IsSchema rows) (keys : TestsKeys rows is_key) where
  pub through_hops : (hops : List Hop) (room less : ℕ) (p q : InSlot) → AreHops h rows was room p hops q less → at rows p (through hops) ≡ Some q
  through_hops hops room less p q are = ap (at rows p) (through_is hops) ∙ through_at rows (map step_of hops) p q (hops_pass h rows was room less p q hops are)

  -- ---- at a key

  -- a path that ends with a key of a HAMT, behind the hops
  pub record EndsAtKey (p : InSlot) (path : List (List ℕ)) : Type 0 where
    pub front : List (List ℕ)
    pub key : List ℕ
    pub slot : Slot
    pub elem : Slot
    pub ps : Pairs
    pub there : at rows p front ≡ Some (slot, V.map ps)
    pub hamt : IsHamt rows slot elem
    pub utf8 : IsUtf8 key
    pub split : path ≡ front ++ (key ∷ [])

  pub at_key : (hops : List Hop) (room less : ℕ) (p q : InSlot) → AreHops h rows was room p hops q less → (front : List (List ℕ)) (slot elem : Slot) (ps : Pairs) → IsEntered rows q front slot elem ps → (k : List ℕ) → IsUtf8 k
      → (path : List (List ℕ)) → path ≡ through hops ++ (front ++ (k ∷ [])) → EndsAtKey p path
  at_key hops room less p q are front slot elem ps entered k utf8 path split = record {
    front = through hops ++ front;
    key = k;
    slot = slot;
    elem = elem;
    ps = ps;
    there = paths_split rows p (through hops) front ∙ ap (option_and_then (λ q. at rows q front)) (through_hops hops room less p q are) ∙ entered.at;
    hamt = entered.hamt;
    utf8 = utf8;
    split = split ∙ sym (append_assoc (through hops) front (k ∷ []));
  }

  -- so does one that ends behind hops
  pub at_hop : (g : Hop) (gs : List Hop) (room less : ℕ) (p q : InSlot) → AreHops h rows was room p (g ∷ gs) q less → EndsAtKey p (through (g ∷ gs))
  at_hop g gs room less p q are =
      let x = last_of g gs in
      let y = hops_end h rows was room less p q x.init x.last (subst (λ (hs : List Hop). AreHops h rows was room p hs q less) x.is are) in
      let hop = y.last in
      at_key x.init room y.between p y.mid y.before (front_of x.last) hop.slot q.0 hop.ps hop.entered (key_of x.last) hop.utf8 (through (g ∷ gs)) (ap through x.is ∙ through_last x.init x.last)

  pub key_free : (e : List (List ℕ) → Edit Value) → IsMovable e → (p : InSlot) (d : Data) (path : List (List ℕ)) → OfType rows p.0 p.1 → represented (whole h) rows p.0 p.1 ≡ Some d → (x : EndsAtKey p path) → BringsSound rows x.elem (e (x.key ∷ [])) → (c : Value)
      → change rows is_key p (e path) ≡ Ok c → breaks_delimiter rows p.0 c ≡ false
  key_free e m p d path typed made x sound c done =
      keys_break_nothing only h rows is_key schema keys p x.front x.slot x.elem x.ps d x.key (e (x.key ∷ [])) c typed made x.there x.hamt x.utf8 (m.path (x.key ∷ [])) sound
      (ap (change rows is_key p) (moved_whole e m x.front (x.key ∷ []) ∙ ap e (sym x.split)) ∙ done)

  -- the slot of what comes there
  pub at_key_slot : (how : Coming) (p : InSlot) (path : List (List ℕ)) (x : EndsAtKey p path) (w : Value) (u : Slot) → new_slot rows p (bringing how path w) ≡ Some u → x.elem ≡ u
  at_key_slot how p path x w u e =
      let behind = slot_behind rows (λ xs. bringing how xs w) (coming_moves how w) p (x.slot, V.map x.ps) x.front x.key [] x.there in
      key_slot rows x.slot x.elem x.ps x.hamt how x.key w u (sym behind ∙ ap (λ xs. new_slot rows p (bringing how xs w)) (sym x.split) ∙ e)

  -- ---- in the innermost block

  pub record IsInner (p q : InSlot) (e : Edit Value) (c : Value) : Type 0 where
    pub made : Value
    pub edit : IsTextEdit h rows is_key q e made
    pub alike : breaks_delimiter rows q.0 made ≡ breaks_delimiter rows p.0 c

  pub inner : (e : List (List ℕ) → Edit Value) → IsMovable e → (hops : List Hop) (room less : ℕ) (p q : InSlot) → AreHops h rows was room p hops q less → (d : Data) → OfType rows p.0 p.1 → represented (whole h) rows p.0 p.1 ≡ Some d
      → (s : List ℕ) (ss : List (List ℕ)) → in_one_block rows q (s ∷ ss) ≡ true → HasTextPath (e (s ∷ ss)) → BringsTextPart rows q (e (s ∷ ss)) → (c : Value) → change rows is_key p (e (through hops ++ (s ∷ ss))) ≡ Ok c → IsInner p q (e (s ∷ ss)) c
  inner e m hops room less p q are d typed made s ss one texts brings c done =
      let front = through hops in
      let f = e (s ∷ ss) in
      let there = through_hops hops room less p q are in
      let a = along only h rows is_key schema keys front p q d typed made there in
      let x = split_ok rows p front (change rows is_key q f) c (sym (edits_split rows is_key p q f front s ss there (m.path (s ∷ ss))) ∙ ap (change rows is_key p) (moved_whole e m front (s ∷ ss)) ∙ done) in
      let of_made : OfType rows q.0 x.0 = edits_keep_types rows is_key schema keys q f x.0 texts (brings_typed h rows schema q f brings) a.0 x.1 in
      record {
        made = x.0;
        edit = text_edits_of_fronts h rows is_key schema keys q s ss f x.0 (a.1).0 (m.path (s ∷ ss)) texts brings a.0 (a.1).1 one x.1;
        alike = sym (outside_of_entries only h rows is_key schema keys p q (map step_of hops) d x.0 typed made (hops_pass h rows was room less p q hops are) of_made)
            ∙ ap (λ xs. breaks_delimiter rows p.0 (with_part rows p xs x.0)) (sym (through_is hops)) ∙ ap (breaks_delimiter rows p.0) x.2;
      }
