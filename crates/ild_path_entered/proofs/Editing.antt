-- Edits at the keys of HAMTs, and beneath them.
use Rattle.std.proofs.Common.{◌≡◌, ℕ, List, [], ◌∷◌, ◌++◌, append_assoc, Bool, true, false, Option, Some, None, refl, ap, sym, subst, ◌∙◌, arith}
use Rattle.std.specs.Prelude.{is_some, not, Result, Ok, Err, option_map, option_and_then, if◌then◌else◌}
use Rattle.std.specs.Option.{option_map_or}
use Rattle.std.proofs.lemmas.Option.{same_Some}
use Rattle.std.proofs.lemmas.Bool.{and_parts}
use Rattle.ild_data.specs.Data.{Data}
use Rattle.ild_data.specs.Key.{value_at}
use Rattle.ild_schema.proofs.Legibly.{legible}
use Rattle.ild_schema.specs.declared.number.Slot.{Slot}
use Rattle.ild_schema.specs.declared.row.Row.{Row}
use Rattle.ild_schema.specs.Value.{Value, Pairs, map, pairs_list}
use Rattle.ild_script.specs.declared.reply.No.{No}
use Rattle.ild_script.specs.declared.reply.No.TheVariants as N
use Rattle.ild_typed.specs.At.{InSlot, seen, at, met}
use Rattle.ild_typed.specs.Fits.{Fits}
use Rattle.ild_typed.specs.Hamt.{whole}
use Rattle.ild_typed.specs.Holder.{Holder, entries, map_holder, value_of}
use Rattle.ild_typed.specs.OfType.{OfType, TestsKeys}
use Rattle.ild_typed.specs.Represented.{represented}
use Rattle.ild_typed.specs.Schema.{IsSchema}
use Rattle.ild_typed.specs.Segment.{part, set_part}
use Rattle.ild_value_meaning.proofs.Told.{told}
use Rattle.ild_path_edits.specs.Along.{room_below}
use Rattle.ild_path_edits.specs.Edit.{Edit, set_at, ins_at, del_at, path_of, placed, set_in, ins_in, unless_kept, del_in, change}
use Rattle.ild_path_edits.specs.Table.{key_fits, unless_there, insert_part, delete_part}
use Rattle.ild_path_edits.proofs.Depth.{room_is_layered}
use Rattle.ild_path_edits.proofs.Holders.{set_part-there, set_part-seen}
use Rattle.ild_path_edits.proofs.KeepTyped.{of_type_is_kept}
use Rattle.ild_path_changes.specs.LiftLaws.{of_values}
use Rattle.ild_path_changes.proofs.HaveTrees.{has_trees}
use Rattle.ild_path_changes.proofs.Represented.{represents}
use Rattle.ild_path_within.specs.Within.{with_part, with_result, moved}
use Rattle.ild_path_within.proofs.Splitting.{first_of_path, edits_split, parts_of_parts, paths_split}
use Rattle.ild_typed_fronts.specs.Front.{in_one_block, is_root}
use Rattle.ild_typed_fronts.proofs.Pathing.{not_true}
use Rattle.ild_path_nodes.specs.NodeLaws.{IsHamt}
use Rattle.ild_path_held.specs.HeldEdits.{room_at}
use Rattle.ild_path_entered.specs.Entered.{IsEntered, PassesHamts, path_through, with_entry, without_entry}
use Rattle.ild_path_entered.specs.EnteredLaws.{BelowEntries, AtEntries, ThroughEntries, SetsStand, SetsHaveData, NoneMet, with_value}

-- ---- a HAMT as a holder

module _ (rows : List Row) (slot elem : Slot) (ps : Pairs) (is : IsHamt rows slot elem) where
  abbrev Own : Holder
  Own = entries (is.0).0 elem false (pairs_list ps)

  pub hamt_seen : seen rows (slot, map ps) ≡ Own
  hamt_seen = ap (λ G. map_holder G ps) is.4

  pub entry_part : (k : List ℕ) (w : Value) → value_at k (pairs_list ps) ≡ Some w → part (seen rows (slot, map ps)) k ≡ Some (elem, w)
  entry_part k w e = ap (λ h. part h k) hamt_seen ∙ ap (option_map (λ v. (elem, v))) e

  pub entry_set : (k : List ℕ) (m : Value) → value_of (set_part (seen rows (slot, map ps)) k m) ≡ with_entry k m ps
  entry_set k m = ap (λ h. value_of (set_part h k m)) hamt_seen

module _ (rows : List Row) (p : InSlot) (front : List (List ℕ)) (slot elem : Slot) (ps : Pairs) (x : IsEntered rows p front slot elem ps) where
  pub at_key : (k : List ℕ) (w : Value) → value_at k (pairs_list ps) ≡ Some w → at rows p (front ++ (k ∷ [])) ≡ Some (elem, w)
  at_key k w e =
      paths_split rows p front (k ∷ []) ∙ ap (option_and_then (λ q. at rows q (k ∷ []))) x.at ∙ ap (option_and_then (λ q. at rows q [])) (entry_part rows slot elem ps x.hamt k w e)

  pub with_key : (k : List ℕ) (w m : Value) → value_at k (pairs_list ps) ≡ Some w → with_part rows p (front ++ (k ∷ [])) m ≡ with_part rows p front (with_entry k m ps)
  with_key k w m e =
      parts_of_parts rows p (slot, map ps) front (k ∷ []) m x.at
      ∙ ap (with_part rows p front) (ap (λ o. option_map_or (λ q. value_of (set_part (seen rows (slot, map ps)) k m)) o (map ps)) (entry_part rows slot elem ps x.hamt k w e) ∙ entry_set rows slot elem ps x.hamt k m)

moved_again : {X : Type 0} (a : List (List ℕ)) (e : Edit X) → path_of (moved a e) ≡ a
moved_again a (set_at old x) = refl
moved_again a (ins_at old x) = refl
moved_again a (del_at old) = refl

with_same : (rows : List Row) (p : InSlot) (front : List (List ℕ)) (slot elem : Slot) (ps : Pairs) (x : IsEntered rows p front slot elem ps) (k : List ℕ) (w : Value) → value_at k (pairs_list ps) ≡ Some w → (r : Result Value No)
    → with_result rows p (front ++ (k ∷ [])) r ≡ with_value rows p front k ps r
with_same rows p front slot elem ps x k w e (Ok m) = ap (λ c. Ok c) (with_key rows p front slot elem ps x k w m e)
with_same rows p front slot elem ps x k w e (Err refusal) = refl

pub below_entries : BelowEntries
below_entries = λ rows is_key p front slot elem ps k w e s ss x there path.
    ap (λ us. change rows is_key p (moved us e)) (sym (append_assoc front (k ∷ []) (path_of e)))
    ∙ edits_split rows is_key p (elem, w) e (front ++ (k ∷ [])) s ss (at_key rows p front slot elem ps x k w there) path
    ∙ with_same rows p front slot elem ps x k w there (change rows is_key (elem, w) e)

-- ---- at a key

placed_with : (rows : List Row) (p : InSlot) (front : List (List ℕ)) (b : Bool) (m : Value) (elem : Slot) → with_result rows p front (placed b m (Some elem)) ≡ (if b then Ok (with_part rows p front m) else Err N.Mismatch)
placed_with rows p front true m elem = refl
placed_with rows p front false m elem = refl

inserted_with : (rows : List Row) (p : InSlot) (front : List (List ℕ)) (there b : Bool) (m : Value) (elem : Slot)
    → with_result rows p front (placed b m (if there then None else Some elem)) ≡ (if there then Err N.Path else if b then Ok (with_part rows p front m) else Err N.Mismatch)
inserted_with rows p front true b m elem = refl
inserted_with rows p front false b m elem = placed_with rows p front b m elem

kept_with : {X : Type 0} (rows : List Row) (p : InSlot) (front : List (List ℕ)) (o : Option X) (m : Value) → with_result rows p front (unless_kept m (unless_there o)) ≡ (if is_some o then Ok (with_part rows p front m) else Err N.Path)
kept_with rows p front None m = refl
kept_with rows p front (Some x) m = refl

pub at_entries : AtEntries
at_entries = λ rows is_key p front slot elem ps k x.
    let seen_so = hamt_seen rows slot elem ps x.hamt in (
      λ w. edits_split rows is_key p (slot, map ps) (set_at (k ∷ []) w) front k [] x.at refl
          ∙ ap (λ h. with_result rows p front (set_in is_key (value_of (set_part h k w)) (Some (h, k)))) seen_so
          ∙ placed_with rows p front (key_fits is_key (Own rows slot elem ps x.hamt) k) (with_entry k w ps) elem
          ∙ ap (λ h. if key_fits is_key h k then Ok (with_part rows p front (with_entry k w ps)) else Err N.Mismatch) (sym seen_so),
      λ w. edits_split rows is_key p (slot, map ps) (ins_at (k ∷ []) w) front k [] x.at refl
          ∙ ap (λ h. with_result rows p front (ins_in is_key (value_of (insert_part h k w)) (Some (h, k)))) seen_so
          ∙ inserted_with rows p front (is_some (value_at k (pairs_list ps))) (key_fits is_key (Own rows slot elem ps x.hamt) k) (with_entry k w ps) elem
          ∙ ap (λ h. if is_some (value_at k (pairs_list ps)) then Err N.Path else if key_fits is_key h k then Ok (with_part rows p front (with_entry k w ps)) else Err N.Mismatch) (sym seen_so),
      edits_split rows is_key p (slot, map ps) (del_at (k ∷ [])) front k [] x.at refl
          ∙ ap (λ h. with_result rows p front (del_in (value_of (delete_part h k)) (Some (h, k)))) seen_so
          ∙ kept_with rows p front (value_at k (pairs_list ps)) (without_entry k ps),
    )

-- ---- through many

pub through_at : (rows : List Row) (gs : List (List (List ℕ) × List ℕ)) (p q : InSlot) → PassesHamts rows p gs q → at rows p (path_through gs) ≡ Some q
through_at rows [] p q e = ap (λ r. Some r) e
through_at rows (g ∷ gs) p q (slot, elem, ps, w, x, there, rest) =
    ap (at rows p) (sym (append_assoc g.0 (g.1 ∷ []) (path_through gs)))
    ∙ paths_split rows p (g.0 ++ (g.1 ∷ [])) (path_through gs)
    ∙ ap (option_and_then (λ r. at rows r (path_through gs))) (at_key rows p g.0 slot elem ps x g.1 w there)
    ∙ through_at rows gs (elem, w) q rest

pub through_entries : ThroughEntries
through_entries = λ rows is_key p q gs e s ss passes path. edits_split rows is_key p q e (path_through gs) s ss (through_at rows gs p q passes) path

-- ---- what is there afterwards

module _ (rows : List Row) (is_key : ℕ → List ℕ → Bool) (schema : IsSchema rows) (keys : TestsKeys rows is_key) where
  pub with_typed : (path : List (List ℕ)) (p q : InSlot) (m : Value) → OfType rows p.0 p.1 → at rows p path ≡ Some q → OfType rows q.0 m → OfType rows p.0 (with_part rows p path m)
  with_typed [] p q m is there new = subst (λ (r : InSlot). OfType rows r.0 m) (sym (same_Some p q there)) new
  with_typed (s ∷ ss) p q m is there new =
      let kept = of_type_is_kept rows is_key schema keys in
      let x = first_of_path rows p q s ss there in
      let c = with_typed ss x.item q m (kept.parts p x.item s is x.there) x.made new in
      subst (OfType rows p.0) (sym (ap (λ o. option_map_or (λ r. value_of (set_part (seen rows p) s (with_part rows r ss m))) o p.1) x.there))
      (kept.set p s x.item.0 (with_part rows x.item ss m) is (kept.slots p x.item s is x.there) (kept.there p x.item s is x.there) c)

  -- the part of the changed value at the first segment
  first_there : (p q r : InSlot) (s : List ℕ) (ss : List (List ℕ)) (m : Value) → OfType rows p.0 p.1 → part (seen rows p) s ≡ Some r → at rows r ss ≡ Some q → OfType rows q.0 m
      → part (seen rows (p.0, with_part rows p (s ∷ ss) m)) s ≡ Some (r.0, with_part rows r ss m)
  first_there p q r s ss m is first rest new =
      let kept = of_type_is_kept rows is_key schema keys in
      let c : OfType rows r.0 (with_part rows r ss m) = with_typed ss r q m (kept.parts p r s is first) rest new in
      ap (λ o. part (seen rows (p.0, option_map_or (λ r. value_of (set_part (seen rows p) s (with_part rows r ss m))) o p.1)) s) first
      ∙ ap (λ h. part h s) (set_part-seen rows p.0 p.1 s (with_part rows r ss m))
      ∙ set_part-there (seen rows p) s r.0 (with_part rows r ss m) (kept.slots p r s is first) (λ e. kept.inside (with_part rows r ss m) (subst (λ u. OfType rows u (with_part rows r ss m)) e c))

  pub stands : (path : List (List ℕ)) (p q : InSlot) (m : Value) → OfType rows p.0 p.1 → at rows p path ≡ Some q → OfType rows q.0 m → at rows (p.0, with_part rows p path m) path ≡ Some (q.0, m)
  stands [] p q m is there new = ap (λ (r : InSlot). Some (r.0, m)) (same_Some p q there)
  stands (s ∷ ss) p q m is there new =
      let kept = of_type_is_kept rows is_key schema keys in
      let x = first_of_path rows p q s ss there in
      ap (option_and_then (λ r. at rows r ss)) (first_there p q x.item s ss m is x.there x.made new) ∙ stands ss x.item q m (kept.parts p x.item s is x.there) x.made new

  pub rooms_stay : (path : List (List ℕ)) (room : ℕ) (p q : InSlot) (m : Value) → OfType rows p.0 p.1 → at rows p path ≡ Some q → OfType rows q.0 m → room_at rows room (p.0, with_part rows p path m) path ≡ room_at rows room p path
  rooms_stay [] room p q m is there new = refl
  rooms_stay (s ∷ ss) room p q m is there new =
      let kept = of_type_is_kept rows is_key schema keys in
      let x = first_of_path rows p q s ss there in
      ap (λ o. option_map_or (λ r. room_at rows (room_below rows room p s) r ss) o (room_below rows room p s)) (first_there p q x.item s ss m is x.there x.made new)
      ∙ rooms_stay ss (room_below rows room p s) x.item q m (kept.parts p x.item s is x.there) x.made new
      ∙ sym (ap (λ o. option_map_or (λ r. room_at rows (room_below rows room p s) r ss) o (room_below rows room p s)) x.there)

  -- the data and the room of a part
  data_at : (h : List ℕ → List ℕ) (path : List (List ℕ)) (room : ℕ) (p q : InSlot) (t : Data) → Fits rows room p.0 p.1 → represented (whole h) rows p.0 p.1 ≡ Some t → at rows p path ≡ Some q
      → (d : Data) × (represented (whole h) rows q.0 q.1 ≡ Some d) × Fits rows (room_at rows room p path) q.0 q.1
  data_at h [] room p q t fits e there = subst (λ (r : InSlot). (d : Data) × (represented (whole h) rows r.0 r.1 ≡ Some d) × Fits rows room r.0 r.1) (same_Some p q there) (t, e, fits)
  data_at h (s ∷ ss) room p q t fits e there =
      let kept = of_type_is_kept rows is_key schema keys in
      let x = first_of_path rows p q s ss there in
      let r = represents rows is_key (told rows schema).apart (told rows schema).any_there keys (legible rows schema.accepted).clear (whole h) (has_trees (whole h) rows (of_values h refl) schema.table.texts.spelled) kept in
      let d = r.parts p x.item s t (room, fits) x.there e in
      subst (λ n. (d : Data) × (represented (whole h) rows q.0 q.1 ≡ Some d) × Fits rows n q.0 q.1) (sym (ap (λ o. option_map_or (λ r. room_at rows (room_below rows room p s) r ss) o (room_below rows room p s)) x.there))
      (data_at h ss (room_below rows room p s) x.item q d.0 ((room_is_layered rows is_key schema keys).parts room p x.item s (room, fits) fits x.there) d.1 x.made)

pub sets_stand : SetsStand
sets_stand = λ rows is_key schema keys p q path m is there new. (stands rows is_key schema keys path p q m is there new, λ room. rooms_stay rows is_key schema keys path room p q m is there new)

pub sets_have_data : SetsHaveData
sets_have_data = λ h rows is_key schema keys room p q path m u is there new e fits.
    let x = data_at rows is_key schema keys h path room (p.0, with_part rows p path m) (q.0, m) u fits e (stands rows is_key schema keys path p q m is there new) in
    (x.0, x.1, subst (λ n. Fits rows n q.0 m) (rooms_stay rows is_key schema keys path room p q m is there new) x.2)

-- ---- ways

met_step : (rows : List Row) (count : InSlot → List ℕ → ℕ) (ss : List (List ℕ)) (o : Option InSlot) → ((q : InSlot) → in_one_block rows q ss ≡ true → met rows count q ss ≡ 0) → option_map_or (λ q. in_one_block rows q ss) o true ≡ true
    → option_map_or (λ q. met rows count q ss) o 0 ≡ 0
met_step rows count ss None rest e = refl
met_step rows count ss (Some q) rest e = rest q e

none_met_at : (rows : List Row) (count : InSlot → List ℕ → ℕ) → ((q : InSlot) (k : List ℕ) → is_root rows q ≡ false → count q k ≡ 0) → (path : List (List ℕ)) (p : InSlot) → in_one_block rows p path ≡ true → met rows count p path ≡ 0
none_met_at rows count none [] p e = refl
none_met_at rows count none (s ∷ ss) p e =
    let x = and_parts (not (is_root rows p)) (option_map_or (λ q. in_one_block rows q ss) (part (seen rows p) s) true) e in
    let a = none p s (not_true (is_root rows p) x.0) in
    let b = met_step rows count ss (part (seen rows p) s) (λ q g. none_met_at rows count none ss q g) x.1 in
    omega (arith, a, b)

pub none_met : NoneMet
none_met = λ rows count none p path e. none_met_at rows count none path p e
