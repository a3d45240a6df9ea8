-- An edit at a key of a HAMT breaks no delimiter.
use Rattle.std.proofs.Common.{◌≡◌, ℕ, List, [], ◌∷◌, Bool, true, false, Option, Some, None, refl, sym, ◌∙◌, ap, subst}
use Rattle.std.specs.Prelude.{◌||◌, IsUtf8, Result, Ok, Err, is_some, if◌then◌else◌}
use Rattle.std.specs.Option.{option_map_or}
use Rattle.std.proofs.lemmas.Option.{none-some, same_Some}
use Rattle.std.proofs.lemmas.Bool.{or_from, or_parts}
use Rattle.ild_data.specs.Key.{same_text, value_at, without}
use Rattle.ild_path_delimiter.specs.Laws.{OnlyTextsBreak}
use Rattle.ild_path_edits.proofs.KeepTyped.{edits_keep_types, ok_same}
use Rattle.ild_path_edits.proofs.LayerTesting.{set_is_judged}
use Rattle.ild_path_edits.proofs.Paths.{may_stand}
use Rattle.ild_path_edits.specs.Edit.{Edit, change, del_at, ins_at, path_of, set_at}
use Rattle.ild_path_edits.specs.Table.{key_fits, slot_to_insert, slot_to_set}
use Rattle.ild_path_entered.proofs.Editing.{at_entries, entry_set, hamt_seen}
use Rattle.ild_path_entered.specs.Entered.{IsEntered, with_entry, without_entry}
use Rattle.ild_path_nodes.specs.NodeLaws.{IsHamt}
use Rattle.ild_path_around.proofs.Outside.{along, hamt_passes, no_breaks, outside}
use Rattle.ild_path_around.specs.Keys.{BringsSound, KeysBreakNothing}
use Rattle.ild_path_within.proofs.Splitting.{edits_split}
use Rattle.ild_path_within.specs.Within.{with_part, with_result}
use Rattle.ild_schema.specs.Value as V
use Rattle.ild_schema.specs.Value.{Pairs, Value, pairs_list, pairs_of}
use Rattle.ild_schema.specs.declared.def.TypeDef.{TypeDef}
use Rattle.ild_schema.specs.declared.number.Slot.{Slot}
use Rattle.ild_schema.specs.declared.row.Row.{Row}
use Rattle.ild_script.specs.declared.reply.No.{No}
use Rattle.ild_script.specs.declared.reply.No.TheVariants as N
use Rattle.ild_typed.specs.At.{InSlot, at, seen}
use Rattle.ild_typed.specs.EachLayer.{some_layer, some_pair}
use Rattle.ild_typed.specs.Judged.{breaks, breaks_delimiter}
use Rattle.ild_typed.specs.OfType.{OfType, TestsKeys}
use Rattle.ild_typed.specs.Schema.{IsSchema}
use Rattle.ild_typed.specs.Segment.{set_part}
use Rattle.ild_typed.specs.Slots.{element_of}

-- ---- results

err_ok : {A : Type 0} (n : No) (c : Value) → ◌≡◌ {A = Result Value No} (Err n) (Ok c) → A
err_ok n c e = absurd cc

fits_then : (b : Bool) (v c : Value) (n : No) → (if b then Ok v else Err n) ≡ Ok c → (b ≡ true) × (v ≡ c)
fits_then true v c n e = (refl, ok_same v c e)
fits_then false v c n e = err_ok n c e

new_then : (b : Bool) (r : Result Value No) (c : Value) (n : No) → (if b then Err n else r) ≡ Ok c → (b ≡ false) × (r ≡ Ok c)
new_then true r c n e = err_ok n c e
new_then false r c n e = (refl, e)

-- what becomes of the whole
pub split_ok : (rows : List Row) (p : InSlot) (path : List (List ℕ)) (r : Result Value No) (c : Value) → with_result rows p path r ≡ Ok c → (m : Value) × (r ≡ Ok m) × (with_part rows p path m ≡ c)
split_ok rows p path (Ok m) c e = (m, refl, ok_same (with_part rows p path m) c e)
split_ok rows p path (Err n) c e = err_ok n c e

-- ---- an entry goes

module _ (test : Option TypeDef → Value → Bool) (rows : List Row) where
  pair_gone : (b : Bool) (elem : Slot) (x : List ℕ × Value) (xs ys : List (List ℕ × Value)) → some_pair test rows elem (pairs_of (x ∷ xs)) ≡ false → some_pair test rows elem (pairs_of ys) ≡ false
      → some_pair test rows elem (pairs_of (if b then xs else x ∷ ys)) ≡ false
  pair_gone true elem x xs ys all rest = (or_parts (some_layer test rows elem x.1) (some_pair test rows elem (pairs_of xs)) all).1
  pair_gone false elem x xs ys all rest = or_from (some_layer test rows elem x.1) (some_pair test rows elem (pairs_of ys)) (or_parts (some_layer test rows elem x.1) (some_pair test rows elem (pairs_of xs)) all).0 rest

  pairs_gone : (k : List ℕ) (elem : Slot) (xs : List (List ℕ × Value)) → some_pair test rows elem (pairs_of xs) ≡ false → some_pair test rows elem (pairs_of (without k xs)) ≡ false
  pairs_gone k elem [] all = refl
  pairs_gone k elem (x ∷ xs) all =
      pair_gone (same_text k x.0) elem x xs (without k xs) all (pairs_gone k elem xs (or_parts (some_layer test rows elem x.1) (some_pair test rows elem (pairs_of xs)) all).1)

  pairs_back : (elem : Slot) (ps : Pairs) → some_pair test rows elem ps ≡ false → some_pair test rows elem (pairs_of (pairs_list ps)) ≡ false
  pairs_back elem V.no_pairs all = refl
  pairs_back elem (V.pair k v ps) all =
      let x = or_parts (some_layer test rows elem v) (some_pair test rows elem ps) all in or_from (some_layer test rows elem v) (some_pair test rows elem (pairs_of (pairs_list ps))) x.0 (pairs_back elem ps x.1)

-- the parts of a HAMT are its entries
hamt_breaks : (rows : List Row) (slot elem : Slot) (is : IsHamt rows slot elem) (qs : Pairs) → breaks_delimiter rows slot (V.map qs) ≡ some_pair (breaks rows) rows elem qs
hamt_breaks rows slot elem is qs = ap (λ F. breaks rows F (V.map qs) || option_map_or (λ u. some_pair (breaks rows) rows u qs) (element_of F) false) is.4

without_free : (rows : List Row) (slot elem : Slot) (is : IsHamt rows slot elem) (ps : Pairs) (k : List ℕ) → breaks_delimiter rows slot (V.map ps) ≡ false → breaks_delimiter rows slot (without_entry k ps) ≡ false
without_free rows slot elem is ps k free =
    hamt_breaks rows slot elem is (pairs_of (without k (pairs_list ps)))
    ∙ pairs_gone (breaks rows) rows k elem (pairs_list ps) (pairs_back (breaks rows) rows elem ps (sym (hamt_breaks rows slot elem is ps) ∙ free))

pub slot_if : (b : Bool) (elem u : Slot) → (if b then None else Some elem) ≡ Some u → elem ≡ u
slot_if true elem u e = absurd (none-some u e)
slot_if false elem u e = same_Some elem u e

module _ (rows : List Row) (is_key : ℕ → List ℕ → Bool) (schema : IsSchema rows) (keys : TestsKeys rows is_key) (slot elem : Slot) (ps : Pairs) (is : IsHamt rows slot elem) (k : List ℕ) (text : IsUtf8 k) (typed : OfType rows slot (V.map ps))
    (free : breaks_delimiter rows slot (V.map ps) ≡ false) where
  abbrev Q : InSlot
  Q = (slot, V.map ps)

  entered : IsEntered rows Q [] slot elem ps
  entered = record { inside = refl; at = refl; hamt = is }

  set_slot : slot_to_set (seen rows Q) k ≡ Some elem
  set_slot = ap (λ h. slot_to_set h k) (hamt_seen rows slot elem ps is)

  with_free : (w : Value) → OfType rows elem w → breaks_delimiter rows elem w ≡ false → key_fits is_key (seen rows Q) k ≡ true → breaks_delimiter rows slot (with_entry k w ps) ≡ false
  with_free w new sound fits =
      let j = set_is_judged rows is_key (breaks rows) schema keys Q k elem w typed free set_slot (may_stand is_key (seen rows Q) k text fits) new in
      subst (λ v. breaks_delimiter rows slot v ≡ false) (entry_set rows slot elem ps is k w) (j.1 (hamt_passes rows slot elem is (set_part (seen rows Q) k w), sound))

  brings_set : (w : Value) → OfType rows elem w → (u : Slot) → slot_to_set (seen rows Q) k ≡ Some u → OfType rows u w
  brings_set w new u e = subst (λ u. OfType rows u w) (same_Some elem u (sym set_slot ∙ e)) new

  brings_ins : (w : Value) → OfType rows elem w → (u : Slot) → slot_to_insert (seen rows Q) k ≡ Some u → OfType rows u w
  brings_ins w new u e = subst (λ u. OfType rows u w) (slot_if (is_some (value_at k (pairs_list ps))) elem u (sym (ap (λ h. slot_to_insert h k) (hamt_seen rows slot elem ps is)) ∙ e)) new

  -- what the HAMT becomes is of its slot, and free
  pub at_key : (e : Edit Value) (m : Value) → path_of e ≡ k ∷ [] → BringsSound rows elem e → change rows is_key Q e ≡ Ok m → OfType rows slot m × (breaks_delimiter rows slot m ≡ false)
  at_key (set_at path w) m at sound made =
      let done = subst (λ path. change rows is_key Q (set_at path w) ≡ Ok m) at made in
      let x = fits_then (key_fits is_key (seen rows Q) k) (with_entry k w ps) m N.Mismatch (sym ((at_entries rows is_key Q [] slot elem ps k entered).0 w) ∙ done) in (
        edits_keep_types rows is_key schema keys Q (set_at (k ∷ []) w) m (text, tt) (brings_set w sound.0) typed done,
        subst (λ v. breaks_delimiter rows slot v ≡ false) x.1 (with_free w sound.0 sound.1 x.0),
      )
  at_key (ins_at path w) m at sound made =
      let done = subst (λ path. change rows is_key Q (ins_at path w) ≡ Ok m) at made in
      let y = new_then (is_some (value_at k (pairs_list ps))) (if key_fits is_key (seen rows Q) k then Ok (with_entry k w ps) else Err N.Mismatch) m N.Path (sym ((at_entries rows is_key Q [] slot elem ps k entered).1 w) ∙ done) in
      let x = fits_then (key_fits is_key (seen rows Q) k) (with_entry k w ps) m N.Mismatch y.1 in (
        edits_keep_types rows is_key schema keys Q (ins_at (k ∷ []) w) m (text, tt) (brings_ins w sound.0) typed done,
        subst (λ v. breaks_delimiter rows slot v ≡ false) x.1 (with_free w sound.0 sound.1 x.0),
      )
  at_key (del_at path) m at sound made =
      let done = subst (λ path. change rows is_key Q (del_at path) ≡ Ok m) at made in
      let x = fits_then (is_some (value_at k (pairs_list ps))) (without_entry k ps) m N.Path (sym (at_entries rows is_key Q [] slot elem ps k entered).2 ∙ done) in (
        edits_keep_types rows is_key schema keys Q (del_at (k ∷ [])) m (text, tt) tt typed done,
        subst (λ v. breaks_delimiter rows slot v ≡ false) x.1 (without_free rows slot elem is ps k free),
      )

pub keys_break_nothing : OnlyTextsBreak → KeysBreakNothing
keys_break_nothing only h rows is_key schema keys p path slot elem ps d k e c typed made there is text at sound changed =
    let q : InSlot = (slot, V.map ps) in
    let z = along only h rows is_key schema keys path p q d typed made there in
    let x = split_ok rows p path (change rows is_key q e) c (sym (edits_split rows is_key p q e path k [] there at) ∙ changed) in
    let y = at_key rows is_key schema keys slot elem ps is k text z.0 (no_breaks only h rows is_key schema keys slot (V.map ps) (z.1).0 (z.1).1) e x.0 at sound x.1 in
    subst (λ v. breaks_delimiter rows p.0 v ≡ false) x.2 (outside only h rows is_key schema keys path p slot elem ps d x.0 typed made there is y.0 ∙ y.1)
