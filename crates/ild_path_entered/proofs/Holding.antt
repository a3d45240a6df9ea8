-- What is held where an entry of a HAMT in a value is put, or has gone.
use Rattle.std.proofs.Common.{◌≡◌, ℕ, List, Bool, true, Option, Some, None, IsUtf8, refl, ap, subst, ◌∙◌}
use Rattle.std.specs.Prelude.{is_some}
use Rattle.ild_data.specs.Key.{value_at}
use Rattle.ild_edges.specs.Store.{block_at}
use Rattle.ild_schema.specs.declared.number.Slot.{Slot}
use Rattle.ild_schema.specs.declared.row.Row.{Row}
use Rattle.ild_schema.specs.Value.{Value, Pairs, map, pairs_list}
use Rattle.ild_typed.specs.At.{seen}
use Rattle.ild_typed.specs.OfType.{OfType, TestsKeys}
use Rattle.ild_typed.specs.Schema.{IsSchema}
use Rattle.ild_typed.specs.Holder.{value_of}
use Rattle.ild_path_edits.specs.Table.{slot_to_set, refusal_to_delete, unless_there, delete_part}
use Rattle.ild_path_edits.proofs.KeepTyped.{of_type_is_kept}
use Rattle.ild_path_edits.proofs.Paths.{may_stand}
use Rattle.ild_path_nodes.specs.NodeLaws.{IsHamt}
use Rattle.ild_path_held.specs.HeldEdits.{room_at}
use Rattle.ild_path_held.proofs.Holding.{held_parts, held_stays, held_wholes}
use Rattle.ild_path_held.proofs.Tries.{hamts_are_put, hamts_are_cut}
use Rattle.ild_path_entered.specs.Entered.{with_entry, without_entry}
use Rattle.ild_path_entered.specs.EnteredLaws.{EntriesArePut, EntriesAreCut, fits_key}
use Rattle.ild_path_entered.proofs.Editing.{hamt_seen, entry_set, sets_have_data}

there_free : {X : Type 0} (o : Option X) → is_some o ≡ true → unless_there o ≡ None
there_free None e = absurd cc
there_free (Some x) e = refl

module _ (rows : List Row) (is_key : ℕ → List ℕ → Bool) (schema : IsSchema rows) (keys : TestsKeys rows is_key) (slot elem : Slot) (ps : Pairs) (is : IsHamt rows slot elem) (typed : OfType rows slot (map ps)) where
  -- a map with an entry put of its key type is of the type, and so is one without an entry
  pub put_typed : (k : List ℕ) (w : Value) → IsUtf8 k → fits_key is_key rows slot ps k ≡ true → OfType rows elem w → OfType rows slot (with_entry k w ps)
  put_typed k w text fits new =
      let kept = of_type_is_kept rows is_key schema keys in
      let may = may_stand is_key (seen rows (slot, map ps)) k text fits in
      subst (OfType rows slot) (entry_set rows slot elem ps is k w) (kept.set (slot, map ps) k elem w typed (ap (λ h. slot_to_set h k) (hamt_seen rows slot elem ps is)) may new)

  pub cut_typed : (k : List ℕ) → is_some (value_at k (pairs_list ps)) ≡ true → OfType rows slot (without_entry k ps)
  cut_typed k there =
      let kept = of_type_is_kept rows is_key schema keys in
      let free : refusal_to_delete (seen rows (slot, map ps)) k ≡ None = ap (λ h. refusal_to_delete h k) (hamt_seen rows slot elem ps is) ∙ there_free (value_at k (pairs_list ps)) there in
      subst (OfType rows slot) (ap (λ h. value_of (delete_part h k)) (hamt_seen rows slot elem ps is)) (kept.deleted (slot, map ps) k typed free)

pub entries_are_put : EntriesArePut
entries_are_put = λ h rows is_key schema keys was now keeps room less p front slot elem ps t t' d u node es k w has x tried text fits new whole_fits tree node_is holds.
    let m = with_entry k w ps in
    let old = held_parts (block_at was) h rows is_key schema keys room p (slot, map ps) t front has x.at in
    let typed : OfType rows slot m = put_typed rows is_key schema keys slot elem ps x.hamt (_, old.1.fits) k w text fits (less, new.fits) in
    let own = sets_have_data h rows is_key schema keys room p (slot, map ps) front m u (room, has.fits) x.at typed tree whole_fits in
    let made = hamts_are_put h rows was now keeps (room_at rows room p front) (room_at rows room p front) less slot elem old.0 t' d node ps es k w x.hamt old.1 tried text new own.2 node_is holds in
    (held_wholes (block_at now) h rows is_key schema keys room (room_at rows room p front) p (slot, map ps) t _ u front m (held_stays h rows was now room p.0 t p.1 keeps has) x.inside x.at made whole_fits tree, made)

pub entries_are_cut : EntriesAreCut
entries_are_cut = λ h rows is_key schema keys was now keeps room p front slot elem ps t t' u node es k has x tried whole_fits tree there node_is holds.
    let m = without_entry k ps in
    let old = held_parts (block_at was) h rows is_key schema keys room p (slot, map ps) t front has x.at in
    let typed : OfType rows slot m = cut_typed rows is_key schema keys slot elem ps x.hamt (_, old.1.fits) k there in
    let own = sets_have_data h rows is_key schema keys room p (slot, map ps) front m u (room, has.fits) x.at typed tree whole_fits in
    let made = hamts_are_cut h rows was now keeps (room_at rows room p front) (room_at rows room p front) slot elem old.0 t' node ps es k x.hamt old.1 tried own.2 node_is holds in
    (held_wholes (block_at now) h rows is_key schema keys room (room_at rows room p front) p (slot, map ps) t _ u front m (held_stays h rows was now room p.0 t p.1 keeps has) x.inside x.at made whole_fits tree, made)
