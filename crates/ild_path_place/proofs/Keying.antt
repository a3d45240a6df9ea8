-- The end of a path at a key of a HAMT.
use Rattle.std.proofs.Common.{◌≡◌, ℕ, ◌+◌, ◌-◌, ◌≤◌, List, length, Bool, is_some, Option, Some, None, Result, Ok, Err, option_map, refl, ap, sym, ◌∙◌, subst, arith}
use Rattle.std.specs.Prelude.{IsUtf8, ◌||◌, if◌then◌else◌}
use Rattle.std.proofs.lemmas.Option.{same_Some}
use Rattle.ild_data.specs.Data.{Data}
use Rattle.ild_data.specs.Key.{value_at}
use Rattle.ild_data.specs.Trie.{TrieSlot}
use Rattle.ild_data.specs.TrieShape.{trie_levels}
use Rattle.ild_data.specs.declared.hamt_shape.HamtShape.{HamtShape}
use Rattle.ild_edges.specs.Store.{Moment, block_at}
use Rattle.ild_hamt.specs.Descending.{IsTrailOf}
use Rattle.ild_hamt.specs.declared.trail.Trail.{Trail}
use Rattle.ild_hamt_trie.specs.Way.{way}
use Rattle.ild_node_slots.specs.declared.fault.HamtFault.{HamtFault}
use Rattle.ild_node_slots.specs.declared.fault.HamtFault.TheVariants as H
use Rattle.ild_open_held.specs.Held.{IsHeld}
use Rattle.ild_path_edits.proofs.RoomTests.{schemas_have_tests}
use Rattle.ild_path_edits.specs.Table.{key_fits, refusal_to_delete, slot_to_insert, slot_to_set, unless_there}
use Rattle.ild_path_enter.specs.Enters.{CanEnter, EnterAnswer, EntryThere}
use Rattle.ild_path_entered.specs.Entered.{IsEntered}
use Rattle.ild_path_entry.specs.declared.entry.Entry.{Entry}
use Rattle.ild_path_held.proofs.Tries.{hamts_are_tries}
use Rattle.ild_path_held.specs.Hamts.{IsTrieIn}
use Rattle.ild_path_inward.proofs.Passing.{counts_way, levels_fit, some_slots}
use Rattle.ild_path_inward.specs.Levels.{counts}
use Rattle.ild_path_room.specs.ValueSlot.{IsValueSlot}
use Rattle.ild_path_place.specs.inside.Endings.{CanEndAt, KeyAnswer, fault_at}
use Rattle.ild_path_place.specs.Faults.{hamt_fault}
use Rattle.ild_path_place.specs.inside.Keys.{FitsAs, key_in}
use Rattle.ild_path_place.specs.inside.Slots.{FitsKey, KeySlot, SlotAnswer, part_slot}
use Rattle.ild_path_place.specs.declared.ending.Found.{Found}
use Rattle.ild_path_place.specs.declared.place.End.TheVariants as D
use Rattle.ild_path_rules.specs.declared.delete.Refusal.{Refusal}
use Rattle.ild_path_rules.specs.declared.delete.Refusal.TheVariants as R
use Rattle.ild_path_place.specs.declared.verb.Verb.{Verb}
use Rattle.ild_path_place.specs.declared.verb.Verb.TheVariants as V
use Rattle.ild_schema.specs.declared.def.MapForm.TheVariants as MF
use Rattle.ild_schema.specs.declared.def.TypeDef.TheVariants as T
use Rattle.ild_schema.specs.declared.number.Slot.{Slot}
use Rattle.ild_schema.specs.declared.row.Row.{Row}
use Rattle.ild_schema.specs.Slots.{form_of}
use Rattle.ild_schema.specs.Value.{Value, map, pairs_list}
use Rattle.ild_typed.specs.At.{InSlot, seen}
use Rattle.ild_typed.specs.Holder.{entries, is_paired, map_holder}
use Rattle.ild_typed.specs.Node.{IsRoot}
use Rattle.ild_typed.specs.Segment.{part}
use Rattle.ild_typed.specs.Slots.{element_of}
use Rattle.ild_view.specs.View.{slot_of}
use Rattle.ild_view.specs.declared.view.View.{View}

abbrev insert_by : Slot → Option Value → Option Slot
insert_by slot v = if is_some v then None else Some slot

-- an entry is there where a value is
there_is : (h : List ℕ → List ℕ) (rows : List Row) (was : List (List ℕ)) (elem : Slot) (room : ℕ) (o : Option Value) (e : Option Entry) → EntryThere h rows was elem room o e → is_some e ≡ is_some o
there_is h rows was elem room None None x = refl
there_is h rows was elem room (Some w) (Some e) x = refl
there_is h rows was elem room None (Some e) x = absurd x
there_is h rows was elem room (Some w) None x = absurd x

module _ (h : List ℕ → List ℕ) (rows : List Row) (was : List (List ℕ)) (limit : ℕ) (q : InSlot) (front : List (List ℕ)) (room : ℕ) (view : View) (x : CanEndAt h rows was limit q front room view)
    (slot : Slot) (is : IsValueSlot rows (form_of rows (slot_of view)) (Some slot)) (less : ℕ) (lower : less ≡ room - 5) where
  abbrev s : Slot
  s = slot_of view

  abbrev holder : InSlot
  holder = (s, map x.ps)

  same : x.elem ≡ slot
  same = same_Some x.elem slot (sym (ap element_of x.entered.hamt.4) ∙ is.0)

  pub entered : IsEntered rows q front s slot x.ps
  entered = subst (λ e. IsEntered rows q front s e x.ps) same x.entered

  -- the shape of the HAMT
  abbrev pub shape : HamtShape
  shape = entered.hamt.3

  pub left : room ≡ less + 5
  left = let five : 5 ≤ room = levels_fit rows room s x.ps (T.Map entered.hamt.0 entered.hamt.1 slot entered.hamt.2 (MF.Hamt shape)) entered.hamt.4 x.held.fits in omega (arith, five, lower)

  pub tries : (es : List (List ℕ × Data)) × IsTrieIn h shape rows was slot x.ps x.tree es
  tries = hamts_are_tries h rows x.schema was room less x.low s slot x.tree x.ps entered.hamt left x.held

  abbrev pub es : List (List ℕ × Data)
  es = tries.0

  abbrev pub is_key : ℕ → List ℕ → Bool
  is_key = (schemas_have_tests rows x.schema).0.is_key

  abbrev pub can : CanEnter h rows is_key was s slot less x.tree x.ps es
  can = record { schema = x.schema; keys = (schemas_have_tests rows x.schema).1.keys; hamt = entered.hamt; held = subst (λ n. IsHeld (block_at was) h rows n s x.tree (map x.ps)) left x.held; trie = tries.1 }

  holder_is : seen rows holder ≡ entries (entered.hamt.0).0 slot (is_paired (MF.Hamt shape)) (pairs_list x.ps)
  holder_is = ap (λ G. map_holder G x.ps) entered.hamt.4

  module _ (key : List ℕ) where
    abbrev There : Option Value
    There = value_at key (pairs_list x.ps)

    slot_some : (o : Option Value) (w : Value) → There ≡ o → o ≡ Some w → part_slot rows holder key ≡ Some slot
    slot_some o w e f = ap (λ K. option_map (λ (r : InSlot). r.0) (part K key)) holder_is ∙ ap (λ (v : Option Value). option_map (λ (r : InSlot). r.0) (option_map {U = InSlot} (λ w. (slot, w)) v)) (e ∙ f)

    slot_none : There ≡ None → part_slot rows holder key ≡ None
    slot_none e = ap (λ K. option_map (λ (r : InSlot). r.0) (part K key)) holder_is ∙ ap (λ (v : Option Value). option_map (λ (r : InSlot). r.0) (option_map {U = InSlot} (λ w. (slot, w)) v)) e

    slot_answer : (o : Option Value) → There ≡ o → (verb : Verb) (r : Result Slot Refusal) → KeySlot slot (is_some o) verb r → SlotAnswer rows holder key verb r
    slot_answer o e V.Set r k = subst (SlotAnswer rows holder key V.Set) (sym k) (ap (λ K. slot_to_set K key) holder_is)
    slot_answer (Some w) e V.Ins r k = subst (SlotAnswer rows holder key V.Ins) (sym k) (ap (λ K. slot_to_insert K key) holder_is ∙ ap (insert_by slot) e)
    slot_answer None e V.Ins r k = subst (SlotAnswer rows holder key V.Ins) (sym k) (ap (λ K. slot_to_insert K key) holder_is ∙ ap (insert_by slot) e)
    slot_answer (Some w) e V.Del r k = subst (SlotAnswer rows holder key V.Del) (sym k) (ap (λ K. refusal_to_delete K key) holder_is ∙ ap unless_there e, slot_some (Some w) w e refl)
    slot_answer None e V.Del r k = subst (SlotAnswer rows holder key V.Del) (sym k) (ap (λ K. refusal_to_delete K key) holder_is ∙ ap unless_there e)

    pub slotted : (entry : Option Entry) → EntryThere h rows was slot less There entry → (there : Bool) → there ≡ is_some entry → (verb : Verb) (r : Result Slot Refusal) → KeySlot slot there verb r → SlotAnswer rows holder key verb r
    slotted entry a there t verb r k = slot_answer There refl verb r (subst (λ b. KeySlot slot b verb r) (t ∙ there_is h rows was slot less There entry a) k)

    pub fitted : (entry : Option Entry) → EntryThere h rows was slot less There entry → (there : Bool) → there ≡ is_some entry → IsUtf8 key → (b : Bool) → FitsAs rows (form_of rows s) there key b → FitsKey rows holder key b
    fitted entry a there t utf8 b fits is_key tests =
        fits entered.hamt.0 is_key (ap key_in entered.hamt.4) tests utf8 ∙ ap (λ c. c || is_key (entered.hamt.0).0 key) (t ∙ there_is h rows was slot less There entry a)
        ∙ sym (ap (λ K. key_fits is_key K key) holder_is)

    module _ (m n : Moment) (gets : n.gets ≤ m.gets + length (way h shape key (trie_levels shape) 0 es)) where
      within : n.gets ≤ m.gets + counts h rows holder key
      within = let own = counts_way h rows was s slot x.ps x.tree es entered.hamt tries.1 key in omega (arith, gets, own)

      pub ends_wrong : (k : ℕ) (verb : Verb) (e : HamtFault) → EnterAnswer h shape rows was slot less x.tree x.ps es key m (Err e) n → KeyAnswer h rows was limit q front key k verb holder m (Err (hamt_fault e)) n × (n.gets ≤ m.gets + counts h rows holder key)
      ends_wrong k verb H.Store a = (a, within)
      ends_wrong k verb H.Memory a = (tt, within)
      ends_wrong k verb (H.Block id why) a = absurd a
      ends_wrong k verb H.Exhausted a = absurd a
      ends_wrong k verb H.NoKey a = absurd a
      ends_wrong k verb H.Size a = absurd a
      ends_wrong k verb (H.Clash id kept new) a = absurd a

      pub ends_refused : (k : ℕ) (verb : Verb) (r : Refusal) → SlotAnswer rows holder key verb (Err r) → KeyAnswer h rows was limit q front key k verb holder m (Err (fault_at k r)) n × (n.gets ≤ m.gets + counts h rows holder key)
      ends_refused k verb R.Path a = ((refl, a), within)
      ends_refused k verb R.Mismatch a = (a, within)

      pub ends_there : (k : ℕ) (verb : Verb) (found : Found) (trail : Trail) (entry : Option Entry) → found.end ≡ D.AtKey front trail entry → IsUtf8 key
          → ((slots : List TrieSlot) → IsRoot shape slots x.tree → IsTrailOf h shape key slots es trail) → EntryThere h rows was slot less There entry → SlotAnswer rows holder key verb (Ok found.slot) → FitsKey rows holder key found.key_fits
          → KeyAnswer h rows was limit q front key k verb holder m (Ok found) n × (n.gets ≤ m.gets + counts h rows holder key)
      ends_there k verb found trail entry e utf8 search there answer fits =
          let roots = some_slots h shape rows was slot x.ps x.tree es tries.1 in
          let same_key : trail.key ≡ key = (search roots.0 roots.1).key in (
            (
              answer,
              (
                trail,
                entry,
                e,
                same_key,
                record {
                  slot = s;
                  elem = slot;
                  ps = x.ps;
                  es = es;
                  root = x.tree;
                  less = less;
                  entered = entered;
                  left = sym x.room_is ∙ left;
                  data_is = x.held.tree;
                  trie = tries.1;
                  utf8 = subst IsUtf8 (sym same_key) utf8;
                  found = subst (λ i. (slots : List TrieSlot) → IsRoot shape slots x.tree → IsTrailOf h shape i slots es trail) (sym same_key) search;
                  there = subst (λ i. EntryThere h rows was slot less (value_at i (pairs_list x.ps)) entry) (sym same_key) there;
                },
              ),
              fits,
            ),
            within,
          )
