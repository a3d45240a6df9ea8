use Rattle.std.proofs.Common.{rules, ◌≡◌, ◌+◌, ◌^◌, ℕ, List, [], ◌∷◌, ◌++◌, length, Option, None, Some, false, refl, sym, ◌∙◌, ap, subst, arith}
use Rattle.std.specs.Prelude.{Ok, Err, slice_get}
use Rattle.std.specs.Vec.Iter.{into_iter_items}
use Rattle.std.proofs.Math.Logic.{∥∥₁_elim, ∥∥₁_map}
use Rattle.std.proofs.Props.{props}
use Rattle.std.proofs.lemmas.Bool.{false≢true}
use Rattle.std.proofs.lemmas.Result.{err_from_is_err_and}
use Rattle.ild_layer_parts.proofs.FieldSteps.{plain_numbered}
use Rattle.ild_data.proofs.Gets.{there_at}
use Rattle.ild_data.proofs.AllOf.{all_at}
use Rattle.ild_data.specs.Data as T
use Rattle.ild_data.specs.Data.{Data}
use Rattle.ild_open_held.specs.Laws.{IsFronted, is_hamt}
use Rattle.ild_open_held.proofs.Plainly.{null_is_held}
use Rattle.ild_layer_piece.specs.Entries.{Lists}
use Rattle.ild_layer_piece.specs.Pieces.{StandsFor}
use Rattle.ild_schema.specs.Copies.{base, target_in}
use Rattle.ild_schema.specs.Slots.{form_of, plainly}
use Rattle.ild_schema.specs.Table.{IsWithin, def_at}
use Rattle.ild_schema.specs.Value as V
use Rattle.ild_schema.specs.declared.def.Field.{Field}
use Rattle.ild_schema.specs.declared.def.MapForm.TheVariants as MF
use Rattle.ild_schema.specs.declared.def.TypeDef.{TypeDef}
use Rattle.ild_schema.specs.declared.def.TypeDef.TheVariants as D
use Rattle.ild_schema.specs.declared.row.Row.{Row}
use Rattle.ild_schema.specs.declared.val.Val.TheVariants as W
use Rattle.ild_typed.specs.Levels.{map_levels, struct_levels}
use Rattle.ild_typed.specs.Named.{items_in}
use Rattle.ild_typed.specs.Pieces.{is_null_there}
use Rattle.ild_typed.specs.Schema.{IsSchema}
use Rattle.ild_open_parts.specs.Around.{levels_around}
use Rattle.ild_open_parts.specs.Fields.{FieldFits}
use Rattle.ild_open_parts.specs.Checked.{IsTyped}
use Rattle.ild_open_parts.specs.Hamts.{ReadsHamt}
use Rattle.ild_open_parts.proofs.Typing.{checked_layered, checked_typed, never_refused, rest_leaf, room_enough, root_item, typed_layered, typed_root}
use Rattle.ild_open_read.proofs.Checking.{field_checked, has_entries, item_checked, list_elements, map_entries, member_checked, plain_piece, struct_fields, union_member}
use Rattle.ild_open_read.proofs.Listing.{Listing, items_there, listing_begins, listing_ends, listing_front, listing_full, listing_goes, listing_stops, listing_wants}
use Rattle.ild_schema.specs.Fitting.{ImplicitFits}
use Rattle.ild_open_read.proofs.Fielding.{Fielding, field_done, field_stops, fielding_begins, fielding_ends, fielding_front, fielding_goes, fielding_stops, fielding_wants}
use Rattle.ild_open_parts.proofs.Forming.{struct_many}
use Rattle.ild_open_parts.proofs.Handing.{field_at, parts_same}
use Rattle.ild_open_parts.proofs.Lacking.{free_inlined}
use Rattle.ild_open_parts.proofs.Leaving.{leaf_read}
use Rattle.ild_open_parts.proofs.Membering.{got}
use Rattle.ild_open_parts.proofs.Making.{form_is}
use Rattle.ild_open_read.proofs.Pairing.{Pairing, pairing_begins, pairing_ends, pairing_front, pairing_goes, pairing_stops, pairing_wants}
use Rattle.ild_open_parts.proofs.Hamting.{hamt_stops}
use Rattle.ild_cbor.specs.declared.piece.Piece.TheVariants as P
use Rattle.std.proofs.Common.{length-append}
use Rattle.ild_data.specs.Trie.{empty}
use Rattle.ild_node_slots.specs.Views.{EntryIs, SlotHolds, view_shape}
use Rattle.ild_node_slots.specs.Walks.{SomeHold}
use Rattle.ild_node_slots.specs.declared.view.NodeSlot.{NodeSlot}
use Rattle.ild_node_slots.proofs.Fits.{some-node}
use Rattle.ild_node_slots.proofs.Holds.{some-hold}
use Rattle.ild_data.specs.declared.hamt_shape.HamtShape.{HamtShape}
use Rattle.ild_node_slots.proofs.Shapes.{levels_few, levels_some, pow_few}
use Rattle.ild_open_nodes.specs.inside.Beneath.{BrokenIn}
use Rattle.ild_open_nodes.specs.Nodes.{SlotGiven, SlotOwned}
use Rattle.ild_open_nodes.specs.Reading.{IsNodeView, ReadsNode}
use Rattle.ild_open_nodes.proofs.Entries.{entry_read, entry_refused, entry_stops, entry_strays}
use Rattle.ild_open_nodes.proofs.Noding.{gets_only}
use Rattle.ild_open_nodes.proofs.Passing.{found_at, passing_begins, passing_ends, passing_goes, passing_stops, passes_wants}
use Rattle.ild_open_nodes.proofs.Slotting.{Given, Owned, bucket_passes, child_deep, child_passes, in_earlier}
use Rattle.ild_open_read.proofs.Noded.{at_bucket, at_child, at_empty, node_done, node_faulty, node_known, node_missing, node_stops, reads_entry}
use Rattle.ild_open_read.proofs.Knowing.{hamt_reads, known_still, node_passed, node_remembered, passed, remembered, still_sound}
use Rattle.ild_open_read.proofs.Passed.{root_ends, root_stops, root_whole}
use Rattle.ild_open_read.proofs.Rowing.{Rowing, none_left, rowing_begins, rowing_ends, rowing_full, rowing_goes, rowing_refused, rowing_spelled, rowing_stops, rowing_wants}
use Rattle.ild_open_read.proofs.Readying.{elem_low, field_low, key_low, left_there, map_delims, some_map_levels, some_struct_levels, value_low}
use Rattle.ild_open_parts.proofs.Turning.{only_refl, member_read, member_stops, plain_read}
use Rattle.ild_open_read.proofs.Wholly.{list_whole, map_whole, struct_whole, union_whole}
use Rattle.ild_open_read.proofs.reading.+reads.Goals as goal

pub read_slot-returns-then-is_null_there-clause-reads : goal.read_slot-returns-then-is_null_there-clause-reads
read_slot-returns-then-is_null_there-clause-reads g t c = λ d stands shows.
    plain_read g.H.KeyHash.hash_of c.args.at.0 c.args.acc.now c.args.room c.args.reader.now.keep (c.args.slot, d) _ W.Null V.null
    (λ block. null_is_held block g.H.KeyHash.hash_of c.args.acc.now c.args.room c.args.slot d (sym (c.is_null_there.ensures c.args.acc.now d stands) ∙ c.if-is_null_there.true)) (λ k. refl)

pub read_list-loop-item-init : goal.read_list-loop-item-init
read_list-loop-item-init g t c = (
  tt,
  tt,
  λ ds stands fronts.
      subst (λ v. Listing g.H.KeyHash.hash_of c.args.at.0 c.args.acc.now c.args.room c.args.reader.now.keep c.args.elem ds c.in-Some.left v (g.K.Store.moment c.args.store.now) (g.K.Store.moment c.args.store.now)) (sym c.in_ok-vals.ensures)
      (listing_begins g.H.KeyHash.hash_of c.args.at.0 c.args.acc.now c.args.room c.args.reader.now.keep c.args.elem ds c.in-Some.left (g.K.Store.moment c.args.store.now) fronts
      (items_there ds c.in-Some.left (subst (λ o. Lists (items_in (T.list (T.items_of ds))) o) c.in-Some.is (c.items.ensures c.args.acc.now (T.list (T.items_of ds)) stands)))),
  c.requires.sound,
)

pub read_list-returns-in_err-vals-clause-reads : goal.read_list-returns-in_err-vals-clause-reads
read_list-returns-in_err-vals-clause-reads g t c = λ ds stands fronts.
    let begun = listing_begins g.H.KeyHash.hash_of c.args.at.0 c.args.acc.now c.args.room c.args.reader.now.keep c.args.elem ds c.in-Some.left (g.K.Store.moment c.args.store.now) fronts
    (items_there ds c.in-Some.left (subst (λ o. Lists (items_in (T.list (T.items_of ds))) o) c.in-Some.is (c.items.ensures c.args.acc.now (T.list (T.items_of ds)) stands))) in
    let p = err_from_is_err_and c.from_residual.result c.from_residual.ensures.1 in
    rw (p.1, p.2) (listing_full g.H.KeyHash.hash_of c.args.at.0 c.args.acc.now c.args.room c.args.reader.now.keep c.args.elem ds c.in-Some.left V.no_values (g.K.Store.moment c.args.store.now) (g.K.Store.moment c.args.store.now) begun)

pub read_list-unreachable-requires : goal.read_list-unreachable-requires
read_list-unreachable-requires g t c =
    let schema : IsSchema c.args.acc.now = record { table = c.recall.ensures.table; accepted = c.recall.ensures.accepted } in
    ∥∥₁_elim c.requires.typed (hlevel props) (λ x. let y = list_elements c.args.acc.now schema c.args.room c.args.piece.now c.args.elem x.0 x.1 in c.in_default.ensures c.args.acc.now (T.list (T.items_of y.items)) y.stands)

pub read_list-read_slot-requires : goal.read_list-read_slot-requires
read_list-read_slot-requires g t c = λ κs le.
    let rows : List Row = c.args.acc.now in
    let schema : IsSchema rows = record { table = c.recall.ensures.table; accepted = c.recall.ensures.accepted } in
    let checked = ∥∥₁_map c.requires.typed (λ x.
    let y = list_elements rows schema c.args.room c.args.piece.now c.args.elem x.0 x.1 in
    listing_front g.H.KeyHash.hash_of c.args.at.0 rows c.args.room c.args.reader.now.keep c.args.elem y.items c.loop-item.left c.next.new.self c.loop-item.vals _ _ c.in-Some-next.item (c.loop-item.invariant.2 y.items y.stands y.fronts) c.in-Some-next.ensures.steps) in
    (omega arith, (le.0, (le.1, (c.requires.within, (tt, (λ over. absurd (false≢true over), (c.requires.room, (checked, c.loop-item.invariant.3))))))))

pub read_list-returns-in_err-val-clause-reads : goal.read_list-returns-in_err-val-clause-reads
read_list-returns-in_err-val-clause-reads g t c = λ ds stands fronts.
    let p = err_from_is_err_and c.from_residual-in_err-val.result c.from_residual-in_err-val.ensures.1 in
    rw (p.1, p.2) (listing_stops g.H.KeyHash.hash_of c.args.at.0 c.args.acc.now c.args.room c.args.reader.now.keep c.args.elem ds c.loop-item.left c.next.new.self c.loop-item.vals _ _ _ c.in-Some-next.item c.in_err-val.field-0.0
    (c.loop-item.invariant.2 ds stands fronts) c.in-Some-next.ensures.steps (λ d s f. c.in_err-val.ensures.reads d s f))

pub read_list-loop-item-preserved : goal.read_list-loop-item-preserved
read_list-loop-item-preserved g t c = (
  tt,
  tt,
  λ ds stands fronts.
      listing_goes g.H.KeyHash.hash_of c.args.at.0 c.args.acc.now c.args.room c.args.reader.now.keep c.args.elem ds c.loop-item.left c.next.new.self c.loop-item.vals c.add.new.vals _ _ _ c.in-Some-next.item c.in_ok-val.val
      (c.loop-item.invariant.2 ds stands fronts) c.in-Some-next.ensures.steps (λ d s f. c.in_ok-val.ensures.reads d s f) (λ k. c.in_ok-add.ensures k),
  c.in_ok-val.ensures.sound,
)

pub read_list-returns-in_err-add-clause-reads : goal.read_list-returns-in_err-add-clause-reads
read_list-returns-in_err-add-clause-reads g t c = λ ds stands fronts.
    let p = err_from_is_err_and c.from_residual-in_err-add.result c.from_residual-in_err-add.ensures.1 in
    rw (p.1, p.2) (listing_wants g.H.KeyHash.hash_of c.args.at.0 c.args.acc.now c.args.room c.args.reader.now.keep c.args.elem ds c.loop-item.left c.next.new.self c.loop-item.vals _ _ _ c.in-Some-next.item c.in_ok-val.val
    (c.loop-item.invariant.2 ds stands fronts) c.in-Some-next.ensures.steps (λ d s f. c.in_ok-val.ensures.reads d s f))

pub read_list-returns-clause-reads : goal.read_list-returns-clause-reads
read_list-returns-clause-reads g t c = λ ds stands fronts.
    listing_ends g.H.KeyHash.hash_of c.args.at.0 c.args.acc.now c.args.room c.args.reader.now.keep c.args.elem ds c.loop-item.left c.next.new.self c.loop-item.vals _ _ (W.List c.loop-item.vals) refl
    (c.loop-item.invariant.2 ds stands fronts) c.in_default-next.ensures.steps

pub read_slot-unreachable-requires : goal.read_slot-unreachable-requires
read_slot-unreachable-requires g t c =
    let rows : List Row = c.args.acc.now in
    let own : TypeDef = c.def-def.result.now in
    let is : form_of rows c.args.slot ≡ Some own = form_is rows c.args.slot c.base.result.0 own own c.base.ensures.same c.def-def.ensures.same refl in
    ∥∥₁_elim c.requires.checked (hlevel props) (λ x.
    let front : IsFronted rows c.args.room c.args.slot x.tree = record { some = sym (c.is_null_there.ensures rows x.tree x.stands) ∙ c.if-is_null_there.false; shows = x.front } in
    let enough = room_enough rows c.args.room c.args.slot x.tree own is front in
    let around = c.levels.ensures in
    omega (arith, c.in_default.ensures, enough, around))

pub read_slot-read_list-requires : goal.read_slot-read_list-requires
read_slot-read_list-requires g t c = λ κs le.
    let rows : List Row = c.args.acc.now in
    let own : TypeDef = D.List c.in-List.elem c.in-List.at in
    let is : form_of rows c.args.slot ≡ Some own = form_is rows c.args.slot c.base.result.0 c.def-def.result.now own c.base.ensures.same c.def-def.ensures.same c.in-List.is in
    let around : c.levels.result ≡ 1 = c.levels.ensures ∙ ap levels_around c.in-List.is in
    let left : c.args.room ≡ c.in-Some.less + 1 = omega (arith, c.in-Some.ensures, around) in
    let some : (d : Data) → StandsFor rows c.args.piece.now d → is_null_there c.args.slot d ≡ false = λ d stands. sym (c.is_null_there.ensures rows d stands) ∙ c.if-is_null_there.false in
    let typed = ∥∥₁_map c.requires.checked (λ x. (c.in-List.at, checked_typed rows c.args.room c.in-Some.less c.args.slot own c.args.piece.now is left some x)) in
    let low = elem_low rows c.def-def.result.now c.in-List.elem c.in-List.at c.in-List.is c.def-def.ensures.within in
    (omega (arith, left), (le.0, (le.1, (low, (omega (arith, left, c.requires.room), (typed, c.requires.sound))))))

pub read_slot-read_struct-requires : goal.read_slot-read_struct-requires
read_slot-read_struct-requires g t c = λ κs le.
    let rows : List Row = c.args.acc.now in
    let own : TypeDef = D.Struct c.in-Struct.def in
    let is : form_of rows c.args.slot ≡ Some own = form_is rows c.args.slot c.base.result.0 c.def-def.result.now own c.base.ensures.same c.def-def.ensures.same c.in-Struct.is in
    let around : c.levels.result ≡ struct_levels c.in-Struct.def.form = c.levels.ensures ∙ ap levels_around c.in-Struct.is in
    let left : c.args.room ≡ c.in-Some.less + struct_levels c.in-Struct.def.form = omega (arith, c.in-Some.ensures, around) in
    let some : (d : Data) → StandsFor rows c.args.piece.now d → is_null_there c.args.slot d ≡ false = λ d stands. sym (c.is_null_there.ensures rows d stands) ∙ c.if-is_null_there.false in
    let typed = ∥∥₁_map c.requires.checked (λ x. checked_typed rows c.args.room c.in-Some.less c.args.slot own c.args.piece.now is left some x) in
    let parts = subst (IsWithin (length rows)) c.in-Struct.is c.def-def.ensures.within in
    let least = some_struct_levels c.in-Struct.def.form in
    (omega (arith, left, least), (le.0, (le.1, (c.requires.within, (is, (parts, (c.requires.numbered, (omega (arith, left, c.requires.room), (typed, c.requires.sound)))))))))

pub read_slot-read_union-requires : goal.read_slot-read_union-requires
read_slot-read_union-requires g t c = λ κs le.
    let rows : List Row = c.args.acc.now in
    let own : TypeDef = D.Union c.in-Union.def in
    let is : form_of rows c.args.slot ≡ Some own = form_is rows c.args.slot c.base.result.0 c.def-def.result.now own c.base.ensures.same c.def-def.ensures.same c.in-Union.is in
    let around : c.levels.result ≡ 1 = c.levels.ensures ∙ ap levels_around c.in-Union.is in
    let left : c.args.room ≡ c.in-Some.less + 1 = omega (arith, c.in-Some.ensures, around) in
    let some : (d : Data) → StandsFor rows c.args.piece.now d → is_null_there c.args.slot d ≡ false = λ d stands. sym (c.is_null_there.ensures rows d stands) ∙ c.if-is_null_there.false in
    let typed = ∥∥₁_map c.requires.checked (λ x. checked_typed rows c.args.room c.in-Some.less c.args.slot own c.args.piece.now is left some x) in
    let parts = subst (IsWithin (length rows)) c.in-Union.is c.def-def.ensures.within in
    let plain = plain_piece rows c.args.slot own is refl c.args.piece.now c.requires.inlined in
    (omega (arith, left), (le.0, (le.1, (c.requires.within, (is, (parts, (c.requires.numbered, (plain, (omega (arith, left, c.requires.room), (typed, c.requires.sound))))))))))

pub read_slot-kept_leaf-requires-clause-plain : goal.read_slot-kept_leaf-requires-clause-plain
read_slot-kept_leaf-requires-clause-plain g t c =
    let rows : List Row = c.args.acc.now in
    let d : TypeDef = c.def-def.result.now in
    rest_leaf d (form_of rows c.args.slot) (form_is rows c.args.slot c.base.result.0 d d c.base.ensures.same c.def-def.ensures.same refl) (ap (λ n. target_in (def_at rows n)) (sym c.base.ensures.same) ∙ c.base.ensures.end)
    (λ elem at e. c.in_default-def.not-List elem at e) (λ key key_at value at f e. c.in_default-def.not-Map key key_at value at f e) (λ s e. c.in_default-def.not-Struct s e) (λ u e. c.in_default-def.not-Union u e)

pub read_slot-kept_leaf-requires-clause-layered : goal.read_slot-kept_leaf-requires-clause-layered
read_slot-kept_leaf-requires-clause-layered g t c = λ d is.
    ∥∥₁_map c.requires.checked (λ x. checked_layered c.args.acc.now c.args.room c.args.slot d c.args.piece.now is (λ u stands. sym (c.is_null_there.ensures c.args.acc.now u stands) ∙ c.if-is_null_there.false) x)

pub read_slot-returns-in-List-clause-reads : goal.read_slot-returns-in-List-clause-reads
read_slot-returns-in-List-clause-reads g t c = λ d stands shows.
    let h : List ℕ → List ℕ = g.H.KeyHash.hash_of in
    let rows : List Row = c.args.acc.now in
    let schema : IsSchema rows = record { table = c.recall.ensures.table; accepted = c.recall.ensures.accepted } in
    let front : IsFronted rows c.args.room c.args.slot d = record { some = sym (c.is_null_there.ensures rows d stands) ∙ c.if-is_null_there.false; shows = shows } in
    let own : TypeDef = D.List c.in-List.elem c.in-List.at in
    let is : form_of rows c.args.slot ≡ Some own = form_is rows c.args.slot c.base.result.0 c.def-def.result.now own c.base.ensures.same c.def-def.ensures.same c.in-List.is in
    let around : c.levels.result ≡ 1 = c.levels.ensures ∙ ap levels_around c.in-List.is in
    let left : c.args.room ≡ c.in-Some.less + 1 = omega (arith, c.in-Some.ensures, around) in
    list_whole h c.args.at.0 rows schema c.args.room c.in-Some.less c.args.reader.now.keep c.args.slot d front _ _ c.read_list.result c.in-List.elem c.in-List.at is left
    (λ ds same fronts. c.read_list.ensures.reads ds (subst (StandsFor rows c.args.piece.now) same stands) fronts)

pub read_slot-returns-in-Map-clause-reads : goal.read_slot-returns-in-Map-clause-reads
read_slot-returns-in-Map-clause-reads g t c = λ d stands shows.
    let rows : List Row = c.args.acc.now in
    let front : IsFronted rows c.args.room c.args.slot d = record { some = sym (c.is_null_there.ensures rows d stands) ∙ c.if-is_null_there.false; shows = shows } in
    let own : TypeDef = D.Map c.in-Map.key c.in-Map.key_at c.in-Map.value c.in-Map.at c.in-Map.form in
    let is : form_of rows c.args.slot ≡ Some own = form_is rows c.args.slot c.base.result.0 c.def-def.result.now own c.base.ensures.same c.def-def.ensures.same c.in-Map.is in
    let around : c.levels.result ≡ map_levels c.in-Map.form = c.levels.ensures ∙ ap levels_around c.in-Map.is in
    let left : c.args.room ≡ c.in-Some.less + map_levels c.in-Map.form = omega (arith, c.in-Some.ensures, around) in
    c.read_map.ensures.reads c.args.slot d c.in-Map.key_at c.in-Map.at c.args.room stands is left c.requires.room front

pub read_slot-returns-in-Struct-clause-reads : goal.read_slot-returns-in-Struct-clause-reads
read_slot-returns-in-Struct-clause-reads g t c = λ d stands shows.
    let h : List ℕ → List ℕ = g.H.KeyHash.hash_of in
    let rows : List Row = c.args.acc.now in
    let schema : IsSchema rows = record { table = c.recall.ensures.table; accepted = c.recall.ensures.accepted } in
    let front : IsFronted rows c.args.room c.args.slot d = record { some = sym (c.is_null_there.ensures rows d stands) ∙ c.if-is_null_there.false; shows = shows } in
    let own : TypeDef = D.Struct c.in-Struct.def in
    let is : form_of rows c.args.slot ≡ Some own = form_is rows c.args.slot c.base.result.0 c.def-def.result.now own c.base.ensures.same c.def-def.ensures.same c.in-Struct.is in
    let around : c.levels.result ≡ struct_levels c.in-Struct.def.form = c.levels.ensures ∙ ap levels_around c.in-Struct.is in
    let left : c.args.room ≡ c.in-Some.less + struct_levels c.in-Struct.def.form = omega (arith, c.in-Some.ensures, around) in
    struct_whole h c.args.at.0 rows schema c.args.room c.in-Some.less c.args.reader.now.keep c.args.slot d front _ _ c.read_struct.result c.in-Struct.def is left (λ os made fronts. c.read_struct.ensures.reads d os stands made fronts)

pub read_slot-returns-in-Union-clause-reads : goal.read_slot-returns-in-Union-clause-reads
read_slot-returns-in-Union-clause-reads g t c = λ d stands shows.
    let h : List ℕ → List ℕ = g.H.KeyHash.hash_of in
    let rows : List Row = c.args.acc.now in
    let schema : IsSchema rows = record { table = c.recall.ensures.table; accepted = c.recall.ensures.accepted } in
    let front : IsFronted rows c.args.room c.args.slot d = record { some = sym (c.is_null_there.ensures rows d stands) ∙ c.if-is_null_there.false; shows = shows } in
    let own : TypeDef = D.Union c.in-Union.def in
    let is : form_of rows c.args.slot ≡ Some own = form_is rows c.args.slot c.base.result.0 c.def-def.result.now own c.base.ensures.same c.def-def.ensures.same c.in-Union.is in
    let around : c.levels.result ≡ 1 = c.levels.ensures ∙ ap levels_around c.in-Union.is in
    let left : c.args.room ≡ c.in-Some.less + 1 = omega (arith, c.in-Some.ensures, around) in
    union_whole h c.args.at.0 rows schema c.args.room c.in-Some.less c.args.reader.now.keep c.args.slot d front _ _ c.read_union.result c.in-Union.def is left (λ n m tree there made inside. c.read_union.ensures.reads d n m tree stands there made inside)

pub read_hamt-unreachable-requires : goal.read_hamt-unreachable-requires
read_hamt-unreachable-requires g t c =
    ∥∥₁_elim c.requires.typed (hlevel props) (λ x. root_item c.args.acc.now c.args.room c.args.shape c.args.key x.0 c.args.value x.1 c.args.piece.now c.requires.plain x.2 (λ n e. c.in_default.not-Node n e))

pub read_hamt-hamt_rows-requires : goal.read_hamt-hamt_rows-requires
read_hamt-hamt_rows-requires g t c =
    record { root = ∥∥₁_map c.requires.typed (λ x. typed_root c.args.acc.now c.args.room c.args.shape c.args.key x.0 c.args.value x.1 c.args.piece.now c.in-Node.root c.in-Node.is x.2) }

pub read_hamt-pass_rows-requires : goal.read_hamt-pass_rows-requires
read_hamt-pass_rows-requires g t c = λ κs le.
    let root = ∥∥₁_map c.requires.typed (λ x. typed_root c.args.acc.now c.args.room c.args.shape c.args.key x.0 c.args.value x.1 c.args.piece.now c.in-Node.root c.in-Node.is x.2) in
    (omega arith, (le.0, (le.1, (c.requires.keyed, (c.requires.within, (c.requires.room, (root, c.requires.sound)))))))

pub read_hamt-returns-then-passes-clause-reads : goal.read_hamt-returns-then-passes-clause-reads
read_hamt-returns-then-passes-clause-reads g t c =
    passed g.H.KeyHash.hash_of c.args.acc.now (record { key = c.args.key; value = c.args.value; shape = c.args.shape; room = c.args.room }) c.in-Node.root c.args.at.0 c.args.reader.now.keep c.args.known.now (g.K.Store.moment c.args.store.now) c.args.piece.now
    c.in-Node.is c.requires.sound (c.passes.ensures c.if-passes.true)

pub read_hamt-returns-in_err-rows-clause-reads : goal.read_hamt-returns-in_err-rows-clause-reads
read_hamt-returns-in_err-rows-clause-reads g t c = λ s d key_at place whole stands is sum le front.
    let rows : List Row = c.args.acc.now in
    let schema : IsSchema rows = record { table = c.recall.ensures.table; accepted = c.recall.ensures.accepted } in
    let p = err_from_is_err_and c.from_residual.result c.from_residual.ensures.1 in
    rw (p.1, p.2) (hamt_stops g.H.KeyHash.hash_of c.args.shape c.args.at.0 rows schema whole c.args.room c.args.reader.now.keep s d c.args.key key_at c.args.value place front.some is sum le _ _ c.in_err-rows.field-0.0 (c.in_err-rows.ensures.rows rows d (subst (λ q. StandsFor rows q d) c.in-Node.is stands)))

pub read_hamt-returns-in_err-rows-clause-sound : goal.read_hamt-returns-in_err-rows-clause-sound
read_hamt-returns-in_err-rows-clause-sound g t c =
    still_sound g.H.KeyHash.hash_of c.args.shape c.args.at.0 c.args.acc.now c.in-Node.root (g.K.Store.moment c.args.store.now) (g.K.Store.moment c.hamt_rows.new.store) c.hamt_rows.result c.args.known.now c.hamt_rows.ensures.rows c.requires.sound

pub read_hamt-read_rows-requires : goal.read_hamt-read_rows-requires
read_hamt-read_rows-requires g t c = λ κs le.
    let sound = still_sound g.H.KeyHash.hash_of c.args.shape c.args.at.0 c.args.acc.now c.in-Node.root (g.K.Store.moment c.args.store.now) (g.K.Store.moment c.hamt_rows.new.store) c.hamt_rows.result c.args.known.now c.hamt_rows.ensures.rows c.requires.sound in
    (omega arith, (le.0, (le.1, (c.requires.keyed, (c.requires.within, (c.requires.room, (c.in_ok-rows.ensures.spelled, sound)))))))

pub read_hamt-returns-then-reader-clause-reads : goal.read_hamt-returns-then-reader-clause-reads
read_hamt-returns-then-reader-clause-reads g t c =
    let schema : IsSchema c.args.acc.now = record { table = c.recall.ensures.table; accepted = c.recall.ensures.accepted } in
    let h = g.H.KeyHash.hash_of in
    let m = g.K.Store.moment c.args.store.now in
    let n = g.K.Store.moment c.read_rows.new.store in
    subst (λ q. ReadsHamt h c.args.shape c.args.at.0 c.args.acc.now c.args.room c.args.reader.now.keep c.args.key c.args.value q m c.read_rows.result n) (sym c.in-Node.is)
    (hamt_reads h c.args.shape c.args.at.0 c.args.acc.now schema c.recall.ensures.legible c.args.room c.args.reader.now.keep c.args.key c.args.value (P.Node c.in-Node.root) c.in_ok-rows.rows m (g.K.Store.moment c.hamt_rows.new.store) n
    c.read_rows.result c.in_ok-rows.ensures.rows c.read_rows.ensures.reads)

pub read_hamt-returns-in_err-val-clause-reads : goal.read_hamt-returns-in_err-val-clause-reads
read_hamt-returns-in_err-val-clause-reads g t c = λ s d key_at place whole stands is sum le front.
    let p = err_from_is_err_and c.from_residual-in_err-val.result c.from_residual-in_err-val.ensures.1 in
    rw (p.1, p.2) (root_whole g.H.KeyHash.hash_of c.args.shape c.args.at.0 c.args.acc.now c.args.room c.args.key c.args.value c.in-Node.root c.args.reader.now.keep c.args.piece.now _ _ (Err c.in_err-val.field-0.0) c.if-reader.false c.in-Node.is c.in_err-val.ensures.reads s d key_at place whole stands is sum le front)

pub read_hamt-returns-clause-reads : goal.read_hamt-returns-clause-reads
read_hamt-returns-clause-reads g t c =
    root_whole g.H.KeyHash.hash_of c.args.shape c.args.at.0 c.args.acc.now c.args.room c.args.key c.args.value c.in-Node.root c.args.reader.now.keep c.args.piece.now _ _ (Ok c.in_ok-val.val) c.if-reader.false c.in-Node.is c.in_ok-val.ensures.reads

pub read_hamt-returns-clause-sound : goal.read_hamt-returns-clause-sound
read_hamt-returns-clause-sound g t c =
    remembered g.H.KeyHash.hash_of c.args.acc.now (record { key = c.args.key; value = c.args.value; shape = c.args.shape; room = c.args.room }) c.in-Node.root c.args.at.0 false (g.K.Store.moment c.args.store.now) (g.K.Store.moment c.pass_rows.new.store) c.in_ok-val.val c.pass_rows.new.known c.remembers.new.known (P.Node c.in-Node.root)
    refl c.in_ok-val.ensures.sound c.remembers.ensures c.in_ok-val.ensures.reads

pub pass_rows-returns-in_err-pass_slots-clause-reads : goal.pass_rows-returns-in_err-pass_slots-clause-reads
pass_rows-returns-in_err-pass_slots-clause-reads g t c = λ s d key_at place whole stands is sum le some.
    let schema : IsSchema c.args.acc.now = record { table = c.recall.ensures.table; accepted = c.recall.ensures.accepted } in
    let p = err_from_is_err_and c.from_residual.result c.from_residual.ensures.1 in
    rw (p.1, p.2) (root_stops g.H.KeyHash.hash_of c.args.shape c.args.at.0 c.args.acc.now c.args.room c.args.key c.args.value c.args.root.now schema c.recall.ensures.legible c.root_view-view.result c.root_view-view.ensures _ _
    c.in_err-pass_slots.field-0.0 (λ slots has. c.in_err-pass_slots.ensures.passes slots has) s d key_at place whole stands is sum le some)

pub pass_rows-returns-clause-reads : goal.pass_rows-returns-clause-reads
pass_rows-returns-clause-reads g t c =
    let schema : IsSchema c.args.acc.now = record { table = c.recall.ensures.table; accepted = c.recall.ensures.accepted } in
    root_ends g.H.KeyHash.hash_of c.args.shape c.args.at.0 c.args.acc.now c.args.room c.args.key c.args.value c.args.root.now schema c.recall.ensures.legible c.root_view-view.result c.root_view-view.ensures _ _ W.Null
    (λ slots has. c.in_ok-pass_slots.ensures.passes slots has)

pub read_rows-returns-in_err-pairs-clause-reads : goal.read_rows-returns-in_err-pairs-clause-reads
read_rows-returns-in_err-pairs-clause-reads g t c = λ safe.
    let p = err_from_is_err_and c.from_residual.result c.from_residual.ensures.1 in
    rw (p.1, p.2) (rowing_full g.H.KeyHash.hash_of c.args.acc.now c.args.room c.args.reader.now.keep c.args.key c.args.value c.args.rows.items c.args.rows.items V.no_pairs (g.K.Store.moment c.args.store.now) (g.K.Store.moment c.args.store.now) (rowing_begins g.H.KeyHash.hash_of c.args.acc.now c.args.room c.args.reader.now.keep c.args.key c.args.value c.args.rows.items (g.K.Store.moment c.args.store.now)))

pub read_rows-loop-row-init : goal.read_rows-loop-row-init
read_rows-loop-row-init g t c = (
  tt,
  tt,
  subst (λ xs. Rowing g.H.KeyHash.hash_of c.args.acc.now c.args.room c.args.reader.now.keep c.args.key c.args.value c.args.rows.items xs c.in_ok-pairs.pairs (g.K.Store.moment c.args.store.now) (g.K.Store.moment c.args.store.now)) (sym c.into_iter-row-iterator.ensures.into_iter_gives.0)
      (subst (λ v. Rowing g.H.KeyHash.hash_of c.args.acc.now c.args.room c.args.reader.now.keep c.args.key c.args.value c.args.rows.items c.args.rows.items v (g.K.Store.moment c.args.store.now) (g.K.Store.moment c.args.store.now)) (sym c.in_ok-pairs.ensures) (rowing_begins g.H.KeyHash.hash_of c.args.acc.now c.args.room c.args.reader.now.keep c.args.key c.args.value c.args.rows.items (g.K.Store.moment c.args.store.now))),
  search rules,
  c.requires.sound,
)

pub read_rows-row_item-requires-clause-spelled : goal.read_rows-row_item-requires-clause-spelled
read_rows-row_item-requires-clause-spelled g t c =
    let x = subst (λ xs. Rowing g.H.KeyHash.hash_of c.args.acc.now c.args.room c.args.reader.now.keep c.args.key c.args.value c.args.rows.items xs c.loop-row.pairs (g.K.Store.moment c.args.store.now) (g.K.Store.moment c.loop-row.store)) c.in-Some.ensures.steps.0 c.loop-row.invariant.2 in
    ∥∥₁_map c.requires.spelled (λ all. rowing_spelled g.H.KeyHash.hash_of c.args.acc.now c.args.room c.args.reader.now.keep c.args.key c.args.value c.args.rows.items _ _ c.loop-row.pairs _ _ x all)

pub read_rows-read_slot-requires : goal.read_rows-read_slot-requires
read_rows-read_slot-requires g t c = λ κs le.
    (omega arith, (le.0, (le.1, (c.requires.within, (tt, (λ over. absurd (false≢true over), (c.requires.room, (item_checked c.args.acc.now c.args.room c.args.key c.args.value _ _ c.in_ok-item.ensures, c.loop-row.invariant.4))))))))

pub read_rows-returns-in_err-item-clause-reads : goal.read_rows-returns-in_err-item-clause-reads
read_rows-returns-in_err-item-clause-reads g t c = λ safe.
    let schema : IsSchema c.args.acc.now = record { table = c.recall.ensures.table; accepted = c.recall.ensures.accepted } in
    let x = subst (λ xs. Rowing g.H.KeyHash.hash_of c.args.acc.now c.args.room c.args.reader.now.keep c.args.key c.args.value c.args.rows.items xs c.loop-row.pairs (g.K.Store.moment c.args.store.now) (g.K.Store.moment c.loop-row.store)) c.in-Some.ensures.steps.0 c.loop-row.invariant.2 in
    let p = err_from_is_err_and c.from_residual-in_err-item.result c.from_residual-in_err-item.ensures.1 in
    rw (p.1, p.2) (rowing_refused g.H.KeyHash.hash_of c.args.acc.now c.args.room c.args.reader.now.keep c.args.key c.args.value c.args.rows.items schema c.recall.ensures.legible safe _ _ c.loop-row.pairs _ _ x c.in_err-item.field-0.0 c.in_err-item.ensures)

pub read_rows-returns-in_err-val-clause-reads : goal.read_rows-returns-in_err-val-clause-reads
read_rows-returns-in_err-val-clause-reads g t c = λ safe.
    let x = subst (λ xs. Rowing g.H.KeyHash.hash_of c.args.acc.now c.args.room c.args.reader.now.keep c.args.key c.args.value c.args.rows.items xs c.loop-row.pairs (g.K.Store.moment c.args.store.now) (g.K.Store.moment c.loop-row.store)) c.in-Some.ensures.steps.0 c.loop-row.invariant.2 in
    let y = c.in_ok-item.ensures in
    let p = err_from_is_err_and c.from_residual-in_err-val.result c.from_residual-in_err-val.ensures.1 in
    rw (p.1, p.2) (rowing_stops g.H.KeyHash.hash_of c.args.acc.now c.args.room c.args.reader.now.keep c.args.key c.args.value c.args.rows.items _ _ c.loop-row.pairs _ _ _ x c.in_ok-item.item y c.in_err-val.field-0.0 (c.in_err-val.ensures.reads y.tree y.stands y.front))

pub read_rows-returns-in_err-push-clause-reads : goal.read_rows-returns-in_err-push-clause-reads
read_rows-returns-in_err-push-clause-reads g t c = λ safe.
    let x = subst (λ xs. Rowing g.H.KeyHash.hash_of c.args.acc.now c.args.room c.args.reader.now.keep c.args.key c.args.value c.args.rows.items xs c.loop-row.pairs (g.K.Store.moment c.args.store.now) (g.K.Store.moment c.loop-row.store)) c.in-Some.ensures.steps.0 c.loop-row.invariant.2 in
    let y = c.in_ok-item.ensures in
    let p = err_from_is_err_and c.from_residual-in_err-push.result c.from_residual-in_err-push.ensures.1 in
    rw (p.1, p.2) (rowing_wants g.H.KeyHash.hash_of c.args.acc.now c.args.room c.args.reader.now.keep c.args.key c.args.value c.args.rows.items _ _ c.loop-row.pairs _ _ _ x c.in_ok-item.item y c.in_ok-val.val (c.in_ok-val.ensures.reads y.tree y.stands y.front))

pub read_rows-loop-row-preserved : goal.read_rows-loop-row-preserved
read_rows-loop-row-preserved g t c =
    let x = subst (λ xs. Rowing g.H.KeyHash.hash_of c.args.acc.now c.args.room c.args.reader.now.keep c.args.key c.args.value c.args.rows.items xs c.loop-row.pairs (g.K.Store.moment c.args.store.now) (g.K.Store.moment c.loop-row.store)) c.in-Some.ensures.steps.0 c.loop-row.invariant.2 in
    let y = c.in_ok-item.ensures in
    let count = ap length c.in-Some.ensures.steps.0 in (
      tt,
      tt,
      rowing_goes g.H.KeyHash.hash_of c.args.acc.now c.args.room c.args.reader.now.keep c.args.key c.args.value c.args.rows.items _ _ c.loop-row.pairs _ _ _ x c.in_ok-item.item y c.in_ok-val.val c.push.new.self (c.in_ok-val.ensures.reads y.tree y.stands y.front) (λ k. c.in_ok-push.ensures.ok),
      omega (arith, count, c.in-Some.ensures.steps.1, c.loop-row.invariant.3),
      c.in_ok-val.ensures.sound,
    )

pub read_rows-returns-clause-reads : goal.read_rows-returns-clause-reads
read_rows-returns-clause-reads g t c = λ safe.
    let none = none_left (into_iter_items c.loop-row.row-iterator) (sym c.loop-row.invariant.3 ∙ c.in-None.ensures.steps.0) in
    rowing_ends g.H.KeyHash.hash_of c.args.acc.now c.args.room c.args.reader.now.keep c.args.key c.args.value c.args.rows.items c.loop-row.pairs _ _ (W.Map c.loop-row.pairs) refl
    (subst (λ xs. Rowing g.H.KeyHash.hash_of c.args.acc.now c.args.room c.args.reader.now.keep c.args.key c.args.value c.args.rows.items xs c.loop-row.pairs (g.K.Store.moment c.args.store.now) (g.K.Store.moment c.loop-row.store)) none c.loop-row.invariant.2)

pub read_struct-unreachable-requires : goal.read_struct-unreachable-requires
read_struct-unreachable-requires g t c =
    ∥∥₁_elim c.requires.typed (hlevel props) (λ x.
    let y = typed_layered c.args.acc.now c.args.room (D.Struct c.args.def.now) c.args.piece.now x in
    never_refused c.args.acc.now c.recall.ensures.legible c.args.ty.0 (D.Struct c.args.def.now) c.args.piece.now c.requires.known y c.in-Err.field-0 (c.in-Err.ensures.refused y.tree y.stands))

pub read_struct-loop-i-init : goal.read_struct-loop-i-init
read_struct-loop-i-init g t c = (
  λ d os stands made fronts.
      subst (λ v. Fielding g.H.KeyHash.hash_of c.args.at.0 c.args.acc.now c.args.room c.args.reader.now.keep c.args.def.now.fields os 0 v (g.K.Store.moment c.args.store.now) (g.K.Store.moment c.args.store.now)) (sym c.new-fields.ensures)
      (fielding_begins g.H.KeyHash.hash_of c.args.at.0 c.args.acc.now c.args.room c.args.reader.now.keep c.args.def.now.fields os (g.K.Store.moment c.args.store.now) fronts),
  c.requires.sound,
)

pub read_struct-loop-i-preserved : goal.read_struct-loop-i-preserved
read_struct-loop-i-preserved g t c = (
  λ d os stands made fronts.
      let rows : List Row = c.args.acc.now in
      let schema : IsSchema rows = record { table = c.recall.ensures.table; accepted = c.recall.ensures.accepted } in
      let f : Field = c.field-item.result in
      let known : slice_get c.args.def.now.fields c.loop-i.i ≡ Some f = got c.as_slice-field-items.result.now c.args.def.now.fields c.loop-i.i f c.as_slice-field-items.ensures (omega arith) c.field-item.is in
      let x = c.in-Ok.ensures.parts d stands in
      let same = parts_same rows schema c.args.ty c.args.def.now c.requires.known d os c.in-Ok.parts made x in
      let y = field_at rows _ c.args.def.now.fields x.0 os c.loop-i.i f c.field-part.result (c.in-Ok.ensures.fields c.args.def.now c.requires.known) same known (c.field-part.ensures.part rows c.args.ty.0 d x.0 x.1) in
      let fitting = all_at (ImplicitFits rows) c.args.def.now.fields c.loop-i.i f (c.recall.ensures.legible.fitting (base rows c.args.ty.0) (D.Struct c.args.def.now) c.requires.known) known in
      fielding_goes g.H.KeyHash.hash_of c.args.at.0 rows c.args.room c.args.reader.now.keep c.args.def.now.fields os c.loop-i.i c.loop-i.fields _ _ f known (c.loop-i.invariant.0 d os stands made fronts) _ y.held y.at c.in_ok-val.val c.add_field.new.fields
      (λ fits. c.in_ok-val.ensures.reads y.held fitting y.is fits) (λ k. c.in_ok-add_field.ensures k),
  c.in_ok-val.ensures.sound,
)

pub read_struct-returns-in_err-val-clause-reads : goal.read_struct-returns-in_err-val-clause-reads
read_struct-returns-in_err-val-clause-reads g t c = λ d os stands made fronts.
    let rows : List Row = c.args.acc.now in
    let schema : IsSchema rows = record { table = c.recall.ensures.table; accepted = c.recall.ensures.accepted } in
    let f : Field = c.field-item.result in
    let known : slice_get c.args.def.now.fields c.loop-i.i ≡ Some f = got c.as_slice-field-items.result.now c.args.def.now.fields c.loop-i.i f c.as_slice-field-items.ensures (omega arith) c.field-item.is in
    let x = c.in-Ok.ensures.parts d stands in
    let same = parts_same rows schema c.args.ty c.args.def.now c.requires.known d os c.in-Ok.parts made x in
    let y = field_at rows _ c.args.def.now.fields x.0 os c.loop-i.i f c.field-part.result (c.in-Ok.ensures.fields c.args.def.now c.requires.known) same known (c.field-part.ensures.part rows c.args.ty.0 d x.0 x.1) in
    let fitting = all_at (ImplicitFits rows) c.args.def.now.fields c.loop-i.i f (c.recall.ensures.legible.fitting (base rows c.args.ty.0) (D.Struct c.args.def.now) c.requires.known) known in
    let p = err_from_is_err_and c.from_residual.result c.from_residual.ensures.1 in
    rw (p.1, p.2) (fielding_stops g.H.KeyHash.hash_of c.args.at.0 rows c.args.room c.args.reader.now.keep c.args.def.now.fields os c.loop-i.i c.loop-i.fields _ _ f known (c.loop-i.invariant.0 d os stands made fronts) _ y.held y.at c.in_err-val.field-0.0
    (λ fits. c.in_err-val.ensures.reads y.held fitting y.is fits))

pub read_struct-returns-in_err-add_field-clause-reads : goal.read_struct-returns-in_err-add_field-clause-reads
read_struct-returns-in_err-add_field-clause-reads g t c = λ d os stands made fronts.
    let rows : List Row = c.args.acc.now in
    let schema : IsSchema rows = record { table = c.recall.ensures.table; accepted = c.recall.ensures.accepted } in
    let f : Field = c.field-item.result in
    let known : slice_get c.args.def.now.fields c.loop-i.i ≡ Some f = got c.as_slice-field-items.result.now c.args.def.now.fields c.loop-i.i f c.as_slice-field-items.ensures (omega arith) c.field-item.is in
    let x = c.in-Ok.ensures.parts d stands in
    let same = parts_same rows schema c.args.ty c.args.def.now c.requires.known d os c.in-Ok.parts made x in
    let y = field_at rows _ c.args.def.now.fields x.0 os c.loop-i.i f c.field-part.result (c.in-Ok.ensures.fields c.args.def.now c.requires.known) same known (c.field-part.ensures.part rows c.args.ty.0 d x.0 x.1) in
    let fitting = all_at (ImplicitFits rows) c.args.def.now.fields c.loop-i.i f (c.recall.ensures.legible.fitting (base rows c.args.ty.0) (D.Struct c.args.def.now) c.requires.known) known in
    let p = err_from_is_err_and c.from_residual-in_err-add_field.result c.from_residual-in_err-add_field.ensures.1 in
    rw (p.1, p.2) (fielding_wants g.H.KeyHash.hash_of c.args.at.0 rows c.args.room c.args.reader.now.keep c.args.def.now.fields os c.loop-i.i c.loop-i.fields _ _ f known (c.loop-i.invariant.0 d os stands made fronts) _ y.held y.at c.in_ok-val.val
    (λ fits. c.in_ok-val.ensures.reads y.held fitting y.is fits))

pub read_struct-returns-clause-reads : goal.read_struct-returns-clause-reads
read_struct-returns-clause-reads g t c = λ d os stands made fronts.
    fielding_ends g.H.KeyHash.hash_of c.args.at.0 c.args.acc.now c.args.room c.args.reader.now.keep c.args.def.now.fields os c.loop-i.i c.loop-i.fields _ _ (W.Struct c.loop-i.fields) (struct_many c.args.def.now os d made) (omega (arith, ap length c.as_slice-field-items.ensures)) refl
    (c.loop-i.invariant.0 d os stands made fronts)

pub read_slot-returns-in_default-def-clause-reads : goal.read_slot-returns-in_default-def-clause-reads
read_slot-returns-in_default-def-clause-reads g t c = λ d stands shows.
    leaf_read g.H.KeyHash.hash_of c.args.at.0 c.args.acc.now c.args.room c.args.reader.now.keep c.args.slot d _ c.kept_leaf.result
    (c.kept_leaf.ensures.ok d c.args.room stands (record { some = sym (c.is_null_there.ensures c.args.acc.now d stands) ∙ c.if-is_null_there.false; shows = shows })) c.kept_leaf.ensures.err

pub read_slot-read_map-requires : goal.read_slot-read_map-requires
read_slot-read_map-requires g t c = λ κs le.
    let rows : List Row = c.args.acc.now in
    let own : TypeDef = D.Map c.in-Map.key c.in-Map.key_at c.in-Map.value c.in-Map.at c.in-Map.form in
    let is : form_of rows c.args.slot ≡ Some own = form_is rows c.args.slot c.base.result.0 c.def-def.result.now own c.base.ensures.same c.def-def.ensures.same c.in-Map.is in
    let around : c.levels.result ≡ map_levels c.in-Map.form = c.levels.ensures ∙ ap levels_around c.in-Map.is in
    let left : c.args.room ≡ c.in-Some.less + map_levels c.in-Map.form = omega (arith, c.in-Some.ensures, around) in
    let some : (d : Data) → StandsFor rows c.args.piece.now d → is_null_there c.args.slot d ≡ false = λ d stands. sym (c.is_null_there.ensures rows d stands) ∙ c.if-is_null_there.false in
    let typed = ∥∥₁_map c.requires.checked (λ x. (c.in-Map.key_at, c.in-Map.at, checked_typed rows c.args.room c.in-Some.less c.args.slot own c.args.piece.now is left some x)) in
    let plain = plain_piece rows c.args.slot own is refl c.args.piece.now c.requires.inlined in
    let key = key_low rows c.def-def.result.now c.in-Map.key c.in-Map.key_at c.in-Map.value c.in-Map.at c.in-Map.form c.in-Map.is c.def-def.ensures.within in
    let value = value_low rows c.def-def.result.now c.in-Map.key c.in-Map.key_at c.in-Map.value c.in-Map.at c.in-Map.form c.in-Map.is c.def-def.ensures.within in
    let delims = map_delims rows c.recall.ensures.legible c.base.result.0 c.in-Map.key c.in-Map.key_at c.in-Map.value c.in-Map.at c.in-Map.form (c.def-def.ensures.same ∙ ap Some c.in-Map.is) in
    let least = some_map_levels c.in-Map.form in
    (omega (arith, left, least), (le.0, (le.1, (key, (value, (c.requires.numbered, (delims, (omega (arith, left, c.requires.room), (plain, (typed, c.requires.sound))))))))))

pub read_struct-read_field-requires : goal.read_struct-read_field-requires
read_struct-read_field-requires g t c = λ κs le.
    let rows : List Row = c.args.acc.now in
    let schema : IsSchema rows = record { table = c.recall.ensures.table; accepted = c.recall.ensures.accepted } in
    let f : Field = c.field-item.result in
    let known : slice_get c.args.def.now.fields c.loop-i.i ≡ Some f = got c.as_slice-field-items.result.now c.args.def.now.fields c.loop-i.i f c.as_slice-field-items.ensures (omega arith) c.field-item.is in
    let front = ∥∥₁_map c.requires.typed (λ z.
    let own = struct_fields rows schema c.args.room c.args.piece.now c.args.def.now z in
    let x = c.in-Ok.ensures.parts z.tree z.stands in
    let same = parts_same rows schema c.args.ty c.args.def.now c.requires.known z.tree own.parts c.in-Ok.parts own.made x in
    let y = field_at rows _ c.args.def.now.fields x.0 own.parts c.loop-i.i f c.field-part.result (c.in-Ok.ensures.fields c.args.def.now c.requires.known) same known (c.field-part.ensures.part rows c.args.ty.0 z.tree x.0 x.1) in
    record {
      tree = y.held;
      is = y.is;
      front = fielding_front g.H.KeyHash.hash_of c.args.at.0 rows c.args.room c.args.reader.now.keep c.args.def.now.fields own.parts c.loop-i.i c.loop-i.fields _ _ f known y.held (c.loop-i.invariant.0 z.tree own.parts z.stands own.made own.fronts) y.at;
    }) in
    (omega arith, (le.0, (le.1, (field_low (length rows) c.args.def.now.fields c.loop-i.i f c.requires.parts.1 known, (c.field-part.ensures.numbered [], (c.requires.room, (front, c.loop-i.invariant.1)))))))

pub read_pairs-loop-key-init : goal.read_pairs-loop-key-init
read_pairs-loop-key-init g t c = (
  λ es entries fronts.
      subst (λ v. Pairing g.H.KeyHash.hash_of c.args.at.0 c.args.acc.now c.args.room c.args.reader.now.keep c.args.value es c.args.entries v (g.K.Store.moment c.args.store.now) (g.K.Store.moment c.args.store.now)) (sym c.new-kept.ensures)
      (pairing_begins g.H.KeyHash.hash_of c.args.at.0 c.args.acc.now c.args.room c.args.reader.now.keep c.args.value es c.args.entries (g.K.Store.moment c.args.store.now) fronts entries),
  c.requires.sound,
)

pub read_pairs-returns-in_err-val-clause-reads : goal.read_pairs-returns-in_err-val-clause-reads
read_pairs-returns-in_err-val-clause-reads g t c = λ es entries fronts.
    let p = err_from_is_err_and c.from_residual.result c.from_residual.ensures.1 in
    rw (p.1, p.2) (pairing_stops g.H.KeyHash.hash_of c.args.at.0 c.args.acc.now c.args.room c.args.reader.now.keep c.args.value es c.loop-key.left c.loop-key.kept _ _ _ (c.in-Some.key, c.in-Some.part, c.in-Some.behind)
    (c.loop-key.invariant.0 es entries fronts) c.in-Some.ensures.step c.in_err-val.field-0.0 (λ d s f. c.in_err-val.ensures.reads d s f))

pub read_pairs-returns-in_err-add_pair-clause-reads : goal.read_pairs-returns-in_err-add_pair-clause-reads
read_pairs-returns-in_err-add_pair-clause-reads g t c = λ es entries fronts.
    let p = err_from_is_err_and c.from_residual-in_err-add_pair.result c.from_residual-in_err-add_pair.ensures.1 in
    rw (p.1, p.2) (pairing_wants g.H.KeyHash.hash_of c.args.at.0 c.args.acc.now c.args.room c.args.reader.now.keep c.args.value es c.loop-key.left c.loop-key.kept _ _ _ (c.in-Some.key, c.in-Some.part, c.in-Some.behind)
    (c.loop-key.invariant.0 es entries fronts) c.in-Some.ensures.step c.in_ok-val.val (λ d s f. c.in_ok-val.ensures.reads d s f))

pub read_pairs-loop-key-preserved : goal.read_pairs-loop-key-preserved
read_pairs-loop-key-preserved g t c = (
  λ es entries fronts.
      pairing_goes g.H.KeyHash.hash_of c.args.at.0 c.args.acc.now c.args.room c.args.reader.now.keep c.args.value es c.loop-key.left c.loop-key.kept _ _ _ (c.in-Some.key, c.in-Some.part, c.in-Some.behind)
      (c.loop-key.invariant.0 es entries fronts) c.in-Some.ensures.step c.in_ok-val.val c.add_pair.new.pairs (λ d s f. c.in_ok-val.ensures.reads d s f) (λ k. c.in_ok-add_pair.ensures k),
  c.in_ok-val.ensures.sound,
)

pub read_pairs-returns-clause-reads : goal.read_pairs-returns-clause-reads
read_pairs-returns-clause-reads g t c = λ es entries fronts.
    pairing_ends g.H.KeyHash.hash_of c.args.at.0 c.args.acc.now c.args.room c.args.reader.now.keep c.args.value es c.loop-key.left c.loop-key.kept _ _ (W.Map c.loop-key.kept) refl
    (c.loop-key.invariant.0 es entries fronts) c.in_default.ensures.step

pub read_pairs-read_slot-requires : goal.read_pairs-read_slot-requires
read_pairs-read_slot-requires g t c = λ κs le.
    let rows : List Row = c.args.acc.now in
    let checked = ∥∥₁_map c.requires.fronts (λ y.
    pairing_front g.H.KeyHash.hash_of c.args.at.0 rows c.args.room c.args.reader.now.keep c.args.value y.entries c.loop-key.left c.loop-key.kept _ _ (c.in-Some.key, c.in-Some.part, c.in-Some.behind) (c.loop-key.invariant.0 y.entries y.are y.fronts) c.in-Some.ensures.step) in
    (omega arith, (le.0, (le.1, (c.requires.within, (plain_numbered rows c.in-Some.part c.in-Some.ensures.free, (free_inlined rows c.args.value c.in-Some.part c.in-Some.ensures.free, (c.requires.room, (checked, c.loop-key.invariant.1))))))))

pub read_map-returns-in-Some-clause-reads : goal.read_map-returns-in-Some-clause-reads
read_map-returns-in-Some-clause-reads g t c = λ s d key_at place whole stands is sum le front.
    let form : c.args.form.now ≡ MF.Hamt c.in-Some.shape = c.in-Some.ensures in
    c.read_hamt.ensures.reads s d key_at place whole stands (is ∙ ap (λ f. Some (D.Map c.args.key key_at c.args.value place f)) form) (sum ∙ ap (λ f. c.args.room + map_levels f) form) le front

pub read_map-returns-clause-reads : goal.read_map-returns-clause-reads
read_map-returns-clause-reads g t c = λ s d key_at place whole stands is sum le front.
    let rows : List Row = c.args.acc.now in
    let schema : IsSchema rows = record { table = c.recall.ensures.table; accepted = c.recall.ensures.accepted } in
    let plain : is_hamt c.args.form.now ≡ false = c.in_default.ensures in
    map_whole g.H.KeyHash.hash_of c.args.at.0 rows schema whole c.args.room c.args.reader.now.keep s d front _ _ c.read_pairs.result c.args.key key_at c.args.value place c.args.form.now plain is sum
    (λ es made fronts. c.read_pairs.ensures.reads es (left_there c.args.form.now plain es d c.in-Some-form_entries.entries made (c.in-Some-form_entries.ensures d es stands)) fronts)

pub read_map-unreachable-requires : goal.read_map-unreachable-requires
read_map-unreachable-requires g t c =
    let schema : IsSchema c.args.acc.now = record { table = c.recall.ensures.table; accepted = c.recall.ensures.accepted } in
    ∥∥₁_elim c.requires.typed (hlevel props) (λ x. has_entries c.args.acc.now schema c.args.room c.args.piece.now c.args.key x.0 c.args.value x.1 c.args.form.now c.in_default.ensures x.2 (λ d es stands shows. c.in-None.ensures d es stands shows))

pub read_map-read_hamt-requires : goal.read_map-read_hamt-requires
read_map-read_hamt-requires g t c = λ κs le.
    let rows : List Row = c.args.acc.now in
    let typed = ∥∥₁_map c.requires.typed (λ x. (x.0, x.1, subst (λ f. IsTyped rows c.args.room (D.Map c.args.key x.0 c.args.value x.1 f) c.args.piece.now) c.in-Some.ensures x.2)) in
    (omega arith, (le.0, (le.1, (c.requires.keyed, (c.requires.within, (c.requires.room, (c.requires.plain, (typed, c.requires.sound))))))))

pub read_map-read_pairs-requires : goal.read_map-read_pairs-requires
read_map-read_pairs-requires g t c = λ κs le.
    let schema : IsSchema c.args.acc.now = record { table = c.recall.ensures.table; accepted = c.recall.ensures.accepted } in
    let fronts = ∥∥₁_map c.requires.typed (λ x.
    map_entries c.args.acc.now schema c.args.room c.args.piece.now c.args.key x.0 c.args.value x.1 c.args.form.now c.in_default.ensures x.2 c.in-Some-form_entries.entries (λ d es stands shows. c.in-Some-form_entries.ensures d es stands shows)) in
    (omega arith, (le.0, (le.1, (c.requires.within, (c.requires.room, (fronts, c.requires.sound))))))

pub read_field-left_out-requires-clause-handed : goal.read_field-left_out-requires-clause-handed
read_field-left_out-requires-clause-handed g t c = ∥∥₁_map c.requires.front (λ x. record { rows = c.args.acc.now; tree = x.tree; is = x.is })

pub read_field-returns-in_default-clause-reads : goal.read_field-returns-in_default-clause-reads
read_field-returns-in_default-clause-reads g t c =
    c.left_out.ensures g.H.KeyHash.hash_of c.args.at.0 c.args.acc.now c.args.room c.args.reader.now.keep (g.K.Store.moment c.args.store.now) (record { table = c.recall.ensures.table; accepted = c.recall.ensures.accepted })

pub read_field-read_slot-requires : goal.read_field-read_slot-requires
read_field-read_slot-requires g t c = λ κs le.
    let rows : List Row = c.args.acc.now in
    let f : Field = c.args.field.now in
    let free = c.in-Some.ensures.free c.requires.plain in
    let checked = ∥∥₁_map c.requires.front (λ x.
    let y = c.in-Some.ensures.stands rows f x.tree x.is in
    field_checked rows c.args.room f.slot x.tree y.0 c.in-Some.piece y.1 y.2 x.front) in
    (omega arith, (le.0, (le.1, (c.requires.within, (plain_numbered rows c.in-Some.piece free, (free_inlined rows f.slot c.in-Some.piece free, (c.requires.room, (checked, c.requires.sound))))))))

pub read_field-returns-in_err-val-clause-reads : goal.read_field-returns-in_err-val-clause-reads
read_field-returns-in_err-val-clause-reads g t c = λ o implicit is fits.
    let x = c.in-Some.ensures.stands c.args.acc.now c.args.field.now o is in
    let p = err_from_is_err_and c.from_residual.result c.from_residual.ensures.1 in
    rw (p.1, p.2) (field_stops g.H.KeyHash.hash_of c.args.at.0 c.args.acc.now c.args.room c.args.field.now.slot o x.0 c.args.reader.now.keep _ _ c.in_err-val.field-0.0 x.1
    (c.in_err-val.ensures.reads x.0 x.2 (subst (FieldFits c.args.acc.now c.args.room c.args.field.now.slot) x.1 fits)))

pub read_field-returns-clause-reads : goal.read_field-returns-clause-reads
read_field-returns-clause-reads g t c = λ o implicit is fits.
    let x = c.in-Some.ensures.stands c.args.acc.now c.args.field.now o is in
    field_done g.H.KeyHash.hash_of c.args.at.0 c.args.acc.now c.args.room c.args.field.now.slot o x.0 c.args.reader.now.keep _ _ c.in_ok-val.val x.1
    (c.in_ok-val.ensures.reads x.0 x.2 (subst (FieldFits c.args.acc.now c.args.room c.args.field.now.slot) x.1 fits))

pub read_union-member_of-number-requires-clause-layered : goal.read_union-member_of-number-requires-clause-layered
read_union-member_of-number-requires-clause-layered g t c = ∥∥₁_map c.requires.typed (λ x. typed_layered c.args.acc.now c.args.room (D.Union c.args.def.now) c.args.piece.now x)

pub read_union-read_slot-requires : goal.read_union-read_slot-requires
read_union-read_slot-requires g t c = λ κs le.
    let rows : List Row = c.args.acc.now in
    let schema : IsSchema rows = record { table = c.recall.ensures.table; accepted = c.recall.ensures.accepted } in
    let r = c.member_of-number.result in
    let checked = ∥∥₁_map c.requires.typed (λ x.
    let y = union_member rows schema c.args.room c.args.piece.now c.args.def.now x in
    let z = c.member_of-number.ensures.same x.tree y.number y.member y.tree x.stands y.there y.made in
    member_checked rows c.args.room (plainly y.member.ty) r.1 y.tree r.2 z.slot z.stands y.front) in
    (omega arith, (le.0, (le.1, (c.member_of-number.ensures.within, (c.member_of-number.ensures.numbered, (c.member_of-number.ensures.inlined, (c.requires.room, (checked, c.requires.sound))))))))

pub read_union-returns-in_err-val-clause-reads : goal.read_union-returns-in_err-val-clause-reads
read_union-returns-in_err-val-clause-reads g t c = λ d n m tree stands there made inside.
    let x = c.member_of-number.ensures.same d n m tree stands there made in
    let p = err_from_is_err_and c.from_residual.result c.from_residual.ensures.1 in
    rw (p.1, p.2) (member_stops g.H.KeyHash.hash_of c.args.at.0 c.args.acc.now c.args.room c.args.reader.now.keep (plainly m.ty) c.member_of-number.result.1 tree x.slot n _ _ c.in_err-val.field-0.0 (c.in_err-val.ensures.reads tree x.stands) inside)

pub read_union-returns-clause-reads : goal.read_union-returns-clause-reads
read_union-returns-clause-reads g t c = λ d n m tree stands there made inside.
    let x = c.member_of-number.ensures.same d n m tree stands there made in
    member_read g.H.KeyHash.hash_of c.args.at.0 c.args.acc.now c.args.room c.args.reader.now.keep (plainly m.ty) c.member_of-number.result.1 tree x.slot n c.member_of-number.result.0 x.number _ _ c.in_ok-val.val (c.in_ok-val.ensures.reads tree x.stands) inside c.union_with.result c.union_with.ensures.ok c.union_with.ensures.err

-- ---- nodes

pub pass_rows-pass_slots-requires : goal.pass_rows-pass_slots-requires
pass_rows-pass_slots-requires g t c = λ κs le.
    let few = levels_few c.args.shape in
    let some = levels_some c.args.shape in
    (omega (arith, few), (le.0, (le.1, (c.requires.keyed, (c.requires.within, (c.requires.room, (omega (arith, some), c.requires.sound)))))))

pub nodes::pass_slots-loop-i-init : goal.nodes::pass_slots-loop-i-init
nodes::pass_slots-loop-i-init g t c = (
  λ p slots has. c.slots-slots.ensures p slots has,
  λ slots has.
      passing_begins (λ held. SlotOwned g.H.KeyHash.hash_of c.args.read_as.shape c.args.acc.now c.args.read_as.room c.args.read_as.key c.args.read_as.value held c.args.way.now)
      (λ held. SlotGiven g.H.KeyHash.hash_of c.args.read_as.shape c.args.acc.now c.args.read_as.room c.args.read_as.key c.args.read_as.value held c.args.way.now) slots (g.K.Store.moment c.args.store.now),
  c.requires.sound,
)

pub nodes::pass_slots-overflow_cast-i : goal.nodes::pass_slots-overflow_cast-i
nodes::pass_slots-overflow_cast-i g t c = omega (arith, pow_few c.shape.result)

pub nodes::pass_slots-unreachable-requires : goal.nodes::pass_slots-unreachable-requires
nodes::pass_slots-unreachable-requires g t c =
    ∥∥₁_elim (some-node c.args.view) (hlevel props) (λ n.
    let p = view_shape c.args.view in
    let past = c.in_default.ensures.steps p c.args.view n.slots c.loop-i.i n.has (c.loop-i.invariant.0 p n.slots n.has) in
    let many = n.has.form.many in
    let own = ap (λ (q : HamtShape). 2 ^ q.width) c.shape.ensures in
    absurd (omega (arith, past, many, own)))

pub nodes::pass_slots-pass_at-requires : goal.nodes::pass_slots-pass_at-requires
nodes::pass_slots-pass_at-requires g t c = λ κs le.
    let p = view_shape c.args.view in
    let known = ∥∥₁_map (some-node c.args.view) (λ n.
    some-hold c.args.view n.slots c.loop-i.i c.in-Some.slot (c.in-Some.ensures.steps p c.args.view n.slots c.loop-i.i n.has (c.loop-i.invariant.0 p n.slots n.has)).1) in
    (omega arith, (le.0, (le.1, (c.requires.keyed, (c.requires.within, (c.requires.room, (c.requires.short, (known, c.loop-i.invariant.2))))))))

pub nodes::pass_slots-returns-in_err-pass_at-clause-passes : goal.nodes::pass_slots-returns-in_err-pass_at-clause-passes
nodes::pass_slots-returns-in_err-pass_at-clause-passes g t c = λ slots has.
    let step = c.in-Some.ensures.steps c.args.read_as.shape c.args.view slots c.loop-i.i has (c.loop-i.invariant.0 c.args.read_as.shape slots has) in
    let s = there_at slots c.loop-i.i step.0 in
    let holds = subst (SlotHolds c.args.view slots c.loop-i.i c.in-Some.slot) (found_at slots c.loop-i.i s.0 empty s.1) step.1 in
    let p = err_from_is_err_and c.from_residual.result c.from_residual.ensures.1 in
    rw (p.1, p.2) (passing_stops (λ held. SlotOwned g.H.KeyHash.hash_of c.args.read_as.shape c.args.acc.now c.args.read_as.room c.args.read_as.key c.args.read_as.value held c.args.way.now)
    (λ held. SlotGiven g.H.KeyHash.hash_of c.args.read_as.shape c.args.acc.now c.args.read_as.room c.args.read_as.key c.args.read_as.value held c.args.way.now) slots
    (BrokenIn g.H.KeyHash.hash_of c.args.read_as.shape c.args.acc.now c.args.read_as.room c.args.read_as.key c.args.read_as.value c.args.way.now c.args.at.0 slots) c.loop-i.i _ _ (c.loop-i.invariant.1 slots has) s.0 s.1 _ c.in_err-pass_at.field-0.0
    (in_earlier g.H.KeyHash.hash_of c.args.read_as.shape c.args.acc.now c.args.read_as.room c.args.read_as.key c.args.read_as.value c.args.way.now c.args.at.0 slots _ _ _ (c.loop-i.invariant.1 slots has).only) (c.in_err-pass_at.ensures.passes c.args.view slots s.0 s.1 holds))

pub nodes::pass_slots-loop-i-preserved : goal.nodes::pass_slots-loop-i-preserved
nodes::pass_slots-loop-i-preserved g t c = (
  λ p slots has. (c.in-Some.ensures.steps p c.args.view slots c.loop-i.i has (c.loop-i.invariant.0 p slots has)).2,
  λ slots has.
      let step = c.in-Some.ensures.steps c.args.read_as.shape c.args.view slots c.loop-i.i has (c.loop-i.invariant.0 c.args.read_as.shape slots has) in
      let s = there_at slots c.loop-i.i step.0 in
      let holds = subst (SlotHolds c.args.view slots c.loop-i.i c.in-Some.slot) (found_at slots c.loop-i.i s.0 empty s.1) step.1 in
      passing_goes (λ held. SlotOwned g.H.KeyHash.hash_of c.args.read_as.shape c.args.acc.now c.args.read_as.room c.args.read_as.key c.args.read_as.value held c.args.way.now)
      (λ held. SlotGiven g.H.KeyHash.hash_of c.args.read_as.shape c.args.acc.now c.args.read_as.room c.args.read_as.key c.args.read_as.value held c.args.way.now) slots
      (BrokenIn g.H.KeyHash.hash_of c.args.read_as.shape c.args.acc.now c.args.read_as.room c.args.read_as.key c.args.read_as.value c.args.way.now c.args.at.0 slots) c.loop-i.i _ _ (c.loop-i.invariant.1 slots has) s.0 s.1 _
      (c.in_ok-pass_at.ensures.passes c.args.view slots s.0 s.1 holds),
  c.in_ok-pass_at.ensures.sound,
)

pub nodes::pass_slots-returns-clause-passes : goal.nodes::pass_slots-returns-clause-passes
nodes::pass_slots-returns-clause-passes g t c = λ slots has.
    let many = has.form.many in
    let own = ap (λ (q : HamtShape). 2 ^ q.width) (c.shape.ensures ∙ has.shape) in
    passing_ends (λ held. SlotOwned g.H.KeyHash.hash_of c.args.read_as.shape c.args.acc.now c.args.read_as.room c.args.read_as.key c.args.read_as.value held c.args.way.now)
    (λ held. SlotGiven g.H.KeyHash.hash_of c.args.read_as.shape c.args.acc.now c.args.read_as.room c.args.read_as.key c.args.read_as.value held c.args.way.now) slots
    (BrokenIn g.H.KeyHash.hash_of c.args.read_as.shape c.args.acc.now c.args.read_as.room c.args.read_as.key c.args.read_as.value c.args.way.now c.args.at.0 slots) c.loop-i.i _ _ (c.loop-i.invariant.1 slots has) (omega (arith, many, own))

pub nodes::pass_at-returns-in-Empty-clause-passes : goal.nodes::pass_at-returns-in-Empty-clause-passes
nodes::pass_at-returns-in-Empty-clause-passes g t c = λ v slots s there holds.
    at_empty g.H.KeyHash.hash_of c.args.read_as.shape c.args.acc.now c.args.read_as.room c.args.read_as.key c.args.read_as.value c.args.way.now c.args.at.0 slots c.args.i v s _ (subst (λ r. SlotHolds v slots c.args.i r s) c.in-Empty.is holds)

pub nodes::pass_at-returns-in-Bucket-clause-passes : goal.nodes::pass_at-returns-in-Bucket-clause-passes
nodes::pass_at-returns-in-Bucket-clause-passes g t c = λ v slots s there holds.
    at_bucket g.H.KeyHash.hash_of c.args.read_as.shape c.args.acc.now c.args.read_as.room c.args.read_as.key c.args.read_as.value c.args.way.now c.args.at.0 slots c.args.i v c.in-Bucket.entries s _ _ c.pass_bucket.result there
    (subst (λ r. SlotHolds v slots c.args.i r s) c.in-Bucket.is holds) (λ es own has. c.pass_bucket.ensures.passes slots es own has)

pub nodes::pass_at-returns-in-Child-clause-passes : goal.nodes::pass_at-returns-in-Child-clause-passes
nodes::pass_at-returns-in-Child-clause-passes g t c = λ v slots s there holds.
    at_child g.H.KeyHash.hash_of c.args.read_as.shape c.args.acc.now c.args.read_as.room c.args.read_as.key c.args.read_as.value c.args.way.now c.args.at.0 slots c.args.i v c.in-Child.id s _ _ c.pass_child.result there
    (subst (λ r. SlotHolds v slots c.args.i r s) c.in-Child.is holds) (λ own. c.pass_child.ensures.passes slots own)

pub nodes::pass_at-pass_bucket-requires : goal.nodes::pass_at-pass_bucket-requires
nodes::pass_at-pass_bucket-requires g t c = λ κs le.
    let known = subst (λ (r : NodeSlot). ∥ SomeHold r ∥₁) c.in-Bucket.is c.requires.known in
    (omega arith, (le.0, (le.1, (c.requires.keyed, (c.requires.within, (c.requires.room, (c.requires.short, (known, c.requires.sound))))))))

pub nodes::pass_at-pass_child-requires : goal.nodes::pass_at-pass_child-requires
nodes::pass_at-pass_child-requires g t c = λ κs le. (omega arith, (le.0, (le.1, (c.requires.keyed, (c.requires.within, (c.requires.room, (c.requires.short, c.requires.sound)))))))

pub nodes::pass_child-returns-then-not-has_level-clause-passes : goal.nodes::pass_child-returns-then-not-has_level-clause-passes
nodes::pass_child-returns-then-not-has_level-clause-passes g t c = λ slots there.
    rw c.no_trie.ensures (child_deep g.H.KeyHash.hash_of c.args.read_as.shape c.args.acc.now c.args.read_as.room c.args.read_as.key c.args.read_as.value c.args.way.now c.args.at.0 slots c.args.i c.args.id.0 there _ c.args.at refl
    (let deep = c.has_level.ensures.no c.if-not-has_level.true in omega (arith, deep)))

pub nodes::pass_child-returns-in_err-own-clause-passes : goal.nodes::pass_child-returns-in_err-own-clause-passes
nodes::pass_child-returns-in_err-own-clause-passes g t c = λ slots there.
    let p = err_from_is_err_and c.from_residual.result c.from_residual.ensures.1 in
    rw (p.1, p.2) (passes_wants _ _ _ _ _ (only_refl _) (λ held cost told gives. omega arith))

pub nodes::pass_child-pass_node-requires : goal.nodes::pass_child-pass_node-requires
nodes::pass_child-pass_node-requires g t c = λ κs le.
    let long = ap length (c.as_slice.ensures.value ∙ c.in_ok-own.ensures) ∙ length-append c.args.way.now (c.args.i ∷ []) in
    let deep = c.has_level.ensures.yes c.if-not-has_level.false in
    (omega (arith, long, deep), (le.0, (le.1, (c.requires.keyed, (c.requires.within, (c.requires.room, (omega (arith, long, deep), c.requires.sound)))))))

pub nodes::pass_child-returns-clause-passes : goal.nodes::pass_child-returns-clause-passes
nodes::pass_child-returns-clause-passes g t c = λ slots there.
    child_passes g.H.KeyHash.hash_of c.args.read_as.shape c.args.acc.now c.args.read_as.room c.args.read_as.key c.args.read_as.value c.args.way.now c.args.at.0 slots c.args.i c.args.id.0 there _ _ c.pass_node.result
    (c.pass_node.ensures.passes c.args.way.now c.args.i (c.as_slice.ensures.value ∙ c.in_ok-own.ensures))

pub nodes::pass_node-returns-then-has_node-clause-passes : goal.nodes::pass_node-returns-then-has_node-clause-passes
nodes::pass_node-returns-then-has_node-clause-passes g t c =
    node_known g.H.KeyHash.hash_of c.args.acc.now c.args.read_as c.args.id.0 c.args.way.now c.requires.short _
    (node_passed g.H.KeyHash.hash_of c.args.acc.now c.args.read_as c.args.id.0 c.args.way.now c.args.known.now _ c.requires.sound (c.has_node.ensures c.if-has_node.true))

pub nodes::pass_node-returns-in_err-block-clause-passes : goal.nodes::pass_node-returns-in_err-block-clause-passes
nodes::pass_node-returns-in_err-block-clause-passes g t c = λ above i is.
    let p = err_from_is_err_and c.from_residual.result c.from_residual.ensures.1 in
    rw (p.1, p.2) (node_missing g.H.KeyHash.hash_of c.args.acc.now c.args.read_as c.args.id.0 c.args.way.now c.requires.short _ _ c.in_err-block.field-0.0 c.in_err-block.ensures above i is)

pub nodes::pass_node-returns-in_err-block-clause-sound : goal.nodes::pass_node-returns-in_err-block-clause-sound
nodes::pass_node-returns-in_err-block-clause-sound g t c = known_still g.H.KeyHash.hash_of c.args.acc.now _ _ c.args.known.now (gets_only _ _ c.args.id.0 c.block_of.result c.block_of.ensures) c.requires.sound

pub nodes::pass_node-returns-in-Err-clause-passes : goal.nodes::pass_node-returns-in-Err-clause-passes
nodes::pass_node-returns-in-Err-clause-passes g t c = λ above i is.
    node_faulty g.H.KeyHash.hash_of c.args.acc.now c.args.read_as c.args.id.0 c.args.way.now c.requires.short _ _ c.in_ok-block.block c.in_ok-block.ensures c.in-Err.why c.args.id refl
    (subst (λ b. ReadsNode c.args.read_as.shape b (Err c.in-Err.why)) c.as_slice.ensures.same c.in-Err.ensures) above i is

pub nodes::pass_node-returns-in-Err-clause-sound : goal.nodes::pass_node-returns-in-Err-clause-sound
nodes::pass_node-returns-in-Err-clause-sound g t c = known_still g.H.KeyHash.hash_of c.args.acc.now _ _ c.args.known.now (gets_only _ _ c.args.id.0 c.block_of.result c.block_of.ensures) c.requires.sound

pub nodes::pass_node-pass_slots-requires : goal.nodes::pass_node-pass_slots-requires
nodes::pass_node-pass_slots-requires g t c = λ κs le.
    let sound = known_still g.H.KeyHash.hash_of c.args.acc.now _ _ c.args.known.now (gets_only _ _ c.args.id.0 c.block_of.result c.block_of.ensures) c.requires.sound in
    (omega arith, (le.0, (le.1, (c.requires.keyed, (c.requires.within, (c.requires.room, (c.requires.short, sound)))))))

pub nodes::pass_node-returns-in_err-pass_slots-clause-passes : goal.nodes::pass_node-returns-in_err-pass_slots-clause-passes
nodes::pass_node-returns-in_err-pass_slots-clause-passes g t c = λ above i is.
    let p = err_from_is_err_and c.from_residual-in_err-pass_slots.result c.from_residual-in_err-pass_slots.ensures.1 in
    rw (p.1, p.2) (node_stops g.H.KeyHash.hash_of c.args.acc.now c.args.read_as c.args.id.0 c.args.way.now c.requires.short _ _ c.in_ok-block.block c.in_ok-block.ensures c.in-Ok.view
    (subst (λ b. IsNodeView c.args.read_as.shape b c.in-Ok.view) c.as_slice.ensures.same c.in-Ok.ensures) _ c.in_err-pass_slots.field-0.0 (λ slots has. c.in_err-pass_slots.ensures.passes slots has) above i is)

pub nodes::pass_node-returns-clause-passes : goal.nodes::pass_node-returns-clause-passes
nodes::pass_node-returns-clause-passes g t c =
    node_done g.H.KeyHash.hash_of c.args.acc.now c.args.read_as c.args.id.0 c.args.way.now c.requires.short _ _ c.in_ok-block.block c.in_ok-block.ensures c.in-Ok.view
    (subst (λ b. IsNodeView c.args.read_as.shape b c.in-Ok.view) c.as_slice.ensures.same c.in-Ok.ensures) c.as_slice.ensures.bytes _ (λ slots has. c.in_ok-pass_slots.ensures.passes slots has)

pub nodes::pass_node-returns-clause-sound : goal.nodes::pass_node-returns-clause-sound
nodes::pass_node-returns-clause-sound g t c =
    node_remembered g.H.KeyHash.hash_of c.args.acc.now c.args.read_as c.args.id.0 c.args.way.now _ c.pass_slots.new.known c.add_node.new.self c.in_ok-pass_slots.ensures.sound c.add_node.ensures.added c.add_node.ensures.roots
    (λ above i is.
    (node_done g.H.KeyHash.hash_of c.args.acc.now c.args.read_as c.args.id.0 c.args.way.now c.requires.short _ _ c.in_ok-block.block c.in_ok-block.ensures c.in-Ok.view
    (subst (λ b. IsNodeView c.args.read_as.shape b c.in-Ok.view) c.as_slice.ensures.same c.in-Ok.ensures) c.as_slice.ensures.bytes _ (λ slots has. c.in_ok-pass_slots.ensures.passes slots has) above i is).answer)

pub nodes::pass_bucket-loop-j-init : goal.nodes::pass_bucket-loop-j-init
nodes::pass_bucket-loop-j-init g t c = (
  λ slots es there has.
      passing_begins (Owned g.H.KeyHash.hash_of c.args.read_as.shape c.args.acc.now c.args.read_as.room c.args.read_as.key c.args.read_as.value c.args.way.now c.args.at.0 slots c.args.i es)
      (Given g.H.KeyHash.hash_of c.args.read_as.shape c.args.acc.now c.args.read_as.room c.args.read_as.key c.args.read_as.value c.args.way.now c.args.at.0 slots c.args.i es) es (g.K.Store.moment c.args.store.now),
  c.requires.sound,
)

pub nodes::pass_bucket-unreachable-requires : goal.nodes::pass_bucket-unreachable-requires
nodes::pass_bucket-unreachable-requires g t c =
    ∥∥₁_elim c.requires.known (hlevel props) (λ b.
    let many = c.len-j-end.ensures b.es b.has in
    let e = there_at b.es c.loop-j.j (omega (arith, many)) in
    subst (λ (o : Option (List ℕ × Data)). EntryIs c.args.entries b.es c.loop-j.j o None) e.1 (c.in_default.ensures b.es b.has))

pub nodes::pass_bucket-pass_entry-requires : goal.nodes::pass_bucket-pass_entry-requires
nodes::pass_bucket-pass_entry-requires g t c = λ κs le. (omega arith, (le.0, (le.1, (c.requires.keyed, (c.requires.within, (c.requires.room, (c.requires.short, c.loop-j.invariant.1)))))))

pub nodes::pass_bucket-returns-in_err-pass_entry-clause-passes : goal.nodes::pass_bucket-returns-in_err-pass_entry-clause-passes
nodes::pass_bucket-returns-in_err-pass_entry-clause-passes g t c = λ slots es there has.
    let x = c.loop-j.invariant.0 slots es there has in
    let e = reads_entry c.args.entries es c.loop-j.j (c.in-Some.key, c.in-Some.item) has (c.in-Some.ensures es has) in
    let p = err_from_is_err_and c.from_residual.result c.from_residual.ensures.1 in
    rw (p.1, p.2) (bucket_passes g.H.KeyHash.hash_of c.args.read_as.shape c.args.acc.now c.args.read_as.room c.args.read_as.key c.args.read_as.value c.args.way.now c.args.at.0 slots c.args.i es _ _ _
    (passing_stops (Owned g.H.KeyHash.hash_of c.args.read_as.shape c.args.acc.now c.args.read_as.room c.args.read_as.key c.args.read_as.value c.args.way.now c.args.at.0 slots c.args.i es)
    (Given g.H.KeyHash.hash_of c.args.read_as.shape c.args.acc.now c.args.read_as.room c.args.read_as.key c.args.read_as.value c.args.way.now c.args.at.0 slots c.args.i es) es
    (BrokenIn g.H.KeyHash.hash_of c.args.read_as.shape c.args.acc.now c.args.read_as.room c.args.read_as.key c.args.read_as.value c.args.way.now c.args.at.0 slots) c.loop-j.j _ _ x e.entry e.is _ c.in_err-pass_entry.field-0.0
    (in_earlier g.H.KeyHash.hash_of c.args.read_as.shape c.args.acc.now c.args.read_as.room c.args.read_as.key c.args.read_as.value c.args.way.now c.args.at.0 slots _ _ _ x.only)
    (c.in_err-pass_entry.ensures.passes slots es c.loop-j.j e.entry there e.is e.key e.text e.stands)))

pub nodes::pass_bucket-loop-j-preserved : goal.nodes::pass_bucket-loop-j-preserved
nodes::pass_bucket-loop-j-preserved g t c = (
  λ slots es there has.
      let x = c.loop-j.invariant.0 slots es there has in
      let e = reads_entry c.args.entries es c.loop-j.j (c.in-Some.key, c.in-Some.item) has (c.in-Some.ensures es has) in
      passing_goes (Owned g.H.KeyHash.hash_of c.args.read_as.shape c.args.acc.now c.args.read_as.room c.args.read_as.key c.args.read_as.value c.args.way.now c.args.at.0 slots c.args.i es)
      (Given g.H.KeyHash.hash_of c.args.read_as.shape c.args.acc.now c.args.read_as.room c.args.read_as.key c.args.read_as.value c.args.way.now c.args.at.0 slots c.args.i es) es
      (BrokenIn g.H.KeyHash.hash_of c.args.read_as.shape c.args.acc.now c.args.read_as.room c.args.read_as.key c.args.read_as.value c.args.way.now c.args.at.0 slots) c.loop-j.j _ _ x e.entry e.is _
      (c.in_ok-pass_entry.ensures.passes slots es c.loop-j.j e.entry there e.is e.key e.text e.stands),
  c.in_ok-pass_entry.ensures.sound,
)

pub nodes::pass_bucket-returns-clause-passes : goal.nodes::pass_bucket-returns-clause-passes
nodes::pass_bucket-returns-clause-passes g t c = λ slots es there has.
    let many = c.len-j-end.ensures es has in
    bucket_passes g.H.KeyHash.hash_of c.args.read_as.shape c.args.acc.now c.args.read_as.room c.args.read_as.key c.args.read_as.value c.args.way.now c.args.at.0 slots c.args.i es _ _ _
    (passing_ends (Owned g.H.KeyHash.hash_of c.args.read_as.shape c.args.acc.now c.args.read_as.room c.args.read_as.key c.args.read_as.value c.args.way.now c.args.at.0 slots c.args.i es)
    (Given g.H.KeyHash.hash_of c.args.read_as.shape c.args.acc.now c.args.read_as.room c.args.read_as.key c.args.read_as.value c.args.way.now c.args.at.0 slots c.args.i es) es
    (BrokenIn g.H.KeyHash.hash_of c.args.read_as.shape c.args.acc.now c.args.read_as.room c.args.read_as.key c.args.read_as.value c.args.way.now c.args.at.0 slots) c.loop-j.j _ _ (c.loop-j.invariant.0 slots es there has) (omega (arith, many)))

pub nodes::pass_entry-returns-then-not-fits-clause-passes : goal.nodes::pass_entry-returns-then-not-fits-clause-passes
nodes::pass_entry-returns-then-not-fits-clause-passes g t c = λ slots es j e there here same text stands.
    rw c.no_trie.ensures (entry_strays g.H.KeyHash.hash_of c.args.read_as.shape c.args.acc.now c.args.read_as.room c.args.read_as.key c.args.read_as.value c.args.way.now c.args.at.0 slots c.args.i es j e there here _ c.args.at c.args.key.now refl same
    (sym c.fits.ensures ∙ c.if-not-fits.true))

pub nodes::pass_entry-returns-in_err-entry_fits-clause-passes : goal.nodes::pass_entry-returns-in_err-entry_fits-clause-passes
nodes::pass_entry-returns-in_err-entry_fits-clause-passes g t c = λ slots es j e there here same text stands.
    let schema : IsSchema c.args.acc.now = record { table = c.recall.ensures.table; accepted = c.recall.ensures.accepted } in
    let p = err_from_is_err_and c.from_residual.result c.from_residual.ensures.1 in
    rw (p.1, p.2) (entry_refused g.H.KeyHash.hash_of c.args.read_as.shape c.args.acc.now c.args.read_as.room c.args.read_as.key c.args.read_as.value c.args.way.now c.args.at.0 slots c.args.i es j e there here schema c.recall.ensures.legible _ c.args.at c.args.key.now
    c.in_err-entry_fits.field-0.0 refl same (c.in_err-entry_fits.ensures e.1 stands))

pub nodes::pass_entry-read_slot-requires : goal.nodes::pass_entry-read_slot-requires
nodes::pass_entry-read_slot-requires g t c = λ κs le.
    let checked = ∥∥₁_map c.args.item.stands (λ some. record { tree = some.of; stands = some.spells; front = (c.in_ok-entry_fits.ensures some.of some.spells).value }) in
    (omega (arith, c.requires.1.1.1.1.1.1.1.0), (le.0, (le.1, (c.requires.1.1.1.1.1.0, (tt, (λ no. absurd cc, (c.requires.1.1.1.1.1.1.0, (checked, c.requires.1.1.1.1.1.1.1.1))))))))

pub nodes::pass_entry-returns-in_err-read_slot-clause-passes : goal.nodes::pass_entry-returns-in_err-read_slot-clause-passes
nodes::pass_entry-returns-in_err-read_slot-clause-passes g t c = λ slots es j e there here same text stands.
    let shows = c.in_ok-entry_fits.ensures e.1 stands in
    let p = err_from_is_err_and c.from_residual-in_err-read_slot.result c.from_residual-in_err-read_slot.ensures.1 in
    rw (p.1, p.2) (entry_stops g.H.KeyHash.hash_of c.args.read_as.shape c.args.acc.now c.args.read_as.room c.args.read_as.key c.args.read_as.value c.args.way.now c.args.at.0 slots c.args.i es j e there here c.args.reader.now.keep _ _ c.in_err-read_slot.field-0.0
    (c.in_err-read_slot.ensures.reads e.1 stands shows.value))

pub nodes::pass_entry-returns-clause-passes : goal.nodes::pass_entry-returns-clause-passes
nodes::pass_entry-returns-clause-passes g t c = λ slots es j e there here same text stands.
    let shows = c.in_ok-entry_fits.ensures e.1 stands in
    entry_read g.H.KeyHash.hash_of c.args.read_as.shape c.args.acc.now c.args.read_as.room c.args.read_as.key c.args.read_as.value c.args.way.now c.args.at.0 slots c.args.i es j e there here c.args.reader.now.keep _ _ c.args.key.now c.args.at c.in_ok-read_slot.field-0 same text
    (sym c.fits.ensures ∙ c.if-not-fits.false) shows (c.in_ok-read_slot.ensures.reads e.1 stands shows.value)
