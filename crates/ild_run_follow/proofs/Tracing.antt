-- A trail through a HAMT, and the value at its end.
use Rattle.std.proofs.Common.{◌≡◌, ℕ, List, Option, Some, None, Result, Ok, Err, refl, sym, ap, ◌∙◌, subst}
use Rattle.std.proofs.lemmas.Option.{none-some, same_Some}
use Rattle.ild_cbor.specs.declared.node.Node.{Node}
use Rattle.ild_cbor.specs.declared.why.BlockWhy.{BlockWhy}
use Rattle.ild_cbor.specs.declared.why.BlockWhy.TheVariants as B
use Rattle.ild_cbor.specs.declared.why.Why.{Why}
use Rattle.ild_data.specs.Data.{Data}
use Rattle.ild_data.specs.Spell.{id_of}
use Rattle.ild_data.specs.Trie.{TrieSlot}
use Rattle.ild_data.specs.declared.id.BlockId.{BlockId}
use Rattle.ild_edges.specs.Store.{Moment}
use Rattle.ild_hamt.specs.Descending.{DescendAnswer, Descends, TrailIs}
use Rattle.ild_hamt.specs.declared.trail.Trail.{Trail}
use Rattle.ild_schema.specs.Slots.{form_of}
use Rattle.ild_schema.specs.Value as V
use Rattle.ild_schema.specs.declared.def.TypeDef.{TypeDef}
use Rattle.ild_schema.specs.declared.number.Slot.{Slot}
use Rattle.ild_schema.specs.declared.number.TypeNo.{TypeNo}
use Rattle.ild_schema.specs.declared.row.Row.{Row}
use Rattle.ild_node_slots.specs.declared.fault.HamtFault.{HamtFault}
use Rattle.ild_node_slots.specs.declared.fault.HamtFault.TheVariants as H
use Rattle.ild_data.specs.declared.hamt_shape.HamtShape.{HamtShape}
use Rattle.ild_typed.proofs.FormOf.{hamt_form}
use Rattle.ild_typed.proofs.OneLayer.{in_layer}
use Rattle.ild_typed.specs.Fits.{Fits}
use Rattle.ild_typed.specs.Layer as Y
use Rattle.ild_typed.specs.Layers.{RepresentsSome}
use Rattle.ild_typed.specs.OfType.{OfType}
use Rattle.ild_typed.specs.Schema.{IsSchema}
use Rattle.ild_typed.specs.WhyLaws.{RefusedHaveNoFront}
use Rattle.ild_view.specs.View.{IsView, Views, slot_of, table_of}
use Rattle.ild_view.specs.declared.view.View.{View}
use Rattle.ild_view_walk.specs.Checks.{IsRefusal}
use Rattle.ild_path_room.specs.ValueSlot.{IsValueSlot, value_in}
use Rattle.ild_run_follow.specs.inside.Enters.{ChecksEntry, EnterAnswer, EntersTrie, RefusesEntry}
use Rattle.ild_run_follow.specs.inside.Faults.{entered_as}
use Rattle.ild_run_follow.specs.Tells.{FailsOnly}
use Rattle.ild_run_follow.specs.declared.fault.ReadFault.TheVariants as F
use Rattle.ild_view.proofs.Opening.{safe_is}

module _ (h : List ℕ → List ℕ) (p : HamtShape) (k : List ℕ) (slots : List TrieSlot) (m n : Moment) where
  enter_answer : (es : List (List ℕ × Data)) (r : Result Trail HamtFault) (bs : List (List ℕ)) (last : List TrieSlot) → DescendAnswer h p k m bs last r n → TrailIs h p k slots es r → EnterAnswer h p k slots es m (entered_as r) n
  enter_answer es (Ok t) bs last a is = is
  enter_answer es (Err (H.Block id why)) bs last a is = absurd is
  enter_answer es (Err H.Store) bs last a is = a
  enter_answer es (Err H.Memory) bs last a is = tt
  enter_answer es (Err e) bs last a is = absurd is

  enter_failed : (r : Result Trail HamtFault) (bs : List (List ℕ)) (last : List TrieSlot) → DescendAnswer h p k m bs last r n → FailsOnly m (entered_as r) n
  enter_failed (Ok t) bs last a = tt
  enter_failed (Err (H.Block id why)) bs last a = tt
  enter_failed (Err H.Store) bs last a = a
  enter_failed (Err H.Memory) bs last a = tt
  enter_failed (Err e) bs last a = absurd a

  pub enters : (r : Result Trail HamtFault) → Descends h p k slots m r n → EntersTrie h p k slots m (entered_as r) n
  enters r d = record {
    answer = λ es t. enter_answer es r d.bs d.last d.answer (d.trie es t.held t.root t.told t.holds).trail;
    gets = λ es t. (d.trie es t.held t.root t.told t.holds).gets;
    only = record { later = d.reads.later; blocks = d.reads.blocks; given = d.reads.given; puts = d.reads.puts };
    failed = enter_failed r d.bs d.last d.answer;
  }

module _ (rows : List Row) (room : ℕ) (schema : IsSchema rows) (never : RefusedHaveNoFront) (d : Option TypeDef) (node : Node) (slot : Slot) (is : IsValueSlot rows d (Some slot)) (t : Data) where
  pub checks_view : (view : View) → Views rows room slot node t (Ok view) → ChecksEntry rows room d node t (Ok view)
  checks_view view v = (slot, is.0, v.0, (v.1.0, v.1.1.fits, v.1.1.tree))

  pub checks_refused : (id : BlockId) (w : BlockWhy) (ty : TypeNo) (why : Why) → IsRefusal rows room slot t ty why → ChecksEntry rows room d node t (Err (F.Block id w))
  checks_refused id w ty why v = λ s e shows.
      let same : s ≡ slot = same_Some s slot (sym e ∙ is.0) in
      let f : RepresentsSome (Fits rows room) rows slot t = subst (λ (u : Slot). RepresentsSome (Fits rows room) rows u t) same shows in
      never rows schema room slot (safe_is rows slot is.2) t v.refusal v.refused f.0 (record { fits = f.1; tree = f.2 })

-- what is refused of an entry
pub refuses_entry : (rows : List Row) (room : ℕ) (d : Option TypeDef) (slot : Slot) (is : IsValueSlot rows d (Some slot)) (block : List ℕ) (t : Data) (id : BlockId) (why : Why) (ty : TypeNo) → id.0 ≡ id_of block → IsRefusal rows room slot t ty why
    → RefusesEntry rows room d block t (Err (F.Block id (B.Shape why)))
refuses_entry rows room d slot is block t id why ty named refused = record { named = named; slot = slot; is = is.0; cause = why; told = refl; type = ty; refused = refused }

-- the type of a HAMT says what its values are
pub hamt_valued : (rows : List Row) (v : View) → table_of v ≡ rows → (t : Data) → IsView v (V.hamt t) → value_in (form_of rows (slot_of v)) ≡ None → ⊥
hamt_valued rows v table t is none =
    let fits : Fits rows is.room (slot_of v) (V.hamt t) = subst (λ (r : List Row). Fits r is.room (slot_of v) (V.hamt t)) table is.front.fits in
    let x = in_layer rows (slot_of v) (V.hamt t) (Y.hamt t) refl (is.room, fits) in
    let y = hamt_form rows (OfType rows) x.ty t x.holds in
    none-some y.2 (sym none ∙ ap value_in x.form ∙ ap (λ d. value_in (Some d)) y.5)
