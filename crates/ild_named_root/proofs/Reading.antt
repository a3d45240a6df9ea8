-- What reading a document's value says of it: it nests at most 95 levels, or more.
use Rattle.std.proofs.Common.{◌≡◌, ℕ, ◌+◌, ◌≤◌, List, length, Some, false, ◌∙◌, arith, inl, inr}
use Rattle.std.proofs.Math.Logic.{∥∥₁_elim, ∥∥₁_map}
use Rattle.std.proofs.Props.{props}
use Rattle.std.proofs.lemmas.Bool.{false≢true}
use Rattle.std.specs.Prelude.{Result, Ok, Err}
use Rattle.ild_cbor.specs.Block.{IsBlockOf}
use Rattle.ild_cbor.specs.declared.why.BlockWhy.{BlockWhy}
use Rattle.ild_data.specs.Data.{Data}
use Rattle.ild_data.specs.Spell.{id_of}
use Rattle.ild_data.specs.declared.id.BlockId.{BlockId}
use Rattle.ild_edges.proofs.Reading.{from_more, only_of, reads_none, reads_then}
use Rattle.ild_edges.specs.Count.{Rose}
use Rattle.ild_edges.specs.Gained.{OnlyReads}
use Rattle.ild_edges.specs.Store.{Moment, block_at}
use Rattle.ild_open.specs.Opened.{StandsInBlock}
use Rattle.ild_open_held.specs.Held.{IsHeld}
use Rattle.ild_open_held.specs.Splits.{HasFront}
use Rattle.ild_open_parts.proofs.Breaking.{broken_earlier, rose_later}
use Rattle.ild_open_parts.specs.Reads.{HasValue}
use Rattle.ild_open_parts.specs.declared.fault.OpenFault.{OpenFault}
use Rattle.ild_open_parts.specs.declared.fault.OpenFault.TheVariants as O
use Rattle.ild_schema.specs.Clear.{IsSafe}
use Rattle.ild_schema.specs.Legible.{IsLegible}
use Rattle.ild_schema.specs.Slots.{plainly}
use Rattle.ild_schema.specs.Value.{Value}
use Rattle.ild_schema.specs.declared.number.TypeNo.{TypeNo}
use Rattle.ild_schema.specs.declared.row.Row.{Row}
use Rattle.ild_typed.proofs.WalkSound.{refused_sound}
use Rattle.ild_typed.specs.Blocks.{nodes}
use Rattle.ild_typed.specs.Schema.{IsSchema}
use Rattle.ild_view_walk.specs.Checks.{Faults}
use Rattle.ild_view_walk.specs.declared.fault.ViewErr.{ViewErr}
use Rattle.ild_view_walk.specs.declared.fault.ViewErr.TheVariants as E
use Rattle.ild_named_root.specs.Names.{AreDocData, Failed, HasBeneath, HasRoom, OfStanding}
use Rattle.ild_named_root.specs.declared.fault.NameFault.{NameFault}
use Rattle.ild_named_root.specs.declared.fault.NameFault.TheVariants as F
use Rattle.ild_named_root.specs.inside.Loading.{BeneathAnswer, HasDocFront, IsMeasuringFault, LoadsBeneath, Measures, ReadsDeeper, ReadsDoc, ReadsOver, measured}
use Rattle.ild_named_root.proofs.Standing.{has_front, held_beneath, held_by, own_data}

-- what the walk refuses has no front
module _ (rows : List Row) (legible : IsLegible rows) (ty : TypeNo) (t : Data) where
  pub measure_answer : (e : ViewErr) → Faults rows 95 (plainly ty) t e → Measures rows ty t (Err (measured e))
  measure_answer (E.Shape type why at) x =
      let safe : IsSafe rows (plainly ty) = λ e. absurd (false≢true e) in
      λ front. refused_sound rows legible.clear legible.delims 95 0 (plainly ty) safe t x.refusal x.refused front
  measure_answer E.Memory x = tt

-- ---- gets alone, and the store's failures

module _ (h : List ℕ → List ℕ) (rows : List Row) (room : ℕ) (ty : TypeNo) (b : List ℕ) (m n : Moment) (some : ∥ HasDocFront rows room ty b ∥₁) where
  only_by : (t : Data) (r : Result (Unit {0}) OpenFault) → ReadsOver h (id_of b) rows room (plainly ty, t) m r n → OnlyReads m n
  only_by t (Ok u) x = x.1.only
  only_by t (Err e) x = x.only

  pub doc_only : (r : Result (Unit {0}) OpenFault) → ReadsDoc h rows room ty b m r n → OnlyReads m n
  doc_only r x = only_of m n (∥∥₁_map some (λ y. only_by y.tree r (x y.tree y.block y.front)))

  pub doc_failed : ReadsDoc h rows room ty b m (Err O.Store) n → Rose m.faults n.faults
  doc_failed x = ∥∥₁_elim some (hlevel props) (λ y. (x y.tree y.block y.front).answer)

module _ (rows : List Row) (schema : IsSchema rows) (h : List ℕ → List ℕ) (ty : TypeNo) (b : List ℕ) where
  -- ---- read in all the room of a bare root

  module _ (k n : Moment) (some : ∥ HasDocFront rows 96 ty b ∥₁) where
    pub deeper_found : ReadsDoc h rows 96 ty b k (Ok tt) n → ReadsDeeper h rows ty b k F.Depth n
    deeper_found x = record { only = doc_only h rows 96 ty b k n some (Ok tt) x; failed = tt; each = λ t doc. tt }

    pub deeper_broken : (id : BlockId) (why : BlockWhy) → ReadsDoc h rows 96 ty b k (Err (O.Block id why)) n → ReadsDeeper h rows ty b k (F.Block id why) n
    deeper_broken id why x = record {
      only = doc_only h rows 96 ty b k n some (Err (O.Block id why)) x;
      failed = tt;
      each = λ t doc.
          let y = x t doc.block doc.front in
          record { none = λ held v told st. y.answer.0 held v told (held_by rows schema h ty b held v st t doc.block); broken = y.answer.1 };
    }

    pub deeper_failed : ReadsDoc h rows 96 ty b k (Err O.Store) n → ReadsDeeper h rows ty b k F.Store n
    deeper_failed x = record { only = doc_only h rows 96 ty b k n some (Err O.Store) x; failed = doc_failed h rows 96 ty b k n some x; each = λ t doc. doc_failed h rows 96 ty b k n some x }

    pub deeper_wanting : ReadsDoc h rows 96 ty b k (Err O.Memory) n → ReadsDeeper h rows ty b k F.Memory n
    deeper_wanting x = record { only = doc_only h rows 96 ty b k n some (Err O.Memory) x; failed = tt; each = λ t doc. tt }

  -- ---- in the room that is left

  abbrev Few : Moment → Moment → Type 0
  Few m n = OfStanding h rows ty b m (λ held v. HasRoom rows ty v → n.gets ≤ m.gets + length (nodes h rows (plainly ty) v))

  few_by : (m n : Moment) (t : Data) (r : Result (Unit {0}) OpenFault) → ReadsOver h (id_of b) rows 95 (plainly ty, t) m r n → (held : List (List ℕ)) (v : Value) → m.blocks ≡ Some held
      → IsHeld (block_at held) h rows 95 (plainly ty) t v → n.gets ≤ m.gets + length (nodes h rows (plainly ty) v)
  few_by m n t (Ok u) x = x.1.gets
  few_by m n t (Err e) x = x.gets

  few_read : (m n : Moment) (r : Result (Unit {0}) OpenFault) → ReadsDoc h rows 95 ty b m r n → Few m n
  few_read m n r x = λ held v told st room.
      let doc = own_data rows schema h ty b held v st in
      let t : Data = st.stands.tree in
      few_by m n t r (x t doc.block (has_front rows schema h ty b held v st t doc.block room)) held v told (held_beneath rows schema h ty b held v st t doc.block room)

  module _ (m k : Moment) (some : ∥ HasDocFront rows 95 ty b ∥₁) (front : (t : Data) → IsBlockOf b t → HasFront rows 95 (plainly ty, t)) where
    pub shallow_found : ReadsDoc h rows 95 ty b m (Ok tt) k → LoadsBeneath h rows ty b m (Ok tt) k
    shallow_found x = record {
      only = doc_only h rows 95 ty b m k some (Ok tt) x;
      failed = tt;
      each = λ t doc.
          let y = x t doc.block (front t doc.block) in
          from_more k (λ held. HasValue h rows 95 (plainly ty, t) false held y.0) (HasBeneath h rows ty t) (λ held a. (a.value, a.is)) y.1.answer;
      gets = few_read m k (Ok tt) x;
    }

    pub shallow_failed : ReadsDoc h rows 95 ty b m (Err O.Store) k → LoadsBeneath h rows ty b m (Err F.Store) k
    shallow_failed x = record {
      only = doc_only h rows 95 ty b m k some (Err O.Store) x;
      failed = doc_failed h rows 95 ty b m k some x;
      each = λ t doc. doc_failed h rows 95 ty b m k some x;
      gets = few_read m k (Err O.Store) x;
    }

    pub shallow_wanting : ReadsDoc h rows 95 ty b m (Err O.Memory) k → LoadsBeneath h rows ty b m (Err F.Memory) k
    shallow_wanting x = record { only = doc_only h rows 95 ty b m k some (Err O.Memory) x; failed = tt; each = λ t doc. tt; gets = few_read m k (Err O.Memory) x }

    -- refused in the room that is left, and read again in all the room of a bare root
    module _ (id : BlockId) (why : BlockWhy) (x : ReadsDoc h rows 95 ty b m (Err (O.Block id why)) k) (n : Moment) where
      first : OnlyReads m k
      first = doc_only h rows 95 ty b m k some (Err (O.Block id why)) x

      none : (held : List (List ℕ)) (v : Value) → m.blocks ≡ Some held → StandsInBlock h rows ty (id_of b) held b v → (t : Data) → IsBlockOf b t → HasRoom rows ty v → ⊥
      none held v told st t block room = (x t block (front t block)).answer.0 held v told (held_beneath rows schema h ty b held v st t block room)

      again : (fault : NameFault) (y : ReadsDeeper h rows ty b k fault n) (t : Data) → AreDocData rows ty b t → BeneathAnswer h rows ty b t m (Err fault) n
      again F.Depth y t doc = record {
        none = λ held v told st room. none held v told st t doc.block room;
        deeper = inr (record { moment = k; reads = first; later = y.only.later; at = id.0; why = why; broken = (x t doc.block (front t doc.block)).answer.1 });
      }
      again (F.Block at cause) y t doc =
          let z = y.each t doc in
          record { none = λ held v told st. z.none held v (first.blocks ∙ told) st; broken = broken_earlier h (id_of b) rows 96 (plainly ty, t) m k n at.0 cause first z.broken }
      again F.Store y t doc = rose_later m.faults k.faults n.faults first.later.faults y.failed
      again F.Memory y t doc = tt
      again F.Size y t doc = absurd (y.each t doc)
      again (F.Clash at kept new) y t doc = absurd (y.each t doc)

      again_failed : (fault : NameFault) → Failed k fault n → Failed m fault n
      again_failed F.Depth y = tt
      again_failed (F.Block at cause) y = tt
      again_failed F.Store y = rose_later m.faults k.faults n.faults first.later.faults y
      again_failed F.Memory y = tt
      again_failed F.Size y = tt
      again_failed (F.Clash at kept new) y = tt

      pub shallow_stopped : (fault : NameFault) → ReadsDeeper h rows ty b k fault n → LoadsBeneath h rows ty b m (Err fault) n
      shallow_stopped fault y = record {
        only = reads_then m k n first y.only;
        failed = again_failed fault y.failed;
        each = again fault y;
        gets = λ held v told st room. let doc = own_data rows schema h ty b held v st in absurd (none held v told st st.stands.tree doc.block room);
      }

  -- the value nests deeper than its block by itself may, or memory is wanting
  pub unmeasured : (m : Moment) (e : NameFault) → IsMeasuringFault e → ((t : Data) → IsBlockOf b t → Measures rows ty t (Err e)) → LoadsBeneath h rows ty b m (Err e) m
  unmeasured m F.Depth cause deep = record {
    only = reads_none m;
    failed = tt;
    each = λ t doc. record {
      none = λ held v told st room. deep t doc.block (has_front rows schema h ty b held v st t doc.block room);
      deeper = inl (deep t doc.block);
    };
    gets = λ held v told st room. let own = own_data rows schema h ty b held v st in absurd (deep st.stands.tree own.block (has_front rows schema h ty b held v st st.stands.tree own.block room));
  }
  unmeasured m F.Memory cause deep = record { only = reads_none m; failed = tt; each = λ t doc. tt; gets = λ held v told st room. omega arith }
  unmeasured m F.Size cause deep = absurd cause
  unmeasured m F.Store cause deep = absurd cause
  unmeasured m (F.Clash id kept new) cause deep = absurd cause
  unmeasured m (F.Block id why) cause deep = absurd cause
