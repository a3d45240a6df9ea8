-- The value that stands under the id of a root that names its schema is the one that the data beneath it represent.
use Rattle.std.proofs.Common.{◌≡◌, ℕ, ◌+◌, ◌≤◌, List, length, true, Some, refl, sym, ◌∙◌, ap, subst, arith, inl, inr}
use Rattle.std.specs.Prelude.{Result, Ok, Err}
use Rattle.ild_cbor.specs.Block.{IsBlockOf}
use Rattle.ild_data.specs.Bytes.{AreBytes}
use Rattle.ild_data.specs.Data.{Data}
use Rattle.ild_data.specs.Spell.{id_of}
use Rattle.ild_edges.proofs.Reading.{from_both, from_later, from_one, reads_then}
use Rattle.ild_edges.specs.Gained.{FromBlocks, OnlyReads}
use Rattle.ild_edges.specs.Store.{Moment, block_at}
use Rattle.ild_named.specs.Named.{AreNaming, named, named_data, schema_block}
use Rattle.ild_open_held.specs.Held.{IsHeld}
use Rattle.ild_open_parts.proofs.Breaking.{broken_earlier, rose_later}
use Rattle.ild_open_parts.specs.Reads.{HasValue, Reads}
use Rattle.ild_open_parts.specs.declared.fault.OpenFault.{OpenFault}
use Rattle.ild_open_parts.specs.declared.fault.OpenFault.TheVariants as F
use Rattle.ild_schema.specs.Legible.{IsLegible}
use Rattle.ild_schema.specs.Slots.{plainly}
use Rattle.ild_schema.specs.Value.{Value}
use Rattle.ild_schema.specs.ValueSeen.{value_of}
use Rattle.ild_schema.specs.declared.number.TypeNo.{TypeNo}
use Rattle.ild_schema.specs.declared.row.Row.{Row}
use Rattle.ild_schema.specs.declared.val.Val.{Val}
use Rattle.ild_typed.specs.Schema.{IsSchema}
use Rattle.ild_typed.specs.Stands.{blocks_of}
use Rattle.ild_view_named.specs.NamedDocs.{block_in}
use Rattle.ild_view_named.specs.declared.doc.NamedDoc.{NamedDoc}
use Rattle.ild_open_named.specs.Broken.{IsWrongSchema}
use Rattle.ild_open_named.specs.Opened.{HasNamedValue, OpenStops, Opens, StandsInNamed, StandsNamed}
use Rattle.ild_open_named.specs.inside.Found.{FindsRoot, FindsText, ReadsNamed}
use Rattle.ild_open_named.proofs.Telling.{linked_is, name_is_text, wrong_schema}
use Rattle.ild_open_named.proofs.Finding.{under_of}
use Rattle.ild_open_named.proofs.Naming.{named_stands, so_many, standing_described, value_held}
use Rattle.ild_open_named.proofs.Refusing.{root_not_wrong, schema_not_wrong, some_told}

module _ (rows : List Row) (schema : IsSchema rows) (legible : IsLegible rows) (h : List ℕ → List ℕ) (ty : TypeNo) (id : List ℕ) (m : Moment) where
  abbrev Bound : ℕ → Type 0
  Bound gets = (held : List (List ℕ)) (name source : List ℕ) (v : Value) → m.blocks ≡ Some held → (st : StandsNamed h rows ty id held name source v)
      → gets ≤ m.gets + length (blocks_of (named name source) h rows ty v st.stands.tree)

  few : (gets : ℕ) → gets ≤ m.gets + 2 → Bound gets
  few gets most held name source v told st = let e = so_many rows schema h ty id held name source v st in omega (arith, most, e)

  -- ---- where the root is refused

  root_fault : (n : Moment) (e : OpenFault) → FindsRoot rows ty id m (Err e) n → OpenStops h rows ty id m e n
  root_fault n (F.Block at why) x = (
    λ held name source v told st. root_not_wrong rows schema legible h ty id held name source v st m.blocks told m.lacks n.lacks why x.answer.1,
    inl (x.answer.0, x.answer.1),
  )
  root_fault n F.Store x = x.answer
  root_fault n F.Memory x = tt

  pub open_unrooted : {A : Type 0} (Done : A → Type 0) (n : Moment) (e : OpenFault) → FindsRoot rows ty id m (Err e) n → Opens Done h rows ty id m (Err e) n
  open_unrooted Done n e x = record { answer = root_fault n e x; only = x.only; gets = few n.gets (let one = x.gets in omega (arith, one)) }

  -- ---- where the schema's block is

  module _ (d : NamedDoc) (k : Moment) (x : FindsRoot rows ty id m (Ok d) k) where
    abbrev b : List ℕ
    b = block_in d

    abbrev t : Data
    t = x.answer.root.tree

    abbrev link : List ℕ
    link = x.answer.root.schema

    schema_fault : (n : Moment) (e : OpenFault) → FindsText link k (Err e) n → OpenStops h rows ty id m e n
    schema_fault n (F.Block at why) y =
        let w : IsWrongSchema m.blocks m.lacks n.lacks id at.0 why
        = wrong_schema id link m k n b x.answer.root.name t at.0 why x.answer.get x.only x.answer.root.root y.answer.0 y.answer.1 in (
          λ held name source v told st. schema_not_wrong m.blocks held told id name source (standing_described rows schema h ty id held name source v st) m.lacks n.lacks at.0 why w,
          inr (inl w),
        )
    schema_fault n F.Store y = rose_later m.faults k.faults n.faults x.only.later.faults y.answer
    schema_fault n F.Memory y = tt

    pub open_unschemed : {A : Type 0} (Done : A → Type 0) (n : Moment) (e : OpenFault) → FindsText link k (Err e) n → Opens Done h rows ty id m (Err e) n
    open_unschemed Done n e y = record {
      answer = schema_fault n e y;
      only = reads_then m k n x.only y.only;
      gets = few n.gets (let one = x.gets in let two = y.gets in omega (arith, one, two));
    }

    -- ---- where the value is read

    module _ (j : Moment) (c : List ℕ) (y : FindsText link k (Ok c) j) (n : Moment) where
      first : OnlyReads m j
      first = reads_then m k j x.only y.only

      own : (r : Result Val OpenFault) → ReadsNamed h rows ty id b j r n → Reads h id rows 95 (plainly ty, t) true j r n
      own r reads = reads x.answer.root.name link t x.answer.root.root (x.answer.root.value, x.answer.root.front.fits, x.answer.root.front.tree)

      there : (held : List (List ℕ)) → m.blocks ≡ Some held → block_at held id ≡ Some b
      there held told = some_told m.blocks held (λ blocks. block_at blocks id ≡ Some b) told x.answer.get.answer.1

      held_here : (held : List (List ℕ)) (name source : List ℕ) (v : Value) → m.blocks ≡ Some held → StandsNamed h rows ty id held name source v → IsHeld (block_at held) h rows 95 (plainly ty) t v
      held_here held name source v told st = value_held rows schema h ty id held name source v st b x.answer.root.name link t (there held told) x.answer.root.root

      gets : (r : Result Val OpenFault) → ReadsNamed h rows ty id b j r n → Bound n.gets
      gets r reads held name source v told st =
          let a = (own r reads).gets held v (first.blocks ∙ told) (held_here held name source v told st) in
          let one = x.gets in
          let two = y.gets in
          let e = so_many rows schema h ty id held name source v st in
          omega (arith, a, one, two, e)

      value_fault : (e : OpenFault) → Reads h id rows 95 (plainly ty, t) true j (Err e) n → OpenStops h rows ty id m e n
      value_fault (F.Block at why) z = (
        λ held name source v told st. z.answer.0 held v (first.blocks ∙ told) (held_here held name source v told st),
        inr (inr (record {
          block = b;
          at = under_of id b m k x.answer.get;
          name = x.answer.root.name;
          schema = link;
          tree = t;
          names = x.answer.root.root;
          wrong = broken_earlier h id rows 95 (plainly ty, t) m j n at.0 why first z.answer.1;
        })),
      )
      value_fault F.Store z = rose_later m.faults j.faults n.faults first.later.faults z.answer
      value_fault F.Memory z = tt

      pub open_breaks : {A : Type 0} (Done : A → Type 0) (e : OpenFault) → ReadsNamed h rows ty id b j (Err e) n → Opens Done h rows ty id m (Err e) n
      open_breaks Done e reads = record { answer = value_fault e (own (Err e) reads); only = reads_then m j n first (own (Err e) reads).only; gets = gets (Err e) reads }

      source_link : link ≡ id_of (schema_block y.answer.text.source)
      source_link = linked_is link c y.answer.text.source k j y.answer.get y.answer.text.block

      naming : AreNaming x.answer.root.name y.answer.text.source
      naming = record {
        name_text = name_is_text b x.answer.root.name link t x.answer.root.root;
        source_text = y.answer.text.block.within.tree;
        short = y.answer.text.block.within.sized;
      }

      named_here : IsBlockOf b (named_data x.answer.root.name (id_of (schema_block y.answer.text.source)) t)
      named_here = subst (λ (i : List ℕ). IsBlockOf b (named_data x.answer.root.name i t)) source_link x.answer.root.root.block

      abbrev BothThere : List (List ℕ) → Type 0
      BothThere held = (block_at held id ≡ Some b) × (block_at held link ≡ Some c)

      stands_here : (val : Val) (held : List (List ℕ)) → BothThere held → HasValue h rows 95 (plainly ty, t) true held val → StandsInNamed h rows ty id held b (value_of val)
      stands_here val held both z =
          let linked : block_at held (id_of (schema_block y.answer.text.source)) ≡ Some (schema_block y.answer.text.source)
          = subst (λ (i : List ℕ). block_at held i ≡ Some (schema_block y.answer.text.source)) source_link (both.1 ∙ ap Some y.answer.text.block.spelled) in
          named_stands h rows ty id held b x.answer.root.name y.answer.text.source t (value_of val) naming x.answer.get.answer.0 both.0 named_here linked
          (subst (λ (v : Value). IsHeld (block_at held) h rows 95 (plainly ty) t v) (sym (z.kept refl)) z.is)

      both_there : AreBytes b → AreBytes c → FromBlocks j BothThere
      both_there bytes more =
          from_both j (λ held. block_at held id ≡ Some b) (λ held. block_at held link ≡ Some c) BothThere (λ held here too. (here, too))
          (from_later k j (λ held. block_at held id ≡ Some b) y.only (from_one m k id b bytes x.answer.get)) (from_one k j link c more y.answer.get)

      pub open_goes : AreBytes b → AreBytes c → (val : Val) → ReadsNamed h rows ty id b j (Ok val) n → Opens (HasNamedValue h rows ty id n) h rows ty id m (Ok (d, val)) n
      open_goes bytes more val reads =
          let z = own (Ok val) reads in
          record {
            answer = record {
              table = x.answer.table;
              type = x.answer.type;
              root = x.answer.get.answer.0;
              value = from_both n BothThere (λ held. HasValue h rows 95 (plainly ty, t) true held val) (λ held. StandsInNamed h rows ty id held b (value_of val)) (stands_here val)
                  (from_later j n BothThere z.only (both_there bytes more)) z.answer;
            };
            only = reads_then m j n first z.only;
            gets = gets (Ok val) reads;
          }
