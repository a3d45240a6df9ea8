-- The value that stands under the id of a root is the one that the data of its block represent.
use Rattle.std.proofs.Common.{◌≡◌, ℕ, ◌+◌, ◌≤◌, List, length, Bool, true, Option, Some, None, refl, sym, ◌∙◌, ap, subst, arith, inl, inr}
use Rattle.std.specs.Prelude.{Result, Ok, Err}
use Rattle.std.proofs.lemmas.Bool.{false≢true}
use Rattle.std.proofs.lemmas.Option.{same_Some, none-some}
use Rattle.ild_cbor.proofs.Blocks.{block_again}
use Rattle.ild_cbor.specs.Block.{IsBlockOf}
use Rattle.ild_cbor.specs.Reading.{fault_of}
use Rattle.ild_cbor.specs.declared.why.BlockWhy.{BlockWhy}
use Rattle.ild_cbor.specs.declared.why.BlockWhy.TheVariants as B
use Rattle.ild_data.specs.Bytes.{AreBytes}
use Rattle.ild_data.specs.Data.{Data}
use Rattle.ild_data.specs.Limits.{deepest}
use Rattle.ild_data.specs.Spell.{id_of, spell}
use Rattle.ild_view_doc.specs.Block.{HasRoot}
use Rattle.ild_view_doc.specs.Docs.{IsShape, block_in}
use Rattle.ild_view_doc.specs.declared.doc.Doc.{Doc}
use Rattle.ild_edges.proofs.Reading.{from_both, from_later, from_more, from_one, get_reads, reads_then}
use Rattle.ild_edges.specs.Gained.{IsUnder, FromBlocks, OnlyReads}
use Rattle.ild_edges.specs.Store.{Gets, Moment, block_at}
use Rattle.ild_edges.specs.Told.{IfTold}
use Rattle.ild_schema.specs.Clear.{IsSafe}
use Rattle.ild_schema.specs.Legible.{IsLegible}
use Rattle.ild_schema.specs.Slots.{plainly}
use Rattle.ild_schema.specs.Value.{Value}
use Rattle.ild_schema.specs.ValueSeen.{value_of}
use Rattle.ild_schema.specs.declared.number.TypeNo.{TypeNo}
use Rattle.ild_schema.specs.declared.row.Row.{Row}
use Rattle.ild_schema.specs.declared.val.Val.{Val}
use Rattle.ild_typed.proofs.Fronting.{values_fronts}
use Rattle.ild_typed.proofs.TreeValues.{whole_tree}
use Rattle.ild_typed.proofs.WalkSound.{refused_sound}
use Rattle.ild_typed.proofs.Wholes.{one_within}
use Rattle.ild_typed.specs.Blocks.{nodes}
use Rattle.ild_typed.specs.Schema.{IsSchema}
use Rattle.ild_typed.specs.Stands.{Stands, bare, blocks_of}
use Rattle.ild_open_held.proofs.Roots.{held_stand, standing_are_held}
use Rattle.ild_open_held.specs.Held.{IsHeld}
use Rattle.ild_open_held.specs.Roots.{IsRooted}
use Rattle.ild_open_parts.specs.Broken.{HasBrokenBlock}
use Rattle.ild_open_parts.specs.Reads.{HasValue as HasPart, Reads}
use Rattle.ild_open_parts.specs.declared.fault.OpenFault.{OpenFault}
use Rattle.ild_open_parts.specs.declared.fault.OpenFault.TheVariants as F
use Rattle.ild_open.specs.Broken.{IsWrongRoot}
use Rattle.ild_open.specs.inside.Found.{FindAnswer, GetFinds, HasKept, IsKept, Judges, ReadsRoot}
use Rattle.ild_open.specs.Opened.{HasOpened, HasValue, StandsInBlock, NoneStands, OpenStops, Opens}
use Rattle.ild_open_parts.proofs.Breaking.{broken_earlier, rose_later}

some_told : (o : Option (List (List ℕ))) (held : List (List ℕ)) (P : List (List ℕ) → Type 0) → o ≡ Some held → IfTold o P → P held
some_told o held P is x = subst (λ k. IfTold k P) is x

module _ (rows : List Row) (schema : IsSchema rows) (h : List ℕ → List ℕ) (ty : TypeNo) (id : List ℕ) where
  abbrev Standing : List (List ℕ) → Value → Type 0
  Standing held v = Stands bare (block_at held) h rows ty id v

  rooted : (held : List (List ℕ)) (v : Value) (st : Standing held v) → IsRooted (block_at held) h rows ty id v st.tree
  rooted held v st = standing_are_held (block_at held) h rows ty id v st

  same_block : (held : List (List ℕ)) (v : Value) (st : Standing held v) (b : List ℕ) → block_at held id ≡ Some b → b ≡ spell st.tree
  same_block held v st b there = same_Some b (spell st.tree) (sym there ∙ (rooted held v st).there)

  -- the block under the id is that of the value's data
  is_block : (held : List (List ℕ)) (v : Value) (st : Standing held v) (b : List ℕ) → block_at held id ≡ Some b → IsBlockOf b st.tree
  is_block held v st b there =
      let x = whole_tree h rows schema.table.texts.spelled deepest (plainly ty) v st.tree st.storable.fits st.storable.tree in
      record { within = record { tree = x.tree; nested = x.nested; sized = st.storable.sized.0 }; spelled = same_block held v st b there }

  same_tree : (b : List ℕ) (t u : Data) → IsBlockOf b t → IsBlockOf b u → t ≡ u
  same_tree b t u x y = one_within t u x.within y.within.tree (sym x.spelled ∙ y.spelled)

  is_held : (held : List (List ℕ)) (v : Value) (st : Standing held v) (b : List ℕ) (t : Data) → block_at held id ≡ Some b → IsBlockOf b t → IsHeld (block_at held) h rows deepest (plainly ty) t v
  is_held held v st b t there x = subst (λ u. IsHeld (block_at held) h rows deepest (plainly ty) u v) (same_tree b st.tree t (is_block held v st b there) x) (rooted held v st).held

  -- and a value that they represent stands there
  root_stands : (held : List (List ℕ)) (b : List ℕ) (t : Data) → id_of b ≡ id → block_at held id ≡ Some b → IsBlockOf b t → (v : Value) → IsHeld (block_at held) h rows deepest (plainly ty) t v → StandsInBlock h rows ty id held b v
  root_stands held b t named there x v has =
      let same : id_of (spell t) ≡ id = ap id_of (sym x.spelled) ∙ named in
      let here : block_at held (id_of (spell t)) ≡ Some (spell t) = ap (block_at held) same ∙ there ∙ ap Some x.spelled in
      let st : Standing held v = subst (λ i. Stands bare (block_at held) h rows ty i v) same (held_stand (block_at held) h rows ty t v x.within.sized here has) in
      record { stands = st; spelled = same_block held v st b there }

  many_gets : (held : List (List ℕ)) (v : Value) (st : Standing held v) → length (blocks_of bare h rows ty v st.tree) ≡ 1 + length (nodes h rows (plainly ty) v)
  many_gets held v st = (rooted held v st).many

  safe : IsSafe rows (plainly ty)
  safe = λ e. absurd (false≢true e)

  -- ---- where the root is refused

  module _ (legible : IsLegible rows) where
    has_no_shape : (held : List (List ℕ)) (v : Value) (st : Standing held v) (b : List ℕ) (why : _) → block_at held id ≡ Some b → IsShape rows ty b why → ⊥
    has_no_shape held v st b why there x =
        let has = is_held held v st b x.tree there x.block in
        let y = values_fronts h rows schema deepest (plainly ty) v x.tree has.fits has.tree in
        refused_sound rows legible.clear legible.delims deepest 0 (plainly ty) safe x.tree x.refusal.refusal x.refusal.refused (y.0, y.1.fits, y.1.tree)

    none_where : (m : Moment) (before now : ℕ) (why : BlockWhy) → IsWrongRoot rows m.blocks before now ty id why → NoneStands h rows ty id m
    none_where m before now B.Missing x = λ held v told st.
        none-some (spell st.tree) (sym (some_told m.blocks held (λ blocks. block_at blocks id ≡ None) told x.0) ∙ (rooted held v st).there)
    none_where m before now (B.Cbor fault) x = λ held v told st.
        let there = some_told m.blocks held (λ blocks. block_at blocks id ≡ Some x.0) told x.1.held in
        none-some fault (sym (block_again x.0 st.tree (is_block held v st x.0 there)) ∙ x.2)
    none_where m before now (B.Shape why) x = λ held v told st.
        has_no_shape held v st x.0 why (some_told m.blocks held (λ blocks. block_at blocks id ≡ Some x.0) told x.1.held) x.2

    found_stops : (m n : Moment) (e : OpenFault) → FindAnswer rows ty id m (Err e) n → OpenStops h rows ty id m e n
    found_stops m n (F.Block at why) x = (none_where m m.lacks n.lacks why x.1, inl x)
    found_stops m n F.Store x = x
    found_stops m n F.Memory x = tt

    few_gets : (m n : Moment) → n.gets ≤ m.gets + 1 → (held : List (List ℕ)) (v : Value) (st : Standing held v) → n.gets ≤ m.gets + length (blocks_of bare h rows ty v st.tree)
    few_gets m n few held v st = let e = many_gets held v st in omega (arith, few, e)

    pub open_stops : {A : Type 0} (Done : A → Type 0) (m n : Moment) (e : OpenFault) → GetFinds rows ty id m (Err e) n → Opens Done h rows ty id m (Err e) n
    open_stops Done m n e x = record { answer = found_stops m n e x.answer; only = x.only; gets = λ held v told st. few_gets m n x.gets held v st }

  -- ---- where it is one

  module _ (m k n : Moment) (d : Doc) (x : GetFinds rows ty id m (Ok d) k) (keep : Bool) where
    abbrev t : Data
    t = x.answer.root.root.tree

    own : (r : Result Val OpenFault) → ReadsRoot h rows ty id (block_in d) keep k r n → Reads h id rows 96 (plainly ty, t) keep k r n
    own r reads = reads t x.answer.root.root.block (x.answer.root.value, x.answer.root.root.front.fits, x.answer.root.root.front.tree)

    there : (held : List (List ℕ)) → m.blocks ≡ Some held → block_at held id ≡ Some (block_in d)
    there held told = some_told m.blocks held (λ blocks. block_at blocks id ≡ Some (block_in d)) told x.answer.get.answer.1

    gets : (r : Result Val OpenFault) → ReadsRoot h rows ty id (block_in d) keep k r n → (held : List (List ℕ)) (v : Value) → m.blocks ≡ Some held → (st : Standing held v) → n.gets ≤ m.gets + length (blocks_of bare h rows ty v st.tree)
    gets r reads held v told st =
        let a = (own r reads).gets held v (x.only.blocks ∙ told) (is_held held v st (block_in d) t (there held told) x.answer.root.root.block) in
        let b = x.gets in
        let e = many_gets held v st in
        omega (arith, a, b, e)

    -- its value is that of its data, which follows from its block beside those that were read
    has_kept : AreBytes (block_in d) → (val : Val) → OnlyReads k n → FromBlocks n (λ held. HasPart h rows 96 (plainly ty, t) keep held val) → FromBlocks n (λ held. IsKept h rows ty id held (block_in d) keep val)
    has_kept bytes val only a =
        from_both n (λ held. block_at held id ≡ Some (block_in d)) (λ held. HasPart h rows 96 (plainly ty, t) keep held val) (λ held. IsKept h rows ty id held (block_in d) keep val)
        (λ held here y. record { value = y.value; is = root_stands held (block_in d) t x.answer.get.answer.0 here x.answer.root.root.block y.value y.is; kept = y.kept })
        (from_later k n (λ held. block_at held id ≡ Some (block_in d)) only (from_one m k id (block_in d) bytes x.answer.get)) a

    pub open_goes : AreBytes (block_in d) → (val : Val) → ReadsRoot h rows ty id (block_in d) keep k (Ok val) n → Opens (HasKept h rows ty id n keep) h rows ty id m (Ok (d, val)) n
    open_goes bytes val reads = record {
      answer = record { table = x.answer.table; type = x.answer.type; root = x.answer.get.answer.0; value = has_kept bytes val (own (Ok val) reads).only (own (Ok val) reads).answer };
      only = reads_then m k n x.only (own (Ok val) reads).only;
      gets = gets (Ok val) reads;
    }

    broken : (at : List ℕ) (why : BlockWhy) → HasBrokenBlock h rows k.blocks k.lacks n.lacks id 96 (plainly ty) t at why → HasBrokenBlock h rows m.blocks m.lacks n.lacks id 96 (plainly ty) t at why
    broken at why b = broken_earlier h id rows 96 (plainly ty, t) m k n at why x.only b

    breaks : (e : OpenFault) → Reads h id rows 96 (plainly ty, t) keep k (Err e) n → OpenStops h rows ty id m e n
    breaks (F.Block at why) y = (
      λ held v told st. y.answer.0 held v (x.only.blocks ∙ told) (is_held held v st (block_in d) t (there held told) x.answer.root.root.block),
      inr (record { block = block_in d; at = record { named = x.answer.get.answer.0; held = x.answer.get.answer.1 }; tree = t; is = x.answer.root.root.block; wrong = broken at.0 why y.answer.1 }),
    )
    breaks F.Store y = rose_later m.faults k.faults n.faults x.only.later.faults y.answer
    breaks F.Memory y = tt

    pub open_breaks : {A : Type 0} (Done : A → Type 0) (e : OpenFault) → ReadsRoot h rows ty id (block_in d) keep k (Err e) n → Opens Done h rows ty id m (Err e) n
    open_breaks Done e reads = record { answer = breaks e (own (Err e) reads); only = reads_then m k n x.only (own (Err e) reads).only; gets = gets (Err e) reads }

-- ---- what the callers ask for

module _ (h : List ℕ → List ℕ) (rows : List Row) (ty : TypeNo) (id : List ℕ) (m n : Moment) where
  seen : (keep : Bool) (p : Doc × Val) → FromBlocks n (λ held. IsKept h rows ty id held (block_in p.0) keep p.1) → FromBlocks n (λ held. (v : Value) × StandsInBlock h rows ty id held (block_in p.0) v)
  seen keep p x =
      from_more n (λ held. IsKept h rows ty id held (block_in p.0) keep p.1) (λ held. (v : Value) × StandsInBlock h rows ty id held (block_in p.0) v) (λ held a. (a.value, a.is)) x

  kept : (p : Doc × Val) → FromBlocks n (λ held. IsKept h rows ty id held (block_in p.0) true p.1) → FromBlocks n (λ held. StandsInBlock h rows ty id held (block_in p.0) (value_of p.1))
  kept p x =
      from_more n (λ held. IsKept h rows ty id held (block_in p.0) true p.1) (λ held. StandsInBlock h rows ty id held (block_in p.0) (value_of p.1))
      (λ held a. subst (λ v. StandsInBlock h rows ty id held (block_in p.0) v) (sym (a.kept refl)) a.is) x

  -- the root alone
  pub opened_root : (keep : Bool) (p : Doc × Val) → Opens (HasKept h rows ty id n keep) h rows ty id m (Ok p) n → Opens (HasOpened h rows ty id n) h rows ty id m (Ok p.0) n
  opened_root keep p x = record {
    answer = record { table = x.answer.table; type = x.answer.type; root = x.answer.root; value = seen keep p x.answer.value };
    only = x.only;
    gets = x.gets;
  }

  -- with its value
  pub opened_value : (p : Doc × Val) → Opens (HasKept h rows ty id n true) h rows ty id m (Ok p) n → Opens (HasValue h rows ty id n) h rows ty id m (Ok p) n
  opened_value p x = record {
    answer = record { table = x.answer.table; type = x.answer.type; root = x.answer.root; value = kept p x.answer.value };
    only = x.only;
    gets = x.gets;
  }

-- the block that a get gave is the root block, or why it is none
pub found : (rows : List Row) (ty : TypeNo) (id b : List ℕ) (m n : Moment) (r : Result Doc OpenFault) → Judges rows ty id b r → Gets m id (Ok (Some b)) n → GetFinds rows ty id m r n
found rows ty id b m n r judged got = record { answer = by r judged; only = get_reads m n id (Ok (Some b)) got; gets = let many = got.gets in omega (arith, many) }
  where
    here : IsUnder m.blocks id b
    here = record { named = got.answer.0; held = got.answer.1 }

    by : (r : Result Doc OpenFault) → Judges rows ty id b r → FindAnswer rows ty id m r n
    by (Ok d) j = record {
      table = j.table;
      type = j.type;
      get = subst (λ (x : List ℕ). Gets m id (Ok (Some x)) n) (sym j.block) got;
      root = subst (HasRoot rows ty) (sym j.block) j.root;
    }
    by (Err (F.Block at B.Missing)) j = absurd j.1
    by (Err (F.Block at (B.Cbor fault))) j = (j.0, (b, here, j.1))
    by (Err (F.Block at (B.Shape why))) j = (j.0, (b, here, j.1))
    by (Err F.Store) j = absurd j
    by (Err F.Memory) j = tt

-- a root block has no fault
pub root_faultless : (rows : List Row) (ty : TypeNo) (b : List ℕ) → HasRoot rows ty b → fault_of b ≡ None
root_faultless rows ty b x = block_again b x.root.tree x.root.block
