-- A value that stood as a document's block stands beneath the new root.
use Rattle.std.proofs.Common.{◌≡◌, ◌⊎◌, ℕ, ◌+◌, ◌≤◌, List, [], ◌∷◌, ◌++◌, length, Option, Some, None, IsUtf8, sym, ◌∙◌, ap, subst, arith, inl}
use Rattle.std.specs.List.{AllByRecursion}
use Rattle.std.specs.Prelude.{Result, Ok, Err}
use Rattle.ild_cbor.specs.Block.{IsBlockOf}
use Rattle.ild_data.specs.Data.{Data}
use Rattle.ild_data.specs.Limits.{deepest, longest_block}
use Rattle.ild_data.specs.Spell.{id_of, spell}
use Rattle.ild_data.specs.declared.id.BlockId.{BlockId}
use Rattle.ild_edges.proofs.Later.{Later-refl, Later-trans}
use Rattle.ild_edges.proofs.Reading.{from_told}
use Rattle.ild_edges.specs.Gained.{AddsOnly, AreHeld, CameFrom, FromBlocks, Holds, OnlyReads}
use Rattle.ild_edges.specs.Store.{Keeps, Later, Moment, block_at}
use Rattle.ild_edges.specs.Told.{BothTold, IfTold}
use Rattle.ild_named.specs.Named.{named, schema_block}
use Rattle.ild_open.specs.Opened.{StandsInBlock}
use Rattle.ild_open_held.proofs.Roots.{held_stand, standing_are_held}
use Rattle.ild_open_held.specs.Held.{IsHeld, IsHeldBlock}
use Rattle.ild_open_parts.proofs.Breaking.{rose_later}
use Rattle.ild_schema.specs.Slots.{plainly}
use Rattle.ild_schema.specs.Value.{Value}
use Rattle.ild_schema.specs.declared.number.TypeNo.{TypeNo}
use Rattle.ild_schema.specs.declared.row.Row.{Row}
use Rattle.ild_typed.proofs.Rooms.{fits_more}
use Rattle.ild_typed.proofs.TreeKept.{one_stands}
use Rattle.ild_typed.specs.Blocks.{nodes}
use Rattle.ild_typed.specs.Schema.{IsSchema}
use Rattle.ild_typed.specs.Stands.{IsFrame, Stands, bare, root_id}
use Rattle.ild_named_root.specs.Names.{AreDocData, AreFit, Failed, HasBeneath, HasNamed, HasRoom, InOrder, NameAnswer, Names, NamesData, OfStanding, WasRead, new_blocks, root_block}
use Rattle.ild_named_root.specs.declared.fault.NameFault.{NameFault}
use Rattle.ild_named_root.specs.declared.fault.NameFault.TheVariants as F
use Rattle.ild_named_root.specs.inside.Loading.{BeneathAnswer, LoadsBeneath}
use Rattle.ild_named_root.specs.inside.Writing.{AreMade, IsMakingFault, MakesBlocks, PutAnswer, PutsBoth}
use Rattle.ild_named_root.proofs.Standing.{held_by}

bare_is_frame : IsFrame bare
bare_is_frame = record { less = omega arith; apart = λ c d same. same; fits = λ d fits. fits; blocks = tt }

-- ---- where nothing was put

pub none_came : (bs : List (List ℕ)) (a c : Option (List (List ℕ))) → c ≡ a → BothTold a c (CameFrom bs)
none_came bs a c same = subst (λ (o : Option (List (List ℕ))). BothTold a o (CameFrom bs)) (sym same) (by a)
  where
    by : (a : Option (List (List ℕ))) → BothTold a a (CameFrom bs)
    by None = tt
    by (Some x) = λ id b held. inl held

pub still_in_order : (name source : List ℕ) (t : Data) (a c : Option (List (List ℕ))) → c ≡ a → BothTold a c (InOrder name source t)
still_in_order name source t a c same = subst (λ (o : Option (List (List ℕ))). BothTold a o (InOrder name source t)) (sym same) (by a)
  where
    by : (a : Option (List (List ℕ))) → BothTold a a (InOrder name source t)
    by None = tt
    by (Some x) = λ held. inl held

-- ---- the value

module _ (rows : List Row) (schema : IsSchema rows) (h : List ℕ → List ℕ) (ty : TypeNo) (b : List ℕ) where
  -- the one that was read is the one that stands
  module _ (t : Data) (block : IsBlockOf b t) (held : List (List ℕ)) (v : Value) (st : StandsInBlock h rows ty (id_of b) held b v) where
    root_there : block_at held (id_of (spell t)) ≡ Some (spell t)
    root_there =
        let here : block_at held (id_of b) ≡ Some b
        = (standing_are_held (block_at held) h rows ty (id_of b) v st.stands).there ∙ ap Some (sym st.spelled) in
        subst (λ (c : List ℕ). block_at held (id_of c) ≡ Some c) block.spelled here

    pub room_of : HasBeneath h rows ty t held → HasRoom rows ty v
    room_of x =
        let w : Value = x.0 in
        let more : IsHeld (block_at held) h rows deepest (plainly ty) t w
        = record { fits = fits_more rows 95 deepest (omega arith) (plainly ty) w x.1.fits; tree = x.1.tree; held = x.1.held } in
        let other : Stands bare (block_at held) h rows ty (id_of b) w
        = subst (λ (c : List ℕ). Stands bare (block_at held) h rows ty (id_of c) w) (sym block.spelled) (held_stand (block_at held) h rows ty t w block.within.sized root_there more) in
        subst (HasRoom rows ty) (sym (one_stands bare bare_is_frame (block_at held) h rows schema ty (id_of b) v w st.stands other)) x.1.fits

    -- ---- beneath the new root

    module _ (name source : List ℕ) (now : List (List ℕ)) (keeps : Keeps held now) (new : AreHeld (new_blocks name source t) now) (text_short : length (schema_block source) ≤ longest_block)
        (root_short : length (root_block name source t) ≤ longest_block) where
      all_short : (xs : List (List ℕ)) → AllByRecursion (IsHeldBlock (block_at held)) xs → AllByRecursion (λ c. length c ≤ longest_block) (xs ++ schema_block source ∷ [])
      all_short [] all = (text_short, tt)
      all_short (x ∷ xs) all = (all.0.short, all_short xs all.1)

      all_there : (xs : List (List ℕ)) → AllByRecursion (IsHeldBlock (block_at held)) xs → AllByRecursion (λ c. block_at now (id_of c) ≡ Some c) (xs ++ schema_block source ∷ [])
      all_there [] all = (new.0, tt)
      all_there (x ∷ xs) all = (keeps (id_of x) x all.0.there, all_there xs all.1)

      pub stands_named : (id : List ℕ) → id ≡ root_id (named name source) t → HasRoom rows ty v → Stands (named name source) (block_at now) h rows ty id v
      stands_named id is room =
          let x = held_by rows schema h ty b held v st t block in
          record {
            tree = t;
            storable = record { fits = room; tree = x.tree; sized = (root_short, all_short (nodes h rows (plainly ty) v) x.held) };
            root = is;
            all = (new.1.0, all_there (nodes h rows (plainly ty) v) x.held);
          }

  -- ---- the answer

  module _ (name source : List ℕ) (m k : Moment) where
    abbrev Room : Type 0
    Room = OfStanding h rows ty b m (λ held v. HasRoom rows ty v)

    room_where : (t : Data) → IsBlockOf b t → OnlyReads m k → FromBlocks k (HasBeneath h rows ty t) → Room
    room_where t block only found = λ held v told st. room_of t block held v st (from_told k (HasBeneath h rows ty t) found held (only.blocks ∙ told))

    was_read : (t : Data) (n : Moment) → OnlyReads m k → Later k n → FromBlocks k (HasBeneath h rows ty t) → WasRead h rows ty t m n
    was_read t n only later found = record { moment = k; reads = only; later = later; beneath = found }

    -- nothing was put
    unput : (t : Data) (e : NameFault) → OnlyReads m k → NameAnswer h rows ty b name source t m (Err e) k → NamesData h rows ty b name source t m (Err e) k
    unput t e only answer = record {
      answer = answer;
      adds = none_came (new_blocks name source t) m.blocks k.blocks only.blocks;
      order = still_in_order name source t m.blocks k.blocks only.blocks;
    }

    load_answer : (t : Data) (e : NameFault) → BeneathAnswer h rows ty b t m (Err e) k → NameAnswer h rows ty b name source t m (Err e) k
    load_answer t F.Depth x = x
    load_answer t F.Size x = absurd x
    load_answer t F.Store x = x
    load_answer t (F.Clash id kept new) x = absurd x
    load_answer t (F.Block id why) x = x
    load_answer t F.Memory x = tt

    few_puts : OnlyReads m k → k.puts ≤ m.puts + 2
    few_puts only = let same = only.puts in omega (arith, same)

    -- it wasn't read
    pub not_loaded : (e : NameFault) → LoadsBeneath h rows ty b m (Err e) k → Names h rows ty b name source m (Err e) k
    not_loaded e x = record {
      each = λ t doc. unput t e x.only (load_answer t e (x.each t doc));
      later = x.only.later;
      failed = x.failed;
      gets = x.gets;
      puts = few_puts x.only;
    }

    make_answer : (t : Data) → IsBlockOf b t → (e : NameFault) → OnlyReads m k → FromBlocks k (HasBeneath h rows ty t) → MakesBlocks name source t (Err e) → NameAnswer h rows ty b name source t m (Err e) k
    make_answer t block F.Size only found x = record { read = was_read t k only (Later-refl k) found; room = room_where t block only found; long = x }
    make_answer t block F.Memory only found x = tt
    make_answer t block F.Depth only found x = absurd x
    make_answer t block F.Store only found x = absurd x
    make_answer t block (F.Clash id kept new) only found x = absurd x
    make_answer t block (F.Block id why) only found x = absurd x

    made_failed : (e : NameFault) → IsMakingFault e → Failed m e k
    made_failed F.Store cause = absurd cause
    made_failed F.Depth cause = tt
    made_failed F.Size cause = tt
    made_failed (F.Clash id kept new) cause = tt
    made_failed (F.Block id why) cause = tt
    made_failed F.Memory cause = tt

    -- its blocks weren't made
    pub not_made : (e : NameFault) → LoadsBeneath h rows ty b m (Ok tt) k → ((t : Data) → IsBlockOf b t → MakesBlocks name source t (Err e)) → IsMakingFault e → Names h rows ty b name source m (Err e) k
    not_made e x makes cause = record {
      each = λ t doc. unput t e x.only (make_answer t doc.block e x.only (x.each t doc) (makes t doc.block));
      later = x.only.later;
      failed = made_failed e cause;
      gets = x.gets;
      puts = few_puts x.only;
    }

    -- they were put, or not
    module _ (n : Moment) (text root : List ℕ) (x : LoadsBeneath h rows ty b m (Ok tt) k) (makes : (t : Data) → IsBlockOf b t → AreMade name source t text root) (name_text : IsUtf8 name)
        (source_text : IsUtf8 source) where
      abbrev Puts : Result (Unit {0}) NameFault → Type 0
      Puts r = PutsBoth k text root r n

      same_blocks : (t : Data) → AreMade name source t text root → text ∷ root ∷ [] ≡ new_blocks name source t
      same_blocks t made = (λ i. made.text_is i ∷ made.root_is i ∷ [])

      adds_all : (t : Data) → AreMade name source t text root → AddsOnly k n (text ∷ root ∷ []) → AddsOnly m n (new_blocks name source t)
      adds_all t made adds =
          subst (λ (o : Option (List (List ℕ))). BothTold o n.blocks (CameFrom (new_blocks name source t))) x.only.blocks
          (subst (λ (bs : List (List ℕ)). AddsOnly k n bs) (same_blocks t made) adds)

      in_order : (r : Result (Unit {0}) NameFault) (t : Data) → AreMade name source t text root → Puts r → BothTold m.blocks n.blocks (InOrder name source t)
      in_order r t made y =
          subst (λ (o : Option (List (List ℕ))). BothTold o n.blocks (InOrder name source t)) x.only.blocks
          (subst (λ (z : List ℕ × List ℕ). BothTold k.blocks n.blocks
          (λ was now. block_at now (id_of z.1) ≡ Some z.1 → (block_at was (id_of z.1) ≡ Some z.1) ⊎ (block_at now (id_of z.0) ≡ Some z.0)))
          (λ i. (made.text_is i, made.root_is i)) y.order)

      keeps_told : (held now : List (List ℕ)) → m.blocks ≡ Some held → n.blocks ≡ Some now → Later k n → Keeps held now
      keeps_told held now told then later =
          subst (λ (o : Option (List (List ℕ))). BothTold (Some held) o Keeps) then (subst (λ (o : Option (List (List ℕ))). BothTold o n.blocks Keeps) (x.only.blocks ∙ told) later.keeps)

      are_fit : (t : Data) → AreDocData rows ty b t → Later k n → AreFit h rows ty b name source t m n
      are_fit t doc later =
          let made = makes t doc.block in
          let found = x.each t doc in
          record { read = was_read t n x.only later found; room = room_where t doc.block x.only found; short = (made.text_short, (made.root_short, tt)) }

      has_named : (t : Data) → AreDocData rows ty b t → (id : List ℕ) → id ≡ id_of root → Puts (Ok tt) → HasNamed h rows ty b name source t m id n
      has_named t doc id is y =
          let made = makes t doc.block in
          let found = x.each t doc in
          let held : Holds n (new_blocks name source t) = subst (λ (bs : List (List ℕ)). Holds n bs) (same_blocks t made) y.answer in
          let root_is : id ≡ root_id (named name source) t = is ∙ ap id_of made.root_is in
          record {
            fit = are_fit t doc y.later;
            naming = record { name_text = name_text; source_text = source_text; short = made.text_short };
            root = root_is;
            held = held;
            stands = λ was v told st now then.
                stands_named t doc.block was v st name source now (keeps_told was now told then y.later) (subst (λ (o : Option (List (List ℕ))). IfTold o (AreHeld (new_blocks name source t))) then held)
                made.text_short made.root_short id root_is (room_where t doc.block x.only found was v told st);
          }

      put_fault_answer : (t : Data) → AreDocData rows ty b t → (e : NameFault) → Puts (Err e) → PutAnswer k (text ∷ root ∷ []) (Err e) n → NameAnswer h rows ty b name source t m (Err e) n
      put_fault_answer t doc F.Store y z = rose_later m.faults k.faults n.faults x.only.later.faults z
      put_fault_answer t doc (F.Clash id kept new) y z =
          let w = subst (λ (bs : List (List ℕ)). PutAnswer k bs (Err (F.Clash id kept new)) n) (same_blocks t (makes t doc.block)) z in
          record { fit = are_fit t doc y.later; among = w.0; clash = w.1 }
      put_fault_answer t doc F.Memory y z = tt
      put_fault_answer t doc F.Depth y z = absurd z
      put_fault_answer t doc F.Size y z = absurd z
      put_fault_answer t doc (F.Block id why) y z = absurd z

      put_failed : (e : NameFault) → PutAnswer k (text ∷ root ∷ []) (Err e) n → Failed m e n
      put_failed F.Store z = rose_later m.faults k.faults n.faults x.only.later.faults z
      put_failed (F.Clash id kept new) z = tt
      put_failed F.Memory z = tt
      put_failed F.Depth z = tt
      put_failed F.Size z = tt
      put_failed (F.Block id why) z = tt

      few_gets : n.gets ≡ k.gets → OfStanding h rows ty b m (λ held v. HasRoom rows ty v → n.gets ≤ m.gets + length (nodes h rows (plainly ty) v))
      few_gets same = λ held v told st room. let few = x.gets held v told st room in omega (arith, few, same)

      few_puts_then : n.puts ≤ k.puts + 2 → n.puts ≤ m.puts + 2
      few_puts_then most = let same = x.only.puts in omega (arith, most, same)

      pub named_put : (id : BlockId) → id.0 ≡ id_of root → Puts (Ok tt) → Names h rows ty b name source m (Ok id) n
      named_put id is y = record {
        each = λ t doc. record { answer = has_named t doc id.0 is y; adds = adds_all t (makes t doc.block) y.adds; order = in_order (Ok tt) t (makes t doc.block) y };
        later = Later-trans m k n x.only.later y.later;
        failed = tt;
        gets = few_gets y.gets;
        puts = few_puts_then y.puts;
      }

      pub not_put : (e : NameFault) → Puts (Err e) → Names h rows ty b name source m (Err e) n
      not_put e y = record {
        each = λ t doc. record { answer = put_fault_answer t doc e y y.answer; adds = adds_all t (makes t doc.block) y.adds; order = in_order (Err e) t (makes t doc.block) y };
        later = Later-trans m k n x.only.later y.later;
        failed = put_failed e y.answer;
        gets = few_gets y.gets;
        puts = few_puts_then y.puts;
      }
