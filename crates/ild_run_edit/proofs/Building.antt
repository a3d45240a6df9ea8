-- A part is built: what that leaves in a store is due, whatever is answered.
use Rattle.std.proofs.Common.{◌≡◌, ◌⊎◌, inl, inr, ℕ, ◌+◌, ◌≤◌, ◌<◌, List, [], ◌∷◌, ◌++◌, append-nil, length, map, true, false, Option, Some, None, refl, ap, sym, subst, ◌∙◌, arith}
use Rattle.std.specs.Prelude.{Contains, IfOk, Result, Ok, Err, option_map, option_and_then}
use Rattle.std.specs.List.{AllByRecursion}
use Rattle.std.specs.Option.{ForSome}
use Rattle.std.proofs.lemmas.List.Elements.{Contains-append_left}
use Rattle.ild_build_blocks.specs.Builds.{BuildAnswer, Builds, PutsSome}
use Rattle.ild_build_blocks.specs.declared.fault.BuildFault.{BuildFault}
use Rattle.ild_build_blocks.specs.declared.fault.BuildFault.TheVariants as B
use Rattle.ild_bulk.specs.Putting.{GivesAll}
use Rattle.ild_bulk.proofs.Puts.{told-map}
use Rattle.ild_bulk_places.specs.Leaving.{AddsPlaced, HasPlaceHeld}
use Rattle.ild_cbor.specs.Block.{IsBlockOf}
use Rattle.ild_path.proofs.Coming.{in_short as among_short}
use Rattle.ild_data.proofs.AllOf.{all_contained, contains_more}
use Rattle.ild_data.specs.Data.{Data}
use Rattle.ild_data.specs.Limits.{longest_block}
use Rattle.ild_data.specs.Spell.{id_of, spell}
use Rattle.ild_edges.specs.Store.{Moment, block_at}
use Rattle.ild_edges.specs.Told.{BothTold, IfTold}
use Rattle.ild_open_held.specs.Held.{IsHeld}
use Rattle.ild_schema.specs.declared.number.Slot.{Slot}
use Rattle.ild_schema.specs.declared.number.TypeNo.{TypeNo}
use Rattle.ild_schema.specs.declared.row.Row.{Row}
use Rattle.ild_schema.specs.Slots.{plainly}
use Rattle.ild_schema.specs.Value.{Value}
use Rattle.ild_script.specs.declared.reply.No.{No}
use Rattle.ild_script.specs.declared.reply.No.TheVariants as N
use Rattle.ild_script_meaning.specs.Costs.{blocks_met, meant_in, nodes_in, brought as part_brought}
use Rattle.ild_script_meaning.specs.Lines.{Setting, read_json, new_nodes, short}
use Rattle.ild_script_session.specs.Session.{Due}
use Rattle.ild_script_session.specs.Step.{Gains, IsWhole}
use Rattle.ild_typed.proofs.Fronting.{values_fronts}
use Rattle.ild_typed.proofs.Judging.{tree_sound}
use Rattle.ild_typed.proofs.Rooms.{all_more, fits_more}
use Rattle.ild_typed.proofs.TreeValues.{whole_tree}
use Rattle.ild_typed.specs.At.{InSlot}
use Rattle.ild_typed.specs.Blocks.{nodes}
use Rattle.ild_typed.specs.Fits.{Fits}
use Rattle.ild_typed.specs.Hamt.{whole}
use Rattle.ild_typed.specs.Judged.{breaks_delimiter, exhausts}
use Rattle.ild_typed.specs.Represented.{represented}
use Rattle.ild_typed.specs.Schema.{IsSchema}
use Rattle.ild_typed.specs.Stands.{bare, blocks_of}
use Rattle.ild_typed.specs.Typed.{Typed}
use Rattle.ild_typed_places.proofs.Listing.{all_one}
use Rattle.ild_typed_places.specs.Places.{children_in, places_in}
use Rattle.ild_value_meaning.specs.MeantRead.{meant}
use Rattle.ild_path_brought.specs.Laws.{IsBrought}
use Rattle.ild_path_brought.proofs.Lasting.{long_brought}
use Rattle.ild_path_brought.proofs.Placing.{nodes_of_brought, places_of_brought}
use Rattle.ild_path_edits.specs.Edit.{Edit, change, line_change, new_part, new_slot, path_of, read_or}
use Rattle.ild_path_edits.specs.Judged.{Tests, judged_result, unless_judged}
use Rattle.ild_path_edits.proofs.KeepTyped.{edits_keep_typed, meant_ok}
use Rattle.ild_path_judged.specs.Laws.{IsSound}
use Rattle.ild_path_judged.specs.Place.{bringing}
use Rattle.ild_path_judged.proofs.Order.{refused_in_order, unrefused_have_data}
use Rattle.ild_path_place.specs.Tells.{slot_in, table_at, type_at}
use Rattle.ild_path_place.specs.declared.place.Place.{Place}
use Rattle.ild_path_room.specs.Room.{Coming, by_set, by_insert}
use Rattle.ild_run_edit.specs.inside.Judges.{IsFreePart}
use Rattle.ild_run_edit.specs.inside.Moves.{line_by, due_of, edited_by, BuildsAnswer, BuildsPart, BuiltPart, Fails, IsLet, IsPartBlock, MoveAnswer, Moves, built_as}
use Rattle.ild_run_edit.proofs.Passing.{given_all}
use Rattle.ild_run_edit.proofs.Joining.{line_made}
use Rattle.ild_run_edit.proofs.Judging.{path_texts, brings_part}
use Rattle.ild_run_edit.proofs.Listing.{held_blocks, long_one, placed_whole}
use Rattle.ild_run_edit.proofs.Settling.{adds_are, only_due, puts_due, some_met, too_long, whole_due}
use Rattle.ild_run_edit.proofs.Still.{edited_part, slot_as, sound_of, still_moves}

-- ---- the nodes of the part that a line brings

read_some : (by : Data → Option Value) (o : Option Data) (w : Value) → read_or by o ≡ Ok w → option_and_then by o ≡ Some w
read_some by None w e = absurd cc
read_some by (Some d) w e = meant_ok (by d) w e

module _ (rows : List Row) (t : Tests) (p : InSlot) (path : List (List ℕ)) (json : List ℕ) (slot : Slot) (w : Value) (part : new_part rows t.is_key read_json (Some slot) json ≡ Ok w) where
  meant_is : (o : Option Slot) → o ≡ Some slot → meant_in rows t.is_key read_json o json ≡ Some (slot, w)
  meant_is o e = ap (λ o. meant_in rows t.is_key read_json o json) e ∙ ap (option_map (λ w. (slot, w))) (read_some (meant rows t.is_key slot) (read_json json) w part)

  brought_is : (how : Coming) → new_slot rows p (bringing how path w) ≡ Some slot → part_brought rows t.is_key read_json p (line_by how path json) ≡ Some (slot, w)
  brought_is by_set e = meant_is (new_slot rows p (line_by by_set path json)) (slot_as rows p by_set path json w ∙ e)
  brought_is by_insert e = meant_is (new_slot rows p (line_by by_insert path json)) (slot_as rows p by_insert path json w ∙ e)

-- ---- among blocks

bare_blocks : (h : List ℕ → List ℕ) (rows : List Row) (n : TypeNo) (c : Value) (u : Data) → spell u ∷ nodes h rows (plainly n) c ≡ blocks_of bare h rows n c u
bare_blocks h rows n c u = ap (λ (bs : List (List ℕ)). spell u ∷ bs) (sym (append-nil (nodes h rows (plainly n) c)))

head_or : (a : List ℕ) (bs : List (List ℕ)) (b : List ℕ) → Contains (a ∷ bs) b → (a ≡ b) ⊎ Contains bs b
head_or a bs b here = all_contained (λ b. (a ≡ b) ⊎ Contains bs b) (a ∷ bs) b (inl refl, all_more (Contains bs) (λ b. (a ≡ b) ⊎ Contains bs b) (λ b h. inr h) bs (all_one bs)) here

-- ---- faults

-- the answer is of the store's faults where one is told
builds_fail : (h : List ℕ → List ℕ) (rows : List Row) (slot : Slot) (w : Value) (m k : Moment) (r : Result (List ℕ) BuildFault) → BuildAnswer h rows slot w m r k → Fails m (built_as r) k
builds_fail h rows slot w m k (Ok b) a = tt
builds_fail h rows slot w m k (Err B.Exhausted) a = tt
builds_fail h rows slot w m k (Err B.Size) a = tt
builds_fail h rows slot w m k (Err B.Store) a = a.0
builds_fail h rows slot w m k (Err (B.Clash id kept new)) a = tt
builds_fail h rows slot w m k (Err B.Memory) a = tt

module _ (h : List ℕ → List ℕ) (place : Place) (w : Value) (json : List ℕ) (schema : IsSchema (table_at place)) (typed : Typed (table_at place) (slot_in place) w) (free : IsFreePart place w) (deep : free.room ≤ 96) where
  abbrev rows : List Row
  rows = table_at place

  abbrev n : TypeNo
  n = type_at place

  abbrev slot : Slot
  slot = slot_in place

  abbrev own : List (List ℕ)
  own = nodes h rows slot w

  -- ---- its block

  is_block : (b : List ℕ) (x : Data) → represented (whole h) rows slot w ≡ Some x → length (spell x) ≤ longest_block → b ≡ spell x → IsBlockOf b x
  is_block b x tree sized spelled =
      let y = whole_tree h rows schema.table.texts.spelled free.room slot w x free.fits tree in
      record { within = record { tree = y.tree; nested = let a = y.nested in omega (arith, a, deep); sized = sized }; spelled = spelled }

  pub block_is : (m k : Moment) (r : Result (List ℕ) BuildFault) → BuildAnswer h rows slot w m r k → IfOk (built_as r) (IsPartBlock place)
  block_is m k (Err fault) a = tt
  block_is m k (Ok b) a =
      let x = a.has in
      let f = values_fronts h rows schema free.room slot w x.tree free.fits x.represented in
      record { tree = x.tree; block = is_block b x.tree x.represented x.sized.0 a.spelled; room = free.room; room_is = free.room_is; front = f.0; fits = f.1 }

  -- ---- on a line

  module _ (m k : Moment) (steps : PutsSome m own k) (children : BothTold m.blocks k.blocks (AddsPlaced (places_in h rows slot w))) (t : Tests) (v : Value) (how : Coming) (path : List (List ℕ)) (y : IsLet h place t v w how path json m) where
    abbrev p : InSlot
    p = (plainly n, v)

    abbrev e : Edit (List ℕ)
    e = line_by how path json

    abbrev c : Value
    c = y.value

    abbrev D : Due Value
    D = due_of h rows t n v e

    abbrev Set : Setting
    Set = record { frame = bare; hash = h; rows = rows; tests = t; ty = n }

    sound : Typed rows (plainly n) v × IsSound h rows 96 (plainly n, v)
    sound = sound_of h rows n v y.coming.at.tree y.coming.at.storable

    goes : new_slot rows p (bringing how path w) ≡ Some slot
    goes = y.coming.is.slot_is how w refl

    is_brought : IsBrought rows t.is_key p how path slot w c
    is_brought = record { schema = schema; keys = y.coming.at.tests.keys; typed = (96, sound.1.fits); texts = y.coming.at.texts; goes = goes; part = (free.room, free.fits); made = y.made }

    c_typed : Typed rows (plainly n) c
    c_typed = edits_keep_typed rows t.is_key schema y.coming.at.tests.keys p (bringing how path w) c (path_texts how path w y.coming.at.texts) (brings_part rows how p path w slot goes typed) sound.0 y.made

    made : line_change rows t.is_key read_json p e ≡ Ok c
    made = line_made rows t p how path json w slot goes y.part ∙ y.made

    edited_is : edited_by h rows t n v e ≡ judged_result bare h rows t n (change rows t.is_key p (bringing how path w))
    edited_is = edited_part h rows t n v path json how slot w goes y.part

    nodes_are : new_nodes Set v e ≡ length own
    nodes_are = ap (nodes_in h rows) (brought_is rows t p path json slot w y.part how goes)

    -- it has no trie
    exhausted_answer : exhausts h rows slot w ≡ true → edited_by h rows t n v e ≡ Err N.Exhausted
    exhausted_answer full =
        let r = refused_in_order bare h rows t y.coming.at.tests n c c_typed in
        edited_is ∙ ap (judged_result bare h rows t n) y.made ∙ ap (unless_judged c) (r.exhausted y.free.hole y.free.delimiter y.free.fits (y.free.exhausted ∙ full))

    module _ (x : Data) (tree : represented (whole h) rows slot w ≡ Some x) where
      full : exhausts h rows slot w ≡ false
      full = (tree_sound h rows slot w x tree).3

      c_full : exhausts h rows (plainly n) c ≡ false
      c_full = y.free.exhausted ∙ full

      data_is : (u : Data) × (represented (whole h) rows (plainly n) c ≡ Some u)
      data_is = unrefused_have_data h rows schema (plainly n) c c_typed y.free.hole y.free.delimiter c_full

      abbrev u : Data
      u = data_is.0

      abbrev blocks : List (List ℕ)
      blocks = blocks_of bare h rows n c u

      node_in : (b : List ℕ) → Contains own b → Contains blocks b
      node_in b here =
          let a : Contains (nodes h rows (plainly n) c) b = all_contained (Contains (nodes h rows (plainly n) c)) own b (nodes_of_brought h rows t.is_key p how path slot w c is_brought) here in
          contains_more (spell u) (nodes h rows (plainly n) c ++ []) b (Contains-append_left (nodes h rows (plainly n) c) [] b a)

      -- one of its blocks is too long
      long_is : (b : List ℕ) → Contains (spell x ∷ own) b → longest_block < length b → (d : List ℕ) × Contains blocks d × (longest_block < length d)
      long_is b here long = by (head_or (spell x) own b here) where
        by : (spell x ≡ b) ⊎ Contains own b → (d : List ℕ) × Contains blocks d × (longest_block < length d)
        by (inr node) = (b, node_in b node, long)
        by (inl same) =
            let z = long_one (spell u ∷ nodes h rows (plainly n) c) (long_brought h rows t.is_key p how path slot w c is_brought x u tree data_is.1 (subst (λ b. longest_block < length b) (sym same) long)) in
            (z.0, subst (λ bs. Contains bs z.0) (bare_blocks h rows n c u) z.1, z.2)

      size_answer : (b : List ℕ) → Contains (spell x ∷ own) b → longest_block < length b → edited_by h rows t n v e ≡ Err N.Size
      size_answer b here long =
          let z = long_is b here long in
          too_long h rows t n v e c u schema y.coming.at.tests c_typed y.free.hole y.free.delimiter y.free.fits c_full data_is.1 made z.0 z.1 z.2

      module _ (sized : AllByRecursion (λ b. length b ≤ longest_block) own) where
        in_short : (b : List ℕ) → Contains own b → Contains (short blocks) b
        in_short b here = among_short blocks b (node_in b here) (all_contained (λ b. length b ≤ longest_block) own b sized here)

        came : (was : Option (List ℕ)) (b : List ℕ) → (was ≡ Some b) ⊎ Contains own b → (was ≡ Some b) ⊎ Contains (short blocks) b
        came was b (inl held) = inl held
        came was b (inr new) = inr (in_short b new)

        placed : (was : Option (List ℕ)) (now : List (List ℕ)) (b : List ℕ) → (was ≡ Some b) ⊎ HasPlaceHeld (places_in h rows slot w) now b → (was ≡ Some b) ⊎ IsWhole now (children_in bare h rows n c b)
        placed was now b (inl held) = inl held
        placed was now b (inr new) = inr (placed_whole bare h rows n c u (places_in h rows slot w) now b data_is.1 (places_of_brought h rows t.is_key p how path slot w c is_brought) new)

        gains : Gains m D k
        gains = record {
          adds = only_due h rows t n v e c u schema y.coming.at.tests c_typed y.free.hole y.free.delimiter y.free.fits c_full data_is.1 made m k
              (told-map m.blocks k.blocks (λ was now. (id b : List ℕ) → block_at now id ≡ Some b → (block_at was id ≡ Some b) ⊎ Contains own b) (λ was now. (id b : List ℕ) → block_at now id ≡ Some b → (block_at was id ≡ Some b) ⊎ Contains (short blocks) b)
              (λ was now f id b here. came (block_at was id) b (f id b here)) steps.adds);
          whole = whole_due h rows t n v e c u schema y.coming.at.tests c_typed y.free.hole y.free.delimiter y.free.fits c_full data_is.1 made m k
              (told-map m.blocks k.blocks (AddsPlaced (places_in h rows slot w)) (λ was now. (id b : List ℕ) → block_at now id ≡ Some b → (block_at was id ≡ Some b) ⊎ IsWhole now (children_in bare h rows n c b))
              (λ was now f id b here. placed (block_at was id) now b (f id b here)) children);
        }

        due : D.puts ≡ blocks_met h rows (plainly n, c) (path_of e) + new_nodes Set v e
        due = puts_due h rows t n v e c u schema y.coming.at.tests c_typed y.free.hole y.free.delimiter y.free.fits c_full data_is.1 made

        due_among : (b : List ℕ) → Contains own b → Contains D.adds b
        due_among b here = subst (λ bs. Contains bs b) (sym (adds_are h rows t n v e c u schema y.coming.at.tests c_typed y.free.hole y.free.delimiter y.free.fits c_full data_is.1 made)) (in_short b here)

        stopped : (r : No) → MoveAnswer h rows t n v e m (Err r) k → Moves h rows t n v e m (Err r) k
        stopped r a = record {
          answer = a;
          gains = gains;
          still = λ none. absurd (some_met h rows t n v e c u schema y.coming.at.tests c_typed y.free.hole y.free.delimiter y.free.fits c_full data_is.1 made D.puts due none);
          gets = let g = steps.gets in omega (arith, g);
          puts = let q = steps.puts in let a = due in let b = nodes_are in omega (arith, q, a, b);
        }

        built : (b : List ℕ) → length (spell x) ≤ longest_block → b ≡ spell x → IfTold k.blocks (λ held. AllByRecursion (λ b. block_at held (id_of b) ≡ Some b) own)
            → BothTold m.given k.given (GivesAll (map id_of own)) → BuiltPart h place t v w e m b k
        built b le spelled holds gives = record {
          tree = x;
          block = is_block b x tree le spelled;
          room = free.room;
          room_is = free.room_is;
          held = held_in k.blocks holds;
          given = given_all m.given k.given own gives;
          full = full;
          gains = gains;
          gets = let g = steps.gets in omega (arith, g);
          puts = let q = steps.puts in let b = nodes_are in omega (arith, q, b);
        }
          where
            held_in : (o : Option (List (List ℕ))) → IfTold o (λ held. AllByRecursion (λ b. block_at held (id_of b) ≡ Some b) own) → IfTold o (λ now. IsHeld (block_at now) h rows free.room slot x w)
            held_in None a = tt
            held_in (Some now) a = record { fits = free.fits; tree = tree; held = held_blocks (block_at now) own sized a }

    stays : (r : No) → k ≡ m → MoveAnswer h rows t n v e m (Err r) m → Moves h rows t n v e m (Err r) k
    stays r same a = subst (λ k. Moves h rows t n v e m (Err r) k) (sym same) (still_moves h rows t n v e m r a)

    on_line : (r : Result (List ℕ) BuildFault) → BuildAnswer h rows slot w m r k → BuildsAnswer h place t v w e m (built_as r) k
    on_line (Ok b) a = built a.has.tree a.has.represented a.has.sized.1 b a.has.sized.0 a.spelled a.held a.given
    on_line (Err B.Exhausted) a = stays N.Exhausted a.1 (inl (exhausted_answer a.0))
    on_line (Err B.Size) a = stays N.Size a.1 (inl (size_answer a.0.tree a.0.represented a.0.block a.0.among a.0.long))
    on_line (Err B.Store) a = stopped a.1.tree a.1.represented a.1.sized.1 N.Store (inr a.0)
    on_line (Err (B.Clash id kept new)) a =
        stopped a.1.tree a.1.represented a.1.sized.1 N.Clash
        (inr (record { kept = kept; new = new; held = a.0.held; among = due_among a.1.tree a.1.represented a.1.sized.1 new a.0.among; collide = a.0.collide }))
    on_line (Err B.Memory) (inl same) = stays N.Memory same (inr tt)
    on_line (Err B.Memory) (inr has) = stopped has.tree has.represented has.sized.1 N.Memory (inr tt)

  pub part_builds : (m k : Moment) (r : Result (List ℕ) BuildFault) → Builds h rows slot w m r k → BuildsPart h place w json m (built_as r) k
  part_builds m k r x = record {
    later = x.steps.later;
    fails = builds_fail h rows slot w m k r x.answer;
    builds = λ t v how path y. on_line m k x.steps x.children t v how path y r x.answer;
  }

-- ---- as the call has it

-- the room that a place leaves is no wider than a value may be
pub room_deep : (o p : Option ℕ) (room : ℕ) → o ≡ p → p ≡ Some room → ForSome o (λ n. n ≤ 96) → room ≤ 96
room_deep o p room same is deep = deep room (same ∙ is)

pub fit_within : (rows other : List Row) (slot same : Slot) (room : ℕ) (w : Value) → other ≡ rows → same ≡ slot → room ≤ 96 → Fits rows room slot w → Fits other 96 same w
fit_within table other place same room w e f deep fits =
    subst (λ rows. Fits rows 96 same w) (sym e) (subst (λ slot. Fits table 96 slot w) (sym f) (fits_more table room 96 deep place w fits))

pub parts_as : (rows other : List Row) (slot same : Slot) (w : Value) → other ≡ rows → same ≡ slot → breaks_delimiter rows slot w ≡ false → breaks_delimiter other same w ≡ false
parts_as table other place same w e f is = (λ i. breaks_delimiter (e i) (f i) w) ∙ is

pub builds_as : (h : List ℕ → List ℕ) (rows other : List Row) (slot same : Slot) (w : Value) (m k : Moment) (r : Result (List ℕ) BuildFault) → other ≡ rows → same ≡ slot → Builds h other same w m r k → Builds h rows slot w m r k
builds_as h table other place same w m k r e f x = subst (λ rows. Builds h rows place w m r k) e (subst (λ slot. Builds h other slot w m r k) f x)
