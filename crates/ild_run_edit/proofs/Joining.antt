-- A part is built, and comes to its place: what both leave in a store.
use Rattle.std.proofs.Common.{◌≡◌, ◌⊎◌, inl, inr, ℕ, ◌+◌, ◌≤◌, List, [], ◌∷◌, Option, Some, None, refl, ap, sym, subst, ◌∙◌, arith}
use Rattle.std.specs.Prelude.{Contains, IsSome, Result, Ok, Err}
use Rattle.std.specs.List.{AllByRecursion}
use Rattle.std.proofs.lemmas.Option.{same_Some}
use Rattle.ild_edges.specs.Gained.{AreIdsGiven}
use Rattle.ild_cbor.specs.Block.{IsBlockOf}
use Rattle.ild_cbor.specs.Nodes.{HasData as StandsFor}
use Rattle.ild_cbor.specs.declared.node.Node.{Node}
use Rattle.ild_data.specs.Data.{Data}
use Rattle.ild_data.specs.Spell.{spell}
use Rattle.ild_edges.proofs.Later.{Later-trans}
use Rattle.ild_edges.specs.Store.{Moment, Later, Keeps, block_at}
use Rattle.ild_edges.specs.Told.{BothTold, IfTold}
use Rattle.ild_open_held.specs.Held.{IsHeld}
use Rattle.ild_schema.specs.declared.number.TypeNo.{TypeNo}
use Rattle.ild_schema.specs.declared.row.Row.{Row}
use Rattle.ild_schema.specs.Slots.{plainly}
use Rattle.ild_schema.specs.Value.{Value}
use Rattle.ild_script.specs.declared.reply.No.{No}
use Rattle.ild_script_meaning.specs.Lines.{read_json, new_nodes}
use Rattle.ild_script_meaning.specs.Costs.{blocks_met}
use Rattle.ild_script_session.specs.Session.{Due}
use Rattle.ild_script_session.specs.Step.{AddsOnly, AddsWhole, Gains, IsWhole}
use Rattle.ild_script_session.proofs.Came.{Came}
use Rattle.ild_typed.specs.At.{InSlot}
use Rattle.ild_typed.specs.Blocks.{nodes}
use Rattle.ild_typed.specs.Schema.{IsSchema}
use Rattle.ild_typed.specs.Stands.{bare}
use Rattle.ild_typed.specs.Typed.{Typed}
use Rattle.ild_path_edits.specs.Edit.{Edit, new_slot, new_part, with_part, changed_by, change, line_change, path_of}
use Rattle.ild_path_edits.specs.Judged.{Tests}
use Rattle.ild_path_edits.proofs.KeepTyped.{edits_keep_typed}
use Rattle.ild_path_judged.specs.Place.{bringing}
use Rattle.ild_path_judged.proofs.Order.{unrefused_have_data}
use Rattle.ild_path_around.specs.Telling.{verb_of}
use Rattle.ild_path_around.specs.Telling.{PlacesTellOn}
use Rattle.ild_path_place.specs.Tells.{slot_in, table_at, type_at}
use Rattle.ild_path_place.specs.declared.place.Place.{Place}
use Rattle.ild_path_way.specs.Way.{nodes_met}
use Rattle.ild_path.specs.Replaces.{Brings, ComesBy, IsHeldPart, Spares}
use Rattle.ild_path.specs.declared.fault.EditFault.{EditFault}
use Rattle.ild_path.specs.declared.fault.EditFault.TheVariants as F
use Rattle.ild_path_room.specs.Room.{Coming, by_set, by_insert}
use Rattle.ild_run_standing.specs.Answers.{PassesOn}
use Rattle.ild_run_edit.specs.inside.Moves.{line_by, due_of, Moves, MoveAnswer, Fails, IsLet, PutsPart, BuildsPart, BuiltPart, done_as}
use Rattle.ild_run_edit.proofs.Composing.{rose_later, fails_later}
use Rattle.ild_run_edit.proofs.Judging.{path_texts, brings_part}
use Rattle.ild_run_edit.proofs.Passing.{coming_passes_on, given_later, told_ok}
use Rattle.ild_run_edit.proofs.Settling.{answer, only_due, whole_due, puts_due, some_met}
use Rattle.ild_run_edit.proofs.Still.{slot_as, sound_of}

pub built_none : (h : List ℕ → List ℕ) (place : Place) (w : Value) (json : List ℕ) (m k : Moment) (r : No) → BuildsPart h place w json m (Err r) k → PutsPart h place w json m (Err r) k
built_none h place w json m k r x = record { later = x.later; fails = x.fails; moves = x.builds }

-- ---- two steps of a store

both : (New : List ℕ → List (List ℕ) → Type 0) → ((b : List ℕ) (x y : List (List ℕ)) → Keeps x y → New b x → New b y) → (o p q : Option (List (List ℕ))) → BothTold p q Keeps → BothTold o p (Came New) → BothTold p q (Came New) → BothTold o q (Came New)
both New later None None None k a b = tt
both New later None None (Some z) k a b = b
both New later None (Some y) q k a b = absurd a
both New later (Some x) None q k a b = absurd a
both New later (Some x) (Some y) None k a b = absurd b
both New later (Some x) (Some y) (Some z) k a b = λ id c there. by id c (b id c there) where
  by : (id c : List ℕ) → (block_at y id ≡ Some c) ⊎ New c z → (block_at x id ≡ Some c) ⊎ New c z
  by id c (inr new) = inr new
  by id c (inl was) = again (a id c was) where
    again : (block_at x id ≡ Some c) ⊎ New c y → (block_at x id ≡ Some c) ⊎ New c z
    again (inl first) = inl first
    again (inr new) = inr (later c y z k new)

some_kept : (x y : List (List ℕ)) → Keeps x y → (id : List ℕ) → IsSome (block_at x id) → IsSome (block_at y id)
some_kept x y k id s = by (block_at x id) refl s where
  by : (o : Option (List ℕ)) → block_at x id ≡ o → IsSome o → IsSome (block_at y id)
  by None e s = absurd cc
  by (Some b) e s = subst IsSome (sym (k id b e)) refl

all_kept : (x y : List (List ℕ)) → Keeps x y → (ids : List (List ℕ)) → AllByRecursion (λ id. IsSome (block_at x id)) ids → AllByRecursion (λ id. IsSome (block_at y id)) ids
all_kept x y k [] a = tt
all_kept x y k (id ∷ ids) a = (some_kept x y k id a.0, all_kept x y k ids a.1)

gains_both : (m k j : Moment) (d : Due Value) → Later k j → Gains m d k → AddsOnly k j d.adds → AddsWhole k j d.children → Gains m d j
gains_both m k j d later g a w = record {
  adds = both (λ b now. Contains d.adds b) (λ b x y keeps c. c) m.blocks k.blocks j.blocks later.keeps g.adds a;
  whole = both (λ b now. IsWhole now (d.children b)) (λ b x y keeps c. record { ids = c.ids; place = c.place; children = all_kept x y keeps c.ids c.children }) m.blocks k.blocks j.blocks later.keeps g.whole w;
}

told_later : (was : List (List ℕ)) (o p : Option (List (List ℕ))) → o ≡ Some was → BothTold o p Keeps → (held : List (List ℕ)) × (p ≡ Some held) × Keeps was held
told_later was o p e k = by p (subst (λ o. BothTold o p Keeps) e k) where
  by : (p : Option (List (List ℕ))) → BothTold (Some was) p Keeps → (held : List (List ℕ)) × (p ≡ Some held) × Keeps was held
  by None k = absurd k
  by (Some held) k = (held, refl, k)

-- ---- the line's change

pub line_made : (rows : List Row) (t : Tests) (p : InSlot) (how : Coming) (path : List (List ℕ)) (json : List ℕ) (w : Value) (s : _) → new_slot rows p (bringing how path w) ≡ Some s → new_part rows t.is_key read_json (Some s) json ≡ Ok w
    → line_change rows t.is_key read_json p (line_by how path json) ≡ change rows t.is_key p (bringing how path w)
line_made rows t p by_set path json w s e g =
    ap (λ o. changed_by rows t.is_key p (with_part (bringing by_set path) (new_part rows t.is_key read_json o json))) (slot_as rows p by_set path json w ∙ e) ∙ ap (λ r. changed_by rows t.is_key p (with_part (bringing by_set path) r)) g
line_made rows t p by_insert path json w s e g =
    ap (λ o. changed_by rows t.is_key p (with_part (bringing by_insert path) (new_part rows t.is_key read_json o json))) (slot_as rows p by_insert path json w ∙ e) ∙ ap (λ r. changed_by rows t.is_key p (with_part (bringing by_insert path) r)) g

line_path : (how : Coming) (path : List (List ℕ)) (json : List ℕ) → path_of (line_by how path json) ≡ path
line_path by_set path json = refl
line_path by_insert path json = refl

spares_fails : (m k : Moment) (r : Result (List ℕ) EditFault) → Spares m r k → Fails m (done_as r) k
spares_fails m k (Ok b) x = tt
spares_fails m k (Err F.Exhausted) x = tt
spares_fails m k (Err F.NoKey) x = tt
spares_fails m k (Err F.Size) x = tt
spares_fails m k (Err F.Store) x = x.cause
spares_fails m k (Err (F.Clash id kept new)) x = tt
spares_fails m k (Err F.Memory) x = tt

comes_by : (how : Coming) (path : List (List ℕ)) (w : Value) → ComesBy (verb_of how) path w (bringing how path w)
comes_by by_set path w = refl
comes_by by_insert path w = refl

in_puts : (j k m d a b : ℕ) → d ≡ a + b → k ≤ m + b → j ≤ k + a → j ≤ m + d
in_puts j k m d a b e f g = omega arith

-- what is answered of the second step, from before the first
answer_from : (h : List ℕ → List ℕ) (rows : List Row) (t : Tests) (n : TypeNo) (v : Value) (e : Edit (List ℕ)) (m k j : Moment) (c : Value) (r : Result (List ℕ) EditFault) → Later m k → MoveAnswer h rows t n v e k (done_as r) j → MoveAnswer h rows t n v e m (done_as r) j
answer_from h rows t n v e m k j c (Ok b) later a = a
answer_from h rows t n v e m k j c (Err F.Exhausted) later a = a
answer_from h rows t n v e m k j c (Err F.NoKey) later a = a
answer_from h rows t n v e m k j c (Err F.Size) later a = a
answer_from h rows t n v e m k j c (Err F.Store) later (inl a) = inl a
answer_from h rows t n v e m k j c (Err F.Store) later (inr a) = inr (rose_later m.faults k.faults j.faults later.faults a)
answer_from h rows t n v e m k j c (Err (F.Clash id kept new)) later a = a
answer_from h rows t n v e m k j c (Err F.Memory) later a = a

module _ (h : List ℕ → List ℕ) (place : Place) (w : Value) (json : List ℕ) (schema : IsSchema (table_at place)) (stay : PlacesTellOn) (typed : Typed (table_at place) (slot_in place) w) where
  abbrev rows : List Row
  rows = table_at place

  abbrev n : TypeNo
  n = type_at place

  joined_moves : (m k j : Moment) (b : List ℕ) (item : Node) (r : Result (List ℕ) EditFault) → Later m k → Spares k r j → Brings h place item k r j → ((d : Data) → IsBlockOf b d → StandsFor item d)
      → (t : Tests) (v : Value) (how : Coming) (path : List (List ℕ)) → IsLet h place t v w how path json m → BuiltPart h place t v w (line_by how path json) m b k → Moves h rows t n v (line_by how path json) m (done_as r) j
  joined_moves m k j b item r before spares x stands t v how path y z =
      let p : InSlot = (plainly n, v) in
      let e = line_by how path json in
      let c = y.value in
      let tests = y.coming.at.tests in
      let s = sound_of h rows n v y.coming.at.tree y.coming.at.storable in
      let slot = y.coming.is.slot_is how w refl in
      let full = y.free.exhausted ∙ z.full in
      let c_typed = edits_keep_typed rows t.is_key schema tests.keys p (bringing how path w) c (path_texts how path w y.coming.at.texts) (brings_part rows how p path w (slot_in place) slot typed) s.0 y.made in
      let d = unrefused_have_data h rows schema (plainly n) c c_typed y.free.hole y.free.delimiter full in
      let made = line_made rows t p how path json w (slot_in place) slot y.part ∙ y.made in
      let now = told_later y.coming.at.was m.blocks k.blocks y.coming.at.told before.keeps in
      let held = subst (λ (o : Option (List (List ℕ))). IfTold o (λ now. IsHeld (block_at now) h rows z.room (slot_in place) z.tree w)) now.1 z.held in
      let here = stay h rows y.coming.at.was now.0 p path (verb_of how) place now.2 y.coming.is in
      let part : IsHeldPart h rows now.0 (slot_in place) item w = record { room = z.room; tree = z.tree; held = held; stands_for = stands z.tree z.block } in
      let q = x now.0 n v w c d.0 path (verb_of how) (bringing how path w) now.1 (record { rooted = here.rooted; is = here.is }) (comes_by how path w)
      (λ s is. subst (λ s. IsHeldPart h rows now.0 s item w) (same_Some (slot_in place) s (sym slot ∙ is)) part)
      (record { is_key = t.is_key; keys = tests.keys; made = y.made; tree = d.1; fits = y.free.fits }) in
      let brought = given_later k.given j.given (nodes h rows (slot_in place) w) spares.later.given z.given in
      let passing = told_ok r j.given (AreIdsGiven (nodes h rows (slot_in place) w)) (AreIdsGiven (spell d.0 ∷ nodes_met h rows (plainly n, c) path))
      (λ now. PassesOn (record { frame = bare; hash = h; rows = rows; tests = t; ty = n }) now v c)
      (coming_passes_on h rows t n v c y.coming.at.tree d.0 y.coming.at.storable.tree d.1 schema tests how path (slot_in place) w slot typed y.coming.at.texts (96, s.1.fits) y.made) brought q.given in
      let due = puts_due h rows t n v e c d.0 schema tests c_typed y.free.hole y.free.delimiter y.free.fits full d.1 made in
      record {
        answer = answer_from h rows t n v e m k j c r before (answer h rows t n v e c d.0 schema tests c_typed y.free.hole y.free.delimiter y.free.fits full d.1 made k j r q.answer passing);
        gains = gains_both m k j (due_of h rows t n v e) spares.later z.gains (only_due h rows t n v e c d.0 schema tests c_typed y.free.hole y.free.delimiter y.free.fits full d.1 made k j q.adds)
            (whole_due h rows t n v e c d.0 schema tests c_typed y.free.hole y.free.delimiter y.free.fits full d.1 made k j q.whole);
        still = λ none. absurd (some_met h rows t n v e c d.0 schema tests c_typed y.free.hole y.free.delimiter y.free.fits full d.1 made (due_of h rows t n v e).puts due none);
        gets = let g = spares.gets in let f = z.gets in omega arith;
        puts = in_puts j.puts k.puts m.puts (due_of h rows t n v e).puts (blocks_met h rows (plainly n, c) (path_of e)) (new_nodes (record { frame = bare; hash = h; rows = rows; tests = t; ty = n }) v e) due z.puts
            (subst (λ path. j.puts ≤ k.puts + blocks_met h rows (plainly n, c) path) (sym (line_path how path json)) q.puts);
      }

  pub put_done : (m k j : Moment) (b : List ℕ) (item : Node) (r : Result (List ℕ) EditFault) → BuildsPart h place w json m (Ok b) k → Spares k r j → Brings h place item k r j → ((d : Data) → IsBlockOf b d → StandsFor item d) → PutsPart h place w json m (done_as r) j
  put_done m k j b item r x spares y stands = record {
    later = Later-trans m k j x.later spares.later;
    fails = fails_later m k j (done_as r) x.later.faults (spares_fails k j r spares);
    moves = λ t v how path l. joined_moves m k j b item r x.later spares y stands t v how path l (x.builds t v how path l);
  }
