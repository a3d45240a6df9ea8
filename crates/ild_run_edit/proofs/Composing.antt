-- The new root block of an edit: what its place leaves, and what comes to it or goes.
use Rattle.std.proofs.Common.{◌≡◌, ◌≢◌, ◌⊎◌, inl, inr, ℕ, ◌+◌, ◌≤◌, List, [], ◌∷◌, Option, Some, None, true, true≢false, refl, ap, sym, subst, ◌∙◌, arith}
use Rattle.std.specs.Prelude.{Contains, IfOk, IsUtf8, Result, Ok, Err}
use Rattle.std.specs.List.{AllByRecursion}
use Rattle.std.specs.Option.{option_map_or}
use Rattle.std.proofs.lemmas.Option.{none-some, same_Some}
use Rattle.ild_data.specs.Data.{Data}
use Rattle.ild_data.specs.Spell.{id_of}
use Rattle.ild_edges.proofs.Later.{Later-trans}
use Rattle.ild_edges.specs.Count.{Rose}
use Rattle.ild_edges.specs.Store.{Moment, Later, block_at}
use Rattle.ild_edges.specs.Told.{BothTold, IfTold}
use Rattle.ild_open_parts.specs.Reads.{OnlyReads}
use Rattle.ild_schema.specs.declared.number.Slot.{Slot}
use Rattle.ild_schema.specs.declared.number.TypeNo.{TypeNo}
use Rattle.ild_schema.specs.declared.row.Row.{Row}
use Rattle.ild_schema.specs.Slots.{plainly}
use Rattle.ild_schema.specs.Value.{Value}
use Rattle.ild_script.specs.declared.reply.No.{No}
use Rattle.ild_script.specs.declared.reply.No.TheVariants as N
use Rattle.ild_script_meaning.specs.Costs.{blocks_met}
use Rattle.ild_script_meaning.specs.Lines.{read_json, value_blocks}
use Rattle.ild_script_session.specs.Session.{Due}
use Rattle.ild_script_session.specs.Step.{Gains, HasCause, Holds, IsWhole}
use Rattle.ild_typed.specs.At.{InSlot, last_holder, changed_in}
use Rattle.ild_typed.specs.Holder.{Holder}
use Rattle.ild_typed.specs.Stands.{Storable, bare, blocks_of}
use Rattle.ild_path_edits.specs.Edit.{Edit, set_at, ins_at, del_at, new_slot, new_part, with_part, changed_by, unless_kept, del_in, path_of}
use Rattle.ild_path_edits.specs.Judged.{Tests, AreTests, judged_result}
use Rattle.ild_path_edits.specs.Table.{delete_part, refusal_to_delete}
use Rattle.ild_path_around.specs.Telling.{refusal_at, unless_some}
use Rattle.ild_path_around.specs.Telling.{IsPlaceIn}
use Rattle.ild_path_place.specs.Comes.{comes}
use Rattle.ild_path_place.specs.Tells.{IsPlaceOf, table_at, type_at}
use Rattle.ild_path_place.specs.declared.place.Place.{Place}
use Rattle.ild_path_place.specs.declared.verb.Verb.{Verb}
use Rattle.ild_path_place.specs.declared.verb.Verb.TheVariants as V
use Rattle.ild_path_room.specs.Room.{by_set, by_insert}
use Rattle.ild_run_edit.specs.Edits.{edit_of}
use Rattle.ild_run_edit.specs.inside.Moves.{due_of, edited_by, Moves, MoveAnswer, IsIn, Fails, ComesTo, GoesFrom}
use Rattle.ild_run_edit.specs.inside.Swaps.{SwapsTo}
use Rattle.ild_run_edit.specs.inside.Roots.{FindAnswer, PlaceIsFound, FindFails, RootFails, RootIsMade, MakesRoot}
use Rattle.ild_run_standing.specs.Laws.{HeldAreStanding}
use Rattle.ild_run_standing.specs.Standing.{IsHeldAt, setting_of}
use Rattle.ild_view_doc.specs.Block.{HasRoot}
use Rattle.ild_view_doc.specs.Docs.{block_in, table_in, type_in}
use Rattle.ild_view_doc.specs.declared.doc.Doc.{Doc}

-- ---- counts

pub rose_later : (a b c : ℕ) → a ≤ b → Rose b c → Rose a c
rose_later a b c le rose = omega arith

pub fails_later : (m k n : Moment) (r : Result (List ℕ) No) → m.faults ≤ k.faults → Fails k r n → Fails m r n
fails_later m k n (Ok b) le f = tt
fails_later m k n (Err N.Line) le f = f
fails_later m k n (Err N.Path) le f = tt
fails_later m k n (Err N.Json) le f = tt
fails_later m k n (Err N.Mismatch) le f = tt
fails_later m k n (Err N.Delimiter) le f = tt
fails_later m k n (Err N.Hole) le f = tt
fails_later m k n (Err N.Depth) le f = tt
fails_later m k n (Err N.Exhausted) le f = tt
fails_later m k n (Err N.Size) le f = tt
fails_later m k n (Err N.Reserved) le f = f
fails_later m k n (Err N.Block) le f = f
fails_later m k n (Err N.Store) le f = rose_later m.faults k.faults n.faults le f
fails_later m k n (Err N.Clash) le f = tt
fails_later m k n (Err N.Memory) le f = tt
fails_later m k n (Err N.Batch) le f = f

-- a cause that is there after gets is there from before them
cause_later : (m k n : Moment) (new : List (List ℕ)) (r : No) → OnlyReads m k → HasCause k new r n → HasCause m new r n
cause_later m k n new N.Line o c = c
cause_later m k n new N.Path o c = c
cause_later m k n new N.Json o c = c
cause_later m k n new N.Mismatch o c = c
cause_later m k n new N.Delimiter o c = c
cause_later m k n new N.Hole o c = c
cause_later m k n new N.Depth o c = c
cause_later m k n new N.Exhausted o c = c
cause_later m k n new N.Size o c = c
cause_later m k n new N.Reserved o c = c
cause_later m k n new N.Block o c = record { untold = sym o.blocks ∙ c.untold; lacks = by c.lacks }
  where
    by : Rose k.lacks n.lacks ⊎ Rose k.gets n.gets → Rose m.lacks n.lacks ⊎ Rose m.gets n.gets
    by (inl x) = inl (rose_later m.lacks k.lacks n.lacks o.later.lacks x)
    by (inr x) = inr (rose_later m.gets k.gets n.gets o.later.gets x)
cause_later m k n new N.Store o c = rose_later m.faults k.faults n.faults o.later.faults c
cause_later m k n new N.Clash o c = c
cause_later m k n new N.Memory o c = tt
cause_later m k n new N.Batch o c = c

told_on : (R : List (List ℕ) → List (List ℕ) → Type 0) (a b c : Option (List (List ℕ))) → b ≡ a → BothTold b c R → BothTold a c R
told_on R a b c e x = subst (λ o. BothTold o c R) e x

gains_later : (m k n : Moment) (d : Due Value) → k.blocks ≡ m.blocks → Gains k d n → Gains m d n
gains_later m k n d e g = record {
  adds = told_on (λ was now. (id b : List ℕ) → block_at now id ≡ Some b → (block_at was id ≡ Some b) ⊎ Contains d.adds b) m.blocks k.blocks n.blocks e g.adds;
  whole = told_on (λ was now. (id b : List ℕ) → block_at now id ≡ Some b → (block_at was id ≡ Some b) ⊎ IsWhole now (d.children b)) m.blocks k.blocks n.blocks e g.whole;
}

gains_same : (m k : Moment) (d : Due Value) → k.blocks ≡ m.blocks → Gains m d k
gains_same m k d e = record { adds = none (λ b now. Contains d.adds b) m.blocks k.blocks e; whole = none (λ b now. IsWhole now (d.children b)) m.blocks k.blocks e }
  where
    none : (New : List ℕ → List (List ℕ) → Type 0) (a b : Option (List (List ℕ))) → b ≡ a → BothTold a b (λ was now. (id x : List ℕ) → block_at now id ≡ Some x → (block_at was id ≡ Some x) ⊎ New x now)
    none New None b e = subst (λ (x : Option (List (List ℕ))). BothTold None x (λ was now. (id x : List ℕ) → block_at now id ≡ Some x → (block_at was id ≡ Some x) ⊎ New x now)) (sym e) tt
    none New (Some held) b e = subst (λ (x : Option (List (List ℕ))). BothTold (Some held) x (λ was now. (id x : List ℕ) → block_at now id ≡ Some x → (block_at was id ≡ Some x) ⊎ New x now)) (sym e) (λ id c here. inl here)

module _ (h : List ℕ → List ℕ) (rows : List Row) (t : Tests) (n : TypeNo) (v : Value) (e : Edit (List ℕ)) where
  answer_later : (m k j : Moment) (r : Result (List ℕ) No) → OnlyReads m k → MoveAnswer h rows t n v e k r j → MoveAnswer h rows t n v e m r j
  answer_later m k j (Ok b) o a = a
  answer_later m k j (Err r) o (inl x) = inl x
  answer_later m k j (Err r) o (inr x) = inr (cause_later m k j (due_of h rows t n v e).adds r o x)

  gets_are : (due_of h rows t n v e).gets ≡ blocks_met h rows (plainly n, v) (path_of e)
  gets_are = refl

  -- gets, and then the edit at the place
  moved_on : (m k j : Moment) (r : Result (List ℕ) No) → OnlyReads m k → k.gets + 1 ≤ m.gets + blocks_met h rows (plainly n, v) (path_of e) → Moves h rows t n v e k r j → RootIsMade h rows t n v e m r j
  moved_on m k j r o met x = record {
    answer = answer_later m k j r o x.answer;
    gains = gains_later m k j (due_of h rows t n v e) o.blocks x.gains;
    still = λ none. x.still none ∙ o.blocks;
    gets = let a = x.gets in omega arith;
    puts = subst (λ p. j.puts ≤ p + (due_of h rows t n v e).puts) o.puts x.puts;
  }

  -- gets alone
  refused_on : (m k : Moment) (r : No) → OnlyReads m k → k.gets + 1 ≤ m.gets + blocks_met h rows (plainly n, v) (path_of e) → MoveAnswer h rows t n v e m (Err r) k → RootIsMade h rows t n v e m (Err r) k
  refused_on m k r o met a = record { answer = a; gains = gains_same m k (due_of h rows t n v e) o.blocks; still = λ none. o.blocks; gets = omega arith; puts = let q = o.puts in omega arith }

  -- ---- no place

  none_of : {X : Type 0} (o : Option X) (r : No) → unless_some o ≡ Some r → (o ≡ None) × (r ≡ N.Path)
  none_of None r g = (refl, sym (same_Some N.Path r g))
  none_of (Some x) r g = absurd (none-some r g)

module _ (h : List ℕ → List ℕ) (rows : List Row) (t : Tests) (n : TypeNo) (v : Value) (json : List ℕ) where
  abbrev p : InSlot
  p = (plainly n, v)

  abbrev by : (Value → Edit Value) → Option Slot → Result Value No
  by f o = judged_result bare h rows t n (changed_by rows t.is_key p (with_part f (new_part rows t.is_key read_json o json)))

  set_as : (path : List (List ℕ)) → new_slot rows p (set_at path json) ≡ new_slot rows p (set_at path (tt {0}))
  set_as [] = refl
  set_as (s ∷ ss) = refl

  ins_as : (path : List (List ℕ)) → new_slot rows p (ins_at path json) ≡ new_slot rows p (ins_at path (tt {0}))
  ins_as [] = refl
  ins_as (s ∷ ss) = refl

  none_set : (path : List (List ℕ)) (r : No) → (new_slot rows p (set_at path (tt {0})) ≡ None) × (r ≡ N.Path) → edited_by h rows t n v (set_at path json) ≡ Err r
  none_set path r x = ap (by (set_at path)) (set_as path ∙ x.0) ∙ ap Err (sym x.1)

  none_ins : (path : List (List ℕ)) (r : No) → (new_slot rows p (ins_at path (tt {0})) ≡ None) × (r ≡ N.Path) → edited_by h rows t n v (ins_at path json) ≡ Err r
  none_ins path r x = ap (by (ins_at path)) (ins_as path ∙ x.0) ∙ ap Err (sym x.1)

  none_del : (path : List (List ℕ)) (r : No) → refusal_at rows p path V.Del ≡ Some r → edited_by h rows t n v (del_at path) ≡ Err r
  none_del [] r e = ap Err (same_Some N.Mismatch r e)
  none_del (s ∷ ss) r e = ap (judged_result bare h rows t n) (by_last (last_holder rows p s ss) e) where
    by_last : (o : Option (Holder × List ℕ)) → option_map_or (λ l. refusal_to_delete l.0 l.1) o (Some N.Path) ≡ Some r → del_in (changed_in rows delete_part p s ss) o ≡ Err r
    by_last None g = ap Err (same_Some N.Path r g)
    by_last (Some l) g = ap (unless_kept (changed_in rows delete_part p s ss)) g

  no_place_is : (verb : Verb) (path : List (List ℕ)) (r : No) → refusal_at rows p path verb ≡ Some r → edited_by h rows t n v (edit_of verb path json) ≡ Err r
  no_place_is V.Set path r e = none_set path r (none_of h rows t n v (set_at path json) (new_slot rows p (set_at path (tt {0}))) r e)
  no_place_is V.Ins path r e = none_ins path r (none_of h rows t n v (set_at path json) (new_slot rows p (ins_at path (tt {0}))) r e)
  no_place_is V.Del path r e = none_del path r e

  refused_answer : (was : List (List ℕ)) (verb : Verb) (path : List (List ℕ)) (m k : Moment) (r : No) → FindAnswer h rows was p path verb m (Err r) k → MoveAnswer h rows t n v (edit_of verb path json) m (Err r) k
  refused_answer was verb path m k N.Path a = inl (no_place_is verb path N.Path a)
  refused_answer was verb path m k N.Mismatch a = inl (no_place_is verb path N.Mismatch a)
  refused_answer was verb path m k N.Store a = inr a
  refused_answer was verb path m k N.Memory a = inr tt
  refused_answer was verb path m k N.Line a = absurd a
  refused_answer was verb path m k N.Json a = absurd a
  refused_answer was verb path m k N.Delimiter a = absurd a
  refused_answer was verb path m k N.Hole a = absurd a
  refused_answer was verb path m k N.Depth a = absurd a
  refused_answer was verb path m k N.Exhausted a = absurd a
  refused_answer was verb path m k N.Size a = absurd a
  refused_answer was verb path m k N.Reserved a = absurd a
  refused_answer was verb path m k N.Block a = absurd a
  refused_answer was verb path m k N.Clash a = absurd a
  refused_answer was verb path m k N.Batch a = absurd a

  path_is : (verb : Verb) (path : List (List ℕ)) → path_of (edit_of verb path json) ≡ path
  path_is V.Set path = refl
  path_is V.Ins path = refl
  path_is V.Del path = refl

-- ---- in a document

told_is : (m : Moment) → m.blocks ≢ None → (held : List (List ℕ)) × (m.blocks ≡ Some held)
told_is m told = by m.blocks refl where
  by : (o : Option (List (List ℕ))) → m.blocks ≡ o → (held : List (List ℕ)) × (m.blocks ≡ Some held)
  by None e = absurd (told e)
  by (Some held) e = (held, e)

find_no : (h : List ℕ → List ℕ) (d : Doc) (m k : Moment) (r : No) → FindFails h d m (Err r) k → RootFails h d m (Err r) k
find_no h d m k N.Line f = f
find_no h d m k N.Path f = tt
find_no h d m k N.Json f = tt
find_no h d m k N.Mismatch f = tt
find_no h d m k N.Delimiter f = tt
find_no h d m k N.Hole f = tt
find_no h d m k N.Depth f = tt
find_no h d m k N.Exhausted f = tt
find_no h d m k N.Size f = tt
find_no h d m k N.Reserved f = f
find_no h d m k N.Block f = f
find_no h d m k N.Store f = f
find_no h d m k N.Clash f = tt
find_no h d m k N.Memory f = tt
find_no h d m k N.Batch f = f

-- what comes to a place, or goes, blames no block
root_fails : (h : List ℕ → List ℕ) (d : Doc) (m k : Moment) (r : Result (List ℕ) No) → Fails m r k → RootFails h d m r k
root_fails h d m k (Ok b) f = tt
root_fails h d m k (Err N.Line) f = f
root_fails h d m k (Err N.Path) f = tt
root_fails h d m k (Err N.Json) f = tt
root_fails h d m k (Err N.Mismatch) f = tt
root_fails h d m k (Err N.Delimiter) f = tt
root_fails h d m k (Err N.Hole) f = tt
root_fails h d m k (Err N.Depth) f = tt
root_fails h d m k (Err N.Exhausted) f = tt
root_fails h d m k (Err N.Size) f = tt
root_fails h d m k (Err N.Reserved) f = f
root_fails h d m k (Err N.Block) f = absurd f
root_fails h d m k (Err N.Store) f = f
root_fails h d m k (Err N.Clash) f = tt
root_fails h d m k (Err N.Memory) f = tt
root_fails h d m k (Err N.Batch) f = f

-- the block of a document is held where what it stands at is
own_block : (h : List ℕ → List ℕ) (d : Doc) (t : Tests) (m : Moment) (held : List (List ℕ)) (v : Value) → m.blocks ≡ Some held → IsHeldAt h d t m v → block_at held (id_of (block_in d)) ≡ Some (block_in d)
own_block h d t m held v told x =
    let block = x.at.block in
    let blocks : value_blocks (setting_of h d t) v ≡ blocks_of bare h (table_in d) (type_in d) v x.at.tree = ap (λ o. option_map_or (λ u. blocks_of bare h (table_in d) (type_in d) v u) o []) x.at.storable.tree in
    let all = subst (λ bs. Holds m bs) blocks x.carries.kept in
    let here = subst (λ (o : Option (List (List ℕ))). IfTold o (λ now. AllByRecursion (λ b. block_at now (id_of b) ≡ Some b) (blocks_of bare h (table_in d) (type_in d) v x.at.tree))) told all in
    subst (λ b. block_at held (id_of b) ≡ Some b) (sym block) here.0

of_type_is : {rows : List Row} {n : TypeNo} {place : Place} → IsPlaceOf rows n place → type_at place ≡ n
of_type_is x = ap (λ (s : Slot). s.ty) x.slot

module _ (standing : HeldAreStanding) (h : List ℕ → List ℕ) (d : Doc) (verb : Verb) (path : List (List ℕ)) (json : List ℕ) (texts : AllByRecursion IsUtf8 path) where
  pub refused_root : (m k : Moment) (r : No) → PlaceIsFound h d verb path m (Err r) k → MakesRoot h d (edit_of verb path json) m (Err r) k
  refused_root m k r x = record {
    later = x.only.later;
    fails = find_no h d m k r x.fails;
    makes = λ t v tests at.
        let held = told_is m at.at.told in
        let y = x.stands held.0 v held.1 (own_block h d t m held.0 v held.1 at) (standing h d t m held.0 v held.1 at) in
        refused_on h (table_in d) t (type_in d) v (edit_of verb path json) m k r x.only
        (subst (λ q. k.gets + 1 ≤ m.gets + blocks_met h (table_in d) (plainly (type_in d), v) q) (sym (path_is h (table_in d) t (type_in d) v json verb path)) y.gets)
        (refused_answer h (table_in d) t (type_in d) v json held.0 verb path m k r y.answer);
  }

  -- what is due where a place stands in a value that can be held
  abbrev All : List Row → TypeNo → Place → Moment → Result (List ℕ) No → Moment → Type 0
  All rows n place k r j =
      (t : Tests) (v : Value) (u : Data) (was : List (List ℕ)) → k.blocks ≡ Some was → AreTests rows t → Storable bare h rows n v u → IsPlaceIn h rows was (plainly n, v) path verb place
      → Moves h rows t n v (edit_of verb path json) k r j

  made_root : (m k j : Moment) (place : Place) (r : Result (List ℕ) No) → PlaceIsFound h d verb path m (Ok place) k → Later k j → Fails k r j → All (table_at place) (type_at place) place k r j
      → MakesRoot h d (edit_of verb path json) m r j
  made_root m k j place r x later fails moves =
      let in_doc : All (table_in d) (type_in d) place k r j = subst (λ n. All (table_in d) n place k r j) (of_type_is x.of) (subst (λ rows. All rows (type_at place) place k r j) x.of.table moves) in
      record {
        later = Later-trans m k j x.only.later later;
        fails = root_fails h d m j r (fails_later m k j r x.only.later.faults fails);
        makes = λ t v tests at.
            let held = told_is m at.at.told in
            let y = x.stands held.0 v held.1 (own_block h d t m held.0 v held.1 at) (standing h d t m held.0 v held.1 at) in
            moved_on h (table_in d) t (type_in d) v (edit_of verb path json) m k j r x.only
            (subst (λ q. k.gets + 1 ≤ m.gets + blocks_met h (table_in d) (plainly (type_in d), v) q) (sym (path_is h (table_in d) t (type_in d) v json verb path)) y.gets)
            (in_doc t v at.at.tree held.0 (x.only.blocks ∙ held.1) tests at.at.storable y.answer);
      }

abbrev is_in : (h : List ℕ → List ℕ) (place : Place) (t : Tests) (v : Value) (path : List (List ℕ)) (k : Moment) (u : Data) (was : List (List ℕ)) → AllByRecursion IsUtf8 path → k.blocks ≡ Some was → AreTests (table_at place) t
    → Storable bare h (table_at place) (type_at place) v u → IsIn h place t v path k
is_in h place t v path k u was texts told tests s = record { was = was; told = told; tests = tests; tree = u; storable = s; texts = texts }

module _ (standing : HeldAreStanding) (h : List ℕ → List ℕ) (d : Doc) (path : List (List ℕ)) (json : List ℕ) (texts : AllByRecursion IsUtf8 path) where
  pub come_root : (verb : Verb) → comes verb ≡ true → (m k j : Moment) (place : Place) (r : Result (List ℕ) No) → PlaceIsFound h d verb path m (Ok place) k → ComesTo h place json k r j → MakesRoot h d (edit_of verb path json) m r j
  come_root V.Set b m k j place r x c =
      made_root standing h d V.Set path json texts m k j place r x c.later c.fails
      (λ t v u was told tests s is. c.moves t v by_set path (record { at = is_in h place t v path k u was texts told tests s; is = is }))
  come_root V.Ins b m k j place r x c =
      made_root standing h d V.Ins path json texts m k j place r x c.later c.fails
      (λ t v u was told tests s is. c.moves t v by_insert path (record { at = is_in h place t v path k u was texts told tests s; is = is }))
  come_root V.Del b m k j place r x c = absurd (true≢false (sym b))

  pub go_root : (verb : Verb) → verb ≡ V.Del → (m k j : Moment) (place : Place) (r : Result (List ℕ) No) → PlaceIsFound h d verb path m (Ok place) k → GoesFrom h place k r j → MakesRoot h d (edit_of verb path json) m r j
  go_root verb is m k j place r x c =
      subst (λ verb. MakesRoot h d (edit_of verb path json) m r j) (sym is)
      (made_root standing h d V.Del path json texts m k j place r (subst (λ verb. PlaceIsFound h d verb path m (Ok place) k) is x) c.later c.fails
      (λ t v u was told tests s is. c.moves t v path (record { at = is_in h place t v path k u was texts told tests s; is = is })))

-- the block is one of the document's type

pub swaps_as : (d : Doc) (place : Place) (r : Result (List ℕ) No) → IsPlaceOf (table_in d) (type_in d) place → SwapsTo place r → IfOk r (λ b. ∥ HasRoot (table_in d) (type_in d) b ∥₁)
swaps_as d place r x swaps = subst (λ rows. IfOk r (λ b. ∥ HasRoot rows (type_in d) b ∥₁)) x.table (swaps (type_in d) x.slot)
