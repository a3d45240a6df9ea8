-- A link to another block comes to a place at which one stands.
use Rattle.std.proofs.Common.{◌≡◌, ◌≤◌, ◌+◌, inl, inr, ⊎_elim, ℕ, suc, List, [], ◌∷◌, map, length, Option, Some, None, IsSome, Result, Ok, Err, refl, sym, ap, ◌∙◌, subst, arith}
use Rattle.std.specs.List.{AllByRecursion}
use Rattle.std.specs.Prelude.{Contains, nat_le, option_and_then}
use Rattle.std.proofs.lemmas.List.{length-append}
use Rattle.std.proofs.lemmas.List.Elements.{All-contains_itself, recursion_from_All}
use Rattle.ild_cbor.specs.Block.{IsBlockOf}
use Rattle.ild_cbor.specs.Nodes.{HasData as StandsFor}
use Rattle.ild_cbor.specs.declared.node.Node.{Node}
use Rattle.ild_data.proofs.AllOf.{all_append, all_contained, all_filter, all_first}
use Rattle.ild_data.specs.Bytes.{AreBytes}
use Rattle.ild_data.specs.Data as T
use Rattle.ild_data.specs.Data.{Data}
use Rattle.ild_data.specs.Limits.{longest_block}
use Rattle.ild_data.specs.Spell.{cid_of, head, id_of, spell}
use Rattle.ild_data.specs.declared.id.BlockId.{BlockId}
use Rattle.ild_edges.proofs.Later.{Later-refl}
use Rattle.ild_edges.specs.Gained.{AreHeld, CameFrom}
use Rattle.ild_edges.specs.Store.{Moment, block_at}
use Rattle.ild_edges.specs.Told.{BothTold, IfTold}
use Rattle.ild_open_held.specs.Held.{IsHeld}
use Rattle.ild_path.specs.Replaces.{Brings, EditCause, IsChanged, IsHeldPart, IsPlaceOf, ReplaceAnswer, Replaces, Spares}
use Rattle.ild_path.specs.declared.fault.EditFault.{EditFault}
use Rattle.ild_path.specs.declared.fault.EditFault.TheVariants as P
use Rattle.ild_path_edits.proofs.RoomTests.{schemas_have_tests}
use Rattle.ild_path_edits.specs.Edit.{new_slot, set_at}
use Rattle.ild_path_place.specs.Tells.{table_at}
use Rattle.ild_path_place.specs.declared.place.Place.{Place}
use Rattle.ild_path_place.specs.declared.verb.Verb.TheVariants as V
use Rattle.ild_path_within.proofs.Splitting.{parts_are_set}
use Rattle.ild_run_links.proofs.Alike.{with_alike}
use Rattle.ild_run_links.proofs.Counting.{met_alike}
use Rattle.ild_run_links.proofs.Fitting.{IsTypedLink, fits_with, link_blank, link_data, link_fits_in, slot_there, typed_link_is}
use Rattle.ild_run_links.proofs.Setting.{link_part, no_reads, unset}
use Rattle.ild_run_links.proofs.Standing.{blocks_are}
use Rattle.ild_run_links.specs.Links.{link_of, link_to, relinked}
use Rattle.ild_run_links.specs.Trees.{blocks_in}
use Rattle.ild_run_links.specs.declared.fault.TreeFault.{TreeFault}
use Rattle.ild_run_links.specs.declared.fault.TreeFault.TheVariants as F
use Rattle.ild_run_links.specs.inside.Faults.{AreClashBytes, edit_fault}
use Rattle.ild_run_links.specs.inside.Sets.{Causes, PutsLink, SetAnswer, SetsThere}
use Rattle.ild_schema.specs.Slots.{plainly}
use Rattle.ild_schema.specs.Value.{Value}
use Rattle.ild_schema.specs.declared.number.Slot.{Slot}
use Rattle.ild_schema.specs.declared.number.TypeNo.{TypeNo}
use Rattle.ild_schema.specs.declared.row.Row.{Row}
use Rattle.ild_script_meaning.specs.Lines.{short}
use Rattle.ild_typed.proofs.Utf8Texts.{link_fits}
use Rattle.ild_typed.specs.At.{InSlot, at}
use Rattle.ild_typed.specs.Blocks.{nodes}
use Rattle.ild_typed.specs.Fits.{Fits}
use Rattle.ild_typed.specs.Schema.{IsSchema}
use Rattle.ild_typed.specs.Stands.{Stands, bare, blocks_of}
use Rattle.ild_typed_alike.proofs.Nodes.{as_long}
use Rattle.ild_typed_alike.specs.Blank.{blank_value}
use Rattle.ild_typed_alike.specs.Laws.{IsAsLong}

-- ---- the block of a link

link_length : (id : List ℕ) → length id ≡ 32 → length (spell (T.link (cid_of id))) ≡ 41
link_length id long =
    let front = head 2 (length (0 ∷ cid_of id)) in
    ap (λ n. suc (suc n)) (length-append front (0 ∷ cid_of id) ∙ ap (λ n. length (head 2 (suc (suc (suc (suc (suc n)))))) + suc (suc (suc (suc (suc n))))) long)

pub link_block : (id : List ℕ) → length id ≡ 32 → AreBytes id → IsBlockOf (spell (T.link (cid_of id))) (T.link (cid_of id))
link_block id long bytes =
    let size = link_length id long in
    record { within = record { tree = link_fits id long bytes; nested = omega arith; sized = omega (arith, size) }; spelled = refl }

-- ---- lists of blocks

from_short : (bs : List (List ℕ)) (b : List ℕ) → Contains (short bs) b → Contains bs b
from_short bs b here = all_contained (Contains bs) (short bs) b (all_filter (Contains bs) (λ y. nat_le (length y) longest_block) bs (recursion_from_All (Contains bs) bs (All-contains_itself bs))) here

abbrev first : List ℕ → ℕ
first [] = 0
first (m ∷ ms) = m

abbrev rest : List ℕ → List ℕ
rest [] = []
rest (m ∷ ms) = ms

-- as many, each as long: no longer than those
all_as_long : (n : ℕ) (xs ys : List (List ℕ)) → map length xs ≡ map length ys → AllByRecursion (λ b. length b ≤ n) ys → AllByRecursion (λ b. length b ≤ n) xs
all_as_long n [] ys same all = tt
all_as_long n (x ∷ xs) [] same all = absurd (cc same)
all_as_long n (x ∷ xs) (y ∷ ys) same all =
    let one : length x ≡ length y = ap first same in
    let le = all.0 in
    (omega (arith, one, le), all_as_long n xs ys (ap rest same) all.1)

told_more : {A : Type 0} (o : Option A) (P Q : A → Type 0) → ((a : A) → P a → Q a) → IfTold o P → IfTold o Q
told_more None P Q f x = tt
told_more (Some a) P Q f x = f a x

both_more : {A : Type 0} (o p : Option A) (P Q : A → A → Type 0) → ((a b : A) → P a b → Q a b) → BothTold o p P → BothTold o p Q
both_more None None P Q f x = tt
both_more None (Some b) P Q f x = absurd x
both_more (Some a) None P Q f x = absurd x
both_more (Some a) (Some b) P Q f x = f a b x

-- ---- the fault

pub edit_causes : (m k : Moment) (e : EditFault) → EditCause m e k → AreClashBytes (edit_fault e) → Causes m (Err (edit_fault e)) k
edit_causes m k P.Store x bytes = x
edit_causes m k (P.Clash id kept new) x bytes = (record { kept_bytes = bytes.0; new_bytes = bytes.1; differ = x.2; one_id = x.0 ∙ sym x.1 }, sym x.1)
edit_causes m k P.Exhausted x bytes = tt
edit_causes m k P.NoKey x bytes = tt
edit_causes m k P.Size x bytes = tt
edit_causes m k P.Memory x bytes = tt

-- ---- the changed value

module _ (h : List ℕ → List ℕ) (place : Place) (was : List (List ℕ)) (n : TypeNo) (v : Value) (path : List (List ℕ)) (new : List ℕ) (block : IsBlockOf (spell (T.link (cid_of new))) (T.link (cid_of new))) (long : length new ≡ 32)
    (is : IsPlaceOf h (table_at place) was n v path V.Set place) (some : IsSome (option_and_then (link_to (table_at place)) (at (table_at place) (plainly n, v) path)))
    (sized : AllByRecursion (λ b. length b ≤ longest_block) (blocks_in h (table_at place) n v)) where
  abbrev Rows : List Row
  Rows = table_at place

  abbrev Whole : InSlot
  Whole = (plainly n, v)

  abbrev pub Changed : Value
  Changed = relinked Rows Whole path new

  schema : IsSchema Rows
  schema = is.rooted.goes.schema

  fits : Fits Rows 96 (plainly n) v
  fits = is.rooted.goes.held.fits

  abbrev Old : Data
  Old = is.rooted.tree

  found : (q : InSlot) × (at Rows Whole path ≡ Some q)
  found = link_part Rows (at Rows Whole path) some

  link_is : IsTypedLink Rows found.0
  link_is = typed_link_is Rows found.0 (subst (λ o. IsSome (option_and_then (link_to Rows) o)) found.1 some)

  alike : blank_value Changed ≡ blank_value v
  alike =
      let tests = schemas_have_tests Rows schema in
      with_alike Rows tests.0.is_key schema tests.1.keys path Whole found.0 (link_of new) (96, fits) found.1 (link_blank Rows found.0 link_is new long)

  pub as_long_is : IsAsLong h Rows (plainly n) v Changed Old
  as_long_is = as_long h Rows (plainly n) v Changed Old (sym alike) is.rooted.goes.held.tree

  abbrev pub New : Data
  New = as_long_is.tree

  changed_blocks : blocks_in h Rows n Changed ≡ blocks_of bare h Rows n Changed New
  changed_blocks = blocks_are h Rows n Changed New as_long_is.is

  all_sized : AllByRecursion (λ b. length b ≤ longest_block) (blocks_of bare h Rows n Changed New)
  all_sized =
      let all = subst (AllByRecursion (λ b. length b ≤ longest_block)) (blocks_are h Rows n v Old is.rooted.goes.held.tree) sized in
      let le = all.0 in
      let same = as_long_is.long in
      let fine = λ (b : List ℕ). length b ≤ longest_block in (
        omega (arith, le, same),
        all_append fine (nodes h Rows (plainly n) Changed) [] (all_as_long longest_block (nodes h Rows (plainly n) Changed) (nodes h Rows (plainly n) v) as_long_is.nodes (all_first fine (nodes h Rows (plainly n) v) [] all.1)) tt,
      )

  pub changed : IsChanged h Rows Whole (set_at path (link_of new)) Changed New
  changed =
      let tests = schemas_have_tests Rows schema in
      record {
        is_key = tests.0.is_key;
        keys = tests.1.keys;
        made = parts_are_set Rows tests.0.is_key Whole found.0 path (link_of new) found.1;
        tree = as_long_is.is;
        fits = fits_with Rows tests.0.is_key schema tests.1.keys path 96 Whole found.0 (link_of new) fits found.1 (λ room. link_fits_in Rows (found.0).0 link_is.target (cid_of new) room link_is.form block.within.tree);
      }

  pub part_held : (part : Node) → StandsFor part (T.link (cid_of new)) → (slot : Slot) → new_slot Rows Whole (set_at path (link_of new)) ≡ Some slot → IsHeldPart h Rows was slot part (link_of new)
  part_held part stands slot goes_to =
      let tests = schemas_have_tests Rows schema in
      let same = slot_there Rows tests.0.is_key schema tests.1.keys path Whole found.0 (link_of new) slot (96, fits) found.1 goes_to in
      record {
        room = 0;
        tree = T.link (cid_of new);
        held = subst (λ s. IsHeld (block_at was) h Rows 0 s (T.link (cid_of new)) (link_of new)) (sym same) (record {
          fits = link_fits_in Rows (found.0).0 link_is.target (cid_of new) 0 link_is.form block.within.tree;
          tree = link_data h Rows (found.0).0 link_is.target (cid_of new) link_is.form;
          held = tt;
        });
        stands_for = stands;
      }

  -- ---- what is answered

  module _ (m k : Moment) (gets : k.gets ≡ m.gets) where
    sets : (r : Result (List ℕ) EditFault) (answer : Result BlockId TreeFault) → Replaces h Rows n path Changed New m r k → SetAnswer h Rows n Changed answer k → SetsThere h Rows n v path new m answer k
    sets r answer x is_answer = record {
      answer = is_answer;
      adds = both_more m.blocks k.blocks (λ a b. CameFrom (short (blocks_of bare h Rows n Changed New)) a b) (λ a b. CameFrom (blocks_in h Rows n Changed) a b)
          (λ a b came id y there. ⊎_elim (λ old. inl old) (λ here. inr (subst (λ bs. Contains bs y) (sym changed_blocks) (from_short (blocks_of bare h Rows n Changed New) y here))) (came id y there)) x.adds;
      whole = x.whole;
      gets = omega (arith, gets);
      puts = let up = x.puts in let same = met_alike h Rows (plainly n) Changed v path alike in omega (arith, up, same);
    }

    pub sets_ok : (b : List ℕ) (root : BlockId) → root.0 ≡ id_of b → Replaces h Rows n path Changed New m (Ok b) k → SetsThere h Rows n v path new m (Ok root) k
    sets_ok b root same x =
        sets (Ok b) (Ok root) x
        (told_more k.blocks (λ now. Stands bare (block_at now) h Rows n (id_of b) Changed) (λ now. Stands bare (block_at now) h Rows n root.0 Changed) (λ now st. subst (λ i. Stands bare (block_at now) h Rows n i Changed) (sym same) st) x.answer.2)

    why_not : (e : EditFault) → ReplaceAnswer h Rows n Changed New m (Err e) k → SetAnswer h Rows n Changed (Err (edit_fault e)) k
    why_not P.Exhausted x = x
    why_not P.NoKey x = x
    why_not P.Size x = let le : length x.0 ≤ longest_block = all_contained (λ b. length b ≤ longest_block) (blocks_of bare h Rows n Changed New) x.0 all_sized x.1 in let lt = x.2 in absurd (omega (arith, le, lt))
    why_not P.Store x = tt
    why_not (P.Clash id kept block_new) x = (
      subst (λ bs. Contains bs block_new) (sym changed_blocks) (from_short (blocks_of bare h Rows n Changed New) block_new (subst (λ b. Contains (short (blocks_of bare h Rows n Changed New)) b) x.2 (x.0).among)),
      told_more k.blocks (λ held. AreHeld ((x.0).kept ∷ []) held) (λ now. block_at now (id_of kept) ≡ Some kept) (λ now held. subst (λ b. block_at now (id_of b) ≡ Some b) x.1 held.0) (x.0).held,
    )
    why_not P.Memory x = tt

    pub sets_err : (e : EditFault) → Replaces h Rows n path Changed New m (Err e) k → SetsThere h Rows n v path new m (Err (edit_fault e)) k
    sets_err e x = sets (Err e) (Err (edit_fault e)) x (why_not e x.answer)

-- ---- the call

module _ (h : List ℕ → List ℕ) (place : Place) (new : List ℕ) (block : IsBlockOf (spell (T.link (cid_of new))) (T.link (cid_of new))) (long : length new ≡ 32) (part : Node) (stands : StandsFor part (T.link (cid_of new))) (m k : Moment) where
  brought : (r : Result (List ℕ) EditFault) → Brings h place part m r k → (was : List (List ℕ)) (n : TypeNo) (v : Value) (path : List (List ℕ)) → m.blocks ≡ Some was → (is : IsPlaceOf h (table_at place) was n v path V.Set place)
      → (some : IsSome (option_and_then (link_to (table_at place)) (at (table_at place) (plainly n, v) path))) → (sized : AllByRecursion (λ b. length b ≤ longest_block) (blocks_in h (table_at place) n v))
      → Replaces h (table_at place) n path (Changed h place was n v path new block long is some sized) (New h place was n v path new block long is some sized) m r k
  brought r x was n v path told is some sized =
      x was n v (link_of new) (Changed h place was n v path new block long is some sized) (New h place was n v path new block long is some sized) path V.Set (set_at path (link_of new)) told is refl
      (part_held h place was n v path new block long is some sized part stands) (changed h place was n v path new block long is some sized)

  pub puts_ok : (b : List ℕ) (root : BlockId) → root.0 ≡ id_of b → Brings h place part m (Ok b) k → Spares m (Ok b) k → PutsLink h place new m (Ok root) k
  puts_ok b root same x spares = record {
    later = spares.later;
    cause = tt;
    gets = spares.gets;
    told = λ was n v path told is some sized. sets_ok h place was n v path new block long is some sized m k spares.gets b root same (brought (Ok b) x was n v path told is some sized);
  }

  pub puts_err : (e : EditFault) → Brings h place part m (Err e) k → Spares m (Err e) k → AreClashBytes (edit_fault e) → PutsLink h place new m (Err (edit_fault e)) k
  puts_err e x spares bytes = record {
    later = spares.later;
    cause = edit_causes m k e spares.cause bytes;
    gets = spares.gets;
    told = λ was n v path told is some sized. sets_err h place was n v path new block long is some sized m k spares.gets e (brought (Err e) x was n v path told is some sized);
  }

-- no memory for the link
pub puts_nothing : (h : List ℕ → List ℕ) (place : Place) (new : List ℕ) (m : Moment) (r : Result BlockId TreeFault) → r ≡ Err F.Memory → PutsLink h place new m r m
puts_nothing h place new m r is = subst (λ (x : Result BlockId TreeFault). PutsLink h place new m x m) (sym is) (record {
  later = Later-refl m;
  cause = tt;
  gets = refl;
  told = λ was n v path told at_place some sized. unset h (table_at place) at_place.rooted.goes.schema was n v path new m m (no_reads m) some (Err F.Memory) tt (omega arith);
})
