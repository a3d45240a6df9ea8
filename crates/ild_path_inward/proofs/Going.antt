-- What becomes of a path in the block of a value that is held.
use Rattle.std.proofs.Common.{◌≡◌, ℕ, ◌+◌, ◌-◌, ◌≤◌, List, [], ◌∷◌, ◌++◌, length, take, Bool, true, false, Some, None, refl, ap, sym, ◌∙◌, subst, arith}
use Rattle.std.specs.Borrow.{Bor}
use Rattle.std.proofs.lemmas.Option.{same_Some}
use Rattle.ild_data.specs.Data.{Data}
use Rattle.ild_edges.specs.Store.{block_at}
use Rattle.ild_open_held.specs.Held.{IsHeld}
use Rattle.ild_open_held_roots.proofs.Entering.{root_front}
use Rattle.ild_path_edits.proofs.RoomTests.{schemas_have_tests}
use Rattle.ild_path_edits.specs.Stop.{Stop, stopped}
use Rattle.ild_path_held.proofs.Holding.{held_parts}
use Rattle.ild_path_held.specs.HeldEdits.{room_at}
use Rattle.ild_path_inward.proofs.Hamts.{HamtOf, counts_hamts, hamt_of, plain_root, room_less}
use Rattle.ild_path_inward.proofs.InBlock.{IsIn, in_block}
use Rattle.ild_path_inward.specs.Halts.{HaltsAt}
use Rattle.ild_path_inward.specs.Levels.{CanEnterAt, CanGo, KeyIs, StopsAt, counts, met_on}
use Rattle.ild_path_inward.specs.declared.halt.Halt.{Halt}
use Rattle.ild_path_inward.specs.declared.level.Stand.{Stand}
use Rattle.ild_schema.specs.declared.number.Slot.{Slot}
use Rattle.ild_schema.specs.declared.row.Row.{Row}
use Rattle.ild_schema.specs.Value.{Value, map}
use Rattle.ild_typed.specs.At.{InSlot, at}
use Rattle.ild_typed_fronts.specs.Front.{front, front as front_fn, front_in, in_one_block, is_root}
use Rattle.ild_view.specs.Parts.{IsPartView}
use Rattle.ild_view.specs.Roots.{root_in}
use Rattle.ild_view.specs.View.{IsView, slot_of, table_of}
use Rattle.ild_view.specs.declared.view.View.{View}

pub take_front : (xs ys : List (List ℕ)) (n : ℕ) → n ≡ length (xs ++ ys) - length ys → take n (xs ++ ys) ≡ xs
take_front xs ys n e = ap (λ i. take i (xs ++ ys)) (e ∙ lengths xs ys) ∙ takes xs ys where
  takes : (xs ys : List (List ℕ)) → take (length xs) (xs ++ ys) ≡ xs
  takes [] ys = refl
  takes (x ∷ xs) ys = ap (λ zs. x ∷ zs) (takes xs ys)

  sums : (xs ys : List (List ℕ)) → length (xs ++ ys) ≡ length xs + length ys
  sums [] ys = omega arith
  sums (x ∷ xs) ys = let rest = sums xs ys in omega (arith, rest)

  lengths : (xs ys : List (List ℕ)) → length (xs ++ ys) - length ys ≡ length xs
  lengths xs ys = let all = sums xs ys in omega (arith, all)

module _ (h : List ℕ → List ℕ) (rows : List Row) (was : List (List ℕ)) (room : ℕ) (p : InSlot) (t : Data) (view : View) (x : CanGo h rows was room p t view) (path : List (List ℕ)) (halt : Halt)
    (halts : (f : Value) → IsView view f → HaltsAt (table_of view) room (slot_of view, f) path halt) where
  here : IsIn h rows room p path
  here = in_block (block_at was) h rows x.schema room path room p t x.held

  -- where the walk on the front stops
  stands : HaltsAt rows room (front_in h rows p) path halt
  stands =
      subst (λ (s : Slot). HaltsAt rows room (s, front h rows p.0 p.1) path halt) x.stands.slot
      (subst (λ r. HaltsAt r room (slot_of view, front h rows p.0 p.1) path halt) x.stands.table (halts (front h rows p.0 p.1) x.stands.view))

  part_view : IsPartView rows (front_in h rows here.holder) halt.view
  part_view = subst (λ (s : Stop). IsPartView rows s.part halt.view) here.front stands.view

  left_is : halt.left.now ≡ here.left
  left_is = stands.left ∙ ap (λ (s : Stop). s.left) here.front

  room_here : halt.room ≡ room_at rows room p here.before
  room_here = stands.room_is ∙ here.room_is

  front_is : (front : List (List ℕ)) (n : ℕ) → front ≡ take n path → n ≡ length path - length halt.left.now → front ≡ here.before
  front_is front n e many =
      e ∙ ap (take n) here.split
      ∙ take_front here.before here.left n (many ∙ (λ i. length (here.split i) - length (left_is i)))

  -- no key: it stops
  no_key : (b : Bool) → is_root rows here.holder ≡ b → KeyIs (root_in (front h rows here.holder.0 here.holder.1)) halt.left.now None → stopped rows here.holder here.left ≡ record { part = here.holder; left = here.left }
  no_key false plain none = here.ends plain
  no_key true root none = subst (λ (xs : List (List ℕ)). stopped rows here.holder xs ≡ record { part = here.holder; left = xs }) (sym (sym left_is ∙ empty)) refl where
    held : (d : Data) × IsHeld (block_at was) h rows (room_at rows room p here.before) here.holder.0 d here.holder.1
    held = held_parts (block_at was) h rows (schemas_have_tests rows x.schema).0.is_key x.schema (schemas_have_tests rows x.schema).1.keys room p here.holder t here.before x.held here.there

    empty : halt.left.now ≡ []
    empty = subst (λ (f : Value). KeyIs (root_in f) halt.left.now None) (root_front h rows here.holder.0 here.holder.1 held.0 held.1.tree root) none

  pub goes_nowhere : (stand : Stand) (n : ℕ) → stand.front ≡ take n path → n ≡ length path - length halt.left.now → stand.left.now ≡ halt.left.now → stand.room ≡ halt.room
      → ((f : Value) → IsView halt.view f → KeyIs (root_in f) halt.left.now None) → (holder : InSlot) × StopsAt rows room p path holder stand
  goes_nowhere stand n e many a b none =
      let f = front_is stand.front n e many in
      let l : stand.left.now ≡ here.left = a ∙ left_is in (
        here.holder,
        record {
          inside = ap (in_one_block rows p) f ∙ here.inside;
          there = ap (at rows p) f ∙ here.there;
          split = here.split ∙ (λ i. sym f i ++ sym l i);
          stops = here.goes ∙ no_key (is_root rows here.holder) refl (none (front h rows here.holder.0 here.holder.1) part_view.view) ∙ ap (λ xs. record { part = here.holder; left = xs }) (sym l);
          room_is = b ∙ room_here ∙ ap (room_at rows room p) (sym f);
        },
      )

  -- a key: there is a HAMT
  key_root : (key : Bor (List ℕ)) (behind : Bor (List (List ℕ))) (b : Bool) → is_root rows here.holder ≡ b → KeyIs (root_in (front h rows here.holder.0 here.holder.1)) halt.left.now (Some (key, behind)) → is_root rows here.holder ≡ true
  key_root key behind true root is = root
  key_root key behind false plain is = absurd (subst (λ o. KeyIs o halt.left.now (Some (key, behind))) (plain_root h rows here.holder.0 here.holder.1 plain) is)

  pub can_enter : (front : List (List ℕ)) (n : ℕ) → front ≡ take n path → n ≡ length path - length halt.left.now → (key : Bor (List ℕ)) (behind : Bor (List (List ℕ)))
      → ((f : Value) → IsView halt.view f → KeyIs (root_in f) halt.left.now (Some (key, behind))) → CanEnterAt h rows was room p path front key.now behind.now halt
  can_enter front n e many key behind says =
      let f = front_is front n e many in
      let own = says (front_fn h rows here.holder.0 here.holder.1) part_view.view in
      let root = key_root key behind (is_root rows here.holder) refl own in
      let held = held_parts (block_at was) h rows (schemas_have_tests rows x.schema).0.is_key x.schema (schemas_have_tests rows x.schema).1.keys room p here.holder t here.before x.held here.there in
      let m = hamt_of h rows here.holder.0 here.holder.1 held.0 held.1.tree root in
      let top = root_front h rows here.holder.0 here.holder.1 held.0 held.1.tree root in
      let left : halt.left.now ≡ key.now ∷ behind.now = subst (λ (g : Value). KeyIs (root_in g) halt.left.now (Some (key, behind))) top own in
      let slot : here.holder.0 ≡ slot_of halt.view = sym part_view.slot in
      let holder : here.holder ≡ (slot_of halt.view, map m.pairs) = (λ i. (slot i, m.is i)) in
      let split : path ≡ front ++ (key.now ∷ behind.now) = here.split ∙ (λ i. sym f i ++ (sym left_is ∙ left) i) in
      record {
        elem = m.elem;
        ps = m.pairs;
        tree = held.0;
        schema = x.schema;
        low = lower room_here;
        view = subst (IsView halt.view) top part_view.view;
        entered = record {
          inside = ap (in_one_block rows p) f ∙ here.inside;
          at = ap (at rows p) f ∙ here.there ∙ ap (λ (q : InSlot). Some q) holder;
          hamt = subst (λ (s : Slot). HamtOf rows s m.elem) slot m.type;
        };
        held = subst (λ (q : InSlot). IsHeld (block_at was) h rows halt.room q.0 held.0 q.1) holder (subst (λ i. IsHeld (block_at was) h rows i here.holder.0 held.0 here.holder.1) (sym room_here) held.1);
        left = left;
        split = split;
        stops = λ q e. here.goes ∙ (λ i. stopped rows (same_Some here.holder q (sym here.there ∙ ap (at rows p) (sym f) ∙ e) i) ((sym left_is ∙ left) i));
        counts = here.free (counts h rows) (counts_hamts h rows) ∙ (λ i. met_on h rows (holder i) ((sym left_is ∙ left) i));
        room_is = room_here ∙ ap (room_at rows room p) (sym f);
      }
    where
      lower : halt.room ≡ room_at rows room p here.before → halt.room ≤ 96
      lower e = let le = room_less rows here.before room p in let low = x.low in omega (arith, e, le, low)
