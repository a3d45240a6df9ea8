-- An element that comes or goes moves those behind it; the last holder of a path is the changed one.
use Rattle.std.proofs.Common.{◌≡◌, ℕ, zero, suc, ◌<◌, ◌≤◌, List, [], ◌∷◌, Bool, true, false, Option, Some, None, refl, ap, sym, subst, ◌∙◌, arith}
use Rattle.std.specs.Prelude.{length, codes, slice_get, insert, remove, nat_le, option_map, option_and_then, if◌then◌else◌}
use Rattle.std.specs.Option.{option_map_or}
use Rattle.std.proofs.lemmas.Option.{same_Some, none-some}
use Rattle.ild_data.specs.Data.{Data}
use Rattle.ild_data.specs.Key.{same_text}
use Rattle.ild_schema.specs.declared.number.Slot.{Slot}
use Rattle.ild_schema.specs.declared.row.Row.{Row}
use Rattle.ild_schema.specs.Prelude.{anything}
use Rattle.ild_schema.specs.Value.{Value}
use Rattle.ild_typed.specs.At.{InSlot, seen, last_holder, changed_in}
use Rattle.ild_typed.specs.Holder.{Holder, fields, member, entries, elements, any_entries, any_elements, nothing, value_of, of_any, data_in}
use Rattle.ild_typed.specs.OfType.{OfType}
use Rattle.ild_typed.specs.Segment.{index_of, at_index, part, set_part}
use Rattle.ild_path_edits.specs.MoveLaws.{HasOneMore, InsertMoves, DeleteMoves, InsertedStands, LastIsChanged}
use Rattle.ild_path_edits.specs.Table.{up_to, new_index, insert_part, delete_part}
use Rattle.ild_path_edits.proofs.Holders.{set_part-seen, set_part-there}
use Rattle.ild_path_edits.proofs.Judges.{small_of}
use Rattle.ild_path_edits.proofs.KeepTyped.{of_type_is_kept}
use Rattle.ild_path_edits.proofs.Kept.{IsKept}
use Rattle.ild_path_edits.proofs.Paths.{typed_changed, set_typed, inserted_typed, deleted_typed, inside_of}
use Rattle.ild_path_edits.proofs.Seen.{insert_part-seen, delete_part-seen}

-- in a list
insert-before : {X : Type 0} (xs : List X) (i k : ℕ) (y : X) → k < i → i ≤ length xs → slice_get (insert xs i y) k ≡ slice_get xs k
insert-before [] i k y lt le = absurd (omega arith)
insert-before (x ∷ xs) zero k y lt le = absurd (omega arith)
insert-before (x ∷ xs) (suc i) zero y lt le = refl
insert-before (x ∷ xs) (suc i) (suc k) y lt le = insert-before xs i k y (omega arith) (omega arith)

insert-at : {X : Type 0} (xs : List X) (i : ℕ) (y : X) → i ≤ length xs → slice_get (insert xs i y) i ≡ Some y
insert-at xs zero y le = refl
insert-at [] (suc i) y le = absurd (omega arith)
insert-at (x ∷ xs) (suc i) y le = insert-at xs i y (omega arith)

insert-behind : {X : Type 0} (xs : List X) (i k : ℕ) (y : X) → i ≤ k → i ≤ length xs → slice_get (insert xs i y) (suc k) ≡ slice_get xs k
insert-behind [] zero k y from le = refl
insert-behind (x ∷ xs) zero k y from le = refl
insert-behind [] (suc i) k y from le = absurd (omega arith)
insert-behind (x ∷ xs) (suc i) zero y from le = absurd (omega arith)
insert-behind (x ∷ xs) (suc i) (suc k) y from le = insert-behind xs i k y (omega arith) (omega arith)

remove-before : {X : Type 0} (xs : List X) (i k : ℕ) → k < i → i < length xs → slice_get (remove xs i) k ≡ slice_get xs k
remove-before [] i k lt le = absurd (omega arith)
remove-before (x ∷ xs) zero k lt le = absurd (omega arith)
remove-before (x ∷ xs) (suc i) zero lt le = refl
remove-before (x ∷ xs) (suc i) (suc k) lt le = remove-before xs i k (omega arith) (omega arith)

remove-behind : {X : Type 0} (xs : List X) (i k : ℕ) → i ≤ k → i < length xs → slice_get (remove xs i) k ≡ slice_get xs (suc k)
remove-behind [] i k from le = absurd (omega arith)
remove-behind (x ∷ xs) zero k from le = refl
remove-behind (x ∷ xs) (suc i) zero from le = absurd (omega arith)
remove-behind (x ∷ xs) (suc i) (suc k) from le = remove-behind xs i k (omega arith) (omega arith)

-- a new number is no greater than the count
within : (n : ℕ) (i : ℕ) (b : Bool) (o : Option ℕ) → (if b then Some n else up_to n o) ≡ Some i → i ≤ n
within n i true o e = let same = same_Some n i e in omega (arith, same)
within n i false None e = absurd (none-some i e)
within n i false (Some j) e = by (nat_le j n) refl e
  where
    by : (b : Bool) → nat_le j n ≡ b → (if b then Some j else None) ≡ Some i → i ≤ n
    by true small e = let same = same_Some j i e in let le = small_of j n small in omega (arith, same, le)
    by false small e = absurd (none-some i e)

new_within : (n : ℕ) (s : List ℕ) (i : ℕ) → new_index n s ≡ Some i → i ≤ n
unfolding new_index
new_within n s i e = within n i (same_text s (codes "-")) (index_of s) e

-- parts by their numbers
module _ {X : Type 0} (g : X → Slot × Value) where
  abbrev numbered : List X → List ℕ → Option (Slot × Value)
  numbered xs t = option_map g (option_and_then (λ i. slice_get xs i) (index_of t))

  read : (xs : List X) (t : List ℕ) (j : ℕ) → index_of t ≡ Some j → numbered xs t ≡ option_map g (slice_get xs j)
  read xs t j e = ap (λ o. option_map g (option_and_then (λ i. slice_get xs i) o)) e

  moved : (xs ys : List X) (t u : List ℕ) (j k : ℕ) → index_of t ≡ Some j → index_of u ≡ Some k → slice_get xs j ≡ slice_get ys k → numbered xs t ≡ numbered ys u
  moved xs ys t u j k e f same = read xs t j e ∙ ap (λ o. option_map g o) same ∙ sym (read ys u k f)

elements_come : (slot : Slot) (vs : List Value) (i : ℕ) (w : Value) → i ≤ length vs → HasOneMore (elements slot vs) (elements slot (insert vs i w)) i
elements_come slot vs i w le = record {
  before = λ t j e lt. moved (λ v. (slot, v)) (insert vs i w) vs t t j j e e (insert-before vs i j w lt le);
  behind = λ t u j e f from. moved (λ v. (slot, v)) (insert vs i w) vs u t (suc j) j f e (insert-behind vs i j w from le);
}

any_come : (ds : List Data) (i : ℕ) (d : Data) → i ≤ length ds → HasOneMore (any_elements ds) (any_elements (insert ds i d)) i
any_come ds i d le = record {
  before = λ t j e lt. moved (λ d. (anything, of_any d)) (insert ds i d) ds t t j j e e (insert-before ds i j d lt le);
  behind = λ t u j e f from. moved (λ d. (anything, of_any d)) (insert ds i d) ds u t (suc j) j f e (insert-behind ds i j d from le);
}

elements_go : (slot : Slot) (vs : List Value) (i : ℕ) → i < length vs → HasOneMore (elements slot (remove vs i)) (elements slot vs) i
elements_go slot vs i le = record {
  before = λ t j e lt. moved (λ v. (slot, v)) vs (remove vs i) t t j j e e (sym (remove-before vs i j lt le));
  behind = λ t u j e f from. moved (λ v. (slot, v)) vs (remove vs i) u t (suc j) j f e (sym (remove-behind vs i j from le));
}

any_go : (ds : List Data) (i : ℕ) → i < length ds → HasOneMore (any_elements (remove ds i)) (any_elements ds) i
any_go ds i le = record {
  before = λ t j e lt. moved (λ d. (anything, of_any d)) ds (remove ds i) t t j j e e (sym (remove-before ds i j lt le));
  behind = λ t u j e f from. moved (λ d. (anything, of_any d)) ds (remove ds i) u t (suc j) j f e (sym (remove-behind ds i j from le));
}

at_count : {X : Type 0} (f : ℕ → List X → List X) (xs : List X) (n i : ℕ) (s : List ℕ) → ◌≡◌ {A = Option ℕ} (Some (length xs)) (Some n) → new_index n s ≡ Some i → at_index f (new_index (length xs) s) xs ≡ f i xs
at_count f xs n i s c e = ap (λ m. at_index f (new_index m s) xs) (same_Some (length xs) n c) ∙ ap (λ o. at_index f o xs) e

enough : {X : Type 0} (xs : List X) (n i : ℕ) (s : List ℕ) → ◌≡◌ {A = Option ℕ} (Some (length xs)) (Some n) → new_index n s ≡ Some i → i ≤ length xs
enough xs n i s c e = let same = same_Some (length xs) n c in let le = new_within n s i e in omega (arith, same, le)

pub insert_moves : InsertMoves
insert_moves (fields fs os) n s i w c e = absurd (none-some n c)
insert_moves (member ms m v) n s i w c e = absurd (none-some n c)
insert_moves (entries key slot paired ps) n s i w c e = absurd (none-some n c)
insert_moves (elements slot vs) n s i w c e =
    subst (λ xs. HasOneMore (elements slot vs) (elements slot xs) i) (sym (at_count (λ i xs. insert xs i w) vs n i s c e)) (elements_come slot vs i w (enough vs n i s c e))
insert_moves (any_entries ms) n s i w c e = absurd (none-some n c)
insert_moves (any_elements ds) n s i w c e =
    subst (λ xs. HasOneMore (any_elements ds) (any_elements xs) i) (sym (at_count (λ i xs. insert xs i (data_in w)) ds n i s c e)) (any_come ds i (data_in w) (enough ds n i s c e))
insert_moves (nothing v) n s i w c e = absurd (none-some n c)

pub delete_moves : DeleteMoves
delete_moves (fields fs os) n s i c e lt = absurd (none-some n c)
delete_moves (member ms m v) n s i c e lt = absurd (none-some n c)
delete_moves (entries key slot paired ps) n s i c e lt = absurd (none-some n c)
delete_moves (elements slot vs) n s i c e lt =
    subst (λ xs. HasOneMore (elements slot xs) (elements slot vs) i) (sym (ap (λ o. at_index (λ i xs. remove xs i) o vs) e))
    (elements_go slot vs i (subst (λ m. i < m) (sym (same_Some (length vs) n c)) lt))
delete_moves (any_entries ms) n s i c e lt = absurd (none-some n c)
delete_moves (any_elements ds) n s i c e lt =
    subst (λ xs. HasOneMore (any_elements xs) (any_elements ds) i) (sym (ap (λ o. at_index (λ i xs. remove xs i) o ds) e))
    (any_go ds i (subst (λ m. i < m) (sym (same_Some (length ds) n c)) lt))
delete_moves (nothing v) n s i c e lt = absurd (none-some n c)

-- the slot of what was inserted is that of its holder
same_slot : (a slot : Slot) (o : Option ℕ) → option_map (λ i. a) o ≡ Some slot → a ≡ slot
same_slot a slot None e = absurd (none-some slot e)
same_slot a slot (Some i) e = same_Some a slot e

stands_in : {X : Type 0} (g : X → Slot × Value) (xs ys : List X) (x : X) (t : List ℕ) (i : ℕ) → ys ≡ insert xs i x → i ≤ length xs → index_of t ≡ Some i → numbered g ys t ≡ Some (g x)
stands_in g xs ys x t i same le e = ap (λ zs. numbered g zs t) same ∙ read g (insert xs i x) t i e ∙ ap (λ o. option_map g o) (insert-at xs i x le)

pub inserted_stands : InsertedStands
inserted_stands rows is_key schema keys (fields fs os) n s t i slot w c e f free new = absurd (none-some n c)
inserted_stands rows is_key schema keys (member ms m v) n s t i slot w c e f free new = absurd (none-some n c)
inserted_stands rows is_key schema keys (entries key a paired ps) n s t i slot w c e f free new = absurd (none-some n c)
inserted_stands rows is_key schema keys (elements a vs) n s t i slot w c e f free new =
    stands_in (λ v. (a, v)) vs (at_index (λ i xs. insert xs i w) (new_index (length vs) s) vs) w t i (at_count (λ i xs. insert xs i w) vs n i s c e) (enough vs n i s c e) f
    ∙ ap (λ b. Some (b, w)) (same_slot a slot (new_index (length vs) s) free)
inserted_stands rows is_key schema keys (any_entries ms) n s t i slot w c e f free new = absurd (none-some n c)
inserted_stands rows is_key schema keys (any_elements ds) n s t i slot w c e f free new =
    let same : anything ≡ slot = same_slot anything slot (new_index (length ds) s) free in
    stands_in (λ d. (anything, of_any d)) ds (at_index (λ i xs. insert xs i (data_in w)) (new_index (length ds) s) ds) (data_in w) t i (at_count (λ i xs. insert xs i (data_in w)) ds n i s c e) (enough ds n i s c e) f
    ∙ ap (λ v. Some (anything, v)) (inside_of rows is_key (λ slot v. OfType rows slot v) (of_type_is_kept rows is_key schema keys) slot w new (sym same))
    ∙ ap (λ b. Some (b, w)) same
inserted_stands rows is_key schema keys (nothing v) n s t i slot w c e f free new = absurd (none-some n c)

-- the last holder along a path
module _ (rows : List Row) (is_key : ℕ → List ℕ → Bool) (P : Slot → Value → Type 0) (kept : IsKept rows is_key P)
    (f : Holder → List ℕ → Holder) (l : Holder × List ℕ) (typed : (q : InSlot) → P q.0 q.1 → seen rows q ≡ l.0 → P q.0 (value_of (f l.0 l.1)))
    (again : (q : InSlot) (s : List ℕ) → seen rows (q.0, value_of (f (seen rows q) s)) ≡ f (seen rows q) s) where
  below : (p : InSlot) (s t : List ℕ) (ss : List (List ℕ)) (o : Option InSlot) → part (seen rows p) s ≡ o → P p.0 p.1 → option_and_then (λ q. last_holder rows q t ss) o ≡ Some l
      → ((q : InSlot) → P q.0 q.1 → last_holder rows q t ss ≡ Some l → last_holder rows (q.0, changed_in rows f q t ss) t ss ≡ Some (f l.0 l.1, l.1))
      → last_holder rows (p.0, option_map_or (λ q. value_of (set_part (seen rows p) s (changed_in rows f q t ss))) o p.1) s (t ∷ ss) ≡ Some (f l.0 l.1, l.1)
  below p s t ss None e is h rest = absurd (none-some l h)
  below p s t ss (Some q) e is h rest =
      let c = changed_in rows f q t ss in
      let it = kept.parts p q s is e in
      let new = typed_changed rows is_key P kept f l typed q t ss it h in
      let a : part (seen rows (p.0, value_of (set_part (seen rows p) s c))) s ≡ Some (q.0, c) =
      ap (λ h. part h s) (set_part-seen rows p.0 p.1 s c) ∙ set_part-there (seen rows p) s q.0 c (kept.slots p q s is e) (λ g. inside_of rows is_key P kept q.0 c new g) in
      ap (λ o. option_and_then (λ q. last_holder rows q t ss) o) a ∙ rest q it h

  last_at : (s : List ℕ) (ss : List (List ℕ)) (p : InSlot) → P p.0 p.1 → last_holder rows p s ss ≡ Some l → last_holder rows (p.0, changed_in rows f p s ss) s ss ≡ Some (f l.0 l.1, l.1)
  last_at s [] p is h = ap (λ h. Some (h, s)) (again p s) ∙ ap (λ (k : Holder × List ℕ). Some (f k.0 k.1, k.1)) (same_Some (seen rows p, s) l h)
  last_at s (t ∷ ss) p is h = below p s t ss (part (seen rows p) s) refl is h (λ q it g. last_at t ss q it g)

pub last_is_changed : LastIsChanged
last_is_changed rows is_key schema keys p s ss l is h =
    let P = λ (slot : Slot) (v : Value). OfType rows slot v in
    let kept = of_type_is_kept rows is_key schema keys in
    record {
      set = λ slot w free stands new.
          last_at rows is_key P kept (λ h t. set_part h t w) l (set_typed rows is_key P kept l slot w free stands new) (λ q s. set_part-seen rows q.0 q.1 s w) s ss p is h;
      inserted = λ slot w free stands new.
          last_at rows is_key P kept (λ h t. insert_part h t w) l (inserted_typed rows is_key P kept l slot w free stands new) (λ q s. insert_part-seen rows q.0 q.1 s w) s ss p is h;
      deleted = λ free.
          last_at rows is_key P kept delete_part l (deleted_typed rows is_key P kept l free) (λ q s. delete_part-seen rows q.0 q.1 s) s ss p is h;
    }
