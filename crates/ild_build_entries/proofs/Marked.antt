-- Entries of a HAMT with their marks, sorted bytewise by key.
use Rattle.std.proofs.Common.{◌≡◌, true, false, cond, ◌||◌, ℕ, zero, suc, ◌+◌, ◌≤◌, ◌<◌, List, [], ◌∷◌, ◌++◌, length, map, get_or, set, Result, Ok, Err, OnOk, IsPermutation, IsUtf8, refl, sym, ap, ◌∙◌, subst, arith, append_assoc, append-nil}
use Rattle.std.specs.List.{swap}
use Rattle.std.specs.List.Sorted.{IsSortedByKey}
use Rattle.std.specs.Prelude.{codes}
use Rattle.std.specs.Ordering.{is_lt}
use Rattle.std.proofs.lemmas.Bool.{leb-false, or_parts}
use Rattle.std.proofs.lemmas.List.Sorted.{IsPermutation-keeps, IsPermutation-refl, IsPermutation-trans}
use Rattle.ild_bulk.specs.Build.{is_long}
use Rattle.ild_bulk.specs.Keyed.{AreMarked, IsMarked, entry_front, entry_spelled, mark_in}
use Rattle.ild_bulk.specs.declared.entries.KeyedMark.{KeyedMark}
use Rattle.ild_bulk.proofs.Marking.{marks-grown}
use Rattle.ild_data.specs.ByteOrder.{bytewise, in_byte_order, no_key_twice}
use Rattle.ild_data.specs.Data as D
use Rattle.ild_data.specs.Data.{Data}
use Rattle.ild_data.specs.Limits.{longest_block}
use Rattle.ild_data.specs.Spell.{head, spell, spell_bytes, spell_text}
use Rattle.ild_data.proofs.Apart.{one_meaning}
use Rattle.ild_emit.proofs.Growing.{appended}
use Rattle.ild_emit.specs.Grown.{IsGrown}
use Rattle.ild_node_slots.specs.Form.{AreTexts}
use Rattle.ild_node.specs.Rows.{AreRows, AreShallow, deepest_value}
use Rattle.ild_node.proofs.Writing.{root-done}
use Rattle.ild_hamt_trie.proofs.Pairs.{find-permutation, in_order-from_sort, sorted-permutation}
use Rattle.ild_data.specs.declared.hamt_shape.HamtShape.{HamtShape}
use Rattle.ild_typed.specs.Hamt.{root_map}
use Rattle.ild_typed.specs.Nested.{BlockIn, TreeIn}
use Rattle.ild_build_entries.specs.Entries.{AddsEntry, AreKeyedMarks, EndsEntry, FitsEntry, IsKeyedMark}
use Rattle.ild_build_entries.specs.Fine.{IsFine}
use Rattle.ild_build_entries.specs.declared.hamt.MarkedEntries.{MarkedEntries}
use Rattle.ild_build_entries.specs.declared.nodes.Nodes.{Nodes}
use Rattle.ild_build_entries.proofs.Flags.{true_false}
use Rattle.ild_build_entries.proofs.Roots.{order_all}

-- ---- values that entries hold

pub null_shallow : TreeIn deepest_value D.null
null_shallow = record { tree = tt; nested = omega arith }

entry_is : (key : List ℕ) (d : Data) → entry_front key ++ spell d ≡ entry_spelled (key, d)
entry_is key d = append_assoc (head 4 2) (spell_bytes key) (spell d) ∙ ap (λ s. head 4 2 ++ (spell_bytes key ++ s)) (sym (append-nil (spell d)))

-- an entry whose value counts
pub ends_own : (key before value old : List ℕ) (nodes : Nodes) (from : ℕ) → old ≡ before ++ (entry_front key ++ value) → from ≡ length before → FitsEntry value → EndsEntry key value nodes old old from
ends_own key before value old nodes from is at fits =
    let b = fits.block in
    record {
      of = b.of;
      front = before;
      is = is ∙ ap (λ v. before ++ (entry_front key ++ v)) b.is ∙ ap (λ s. before ++ s) (entry_is key b.of);
      at = at;
      grown = record { more = []; is = sym (append-nil old) };
      shallow = b.fits;
      exact = λ fine t fits_t same. one_meaning b.of t b.fits.tree fits_t.tree (let short = fits.sized in let long = ap length b.is in omega (arith, short, long)) (sym b.is ∙ same);
    }

-- one over null
pub ends_null : (key value old begun new : List ℕ) (nodes : Nodes) (from : ℕ) → (IsFine nodes → ⊥) → begun ≡ old ++ entry_front key → new ≡ begun ++ spell D.null → from ≡ length old → EndsEntry key value nodes old new from
ends_null key value old begun new nodes from none begins is at =
    let whole : new ≡ old ++ entry_spelled (key, D.null) = is ∙ ap (λ b. b ++ spell D.null) begins ∙ append_assoc old (entry_front key) (spell D.null) ∙ ap (λ s. old ++ s) (entry_is key D.null) in
    record {
      of = D.null;
      front = old;
      is = whole;
      at = at;
      grown = record { more = entry_spelled (key, D.null); is = whole };
      shallow = null_shallow;
      exact = λ fine. absurd (none fine);
    }

pub not_fine : (n : Nodes) → (n.exhausted || n.long) ≡ true → IsFine n → ⊥
not_fine n some fine = true_false (n.exhausted || n.long) some (λ i. fine.exhausted i || fine.long i)

pub fine_of : (n : Nodes) → (n.exhausted || n.long) ≡ false → IsFine n
fine_of n none = let both = or_parts n.exhausted n.long none in record { exhausted = both.0; long = both.1 }

short_of : (value : List ℕ) → is_long value ≡ false → length value ≤ longest_block
short_of value short = let low = leb-false (suc longest_block) (length value) short in omega (arith, low)

-- a value that counts, once it was told whether it is too long
pub fits_entry : (value : List ℕ) (was now : Nodes) → now.exhausted ≡ was.exhausted → now.long ≡ (was.long || is_long value) → (IsFine was → BlockIn deepest_value value) → IsFine now → FitsEntry value
fits_entry value was now same long fits fine =
    let both = or_parts was.long (is_long value) (sym long ∙ fine.long) in
    record { block = fits (record { exhausted = sym same ∙ fine.exhausted; long = both.0 }); sized = short_of value both.1 }

pub adds_entry : (h : List ℕ → List ℕ) (key value out : List ℕ) (was now : Nodes) (old new : MarkedEntries) (from : ℕ) (last : KeyedMark) (e : EndsEntry key value now old.out out from) → new.out ≡ out → new.marks.items ≡ old.marks.items ++ last ∷ []
    → last.key.now ≡ key → IsMarked h out (key, e.of) last.mark → now.blocks.items ≡ was.blocks.items → now.exhausted ≡ was.exhausted → now.long ≡ (was.long || is_long value) → AddsEntry h key value was now old new
adds_entry h key value out was now old new from last e written pushes named mark blocks exhausted long = record {
  of = e.of;
  last = last;
  marks = pushes;
  marked = record { key = named; mark = subst (λ b. IsMarked h b (key, e.of) last.mark) (sym written) mark };
  grown = record { more = e.grown.more; is = written ∙ e.grown.is };
  shallow = e.shallow;
  blocks = blocks;
  exhausted = exhausted;
  stays = λ k. long ∙ ap (λ b. b || is_long value) k;
  exact = e.exact;
  long = λ off on. ap {B = ℕ} (λ b. cond b 1 0) (sym (ap (λ b. b || is_long value) off) ∙ sym long ∙ on);
}

pub on_ok : {T E : Type 0} (r : Result T E) (P Q : Type 0) → (P → Q) → OnOk r P → OnOk r Q
on_ok (Ok x) P Q f h = f h
on_ok (Err e) P Q f h = tt

-- where each of some facts follows from a call that went well
pub ok_by : {T E A : Type 0} (r : Result T E) (Q : A → Type 0) (C : Type 0) → ((a : A) → OnOk r (Q a)) → (((a : A) → Q a) → C) → OnOk r C
ok_by (Ok x) Q C each f = f each
ok_by (Err e) Q C each f = tt

-- ---- the order

module _ (h : List ℕ → List ℕ) (b : List ℕ) where
  mark_at : (es : List (List ℕ × Data)) (ks : List KeyedMark) (i : ℕ) (e : List ℕ × Data) (k : KeyedMark) → AreKeyedMarks h b es ks → i < length ks → IsKeyedMark h b (get_or es i e) (get_or ks i k)
  mark_at [] [] i e k are lt = absurd (omega arith)
  mark_at [] (k ∷ ks) i e l are lt = absurd are
  mark_at (e ∷ es) [] i d k are lt = absurd are
  mark_at (e ∷ es) (k ∷ ks) zero d l are lt = are.0
  mark_at (e ∷ es) (k ∷ ks) (suc i) d l are lt = mark_at es ks i d l are.1 (omega arith)

  set_marks : (es : List (List ℕ × Data)) (ks : List KeyedMark) (i : ℕ) (e : List ℕ × Data) (k : KeyedMark) → AreKeyedMarks h b es ks → IsKeyedMark h b e k → AreKeyedMarks h b (set es i e) (set ks i k)
  set_marks [] [] i e k are is = tt
  set_marks [] (l ∷ ks) i e k are is = absurd are
  set_marks (d ∷ es) [] i e k are is = absurd are
  set_marks (d ∷ es) (l ∷ ks) zero e k are is = (is, are.1)
  set_marks (d ∷ es) (l ∷ ks) (suc i) e k are is = (are.0, set_marks es ks i e k are.1 is)

  swap_marks : (es : List (List ℕ × Data)) (ks : List KeyedMark) (i j : ℕ) → AreKeyedMarks h b es ks → i < length ks → j < length ks → AreKeyedMarks h b (swap es i j) (swap ks i j)
  swap_marks [] [] i j are p q = tt
  swap_marks [] (k ∷ ks) i j are p q = absurd are
  swap_marks (e ∷ es) [] i j are p q = absurd are
  swap_marks (e ∷ es) (k ∷ ks) i j are p q =
      set_marks (set (e ∷ es) i (get_or (e ∷ es) j e)) (set (k ∷ ks) i (get_or (k ∷ ks) j k)) j (get_or (e ∷ es) i e) (get_or (k ∷ ks) i k)
      (set_marks (e ∷ es) (k ∷ ks) i (get_or (e ∷ es) j e) (get_or (k ∷ ks) j k) are (mark_at (e ∷ es) (k ∷ ks) j e k are q)) (mark_at (e ∷ es) (k ∷ ks) i e k are p)

  marks_many : (es : List (List ℕ × Data)) (ks : List KeyedMark) → AreKeyedMarks h b es ks → length es ≡ length ks
  marks_many [] [] are = refl
  marks_many [] (k ∷ ks) are = absurd are
  marks_many (e ∷ es) [] are = absurd are
  marks_many (e ∷ es) (k ∷ ks) are = ap suc (marks_many es ks are.1)

  keys_same : (es : List (List ℕ × Data)) (ks : List KeyedMark) → AreKeyedMarks h b es ks → map (λ (k : KeyedMark). k.key.now) ks ≡ map (λ (e : List ℕ × Data). e.0) es
  keys_same [] [] are = refl
  keys_same [] (k ∷ ks) are = absurd are
  keys_same (e ∷ es) [] are = absurd are
  keys_same (e ∷ es) (k ∷ ks) are = (λ i. are.0.key i ∷ keys_same es ks are.1 i)

  pub marks_alone : (es : List (List ℕ × Data)) (ks : List KeyedMark) → AreKeyedMarks h b es ks → AreMarked h b es (map mark_in ks)
  marks_alone [] [] are = tt
  marks_alone [] (k ∷ ks) are = absurd are
  marks_alone (e ∷ es) [] are = absurd are
  marks_alone (e ∷ es) (k ∷ ks) are = (are.0.mark, marks_alone es ks are.1)

  -- the entries of marks in another order
  record Moved (es : List (List ℕ × Data)) (ks : List KeyedMark) : Type 0 where
    to : List (List ℕ × Data)
    moved : IsPermutation es to
    are : AreKeyedMarks h b to ks

  moved_entries : (es : List (List ℕ × Data)) (old new : List KeyedMark) → AreKeyedMarks h b es old → IsPermutation old new → Moved es new
  moved_entries es old new are moves =
      IsPermutation-keeps old (Moved es) (record { to = es; moved = IsPermutation-refl es; are = are })
      (λ l i j p q m.
      let many = marks_many m.to l m.are in
      record {
        to = swap m.to i j;
        moved = IsPermutation-trans es m.to (swap m.to i j) m.moved (record { moves = (i, j) ∷ []; below = (omega (arith, many, p), omega (arith, many, q), tt); is = refl });
        are = swap_marks m.to l i j m.are p q;
      }) new moves

  sorted_entries : (es : List (List ℕ × Data)) (ks : List KeyedMark) → AreKeyedMarks h b es ks → IsSortedByKey (λ (k : KeyedMark). k.key.now) bytewise ks → IsSortedByKey (λ (e : List ℕ × Data). e.0) bytewise es
  sorted_entries es [] are up = λ k d low high. let many = marks_many es [] are in absurd (omega (arith, many, high))
  sorted_entries es (l ∷ ks) are up = λ k d low high.
      let many = marks_many es (l ∷ ks) are in
      let here = (mark_at es (l ∷ ks) k d l are (omega (arith, many, high))).key in
      let next = (mark_at es (l ∷ ks) (k + 1) d l are (omega (arith, many, high))).key in
      (λ i. is_lt (bytewise (sym next i) (sym here i))) ∙ up k l low (omega (arith, high, many))

  -- the entries in the order of their marks
  pub record InOrder (es : List (List ℕ × Data)) (ks : List KeyedMark) : Type 0 where
    pub to : List (List ℕ × Data)
    pub is : in_byte_order es ≡ to
    pub marked : AreMarked h b to (map mark_in ks)
    pub rows : AreTexts es → AreShallow es → AreRows to

  pub in_order : (es : List (List ℕ × Data)) (old new : List KeyedMark) → AreKeyedMarks h b es old → IsPermutation old new → IsSortedByKey (λ (k : KeyedMark). k.key.now) bytewise new → no_key_twice es ≡ true → InOrder es new
  in_order es old new are moves up one =
      let m = moved_entries es old new are moves in
      let order = in_order-from_sort m.to (find-permutation es m.to m.moved one).0 (sorted_entries m.to new m.are up) in
      let is = sorted-permutation es m.to m.moved one order in
      record {
        to = m.to;
        is = is;
        marked = marks_alone m.to new m.are;
        rows = λ texts shallow. (order, subst AreTexts is (order_all (λ e. IsUtf8 e.0) es one texts), subst AreShallow is (order_all (λ e. TreeIn deepest_value e.1) es one shallow));
      }

-- ---- entries that are appended

grown_mark : (h : List ℕ → List ℕ) (b more : List ℕ) (es : List (List ℕ × Data)) (ks : List KeyedMark) → AreKeyedMarks h b es ks → AreKeyedMarks h (b ++ more) es ks
grown_mark h b more [] [] are = tt
grown_mark h b more [] (k ∷ ks) are = absurd are
grown_mark h b more (e ∷ es) [] are = absurd are
grown_mark h b more (e ∷ es) (k ∷ ks) are = (record { key = are.0.key; mark = (marks-grown h b more (e ∷ []) (k.mark ∷ []) (are.0.mark, tt)).0 }, grown_mark h b more es ks are.1)

push_mark : (h : List ℕ → List ℕ) (b : List ℕ) (es : List (List ℕ × Data)) (ks : List KeyedMark) (e : List ℕ × Data) (k : KeyedMark) → AreKeyedMarks h b es ks → IsKeyedMark h b e k → AreKeyedMarks h b (es ++ e ∷ []) (ks ++ k ∷ [])
push_mark h b [] [] e k are is = (is, tt)
push_mark h b [] (l ∷ ks) e k are is = absurd are
push_mark h b (f ∷ es) [] e k are is = absurd are
push_mark h b (f ∷ es) (l ∷ ks) e k are is = (are.0, push_mark h b es ks e k are.1 is)

-- one entry more, behind bytes that were appended
pub marks_more : (h : List ℕ → List ℕ) (b c : List ℕ) (es : List (List ℕ × Data)) (ks new : List KeyedMark) (e : List ℕ × Data) (k : KeyedMark) → AreKeyedMarks h b es ks → IsGrown b c → IsKeyedMark h c e k → new ≡ ks ++ k ∷ []
    → AreKeyedMarks h c (es ++ e ∷ []) new
marks_more h b c es ks new e k are grown is pushes =
    subst (λ ls. AreKeyedMarks h c (es ++ e ∷ []) ls) (sym pushes)
    (push_mark h c es ks e k (subst (λ x. AreKeyedMarks h x es ks) (sym grown.is) (grown_mark h b grown.more es ks are)) is)

-- ---- a root map behind other bytes

pub root_behind : (p : HamtShape) (old : List ℕ) (node : Data) (a b c d e f g : List ℕ) → a ≡ old ++ head 5 3 → b ≡ a ++ spell_text (codes "hamt") → c ≡ b ++ spell node → d ≡ c ++ spell_text (codes "hashAlg") → e ≡ d ++ head 0 18
    → f ≡ e ++ spell_text (codes "bucketSize") → g ≡ f ++ head 0 p.bucket → g ≡ old ++ spell (root_map p node)
root_behind p old node a b c d e f g is_a is_b is_c is_d is_e is_f is_g =
    let a0 : List ℕ = head 5 3 in
    let b0 : List ℕ = a0 ++ spell_text (codes "hamt") in
    let c0 : List ℕ = b0 ++ spell node in
    let d0 : List ℕ = c0 ++ spell_text (codes "hashAlg") in
    let e0 : List ℕ = d0 ++ head 0 18 in
    let f0 : List ℕ = e0 ++ spell_text (codes "bucketSize") in
    let g0 : List ℕ = f0 ++ head 0 p.bucket in
    let on_b : b ≡ old ++ b0 = appended old a b a0 (spell_text (codes "hamt")) is_a is_b in
    let on_c : c ≡ old ++ c0 = appended old b c b0 (spell node) on_b is_c in
    let on_d : d ≡ old ++ d0 = appended old c d c0 (spell_text (codes "hashAlg")) on_c is_d in
    let on_e : e ≡ old ++ e0 = appended old d e d0 (head 0 18) on_d is_e in
    let on_f : f ≡ old ++ f0 = appended old e f e0 (spell_text (codes "bucketSize")) on_e is_f in
    appended old f g f0 (head 0 p.bucket) on_f is_g ∙ ap (λ x. old ++ x) (root-done p node a0 b0 c0 d0 e0 f0 g0 refl refl refl refl refl refl refl)
