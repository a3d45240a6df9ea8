-- The views of the holders on a path, one after another.
use Rattle.std.proofs.Common.{◌≡◌, ◌<◌, ◌≤◌, ◌+◌, ℕ, zero, suc, List, [], ◌∷◌, ◌++◌, length, take, get_or, length-append, ◌⊎◌, inl, inr, Option, Some, None, refl, sym, ◌∙◌, ap, subst, arith}
use Rattle.std.specs.Prelude.{IsSomeAnd, option_and_then, slice_get}
use Rattle.std.proofs.lemmas.Bool.{cases_lt}
use Rattle.std.proofs.lemmas.Option.{none-some, same_Some}
use Rattle.ild_path_holder.proofs.Walking.{handed}
use Rattle.ild_data.proofs.Options.{chain_some}
use Rattle.ild_path_edit.specs.Holders.{AreHolders}
use Rattle.ild_schema.specs.Value.{Value}
use Rattle.ild_schema.specs.declared.row.Row.{Row}
use Rattle.ild_typed.specs.At.{InSlot, at, seen}
use Rattle.ild_typed.specs.Segment.{part}
use Rattle.ild_view.specs.Parts.{HandsOut, IsPartView}
use Rattle.ild_view.specs.View.{IsView, slot_of, table_of}
use Rattle.ild_view.specs.declared.view.View.{View}

-- ---- elements

got : {A : Type 0} (P : A → Type 0) (xs : List A) (x : A) (n : ℕ) → (n < length xs → IsSomeAnd (slice_get xs n) P) → (n ≡ length xs → P x) → n ≤ length xs → IsSomeAnd (slice_get (xs ++ x ∷ []) n) P
got P [] x zero before last le = last refl
got P [] x (suc n) before last le = absurd (omega (arith, le))
got P (y ∷ ys) x zero before last le = before (omega arith)
got P (y ∷ ys) x (suc n) before last le = got P ys x n (λ less. before (omega (arith, less))) (λ e. last (omega (arith, e))) (omega (arith, le))

pub segment_is : (xs : List (List ℕ)) (k : ℕ) (x s : List ℕ) → slice_get xs k ≡ Some s → x ≡ get_or xs k x → x ≡ s
segment_is [] k x s e is = absurd (none-some s e)
segment_is (y ∷ ys) zero x s e is = is ∙ same_Some y s e
segment_is (y ∷ ys) (suc k) x s e is = segment_is ys k x s e is

-- ---- a path that leads to a holder

-- leads to those before it
before : (rows : List Row) (path : List (List ℕ)) (n m : ℕ) (p q : InSlot) → m ≤ n → at rows p (take n path) ≡ Some q → (r : InSlot) × (at rows p (take m path) ≡ Some r)
before rows path n zero p q le a = (p, refl)
before rows [] n (suc m) p q le a = (p, refl)
before rows (x ∷ xs) zero (suc m) p q le a = absurd (omega (arith, le))
before rows (x ∷ xs) (suc n) (suc m) p q le a =
    let y = chain_some (λ z. at rows z (take n xs)) (part (seen rows p) x) q a in
    let more = before rows xs n m y.0 q (omega (arith, le)) y.2 in
    (more.0, ap (option_and_then (λ z. at rows z (take m xs))) y.1 ∙ more.1)

-- as the part of the one before
record Came (rows : List Row) (path : List (List ℕ)) (k : ℕ) (p q : InSlot) : Type 0 where
  holder : InSlot
  segment : List ℕ
  leads : at rows p (take k path) ≡ Some holder
  is : slice_get path k ≡ Some segment
  there : part (seen rows holder) segment ≡ Some q

came : (rows : List Row) (path : List (List ℕ)) (k : ℕ) (p q : InSlot) → k < length path → at rows p (take (suc k) path) ≡ Some q → Came rows path k p q
came rows [] k p q less a = absurd (omega (arith, less))
came rows (x ∷ xs) zero p q less a =
    let y = chain_some (λ (z : InSlot). Some z) (part (seen rows p) x) q a in
    record { holder = p; segment = x; leads = refl; is = refl; there = y.1 ∙ y.2 }
came rows (x ∷ xs) (suc k) p q less a =
    let y = chain_some (λ z. at rows z (take (suc k) xs)) (part (seen rows p) x) q a in
    let more = came rows xs k y.0 q (omega (arith, less)) y.2 in
    record { holder = more.holder; segment = more.segment; leads = ap (option_and_then (λ z. at rows z (take k xs))) y.1 ∙ more.leads; is = more.is; there = more.there }

-- ---- the views so far

abbrev pub PartClause : View → List ℕ → Option View → Type 0
PartClause v s r = (f : Value) → IsView v f → HandsOut (table_of v) (part (seen (table_of v) (slot_of v, f)) s) r

part_view : (rows : List Row) (p q : InSlot) (v : View) (s : List ℕ) (r : Option View) → IsPartView rows p v → PartClause v s r → part (seen rows p) s ≡ Some q → IsSomeAnd r (IsPartView rows q)
part_view rows p q v s r view all there =
    subst (λ u. part (seen rows (u, p.1)) s ≡ Some q → IsSomeAnd r (IsPartView rows q)) view.slot
    (subst (λ rs. part (seen rs (slot_of v, p.1)) s ≡ Some q → IsSomeAnd r (IsPartView rs q)) view.table (λ e. handed (table_of v) _ q r e (all p.1 view.view)))
    there

pub record Viewed (rows : List Row) (p : InSlot) (path : List (List ℕ)) (k : ℕ) (vs : List View) (v : View) : Type 0 where
  pub count : length vs ≡ k
  pub holders : (n : ℕ) (q : InSlot) → n < k → at rows p (take n path) ≡ Some q → IsSomeAnd (slice_get vs n) (IsPartView rows q)
  pub here : (q : InSlot) → at rows p (take k path) ≡ Some q → IsPartView rows q v

pub viewed_root : (v : View) (f : Value) (path : List (List ℕ)) (vs : List View) → vs ≡ [] → IsView v f → Viewed (table_of v) (slot_of v, f) path 0 vs v
viewed_root v f path vs none is = record {
  count = ap length none;
  holders = λ n q less a. absurd (omega (arith, less));
  here = λ q a. subst (λ q. IsPartView (table_of v) q v) (same_Some (slot_of v, f) q a) (record { table = refl; slot = refl; view = is });
}

module _ (rows : List Row) (p : InSlot) (path : List (List ℕ)) (k : ℕ) (vs all : List View) (v : View) (viewed : Viewed rows p path k vs v) where
  pub up_to : all ≡ vs ++ v ∷ [] → (n : ℕ) (q : InSlot) → n < suc k → at rows p (take n path) ≡ Some q → IsSomeAnd (slice_get all n) (IsPartView rows q)
  up_to is n q less a =
      let count = viewed.count in
      subst (λ xs. IsSomeAnd (slice_get xs n) (IsPartView rows q)) (sym is)
      (got (IsPartView rows q) vs v n (λ below. viewed.holders n q (omega (arith, below, count)) a) (λ e. viewed.here q (subst (λ m. at rows p (take m path) ≡ Some q) (e ∙ count) a)) (omega (arith, less, count)))

  module _ (x : List ℕ) (less : k < length path) (x_is : x ≡ get_or path k x) where
    next : (r : Option View) → PartClause v x r → (q : InSlot) → at rows p (take (suc k) path) ≡ Some q → IsSomeAnd r (IsPartView rows q)
    next r clause q a =
        let c = came rows path k p q less a in
        let name : x ≡ c.segment = segment_is path k x c.segment c.is x_is in
        part_view rows c.holder q v x r (viewed.here c.holder c.leads) clause (ap (part (seen rows c.holder)) name ∙ c.there)

    one_more : k + 1 ≡ suc k
    one_more = omega arith

    count_of : all ≡ vs ++ v ∷ [] → length all ≡ k + 1
    count_of is = let long : length all ≡ length (vs ++ v ∷ []) = ap length is in omega (arith, long, length-append vs (v ∷ []), viewed.count)

    pub viewed_on : (w : View) → all ≡ vs ++ v ∷ [] → PartClause v x (Some w) → Viewed rows p path (k + 1) all w
    viewed_on w is clause = record {
      count = count_of is;
      holders = λ n q below a. up_to is n q (omega (arith, below)) a;
      here = λ q a. next (Some w) clause q (subst (λ (m : ℕ). at rows p (take m path) ≡ Some q) one_more a);
    }

    pub viewed_ends : all ≡ vs ++ v ∷ [] → PartClause v x None → AreHolders rows p path all
    viewed_ends is clause n q below a = by n q a (cases_lt k n)
      where
        by : (n : ℕ) (q : InSlot) → at rows p (take n path) ≡ Some q → (k < n) ⊎ (n ≤ k) → IsSomeAnd (slice_get all n) (IsPartView rows q)
        by n q a (inr le) = up_to is n q (omega (arith, le)) a
        by n q a (inl more) = let b = before rows path n (suc k) p q (omega (arith, more)) a in absurd (next None clause b.0 b.1)
