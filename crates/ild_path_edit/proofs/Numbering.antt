-- The holders on the path of an edit by their number.
use Rattle.std.proofs.Common.{◌≡◌, ◌<◌, ℕ, zero, suc, List, [], ◌∷◌, length, take, drop, Bool, Some, refl, ◌∙◌, ap, subst, arith}
use Rattle.std.specs.Prelude.{option_and_then, slice_get}
use Rattle.std.proofs.lemmas.Option.{same_Some}
use Rattle.ild_data.proofs.Options.{chain_some}
use Rattle.ild_data.specs.Data.{Data}
use Rattle.ild_path_block.specs.Edits.{BringsPart}
use Rattle.ild_path_block.specs.declared.edit.PartEdit.{PartEdit}
use Rattle.ild_path_edit.proofs.Stepping.{brings_from, part_made, part_typed}
use Rattle.ild_schema.specs.Value.{Value}
use Rattle.ild_schema.specs.declared.row.Row.{Row}
use Rattle.ild_typed.specs.At.{InSlot, at, seen}
use Rattle.ild_typed.specs.Hamt.{alone}
use Rattle.ild_typed.specs.OfType.{OfType, TestsKeys}
use Rattle.ild_typed.specs.Represented.{represented}
use Rattle.ild_typed.specs.Schema.{IsSchema}
use Rattle.ild_typed.specs.Segment.{part}

-- ---- segments

pub segment_there : (path : List (List ℕ)) (k : ℕ) (s : List ℕ) (rest : List (List ℕ)) → drop k path ≡ s ∷ rest → slice_get path k ≡ Some s
segment_there [] zero s rest e = absurd cc
segment_there [] (suc k) s rest e = absurd cc
segment_there (x ∷ xs) zero s rest e = let same : x ≡ s = cc e in ap (λ y. Some y) same
segment_there (x ∷ xs) (suc k) s rest e = segment_there xs k s rest e

-- the segments from one on, which is not the last
pub record Two (path : List (List ℕ)) (k : ℕ) : Type 0 where
  pub first : List ℕ
  pub second : List ℕ
  pub rest : List (List ℕ)
  pub is : drop k path ≡ first ∷ second ∷ rest

pub two : (path : List (List ℕ)) (k : ℕ) → suc k < length path → Two path k
two [] k less = absurd (omega (arith, less))
two (x ∷ []) k less = absurd (omega (arith, less))
two (x ∷ y ∷ ys) zero less = record { first = x; second = y; rest = ys; is = refl }
two (x ∷ y ∷ ys) (suc k) less = let more = two (y ∷ ys) k (omega (arith, less)) in record { first = more.first; second = more.second; rest = more.rest; is = more.is }

-- the last
pub one : (path : List (List ℕ)) (k : ℕ) → suc k ≡ length path → (s : List ℕ) × (drop k path ≡ s ∷ [])
one [] k e = absurd cc
one (x ∷ []) zero e = (x, refl)
one (x ∷ []) (suc k) e = absurd (omega (arith, e))
one (x ∷ y ∷ ys) zero e = absurd (omega (arith, e))
one (x ∷ y ∷ ys) (suc k) e = one (y ∷ ys) k (omega (arith, e))

-- ---- where they lead

module _ (rows : List Row) where
  pub at_next : (path : List (List ℕ)) (k : ℕ) (p q r : InSlot) (s : List ℕ) (rest : List (List ℕ)) → at rows p (take k path) ≡ Some q → drop k path ≡ s ∷ rest → part (seen rows q) s ≡ Some r → at rows p (take (suc k) path) ≡ Some r
  at_next [] zero p q r s rest a e there = absurd cc
  at_next [] (suc k) p q r s rest a e there = absurd cc
  at_next (x ∷ xs) zero p q r s rest a e there =
      let name : x ≡ s = cc e in
      ap (option_and_then (λ (q : InSlot). Some q)) (ap (part (seen rows p)) name ∙ ap (λ y. part (seen rows y) s) (same_Some p q a) ∙ there)
  at_next (x ∷ xs) (suc k) p q r s rest a e there =
      let y = chain_some (λ z. at rows z (take k xs)) (part (seen rows p) x) q a in
      ap (option_and_then (λ z. at rows z (take (suc k) xs))) y.1 ∙ at_next xs k y.0 q r s rest y.2 e there

  module _ (is_key : ℕ → List ℕ → Bool) (schema : IsSchema rows) (keys : TestsKeys rows is_key) (edit : PartEdit) (w : Value) where
    -- what is known of the root is known of the holder to which so many segments lead
    pub record Known (path : List (List ℕ)) (q : InSlot) : Type 0 where
      pub typed : OfType rows q.0 q.1
      pub old : Data
      pub was : represented alone rows q.0 q.1 ≡ Some old
      pub brings : BringsPart rows q path edit w

    pub known_at : (path : List (List ℕ)) (n : ℕ) (p q : InSlot) → n < length path → at rows p (take n path) ≡ Some q → Known path p → Known (drop n path) q
    known_at [] n p q less a is = absurd (omega (arith, less))
    known_at (s ∷ ss) zero p q less a is = subst (Known (s ∷ ss)) (same_Some p q a) is
    known_at (s ∷ []) (suc n) p q less a is = absurd (omega (arith, less))
    known_at (s ∷ t ∷ ss) (suc n) p q less a is =
        let x = chain_some (λ z. at rows z (take n (t ∷ ss))) (part (seen rows p) s) q a in
        let typed = part_typed rows is_key schema keys p x.0 s is.typed x.1 in
        let made = part_made rows is_key schema keys p x.0 s is.old is.typed x.1 is.was in
        known_at (t ∷ ss) n x.0 q (omega (arith, less)) x.2 (record { typed = typed; old = made.0; was = made.1; brings = brings_from rows p x.0 s t ss edit w x.1 is.brings })
