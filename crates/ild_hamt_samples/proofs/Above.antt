-- When a key is greater than the last one of some rows, and when a value nests little.
use Rattle.std.proofs.Common.{◌≡◌, ℕ, suc, ◌-◌, ◌≤◌, Bool, true, List, [], ◌∷◌, length, Option, Some, None, option_map, refl, sym, ap, ◌∙◌, arith}
use Rattle.std.specs.Prelude.{slice_get}
use Rattle.std.specs.Ordering.{is_lt}
use Rattle.ild_data.specs.ByteOrder.{bytewise}
use Rattle.ild_data.specs.Data.{Data, list, map as map_data, depth}
use Rattle.ild_cbor.specs.Scalar.{count_of}
use Rattle.ild_typed.proofs.NodeEntries.{less}
use Rattle.ild_node.specs.Rows.{IsAbove, spelled_entry}

pub above-none : (es : List (List ℕ × Data)) (key : List ℕ) → length es ≡ 0 → IsAbove key es
above-none [] key none = tt
above-none (e ∷ es) key none = absurd (omega arith)

above-last : (es : List (List ℕ × Data)) (key last : List ℕ) (e : List ℕ × Data) → slice_get es (length es - 1) ≡ Some e → is_lt (bytewise e.0 key) ≡ true → IsAbove key es
above-last [] key last e at lt = tt
above-last (f ∷ []) key last e at lt = let same : f ≡ e = cc in ap (λ (x : List ℕ × Data). bytewise x.0 key) same ∙ less (bytewise e.0 key) lt
above-last (f ∷ g ∷ es) key last e at lt = above-last (g ∷ es) key last e (ap (slice_get (f ∷ g ∷ es)) (one (length es)) ∙ at) lt
  where
    one : (n : ℕ) → suc (suc n - 1) ≡ suc (suc n) - 1
    one n = omega arith

pub shallow : (t : Data) → count_of t ≡ None → depth t ≤ 92
shallow (list ds) none = absurd cc
shallow (map_data ms) none = absurd cc
shallow t none = omega arith

pub above-got : (es : List (List ℕ × Data)) (key last value : List ℕ) (n : ℕ) (b : Bool) → n ≡ length es → Some (last, value) ≡ option_map spelled_entry (slice_get es (n - 1)) → b ≡ is_lt (bytewise last key) → b ≡ true
    → IsAbove key es
above-got es key last value n b count got less_is holds = by (slice_get es (n - 1)) refl got
  where
    by : (o : Option (List ℕ × Data)) → slice_get es (n - 1) ≡ o → Some (last, value) ≡ option_map spelled_entry o → IsAbove key es
    by None at is = absurd cc
    by (Some e) at is =
        let keys : last ≡ e.0 = same_key last value e is in
        above-last es key last e (ap (λ k. slice_get es (k - 1)) (sym count) ∙ at) (ap (λ k. is_lt (bytewise k key)) (sym keys) ∙ sym less_is ∙ holds)
      where
        same_key : (last value : List ℕ) (e : List ℕ × Data) → ◌≡◌ {A = Option (List ℕ × List ℕ)} (Some (last, value)) (Some (spelled_entry e)) → last ≡ e.0
        same_key last value e is = let same : ◌≡◌ {A = List ℕ × List ℕ} (last, value) (spelled_entry e) = cc in ap (λ (x : List ℕ × List ℕ). x.0) same
