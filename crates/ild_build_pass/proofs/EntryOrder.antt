-- Entries of a HAMT with their marks, sorted bytewise by key.
use Rattle.std.proofs.Common.{◌≡◌, ℕ, zero, suc, ◌+◌, List, [], ◌∷◌, ◌++◌, length, take, slice_get, Some, IsUtf8, refl, sym, ap, ◌∙◌, subst, arith, append_assoc}
use Rattle.std.proofs.lemmas.List.{length-append}
use Rattle.std.proofs.lemmas.Option.{same_Some, none-some}
use Rattle.ild_bulk.specs.Keyed.{entry_front}
use Rattle.ild_data.specs.Data.{Data}
use Rattle.ild_emit.proofs.Growing.{grown_then}
use Rattle.ild_node_slots.specs.Form.{AreTexts}
use Rattle.ild_node.specs.Rows.{deepest_value}
use Rattle.ild_schema.specs.declared.number.Slot.{Slot}
use Rattle.ild_schema.specs.declared.row.Row.{Row}
use Rattle.ild_schema.specs.Made.{IsMade}
use Rattle.ild_schema.specs.Spelled.{IsSpelled}
use Rattle.ild_schema.specs.Value.{Value}
use Rattle.ild_typed.specs.Hamt.{whole}
use Rattle.ild_typed.specs.Nested.{BlockIn}
use Rattle.ild_build_entries.specs.Entries.{AddsEntry, AreKeyedMarks}
use Rattle.ild_build_entries.proofs.Marked.{marks_more}
use Rattle.ild_build_pass.specs.Fitting.{HamtEntry, HamtFits}
use Rattle.ild_build_leaf.specs.Made.{made}
use Rattle.ild_build_pass.specs.Weights.{bare_keys, weigh}
use Rattle.ild_build_entries.specs.Fine.{IsFine}
use Rattle.ild_build_pass.specs.Writes.{Writes}
use Rattle.ild_build_entries.specs.declared.hamt.MarkedEntries.{MarkedEntries}
use Rattle.ild_build_entries.specs.declared.nodes.Nodes.{Nodes}
use Rattle.ild_build_pass.proofs.Crowds.{nulls}
use Rattle.ild_build_pass.proofs.Gathering.{Gathered, gathered_more, none_gathered, value_block, written_behind}

-- ---- the entries so far, in their buffer

module _ (h : List ℕ → List ℕ) (rows : List Row) (u : Slot) where
  pub record MarkedSoFar (ps : List (List ℕ × Value)) (entries : MarkedEntries) (was now : Nodes) : Type 0 where
    pub es : List (List ℕ × Data)
    pub marked : AreKeyedMarks h entries.out es entries.marks.items
    pub gathered : Gathered h rows u ps es was now

  pub none_marked : (entries : MarkedEntries) (was : Nodes) → entries.marks.items ≡ [] → MarkedSoFar [] entries was was
  none_marked entries was none = record { es = []; marked = subst (λ ks. AreKeyedMarks h entries.out [] ks) (sym none) tt; gathered = none_gathered h rows u was }

  module _ (made_is : IsMade rows) (spelled : IsSpelled rows) (p : List ℕ × Value) (entry : HamtEntry rows u p) where
    pub marked_more : (ps : List (List ℕ × Value)) (old full new : MarkedEntries) (was mid then now : Nodes) (begun : List ℕ) (from value_from : ℕ) → MarkedSoFar ps old was mid → begun ≡ old.out ++ entry_front p.0 → full.marks.items ≡ old.marks.items
        → Writes h rows (made (whole h) rows u p.1) (λ μ. weigh μ rows u p.1) begun full.out mid then → from ≡ length old.out → value_from ≡ length begun
        → ((front value : List ℕ) → full.out ≡ front ++ (entry_front p.0 ++ value) → from ≡ length front → value_from ≡ length front + length (entry_front p.0) → (IsFine then → BlockIn deepest_value value) → AddsEntry h p.0 value then now full new)
        → MarkedSoFar (ps ++ p ∷ []) new was now
    marked_more ps old full new was mid then now begun from value_from g begins same w at value_at adds =
        let value : List ℕ = w.grown.more in
        let is : full.out ≡ old.out ++ (entry_front p.0 ++ value) = w.grown.is ∙ ap (λ b. b ++ value) begins ∙ append_assoc old.out (entry_front p.0) value in
        let alone = written_behind h rows (made (whole h) rows u p.1) (λ μ. weigh μ rows u p.1) begun value mid then
        (subst (λ o. Writes h rows (made (whole h) rows u p.1) (λ μ. weigh μ rows u p.1) begun o mid then) w.grown.is w) in
        let a = adds old.out value is at (value_at ∙ ap length begins ∙ length-append old.out (entry_front p.0)) (value_block h rows u made_is spelled p entry value mid then alone) in
        record {
          es = g.es ++ (p.0, a.of) ∷ [];
          marked = marks_more h old.out new.out g.es old.marks.items new.marks.items (p.0, a.of) a.last g.marked (grown_then old.out full.out new.out (entry_front p.0 ++ value) is a.grown) a.marked (a.marks ∙ ap (λ ks. ks ++ a.last ∷ []) same);
          gathered = gathered_more h rows u made_is spelled p entry ps g.es full new was mid then now value g.gathered alone a;
        }

-- ---- the entries of a value

pub taken_got : {X : Type 0} (xs : List X) (i : ℕ) (x : X) → slice_get xs i ≡ Some x → take (i + 1) xs ≡ take i xs ++ x ∷ []
taken_got xs i x at = let e : i + 1 ≡ suc i = omega arith in ap (λ n. take n xs) e ∙ by xs i at
  where
    by : (ys : List _) (j : ℕ) → slice_get ys j ≡ Some x → take (suc j) ys ≡ take j ys ++ x ∷ []
    by [] j at = absurd (none-some x at)
    by (y ∷ ys) zero at = ap (λ z. z ∷ []) (same_Some y x at)
    by (y ∷ ys) (suc j) at = ap (λ zs. y ∷ zs) (by ys j at)

texts_bare : (ps : List (List ℕ × Value)) → ((i : ℕ) (p : List ℕ × Value) → slice_get ps i ≡ Some p → IsUtf8 p.0) → AreTexts (bare_keys ps)
texts_bare [] each = tt
texts_bare (p ∷ ps) each = (each 0 p refl, texts_bare ps (λ i q e. each (suc i) q e))

texts_nulls : (es : List (List ℕ × Data)) → AreTexts (nulls es) → AreTexts es
texts_nulls [] texts = tt
texts_nulls (e ∷ es) texts = (texts.0, texts_nulls es texts.1)

pub texts_by_keys : (ps : List (List ℕ × Value)) (es : List (List ℕ × Data)) → nulls es ≡ bare_keys ps → ((i : ℕ) (p : List ℕ × Value) → slice_get ps i ≡ Some p → IsUtf8 p.0) → AreTexts es
texts_by_keys ps es keys each = texts_nulls es (subst AreTexts (sym keys) (texts_bare ps each))

-- one entry more of those of a value
pub marked_round : (h : List ℕ → List ℕ) (rows : List Row) (u : Slot) → IsMade rows → IsSpelled rows → (ps : List (List ℕ × Value)) → HamtFits rows u ps → (i : ℕ) (k : List ℕ) (v : Value) → slice_get ps i ≡ Some (k, v)
    → (old full new : MarkedEntries) (was mid then now : Nodes) (begun : List ℕ) (from value_from : ℕ) → MarkedSoFar h rows u (take i ps) old was mid → begun ≡ old.out ++ entry_front k → full.marks.items ≡ old.marks.items
    → Writes h rows (made (whole h) rows u v) (λ μ. weigh μ rows u v) begun full.out mid then → from ≡ length old.out → value_from ≡ length begun
    → ((front value : List ℕ) → full.out ≡ front ++ (entry_front k ++ value) → from ≡ length front → value_from ≡ length front + length (entry_front k) → (IsFine then → BlockIn deepest_value value) → AddsEntry h k value then now full new)
    → MarkedSoFar h rows u (take (i + 1) ps) new was now
marked_round h rows u made_is spelled ps fits i k v at old full new was mid then now begun from value_from so_far begins same w from_is value_is adds =
    subst (λ xs. MarkedSoFar h rows u xs new was now) (sym (taken_got {X = List ℕ × Value} ps i (k, v) at))
    (marked_more h rows u made_is spelled (k, v) (fits.each i (k, v) at) (take i ps) old full new was mid then now begun from value_from so_far begins same w from_is value_is adds)
