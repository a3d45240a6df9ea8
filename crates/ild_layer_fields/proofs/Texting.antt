-- The pairs of a text, one after another.
use Rattle.std.proofs.Common.{◌≡◌, ℕ, ◌<◌, List, [], ◌∷◌, ◌++◌, append_assoc, length, sym, ◌∙◌, ap, subst, arith}
use Rattle.ild_data.specs.Data as T
use Rattle.ild_data.specs.Data.{Data}
use Rattle.ild_schema.specs.declared.def.Field.{Field}
use Rattle.ild_typed.specs.Named.{names}
use Rattle.ild_layer_fields.specs.Causes.{Noted}
use Rattle.ild_layer_fields.specs.Entries.{text_entries}
use Rattle.ild_layer_fields.specs.declared.notes.Notes.{Notes}
use Rattle.ild_layer_fields.proofs.Causing.{map_snoc}
use Rattle.ild_layer_fields.proofs.Surveying.{none_behind}

pub record Splitting (fs : List Field) (all left : List (List ℕ × List ℕ)) (notes : Notes) : Type 0 where
  pub done : List (List ℕ × List ℕ)
  pub is : all ≡ done ++ left
  pub noted : Noted fs (names (text_entries done)) (text_entries done) notes

entries_snoc : (ps : List (List ℕ × List ℕ)) (k v : List ℕ) → text_entries (ps ++ (k, v) ∷ []) ≡ text_entries ps ++ (k, T.text v) ∷ []
entries_snoc ps k v = map_snoc {B = List ℕ × Data} (λ p. (p.0, T.text p.1)) ps (k, v)

module _ (fs : List Field) (all left behind : List (List ℕ × List ℕ)) (old : Notes) (h : Splitting fs all left old) where
  pub splitting_on : (new : Notes) (k v : List ℕ) → left ≡ (k, v) ∷ behind
      → ((ks : List (List ℕ)) (es : List (List ℕ × Data)) → Noted fs ks es old → Noted fs (ks ++ k ∷ []) (es ++ (k, T.text v) ∷ []) new) → Splitting fs all behind new
  splitting_on new k v is more =
      let es = text_entries h.done in
      let next : Noted fs (names es ++ k ∷ []) (es ++ (k, T.text v) ∷ []) new = more (names es) es h.noted in
      let named : Noted fs (names (es ++ (k, T.text v) ∷ [])) (es ++ (k, T.text v) ∷ []) new =
      subst (λ ks. Noted fs ks (es ++ (k, T.text v) ∷ []) new) (sym (map_snoc (λ (e : List ℕ × Data). e.0) es (k, T.text v))) next in
      record {
        done = h.done ++ (k, v) ∷ [];
        is = h.is ∙ ap (λ xs. h.done ++ xs) is ∙ sym (append_assoc h.done ((k, v) ∷ []) behind);
        noted = subst (λ xs. Noted fs (names xs) xs new) (sym (entries_snoc h.done k v)) named;
      }

  pub splitting_end : left ≡ [] → Noted fs (names (text_entries all)) (text_entries all) old
  splitting_end none =
      let same : all ≡ h.done = h.is ∙ ap (λ xs. h.done ++ xs) none ∙ none_behind h.done in
      subst (λ ps. Noted fs (names (text_entries ps)) (text_entries ps) old) (sym same) h.noted

pub shorter : {A : Type 0} (left behind : List A) (x : A) → left ≡ x ∷ behind → length behind < length left
shorter left behind x is = omega (arith, ap length is)
