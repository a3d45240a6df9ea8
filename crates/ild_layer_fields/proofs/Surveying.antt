-- The entries of a map, one after another.
use Rattle.std.proofs.Common.{◌≡◌, ℕ, List, [], ◌∷◌, ◌++◌, append_assoc, Option, Some, None, refl, sym, ◌∙◌, ap, subst}
use Rattle.std.specs.Borrow.{Bor}
use Rattle.ild_data.specs.Data.{Data}
use Rattle.ild_cbor.specs.Nodes.{HasData}
use Rattle.ild_cbor.specs.declared.node.Node.{Node}
use Rattle.ild_schema.specs.declared.def.Field.{Field}
use Rattle.ild_typed.specs.Named.{names}
use Rattle.ild_layer_piece.specs.Entries.{HasLeft, EntriesGive, Maps}
use Rattle.ild_layer_piece.specs.declared.walk.MapEntries.{MapEntries}
use Rattle.ild_layer_fields.specs.Causes.{Noted}
use Rattle.ild_layer_fields.specs.declared.notes.Notes.{Notes}
use Rattle.ild_layer_fields.proofs.Causing.{map_snoc}

-- entries that are noted, and those that are left
pub record Surveying (fs : List Field) (es : List (List ℕ × Data)) (s : MapEntries) (notes : Notes) : Type 0 where
  pub done : List (List ℕ × Data)
  pub rest : List (List ℕ × Data)
  pub is : es ≡ done ++ rest
  pub left : HasLeft s rest
  pub noted : Noted fs (names done) done notes

pub none_behind : {A : Type 0} (xs : List A) → xs ++ [] ≡ xs
none_behind [] = refl
none_behind (x ∷ xs) = ap (λ ys. x ∷ ys) (none_behind xs)

-- one more is noted
abbrev pub NotesMore : List Field → List ℕ → Node → Notes → Notes → Type 0
NotesMore fs k n old new =
    (d : Data) → HasData n d → (ks : List (List ℕ)) (es : List (List ℕ × Data)) → Noted fs ks es old → Noted fs (ks ++ k ∷ []) (es ++ (k, d) ∷ []) new

module _ (fs : List Field) (es : List (List ℕ × Data)) (s t : MapEntries) (old : Notes) where
  pub survey_on : (new : Notes) (key : Bor (List ℕ)) (n : Node) → EntriesGive s (Some (key, n)) t → NotesMore fs key.now n old new → Surveying fs es s old → Surveying fs es t new
  survey_on new key n gives more h = by h.rest h.is h.left where
    by : (rest : List (List ℕ × Data)) → es ≡ h.done ++ rest → HasLeft s rest → Surveying fs es t new
    by [] is left = absurd (gives [] left)
    by (e ∷ rest) is left =
        let x = gives (e ∷ rest) left in
        let entry : e ≡ (key.now, e.1) = λ i. (sym x.key_is i, e.1) in
        record {
          done = h.done ++ (key.now, e.1) ∷ [];
          rest = rest;
          is = is ∙ ap (λ (f : List ℕ × Data). h.done ++ f ∷ rest) entry ∙ sym (append_assoc h.done ((key.now, e.1) ∷ []) rest);
          left = x.left;
          noted = subst (λ ks. Noted fs ks (h.done ++ (key.now, e.1) ∷ []) new) (sym (map_snoc (λ (f : List ℕ × Data). f.0) h.done (key.now, e.1)))
              (more e.1 x.stands (names h.done) h.done h.noted);
        }

  pub survey_end : EntriesGive s None t → Surveying fs es s old → Noted fs (names es) es old
  survey_end gives h = by h.rest h.is h.left where
    by : (rest : List (List ℕ × Data)) → es ≡ h.done ++ rest → HasLeft s rest → Noted fs (names es) es old
    by [] is left = subst (λ ds. Noted fs (names ds) ds old) (sym (is ∙ none_behind h.done)) h.noted
    by (e ∷ rest) is left = absurd (gives (e ∷ rest) left)

-- an iterator over entries that there are
pub record Entries (o : Option (List (List ℕ × Data))) (s : MapEntries) : Type 0 where
  pub entries : List (List ℕ × Data)
  pub are : o ≡ Some entries
  pub left : HasLeft s entries

pub entries_there : (o : Option (List (List ℕ × Data))) (s : MapEntries) → Maps o (Some s) → Entries o s
entries_there None s h = absurd h
entries_there (Some es) s h = record { entries = es; are = refl; left = h }

pub no_entries : (o : Option (List (List ℕ × Data))) → Maps o None → o ≡ None
no_entries None h = refl
no_entries (Some es) h = absurd h
