-- Entries of which a kind tells that their values are those of fields, one after another.
use Rattle.std.proofs.Common.{◌≡◌, ℕ, List, [], ◌∷◌, ◌++◌, append_assoc, Bool, true, ◌&&◌, None, Some, sym, ◌∙◌, ap, subst}
use Rattle.std.specs.Borrow.{Bor}
use Rattle.std.specs.List.{AllByRecursion}
use Rattle.std.proofs.lemmas.Bool.{and_parts}
use Rattle.ild_data.proofs.AllOf.{all_push}
use Rattle.ild_data.specs.Data.{Data}
use Rattle.ild_cbor.specs.Nodes.{HasData}
use Rattle.ild_cbor.specs.declared.node.Node.{Node}
use Rattle.ild_layer_piece.specs.Entries.{HasLeft, EntriesGive}
use Rattle.ild_layer_piece.specs.declared.walk.MapEntries.{MapEntries}
use Rattle.ild_schema.specs.declared.def.Field.{Field}
use Rattle.ild_schema.specs.declared.row.Row.{Row}
use Rattle.ild_layer_fields.specs.Entries.{by_place}
use Rattle.ild_layer_fields.specs.Told.{IsToldAt}
use Rattle.ild_typed.specs.StructWhy.{place_of}
use Rattle.ild_layer_fields.proofs.Causing.{map_snoc}
use Rattle.ild_layer_fields.proofs.Surveying.{none_behind}

-- entries that are told, and those that are left
pub record Telling (rows : List Row) (fs : List Field) (es : List (List ℕ × Data)) (s : MapEntries) (b : Bool) : Type 0 where
  pub done : List (List ℕ × Data)
  pub rest : List (List ℕ × Data)
  pub is : es ≡ done ++ rest
  pub left : HasLeft s rest
  pub told : b ≡ true → AllByRecursion (IsToldAt rows fs) (by_place fs done)

module _ (rows : List Row) (fs : List Field) (es : List (List ℕ × Data)) (s t : MapEntries) (old : Bool) where
  pub telling_on : (new own : Bool) (key : Bor (List ℕ)) (place : ℕ) (n : Node) → new ≡ (old && own) → place ≡ place_of fs key.now → EntriesGive s (Some (key, n)) t
      → (own ≡ true → (d : Data) → HasData n d → IsToldAt rows fs (place, d)) → Telling rows fs es s old → Telling rows fs es t new
  telling_on new own key place n is_new at gives tells h = by h.rest h.is h.left where
    by : (rest : List (List ℕ × Data)) → es ≡ h.done ++ rest → HasLeft s rest → Telling rows fs es t new
    by [] is left = absurd (gives [] left)
    by (e ∷ rest) is left =
        let x = gives (e ∷ rest) left in
        let entry : e ≡ (key.now, e.1) = λ i. (sym x.key_is i, e.1) in
        record {
          done = h.done ++ (key.now, e.1) ∷ [];
          rest = rest;
          is = is ∙ ap (λ (f : List ℕ × Data). h.done ++ f ∷ rest) entry ∙ sym (append_assoc h.done ((key.now, e.1) ∷ []) rest);
          left = x.left;
          told = λ yes.
              let two = and_parts old own (sym is_new ∙ yes) in
              subst (AllByRecursion (IsToldAt rows fs)) (sym (map_snoc (λ (f : List ℕ × Data). (place_of fs f.0, f.1)) h.done (key.now, e.1)))
              (all_push (IsToldAt rows fs) (by_place fs h.done) (place_of fs key.now, e.1) (h.told two.0) (subst (λ k. IsToldAt rows fs (k, e.1)) at (tells two.1 e.1 x.stands)));
        }

  pub telling_end : EntriesGive s None t → Telling rows fs es s old → old ≡ true → AllByRecursion (IsToldAt rows fs) (by_place fs es)
  telling_end gives h e = by h.rest h.is h.left where
    by : (rest : List (List ℕ × Data)) → es ≡ h.done ++ rest → HasLeft s rest → AllByRecursion (IsToldAt rows fs) (by_place fs es)
    by [] is left = subst (λ ds. AllByRecursion (IsToldAt rows fs) (by_place fs ds)) (sym (is ∙ none_behind h.done)) (h.told e)
    by (x ∷ rest) is left = absurd (gives (x ∷ rest) left)
