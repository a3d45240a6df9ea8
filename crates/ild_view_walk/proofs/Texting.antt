-- What is found of a map as the pairs of a text by itself.
use Rattle.std.proofs.Common.{◌≡◌, ℕ, ◌+◌, ◌<◌, List, [], ◌∷◌, length, Bool, true, false, cond, not, option_map, Some, None, refl, sym, ◌∙◌, ap, subst, arith, inl}
use Rattle.std.specs.Option.{option_and_then}
use Rattle.std.proofs.lemmas.Option.{none-some}
use Rattle.ild_data.specs.Data as T
use Rattle.ild_data.specs.Data.{Data}
use Rattle.ild_schema.specs.Joins.{IsPairs}
use Rattle.ild_schema.specs.declared.def.MapForm.TheVariants as MF
use Rattle.ild_schema.specs.declared.def.TypeDef.{TypeDef}
use Rattle.ild_schema.specs.declared.def.TypeDef.TheVariants as D
use Rattle.ild_schema.specs.declared.number.Slot.{Slot}
use Rattle.ild_schema.specs.declared.number.TypeNo.{TypeNo}
use Rattle.ild_schema.specs.declared.row.Row.{Row}
use Rattle.ild_layer_fields.specs.Entries.{text_entries}
use Rattle.ild_struct.proofs.Splitting.{split_there, only_text}
use Rattle.ild_typed.specs.Causes.{why_of}
use Rattle.ild_typed.specs.Cuts as Cuts
use Rattle.ild_typed.specs.Cuts.{is_split_pairs}
use Rattle.ild_typed.specs.Layer as L
use Rattle.ild_typed.specs.Named.{has_twice, names, split_entries, where_some}
use Rattle.ild_typed.specs.Pieces.{IsWhy, keys_why, repeats_key}
use Rattle.ild_typed.specs.Spots.{entry_spots}
use Rattle.ild_typed.specs.Strings.{text_in, text_pairs}
use Rattle.ild_typed.specs.Texts.{join_pairs}
use Rattle.ild_typed.specs.Why as W
use Rattle.ild_typed.proofs.Basics.{true_from}
use Rattle.ild_typed.proofs.CleanTexts.{given_by}
use Rattle.ild_typed.proofs.JoinLaws.{pairs_are_pairs}
use Rattle.ild_layer_parts.specs.declared.parts.Parts.TheVariants as P
use Rattle.ild_layer_parts.specs.declared.text_entries.TextEntries.{TextEntries}
use Rattle.ild_view_walk.specs.inside.Opens.{HasOpened}
use Rattle.ild_layer_parts.specs.Texts.{HasTexts}
use Rattle.ild_layer_parts.proofs.Asking.{deep_at, keys_at, none_at, own_at}

pub no_text : (key : TypeNo) (key_at : ℕ) (value : Slot) (at : ℕ) (inner entry : List ℕ) (t : Data) → None ≡ text_in t → why_of (D.Map key key_at value at (MF.StringPairs inner entry)) t ≡ Some W.Kind
no_text key key_at value at inner entry (T.text s) e = absurd (none-some s e)
no_text key key_at value at inner entry t e = refl

text_pairs_back : (ps : List (List ℕ × List ℕ)) → text_pairs (text_entries ps) ≡ Some ps
text_pairs_back [] = refl
text_pairs_back (p ∷ ps) = ap (λ o. option_map {U = List (List ℕ × List ℕ)} (λ xs. (p.0, p.1) ∷ xs) o) (text_pairs_back ps)

module _ (room : ℕ) (key : TypeNo) (key_at : ℕ) (value : Slot) (at : ℕ) (inner entry s : List ℕ) (some : 0 < length inner) (more : 0 < length entry) (t : Data) (is : Some s ≡ text_in t) where
  abbrev Own : TypeDef
  Own = D.Map key key_at value at (MF.StringPairs inner entry)

  text_is : t ≡ T.text s
  text_is = only_text t s is

  -- it isn't split
  pub text_unsplit : ((ps : List (List ℕ × List ℕ)) → IsPairs inner entry ps s → ⊥) → IsWhy room (D.Map key key_at value at (MF.StringPairs inner entry)) t W.Delimiter
  text_unsplit none =
      subst (λ u. IsWhy room (D.Map key key_at value at (MF.StringPairs inner entry)) u W.Delimiter) (sym text_is)
      (inl (own_at room (D.Map key key_at value at (MF.StringPairs inner entry)) (T.text s) W.Delimiter (ap (λ b. cond (not b) (Some W.Delimiter) None) (by (is_split_pairs inner entry s) refl))))
    where
      by : (b : Bool) → is_split_pairs inner entry s ≡ b → is_split_pairs inner entry s ≡ false
      by false e = e
      by true e = absurd (none (Cuts.pairs_in inner entry s) ((pairs_are_pairs inner entry (Cuts.pairs_in inner entry s) s some more).0 (given_by s (join_pairs inner entry (Cuts.pairs_in inner entry s)) e)))

  module _ (ps : List (List ℕ × List ℕ)) (are : IsPairs inner entry ps s) where
    shown : split_entries inner entry (T.text s) ≡ Some (text_entries ps)
    shown = (split_there inner entry s some more ps are).shown

    own : why_of (D.Map key key_at value at (MF.StringPairs inner entry)) (T.text s) ≡ None
    own =
        ap (λ b. cond (not b) (Some W.Delimiter) None)
        (true_from (is_split_pairs inner entry s) (text_entries (Cuts.pairs_in inner entry s)) (text_entries ps) shown).0

    keys_are : repeats_key (MF.StringPairs inner entry) (T.text s) ≡ has_twice (names (text_entries ps))
    keys_are = ap (where_some (λ (es : List (List ℕ × Data)). has_twice (names es))) shown

    pub text_repeats : true ≡ has_twice (names (text_entries ps)) → IsWhy room (D.Map key key_at value at (MF.StringPairs inner entry)) t W.Repeat
    text_repeats twice =
        subst (λ u. IsWhy room (D.Map key key_at value at (MF.StringPairs inner entry)) u W.Repeat) (sym text_is)
        (inl (keys_at room (D.Map key key_at value at (MF.StringPairs inner entry)) (T.text s) W.Repeat own (ap (λ b. cond b (Some W.Repeat) None) (keys_are ∙ sym twice))))

    module _ (once : false ≡ has_twice (names (text_entries ps))) where
      no_keys : keys_why (D.Map key key_at value at (MF.StringPairs inner entry)) (T.text s) ≡ None
      no_keys = ap (λ b. cond b (Some W.Repeat) None) (keys_are ∙ sym once)

      pub text_deep : room < 1 → IsWhy room (D.Map key key_at value at (MF.StringPairs inner entry)) t W.Depth
      text_deep less =
          subst (λ u. IsWhy room (D.Map key key_at value at (MF.StringPairs inner entry)) u W.Depth) (sym text_is)
          (inl (deep_at room (D.Map key key_at value at (MF.StringPairs inner entry)) (T.text s) own no_keys less))

      pub text_opens : (rows : List Row) (left : ℕ) (x : TextEntries) → left + 1 ≡ room → HasTexts x (entry_spots (MF.StringPairs inner entry) key value 0 (text_entries ps))
          → HasOpened rows room (D.Map key key_at value at (MF.StringPairs inner entry)) t (record { parts = P.Texts x; room = left })
      text_opens rows left x sum has =
          let made = ap (λ o. option_map T.text (option_and_then (join_pairs inner entry) o)) (text_pairs_back ps) ∙ ap (option_map T.text) ((pairs_are_pairs inner entry ps s some more).1 are) in
          subst (λ u. HasOpened rows room (D.Map key key_at value at (MF.StringPairs inner entry)) u (record { parts = P.Texts x; room = left })) (sym text_is) (record {
            none = none_at room (D.Map key key_at value at (MF.StringPairs inner entry)) (T.text s) own no_keys (omega (arith, sum)) refl;
            spots = entry_spots (MF.StringPairs inner entry) key value 0 (text_entries ps);
            parts = (L.map (text_entries ps), made, refl);
            room_is = sum;
            left = has;
          })

pub split_never : false ≡ true → ⊥
split_never e = cc
