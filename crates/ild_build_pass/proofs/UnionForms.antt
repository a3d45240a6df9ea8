-- The spelling of a union's representation, by its form.
use Rattle.std.proofs.Common.{◌≡◌, ℕ, List, [], ◌∷◌, ◌++◌, true, false, Option, Some, None, option_map, refl, ap, ◌∙◌, append-nil}
use Rattle.std.specs.Prelude.{option_and_then}
use Rattle.std.specs.Ordering.{is_lt, match_ordering}
use Rattle.std.specs.declared.cmp.Ordering.{Ordering}
use Rattle.std.specs.declared.cmp.Ordering.TheVariants.{Less, Equal, Greater}
use Rattle.std.proofs.lemmas.Option.{same_Some}
use Rattle.ild_data.specs.Data as T
use Rattle.ild_data.specs.Data.{Data}
use Rattle.ild_data.specs.Key.{key_cmp, key_less}
use Rattle.ild_data.specs.Spell.{head, spell, spell_text, spell_bytes}
use Rattle.ild_data.proofs.Rising.{key_exact}
use Rattle.ild_schema.specs.declared.number.Slot.{Slot}
use Rattle.ild_schema.specs.declared.def.UnionForm.TheVariants as UF
use Rattle.ild_schema.specs.declared.row.Row.{Row}
use Rattle.ild_data.specs.Hex.{bytes_of_hex}
use Rattle.ild_schema.specs.Value.{Value}
use Rattle.ild_typed.specs.Composed.{marked_form}
use Rattle.ild_typed.specs.Hamt.{whole}
use Rattle.ild_typed.specs.Represented.{represented}
use Rattle.ild_typed.specs.Strings.{bytes_in, map_data}
use Rattle.ild_typed.proofs.Basics.{map_from, then_from}
use Rattle.ild_typed.proofs.Entries.{only_bytes_data}
use Rattle.ild_build_leaf.specs.Made.{made}
use Rattle.ild_build_pass.specs.inside.Made.{entry_made, marked_made}

module _ (hash : List ℕ → List ℕ) (rows : List Row) (s : Slot) (v : Value) where
  pub keyed_made : (name : List ℕ) → marked_made (whole hash) rows UF.Keyed s v name ≡ option_map (λ t. head 5 1 ++ t) (entry_made (whole hash) rows false name s v)
  keyed_made name = by (represented (whole hash) rows s v)
    where
      by : (o : Option Data) → option_map spell (option_and_then (λ d. marked_form UF.Keyed d name) o) ≡ option_map (λ t. head 5 1 ++ t) (option_map (λ t. spell_text name ++ t) (option_map spell o))
      by None = refl
      by (Some d) = ap (λ x. Some (head 5 1 ++ x)) (append-nil (spell_text name ++ spell d))

  pub envelope_less : (key content name : List ℕ) → key_less key content ≡ true
      → marked_made (whole hash) rows (UF.Envelope key content) s v name ≡ option_map (λ t. head 5 2 ++ t) (option_map (λ t. (spell_text key ++ spell_text name) ++ t) (entry_made (whole hash) rows false content s v))
  envelope_less key content name less = by (represented (whole hash) rows s v)
    where
      order : (o : Ordering) → is_lt o ≡ true → o ≡ Less
      order Less h = refl
      order Equal h = absurd cc
      order Greater h = absurd cc

      by : (o : Option Data) → option_map spell (option_and_then (λ d. marked_form (UF.Envelope key content) d name) o)
          ≡ option_map (λ t. head 5 2 ++ t) (option_map (λ t. (spell_text key ++ spell_text name) ++ t) (option_map (λ t. spell_text content ++ t) (option_map spell o)))
      by None = refl
      by (Some d) =
          ap (λ r. Some (spell (map_data (match_ordering r ((key, T.text name) ∷ (content, d) ∷ []) ((key, T.text name) ∷ []) ((content, d) ∷ (key, T.text name) ∷ []))))) (order (key_cmp key content) less)
          ∙ ap (λ x. Some (head 5 2 ++ ((spell_text key ++ spell_text name) ++ x))) (append-nil (spell_text content ++ spell d))

  pub envelope_more : (key content name : List ℕ) → key_less key content ≡ false → (key ≡ content → ⊥)
      → marked_made (whole hash) rows (UF.Envelope key content) s v name ≡ option_map (λ t. head 5 2 ++ t) (option_map (λ t. t ++ (spell_text key ++ spell_text name)) (entry_made (whole hash) rows false content s v))
  envelope_more key content name more apart = by (represented (whole hash) rows s v)
    where
      order : (o : Ordering) → (o ≡ Equal → ⊥) → is_lt o ≡ false → o ≡ Greater
      order Less other h = absurd cc
      order Equal other h = absurd (other refl)
      order Greater other h = refl

      by : (o : Option Data) → option_map spell (option_and_then (λ d. marked_form (UF.Envelope key content) d name) o)
          ≡ option_map (λ t. head 5 2 ++ t) (option_map (λ t. t ++ (spell_text key ++ spell_text name)) (option_map (λ t. spell_text content ++ t) (option_map spell o)))
      by None = refl
      by (Some d) =
          ap (λ r. Some (spell (map_data (match_ordering r ((key, T.text name) ∷ (content, d) ∷ []) ((key, T.text name) ∷ []) ((content, d) ∷ (key, T.text name) ∷ [])))))
          (order (key_cmp key content) (λ e. apart (key_exact key content e)) more)
          ∙ ap (λ x. Some (head 5 2 ++ ((spell_text content ++ spell d) ++ x))) (append-nil (spell_text key ++ spell_text name))

  pub record Prefixed (digits t : List ℕ) : Type 0 where
    pub front : List ℕ
    pub rest : List ℕ
    pub known : bytes_of_hex digits ≡ Some front
    pub there : made (whole hash) rows s v ≡ Some (spell_bytes rest)
    pub is : spell_bytes (front ++ rest) ≡ t

  pub prefixed_from : (digits t : List ℕ) → marked_made (whole hash) rows UF.BytesPrefix s v digits ≡ Some t → Prefixed digits t
  prefixed_from digits t e =
      let x = map_from spell (option_and_then (λ d. marked_form UF.BytesPrefix d digits) (represented (whole hash) rows s v)) t e in
      let y = then_from (λ d. marked_form UF.BytesPrefix d digits) (represented (whole hash) rows s v) x.item x.there in
      let z = then_from (λ front. option_map (λ b. T.bytes (front ++ b)) (bytes_in y.item)) (bytes_of_hex digits) x.item y.made in
      let w = map_from (λ b. T.bytes (z.item ++ b)) (bytes_in y.item) x.item z.made in
      record {
        front = z.item;
        rest = w.item;
        known = z.there;
        there = ap (option_map spell) y.there ∙ ap (λ d. Some (spell d)) (only_bytes_data y.item w.item w.there);
        is = ap spell (same_Some (T.bytes (z.item ++ w.item)) x.item w.made) ∙ same_Some (spell x.item) t x.made;
      }
