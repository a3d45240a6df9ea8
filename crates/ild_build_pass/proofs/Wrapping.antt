-- A member of a union between what stands before it and behind it.
use Rattle.std.proofs.Common.{◌≡◌, ℕ, List, [], ◌++◌, Bool, true, false, cond, Option, Some, None, option_map, refl, sym, ap, ◌∙◌, append_assoc, append-nil, Result}
use Rattle.std.specs.Prelude.{OnOk, not}
use Rattle.ild_data.specs.Key.{key_less}
use Rattle.ild_data.specs.Spell.{head, spell_text}
use Rattle.ild_schema.specs.declared.number.Slot.{Slot}
use Rattle.ild_schema.specs.declared.def.UnionForm.{UnionForm}
use Rattle.ild_schema.specs.declared.def.UnionForm.TheVariants as UF
use Rattle.ild_schema.specs.declared.row.Row.{Row}
use Rattle.ild_schema.specs.Value.{Value}
use Rattle.ild_typed.specs.Hamt.{whole}
use Rattle.ild_build_leaf.specs.Made.{made}
use Rattle.ild_build_entries.specs.declared.nodes.Nodes.{Nodes}
use Rattle.ild_build_entries.proofs.Marked.{on_ok}
use Rattle.ild_build_pass.specs.inside.Fronts.{IsWrapped, member_back, member_front, tag_spelled}
use Rattle.ild_build_pass.specs.inside.Made.{marked_made}
use Rattle.ild_build_pass.specs.Weights.{weigh}
use Rattle.ild_build_pass.specs.Writes.{Writes}
use Rattle.ild_build_pass.proofs.Flow.{before, behind, from}
use Rattle.ild_build_pass.proofs.UnionForms.{envelope_less, envelope_more, keyed_made}

-- ---- pieces in a row

abbrev around : List ℕ → List ℕ → Option (List ℕ) → Option (List ℕ)
around a b m = option_map (λ t. a ++ t) (option_map (λ t. t ++ b) m)

two_before : (a b : List ℕ) (m : Option (List ℕ)) → option_map (λ t. a ++ t) (option_map (λ t. b ++ t) m) ≡ around (a ++ b) [] m
two_before a b None = refl
two_before a b (Some t) = ap Some (sym (append_assoc a b t) ∙ ap (λ x. (a ++ b) ++ x) (sym (append-nil t)))

three_before : (a b c : List ℕ) (m : Option (List ℕ)) → option_map (λ t. a ++ t) (option_map (λ t. b ++ t) (option_map (λ t. c ++ t) m)) ≡ around (a ++ (b ++ c)) [] m
three_before a b c None = refl
three_before a b c (Some t) = ap Some (ap (λ x. a ++ x) (sym (append_assoc b c t)) ∙ sym (append_assoc a (b ++ c) t) ∙ ap (λ x. (a ++ (b ++ c)) ++ x) (sym (append-nil t)))

both_sides : (a b c : List ℕ) (m : Option (List ℕ)) → option_map (λ t. a ++ t) (option_map (λ t. t ++ c) (option_map (λ t. b ++ t) m)) ≡ around (a ++ b) c m
both_sides a b c None = refl
both_sides a b c (Some t) = ap Some (ap (λ x. a ++ x) (append_assoc b t c) ∙ sym (append_assoc a b (t ++ c)))

-- ---- the member

module _ (hash : List ℕ → List ℕ) (rows : List Row) (s : Slot) (v : Value) where
  wrapped : (form : UnionForm) → IsWrapped form → (name : List ℕ) → marked_made (whole hash) rows form s v name ≡ around (member_front form name) (member_back form name) (made (whole hash) rows s v)
  wrapped UF.Keyed is name = keyed_made hash rows s v name ∙ two_before (head 5 1) (spell_text name) (made (whole hash) rows s v)
  wrapped (UF.Envelope key content) apart name = by (key_less key content) refl
    where
      by : (b : Bool) → key_less key content ≡ b → marked_made (whole hash) rows (UF.Envelope key content) s v name
          ≡ around (head 5 2 ++ (cond b (tag_spelled key name) [] ++ spell_text content)) (cond (not b) (tag_spelled key name) []) (made (whole hash) rows s v)
      by true e = envelope_less hash rows s v key content name e ∙ three_before (head 5 2) (tag_spelled key name) (spell_text content) (made (whole hash) rows s v)
      by false e = envelope_more hash rows s v key content name e apart ∙ both_sides (head 5 2) (spell_text content) (tag_spelled key name) (made (whole hash) rows s v)
  wrapped UF.Kinded is name = absurd is
  wrapped UF.StringPrefix is name = absurd is
  wrapped UF.BytesPrefix is name = absurd is
  wrapped (UF.Inline key) is name = absurd is

  pub wraps : (form : UnionForm) → IsWrapped form → (name old begun mid new : List ℕ) (was now : Nodes) → begun ≡ old ++ member_front form name → Writes hash rows (made (whole hash) rows s v) (λ μ. weigh μ rows s v) begun mid was now
      → new ≡ mid ++ member_back form name → Writes hash rows (marked_made (whole hash) rows form s v name) (λ μ. weigh μ rows s v) old new was now
  wraps form is name old begun mid new was now begins w ends =
      from hash rows (marked_made (whole hash) rows form s v name) (around (member_front form name) (member_back form name) (made (whole hash) rows s v)) (λ μ. weigh μ rows s v) (λ μ. weigh μ rows s v) old new was now
      (λ t e. sym (wrapped form is name) ∙ e) (λ μ. refl)
      (behind hash rows (option_map (λ t. t ++ member_back form name) (made (whole hash) rows s v)) (λ μ. weigh μ rows s v) old begun new (member_front form name) was now begins
      (before hash rows (made (whole hash) rows s v) (λ μ. weigh μ rows s v) begun mid new (member_back form name) was now ends w))

  pub wrapped_layer : {T E : Type 0} (r : Result T E) (form : UnionForm) → IsWrapped form → (name old begun mid new : List ℕ) (was now : Nodes) → begun ≡ old ++ member_front form name
      → Writes hash rows (made (whole hash) rows s v) (λ μ. weigh μ rows s v) begun mid was now → OnOk r (new ≡ mid ++ member_back form name)
      → OnOk r (Writes hash rows (marked_made (whole hash) rows form s v name) (λ μ. weigh μ rows s v) old new was now)
  wrapped_layer r form is name old begun mid new was now begins w =
      on_ok r (new ≡ mid ++ member_back form name) (Writes hash rows (marked_made (whole hash) rows form s v name) (λ μ. weigh μ rows s v) old new was now) (wraps form is name old begun mid new was now begins w)
