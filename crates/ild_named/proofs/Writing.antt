-- A root is written piece by piece.
use Rattle.std.proofs.Common.{◌≡◌, ℕ, codes, List, ◌++◌, append_assoc, append-nil, sym, ap, ◌∙◌}
use Rattle.ild_data.specs.Data.{Data}
use Rattle.ild_data.specs.Spell.{cid_of, head, spell, spell_link, spell_text}
use Rattle.ild_named.specs.Named.{named_data}

joined : (a b c d e f : List ℕ) → ((((a ++ b) ++ c) ++ d) ++ e) ++ f ≡ a ++ (b ++ (c ++ (d ++ (e ++ f))))
joined a b c d e f = simp append_assoc

pub named_done : (name id : List ℕ) (value : Data) (a b c d e f g : List ℕ) → a ≡ head 5 3 → b ≡ a ++ spell_text (codes "type") → c ≡ b ++ spell_text name → d ≡ c ++ spell_text (codes "value")
    → e ≡ d ++ spell value → f ≡ e ++ spell_text (codes "schema") → g ≡ f ++ spell_link (cid_of id) → g ≡ spell (named_data name id value)
named_done name id value a b c d e f g is_a is_b is_c is_d is_e is_f is_g =
    let begin : b ≡ head 5 3 ++ spell_text (codes "type") = is_b ∙ ap (λ x. x ++ spell_text (codes "type")) is_a in
    is_g ∙ ap (λ x. x ++ spell_link (cid_of id)) (is_f ∙ ap (λ x. x ++ spell_text (codes "schema")) (is_e ∙ ap (λ x. x ++ spell value) (is_d ∙ ap (λ x. x ++ spell_text (codes "value")) (is_c ∙ ap (λ x. x ++ spell_text name) begin))))
    ∙ joined (head 5 3 ++ spell_text (codes "type")) (spell_text name) (spell_text (codes "value")) (spell value) (spell_text (codes "schema")) (spell_link (cid_of id))
    ∙ ap (λ x. (head 5 3 ++ spell_text (codes "type")) ++ (spell_text name ++ (spell_text (codes "value") ++ (spell value ++ (spell_text (codes "schema") ++ x))))) (sym (append-nil (spell_link (cid_of id))))
