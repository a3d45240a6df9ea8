-- Places beside the entries that stand at them.
use Rattle.std.proofs.Common.{◌≡◌, ℕ, suc, List, [], ◌∷◌, ◌++◌, length, Option, Some, option_map, refl, ap, ◌∙◌, subst}
use Rattle.std.specs.Ordering.{match_ordering}
use Rattle.std.specs.declared.cmp.Ordering.{Ordering}
use Rattle.std.specs.declared.cmp.Ordering.TheVariants.{Less, Equal, Greater}
use Rattle.ild_data.specs.Data as T
use Rattle.ild_data.specs.Data.{Data}
use Rattle.ild_data.specs.Key.{key_cmp, put}
use Rattle.ild_data.specs.Spell.{spell, spell_text, spell_members}
use Rattle.ild_schema.specs.declared.def.Field.{Field}
use Rattle.ild_schema.specs.declared.row.Row.{Row}
use Rattle.ild_schema.specs.Value.{Value}
use Rattle.ild_typed.specs.Hamt.{whole}
use Rattle.ild_typed.specs.Strings.{in_key_order}
use Rattle.ild_build_pass.specs.inside.Made.{both}
use Rattle.ild_build_pass.specs.inside.Places.{in_order, place_made, places_made, value_made}

module _ (value : ℕ → Option (List ℕ)) where
  abbrev pub Stands : List ℕ × ℕ → List ℕ × Data → Type 0
  Stands p e = (p.0 ≡ e.0) × (value p.1 ≡ Some (spell e.1))

  abbrev pub Alike : List (List ℕ × ℕ) → List (List ℕ × Data) → Type 0
  Alike [] [] = Unit {0}
  Alike [] (e ∷ es) = ⊥
  Alike (p ∷ ps) [] = ⊥
  Alike (p ∷ ps) (e ∷ es) = Stands p e × Alike ps es

  choose : (o : Ordering) (a b c : List (List ℕ × ℕ)) (x y z : List (List ℕ × Data)) → Alike a x → Alike b y → Alike c z → Alike (match_ordering o a b c) (match_ordering o x y z)
  choose Less a b c x y z l e g = l
  choose Equal a b c x y z l e g = e
  choose Greater a b c x y z l e g = g

  pub alike_put : (p : List ℕ × ℕ) (e : List ℕ × Data) (ps : List (List ℕ × ℕ)) (es : List (List ℕ × Data)) → Stands p e → Alike ps es → Alike (put p.0 p.1 ps) (put e.0 e.1 es)
  alike_put p e [] [] s a = (s, tt)
  alike_put p e [] (f ∷ es) s a = absurd a
  alike_put p e (q ∷ ps) [] s a = absurd a
  alike_put p e (q ∷ ps) (f ∷ es) s a =
      let same : key_cmp p.0 q.0 ≡ key_cmp e.0 f.0 = ap (λ k. key_cmp k q.0) s.0 ∙ ap (key_cmp e.0) (a.0).0 in
      subst (λ o. Alike (match_ordering (key_cmp p.0 q.0) ((p.0, p.1) ∷ q ∷ ps) ((p.0, p.1) ∷ ps) (q ∷ put p.0 p.1 ps)) (match_ordering o ((e.0, e.1) ∷ f ∷ es) ((e.0, e.1) ∷ es) (f ∷ put e.0 e.1 es))) same
      (choose (key_cmp p.0 q.0) ((p.0, p.1) ∷ q ∷ ps) ((p.0, p.1) ∷ ps) (q ∷ put p.0 p.1 ps) ((e.0, e.1) ∷ f ∷ es) ((e.0, e.1) ∷ es) (f ∷ put e.0 e.1 es) (s, a) (s, a.1) (a.0, alike_put p e ps es s a.1))

  pub alike_sorted : (ps : List (List ℕ × ℕ)) (es : List (List ℕ × Data)) → Alike ps es → Alike (in_order ps) (in_key_order es)
  alike_sorted [] [] a = tt
  alike_sorted [] (e ∷ es) a = absurd a
  alike_sorted (p ∷ ps) [] a = absurd a
  alike_sorted (p ∷ ps) (e ∷ es) a = alike_put p e (in_order ps) (in_key_order es) a.0 (alike_sorted ps es a.1)

  pub alike_length : (ps : List (List ℕ × ℕ)) (es : List (List ℕ × Data)) → Alike ps es → length ps ≡ length (T.members_list (T.members_of es))
  alike_length [] [] a = refl
  alike_length [] (e ∷ es) a = absurd a
  alike_length (p ∷ ps) [] a = absurd a
  alike_length (p ∷ ps) (e ∷ es) a = ap suc (alike_length ps es a.1)

pub alike_made : (hash : List ℕ → List ℕ) (rows : List Row) (fs : List Field) (os : List (Option Value)) (tag : List ℕ) (ps : List (List ℕ × ℕ)) (es : List (List ℕ × Data)) → Alike (value_made (whole hash) rows fs os tag) ps es
    → places_made (whole hash) rows fs os tag ps ≡ Some (spell_members (T.members_of es))
alike_made hash rows fs os tag [] [] a = refl
alike_made hash rows fs os tag [] (e ∷ es) a = absurd a
alike_made hash rows fs os tag (p ∷ ps) [] a = absurd a
alike_made hash rows fs os tag (p ∷ ps) (e ∷ es) a =
    let one : place_made (whole hash) rows fs os tag p ≡ Some (spell_text e.0 ++ spell e.1) = ap (option_map (λ t. spell_text p.0 ++ t)) (a.0).1 ∙ ap (λ k. Some (spell_text k ++ spell e.1)) (a.0).0 in
    ap (λ o. both o (places_made (whole hash) rows fs os tag ps)) one ∙ ap (both (Some (spell_text e.0 ++ spell e.1))) (alike_made hash rows fs os tag ps es a.1)
