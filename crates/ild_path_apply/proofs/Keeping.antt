-- Where nothing changes in a part, or there is no part, the tree stays.
use Rattle.std.proofs.Common.{◌≡◌, ℕ, zero, suc, List, [], ◌∷◌, ◌++◌, cond, Bool, true, false, slice_get, Option, Some, None, refl, sym, ◌∙◌, ap}
use Rattle.std.specs.Prelude.{option_and_then, slice_set}
use Rattle.std.specs.Option.{option_map_or}
use Rattle.std.proofs.lemmas.Option.{same_Some, none-some}
use Rattle.ild_splice_changes.specs.TreeChange.{TreeStep, altered, child, part_at, replaced_at, with_child}
use Rattle.ild_path_changes.proofs.Commuting.{child_same}
use Rattle.ild_data.specs.Data as T
use Rattle.ild_data.specs.Data.{Data}
use Rattle.ild_data.specs.Key.{same_text, value_at}

set_same : (xs : List Data) (i : ℕ) (e : Data) → slice_get xs i ≡ Some e → slice_set xs i e ≡ xs
set_same [] i e h = refl
set_same (x ∷ xs) zero e h = ap (λ y. y ∷ xs) (sym (same_Some x e h))
set_same (x ∷ xs) (suc i) e h = ap (λ ys. x ∷ ys) (set_same xs i e h)

entry_same : (k : List ℕ) (m : List ℕ × Data) (ms : List (List ℕ × Data)) (e : Data) (b : Bool) → cond b (Some m.1) (value_at k ms) ≡ Some e → (value_at k ms ≡ Some e → replaced_at k e ms ≡ ms)
    → cond b ((m.0, e) ∷ ms) (m ∷ replaced_at k e ms) ≡ m ∷ ms
entry_same k m ms e true h rest = ap (λ d. (m.0, d) ∷ ms) (sym (same_Some m.1 e h))
entry_same k m ms e false h rest = ap (λ ys. m ∷ ys) (rest h)

entries_same : (k : List ℕ) (ms : List (List ℕ × Data)) (e : Data) → value_at k ms ≡ Some e → replaced_at k e ms ≡ ms
entries_same k [] e h = refl
entries_same k (m ∷ ms) e h = entry_same k m ms e (same_text k m.0) h (entries_same k ms e)

-- what a change of a part doesn't change stays
kept_at : (f : Data → Data) (s : TreeStep) (q : List TreeStep) (t : Data) (o : Option Data) → child s t ≡ o → ((e : Data) → ((d : Data) → part_at q e ≡ Some d → f d ≡ d) → altered f q e ≡ e)
    → ((d : Data) → option_and_then (λ e. part_at q e) o ≡ Some d → f d ≡ d) → option_map_or (λ e. with_child s (altered f q e) t) o t ≡ t
kept_at f s q t None is rest h = refl
kept_at f s q t (Some e) is rest h = ap (λ x. with_child s x t) (rest e h) ∙ child_same s t e is

pub kept : (f : Data → Data) (q : List TreeStep) (t : Data) → ((d : Data) → part_at q t ≡ Some d → f d ≡ d) → altered f q t ≡ t
kept f [] t h = h t refl
kept f (s ∷ q) t h = kept_at f s q t (child s t) refl (λ e g. kept f q e g) h

-- the part of a part
within_at : (s : TreeStep) (p q : List TreeStep) (d : Data) (o : Option Data) → option_and_then (λ e. part_at p e) o ≡ Some d → ((e : Data) → part_at p e ≡ Some d → part_at (p ++ q) e ≡ part_at q d)
    → option_and_then (λ e. part_at (p ++ q) e) o ≡ part_at q d
within_at s p q d None h rest = absurd (none-some d h)
within_at s p q d (Some e) h rest = rest e h

pub part_within : (p q : List TreeStep) (t d : Data) → part_at p t ≡ Some d → part_at (p ++ q) t ≡ part_at q d
part_within [] q t d h = ap (part_at q) (same_Some t d h)
part_within (s ∷ p) q t d h = within_at s p q d (child s t) h (λ e g. part_within p q e d g)

-- a change of a part of a part
altered_at : (f g : Data → Data) (s : TreeStep) (p q : List TreeStep) (t : Data) (o : Option Data) → ((e : Data) → altered f q e ≡ altered g p e) → option_map_or (λ e. with_child s (altered f q e) t) o t ≡ option_map_or (λ e. with_child s (altered g p e) t) o t
altered_at f g s p q t None rest = refl
altered_at f g s p q t (Some e) rest = ap (λ x. with_child s x t) (rest e)

pub altered_within : (f : Data → Data) (p q : List TreeStep) (t : Data) → altered f (p ++ q) t ≡ altered (altered f q) p t
altered_within f [] q t = refl
altered_within f (s ∷ p) q t = altered_at f (altered f q) s p (p ++ q) t (child s t) (λ e. altered_within f p q e)
