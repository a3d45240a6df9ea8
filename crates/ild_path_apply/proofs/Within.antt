-- Changes within an item, from what the splice calls make, and from the block as it is where nothing changes.
use Rattle.std.proofs.Common.{◌≡◌, ℕ, List, [], ◌∷◌, ◌++◌, append-nil, Option, Some, None, refl, sym, ◌∙◌, ap, subst}
use Rattle.std.specs.Prelude.{Result, option_and_then}
use Rattle.std.specs.Option.{option_map_or}
use Rattle.std.proofs.lemmas.Option.{same_Some, none-some}
use Rattle.ild_cbor.specs.Nodes.{HasData}
use Rattle.ild_cbor.specs.declared.node.Node.{Node}
use Rattle.ild_splice_changes.specs.TreeChange.{TreeChange, TreeStep, altered, applied, change_here, changed, child, one, part_at, replace, unchanged, with_child}
use Rattle.ild_path_replaced.proofs.Carrying.{join_one}
use Rattle.ild_data.specs.Data.{Data}
use Rattle.ild_data.specs.Spell.{spell}
use Rattle.ild_path_last.specs.Change.{NewIs}
use Rattle.ild_path_changes.specs.Lift.{lift_within, whole}
use Rattle.ild_splice.specs.Made.{MakesBytes}
use Rattle.ild_splice.specs.Splices.{IsAt, Splices}
use Rattle.ild_splice.specs.declared.error.SpliceErr.{SpliceErr}
use Rattle.ild_path_apply.specs.Applies.{Applies}
use Rattle.ild_path_replaced.specs.There.{IsThere}
use Rattle.ild_path_apply.proofs.Keeping.{kept, part_within}

-- the bytes of one tree are those of the other
pub makes_same : (t u : Data) (r : Result (List ℕ) SpliceErr) → t ≡ u → MakesBytes (spell t) r → MakesBytes (spell u) r
makes_same t u r e h = subst (λ d. MakesBytes (spell d) r) e h

-- the answer of a splice of the item itself
pub of_splice : (n : Node) (c : TreeChange) (r : Result (List ℕ) SpliceErr) → Splices n c r → Applies n (one [] c) r
of_splice n c r s = record { makes = λ t d q at. makes_same (changed q c t) (changed (q ++ []) c t) r (ap (λ p. changed p c t) (sym (append-nil q))) (s.makes t d q at) }

-- the item replaced by another, where there is one
pub put_in : (n m : Node) (r : Result (List ℕ) SpliceErr) → ((e : Data) → HasData m e → Splices n (replace e) r) → (u : Option Data) → NewIs (Some m) u → Applies n (whole u) r
put_in n m r s None is = absurd is
put_in n m r s (Some e) is = of_splice n (replace e) r (s e is)

-- a change that leaves the item as it is leaves the tree
here_kept : (t d : Data) (q : List TreeStep) (c : TreeChange) → part_at q t ≡ Some d → change_here c d ≡ d → changed q c t ≡ t
here_kept t d q c is same = kept (change_here c) q t (λ e h. let e_is : e ≡ d = same_Some e d (sym h ∙ is) in ap (change_here c) e_is ∙ same ∙ sym e_is)

-- an item that is replaced by itself
pub as_it_is : (n : Node) (r : Result (List ℕ) SpliceErr) → ((e : Data) → HasData n e → Splices n (replace e) r) → Applies n unchanged r
as_it_is n r s = record { makes = λ t d q at. makes_same (changed q (replace d) t) t r (here_kept t d q (replace d) at.part refl) ((s d at.stands).makes t d q at) }

-- so a change that leaves the item as it is may be made by no change
pub no_change : (n : Node) (c : TreeChange) (r : Result (List ℕ) SpliceErr) → Applies n unchanged r → ((d : Data) → HasData n d → change_here c d ≡ d) → Applies n (one [] c) r
no_change n c r s same = record { makes = λ t d q at. makes_same t (changed (q ++ []) c t) r (sym (ap (λ p. changed p c t) (append-nil q) ∙ here_kept t d q c at.part (same d at.stands))) (s.makes t d q at) }

-- ---- the part to which steps lead

module _ (n : Node) (p : List TreeStep) (x : Data) (r : Result (List ℕ) SpliceErr) where
  pub in_part : (m : Node) → ((t d : Data) (q : List TreeStep) → IsAt n t q d → IsThere t (q ++ p) (part_at p d) (Some m)) → Splices m (replace x) r → Applies n (lift_within p (one [] (replace x))) r
  in_part m there s = record { makes = λ t d q at. by t d q (part_at p d) (there t d q at) } where
    by : (t d : Data) (q : List TreeStep) (o : Option Data) → IsThere t (q ++ p) o (Some m) → MakesBytes (spell (applied (lift_within q (lift_within p (one [] (replace x)))) t)) r
    by t d q None h = absurd h
    by t d q (Some e) h =
        makes_same (changed (q ++ p) (replace x) t) (applied (lift_within q (lift_within p (one [] (replace x)))) t) r
        (ap (λ w. changed w (replace x) t) (sym (append-nil (q ++ p))) ∙ ap (λ e. applied e t) (sym (join_one q p (one [] (replace x))))) (s.makes t e (q ++ p) h)

  pub no_part : ((t d : Data) (q : List TreeStep) → IsAt n t q d → IsThere t (q ++ p) (part_at p d) None) → Applies n unchanged r → Applies n (lift_within p (one [] (replace x))) r
  no_part gone s = record { makes = λ t d q at. by t d q at (part_at p d) refl (gone t d q at) } where
    by : (t d : Data) (q : List TreeStep) → IsAt n t q d → (o : Option Data) → part_at p d ≡ o → IsThere t (q ++ p) o None → MakesBytes (spell (applied (lift_within q (lift_within p (one [] (replace x)))) t)) r
    by t d q at (Some e) is h = absurd h
    by t d q at None is h =
        let stays : changed (q ++ p) (replace x) t ≡ t = kept (change_here (replace x)) (q ++ p) t (λ e g. absurd (none-some e (sym is ∙ sym (part_within q p t d at.part) ∙ g))) in
        makes_same t (applied (lift_within q (lift_within p (one [] (replace x)))) t) r
        (sym stays ∙ ap (λ w. changed w (replace x) t) (sym (append-nil (q ++ p))) ∙ ap (λ e. applied e t) (sym (join_one q p (one [] (replace x))))) (s.makes t d q at)

-- ---- two changes that make the same of an item make the same of the tree

same_by : (f g : Data → Data) (s : TreeStep) (q : List TreeStep) (t : Data) (o : Option Data) → ((e : Data) → ((d : Data) → part_at q e ≡ Some d → f d ≡ g d) → altered f q e ≡ altered g q e)
    → ((d : Data) → option_and_then (λ e. part_at q e) o ≡ Some d → f d ≡ g d) → option_map_or (λ e. with_child s (altered f q e) t) o t ≡ option_map_or (λ e. with_child s (altered g q e) t) o t
same_by f g s q t None rest h = refl
same_by f g s q t (Some e) rest h = ap (λ x. with_child s x t) (rest e h)

pub same_at : (f g : Data → Data) (q : List TreeStep) (t : Data) → ((d : Data) → part_at q t ≡ Some d → f d ≡ g d) → altered f q t ≡ altered g q t
same_at f g [] t h = h t refl
same_at f g (s ∷ q) t h = same_by f g s q t (child s t) (λ e k. same_at f g q e k) h

pub alike : (c e : TreeChange) (t d : Data) (q : List TreeStep) → part_at q t ≡ Some d → change_here c d ≡ change_here e d → changed q c t ≡ changed q e t
alike c e t d q is same = same_at (change_here c) (change_here e) q t (λ x h. let x_is : x ≡ d = same_Some x d (sym h ∙ is) in ap (change_here c) x_is ∙ same ∙ sym (ap (change_here e) x_is))
