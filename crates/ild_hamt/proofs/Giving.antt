-- The ids that the puts of a way give.
use Rattle.std.proofs.Common.{inl, inr, ⊎_elim, ℕ, List, [], ◌∷◌, Option, Some, None, refl, sym, ap, subst, map}
use Rattle.std.specs.Prelude.{Result, Ok, Err, Contains, reverse}
use Rattle.std.proofs.lemmas.List.{reverse-append}
use Rattle.ild_edges.specs.Gained.{AreIdsGiven}
use Rattle.ild_data.specs.declared.hamt_shape.HamtShape.{HamtShape}
use Rattle.ild_data.specs.ByteOrder.{without}
use Rattle.ild_data.specs.Data.{Data}
use Rattle.ild_data.specs.Spell.{id_of}
use Rattle.ild_data.specs.TrieShape.{trie_levels}
use Rattle.ild_edges.specs.Store.{Moment}
use Rattle.ild_edges.specs.Told.{IfTold, BothTold}
use Rattle.ild_hamt_trie.specs.Way.{way}
use Rattle.ild_node_slots.specs.declared.fault.HamtFault.{HamtFault}
use Rattle.ild_edges.specs.Among.{IsIn}
use Rattle.ild_bulk.specs.Putting.{GivesAll}
use Rattle.ild_edges.proofs.Among.{IsIn-left, IsIn-right}
use Rattle.ild_hamt_climb.specs.Rewriting.{Rewrites}
use Rattle.ild_hamt.specs.Given.{GivesWay}
use Rattle.ild_hamt.specs.Removing.{Removes}

among-mapped : (b : List ℕ) (xs : List (List ℕ)) → IsIn b xs → IsIn (id_of b) (map id_of xs)
among-mapped b [] is = absurd is
among-mapped b (x ∷ xs) is = ⊎_elim (λ here. inl (ap id_of here)) (λ more. inr (among-mapped b xs more)) is

among-back : (b : List ℕ) (xs : List (List ℕ)) → IsIn b xs → IsIn b (reverse xs)
among-back b [] is = is
among-back b (x ∷ xs) is =
    subst (λ (bs : List (List ℕ)). IsIn b bs) (sym (reverse-append (x ∷ []) xs))
    (⊎_elim (λ here. IsIn-right b (reverse xs) (x ∷ []) (inl here)) (λ more. IsIn-left b (reverse xs) (x ∷ []) (among-back b xs more)) is)

all-given : (bs given : List (List ℕ)) → ((b : List ℕ) → IsIn b bs → Contains given (id_of b)) → AreIdsGiven bs given
all-given [] given each = tt
all-given (b ∷ bs) given each = (each b (inl refl), all-given bs given (λ c is. each c (inr is)))

told-given : (o q : Option (List (List ℕ))) (bs : List (List ℕ)) → BothTold o q (GivesAll (map id_of (reverse bs))) → IfTold q (AreIdsGiven bs)
told-given o None bs t = tt
told-given None (Some now) bs t = absurd t
told-given (Some was) (Some now) bs t = all-given bs now (λ b is. (t (id_of b)).1 (inr (among-mapped b (reverse bs) (among-back b bs is))))

pub way-given : (p : HamtShape) (h : List ℕ → List ℕ) (k : List ℕ) (fs : List (List ℕ × Data)) (m n : Moment) (r : Result (List ℕ) HamtFault) → Rewrites h p k fs m r n → GivesWay h p k fs r n
way-given p h k fs m n (Ok root) is = told-given m.given n.given (way h p k (trie_levels p) 0 fs) is.2.answer.1
way-given p h k fs m n (Err e) is = tt

pub removal-given : (p : HamtShape) (h : List ℕ → List ℕ) (k : List ℕ) (es : List (List ℕ × Data)) (m n : Moment) (r : Result (List ℕ) HamtFault) → Removes h p k es m r n → GivesWay h p k (without k es) r n
removal-given p h k es m n (Ok root) is = way-given p h k (without k es) m n (Ok root) is.1
removal-given p h k es m n (Err e) is = tt
