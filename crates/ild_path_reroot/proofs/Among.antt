-- Blocks among others, and blocks that are too long.
use Rattle.std.proofs.Common.{◌≡◌, inl, inr, ⊎_elim, ℕ, ◌≤◌, Bool, true, false, List, [], ◌∷◌, ◌++◌, length, refl, sym, ap, ◌∙◌, subst, arith, pos, codes}
use Rattle.std.proofs.lemmas.Bool.{or_cases, ltb-false, or_left, or_right}
use Rattle.std.proofs.lemmas.List.{length-append}
use Rattle.ild_data.specs.Among.{AreAmong}
use Rattle.ild_data.specs.Data.{Data, integer, members_of}
use Rattle.ild_data.specs.Limits.{longest_block}
use Rattle.ild_data.specs.Spell.{head, spell, spell_members, spell_text}
use Rattle.ild_data.specs.declared.hamt_shape.HamtShape.{HamtShape}
use Rattle.ild_typed.specs.Hamt.{root_map}
use Rattle.ild_bulk.specs.Build.{any_long, is_long}
use Rattle.ild_edges.specs.Among.{IsIn}
use Rattle.ild_edges.proofs.Among.{IsIn-of}

pub among_of : (b : List ℕ) (bs held : List (List ℕ)) → AreAmong bs held → IsIn b bs → IsIn b held
among_of b [] held all is = absurd is
among_of b (c ∷ cs) held all is =
    ⊎_elim (λ same. subst (λ z. IsIn z held) (sym same) (IsIn-of c held all.0)) (λ more. among_of b cs held all.1 more) is

pub long_root : (b : List ℕ) (bs : List (List ℕ)) → is_long b ≡ true → any_long (b ∷ bs) ≡ true
long_root b bs is = or_left (is_long b) (any_long bs) is

pub long_one : (bs : List (List ℕ)) → any_long bs ≡ true → (b : List ℕ) × IsIn b bs × (is_long b ≡ true)
long_one [] is = absurd cc
long_one (b ∷ bs) is = ⊎_elim (λ here. (b, inl refl, here)) (λ more. let x = long_one bs more in (x.0, inr x.1, x.2)) (or_cases (is_long b) (any_long bs) is)

pub long_any : (b : List ℕ) (bs : List (List ℕ)) → IsIn b bs → is_long b ≡ true → any_long bs ≡ true
long_any b [] is long = absurd is
long_any b (c ∷ cs) is long = ⊎_elim (λ same. or_left (is_long c) (any_long cs) (ap is_long (sym same) ∙ long)) (λ more. or_right (is_long c) (any_long cs) (long_any b cs more long)) is

-- where none is too long
pub short_one : (b : List ℕ) (bs : List (List ℕ)) → any_long bs ≡ false → IsIn b bs → length b ≤ longest_block
short_one b bs none is = by (is_long b) refl where
  by : (t : Bool) → is_long b ≡ t → length b ≤ longest_block
  by true e = absurd (let same : true ≡ false = sym (long_any b bs is e) ∙ none in cc)
  by false e = ltb-false longest_block (length b) e

-- ---- the root map around a node

pub root_longer : (p : HamtShape) (node : Data) → length (spell node) ≤ length (spell (root_map p node))
root_longer p node =
    let rest = spell_members (members_of ((codes "hashAlg", integer (pos 18)) ∷ (codes "bucketSize", integer (pos p.bucket)) ∷ [])) in
    let key = spell_text (codes "hamt") in
    omega (arith, length-append (head 5 3) (key ++ spell node ++ rest), length-append (key ++ spell node) rest, length-append key (spell node))
