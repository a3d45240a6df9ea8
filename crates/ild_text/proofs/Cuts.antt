-- The parts of a cut make a join where no occurrence of the delimiter begins inside another one.
use Rattle.std.proofs.Common.{◌≡◌, ◌⊎◌, inl, inr, ℕ, zero, suc, ◌+◌, ◌-◌, ◌<◌, ◌≤◌, Bool, true, false, cond, List, [], ◌∷◌, ◌++◌, length, drop, refl, ap, sym, ◌∙◌, subst, arith}
use Rattle.std.proofs.lemmas.List.{drop_all}
use Rattle.ild_schema.specs.Joins.{Occurs, joined, IsJoint, IsJoin}
use Rattle.ild_text.specs.Cut.{begins, onto, cut_behind, cut}
use Rattle.ild_text.proofs.Begins.{begins_here, begins_not, occurs_inside, occurs_split}

-- no occurrence begins inside an earlier one, of which so many bytes are left
abbrev pub clear : List ℕ → ℕ → List ℕ → Bool
clear d k [] = true
clear d (suc k) (b ∷ bs) = cond (begins d (b ∷ bs)) false (clear d k bs)
clear d zero (b ∷ bs) = cond (begins d (b ∷ bs)) (clear d (length d - 1) bs) (clear d 0 bs)

-- a cut has a part
pub length-onto : (b : ℕ) (ps : List (List ℕ)) → length (onto b ps) ≡ length ps
length-onto b [] = refl
length-onto b (p ∷ ps) = refl

some_chosen : (v : Bool) (b : ℕ) (ps qs : List (List ℕ)) → 1 ≤ length qs → 1 ≤ length (cond v ([] ∷ ps) (onto b qs))
some_chosen true b ps qs one = omega arith
some_chosen false b ps qs one = omega (arith, length-onto b qs)

pub cut_some : (d bs : List ℕ) (k : ℕ) → 1 ≤ length (cut_behind d k bs)
cut_some d [] k = omega arith
cut_some d (b ∷ bs) (suc k) = cut_some d bs k
cut_some d (b ∷ bs) zero = some_chosen (begins d (b ∷ bs)) b (cut_behind d (length d - 1) bs) (cut_behind d 0 bs) (cut_some d bs 0)

-- parts with one in front of them
pub joined_more : (d p : List ℕ) (ps : List (List ℕ)) → 1 ≤ length ps → joined d (p ∷ ps) ≡ p ++ (d ++ joined d ps)
joined_more d p [] one = absurd (omega arith)
joined_more d p (q ∷ ps) one = refl

joint_more : (d p : List ℕ) (ps : List (List ℕ)) (i : ℕ) → IsJoint d (p ∷ ps) i → (i ≡ length p) ⊎ ((j : ℕ) × IsJoint d ps j × (i ≡ length p + length d + j))
joint_more d p [] i j = absurd j
joint_more d p (q ∷ ps) i j = j

joint_first : (d p : List ℕ) (ps : List (List ℕ)) → 1 ≤ length ps → IsJoint d (p ∷ ps) (length p)
joint_first d p [] one = absurd (omega arith)
joint_first d p (q ∷ ps) one = inl refl

joint_further : (d p : List ℕ) (ps : List (List ℕ)) (i j : ℕ) → IsJoint d ps j → i ≡ length p + length d + j → IsJoint d (p ∷ ps) i
joint_further d p [] i j at e = absurd at
joint_further d p (q ∷ ps) i j at e = inr (j, at, e)

-- parts with a byte in front of them
pub joined_onto : (d : List ℕ) (b : ℕ) (ps : List (List ℕ)) → 1 ≤ length ps → joined d (onto b ps) ≡ b ∷ joined d ps
joined_onto d b [] one = absurd (omega arith)
joined_onto d b (p ∷ []) one = refl
joined_onto d b (p ∷ q ∷ ps) one = refl

joint_onto : (d : List ℕ) (b : ℕ) (ps : List (List ℕ)) (i : ℕ) → IsJoint d ps i → IsJoint d (onto b ps) (suc i)
joint_onto d b [] i j = absurd j
joint_onto d b (p ∷ []) i j = absurd j
joint_onto d b (p ∷ q ∷ ps) i (inl e) = inl (omega arith)
joint_onto d b (p ∷ q ∷ ps) i (inr j) = inr (j.0, j.1, omega arith)

joint_under : (d : List ℕ) (b : ℕ) (ps : List (List ℕ)) (i : ℕ) → IsJoint d (onto b ps) i → (j : ℕ) × IsJoint d ps j × (i ≡ suc j)
joint_under d b [] i j = absurd j
joint_under d b (p ∷ []) i j = absurd j
joint_under d b (p ∷ q ∷ ps) i (inl e) = (length p, inl refl, e)
joint_under d b (p ∷ q ∷ ps) i (inr j) = (length p + length d + j.0, inr (j.0, j.1, refl), omega arith)

-- what a cut from place k on says of a text
record Cuts (d : List ℕ) (k : ℕ) (bs : List ℕ) (ps : List (List ℕ)) : Type 0 where
  some : 1 ≤ length ps
  whole : joined d ps ≡ drop k bs
  found : (i : ℕ) → Occurs d bs i → (j : ℕ) × IsJoint d ps j × (i ≡ k + j)
  stands : (i j : ℕ) → IsJoint d ps j → i ≡ k + j → Occurs d bs i

cuts_none : (d : List ℕ) (k : ℕ) → 0 < length d → k ≤ 0 → Cuts d k [] ([] ∷ [])
cuts_none d k some le = record {
  some = omega arith;
  whole = sym (drop_all k [] (omega arith));
  found = λ i h. absurd (omega (arith, occurs_inside d [] i some h));
  stands = λ i j at e. absurd at;
}

cuts_wait : (d : List ℕ) (k b : ℕ) (bs : List ℕ) (ps : List (List ℕ)) → begins d (b ∷ bs) ≡ false → Cuts d k bs ps → Cuts d (suc k) (b ∷ bs) ps
cuts_wait d k b bs ps unlike c = record {
  some = c.some;
  whole = c.whole;
  found = found;
  stands = stands;
} where
  found : (i : ℕ) → Occurs d (b ∷ bs) i → (j : ℕ) × IsJoint d ps j × (i ≡ suc k + j)
  found zero h = absurd (begins_not d (b ∷ bs) unlike h)
  found (suc i) h = let f = c.found i h in (f.0, f.1, omega arith)

  stands : (i j : ℕ) → IsJoint d ps j → i ≡ suc k + j → Occurs d (b ∷ bs) i
  stands zero j at e = absurd (omega arith)
  stands (suc i) j at e = c.stands i j at (omega arith)

cuts_pass : (d : List ℕ) (b : ℕ) (bs : List ℕ) (ps : List (List ℕ)) → begins d (b ∷ bs) ≡ false → Cuts d 0 bs ps → Cuts d 0 (b ∷ bs) (onto b ps)
cuts_pass d b bs ps unlike c = record {
  some = omega (arith, length-onto b ps, c.some);
  whole = joined_onto d b ps c.some ∙ ap (λ xs. b ∷ xs) c.whole;
  found = found;
  stands = stands;
} where
  found : (i : ℕ) → Occurs d (b ∷ bs) i → (j : ℕ) × IsJoint d (onto b ps) j × (i ≡ 0 + j)
  found zero h = absurd (begins_not d (b ∷ bs) unlike h)
  found (suc i) h = let f = c.found i h in (suc f.0, joint_onto d b ps f.0 f.1, omega arith)

  stands : (i j : ℕ) → IsJoint d (onto b ps) j → i ≡ 0 + j → Occurs d (b ∷ bs) i
  stands zero j at e = let u = joint_under d b ps j at in absurd (omega arith)
  stands (suc i) j at e = let u = joint_under d b ps j at in c.stands i u.0 u.1 (omega arith)

cuts_here : (d : List ℕ) (b : ℕ) (bs : List ℕ) (ps : List (List ℕ)) → 0 < length d → begins d (b ∷ bs) ≡ true → Cuts d (length d - 1) bs ps → Cuts d 0 (b ∷ bs) ([] ∷ ps)
cuts_here d b bs ps some alike c = record {
  some = omega arith;
  whole = joined_more d [] ps c.some ∙ ap (λ xs. d ++ xs) (c.whole ∙ ap (λ n. drop n (b ∷ bs)) more) ∙ sym (occurs_split d (b ∷ bs) 0 (begins_here d (b ∷ bs) alike));
  found = found;
  stands = stands;
} where
  more : suc (length d - 1) ≡ 0 + length d
  more = omega arith

  found : (i : ℕ) → Occurs d (b ∷ bs) i → (j : ℕ) × IsJoint d ([] ∷ ps) j × (i ≡ 0 + j)
  found zero h = (0, joint_first d [] ps c.some, omega arith)
  found (suc i) h = let f = c.found i h in (suc i, joint_further d [] ps (suc i) f.0 f.1 (omega arith), omega arith)

  stands_by : (i j : ℕ) → (j ≡ 0) ⊎ ((k : ℕ) × IsJoint d ps k × (j ≡ 0 + length d + k)) → i ≡ 0 + j → Occurs d (b ∷ bs) i
  stands_by zero j at e = begins_here d (b ∷ bs) alike
  stands_by (suc i) j (inl z) e = absurd (omega arith)
  stands_by (suc i) j (inr at) e = c.stands i at.0 at.1 (omega arith)

  stands : (i j : ℕ) → IsJoint d ([] ∷ ps) j → i ≡ 0 + j → Occurs d (b ∷ bs) i
  stands i j at e = stands_by i j (joint_more d [] ps j at) e

when_clear : (v c : Bool) → cond v false c ≡ true → (v ≡ false) × (c ≡ true)
when_clear true c e = absurd cc
when_clear false c e = (refl, e)

cuts_chosen : (d : List ℕ) (b : ℕ) (bs : List ℕ) (ps qs : List (List ℕ)) (v x y : Bool) → 0 < length d → begins d (b ∷ bs) ≡ v → cond v x y ≡ true → (begins d (b ∷ bs) ≡ true → x ≡ true → Cuts d (length d - 1) bs ps) → (y ≡ true → Cuts d 0 bs qs) → Cuts d 0 (b ∷ bs) (cond v ([] ∷ ps) (onto b qs))
cuts_chosen d b bs ps qs true x y some is ok here pass = cuts_here d b bs ps some is (here is ok)
cuts_chosen d b bs ps qs false x y some is ok here pass = cuts_pass d b bs qs is (pass ok)

-- the bytes of a delimiter that are left stand in the text
cuts : (d bs : List ℕ) (k : ℕ) → 0 < length d → k ≤ length bs → clear d k bs ≡ true → Cuts d k bs (cut_behind d k bs)
cuts d [] k some le ok = cuts_none d k some le
cuts d (b ∷ bs) (suc k) some le ok =
    let w = when_clear (begins d (b ∷ bs)) (clear d k bs) ok in
    cuts_wait d k b bs (cut_behind d k bs) w.0 (cuts d bs k some (omega arith) w.1)
cuts d (b ∷ bs) zero some le ok =
    cuts_chosen d b bs (cut_behind d (length d - 1) bs) (cut_behind d 0 bs) (begins d (b ∷ bs)) (clear d (length d - 1) bs) (clear d 0 bs) some refl ok
    (λ alike still. cuts d bs (length d - 1) some (omega (arith, occurs_inside d (b ∷ bs) 0 some (begins_here d (b ∷ bs) alike))) still)
    (λ still. cuts d bs 0 some (omega arith) still)

pub cut_joins : (d t : List ℕ) → 0 < length d → clear d 0 t ≡ true → IsJoin d (cut d t) t
cut_joins d t some ok =
    let c = cuts d t 0 some (omega arith) ok in
    record {
      some = c.some;
      whole = c.whole;
      joints = λ i. (λ h. let f = c.found i h in subst (IsJoint d (cut d t)) (omega arith) f.1, λ j. c.stands i i j (omega arith));
    }
