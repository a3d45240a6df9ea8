-- Parts of which there are as many as a text has are the parts that it has.
use Rattle.std.proofs.Common.{◌≡◌, ◌⊎◌, inl, inr, ℕ, ◌+◌, ◌<◌, ◌≤◌, List, [], ◌∷◌, ◌++◌, length, take, drop, map, refl, ap, sym, ◌∙◌, subst, arith}
use Rattle.std.proofs.lemmas.List.{append_cancel_left, drop_at, drop-drop, length-map, nil_from_length}
use Rattle.ild_data.proofs.Heads.{same_string}
use Rattle.ild_schema.specs.Joins.{Occurs, joined, IsJoint, JoinsByCount, pair_text, PairsByKeys}
use Rattle.ild_text.proofs.Apart.{joint_behind, further_on, occurs_behind}

-- at each joint of parts the delimiter occurs
pub behind_both : (d p r : List ℕ) (j : ℕ) → drop (length p + length d + j) (p ++ (d ++ r)) ≡ drop j r
behind_both d p r j =
    sym (drop-drop j (length p + length d) (p ++ (d ++ r)))
    ∙ ap (drop j) (sym (drop-drop (length d) (length p) (p ++ (d ++ r))) ∙ ap (drop (length d)) (drop_at p (d ++ r) (length p) refl) ∙ drop_at d r (length d) refl)

joint_occurs : (d : List ℕ) (ps : List (List ℕ)) (i : ℕ) → IsJoint d ps i → Occurs d (joined d ps) i
joint_occurs d [] i j = absurd j
joint_occurs d (p ∷ []) i j = absurd j
joint_occurs d (p ∷ q ∷ ps) i (inl e) = subst (Occurs d (p ++ (d ++ joined d (q ∷ ps)))) (sym e) (occurs_behind d p (joined d (q ∷ ps)))
joint_occurs d (p ∷ q ∷ ps) i (inr j) =
    subst (Occurs d (p ++ (d ++ joined d (q ∷ ps)))) (sym j.2) (ap (take (length d)) (behind_both d p (joined d (q ∷ ps)) j.0) ∙ joint_occurs d (q ∷ ps) j.0 j.1)

-- each joint of the one parts is, so far shifted, one of the others
abbrev Among : List ℕ → ℕ → List (List ℕ) → ℕ → List (List ℕ) → Type 0
Among d a ps b qs = (i : ℕ) → IsJoint d ps i → (j : ℕ) × IsJoint d qs j × (a + i ≡ b + j)

-- the joints behind the first one are those of the parts behind it
later_among : (d p q r s : List ℕ) (ps qs : List (List ℕ)) (a b : ℕ) → 0 < length d → a + length p ≡ b + length q → Among d a (p ∷ r ∷ ps) b (q ∷ s ∷ qs) → Among d 0 (r ∷ ps) 0 (s ∷ qs)
later_among d p q r s ps qs a b some same all i at =
    let j = all (length p + length d + i) (inr (i, at, refl)) in
    (i, further_on d q s qs (length q) i some refl (subst (IsJoint d (q ∷ s ∷ qs)) (shift (length p) (length q) (length d) a b i j.0 same j.2) j.1), refl)
  where
    shift : (m n l a b i j : ℕ) → a + m ≡ b + n → a + (m + l + i) ≡ b + j → j ≡ n + l + i
    shift m n l a b i j e f = omega arith

-- all joints are behind the first of the others
all_later : (d p q s : List ℕ) (ps qs : List (List ℕ)) (a b : ℕ) → b + length q < a + length p → Among d a (p ∷ ps) b (q ∷ s ∷ qs) → Among d a (p ∷ ps) (b + length q + length d) (s ∷ qs)
all_later d p q s ps qs a b less all i at = by (all i at)
  where
    by : (j : ℕ) × IsJoint d (q ∷ s ∷ qs) j × (a + i ≡ b + j) → (j : ℕ) × IsJoint d (s ∷ qs) j × (a + i ≡ b + length q + length d + j)
    by j = choose j.0 j.1 j.2
      where
        choose : (j : ℕ) → (j ≡ length q) ⊎ ((k : ℕ) × IsJoint d (s ∷ qs) k × (j ≡ length q + length d + k)) → a + i ≡ b + j → (j : ℕ) × IsJoint d (s ∷ qs) j × (a + i ≡ b + length q + length d + j)
        choose j (inl e) f = absurd (omega (arith, joint_behind d p ps i at))
        choose j (inr k) f = (k.0, k.1, omega arith)

order : (m n : ℕ) → (m ≡ n) ⊎ ((m < n) ⊎ (n < m))
order m n = grind arith

-- parts whose joints are among those of others are no more
no_more : (d : List ℕ) (ps qs : List (List ℕ)) (a b : ℕ) → 0 < length d → 1 ≤ length qs → Among d a ps b qs → length ps ≤ length qs
no_more d ps [] a b some one all = absurd (omega arith)
no_more d [] (q ∷ qs) a b some one all = omega arith
no_more d (p ∷ []) (q ∷ qs) a b some one all = omega arith
no_more d (p ∷ r ∷ ps) (q ∷ []) a b some one all = absurd (all (length p) (inl refl)).1
no_more d (p ∷ r ∷ ps) (q ∷ s ∷ qs) a b some one all =
    by_order (order (a + length p) (b + length q))
    (λ e. no_more d (r ∷ ps) (s ∷ qs) 0 0 some (omega arith) (later_among d p q r s ps qs a b some e all))
    (λ less. no_more d (p ∷ r ∷ ps) (s ∷ qs) a (b + length q + length d) some (omega arith) (all_later d p q s (r ∷ ps) qs a b less all))
  where
    by_order : (a + length p ≡ b + length q) ⊎ ((a + length p < b + length q) ⊎ (b + length q < a + length p)) → (a + length p ≡ b + length q → length (r ∷ ps) ≤ length (s ∷ qs)) → (b + length q < a + length p → length (p ∷ r ∷ ps) ≤ length (s ∷ qs)) → length (p ∷ r ∷ ps) ≤ length (q ∷ s ∷ qs)
    by_order (inl e) f g = omega (arith, f e)
    by_order (inr (inl less)) f g =
        let first = all (length p) (inl refl) in
        absurd (omega (arith, joint_behind d q (s ∷ qs) first.0 first.1))
    by_order (inr (inr less)) f g = omega (arith, g less)

-- as many parts whose joints are among those of others
as_many : (d : List ℕ) (ps qs : List (List ℕ)) → 0 < length d → 1 ≤ length qs → length ps ≡ length qs → joined d ps ≡ joined d qs → Among d 0 ps 0 qs → ps ≡ qs
as_many d ps [] some one many text all = absurd (omega arith)
as_many d [] (q ∷ qs) some one many text all = absurd (omega arith)
as_many d (p ∷ []) (q ∷ []) some one many text all = ap (λ x. x ∷ []) text
as_many d (p ∷ []) (q ∷ s ∷ qs) some one many text all = absurd (omega arith)
as_many d (p ∷ r ∷ ps) (q ∷ []) some one many text all = absurd (omega arith)
as_many d (p ∷ r ∷ ps) (q ∷ s ∷ qs) some one many text all =
    let same : length p ≡ length q = by_order (order (length p) (length q)) in
    let parts = same_string p q (d ++ joined d (r ∷ ps)) (d ++ joined d (s ∷ qs)) same text in
    let rest = append_cancel_left d (joined d (r ∷ ps)) (joined d (s ∷ qs)) parts.1 in
    let more = as_many d (r ∷ ps) (s ∷ qs) some (omega arith) (omega arith) rest (later_among d p q r s ps qs 0 0 some (omega arith) all) in
    λ i. parts.0 i ∷ more i
  where
    by_order : (length p ≡ length q) ⊎ ((length p < length q) ⊎ (length q < length p)) → length p ≡ length q
    by_order (inl e) = e
    by_order (inr (inl less)) =
        let first = all (length p) (inl refl) in
        absurd (omega (arith, joint_behind d q (s ∷ qs) first.0 first.1))
    by_order (inr (inr less)) =
        absurd (omega (arith, no_more d (p ∷ r ∷ ps) (s ∷ qs) 0 (0 + length q + length d) some (omega arith) (all_later d p q s (r ∷ ps) qs 0 0 (omega arith) all)))

pub joins_by_count : JoinsByCount
joins_by_count d ps qs some join many =
    as_many d ps qs some join.some many (sym join.whole) (λ i at. (i, (join.joints i).0 (joint_occurs d ps i at), refl))

-- texts of pairs with the same keys
same_values : (d : List ℕ) (ps qs : List (List ℕ × List ℕ)) → map (pair_text d) ps ≡ map (pair_text d) qs → map (λ (p : List ℕ × List ℕ). p.0) ps ≡ map (λ (p : List ℕ × List ℕ). p.0) qs → ps ≡ qs
same_values d [] [] texts keys = refl
same_values d [] (q ∷ qs) texts keys = absurd cc
same_values d (p ∷ ps) [] texts keys = absurd cc
same_values d (p ∷ ps) (q ∷ qs) texts keys =
    let text : pair_text d p ≡ pair_text d q = cc in
    let key : p.0 ≡ q.0 = cc in
    let parts = same_string p.0 q.0 (d ++ p.1) (d ++ q.1) (ap length key) text in
    let value = append_cancel_left d p.1 q.1 parts.1 in
    let texts_left : map (pair_text d) ps ≡ map (pair_text d) qs = cc in
    let keys_left : map (λ (p : List ℕ × List ℕ). p.0) ps ≡ map (λ (p : List ℕ × List ℕ). p.0) qs = cc in
    let more = same_values d ps qs texts_left keys_left in
    λ i. (key i, value i) ∷ more i

as_long : (ps qs : List (List ℕ × List ℕ)) → map (λ (p : List ℕ × List ℕ). p.0) ps ≡ map (λ (p : List ℕ × List ℕ). p.0) qs → length ps ≡ length qs
as_long ps qs keys = sym (length-map ps (λ (p : List ℕ × List ℕ). p.0)) ∙ ap length keys ∙ length-map qs (λ (p : List ℕ × List ℕ). p.0)

pub pairs_by_keys : PairsByKeys
pairs_by_keys d e ps [] some is keys = same_values d ps [] (by (as_long ps [] keys)) keys
  where
    by : length ps ≡ 0 → map (pair_text d) ps ≡ []
    by none = ap (map (pair_text d)) (nil_from_length ps none)
pairs_by_keys d e ps (q ∷ qs) some is keys =
    same_values d ps (q ∷ qs)
    (joins_by_count e (map (pair_text d) ps) (map (pair_text d) (q ∷ qs)) some is.0 (length-map ps (pair_text d) ∙ as_long ps (q ∷ qs) keys ∙ sym (length-map (q ∷ qs) (pair_text d))))
    keys
