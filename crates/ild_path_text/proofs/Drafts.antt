-- Texts that are made part by part.
use Rattle.std.proofs.Common.{◌≡◌, ℕ, zero, suc, ◌+◌, ◌<◌, ◌≤◌, List, [], ◌∷◌, ◌++◌, Option, Some, None, length, take, drop, refl, ap, sym, ◌∙◌, arith, append_assoc, append-nil, add-one, length-drop, length-append, length-take-le, take_all}
use Rattle.std.specs.Prelude.{slice_set, remove}
use Rattle.std.proofs.lemmas.List.{set_split, set_past, drop_all}
use Rattle.ild_schema.specs.Joins.{joined}
use Rattle.ild_text.specs.Cut.{cut}
use Rattle.ild_text.proofs.Cuts.{cut_some}
use Rattle.ild_path_text.specs.Left.{parts_left, between, tail}
use Rattle.ild_path_text.proofs.Cutting.{cut_whole}

-- parts behind parts
joined_behind : (d : List ℕ) (xs ys : List (List ℕ)) → 1 ≤ length ys → joined d (xs ++ ys) ≡ joined d xs ++ (between d (length xs) ++ joined d ys)
joined_behind d [] ys one = refl
joined_behind d (x ∷ []) [] one = absurd (omega (arith, one))
joined_behind d (x ∷ []) (y ∷ ys) one = refl
joined_behind d (x ∷ z ∷ xs) ys one = ap (λ s. x ++ (d ++ s)) (joined_behind d (z ∷ xs) ys one) ∙ regroup x d (joined d (z ∷ xs)) (d ++ joined d ys)
  where
    regroup : (a b c e : List ℕ) → a ++ (b ++ (c ++ e)) ≡ (a ++ (b ++ c)) ++ e
    regroup a b c e = simp append_assoc

pub joined_push : (d : List ℕ) (xs : List (List ℕ)) (y : List ℕ) → joined d (xs ++ y ∷ []) ≡ joined d xs ++ (between d (length xs) ++ y)
joined_push d xs y = joined_behind d xs (y ∷ []) (omega arith)

joined_tail : (d : List ℕ) (xs : List (List ℕ)) (left : Option (List ℕ)) → 0 < length d → joined d (xs ++ parts_left d left) ≡ joined d xs ++ tail d (length xs) left
joined_tail d xs None some = ap (joined d) (append-nil xs) ∙ sym (append-nil (joined d xs))
joined_tail d xs (Some t) some = joined_behind d xs (cut d t) (cut_some d t 0) ∙ ap (λ s. joined d xs ++ (between d (length xs) ++ s)) (cut_whole d t some)

tail_later : (d : List ℕ) (n : ℕ) (left : Option (List ℕ)) → 0 < n → tail d 1 left ≡ tail d n left
tail_later d zero left some = absurd (omega (arith, some))
tail_later d (suc n) None some = refl
tail_later d (suc n) (Some t) some = refl

-- ---- a front of parts

next : {A : Type 0} (ps : List A) (i : ℕ) (x : A) (more : List A) → drop i ps ≡ x ∷ more → (take (suc i) ps ≡ take i ps ++ x ∷ []) × (drop (suc i) ps ≡ more) × (i < length ps)
next [] zero x more e = absurd cc
next [] (suc i) x more e = absurd cc
next (p ∷ ps) zero x more e =
    let same : p ≡ x = cc in
    let rest : ps ≡ more = cc in
    (ap (λ y. y ∷ []) same, rest, omega arith)
next (p ∷ ps) (suc i) x more e = let h = next ps i x more e in (ap (λ ys. p ∷ ys) h.0, h.1, omega (arith, h.2))

-- the parts up to a place are joined, and those from there on are left
pub record Fronted (d : List ℕ) (ps : List (List ℕ)) (i : ℕ) (out : List ℕ) (rest : List (List ℕ)) : Type 0 where
  pub made : out ≡ joined d (take i ps)
  pub left : rest ≡ drop i ps
  pub within : i ≤ length ps

pub fronted_starts : (d : List ℕ) (ps : List (List ℕ)) (out : List ℕ) → out ≡ [] → Fronted d ps 0 out ps
fronted_starts d ps out empty = record { made = empty; left = refl; within = omega arith }

pub fronted_goes : (d : List ℕ) (ps : List (List ℕ)) (i : ℕ) (out new part : List ℕ) (rest more : List (List ℕ)) → rest ≡ part ∷ more → new ≡ out ++ (between d i ++ part) → Fronted d ps i out rest → Fronted d ps (i + 1) new more
fronted_goes d ps i out new part rest more is added f =
    let h = next ps i part more (sym f.left ∙ is) in
    rw add-one record {
      made = added ∙ ap (λ s. s ++ (between d i ++ part)) f.made ∙ ap (λ n. joined d (take i ps) ++ (between d n ++ part)) (sym (length-take-le i ps f.within)) ∙ sym (joined_push d (take i ps) part) ∙ ap (joined d) (sym h.0);
      left = sym h.1;
      within = omega (arith, h.2);
    }

-- where none is left, all are joined
none_left : {A : Type 0} (ps : List A) (i : ℕ) → [] ≡ drop i ps → length ps ≤ i
none_left ps i e = omega (arith, ap length e, length-drop i ps)

pub fronted_stops : (d : List ℕ) (ps : List (List ℕ)) (i n : ℕ) (out : List ℕ) → i ≤ n → Fronted d ps i out [] → (out ≡ joined d (take n ps)) × ([] ≡ drop n ps)
fronted_stops d ps i n out le f =
    let all = none_left ps i f.left in
    (f.made ∙ ap (joined d) (take_all i ps all ∙ sym (take_all n ps (omega (arith, all, le)))), sym (drop_all n ps (omega (arith, all, le))))

-- ---- a part that is new, and those behind it

placed : (d : List ℕ) (xs : List (List ℕ)) (front new made out : List ℕ) (behind : Option (List ℕ)) → 0 < length d → front ≡ joined d xs → made ≡ front ++ (between d (length xs) ++ new) → out ≡ made ++ tail d 1 behind
    → out ≡ joined d (xs ++ new ∷ parts_left d behind)
placed d xs front new made out behind some is more last =
    let one : made ≡ joined d (xs ++ new ∷ []) = more ∙ ap (λ s. s ++ (between d (length xs) ++ new)) is ∙ sym (joined_push d xs new) in
    last ∙ ap (λ s. s ++ tail d 1 behind) one
    ∙ ap (λ s. joined d (xs ++ new ∷ []) ++ s) (tail_later d (length (xs ++ new ∷ [])) behind (omega (arith, length-append xs (new ∷ []))))
    ∙ sym (joined_tail d (xs ++ new ∷ []) behind some) ∙ ap (joined d) (append_assoc xs (new ∷ []) (parts_left d behind))

pub part_set : (d : List ℕ) (ps : List (List ℕ)) (place : ℕ) (front old new made out : List ℕ) (rest : List (List ℕ)) (behind : Option (List ℕ)) → 0 < length d → front ≡ joined d (take place ps) → rest ≡ drop place ps
    → rest ≡ old ∷ parts_left d behind → made ≡ front ++ (between d place ++ new) → out ≡ made ++ tail d 1 behind → out ≡ joined d (slice_set ps place new)
part_set d ps place front old new made out rest behind some is left first more last =
    let h = next ps place old (parts_left d behind) (sym left ∙ first) in
    placed d (take place ps) front new made out behind some is (more ∙ ap (λ n. front ++ (between d n ++ new)) (sym (length-take-le place ps (omega (arith, h.2))))) last
    ∙ ap (λ ys. joined d (take place ps ++ new ∷ ys)) (sym h.1) ∙ ap (joined d) (sym (set_split ps place new h.2))

pub part_stays : (d : List ℕ) (ps : List (List ℕ)) (place : ℕ) (front new : List ℕ) → front ≡ joined d (take place ps) → [] ≡ drop place ps → front ≡ joined d (slice_set ps place new)
part_stays d ps place front new is left =
    let all = none_left ps place left in
    is ∙ ap (joined d) (take_all place ps all ∙ sym (set_past ps place new all))

pub part_comes : (d : List ℕ) (ps : List (List ℕ)) (place n : ℕ) (front new made out : List ℕ) (rest : Option (List ℕ)) → 0 < length d → front ≡ joined d (take place ps) → parts_left d rest ≡ drop place ps
    → between d n ≡ between d (length (take place ps)) → made ≡ front ++ (between d n ++ new) → out ≡ made ++ tail d 1 rest → out ≡ joined d (take place ps ++ new ∷ drop place ps)
part_comes d ps place n front new made out rest some is left same more last =
    placed d (take place ps) front new made out rest some is (more ∙ ap (λ s. front ++ (s ++ new)) same) last ∙ ap (λ ys. joined d (take place ps ++ new ∷ ys)) left

pub part_goes : (d : List ℕ) (ps : List (List ℕ)) (place : ℕ) (front old out : List ℕ) (rest : List (List ℕ)) (behind : Option (List ℕ)) → 0 < length d → front ≡ joined d (take place ps) → rest ≡ drop place ps
    → rest ≡ old ∷ parts_left d behind → out ≡ front ++ tail d place behind → out ≡ joined d (remove ps place)
part_goes d ps place front old out rest behind some is left first last =
    let h = next ps place old (parts_left d behind) (sym left ∙ first) in
    last ∙ ap (λ s. s ++ tail d place behind) is ∙ ap (λ n. joined d (take place ps) ++ tail d n behind) (sym (length-take-le place ps (omega (arith, h.2))))
    ∙ sym (joined_tail d (take place ps) behind some) ∙ ap (λ ys. joined d (take place ps ++ ys)) (sym h.1)

pub none_goes : (d : List ℕ) (ps : List (List ℕ)) (place : ℕ) (front : List ℕ) → front ≡ joined d (take place ps) → [] ≡ drop place ps → front ≡ joined d (remove ps place)
none_goes d ps place front is left =
    let all = none_left ps place left in
    is ∙ ap (joined d) (sym (append-nil (take place ps)) ∙ ap (λ ys. take place ps ++ ys) (sym (drop_all (suc place) ps (omega (arith, all)))))

-- ---- how many parts stand before a place

pub before_some : (d : List ℕ) (place : ℕ) (ps : List (List ℕ)) → 1 ≤ length ps → between d place ≡ between d (length (take place ps))
before_some d zero ps one = refl
before_some d (suc n) [] one = absurd (omega (arith, one))
before_some d (suc n) (p ∷ ps) one = refl

pub before_none : (d : List ℕ) (place : ℕ) (ps : List (List ℕ)) → ps ≡ [] → between d 0 ≡ between d (length (take place ps))
before_none d zero ps e = refl
before_none d (suc n) [] e = refl
before_none d (suc n) (p ∷ ps) e = absurd cc
